-- What a run promises, from what its steps say.
use Rattle.std.proofs.Common.{◌≡◌, ◌⊎◌, inl, inr, ⊎_elim, ℕ, zero, List, [], length, true, false, Bool, Some, Result, Ok, Err, refl, sym, ◌∙◌, ap, subst, arith}
use Rattle.std.proofs.lemmas.List.{append-nil}
use Rattle.std.proofs.lemmas.Option.{same_Some}
use Rattle.outside.specs.Files.{Files, SameLasting, lasting-same}
use Rattle.outside.specs.TreeView.{TreeView, Passes}
use Rattle.outside.specs.FinderView.{FinderView, FinderPasses, finder_passes_none}
use Rattle.outside.specs.SinkView.{SinkView, SinkPasses, sink_passes_none}
use Rattle.outside.specs.SourceView.{SourceView, SourcePasses, source_passes_none}
use Rattle.outside.specs.Quiet.{IsQuiet}
use Rattle.patch_options.specs.declared.options.WordFault.{WordFault}
use Rattle.cli_tool_words.specs.PlainJobs.{PlainToolJob}
use Rattle.cli_tool_words.specs.PlainJobs.PlainToolJob.{list_job, filter_job, grep_job, split_job, recount_job, gen_job, flip_job, stack_job}
use Rattle.cli_run_answers.specs.Input.{TakesAtMost}
use Rattle.apply_task.specs.Making.{IsTidy}
use Rattle.cli_run_answers.specs.declared.why.Why.{Why}
use Rattle.cli_run_answers.specs.declared.why.Why.TheVariants.{Done, Rejected, Usage, Malformed, Garbage, EdReverse, OutMany, Reserved, NoPatchFile, TooLong, LongLine, FileTooLong, BadPattern, NoContext, Unfit, BadState, StackEnd, StackName, ReadFault, WriteFault, TreeFault, ScratchFault, Disagree, Memory}
use Rattle.cli_run_answers.specs.Answers.{is_fault, is_own, is_early}
use Rattle.cli_run_answers.specs.Moments.{Opens, FirstPart, LeavesAllowed}
use Rattle.cli_run_answers.specs.Outcomes.{Outcome, refused}
use Rattle.cli_run_answers.proofs.Names.{old_or_new}
use Rattle.cli_run_answers.proofs.Opens.{tidy_same}
use Rattle.cli_filter.specs.Jobs.{AsksFor, Puts, ReadsSource}
use Rattle.cli_filter.specs.Command.{command}
use Rattle.cli_filter.specs.Worlds.{World, world, Tells}
use Rattle.cli_filter.specs.Causes.{HasCause}
use Rattle.cli_filter.specs.Carries.{IsAnswer, Answers, IsAsAtEntry, BreaksOff, NoneFailed, ByOutcome, Carries}

-- what is shown of each run; the rest follows
pub record Does (job : Result PlainToolJob WordFault) (u w : World) (why : Why) : Type 0 where
  pub tree : Passes u.tree w.tree
  pub finder : FinderPasses u.finder w.finder
  pub source : SourcePasses u.source w.source
  pub sink : SinkPasses u.out w.out
  pub cause : HasCause why job u w
  pub untouched : is_early why ≡ true → IsAsAtEntry u w
  pub still : (AsksFor job Puts → ⊥) → Opens u.tree w.tree
  pub quiet : why ≡ Done → IsQuiet w.tree
  pub read : why ≡ Done → ReadsSource job → (left : List ℕ) → u.source.told ≡ Some left → w.source.told ≡ Some []
  pub unread : (ReadsSource job → ⊥) → w.source ≡ u.source
  pub taken : TakesAtMost 268435457 u.source w.source
  pub answers : (f : Files) (left : List ℕ) → Tells job u f left → ByOutcome job u f left (Answers (is_own why) why f u w)
  pub images : (f : Files) (left : List ℕ) → Tells job u f left → LeavesAllowed u.tree w.tree f (command u.finder.hit job f left).effects
  pub cut : is_own why ≡ false → (f : Files) (left : List ℕ) → Tells job u f left → BreaksOff job why f u w
  pub tidy : is_fault why ≡ false → IsTidy u.tree w.tree

-- an answer that isn't the command's own has a device's fault, or is want of memory
is_complete : {job : Result PlainToolJob WordFault} {u w : World} (why : Why) → HasCause why job u w → (f : Files) (left : List ℕ) → Tells job u f left → NoneFailed u w
    → ByOutcome job u f left (Answers (is_own why) why f u w) → ByOutcome job u f left (IsAnswer why f u w) ⊎ (why ≡ Memory)
is_complete Done cause f left told none answer = inl answer
is_complete Rejected cause f left told none answer = inl answer
is_complete Usage cause f left told none answer = inl answer
is_complete (Malformed line kind) cause f left told none answer = inl answer
is_complete Garbage cause f left told none answer = inl answer
is_complete (EdReverse line) cause f left told none answer = inl answer
is_complete (OutMany count) cause f left told none answer = inl answer
is_complete (Reserved line) cause f left told none answer = inl answer
is_complete NoPatchFile cause f left told none answer = inl answer
is_complete TooLong cause f left told none answer = inl answer
is_complete (LongLine line length) cause f left told none answer = inl answer
is_complete (FileTooLong length) cause f left told none answer = inl answer
is_complete BadPattern cause f left told none answer = inl answer
is_complete (NoContext line) cause f left told none answer = inl answer
is_complete (Unfit line) cause f left told none answer = inl answer
is_complete (BadState file) cause f left told none answer = inl answer
is_complete (StackEnd applied) cause f left told none answer = inl answer
is_complete (StackName line) cause f left told none answer = inl answer
is_complete ReadFault cause f left told none answer = absurd (none.source cause.1)
is_complete WriteFault cause f left told none answer = absurd (none.out cause)
is_complete TreeFault cause f left told none answer = absurd (none.tree cause)
is_complete ScratchFault cause f left told none answer = absurd cause
is_complete (Disagree want got) cause f left told none answer = let never = sym (told.files cause.0) ∙ cause.2 in absurd (cc)
is_complete Memory cause f left told none answer = inr refl

pub carries_does : {job : Result PlainToolJob WordFault} {u w : World} (why : Why) → Does job u w why → Carries job u w why
carries_does {job = job} {u = u} {w = w} why d = record {
  tree = d.tree;
  finder = d.finder;
  source = d.source;
  sink = d.sink;
  cause = d.cause;
  untouched = d.untouched;
  still = d.still;
  quiet = d.quiet;
  read = d.read;
  unread = d.unread;
  taken = d.taken;
  answers = d.answers;
  images = d.images;
  names = λ f left told c since. ⊎_elim (λ entry. inl entry) (λ part. inr (old_or_new (command u.finder.hit job f left).effects f c part)) (d.images f left told c since);
  cut = d.cut;
  tidy = d.tidy;
  complete = λ f left told none. is_complete why d.cause f left told none (d.answers f left told);
}

-- ---- an end before anything but settling
pub breaks_entry : (job : Result PlainToolJob WordFault) (why : Why) (f : Files) (u w : World) → IsAsAtEntry u w → BreaksOff job why f u w
breaks_entry (Ok (list_job j)) why f u w same = tt
breaks_entry (Ok (filter_job j)) why f u w same = tt
breaks_entry (Ok (grep_job j)) why f u w same = tt
breaks_entry (Ok (split_job j)) why f u w same = inl same
breaks_entry (Ok (recount_job input)) why f u w same = tt
breaks_entry (Ok (gen_job j)) why f u w same = tt
breaks_entry (Ok (flip_job input)) why f u w same = tt
breaks_entry (Ok (stack_job op)) why f u w same = tt
breaks_entry (Err fault) why f u w same = tt

module _ (job : Result PlainToolJob WordFault) (u w : World) (same : IsAsAtEntry u w) where
  pub nothing_yet : (o : Outcome) → FirstPart u.tree w.tree u.out w.out o.effects o.text
  nothing_yet o = record {
    tells = λ f g was now. (zero, omega arith, subst (λ (x : Files). SameLasting f x) (same_Some _ _ (sym was ∙ sym same.told ∙ now)) (lasting-same f));
    said = λ b now. inr (zero, ap (λ (a : SinkView). a.told) same.out ∙ now ∙ ap (λ (l : List ℕ). Some l) (sym (append-nil b)));
  }

  -- a refusal leaves the files, and says nothing
  pub refused_so : (why : Why) (f : Files) → IsAnswer why f u w (refused why)
  refused_so why f = record {
    is = refl;
    text = λ b now. ap (λ (a : SinkView). a.told) same.out ∙ now ∙ ap (λ (l : List ℕ). Some l) (sym (append-nil b));
    files = λ told. same.told ∙ told;
  }

  answers_early : (b : Bool) (why : Why) (f : Files) (left : List ℕ) → (b ≡ true → command u.finder.hit job f left ≡ refused why)
      → ByOutcome job u f left (Answers b why f u w)
  answers_early true why f left ends = (refused why, inl (sym (ends refl)), refused_so why f)
  answers_early false why f left ends = (command u.finder.hit job f left, inl refl, nothing_yet (command u.finder.hit job f left))

pub carries_early : (job : Result PlainToolJob WordFault) (t v : TreeView) (h : FinderView) (a : SourceView) (c : SinkView) (why : Why) → Opens t v → HasCause why job (world t h a c) (world v h a c)
    → (is_own why ≡ true → (f : Files) (left : List ℕ) → command h.hit job f left ≡ refused why) → (why ≡ Done → ⊥) → Carries job (world t h a c) (world v h a c) why
carries_early job t v h a c why opens cause ends going =
    let u = world t h a c in
    let w = world v h a c in
    let same : IsAsAtEntry u w = record { told = opens.told; out = refl; images = opens.images } in
    carries_does why (record {
      tree = opens.passes;
      finder = finder_passes_none h;
      source = source_passes_none a;
      sink = sink_passes_none c;
      cause = cause;
      untouched = λ early. same;
      still = λ none. opens;
      quiet = λ is. absurd (going is);
      read = λ is. absurd (going is);
      unread = λ never. refl;
      taken = λ left told. (zero, omega arith, told);
      answers = λ f left told. answers_early job u w same (is_own why) why f left (λ own. ends own f left);
      images = λ f left told d since. inl (opens.images d since);
      cut = λ own f left told. breaks_entry job why f u w same;
      tidy = λ none. tidy_same t v opens.told;
    })

-- the same by another name of its answer
pub carries_is : {job : Result PlainToolJob WordFault} {u w : World} (y why : Why) → y ≡ why → Carries job u w why → Carries job u w y
carries_is {job = job} {u = u} {w = w} y why is c = subst (λ (x : Why). Carries job u w x) (sym is) c
