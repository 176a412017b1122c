-- What a run promises, from what its steps say.
use Rattle.std.proofs.Common.{◌≡◌, ◌⊎◌, inl, inr, ⊎_elim, ℕ, List, length, true, false, Bool, Option, Some, None, Result, Ok, Err, refl, sym, ◌∙◌, subst}
use Rattle.std.proofs.lemmas.Bool.{false≢true}
use Rattle.outside.specs.Files.{Files}
use Rattle.outside.specs.TreeView.{TreeView, Passes}
use Rattle.outside.specs.SinkView.{SinkView, SinkPasses, sink_passes_none}
use Rattle.outside.specs.ScratchView.{ScratchView, ScratchPasses, scratch_passes_none}
use Rattle.outside.specs.Quiet.{IsQuiet}
use Rattle.patch_options.specs.declared.options.WordFault.{WordFault}
use Rattle.cli_tool_words.specs.PlainJobs.{PlainGenJob}
use Rattle.apply_task.specs.Making.{IsTidy}
use Rattle.patch_run.specs.Applied.{Receipt}
use Rattle.cli_run_answers.specs.declared.why.Why.{Why}
use Rattle.cli_run_answers.specs.declared.why.Why.TheVariants.{Done, Rejected, Usage, Malformed, Garbage, EdReverse, OutMany, Reserved, NoPatchFile, TooLong, LongLine, FileTooLong, BadPattern, NoContext, Unfit, BadState, StackEnd, StackName, ReadFault, WriteFault, TreeFault, ScratchFault, Disagree, Memory}
use Rattle.cli_run_answers.specs.Answers.{is_ended, is_fault, is_own, is_early, is_through}
use Rattle.cli_run_answers.specs.Moments.{Opens, IsAsAtEntry, LeavesAllowed}
use Rattle.cli_run_answers.specs.Worlds.{World, world, NoneFailed}
use Rattle.cli_run_answers.proofs.Names.{old_or_new}
use Rattle.cli_run_answers.proofs.Opens.{tidy_same}
use Rattle.patch_run.specs.Scratches.{scratch_behind_all}
use Rattle.patch_run.specs.Outcome.{Outcome, refused}
use Rattle.patch_run.specs.Answer.{HasReceipt, IsAnswer}
use Rattle.patch_run.proofs.Entry.{nothing_yet, refused_so}
use Rattle.cli_gen.specs.Jobs.{AsksFor, options_for}
use Rattle.cli_gen.specs.Command.{command}
use Rattle.cli_gen.specs.Worlds.{Tells}
use Rattle.cli_gen.specs.Causes.{HasCause}
use Rattle.cli_gen.specs.Carries.{Answers, BreaksOff, Carries, StarvesEarly}

-- the scratch behind a run that came to its end
abbrev pub KeepsPages : Result PlainGenJob WordFault → World → World → Type 0
KeepsPages job u w = (f : Files) (before : List ℕ) → Tells job u f → u.scratch.told ≡ Some before → AsksFor job (λ j. w.scratch.told ≡ Some (scratch_behind_all (options_for j) (command job f).taken before))

-- what is shown of each run; the rest follows
pub record Does (job : Result PlainGenJob WordFault) (u w : World) (why : Why) (given : Option Receipt) : Type 0 where
  pub tree : Passes u.tree w.tree
  pub scratch : ScratchPasses u.scratch w.scratch
  pub sink : SinkPasses u.out w.out
  pub cause : HasCause why job u w
  pub untouched : is_early why ≡ true → IsAsAtEntry u.tree w.tree u.scratch w.scratch u.out w.out
  pub quiet : is_through why ≡ true → IsQuiet w.tree
  pub receipt : HasReceipt why given
  pub answers : (f : Files) → Tells job u f → Answers (is_own why) why given f u w (command job f)
  pub images : (f : Files) → Tells job u f → LeavesAllowed u.tree w.tree f (command job f).effects
  pub starved : why ≡ Memory → (f : Files) → Tells job u f → StarvesEarly job u w f
  pub cut : is_own why ≡ false → (f : Files) → Tells job u f → BreaksOff why job u w f
  pub tidy : is_fault why ≡ false → IsTidy u.tree w.tree
  pub pages : is_ended why ≡ true → KeepsPages job u w

-- an answer that isn't the command's own has a device's fault, or is want of memory
is_complete : {job : Result PlainGenJob WordFault} {u w : World} (why : Why) (given : Option Receipt) → HasCause why job u w → (f : Files) → Tells job u f → NoneFailed u w
    → Answers (is_own why) why given f u w (command job f) → IsAnswer why given f w.tree u.out w.out (command job f) ⊎ (why ≡ Memory)
is_complete Done given cause f told none answer = inl answer
is_complete Rejected given cause f told none answer = inl answer
is_complete Usage given cause f told none answer = inl answer
is_complete (Malformed line kind) given cause f told none answer = inl answer
is_complete Garbage given cause f told none answer = inl answer
is_complete (EdReverse line) given cause f told none answer = inl answer
is_complete (OutMany count) given cause f told none answer = inl answer
is_complete (Reserved line) given cause f told none answer = inl answer
is_complete NoPatchFile given cause f told none answer = inl answer
is_complete TooLong given cause f told none answer = inl answer
is_complete (LongLine line length) given cause f told none answer = inl answer
is_complete (FileTooLong length) given cause f told none answer = inl answer
is_complete BadPattern given cause f told none answer = inl answer
is_complete (NoContext line) given cause f told none answer = inl answer
is_complete (Unfit line) given cause f told none answer = inl answer
is_complete (BadState file) given cause f told none answer = inl answer
is_complete (StackEnd applied) given cause f told none answer = inl answer
is_complete (StackName line) given cause f told none answer = inl answer
is_complete ReadFault given cause f told none answer = absurd cause
is_complete WriteFault given cause f told none answer = absurd (none.out cause)
is_complete TreeFault given cause f told none answer = absurd (none.tree cause)
is_complete ScratchFault given cause f told none answer = absurd (none.scratch cause)
is_complete (Disagree want got) given cause f told none answer = absurd (cause.1 f told)
is_complete Memory given cause f told none answer = inr refl

pub carries_does : {job : Result PlainGenJob WordFault} {u w : World} (why : Why) (given : Option Receipt) → Does job u w why given → Carries job u w why given
carries_does {job = job} why given d = record {
  tree = d.tree;
  scratch = d.scratch;
  sink = d.sink;
  cause = d.cause;
  untouched = d.untouched;
  quiet = d.quiet;
  receipt = d.receipt;
  answers = d.answers;
  images = d.images;
  names = λ f told c since. ⊎_elim (λ entry. inl entry) (λ part. inr (old_or_new (command job f).effects f c part)) (d.images f told c since);
  starved = d.starved;
  cut = d.cut;
  tidy = d.tidy;
  pages = d.pages;
  complete = λ f told none. is_complete why given d.cause f told none (d.answers f told);
}

-- the same by another name of its answer
pub carries_is : {job : Result PlainGenJob WordFault} {u w : World} (y why : Why) (x given : Option Receipt) → y ≡ why → x ≡ given → Carries job u w why given → Carries job u w y x
carries_is {job = job} {u = u} {w = w} y why x given is was c =
    subst (λ (z : Why). Carries job u w z x) (sym is) (subst (λ (z : Option Receipt). Carries job u w why z) (sym was) c)

-- ---- an end before anything but settling

through_ended : (why : Why) → is_through why ≡ false → is_ended why ≡ true → ⊥
through_ended Done not is = false≢true (sym not)
through_ended Rejected not is = false≢true (sym not)
through_ended Usage not is = false≢true is
through_ended (Malformed line kind) not is = false≢true is
through_ended Garbage not is = false≢true is
through_ended (EdReverse line) not is = false≢true is
through_ended (OutMany count) not is = false≢true is
through_ended (Reserved line) not is = false≢true is
through_ended NoPatchFile not is = false≢true is
through_ended TooLong not is = false≢true is
through_ended (LongLine line length) not is = false≢true is
through_ended (FileTooLong length) not is = false≢true is
through_ended BadPattern not is = false≢true is
through_ended (NoContext line) not is = false≢true is
through_ended (Unfit line) not is = false≢true is
through_ended (BadState file) not is = false≢true is
through_ended (StackEnd applied) not is = false≢true is
through_ended (StackName line) not is = false≢true is
through_ended ReadFault not is = false≢true is
through_ended WriteFault not is = false≢true is
through_ended TreeFault not is = false≢true is
through_ended ScratchFault not is = false≢true is
through_ended (Disagree want got) not is = false≢true is
through_ended Memory not is = false≢true is

not_through : (why : Why) → is_through why ≡ false → is_through why ≡ true → ⊥
not_through why not is = false≢true (sym not ∙ is)

module _ (u w : World) (same : IsAsAtEntry u.tree w.tree u.scratch w.scratch u.out w.out) where
  answers_early : (b : Bool) (why : Why) (f : Files) (o : Outcome) → u.tree.told ≡ Some f → (b ≡ true → o ≡ refused why f) → Answers b why None f u w o
  answers_early true why f o told ends = subst (λ (x : Outcome). IsAnswer why None f w.tree u.out w.out x) (sym (ends refl)) (refused_so same why f told)
  answers_early false why f o told ends = nothing_yet same f o told

starved_entry : (job : Result PlainGenJob WordFault) (u w : World) (f : Files) → IsAsAtEntry u.tree w.tree u.scratch w.scratch u.out w.out → StarvesEarly job u w f
starved_entry (Ok j) u w f same = λ paged. inl same
starved_entry (Err fault) u w f same = tt

pub carries_early : (job : Result PlainGenJob WordFault) (t v : TreeView) (a : ScratchView) (c : SinkView) (why : Why) → Opens t v → HasCause why job (world t a c) (world v a c)
    → HasReceipt why None → is_through why ≡ false → (is_own why ≡ true → (f : Files) → command job f ≡ refused why f) → Carries job (world t a c) (world v a c) why None
carries_early job t v a c why opens cause receipt going ends =
    let u = world t a c in
    let w = world v a c in
    let same : IsAsAtEntry t v a a c c = record { told = opens.told; scratch = refl; out = refl; images = opens.images } in
    carries_does why None (record {
      tree = opens.passes;
      scratch = scratch_passes_none a;
      sink = sink_passes_none c;
      cause = cause;
      untouched = λ early. same;
      quiet = λ is. absurd (not_through why going is);
      receipt = receipt;
      answers = λ f told. answers_early u w same (is_own why) why f (command job f) told.files (λ own. ends own f);
      images = λ f told d since. inl (opens.images d since);
      starved = λ is f told. starved_entry job u w f same;
      cut = λ own f told. inl same;
      tidy = λ none. tidy_same t v opens.told;
      pages = λ is. absurd (through_ended why going is);
    })
