-- What a run promises, from what its parts say.
use Rattle.std.proofs.Common.{◌≡◌, ◌⊎◌, inl, inr, ⊎_elim, ℕ, zero, List, Bool, true, false, Some, Result, Ok, Err, refl, sym, ◌∙◌, ap, subst, arith}
use Rattle.std.proofs.lemmas.Bool.{false≢true}
use Rattle.std.proofs.lemmas.List.{append-nil}
use Rattle.std.proofs.lemmas.Option.{same_Some}
use Rattle.outside.specs.Files.{Files, SameLasting, lasting-same}
use Rattle.outside.specs.TreeView.{TreeView, MayLeave, LeftSince, passes_both, Rises}
use Rattle.outside.specs.SinkView.{SinkView, sink_passes_none}
use Rattle.outside.specs.ScratchView.{ScratchView, scratch_passes_none}
use Rattle.outside.proofs.Views.{since_split}
use Rattle.patch_options.specs.declared.options.WordFault.{WordFault}
use Rattle.patch_options.specs.declared.options.WordFault.TheVariants as words
use Rattle.cli_tool_words.specs.declared.jobs.StackOp.{StackOp}
use Rattle.series_stack.specs.Laws.{Recovers, files_after}
use Rattle.stack_patch.specs.Reading.{read_patch}
use Rattle.stack_patch.proofs.Lawful.{keeps}
use Rattle.cli_run_answers.specs.declared.why.Why.{Why}
use Rattle.cli_run_answers.specs.declared.why.Why.TheVariants.{Done, Rejected, Usage, Malformed, Garbage, EdReverse, OutMany, Reserved, NoPatchFile, TooLong, LongLine, FileTooLong, BadPattern, NoContext, Unfit, BadState, StackEnd, StackName, ReadFault, WriteFault, TreeFault, ScratchFault, Disagree, Memory}
use Rattle.cli_run_answers.specs.Answers.{is_own, of_words, is_through, is_early}
use Rattle.cli_run_answers.specs.Moments.{Opens, FirstPart, IsAsAtEntry}
use Rattle.cli_run_answers.specs.Worlds.{World, world, NoneFailed}
use Rattle.cli_run_answers.specs.Outcomes.{Outcome, refused}
use Rattle.cli_run_answers.proofs.Names.{old_or_new}
use Rattle.cli_run_answers.proofs.Opens.{opens_none, opens_both, tidy_same, tidy_behind}
use Rattle.cli_stack.specs.Jobs.{IsPushing, operation}
use Rattle.cli_stack.specs.Command.{command, on_op}
use Rattle.cli_stack.specs.Worlds.{Tells}
use Rattle.cli_stack.specs.Causes.{HasCause}
use Rattle.cli_stack.specs.Carries.{IsAnswer, Answers, LeavesRecoverable, Carries}
use Rattle.cli_stack.specs.Comes.{Comes, StopsEarly}
use Rattle.cli_stack.proofs.Coming.{cause_then}

-- ---- of which sort an answer is
end-own : (why : Why) → is_through why ≡ true → is_own why ≡ true
end-own Done is = refl
end-own Rejected is = refl
end-own (LongLine line size) is = refl
end-own (FileTooLong size) is = refl
end-own Usage is = refl
end-own NoPatchFile is = refl
end-own TooLong is = refl
end-own (Malformed line kind) is = refl
end-own Garbage is = refl
end-own (EdReverse line) is = refl
end-own (OutMany count) is = refl
end-own (Reserved line) is = refl
end-own BadPattern is = refl
end-own (NoContext line) is = refl
end-own (Unfit line) is = refl
end-own (BadState file) is = refl
end-own (StackEnd n) is = refl
end-own (StackName line) is = refl
end-own ReadFault is = is
end-own WriteFault is = is
end-own TreeFault is = is
end-own ScratchFault is = is
end-own (Disagree want got) is = is
end-own Memory is = is

early-end : (why : Why) → (is_own why ≡ true → is_early why ≡ true) → is_through why ≡ true → ⊥
early-end Done early is = absurd (false≢true (early refl))
early-end Rejected early is = absurd (false≢true (early refl))
early-end (LongLine line size) early is = absurd (false≢true (early refl))
early-end (FileTooLong size) early is = absurd (false≢true (early refl))
early-end Usage early is = absurd (false≢true is)
early-end NoPatchFile early is = absurd (false≢true is)
early-end TooLong early is = absurd (false≢true is)
early-end (Malformed line kind) early is = absurd (false≢true is)
early-end Garbage early is = absurd (false≢true is)
early-end (EdReverse line) early is = absurd (false≢true is)
early-end (OutMany count) early is = absurd (false≢true is)
early-end (Reserved line) early is = absurd (false≢true is)
early-end BadPattern early is = absurd (false≢true is)
early-end (NoContext line) early is = absurd (false≢true is)
early-end (Unfit line) early is = absurd (false≢true is)
early-end (BadState file) early is = absurd (false≢true is)
early-end (StackEnd n) early is = absurd (false≢true is)
early-end (StackName line) early is = absurd (false≢true is)
early-end ReadFault early is = absurd (false≢true is)
early-end WriteFault early is = absurd (false≢true is)
early-end TreeFault early is = absurd (false≢true is)
early-end ScratchFault early is = absurd (false≢true is)
early-end (Disagree want got) early is = absurd (false≢true is)
early-end Memory early is = absurd (false≢true is)

-- an answer that isn't the command's own has a device's fault, or is want of memory
is-complete : {job : Result StackOp WordFault} {u w : World} (why : Why) → HasCause why job u w → (f : Files) → Tells job u f → NoneFailed u w
    → Answers (is_own why) why f u w (command job f) → IsAnswer why f u w (command job f) ⊎ (why ≡ Memory)
is-complete Done cause f told none answer = inl answer
is-complete Rejected cause f told none answer = inl answer
is-complete Usage cause f told none answer = inl answer
is-complete (Malformed line kind) cause f told none answer = inl answer
is-complete Garbage cause f told none answer = inl answer
is-complete (EdReverse line) cause f told none answer = inl answer
is-complete (OutMany count) cause f told none answer = inl answer
is-complete (Reserved line) cause f told none answer = inl answer
is-complete NoPatchFile cause f told none answer = inl answer
is-complete TooLong cause f told none answer = inl answer
is-complete (LongLine line size) cause f told none answer = inl answer
is-complete (FileTooLong size) cause f told none answer = inl answer
is-complete BadPattern cause f told none answer = inl answer
is-complete (NoContext line) cause f told none answer = inl answer
is-complete (Unfit line) cause f told none answer = inl answer
is-complete (BadState file) cause f told none answer = inl answer
is-complete (StackEnd n) cause f told none answer = inl answer
is-complete (StackName line) cause f told none answer = inl answer
is-complete ReadFault cause f told none answer = absurd cause
is-complete WriteFault cause f told none answer = absurd (none.out cause)
is-complete TreeFault cause f told none answer = absurd (none.tree cause)
is-complete ScratchFault cause f told none answer = absurd (none.scratch cause.1)
is-complete (Disagree want got) cause f told none answer = absurd (cause.1 f told)
is-complete Memory cause f told none answer = inr refl

-- ---- a command that was begun
pub carries_late : (op : StackOp) (u w : World) (why : Why) → ((IsPushing op → ⊥) → w.scratch ≡ u.scratch) → Comes op u w why (on_op op) → Carries (Ok op) u w why
carries_late op u w why unkept d = record {
  tree = d.tree;
  scratch = d.scratch;
  sink = d.sink;
  cause = d.cause;
  untouched = λ early. absurd (false≢true (sym d.late ∙ early));
  unkept = unkept;
  quiet = λ is. d.quiet (end-own why is);
  answers = d.answers;
  images = λ f told c since. inr (d.images f told f told.files c since);
  names = λ f told c since. inr (old_or_new (on_op op f).effects f c (d.images f told f told.files c since));
  recovers = λ f told c since. let part = d.images f told f told.files c since in inr (keeps.stopped (operation op) f c part.0 part.2);
  tidy = d.tidy;
  complete = λ f told none. is-complete why d.cause f told none (d.answers f told);
}

-- ---- an end before anything is said or changed
module _ (u w : World) (same : IsAsAtEntry u.tree w.tree u.scratch w.scratch u.out w.out) where
  nothing-yet : (f : Files) (o : Outcome) → u.tree.told ≡ Some f → FirstPart u.tree w.tree u.out w.out o.effects o.text
  nothing-yet f o told = record {
    tells = λ g h was now. (zero, omega arith, subst (λ (x : Files). SameLasting g x) (same_Some _ _ (sym was ∙ sym same.told ∙ now)) (lasting-same g));
    said = λ b now. inr (zero, ap (λ (a : SinkView). a.told) same.out ∙ now ∙ ap (λ (l : List ℕ). Some l) (sym (append-nil b)));
  }

  refused-so : (why : Why) (f : Files) → u.tree.told ≡ Some f → IsAnswer why f u w (refused why)
  refused-so why f told = record {
    is = refl;
    text = λ b now. ap (λ (a : SinkView). a.told) same.out ∙ now ∙ ap (λ (l : List ℕ). Some l) (sym (append-nil b));
    files = λ g now. subst (λ (x : Files). SameLasting f x) (same_Some _ _ (sym told ∙ sym same.told ∙ now)) (lasting-same f);
  }

  answers-early : (b : Bool) (why : Why) (f : Files) (o : Outcome) → u.tree.told ≡ Some f → (b ≡ true → o ≡ refused why) → Answers b why f u w o
  answers-early true why f o told ends = subst (λ (x : Outcome). IsAnswer why f u w x) (sym (ends refl)) (refused-so why f told)
  answers-early false why f o told ends = nothing-yet f o told

recovers-early : (job : Result StackOp WordFault) (u w : World) (f : Files) → ((c : Files) → LeftSince w.tree u.tree.moment c → MayLeave u.tree c) → LeavesRecoverable job u w f
recovers-early (Ok op) u w f images = λ c since. inl (images c since)
recovers-early (Err fault) u w f images = tt

pub carries_entry : (job : Result StackOp WordFault) (t v : TreeView) (a : ScratchView) (c : SinkView) (why : Why) → Opens t v → HasCause why job (world t a c) (world v a c)
    → (is_through why ≡ true → ⊥) → (is_own why ≡ true → (f : Files) → t.told ≡ Some f → command job f ≡ refused why) → Carries job (world t a c) (world v a c) why
carries_entry job t v a c why opens cause going ends =
    let u = world t a c in
    let w = world v a c in
    let same : IsAsAtEntry t v a a c c = record { told = opens.told; scratch = refl; out = refl; images = opens.images } in
    record {
      tree = opens.passes;
      scratch = scratch_passes_none a;
      sink = sink_passes_none c;
      cause = cause;
      untouched = λ early. same;
      unkept = λ never. refl;
      quiet = λ is. absurd (going is);
      answers = λ f told. answers-early u w same (is_own why) why f (command job f) told.files (λ own. ends own f told.files);
      images = λ f told d since. inl (opens.images d since);
      names = λ f told d since. inl (opens.images d since);
      recovers = λ f told. recovers-early job u w f opens.images;
      tidy = λ own. tidy_same t v opens.told;
      complete = λ f told none. is-complete why cause f told none (answers-early u w same (is_own why) why f (command job f) told.files (λ own. ends own f told.files));
    }

pub carries_early : (op : StackOp) (t v : TreeView) (a : ScratchView) (c : SinkView) (why : Why) → Opens t v → StopsEarly why op (world t a c) (world v a c) → Carries (Ok op) (world t a c) (world v a c) why
carries_early op t v a c why opens early = carries_entry (Ok op) t v a c why opens early.cause (early-end why early.early) early.stops

-- the words give no operation, or memory ran out
abbrev pub GivesNone : Result StackOp WordFault → Why → Type 0
GivesNone job why = (why ≡ Memory) ⊎ ((fault : WordFault) × (why ≡ of_words fault) × (job ≡ Err fault))

module _ (job : Result StackOp WordFault) (t : TreeView) (a : ScratchView) (c : SinkView) where
  words-cause : (fault : WordFault) → job ≡ Err fault → HasCause (of_words fault) job (world t a c) (world t a c)
  words-cause words.Usage is = is
  words-cause words.Memory is = tt

  words-going : (fault : WordFault) → is_through (of_words fault) ≡ true → ⊥
  words-going words.Usage is = absurd (false≢true is)
  words-going words.Memory is = absurd (false≢true is)

  carries-as : (y why : Why) → y ≡ why → Carries job (world t a c) (world t a c) why → Carries job (world t a c) (world t a c) y
  carries-as y why is d = subst (λ (x : Why). Carries job (world t a c) (world t a c) x) (sym is) d

  pub words_carry : (why : Why) → GivesNone job why → Carries job (world t a c) (world t a c) why
  words_carry why none = ⊎_elim
      (λ (is : why ≡ Memory). carries-as why Memory is (carries_entry job t t a c Memory (opens_none t) tt (λ same. absurd (false≢true same)) (λ own. absurd (false≢true own))))
      (λ (fault, is, gives). carries-as why (of_words fault) is
      (carries_entry job t t a c (of_words fault) (opens_none t) (words-cause fault gives) (words-going fault) (λ own f told. ap (λ (j : Result StackOp WordFault). command j f) gives)))
      none

same-fault : (one other : WordFault) (job : Result StackOp WordFault) → job ≡ Err one → job ≡ Err other → one ≡ other
same-fault one other job is same = cc

pub words_say : (job : Result StackOp WordFault) (why : Why) (fault : WordFault) → job ≡ Err fault → GivesNone job why → (why ≡ of_words fault) ⊎ (why ≡ Memory)
words_say job why fault is none = ⊎_elim
    (λ memory. inr memory)
    (λ (other, says, gives). inl (says ∙ ap of_words (same-fault other fault job gives is)))
    none

pub words_not : (job : Result StackOp WordFault) (op : StackOp) (fault : WordFault) → job ≡ Ok op → job ≡ Err fault → ⊥
words_not job op fault is not = let never : Ok op ≡ Err fault = sym is ∙ not in absurd (cc)

pub carries_words : (job : Result StackOp WordFault) (op : StackOp) → job ≡ Ok op → {u w : World} {why : Why} → Carries (Ok op) u w why → Carries job u w why
carries_words job op is {u = u} {w = w} {why = why} c = subst (λ (x : Result StackOp WordFault). Carries x u w why) (sym is) c

-- ---- a run from a tree that is told the same, as one from before
module _ (job : Result StackOp WordFault) (t v : TreeView) (a : ScratchView) (c : SinkView) (opens : Opens t v) (w : World) (why : Why) (done : Carries job (world v a c) w why) where
  tells-behind : (f : Files) → Tells job (world t a c) f → Tells job (world v a c) f
  tells-behind f told = record { files = opens.told ∙ told.files; scratch = told.scratch }

  answers-behind : (b : Bool) (f : Files) (o : Outcome) → Answers b why f (world v a c) w o → Answers b why f (world t a c) w o
  answers-behind true f o answer = record { is = answer.is; text = answer.text; files = answer.files }
  answers-behind false f o part = record { tells = λ g h was now. part.tells g h (opens.told ∙ was) now; said = part.said }

  images-behind : (P : Files → Type 0) → ((d : Files) → LeftSince w.tree v.moment d → MayLeave v d ⊎ P d) → (d : Files) → LeftSince w.tree t.moment d → MayLeave t d ⊎ P d
  images-behind P leaves d since = ⊎_elim
      (λ before. inl (opens.images d before))
      (λ later. ⊎_elim (λ may. inl (opens.images d (v.moment, opens.passes.later, omega arith, may))) (λ part. inr part) (leaves d later))
      (since_split done.tree t.moment d opens.passes.later since)

  recovers-behind : (j : Result StackOp WordFault) (f : Files) → LeavesRecoverable j (world v a c) w f → LeavesRecoverable j (world t a c) w f
  recovers-behind (Ok op) f leaves = images-behind (λ d. Recovers f (files_after read_patch (operation op) f) d) leaves
  recovers-behind (Err fault) f leaves = tt

  entry-behind : IsAsAtEntry v w.tree a w.scratch c w.out → IsAsAtEntry t w.tree a w.scratch c w.out
  entry-behind same =
      let more : Opens v w.tree = record { passes = done.tree; told = same.told; images = same.images } in
      let both = opens_both opens more in
      record { told = both.told; scratch = same.scratch; out = same.out; images = both.images }

  pub carries_behind : Carries job (world t a c) w why
  carries_behind =
      let cause = cause_then job (world t a c) (world v a c) w why opens.passes (scratch_passes_none a) (sink_passes_none c) done.cause in
      let answers = λ (f : Files) (told : Tells job (world t a c) f). answers-behind (is_own why) f (command job f) (done.answers f (tells-behind f told)) in
      record {
        tree = passes_both opens.passes done.tree;
        scratch = done.scratch;
        sink = done.sink;
        cause = cause;
        untouched = λ early. entry-behind (done.untouched early);
        unkept = done.unkept;
        quiet = done.quiet;
        answers = answers;
        images = λ f told. images-behind _ (done.images f (tells-behind f told));
        names = λ f told. images-behind _ (done.names f (tells-behind f told));
        recovers = λ f told. recovers-behind job f (done.recovers f (tells-behind f told));
        tidy = λ own. tidy_behind t v w.tree opens.told (done.tidy own);
        complete = λ f told none. is-complete why cause f told none (answers f told);
      }

-- a tree that couldn't be settled
pub settle_carry : (job : Result StackOp WordFault) (t v : TreeView) (a : ScratchView) (c : SinkView) (why : Why) → Opens t v → why ≡ TreeFault → Rises t v → Carries job (world t a c) (world v a c) why
settle_carry job t v a c why opens is rises =
    subst (λ (x : Why). Carries job (world t a c) (world v a c) x) (sym is) (carries_entry job t v a c TreeFault opens rises (λ same. absurd (false≢true same)) (λ own. absurd (false≢true own)))

-- words that ask for an operation aren't refused
pub asks_both : {job : Result StackOp WordFault} {op : StackOp} {fault : WordFault} → job ≡ Ok op → job ≡ Err fault → ⊥
asks_both asks refused = cc
