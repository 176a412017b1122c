-- Commands that run in turn.
use Rattle.std.proofs.Common.{◌≡◌, ◌≢◌, ℕ, zero, suc, ◌+◌, ◌-◌, ◌<◌, ◌≤◌, Bool, true, false, Result, Ok, inl, inr, ⊎_elim, ◌∙◌, refl, sym, subst, arith}
use Rattle.outside.specs.ScratchView.{ScratchView}
use Rattle.outside.specs.SinkView.{SinkView}
use Rattle.outside.specs.TreeView.{TreeView}
use Rattle.patch_options.specs.declared.options.WordFault.{WordFault}
use Rattle.patch_options.specs.declared.options.WordFault.TheVariants as words
use Rattle.cli_run_answers.specs.declared.why.Why.{Why}
use Rattle.cli_run_answers.specs.declared.why.Why.TheVariants.{Done, Memory}
use Rattle.cli_run_answers.specs.Answers.{of_words}
use Rattle.cli_run_answers.specs.Worlds.{world}
use Rattle.cli_tool_words.specs.declared.jobs.StackOp.{StackOp}
use Rattle.cli_stack.specs.Carries.{Carries}
use Rattle.cli_stack.specs.InTurn.{Devices, GoesOn, OneRuns, Runs, behind_some}
use Rattle.cli_stack.specs.Jobs.{IsPushing}
use Rattle.cli_stack.proofs.Promising.{GivesNone, asks_both, words_carry, words_say}

module _ {D : Type 0} (R : D → D → Why → Type 0) where
  none_left : (d : D) → GoesOn R zero d d Done
  unfolding GoesOn
  none_left d = (refl, refl)

  one_more : (n : ℕ) (d m e : D) (why : Why) → R d m Done → GoesOn R n m e why → GoesOn R (suc n) d e why
  unfolding GoesOn
  one_more n d m e why run later = inr (m, run, later)

  one_last : (n : ℕ) (d e : D) (last : Why) → last ≢ Done → R d e last → GoesOn R (suc n) d e (behind_some last)
  unfolding GoesOn
  one_last n d e last other run = inl (last, other, run, refl)

  pub runs_refused : (all : Bool) (d e : D) (why : Why) → why ≢ Done → R d e why → Runs all R d e why
  runs_refused true d e why other run = inl (other, run)
  runs_refused false d e why other run = run

  pub runs_if : (all is : Bool) (d e : D) (why : Why) → all ≡ is → Runs is R d e why → Runs all R d e why
  runs_if all is d e why same run = subst (λ (b : Bool). Runs b R d e why) (sym same) run

module _ {D : Type 0} (R : D → D → Why → Type 0) (most : ℕ) (first now : D) (n : ℕ) where
  -- what follows from here completes the run
  abbrev pub Completes : Type 0
  Completes = (e : D) (why : Why) → GoesOn R (most - n) now e why → GoesOn R most first e why

  pub ends_here : most ≤ n → Completes → GoesOn R most first now Done
  ends_here end before =
      let none : zero ≡ most - n = omega arith in
      before now Done (subst (λ (k : ℕ). GoesOn R k now now Done) none (none_left R now))

  module _ (within : n < most) where
    left : suc (most - (n + 1)) ≡ most - n
    left = omega arith

    pub goes_on : (m : D) → R now m Done → Completes → (e : D) (why : Why) → GoesOn R (most - (n + 1)) m e why → GoesOn R most first e why
    goes_on m run before e why later = before e why (subst (λ (k : ℕ). GoesOn R k now e why) left (one_more R (most - (n + 1)) now m e why run later))

    pub stops_here : (e : D) (last why : Why) → why ≡ behind_some last → last ≢ Done → R now e last → Completes → GoesOn R most first e why
    stops_here e last why is other run before =
        before e why (subst (λ (x : Why). GoesOn R (most - n) now e x) (sym is) (subst (λ (k : ℕ). GoesOn R k now e (behind_some last)) left (one_last R (most - (n + 1)) now e last other run)))

module _ {T C O : Type 0} (tree : T → TreeView) (pages : C → ScratchView) (out : O → SinkView) (d e : Devices T C O) where
  -- what `run_op` says
  pub one_runs : (op : StackOp) (why y : Why) → why ≡ y → Carries (Ok op) (world (tree d.tree) (pages d.scratch) (out d.out)) (world (tree e.tree) (pages e.scratch) (out e.out)) why
      → ((IsPushing op → ⊥) → e.scratch ≡ d.scratch) → OneRuns tree pages out (Ok op) d e y
  one_runs op why y is carries kept = subst (λ (x : Why). OneRuns tree pages out (Ok op) d e x) is (record {
    carries = carries;
    words_first = λ fault never. absurd (asks_both {job = Ok op} {op = op} refl never);
    still = λ fault never. absurd (asks_both {job = Ok op} {op = op} refl never);
    silent = λ fault never. absurd (asks_both {job = Ok op} {op = op} refl never);
    scratch = kept;
  })

  -- the same by the words
  pub runs_asked : (all is : Bool) (job : Result StackOp WordFault) (op : StackOp) (why : Why) → all ≡ is → job ≡ Ok op → Runs is (OneRuns tree pages out (Ok op)) d e why → Runs all (OneRuns tree pages out job) d e why
  runs_asked all is job op why same asked run =
      subst (λ (b : Bool). Runs b (OneRuns tree pages out job) d e why) (sym same) (subst (λ (j : Result StackOp WordFault). Runs is (OneRuns tree pages out j) d e why) (sym asked) run)

of_words-other : (fault : WordFault) → of_words fault ≡ Done → ⊥
of_words-other words.Usage never = cc
of_words-other words.Memory never = cc

memory-other : Memory ≡ Done → ⊥
memory-other never = cc

none-other : (job : Result StackOp WordFault) (why : Why) → GivesNone job why → why ≢ Done
none-other job why none is = ⊎_elim (λ (memory : why ≡ Memory). memory-other (sym memory ∙ is)) (λ (fault, says, gives). of_words-other fault (sym says ∙ is)) none

-- words that give no command, or memory ran out before one
pub none_runs : {T C O : Type 0} (tree : T → TreeView) (pages : C → ScratchView) (out : O → SinkView) (d : Devices T C O) (all : Bool) (job : Result StackOp WordFault) (why : Why)
    → GivesNone job why → Runs all (OneRuns tree pages out job) d d why
none_runs tree pages out d all job why none = runs_refused (OneRuns tree pages out job) all d d why (none-other job why none) (record {
  carries = words_carry job (tree d.tree) (pages d.scratch) (out d.out) why none;
  words_first = λ fault is. words_say job why fault is none;
  still = λ fault is. refl;
  silent = λ fault is. refl;
  scratch = λ never. refl;
})
