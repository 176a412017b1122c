-- A patch that is applied over a save: its effects, and those behind them.
use Rattle.std.proofs.Common.{◌≡◌, inl, inr, ℕ, List, [], ◌∷◌, ◌++◌, None, sym, subst}
use Rattle.std.specs.List.{AllByRecursion}
use Rattle.outside.specs.Files.{Files, SameLasting, lasting-same}
use Rattle.outside.specs.Quiet.{Effect, after, after_all}
use Rattle.series_stack.specs.Undoing.{entries_at}
use Rattle.series_stack.proofs.EffectLists.{after_all-append}
use Rattle.series_stack.specs.Taking.{too_long, AreSaved}
use Rattle.series_stack.specs.Stack.{Stack}
use Rattle.series_stack.specs.Commands.{Ending, Application}
use Rattle.series_stack.specs.Commands.Ending.{Done, Rejected, CutOff}
use Rattle.series_stack.specs.Outcomes.{saving, closing, raising}
use Rattle.series_stack.specs.Outcomes.Answer.{Ended}
use Rattle.series_stack.specs.Laws.{IsFailedPush}
use Rattle.series_stack.proofs.Every.{Every, every-append, every-map}
use Rattle.series_stack.proofs.Touching.{IsWithin}
use Rattle.series_stack.proofs.Recovering.{IsOnTheWay, way-same, IsClean}
use Rattle.series_stack.proofs.Pushing.{HasSave, run_way, run_save, fail_way, fail_end, saved_way}
use Rattle.series_stack.proofs.Stopping.{IsBetween}

-- the files with the save of so many names
abbrev pub saved_files : Files → ℕ → List (List ℕ) → Files
saved_files g n names = after (saving n (entries_at g names)) g

-- and with what the patch made of them
abbrev pub run_files : Files → ℕ → List (List ℕ) → Application → Files
run_files g n names a = after_all a.effects (saved_files g n names)

-- the save, the patch's effects, and those behind them
abbrev pub push_list : Files → ℕ → List (List ℕ) → Application → Ending → List Effect
push_list g n names a ending = saving n (entries_at g names) ∷ (a.effects ++ closing ending n (entries_at g names) (run_files g n names a))

module _ (g : Files) (s : Stack) (clean : IsClean g s) (names : List (List ℕ)) (saved : AreSaved names) (short : too_long (entries_at g names) ≡ None) (a : Application) (within : AllByRecursion (IsWithin names) a.effects) where
  pub run_end : (ending : Ending) → after_all (push_list g s.applied names a ending) g ≡ after_all (closing ending s.applied (entries_at g names) (run_files g s.applied names a)) (run_files g s.applied names a)
  run_end ending = after_all-append a.effects (closing ending s.applied (entries_at g names) (run_files g s.applied names a)) (saved_files g s.applied names)

  pub ran : HasSave g s names (run_files g s.applied names a)
  ran = run_save g s clean names saved short a.effects within

  way : Every (IsOnTheWay g) (saving s.applied (entries_at g names) ∷ a.effects) g
  way = run_way g s clean names saved short a.effects within

  -- the patch isn't applied
  pub failing_way : (ending : Ending) → IsFailedPush (Ended ending) → Every (IsOnTheWay g) (push_list g s.applied names a ending) g
  failing_way Done fails = absurd fails
  failing_way Rejected fails = every-append (IsOnTheWay g) (saving s.applied (entries_at g names) ∷ a.effects) (closing Rejected s.applied (entries_at g names) (run_files g s.applied names a)) g way (fail_way g s clean names saved short (run_files g s.applied names a) ran)
  failing_way CutOff fails = every-append (IsOnTheWay g) (saving s.applied (entries_at g names) ∷ a.effects) (closing CutOff s.applied (entries_at g names) (run_files g s.applied names a)) g way (fail_way g s clean names saved short (run_files g s.applied names a) ran)

  pub failing_end : (ending : Ending) → IsFailedPush (Ended ending) → SameLasting g (after_all (push_list g s.applied names a ending) g)
  failing_end Done fails = absurd fails
  failing_end Rejected fails = subst (λ (x : Files). SameLasting g x) (sym (run_end Rejected)) (fail_end g s clean names saved short (run_files g s.applied names a) ran)
  failing_end CutOff fails = subst (λ (x : Files). SameLasting g x) (sym (run_end CutOff)) (fail_end g s clean names saved short (run_files g s.applied names a) ran)

  -- it is applied
  pub done_between : Every (IsBetween g (after (raising s.applied) (run_files g s.applied names a))) (push_list g s.applied names a Done) g
  done_between =
      let y : Files = run_files g s.applied names a in
      let z : Files = after (raising s.applied) y in
      every-append (IsBetween g z) (saving s.applied (entries_at g names) ∷ a.effects) (raising s.applied ∷ []) g
      (every-map (IsOnTheWay g) (IsBetween g z) (λ x on. inl on) (saving s.applied (entries_at g names) ∷ a.effects) g way)
      (inl (saved_way g s clean names saved short y ran), inr (way-same z z (lasting-same z)))
