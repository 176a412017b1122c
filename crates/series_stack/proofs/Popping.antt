-- A pop, and a pop behind a push.
use Rattle.std.proofs.Common.{◌≡◌, inl, inr, ℕ, suc, ◌≤◌, List, length, true, false, is_some, Option, Some, None, Ok, refl, sym, ◌∙◌, ap, subst}
use Rattle.std.specs.Prelude.{is_none}
use Rattle.std.specs.FinMap.{get}
use Rattle.outside.specs.Files.{Files, lasting-same}
use Rattle.outside.specs.Quiet.{Effect, after, after_all}
use Rattle.outside.specs.Quiet.Effect.{Put}
use Rattle.series_stack.specs.Saves.{Entry, entries_of}
use Rattle.series_stack.specs.Count.{count_text}
use Rattle.series_stack.specs.Stack.{Stack, count_name, save_name, stack_of, saved_in, undoing, recovering, recover}
use Rattle.series_stack.specs.Commands.{is_bad}
use Rattle.series_stack.specs.Outcomes.{lowering, pop_effects}
use Rattle.series_stack.proofs.Every.{Every, every-last, every-map}
use Rattle.series_stack.proofs.Names.{save-lasting, count-no_save}
use Rattle.series_stack.proofs.Touching.{effect-apart}
use Rattle.series_stack.proofs.States.{stack-put, with_count}
use Rattle.series_stack.proofs.Recovering.{recovering-is, recover-by, IsOnTheWay, way-same, way-both, way-back, IsReady}
use Rattle.series_stack.proofs.Recovery.{Recovery, recovery}
use Rattle.series_stack.proofs.Stopping.{IsBetween}

some_not_bad : (text : List ℕ) (o : Option (List Entry)) → entries_of text ≡ o → is_some o ≡ true → is_none (entries_of text) ≡ false
some_not_bad text None read some = absurd cc
some_not_bad text (Some es) read some = ap is_none read

pub not_bad : (o : Option (List ℕ)) → is_some (saved_in o) ≡ true → is_bad o ≡ false
not_bad None some = absurd cc
not_bad (Some text) some = some_not_bad text (entries_of text) refl some

-- the count is put
pub count_apart : (g : Files) (n k : ℕ) → get (after (Put count_name (count_text n)) g) (save_name k) ≡ get g (save_name k)
count_apart g n k = effect-apart (Put count_name (count_text n)) g (save_name k) (save-lasting k) (count-no_save k)

-- ---- from clean files, of which one patch more is applied
module _ (g : Files) (s : Stack) (n : ℕ) (stack : stack_of g ≡ Ok s) (le : n ≤ length s.patches) (saved : is_some (saved_in (get g (save_name (suc n)))) ≡ true) (behind : get g (save_name (suc (suc n))) ≡ None) where
  pub lowered_stack : stack_of (after (lowering n) g) ≡ Ok (with_count s n)
  lowered_stack = stack-put g s n stack le

  pub lowered_ready : IsReady (after (lowering n) g) (with_count s n)
  lowered_ready = record {
    stack = lowered_stack;
    next = ap is_bad (count_apart g n (suc n)) ∙ not_bad (get g (save_name (suc n))) saved;
    behind = count_apart g n (suc (suc n)) ∙ behind;
  }

  lowered_recovery : Recovery (after (lowering n) g) (with_count s n)
  lowered_recovery = recovery (after (lowering n) g) (with_count s n) lowered_ready

  pub lowered_effects : recovering (after (lowering n) g) ≡ undoing (suc n) (after (lowering n) g)
  lowered_effects = recovering-is (after (lowering n) g) (Ok (with_count s n)) lowered_stack

  pub pop_end : after_all (pop_effects n g) g ≡ recover (after (lowering n) g)
  pop_end = sym (recover-by (after (lowering n) g) (undoing (suc n) (after (lowering n) g)) lowered_effects)

  pub pop_stack : stack_of (recover (after (lowering n) g)) ≡ Ok (with_count s n)
  pop_stack = lowered_recovery.clean.stack

  pub pop_between : Every (IsBetween g (recover (after (lowering n) g))) (pop_effects n g) g
  pop_between =
      let x : Files = after (lowering n) g in
      let z : Files = recover x in
      let last : IsOnTheWay x z = every-last (IsOnTheWay x) (recovering x) x lowered_recovery.every in (
        inl (way-same g g (lasting-same g)),
        subst (λ (l : List Effect). Every (IsBetween g z) l x) lowered_effects
            (every-map (IsOnTheWay x) (IsBetween g z) (λ y way. inr (way-both (way-back last) way)) (recovering x) x lowered_recovery.every),
      )
