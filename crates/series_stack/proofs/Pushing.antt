-- A push from the save to its end.
use Rattle.std.proofs.Common.{◌≡◌, ℕ, suc, ◌≤◌, List, [], ◌∷◌, length, Bool, true, false, cond, bytes_eq, Some, None, Ok, refl, sym, ◌∙◌, ap, subst}
use Rattle.std.specs.Prelude.{is_none}
use Rattle.std.specs.List.{AllByRecursion}
use Rattle.std.specs.FinMap.{get}
use Rattle.outside.specs.Files.{Files, SameLasting, lasting-same}
use Rattle.outside.specs.Quiet.{Effect, after, after_all}
use Rattle.outside.specs.Quiet.Effect.{Put}
use Rattle.series_stack.specs.Saves.{is_of_stack, save_text}
use Rattle.series_stack.specs.Count.{count_text}
use Rattle.series_stack.specs.Restoring.{saved_at}
use Rattle.series_stack.specs.Undoing.{entries_at, is_one_of, SameBeside}
use Rattle.series_stack.proofs.Fronts.{same_bytes, bytes_same}
use Rattle.series_stack.proofs.Meaning.{put-at}
use Rattle.series_stack.proofs.Undoing.{saved-names}
use Rattle.series_stack.specs.Taking.{too_long, AreSaved}
use Rattle.series_stack.proofs.Taking.{save-read}
use Rattle.series_stack.specs.Stack.{Stack, series_name, count_name, save_name, stack_of, saved_in, undoing_by, recovering}
use Rattle.series_stack.specs.Commands.{is_bad}
use Rattle.series_stack.specs.Outcomes.{saving}
use Rattle.series_stack.proofs.Every.{Every, every-last, every-map, every-kept}
use Rattle.series_stack.proofs.Names.{save-lasting, series-own, count-own, save-own, save-no_series, save-no_count, save-no_other}
use Rattle.series_stack.proofs.Touching.{neither, IsWithin, name_here, within-more, beside-same, beside-kept, other_name, effect-apart, own_apart}
use Rattle.series_stack.proofs.States.{stack-beside, stack-put, with_count}
use Rattle.series_stack.proofs.Recovering.{recovering-ok, recover-by, same_along, IsOnTheWay, way-same, way-both, IsReady, IsClean, clean-recover}
use Rattle.series_stack.proofs.Recovery.{recovered-at, recovery, suc_apart}

-- ---- files with the save
pub record HasSave (g : Files) (s : Stack) (names : List (List ℕ)) (x : Files) : Type 0 where
  pub beside : SameBeside (save_name (suc s.applied) ∷ names) g x
  pub there : get x (save_name (suc s.applied)) ≡ Some (save_text (entries_at g names))

module _ (g : Files) (s : Stack) (clean : IsClean g s) (names : List (List ℕ)) (saved : AreSaved names) (short : too_long (entries_at g names) ≡ None) where
  own : (q : List ℕ) → is_of_stack q ≡ true → bytes_eq (save_name (suc s.applied)) q ≡ false → is_one_of (save_name (suc s.applied) ∷ names) q ≡ false
  own q is other = neither (bytes_eq (save_name (suc s.applied)) q) (is_one_of names q) other (own_apart names q saved is)

  pub with_save : HasSave g s names (after (saving s.applied (entries_at g names)) g)
  with_save =
      let name : List ℕ = save_name (suc s.applied) in
      let text : List ℕ = save_text (entries_at g names) in
      record {
        beside = beside-kept (name ∷ names) g (Put name text) g (name_here name names) (beside-same (name ∷ names) g);
        there = put-at name text g name (save-lasting (suc s.applied)) ∙ ap (λ (v : Bool). cond v (Some text) (get g name)) (bytes_same name);
      }

  save_kept : (e : Effect) (x : Files) → IsWithin names e → HasSave g s names x → HasSave g s names (after e x)
  save_kept e x within has = record {
    beside = beside-kept (save_name (suc s.applied) ∷ names) g e x (within-more (save_name (suc s.applied)) names (e ∷ []) (within, tt)).0 has.beside;
    there = effect-apart e x (save_name (suc s.applied)) (save-lasting (suc s.applied)) (other_name names _ (save_name (suc s.applied)) within (own_apart names (save_name (suc s.applied)) saved (save-own (suc s.applied)))) ∙ has.there;
  }

  pub saved_stack : (x : Files) → HasSave g s names x → stack_of x ≡ Ok s
  saved_stack x has =
      stack-beside (save_name (suc s.applied) ∷ names) g x (own series_name series-own (save-no_series (suc s.applied))) (own count_name count-own (save-no_count (suc s.applied))) has.beside
      ∙ clean.stack

  pub saved_behind : (x : Files) → HasSave g s names x → (j : ℕ) → (j ≡ suc s.applied → ⊥) → get x (save_name j) ≡ get g (save_name j)
  saved_behind x has j ne = has.beside.at (save_name j) (save-lasting j) (own (save_name j) (save-own j) (save-no_other (suc s.applied) j (λ same. ne (sym same))))

  pub saved_ready : (x : Files) → HasSave g s names x → IsReady x s
  saved_ready x has = record {
    stack = saved_stack x has;
    next = ap is_bad has.there ∙ ap is_none (save-read g names saved short);
    behind = saved_behind x has (suc (suc s.applied)) (suc_apart s.applied) ∙ clean.behind;
  }

  -- what the save makes of a name
  pub back_at : (x : Files) (q : List ℕ) → (is_one_of names q ≡ false → bytes_eq (save_name (suc s.applied)) q ≡ false → get x q ≡ get g q) → cond (bytes_eq (save_name (suc s.applied)) q) None (saved_at (entries_at g names) q (get x q)) ≡ get g q
  back_at x q same = by (bytes_eq (save_name (suc s.applied)) q) refl
    where
      elsewhere : bytes_eq (save_name (suc s.applied)) q ≡ false → (v : Bool) → is_one_of names q ≡ v → cond v (get g q) (get x q) ≡ get g q
      elsewhere other true one = refl
      elsewhere other false one = same one other

      by : (v : Bool) → bytes_eq (save_name (suc s.applied)) q ≡ v → cond v None (saved_at (entries_at g names) q (get x q)) ≡ get g q
      by true is = sym clean.next ∙ ap (λ (n : List ℕ). get g n) (same_bytes (save_name (suc s.applied)) q is)
      by false is = saved-names g names q (get x q) ∙ elsewhere is (is_one_of names q) refl

  pub saved_way : (x : Files) → HasSave g s names x → IsOnTheWay g x
  saved_way x has = record {
    stack = saved_stack x has ∙ sym clean.stack;
    files = same_along (clean-recover g s clean.stack clean.next) refl (record {
      at = λ q lasting.
          recovered-at x s (save_text (entries_at g names)) (entries_at g names) (saved_stack x has) has.there (save-read g names saved short) q lasting
          ∙ back_at x q (λ other ne. has.beside.at q lasting (neither (bytes_eq (save_name (suc s.applied)) q) (is_one_of names q) ne other));
    });
  }

  -- ---- the patch's effects
  module _ (effects : List Effect) (within : AllByRecursion (IsWithin names) effects) where
    run_saves : Every (HasSave g s names) effects (after (saving s.applied (entries_at g names)) g)
    run_saves = every-kept (HasSave g s names) (IsWithin names) save_kept effects (after (saving s.applied (entries_at g names)) g) within with_save

    pub run_way : Every (IsOnTheWay g) (saving s.applied (entries_at g names) ∷ effects) g
    run_way = (way-same g g (lasting-same g), every-map (HasSave g s names) (IsOnTheWay g) saved_way effects (after (saving s.applied (entries_at g names)) g) run_saves)

    pub run_save : HasSave g s names (after_all effects (after (saving s.applied (entries_at g names)) g))
    run_save = every-last (HasSave g s names) effects (after (saving s.applied (entries_at g names)) g) run_saves

  -- ---- a push that fails
  module _ (y : Files) (has : HasSave g s names y) where
    saved_effects : recovering y ≡ undoing_by (save_name (suc s.applied)) (Some (entries_at g names)) y
    saved_effects = recovering-ok y s (Some (entries_at g names)) (saved_stack y has) (ap saved_in has.there ∙ save-read g names saved short)

    pub fail_way : Every (IsOnTheWay g) (undoing_by (save_name (suc s.applied)) (Some (entries_at g names)) y) y
    fail_way = subst (λ (l : List Effect). Every (IsOnTheWay g) l y) saved_effects
        (every-map (IsOnTheWay y) (IsOnTheWay g) (λ x way. way-both (saved_way y has) way) (recovering y) y (recovery y s (saved_ready y has)).every)

    pub fail_end : SameLasting g (after_all (undoing_by (save_name (suc s.applied)) (Some (entries_at g names)) y) y)
    fail_end = same_along (sym (clean-recover g s clean.stack clean.next)) (sym (recover-by y (undoing_by (save_name (suc s.applied)) (Some (entries_at g names)) y) saved_effects)) (saved_way y has).files

    -- ---- a push that is done
    pub done_stack : suc s.applied ≤ length s.patches → stack_of (after (Put count_name (count_text (suc s.applied))) y) ≡ Ok (with_count s (suc s.applied))
    done_stack le = stack-put y s (suc s.applied) (saved_stack y has) le
