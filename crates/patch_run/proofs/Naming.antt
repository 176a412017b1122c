-- The targets that a file patch can have, and what its mark names.
use Rattle.std.proofs.Common.{◌≡◌, ℕ, zero, suc, ◌<◌, List, [], ◌∷◌, ◌++◌, length, Bool, true, false, ◌||◌, if◌then◌else◌, Option, None, Some, refl, sym, ◌∙◌, ap, subst, arith}
use Rattle.std.specs.Prelude.{slice_get, unwrap_or}
use Rattle.std.specs.List.{list_any, flat_map}
use Rattle.std.specs.Option.{option_or, option_and_then, option_to_list}
use Rattle.std.proofs.lemmas.List.Folds.{list_any-append}
use Rattle.std.proofs.lemmas.Option.{slice_get-get_or}
use Rattle.std.proofs.lemmas.Bool.{or_parts}
use Rattle.read_file_patch.specs.declared.derived.Target.{Target}
use Rattle.patch_set.specs.declared.set.Row.{Row}
use Rattle.apply_task.specs.Asking.{renames, written_place}
use Rattle.patch_run.specs.OnePatch.{Item, PlainContext, no_target, target_at, written_at, written, written_by, renamed_by}
use Rattle.patch_run.specs.Laws.{targets_in}

-- ---- what holds of none of the targets

module _ (p : Target → Bool) where
  none_get : (xs : List Target) (k : ℕ) (x : Target) → list_any p xs ≡ false → slice_get xs k ≡ Some x → p x ≡ false
  none_get [] k x none is = absurd cc
  none_get (y ∷ ys) zero x none is = (let same : y ≡ x = cc in subst (λ (z : Target). p z ≡ false) same (or_parts (p y) (list_any p ys) none).0)
  none_get (y ∷ ys) (suc k) x none is = none_get ys k x (or_parts (p y) (list_any p ys) none).1 is

  pub none_at : (xs : List Target) (k : ℕ) → list_any p xs ≡ false → k < length xs → p (target_at xs k) ≡ false
  none_at [] k none less = absurd (omega (arith, less))
  none_at (y ∷ ys) zero none less = (or_parts (p y) (list_any p ys) none).0
  none_at (y ∷ ys) (suc k) none less = none_at ys k (or_parts (p y) (list_any p ys) none).1 (omega (arith, less))

  -- of none that a file patch can have
  pub record IsNoneOf (out : Option Target) (i : Item) : Type 0 where
    pub output : list_any p (option_to_list out) ≡ false
    pub own : list_any p i.targets ≡ false

  pub none_written : (t : PlainContext) (k : ℕ) → IsNoneOf t.output t.item → k < length t.item.targets → p (written t k) ≡ false
  none_written t k none less = by t.output refl
    where
      here : (o : Option Target) → slice_get t.item.targets k ≡ o → p (unwrap_or o (target_at t.item.targets k)) ≡ false
      here None is = none_at t.item.targets k none.own less
      here (Some w) is = none_get t.item.targets k w none.own is

      chosen : (o : Option Target) → slice_get t.item.targets (written_place t.options.reverse t.item.patch k) ≡ o → p (unwrap_or (option_or o (slice_get t.item.targets k)) (target_at t.item.targets k)) ≡ false
      chosen None is = here (slice_get t.item.targets k) refl
      chosen (Some w) is = none_get t.item.targets (written_place t.options.reverse t.item.patch k) w none.own is

      by : (o : Option Target) → t.output ≡ o → p (unwrap_or o (unwrap_or (written_at t.options.reverse t.item k) (target_at t.item.targets k))) ≡ false
      by None is = chosen (slice_get t.item.targets (written_place t.options.reverse t.item.patch k)) refl
      by (Some w) is = (or_parts (p w) false (subst (λ (o : Option Target). list_any p (option_to_list o) ≡ false) is none.output)).0

  -- of none of a run, from the front
  pub none_first : (output : Option Target) (i : Item) (items : List Item) → list_any p (targets_in output (i ∷ items)) ≡ false → IsNoneOf output i × (list_any p (targets_in output items) ≡ false)
  none_first output i items none =
      let outs = option_to_list output in
      let more = flat_map (λ (x : Item). x.targets) items in
      let parts = or_parts (list_any p outs) (list_any p (i.targets ++ more)) (sym (list_any-append p outs (i.targets ++ more)) ∙ none) in
      let own = or_parts (list_any p i.targets) (list_any p more) (sym (list_any-append p i.targets more) ∙ parts.1) in
      (record { output = parts.0; own = own.0 }, list_any-append p outs more ∙ ap (λ b. b || list_any p more) parts.0 ∙ own.1)

-- ---- what a row names

at_target : {X : Type 0} (g : ℕ → Option X) (o : Option ℕ) (k : ℕ) → o ≡ Some k → option_and_then g o ≡ g k
at_target g o k is = ap (option_and_then g) is

chosen_is : (o here : Option Target) (d y : Target) → here ≡ Some y → option_or o here ≡ Some (unwrap_or (option_or o here) d)
chosen_is None here d y is = is ∙ ap (λ (x : Option Target). Some (unwrap_or x d)) (sym is)
chosen_is (Some w) here d y is = refl

pub written_is : (t : PlainContext) (r : Row) (k : ℕ) → r.target ≡ Some k → k < length t.item.targets → written_by t r ≡ Some (written t k)
written_is t r k at less = by t.output
  where
    by : (o : Option Target) → option_or o (option_and_then (written_at t.options.reverse t.item) r.target) ≡ Some (unwrap_or o (unwrap_or (written_at t.options.reverse t.item k) (target_at t.item.targets k)))
    by None =
        at_target (written_at t.options.reverse t.item) r.target k at
        ∙ chosen_is (slice_get t.item.targets (written_place t.options.reverse t.item.patch k)) (slice_get t.item.targets k) (target_at t.item.targets k) (target_at t.item.targets k) (slice_get-get_or t.item.targets k no_target less)
    by (Some w) = refl

pub renamed_is : (t : PlainContext) (r : Row) (k : ℕ) → r.target ≡ Some k → k < length t.item.targets → renames t.item.patch ≡ true → renamed_by t r ≡ Some (target_at t.item.targets k)
renamed_is t r k at less moves =
    ap (λ b. if b then option_and_then (slice_get t.item.targets) r.target else None) moves
    ∙ at_target (slice_get t.item.targets) r.target k at
    ∙ slice_get-get_or t.item.targets k no_target less
