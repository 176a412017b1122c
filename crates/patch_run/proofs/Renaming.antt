-- What becomes of a file that is renamed.
use Rattle.std.proofs.Common.{◌≡◌, ◌≢◌, ◌++◌, ◌∷◌, ◌∙◌, ◌&&◌, [], ℕ, List, Bool, true, false, not, bytes_eq, is_some, refl, sym, subst}
use Rattle.std.proofs.lemmas.Bool.{false≢true}
use Rattle.std.specs.FinMap.{get, insert, remove}
use Rattle.std.proofs.lemmas.Slice.Eq.{bytes_eq-Decides}
use Rattle.outside.specs.Files.{Files, temp_of}
use Rattle.outside.specs.Quiet.{Effect, after_all}
use Rattle.outside.specs.Quiet.Effect.{Put, Remove}
use Rattle.outside.proofs.Names.{apart, get-put, get-gone, get-gone_other}
use Rattle.read_file_patch.specs.declared.derived.Target.{Target}
use Rattle.apply_task.specs.Named.{IsNamed}
use Rattle.apply_task.specs.TargetEffects.{backup_effects}
use Rattle.apply_task.proofs.EffectLists.{after_all-append}
use Rattle.patch_run.specs.OnePatch.{PlainContext, Tried, is_backup_due, is_moving, is_written, written_effects}
use Rattle.apply_task.specs.Asking.{renames}
use Rattle.patch_run.specs.Laws.{IsRenamed}
use Rattle.apply_outcome.proofs.Writing.{written_as, moved_as}

-- ---- a rename

module _ (f : Files) (s w : Target) (bytes : List ℕ) (named : IsNamed w) (differ : w.name ≢ s.name) where
  abbrev put : Files → Files
  put g = remove (insert g w.name bytes) (temp_of w.name)

  moved_last : (g : Files) → IsRenamed (after_all (Put w.name bytes ∷ Remove s.name ∷ []) g) s w bytes
  moved_last g = record {
    target = get-gone_other (put g) s.name w.name differ
        ∙ get-gone_other (insert g w.name bytes) (temp_of w.name) w.name (subst (λ (n : List ℕ). w.name ≢ n) named.temp (apart w.name w.temp named.lasting.own named.temps.own))
        ∙ get-put g w.name bytes;
    source = get-gone (put g) s.name;
  }

  -- whatever was backed up before
  moved_behind : (es ds : List Effect) → IsRenamed (after_all (es ++ (ds ++ Put w.name bytes ∷ Remove s.name ∷ [])) f) s w bytes
  moved_behind es ds =
      subst (λ (g : Files). IsRenamed g s w bytes) (sym (after_all-append es (ds ++ Put w.name bytes ∷ Remove s.name ∷ []) f ∙ after_all-append ds (Put w.name bytes ∷ Remove s.name ∷ []) (after_all es f)))
      (moved_last (after_all ds (after_all es f)))

differing : (a d : Bool) (x y : List ℕ) → (a && not (bytes_eq x y) && d) ≡ true → y ≢ x
differing a d x y is same = no a d (bytes_eq x y) ((bytes_eq-Decides x y).1 (sym same)) is
  where
    no : (a d e : Bool) → e ≡ true → (a && not e && d) ≡ true → ⊥
    no true d true eq is = false≢true is
    no false d true eq is = false≢true is
    no a d false eq is = false≢true eq

pub renamed : (t : PlainContext) (f : Files) (s w : Target) (x : Tried) → IsNamed w → is_moving t f s w ≡ true → is_written t x ≡ true → IsRenamed (after_all (written_effects t f s w x) f) s w x.output
renamed t f s w x named moving is =
    let due = is_backup_due t w s x.verdicts in
    let other = is_backup_due t s w x.verdicts in
    subst (λ (l : List Effect). IsRenamed (after_all l f) s w x.output) (sym (written_as t f s w x is ∙ moved_as t f s w x due other refl moving refl))
    (moved_behind f s w x.output named (differing (renames t.item.patch) (is_some (get f s.name)) s.name w.name moving) (backup_effects due f w) (backup_effects other f s))
