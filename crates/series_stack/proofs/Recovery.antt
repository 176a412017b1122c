-- A recovery, at each of its moments and at its end.
use Rattle.std.proofs.Common.{◌≡◌, ℕ, suc, List, [], ◌∷◌, ◌++◌, map, Bool, true, false, cond, bytes_eq, Option, Some, None, Ok, refl, sym, ◌∙◌, ap, subst, arith}
use Rattle.std.specs.Prelude.{is_none}
use Rattle.std.specs.FinMap.{get}
use Rattle.outside.specs.Files.{Files, is_temp, lasting-same}
use Rattle.outside.specs.Quiet.{Effect, after, after_all}
use Rattle.outside.specs.Quiet.Effect.{Remove}
use Rattle.series_stack.specs.Saves.{Entry, is_of_stack, name_of, entries_of}
use Rattle.series_stack.specs.Restoring.{restoring, saved_at}
use Rattle.series_stack.specs.Undoing.{is_one_of, SameBeside}
use Rattle.series_stack.proofs.EffectLists.{after_all-append}
use Rattle.series_stack.proofs.Entries.{entries-sound}
use Rattle.series_stack.proofs.Fronts.{bytes_same}
use Rattle.series_stack.specs.Taking.{AreSaved}
use Rattle.series_stack.specs.Stack.{Stack, series_name, count_name, save_name, stack_of, saved_in, recovering, recover}
use Rattle.series_stack.specs.Commands.{is_bad}
use Rattle.series_stack.proofs.Every.{Every, every-last, every-append, every-map}
use Rattle.series_stack.proofs.Names.{not_both, save-lasting, series-own, count-own, save-own, save-no_series, save-no_count, save-no_other}
use Rattle.series_stack.proofs.Touching.{neither, IsWithin, name_here, within-both, within-more, beside-same, every-beside, restoring-within, saved_at-one, undone-at, own_apart, entries-saved}
use Rattle.series_stack.proofs.States.{stack-beside}
use Rattle.series_stack.proofs.Recovering.{recovering-ok, recover-by, same_along, IsOnTheWay, way-same, IsReady, IsClean, clean-recovering, clean-recover}

-- files that a save recovers, name by name
pub recovered-at : (x : Files) (s : Stack) (text : List ℕ) (es : List Entry) → stack_of x ≡ Ok s → get x (save_name (suc s.applied)) ≡ Some text → entries_of text ≡ Some es
    → (q : List ℕ) → is_temp q ≡ false → get (recover x) q ≡ cond (bytes_eq (save_name (suc s.applied)) q) None (saved_at es q (get x q))
recovered-at x s text es stack there read q lasting =
    let name : List ℕ = save_name (suc s.applied) in
    ap (λ (y : Files). get y q) (recover-by x (restoring es x ++ Remove name ∷ []) (recovering-ok x s (Some es) stack (ap saved_in there ∙ read)))
    ∙ undone-at name es x q lasting

-- ---- what a recovery does
pub record Recovery (f : Files) (s : Stack) : Type 0 where
  pub every : Every (IsOnTheWay f) (recovering f) f
  pub clean : IsClean (recover f) s
  pub saves : (j : ℕ) → (j ≡ suc s.applied → ⊥) → get (recover f) (save_name j) ≡ get f (save_name j)

pub suc_apart : (n : ℕ) → suc (suc n) ≡ suc n → ⊥
suc_apart n is = omega (arith, is)

-- with a save
module _ (f : Files) (s : Stack) (ready : IsReady f s) (text : List ℕ) (es : List Entry) (there : get f (save_name (suc s.applied)) ≡ Some text) (read : entries_of text ≡ Some es) where
  saved_names : AreSaved (map name_of es)
  saved_names = entries-saved es (entries-sound text es read).saved

  own : (q : List ℕ) → is_of_stack q ≡ true → is_one_of (map name_of es) q ≡ false
  own q is = own_apart (map name_of es) q saved_names is

  halfway : (x : Files) → SameBeside (map name_of es) f x → IsOnTheWay f x
  halfway x same =
      let name : List ℕ = save_name (suc s.applied) in
      let stack : stack_of x ≡ stack_of f = stack-beside (map name_of es) f x (own series_name series-own) (own count_name count-own) same in
      let held : get x name ≡ Some text = same.at name (save-lasting (suc s.applied)) (own name (save-own (suc s.applied))) ∙ there in
      record {
        stack = stack;
        files = record {
          at = λ q lasting.
              recovered-at x s text es (stack ∙ ready.stack) held read q lasting
              ∙ ap (λ (o : Option (List ℕ)). cond (bytes_eq name q) None o) (alike q lasting (is_one_of (map name_of es) q) refl)
              ∙ sym (recovered-at f s text es ready.stack there read q lasting);
        };
      }
    where
      alike : (q : List ℕ) → is_temp q ≡ false → (v : Bool) → is_one_of (map name_of es) q ≡ v → saved_at es q (get x q) ≡ saved_at es q (get f q)
      alike q lasting true one = saved_at-one es q (get x q) (get f q) one
      alike q lasting false other = ap (λ (o : Option (List ℕ)). saved_at es q o) (same.at q lasting other)

  whole : recover f ≡ after (Remove (save_name (suc s.applied))) (after_all (restoring es f) f)
  whole =
      recover-by f (restoring es f ++ Remove (save_name (suc s.applied)) ∷ []) (recovering-ok f s (Some es) ready.stack (ap saved_in there ∙ read))
      ∙ after_all-append (restoring es f) (Remove (save_name (suc s.applied)) ∷ []) f

  all_beside : SameBeside (save_name (suc s.applied) ∷ map name_of es) f (recover f)
  all_beside =
      let name : List ℕ = save_name (suc s.applied) in
      let names : List (List ℕ) = name ∷ map name_of es in
      subst (λ (y : Files). SameBeside names f y) (sym (recover-by f (restoring es f ++ Remove name ∷ []) (recovering-ok f s (Some es) ready.stack (ap saved_in there ∙ read))))
      (every-last (SameBeside names f) (restoring es f ++ Remove name ∷ []) f
      (every-beside names f (restoring es f ++ Remove name ∷ []) f
      (within-both (IsWithin names) (restoring es f) (Remove name ∷ []) (within-more name (map name_of es) (restoring es f) (restoring-within es f)) (name_here name (map name_of es), tt))
      (beside-same names f)))

  whole_saves : (j : ℕ) → (j ≡ suc s.applied → ⊥) → get (recover f) (save_name j) ≡ get f (save_name j)
  whole_saves j ne = all_beside.at (save_name j) (save-lasting j)
      (neither (bytes_eq (save_name (suc s.applied)) (save_name j)) (is_one_of (map name_of es) (save_name j)) (save-no_other (suc s.applied) j (λ same. ne (sym same))) (own (save_name j) (save-own j)))

  whole_clean : IsClean (recover f) s
  whole_clean = record {
    stack = stack-beside (save_name (suc s.applied) ∷ map name_of es) f (recover f)
        (neither (bytes_eq (save_name (suc s.applied)) series_name) (is_one_of (map name_of es) series_name) (save-no_series (suc s.applied)) (own series_name series-own))
        (neither (bytes_eq (save_name (suc s.applied)) count_name) (is_one_of (map name_of es) count_name) (save-no_count (suc s.applied)) (own count_name count-own))
        all_beside
        ∙ ready.stack;
    next = recovered-at f s text es ready.stack there read (save_name (suc s.applied)) (save-lasting (suc s.applied))
        ∙ ap (λ (v : Bool). cond v None (saved_at es (save_name (suc s.applied)) (get f (save_name (suc s.applied))))) (bytes_same (save_name (suc s.applied)));
    behind = whole_saves (suc (suc s.applied)) (suc_apart s.applied) ∙ ready.behind;
  }

  at_end : IsOnTheWay f (recover f)
  at_end = record {
    stack = whole_clean.stack ∙ sym ready.stack;
    files = same_along refl (clean-recover (recover f) s whole_clean.stack whole_clean.next) (lasting-same (recover f));
  }

  saved_recovery : Recovery f s
  saved_recovery =
      let name : List ℕ = save_name (suc s.applied) in
      let names : List (List ℕ) = map name_of es in
      let first : Every (SameBeside names f) (restoring es f) f = every-beside names f (restoring es f) f (restoring-within es f) (beside-same names f) in
      record {
        every = subst (λ (l : List Effect). Every (IsOnTheWay f) l f) (sym (recovering-ok f s (Some es) ready.stack (ap saved_in there ∙ read)))
            (every-append (IsOnTheWay f) (restoring es f) (Remove name ∷ []) f
            (every-map (SameBeside names f) (IsOnTheWay f) halfway (restoring es f) f first)
            (halfway (after_all (restoring es f) f) (every-last (SameBeside names f) (restoring es f) f first), subst (λ (y : Files). IsOnTheWay f y) whole at_end));
        clean = whole_clean;
        saves = whole_saves;
      }

-- without one
unsaved_recovery : (f : Files) (s : Stack) → IsReady f s → get f (save_name (suc s.applied)) ≡ None → Recovery f s
unsaved_recovery f s ready none =
    let same : recover f ≡ f = clean-recover f s ready.stack none in
    record {
      every = subst (λ (l : List Effect). Every (IsOnTheWay f) l f) (sym (clean-recovering f s ready.stack none)) (way-same f f (lasting-same f));
      clean = subst (λ (y : Files). IsClean y s) (sym same) (record { stack = ready.stack; next = none; behind = ready.behind });
      saves = λ j ne. ap (λ (y : Files). get y (save_name j)) same;
    }

read_recovery : (f : Files) (s : Stack) → IsReady f s → (text : List ℕ) → get f (save_name (suc s.applied)) ≡ Some text → (o : Option (List Entry)) → entries_of text ≡ o → Recovery f s
read_recovery f s ready text there None read =
    absurd (not_both (is_none (entries_of text)) (ap is_none read) (ap is_bad (sym there) ∙ ready.next))
read_recovery f s ready text there (Some es) read = saved_recovery f s ready text es there read

recovery_by : (f : Files) (s : Stack) → IsReady f s → (o : Option (List ℕ)) → get f (save_name (suc s.applied)) ≡ o → Recovery f s
recovery_by f s ready None there = unsaved_recovery f s ready there
recovery_by f s ready (Some text) there = read_recovery f s ready text there (entries_of text) refl

pub recovery : (f : Files) (s : Stack) → IsReady f s → Recovery f s
recovery f s ready = recovery_by f s ready (get f (save_name (suc s.applied))) refl
