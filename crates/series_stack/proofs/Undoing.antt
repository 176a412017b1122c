-- A save of some names undoes what was done at these, also where it was restored in part.
use Rattle.std.proofs.Common.{◌≡◌, ℕ, zero, suc, List, [], ◌∷◌, ◌++◌, take, Bool, true, false, ◌||◌, cond, bytes_eq, is_some, Option, Some, None, refl, sym, ◌∙◌, ap, subst}
use Rattle.std.specs.List.{AllByRecursion}
use Rattle.std.specs.FinMap.{get, remove}
use Rattle.outside.specs.Files.{Files, is_temp, SameLasting}
use Rattle.outside.specs.Quiet.{Effect, after, after_all}
use Rattle.outside.specs.Quiet.Effect.{Put, Remove}
use Rattle.series_stack.specs.Saves.{Entry}
use Rattle.series_stack.specs.Found.{entry_with}
use Rattle.series_stack.specs.Restoring.{effects_of, restoring, restored, saved_at}
use Rattle.series_stack.specs.Undoing.{entries_at, is_one_of, SameBeside}
use Rattle.series_stack.proofs.Fronts.{same_bytes}
use Rattle.series_stack.proofs.Meaning.{restored-at, put-at, gone-at}
use Rattle.series_stack.proofs.Steps.{restoring-cons, restoring-nil}

-- ---- what a save of names holds of a name
saved-with : (name : List ℕ) (o : Option (List ℕ)) (es : List Entry) (q : List ℕ) (before : Option (List ℕ)) → saved_at (entry_with name o ∷ es) q before ≡ saved_at es q (cond (bytes_eq name q) o before)
unfolding saved_at
saved-with name None es q before = refl
saved-with name (Some bytes) es q before = refl

here : (f : Files) (name q : List ℕ) (before : Option (List ℕ)) (v : Bool) → bytes_eq name q ≡ v → (r : Bool) → cond r (get f q) (cond v (get f name) before) ≡ cond (v || r) (get f q) before
here f name q before true is true = refl
here f name q before true is false = ap (λ (n : List ℕ). get f n) (same_bytes name q is)
here f name q before false is true = refl
here f name q before false is false = refl

pub saved-names : (f : Files) (names : List (List ℕ)) (q : List ℕ) (before : Option (List ℕ)) → saved_at (entries_at f names) q before ≡ cond (is_one_of names q) (get f q) before
unfolding saved_at
saved-names f [] q before = refl
saved-names f (name ∷ names) q before =
    saved-with name (get f name) (entries_at f names) q before
    ∙ saved-names f names q (cond (bytes_eq name q) (get f name) before)
    ∙ here f name q before (bytes_eq name q) refl (is_one_of names q)

pub undone : (names : List (List ℕ)) (f g : Files) → SameBeside names f g → SameLasting f (restored (entries_at f names) g)
undone names f g same = record {
  at = λ q lasting.
      restored-at (entries_at f names) g q lasting
      ∙ saved-names f names q (get g q)
      ∙ beside q lasting (is_one_of names q) refl;
}
  where
    beside : (q : List ℕ) → is_temp q ≡ false → (v : Bool) → is_one_of names q ≡ v → cond v (get f q) (get g q) ≡ get f q
    beside q lasting true is = refl
    beside q lasting false is = same.at q lasting is

-- ---- a save that was restored in part
-- none of these effects changes the name
abbrev LeaveAlone : List ℕ → List Effect → Type 0
LeaveAlone q l = AllByRecursion (λ x. (g : Files) → get (after x g) q ≡ get g q) l

alone-append : (q : List ℕ) (l m : List Effect) → LeaveAlone q l → LeaveAlone q m → LeaveAlone q (l ++ m)
alone-append q [] m a b = b
alone-append q (x ∷ l) m a b = (a.0, alone-append q l m a.1 b)

alone-after : (q : List ℕ) (k : ℕ) (l : List Effect) (g : Files) → LeaveAlone q l → get (after_all (take k l) g) q ≡ get g q
alone-after q zero l g a = refl
alone-after q (suc k) [] g a = refl
alone-after q (suc k) (x ∷ l) g a = alone-after q k l (after x g) a.1 ∙ a.0 g

module _ (q : List ℕ) (lasting : is_temp q ≡ false) where
  put_alone : (name bytes : List ℕ) → bytes_eq name q ≡ false → (g : Files) → get (after (Put name bytes) g) q ≡ get g q
  put_alone name bytes is g = put-at name bytes g q lasting ∙ (rw is refl)

  gone_alone : (name : List ℕ) → bytes_eq name q ≡ false → (g : Files) → get (remove g name) q ≡ get g q
  gone_alone name is g = gone-at name g q ∙ (rw is refl)

  some_alone : (name : List ℕ) → bytes_eq name q ≡ false → (v : Bool) → LeaveAlone q (cond v (Remove name ∷ []) [])
  some_alone name is true = (gone_alone name is, tt)
  some_alone name is false = tt

  entry_alone : (name : List ℕ) (o : Option (List ℕ)) (f : Files) → bytes_eq name q ≡ false → LeaveAlone q (effects_of (entry_with name o) f)
  entry_alone name None f is = some_alone name is (is_some (get f name))
  entry_alone name (Some bytes) f is = (put_alone name bytes is, tt)

  either_false : (a b : Bool) → (a || b) ≡ false → (a ≡ false) × (b ≡ false)
  either_false true b is = absurd cc
  either_false false b is = (refl, is)

  names_alone : (f : Files) (names : List (List ℕ)) (g : Files) → is_one_of names q ≡ false → LeaveAlone q (restoring (entries_at f names) g)
  names_alone f [] g is = subst (λ (l : List Effect). LeaveAlone q l) (sym (restoring-nil g)) tt
  names_alone f (name ∷ names) g is =
      let e : Entry = entry_with name (get f name) in
      let now : Files = after_all (effects_of e g) g in
      let both = either_false (bytes_eq name q) (is_one_of names q) is in
      subst (λ (l : List Effect). LeaveAlone q l) (sym (restoring-cons e (entries_at f names) g))
      (alone-append q (effects_of e g) (restoring (entries_at f names) now) (entry_alone name (get f name) g both.0) (names_alone f names now both.1))

pub still_beside : (names : List (List ℕ)) (f g c : Files) (k : ℕ) → SameBeside names f g → SameLasting (after_all (take k (restoring (entries_at f names) g)) g) c → SameBeside names f c
still_beside names f g c k same left = record {
  at = λ q lasting apart. left.at q lasting ∙ alone-after q k (restoring (entries_at f names) g) g (names_alone q lasting f names g apart) ∙ same.at q lasting apart;
}
