-- Effects that change only some names, and what entries of a save do to names.
use Rattle.std.proofs.Common.{◌≡◌, ℕ, List, [], ◌∷◌, ◌++◌, map, Bool, true, false, ◌||◌, cond, bytes_eq, is_some, Option, Some, None, refl, sym, ◌∙◌, ap, subst}
use Rattle.std.specs.List.{AllByRecursion}
use Rattle.std.specs.FinMap.{get}
use Rattle.outside.specs.Files.{Files, is_temp, SameLasting}
use Rattle.outside.specs.Quiet.{Effect, after, after_all}
use Rattle.outside.specs.Quiet.Effect.{Put, Remove}
use Rattle.series_stack.specs.Saves.{Entry, IsSaved, is_of_stack, name_of}
use Rattle.series_stack.specs.Saves.Entry.{Missing, Held}
use Rattle.series_stack.specs.Restoring.{effects_of, restoring, restored, saved_at}
use Rattle.series_stack.specs.Undoing.{is_one_of, SameBeside}
use Rattle.series_stack.proofs.Fronts.{bytes_same}
use Rattle.series_stack.proofs.EffectLists.{after_all-append}
use Rattle.series_stack.proofs.Meaning.{restored-at, put-at, gone-at}
use Rattle.series_stack.proofs.Steps.{restoring-cons, restoring-nil}
use Rattle.series_stack.specs.Taking.{AreSaved}
use Rattle.series_stack.specs.Commands.{changed_by}
use Rattle.series_stack.proofs.Every.{Every, every-kept}
use Rattle.series_stack.proofs.Names.{unequal, not_both, saved-lasting}

-- ---- the same files
pub lasting-back : {f g : Files} → SameLasting f g → SameLasting g f
lasting-back same = record { at = λ q lasting. sym (same.at q lasting) }

pub beside-same : (names : List (List ℕ)) (f : Files) → SameBeside names f f
beside-same names f = record { at = λ q lasting apart. refl }

-- ---- one of some names
pub neither : (a b : Bool) → a ≡ false → b ≡ false → (a || b) ≡ false
neither true b is other = absurd cc
neither false b is other = other

-- ---- effects
abbrev pub IsWithin : List (List ℕ) → Effect → Type 0
IsWithin names e = is_one_of names (changed_by e) ≡ true

pub other_name : (names : List (List ℕ)) (n q : List ℕ) → is_one_of names n ≡ true → is_one_of names q ≡ false → bytes_eq n q ≡ false
other_name names n q one other = unequal n q (λ same. not_both (is_one_of names q) (ap (λ (x : List ℕ). is_one_of names x) (sym same) ∙ one) other)

pub effect-apart : (e : Effect) (f : Files) (q : List ℕ) → is_temp q ≡ false → bytes_eq (changed_by e) q ≡ false → get (after e f) q ≡ get f q
effect-apart (Put name bytes) f q lasting other = put-at name bytes f q lasting ∙ (rw other refl)
effect-apart (Remove name) f q lasting other = gone-at name f q ∙ (rw other refl)

pub beside-kept : (names : List (List ℕ)) (g : Files) (e : Effect) (f : Files) → IsWithin names e → SameBeside names g f → SameBeside names g (after e f)
beside-kept names g e f within same = record {
  at = λ q lasting other. effect-apart e f q lasting (other_name names (changed_by e) q within other) ∙ same.at q lasting other;
}

pub every-beside : (names : List (List ℕ)) (g : Files) (es : List Effect) (f : Files) → AllByRecursion (IsWithin names) es → SameBeside names g f → Every (SameBeside names g) es f
every-beside names g es f within same = every-kept (SameBeside names g) (IsWithin names) (λ e x. beside-kept names g e x) es f within same

-- one name more
one_more : (n : List ℕ) (names : List (List ℕ)) (v : Bool) (q : List ℕ) → is_one_of names q ≡ true → (v || is_one_of names q) ≡ true
one_more n names true q one = refl
one_more n names false q one = one

pub within-more : (n : List ℕ) (names : List (List ℕ)) (es : List Effect) → AllByRecursion (IsWithin names) es → AllByRecursion (IsWithin (n ∷ names)) es
within-more n names [] all = tt
within-more n names (e ∷ es) all = (one_more n names (bytes_eq n (changed_by e)) (changed_by e) all.0, within-more n names es all.1)

pub within-both : (A : Effect → Type 0) (es ds : List Effect) → AllByRecursion A es → AllByRecursion A ds → AllByRecursion A (es ++ ds)
within-both A [] ds a b = b
within-both A (e ∷ es) ds a b = (a.0, within-both A es ds a.1 b)

-- ---- what restores
pub name_here : (n : List ℕ) (names : List (List ℕ)) → is_one_of (n ∷ names) n ≡ true
name_here n names = ap (λ (v : Bool). v || is_one_of names n) (bytes_same n)

removes_within : (n : List ℕ) (names : List (List ℕ)) (v : Bool) → AllByRecursion (IsWithin (n ∷ names)) (cond v (Remove n ∷ []) [])
removes_within n names true = (name_here n names, tt)
removes_within n names false = tt

entry_within : (e : Entry) (names : List (List ℕ)) (f : Files) → AllByRecursion (IsWithin (name_of e ∷ names)) (effects_of e f)
entry_within (Missing name) names f = removes_within name names (is_some (get f name))
entry_within (Held name bytes) names f = (name_here name names, tt)

pub restoring-within : (es : List Entry) (f : Files) → AllByRecursion (IsWithin (map name_of es)) (restoring es f)
restoring-within [] f = subst (λ (l : List Effect). AllByRecursion (IsWithin []) l) (sym (restoring-nil f)) tt
restoring-within (e ∷ es) f =
    let now : Files = after_all (effects_of e f) f in
    subst (λ (l : List Effect). AllByRecursion (IsWithin (name_of e ∷ map name_of es)) l) (sym (restoring-cons e es f))
    (within-both (IsWithin (name_of e ∷ map name_of es)) (effects_of e f) (restoring es now)
    (entry_within e (map name_of es) f)
    (within-more (name_of e) (map name_of es) (restoring es now) (restoring-within es now)))

-- what was there before doesn't matter at the names of a save
covered : (v r : Bool) (give : Option (List ℕ) → Option (List ℕ)) (x a b : Option (List ℕ)) → (v || r) ≡ true → (r ≡ true → give a ≡ give b) → give (cond v x a) ≡ give (cond v x b)
covered true r give x a b one more = refl
covered false r give x a b one more = more one

pub saved_at-one : (es : List Entry) (q : List ℕ) (a b : Option (List ℕ)) → is_one_of (map name_of es) q ≡ true → saved_at es q a ≡ saved_at es q b
unfolding saved_at
saved_at-one [] q a b one = absurd (let fails : false ≡ true = one in cc)
saved_at-one (Missing name ∷ es) q a b one = covered (bytes_eq name q) (is_one_of (map name_of es) q) (λ o. saved_at es q o) None a b one (saved_at-one es q a b)
saved_at-one (Held name bytes ∷ es) q a b one = covered (bytes_eq name q) (is_one_of (map name_of es) q) (λ o. saved_at es q o) (Some bytes) a b one (saved_at-one es q a b)

-- a save that is restored and taken away
pub undone-at : (name : List ℕ) (es : List Entry) (f : Files) (q : List ℕ) → is_temp q ≡ false → get (after_all (restoring es f ++ Remove name ∷ []) f) q ≡ cond (bytes_eq name q) None (saved_at es q (get f q))
undone-at name es f q lasting =
    ap (λ (x : Files). get x q) (after_all-append (restoring es f) (Remove name ∷ []) f)
    ∙ gone-at name (restored es f) q
    ∙ ap (λ (o : Option (List ℕ)). cond (bytes_eq name q) None o) (restored-at es f q lasting)

-- ---- names of the stack
pub own_apart : (names : List (List ℕ)) (q : List ℕ) → AreSaved names → is_of_stack q ≡ true → is_one_of names q ≡ false
own_apart [] q saved own = refl
own_apart (n ∷ names) q saved own =
    neither (bytes_eq n q) (is_one_of names q)
    (unequal n q (λ same. not_both (is_of_stack q) own (ap is_of_stack (sym same) ∙ (saved-lasting n saved.0).1)))
    (own_apart names q saved.1 own)

pub entries-saved : (es : List Entry) → AllByRecursion IsSaved es → AreSaved (map name_of es)
entries-saved [] all = tt
entries-saved (e ∷ es) all = (all.0.name, entries-saved es all.1)
