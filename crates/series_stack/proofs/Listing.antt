-- The names of a series, line by line.
use Rattle.std.proofs.Common.{◌≡◌, ◌⊎◌, ⊎_elim, inl, inr, ℕ, suc, ◌<◌, ◌≤◌, ◌+◌, List, [], ◌∷◌, ◌++◌, length, take, drop, map, get_or, true, false, not, ◌&&◌, cond, Some, None, refl, sym, ◌∙◌, ap, subst, arith, length-append, nat_le, leb}
use Rattle.std.proofs.lemmas.List.{map-append, append-nil, length-map, take-append-drop}
use Rattle.std.proofs.lemmas.List.Elements.{filter-append}
use Rattle.std.proofs.lemmas.List.Folds.{list_all-append}
use Rattle.std.proofs.lemmas.Bool.{le-leb}
use Rattle.std.proofs.lemmas.Bool.Decides.{leb_tells}
use Rattle.std.proofs.Math.Bool.{and-false}
use Rattle.std.proofs.Math.Seq.{take-suc}
use Rattle.std.specs.List.{list_all, slice_split}
use Rattle.outside.specs.Names.{normal_form}
use Rattle.series_stack.specs.Series.{is_feed, is_skipped, is_lawful, named_lines, names_written, series_of}
use Rattle.series_stack.specs.Causes.{IsBadOr}
use Rattle.series_stack.specs.declared.fault.StateFile.{StateFile}
use Rattle.series_stack.specs.declared.fault.StackFault.{StackFault}
use Rattle.series_stack.specs.declared.fault.StackFault.TheVariants.{BadState}

-- the names that were read are those of these lines
pub record SoFar (names parts : List (List ℕ)) : Type 0 where
  pub items : names ≡ map normal_form (named_lines parts)
  pub lawful : list_all is_lawful (named_lines parts) ≡ true
  pub few : length (named_lines parts) ≤ 9999

pub none_yet : SoFar [] []
none_yet = record { items = refl; lawful = refl; few = omega arith }

count : {names parts : List (List ℕ)} → SoFar names parts → length names ≡ length (named_lines parts)
count {parts = parts} s = ap length s.items ∙ length-map (named_lines parts) normal_form

-- the line at a place, behind those before it
pub with_line : (all : List (List ℕ)) (n m : ℕ) (x : List ℕ) → m ≡ n + 1 → n < length all → x ≡ get_or all n x → take m all ≡ take n all ++ (x ∷ [])
with_line all n m x next lt is =
    ap (λ k. take k all) (let e : m ≡ suc n = omega (arith, next) in e)
    ∙ take-suc all n x lt
    ∙ ap (λ (y : List ℕ). take n all ++ (y ∷ [])) (sym is)

named-more : (a : List (List ℕ)) (x : List ℕ) → is_skipped x ≡ false → named_lines (a ++ (x ∷ [])) ≡ named_lines a ++ (x ∷ [])
named-more a x is = filter-append (λ line. not (is_skipped line)) a (x ∷ []) ∙ ap (λ t. named_lines a ++ cond (not t) (x ∷ []) []) is

named-skip : (a : List (List ℕ)) (x : List ℕ) → is_skipped x ≡ true → named_lines (a ++ (x ∷ [])) ≡ named_lines a
named-skip a x is = filter-append (λ line. not (is_skipped line)) a (x ∷ []) ∙ ap (λ t. named_lines a ++ cond (not t) (x ∷ []) []) is ∙ append-nil (named_lines a)

pub one_more : (names a : List (List ℕ)) (x : List ℕ) (new : List (List ℕ)) → SoFar names a → is_skipped x ≡ false → is_lawful x ≡ true → length names < 9999 → new ≡ names ++ (normal_form x ∷ []) → SoFar new (a ++ (x ∷ []))
one_more names a x new s is lawful room added = record {
  items = added ∙ ap (λ (l : List (List ℕ)). l ++ (normal_form x ∷ [])) s.items ∙ sym (map-append normal_form (named_lines a) (x ∷ [])) ∙ ap (λ (l : List (List ℕ)). map normal_form l) (sym (named-more a x is));
  lawful = ap (λ (l : List (List ℕ)). list_all is_lawful l) (named-more a x is) ∙ list_all-append is_lawful (named_lines a) (x ∷ []) ∙ (rw (s.lawful, lawful) refl);
  few = rw (named-more a x is) (omega (arith, length-append (named_lines a) (x ∷ []), count s, room));
}

pub skipped : (names a : List (List ℕ)) (x : List ℕ) → SoFar names a → is_skipped x ≡ true → SoFar names (a ++ (x ∷ []))
skipped names a x s is = record {
  items = s.items ∙ ap (λ (l : List (List ℕ)). map normal_form l) (sym (named-skip a x is));
  lawful = ap (λ (l : List (List ℕ)). list_all is_lawful l) (named-skip a x is) ∙ s.lawful;
  few = rw (named-skip a x is) s.few;
}

pub whole : (names parts : List (List ℕ)) → SoFar names parts → names_written (named_lines parts) ≡ Some names
whole names parts s =
    let le : nat_le (length (named_lines parts)) 9999 ≡ true = le-leb (length (named_lines parts)) 9999 s.few in
    rw (s.lawful, le) (ap (λ (l : List (List ℕ)). Some l) (sym s.items))

-- a line that is no name, or one too many
named-behind : (a b : List (List ℕ)) (x : List ℕ) → is_skipped x ≡ false → named_lines ((a ++ (x ∷ [])) ++ b) ≡ (named_lines a ++ (x ∷ [])) ++ named_lines b
named-behind a b x is = filter-append (λ line. not (is_skipped line)) (a ++ (x ∷ [])) b ∙ ap (λ (l : List (List ℕ)). l ++ named_lines b) (named-more a x is)

unlawful : (named : List (List ℕ)) → list_all is_lawful named ≡ false → names_written named ≡ None
unlawful named is = rw is refl

above : (a b : ℕ) → b < a → leb a b ≡ false
above a b lt = ⊎_elim (λ (yes : (leb a b ≡ true) × (a ≤ b)). absurd (let no : ⊥ = omega (arith, yes.1, lt) in no)) (λ (no : (leb a b ≡ false) × (b < a)). no.0) (leb_tells a b)

many : (named : List (List ℕ)) → 9999 < length named → names_written named ≡ None
many named lt = let gt : nat_le (length named) 9999 ≡ false = above (length named) 9999 lt in rw (gt, and-false (list_all is_lawful named)) refl

pub refused : (names a b : List (List ℕ)) (x : List ℕ) → SoFar names a → is_skipped x ≡ false → (9999 ≤ length names) ⊎ (is_lawful x ≡ false) → names_written (named_lines ((a ++ (x ∷ [])) ++ b)) ≡ None
refused names a b x s is bad = ⊎_elim
    (λ full. many (named_lines ((a ++ (x ∷ [])) ++ b)) (rw (named-behind a b x is) (omega (arith, full, count s, length-append (named_lines a ++ (x ∷ [])) (named_lines b), length-append (named_lines a) (x ∷ [])))))
    (λ (no : is_lawful x ≡ false).
    let both : (list_all is_lawful (named_lines a) && list_all is_lawful (x ∷ [])) ≡ false = rw (s.lawful, no) refl in
    let front : list_all is_lawful (named_lines a ++ (x ∷ [])) ≡ false = list_all-append is_lawful (named_lines a) (x ∷ []) ∙ both in
    unlawful (named_lines ((a ++ (x ∷ [])) ++ b))
    (ap (λ (l : List (List ℕ)). list_all is_lawful l) (named-behind a b x is)
    ∙ list_all-append is_lawful (named_lines a ++ (x ∷ [])) (named_lines b)
    ∙ ap (λ t. t && list_all is_lawful (named_lines b)) front))
    bad

-- ---- the whole series
pub series-some : (text : List ℕ) (names : List (List ℕ)) → SoFar names (slice_split is_feed text) → series_of text ≡ Some names
unfolding series_of
series-some text names s = whole names (slice_split is_feed text) s

-- with the line at place n the text is no series
pub series-none : (text : List ℕ) (n m : ℕ) (x : List ℕ) (names : List (List ℕ)) → m ≡ n + 1 → n < length (slice_split is_feed text) → x ≡ get_or (slice_split is_feed text) n x
    → SoFar names (take n (slice_split is_feed text)) → is_skipped x ≡ false → (9999 ≤ length names) ⊎ (is_lawful x ≡ false) → series_of text ≡ None
unfolding series_of
series-none text n m x names next lt is s kept bad =
    let all : List (List ℕ) = slice_split is_feed text in
    ap (λ (l : List (List ℕ)). names_written (named_lines l)) (sym (take-append-drop m all) ∙ ap (λ (l : List (List ℕ)). l ++ drop m all) (with_line all n m x next lt is))
    ∙ refused names (take n all) (drop m all) x s kept bad

-- ---- one line more
module _ (text : List ℕ) (n m : ℕ) (x : List ℕ) (names : List (List ℕ)) (next : m ≡ n + 1) (lt : n < length (slice_split is_feed text)) (is : x ≡ get_or (slice_split is_feed text) n x)
    (s : SoFar names (take n (slice_split is_feed text))) where
  pub line-named : (new : List (List ℕ)) → is_skipped x ≡ false → is_lawful x ≡ true → length names < 9999 → new ≡ names ++ (normal_form x ∷ []) → SoFar new (take m (slice_split is_feed text))
  line-named new kept good room added = subst (λ (l : List (List ℕ)). SoFar new l) (sym (with_line (slice_split is_feed text) n m x next lt is)) (one_more names (take n (slice_split is_feed text)) x new s kept good room added)

  pub line-skipped : is_skipped x ≡ true → SoFar names (take m (slice_split is_feed text))
  line-skipped skip = subst (λ (l : List (List ℕ)). SoFar names l) (sym (with_line (slice_split is_feed text) n m x next lt is)) (skipped names (take n (slice_split is_feed text)) x s skip)

pub IsBad-or : (e : StackFault) (file : StateFile) (P Q : Type 0) → (P → Q) → IsBadOr e file P → IsBadOr e file Q
IsBad-or e file P Q f bad = ⊎_elim (λ m. inl m) (λ (b : (e ≡ BadState file) × P). inr (b.0, f b.1)) bad
