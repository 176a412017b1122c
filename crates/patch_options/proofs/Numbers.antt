-- A number that fills its text, and one that doesn't.
use Rattle.std.proofs.Common.{◌≡◌, ℕ, ◌≤◌, ◌-◌, ◌^◌, Bool, if◌then◌else◌, List, [], ◌∷◌, Some, None, length, drop, ap, refl, sym, length-drop, ◌∙◌, arith}
use Rattle.std.proofs.lemmas.Bool.{lt-ltb}
use Rattle.std.proofs.lemmas.List.{drop_all}
use Rattle.num_text.specs.Numbers.{IsNumberAt, number_at}
use Rattle.patch_options.specs.Forms.{number_of, whole_number}

with_rest : (text : List ℕ) (value : ℕ) (rest : List ℕ) → number_at text ≡ Some (value, rest) → (rest ≡ [] → ⊥) → None ≡ number_of text
unfolding number_of
with_rest text value [] e some = absurd (some refl)
with_rest text value (b ∷ bs) e some = rw e refl

nothing_left : (text : List ℕ) (end : ℕ) → end ≤ length text → drop end text ≡ [] → end ≡ length text
nothing_left text end within e = let none : length text - end ≡ 0 = sym (length-drop end text) ∙ ap length e in omega arith

pub not_whole : (text : List ℕ) (value end : ℕ) → IsNumberAt text 0 value end → (end ≡ length text → ⊥) → None ≡ number_of text
not_whole text value end number short = with_rest text value (drop end text) number.number (λ e. short (nothing_left text end number.high e))

-- one that fills it
pub fills : (bytes text : List ℕ) (value end : ℕ) → bytes ≡ text → IsNumberAt bytes 0 value end → end ≡ length text → Some value ≡ number_of text
unfolding number_of
fills bytes text value end same number all =
    let past : length bytes ≤ end = let long : length bytes ≡ length text = ap length same in omega arith in
    sym (ap (λ (b : Bool). if b then Some value else None) (lt-ltb value (2 ^ 32) number.fits))
    ∙ (sym (ap whole_number (number.number ∙ ap (λ (rest : List ℕ). Some (value, rest)) (drop_all end bytes past))) ∙ ap number_of same)
