-- The tests of the grammar, in words.
use Rattle.std.proofs.Common.{◌≡◌, ◌↔◌, ◌⊎◌, inl, inr, ℕ, ◌<◌, Bool, true, false, cond, eqb, ◌&&◌, ◌||◌, not, List, [], ◌∷◌, ◌++◌, length, drop, Option, None, Some, refl, sym, ap, ◌∙◌, arith}
use Rattle.std.specs.Prelude.{is_some, replicate}
use Rattle.std.proofs.lemmas.Bool.{ne_eqb, and_parts}
use Rattle.std.proofs.Math.Bool.{or-true}
use Rattle.num_text.specs.Numbers.{number_at, is_digit}
use Rattle.hunk_core.specs.declared.Mark.{Mark}
use Rattle.hunk_core.specs.declared.Mark.TheVariants as its
use Rattle.hunk_core.specs.declared.Side.TheVariants.{Reversed}
use Rattle.hunk_core.specs.Sides.{is_on_side}
use Rattle.hunk_core.specs.PlainHunk.{Marked}
use Rattle.hunk_core.specs.Turned.{is_keep}
use Rattle.hunk_core.specs.LineTests.{after}
use Rattle.hunk_core.proofs.TextLemmas.{after-takes, after-again, has_some}
use Rattle.context_form.specs.Openings.{is_stars, has_number, opens_old, begins_hunk}
use Rattle.context_form.specs.Parts.{mark_at}
use Rattle.context_form.specs.Merging.{kept_count}
use Rattle.context_form.specs.Presence.{may_begin, begins_part, drops_alone, is_there, Begins, BeginsChange}
use Rattle.context_form.specs.Ranges.{unblanked}
use Rattle.context_form.specs.Grammar.{AreBlanks, mark_byte, stated_as}
use Rattle.context_form.proofs.Spaced.{blanked, blank-again, digit-unblank}
use Rattle.context_form.proofs.PartLemmas.{mark-takes, mark-again}
use Rattle.context_form.proofs.Pieces.{opens-both}

-- ---- the opening
abbrev stars : List ℕ
stars = replicate 15 42

abbrev before : List ℕ
before = 42 ∷ 42 ∷ 42 ∷ 32 ∷ []

number-first : (bytes : List ℕ) → is_some (number_at bytes) ≡ true → (d : ℕ) × (more : List ℕ) × (bytes ≡ d ∷ more) × (is_digit d ≡ true)
number-first [] e = absurd cc
number-first (b ∷ bytes) e = (b, bytes, refl, by (is_digit b) refl e)
  where
    by : (v : Bool) → is_digit b ≡ v → is_some (number_at (b ∷ bytes)) ≡ true → is_digit b ≡ true
    by true is k = is
    by false is k = absurd (let none : is_some (number_at (b ∷ bytes)) ≡ false = rw is refl in cc)

old-first : (o : Option (List ℕ)) → has_number o ≡ true → (bytes : List ℕ) × (o ≡ Some bytes) × (is_some (number_at (unblanked bytes)) ≡ true)
old-first None e = absurd cc
old-first (Some bytes) e = (bytes, refl, e)

abbrev Opening : List (List ℕ) → Type 0
Opening lines = (bytes : List ℕ) × (blanks : List ℕ) × (d : ℕ) × (more : List ℕ) × (rest : List (List ℕ)) × (lines ≡ (stars ++ bytes) ∷ (42 ∷ 42 ∷ 42 ∷ 32 ∷ (blanks ++ d ∷ more)) ∷ rest) × AreBlanks blanks × (is_digit d ≡ true)

opening-is : (lines : List (List ℕ)) → begins_hunk lines ≡ true → Opening lines
opening-is [] e = absurd cc
opening-is (line ∷ []) e = absurd (let b = and_parts (is_stars line) false e in let bad = b.1 in cc)
opening-is (line ∷ other ∷ rest) e =
    let b = and_parts (is_stars line) (opens_old other) e in
    let s = has_some (after stars line) b.0 in
    let o = old-first (after before other) b.1 in
    let d = number-first (unblanked o.0) o.2 in
    let f = blanked o.0 in
    let one : line ≡ stars ++ s.0 = after-takes stars line s.0 s.1 in
    let two : other ≡ 42 ∷ 42 ∷ 42 ∷ 32 ∷ (f.front ++ d.0 ∷ d.1) = after-takes before other o.0 o.1 ∙ ap (λ bs. before ++ bs) (f.parts ∙ ap (λ (bs : List ℕ). f.front ++ bs) d.2) in
    (s.0, f.front, d.0, d.1, rest, ap (λ l. l ∷ other ∷ rest) one ∙ ap (λ l. (stars ++ s.0) ∷ l ∷ rest) two, f.blanks, d.3)

old-again : (blanks : List ℕ) (d : ℕ) (more : List ℕ) → AreBlanks blanks → is_digit d ≡ true → has_number (after before (before ++ (blanks ++ d ∷ more))) ≡ true
old-again blanks d more h e = rw (after-again before (blanks ++ d ∷ more), blank-again blanks (d ∷ more) h (digit-unblank d e), e) refl

stars-again : (bytes : List ℕ) → is_some (after stars (stars ++ bytes)) ≡ true
stars-again bytes = rw (after-again stars bytes) refl

pub opening-words : (lines : List (List ℕ)) → begins_hunk lines ≡ true ↔ Opening lines
opening-words lines = (
  λ e. opening-is lines e,
  λ h. ap begins_hunk h.5 ∙ opens-both (stars ++ h.0) (before ++ (h.1 ++ h.2 ∷ h.3)) h.4 (stars-again h.0) (old-again h.1 h.2 h.3 h.6 h.7),
)

-- ---- whether the new part is there

-- a mark of the new part
abbrev Tells : Bool → List (List ℕ) → Type 0
Tells true rest = Begins 32 rest ⊎ BeginsChange rest
Tells false rest = BeginsChange rest

change-tells : (may_keep : Bool) (rest : List (List ℕ)) → BeginsChange rest → Tells may_keep rest
change-tells true rest h = inr h
change-tells false rest h = h

marked-tells : (may_keep changed : Bool) (mark : Mark) (line bytes : List ℕ) (rest : List (List ℕ)) → line ≡ mark_byte changed mark ∷ 32 ∷ bytes → is_on_side Reversed mark ≡ true → (may_keep || not (is_keep mark)) ≡ true → Tells may_keep (line ∷ rest)
marked-tells true changed its.Keep line bytes rest e on may = inl (bytes, rest, ap (λ l. l ∷ rest) e)
marked-tells false changed its.Keep line bytes rest e on may = absurd cc
marked-tells may_keep changed its.Drop line bytes rest e on may = absurd cc
marked-tells may_keep true its.Add line bytes rest e on may = change-tells may_keep (line ∷ rest) (inr (bytes, rest, ap (λ l. l ∷ rest) e))
marked-tells may_keep false its.Add line bytes rest e on may = change-tells may_keep (line ∷ rest) (inl (bytes, rest, ap (λ l. l ∷ rest) e))

tells : (may_keep : Bool) (rest : List (List ℕ)) → begins_part may_keep rest ≡ true → Tells may_keep rest
tells may_keep [] e = absurd cc
tells may_keep (line ∷ rest) e = by (mark_at Reversed line) refl e
  where
    by : (o : Option (Mark × Bool)) → mark_at Reversed line ≡ o → may_begin may_keep o ≡ true → Tells may_keep (line ∷ rest)
    by None is k = absurd cc
    by (Some m) is k = let t = mark-takes Reversed line m is in marked-tells may_keep t.changed m.0 line (drop 2 line) rest t.is t.on k

told-by : (may_keep changed : Bool) (mark : Mark) (bytes : List ℕ) (more rest : List (List ℕ)) → rest ≡ (mark_byte changed mark ∷ 32 ∷ bytes) ∷ more → is_on_side Reversed mark ≡ true → (may_keep || not (is_keep mark)) ≡ true → begins_part may_keep rest ≡ true
told-by may_keep changed mark bytes more rest e on may = ap (begins_part may_keep) e ∙ ap (may_begin may_keep) (mark-again Reversed changed mark bytes on) ∙ may

told-change : (may_keep : Bool) (rest : List (List ℕ)) → BeginsChange rest → begins_part may_keep rest ≡ true
told-change may_keep rest (inl h) = told-by may_keep false its.Add h.0 h.1 rest h.2 refl (or-true may_keep)
told-change may_keep rest (inr h) = told-by may_keep true its.Add h.0 h.1 rest h.2 refl (or-true may_keep)

told : (may_keep : Bool) (rest : List (List ℕ)) → Tells may_keep rest → begins_part may_keep rest ≡ true
told true rest (inl h) = told-by true false its.Keep h.0 h.1 rest h.2 refl refl
told true rest (inr h) = told-change true rest h
told false rest h = told-change false rest h

pub zero-words : (olds : List Marked) (rest : List (List ℕ)) → is_there (stated_as true 0 0) olds rest ≡ false
zero-words olds rest = refl

part-there : (may_keep : Bool) (start n : ℕ) (olds : List Marked) (rest : List (List ℕ)) → 0 < start → drops_alone olds ≡ not may_keep → is_there (stated_as true start n) olds rest ≡ begins_part may_keep rest
part-there may_keep start n olds rest some alone =
    let begins : eqb start 0 ≡ false = ne_eqb start 0 (λ z. absurd (omega (arith, some, z))) in
    ap (λ b. cond b false (begins_part (not (drops_alone olds)) rest)) begins ∙ ap (λ b. begins_part (not b) rest) alone ∙ ap (λ b. begins_part b rest) (twice may_keep)
  where
    twice : (b : Bool) → not (not b) ≡ b
    twice true = refl
    twice false = refl

drops-is : (m n : ℕ) → 0 < m → n ≡ 0 → (not (eqb m 0) && eqb n 0) ≡ true
drops-is m n some none = let a : eqb m 0 ≡ false = ne_eqb m 0 (λ z. absurd (omega (arith, some, z))) in rw (a, none) refl

drops-not : (m n : ℕ) → (m ≡ 0) ⊎ (0 < n) → (not (eqb m 0) && eqb n 0) ≡ false
drops-not m n (inl none) = rw none refl
drops-not m n (inr some) = let b : eqb n 0 ≡ false = ne_eqb n 0 (λ z. absurd (omega (arith, some, z))) in by (eqb m 0) b
  where
    by : (v : Bool) → eqb n 0 ≡ false → (not v && eqb n 0) ≡ false
    by true e = refl
    by false e = e

pub alone-words : (start n : ℕ) (olds : List Marked) (rest : List (List ℕ)) → 0 < start → 0 < length olds → kept_count olds ≡ 0 → is_there (stated_as true start n) olds rest ≡ true ↔ BeginsChange rest
alone-words start n olds rest some there none =
    let is = part-there false start n olds rest some (drops-is (length olds) (kept_count olds) there none) in
    (λ e. tells false rest (sym is ∙ e), λ h. is ∙ told false rest h)

pub other-words : (start n : ℕ) (olds : List Marked) (rest : List (List ℕ)) → 0 < start → (length olds ≡ 0) ⊎ (0 < kept_count olds) → is_there (stated_as true start n) olds rest ≡ true ↔ (Begins 32 rest ⊎ BeginsChange rest)
other-words start n olds rest some other =
    let is = part-there true start n olds rest some (drops-not (length olds) (kept_count olds) other) in
    (λ e. tells true rest (sym is ∙ e), λ h. is ∙ told true rest h)

pub two-words : (start n : ℕ) (olds : List Marked) (rest : List (List ℕ)) → is_there (stated_as false start n) olds rest ≡ true ↔ (Begins 32 rest ⊎ BeginsChange rest)
two-words start n olds rest = (λ e. tells true rest e, λ h. told true rest h)
