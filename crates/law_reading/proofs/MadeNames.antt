-- What the header lines of a made file say.
use Rattle.std.proofs.Common.{◌≡◌, ◌≢◌, ℕ, Bool, true, false, cond, not, eqb, List, [], ◌∷◌, ◌++◌, length, take, drop, None, Some, refl, sym, ap, ◌∙◌, arith}
use Rattle.std.specs.Prelude.{nat_lt, unwrap_or, codes}
use Rattle.std.specs.List.{AllByRecursion, position_or_len}
use Rattle.std.proofs.Math.Seq.{drop-append_seam, take-append_seam}
use Rattle.std.proofs.lemmas.Bool.Decides.{nat_tests}
use Rattle.std.proofs.lemmas.List.{append-nil}
use Rattle.std.proofs.lemmas.Bool.{or_parts}
use Rattle.num_text.specs.Numbers.{is_digit, decimal, AllDigits}
use Rattle.num_text.proofs.Decimal.{decimal-numeral}
use Rattle.hunk_core.specs.declared.Form.TheVariants.{Unified}
use Rattle.stamp.specs.Reading.{digit_at, four_at, named_of, numeric_day, numeric_of, stamp_of, two_at}
use Rattle.stamp.specs.declared.Stamp.TheVariants.{Unknown}
use Rattle.patch_header.specs.Values.{bare_length, blanks, first, is_blank, name_length, unblanked}
use Rattle.patch_header.specs.declared.openings.Stop.TheVariants.{Opening}
use Rattle.patch_header.specs.declared.read_options.ReadOptions.{ReadOptions}
use Rattle.patch_gen.specs.Patches.{file_name}
use Rattle.law_reading.specs.Said.{bytes_before, header_said, last_behind, name_said, new_line, old_line, stamp_said}
use Rattle.law_reading.proofs.FlipHeaders.{Head, behind-is, head_lines, index-other, last-three, minus-index, minus-minus, minus-plus, or-first, or-second, or-third, plus-index, plus-minus, plus-plus, prereq-none, same-header, shown, shown-no, shown-yes}
use Rattle.law_reading.proofs.Lines.{Minus, Plus, Index}
use Rattle.law_reading.proofs.Shown.{first-is}
use Rattle.law_reading.proofs.Headed.{minus-is, plus-is}
use Rattle.law_reading.specs.MadePatches.{made_header}
use Rattle.line_list.proofs.WholeLines.{NoFeed}

-- ---- a name without blanks

abbrev IsUnbroken : List ℕ → Type 0
IsUnbroken bs = AllByRecursion (λ b. is_blank b ≡ false) bs

none-stops : (p : ℕ → Bool) (bs : List ℕ) → AllByRecursion (λ b. p b ≡ false) bs → position_or_len p bs ≡ length bs
none-stops p [] all = refl
none-stops p (b ∷ bs) all = let again : position_or_len p bs ≡ length bs = none-stops p bs all.1 in rw (all.0) (omega (arith, again))

no-tabs : (bs : List ℕ) → IsUnbroken bs → AllByRecursion (λ b. eqb b 9 ≡ false) bs
no-tabs [] all = tt
no-tabs (b ∷ bs) all = ((or_parts (eqb b 32) (eqb b 9) all.0).1, no-tabs bs all.1)

no-spaces : (bs : List ℕ) → IsUnbroken bs → AllByRecursion (λ b. eqb b 32 ≡ false) bs
no-spaces [] all = tt
no-spaces (b ∷ bs) all = ((or_parts (eqb b 32) (eqb b 9) all.0).0, no-spaces bs all.1)

bare-whole : (bs : List ℕ) → IsUnbroken bs → bare_length bs ≡ length bs
bare-whole bs all =
    let none : position_or_len (λ b. eqb b 9) bs ≡ length bs = none-stops (λ b. eqb b 9) bs (no-tabs bs all) in
    let more : nat_lt (position_or_len (λ b. eqb b 9) bs) (length bs) ≡ false = grind (arith, nat_tests) in
    ap (λ v. unwrap_or (cond v (Some (position_or_len (λ b. eqb b 9) bs)) None) (first (λ b. eqb b 32) bs)) more
    ∙ first-is (λ b. eqb b 32) bs ∙ none-stops (λ b. eqb b 32) bs (no-spaces bs all)

length-whole : (c : ℕ) (cs : List ℕ) → eqb c 34 ≡ false → IsUnbroken (c ∷ cs) → name_length (c ∷ cs) ≡ length (c ∷ cs)
length-whole c cs bare all = rw bare (bare-whole (c ∷ cs) all)

unblanked-whole : (c : ℕ) (cs : List ℕ) → is_blank c ≡ false → unblanked (c ∷ cs) ≡ c ∷ cs
unblanked-whole c cs plain =
    let none : blanks (c ∷ cs) ≡ 0 = first-is (λ b. not (is_blank b)) (c ∷ cs) ∙ rw plain refl in
    ap (λ n. drop n (c ∷ cs)) none

-- such a name is read whole, and no stamp behind it
name-read : (c : ℕ) (cs : List ℕ) → eqb c 34 ≡ false → IsUnbroken (c ∷ cs) → name_said (Some (c ∷ cs)) ≡ Some (c ∷ cs)
name-read c cs bare all =
    let bs : List ℕ = c ∷ cs in
    let some : eqb (length bs) 0 ≡ false = grind (arith, nat_tests) in
    ap (λ x. bytes_before (name_length x) x) (unblanked-whole c cs all.0)
    ∙ ap (λ n. bytes_before n bs) (length-whole c cs bare all)
    ∙ ap (λ v. cond v None (Some (take (length bs) bs))) some
    ∙ ap (λ (x : List ℕ). Some x) (ap (take (length bs)) (sym (append-nil bs)) ∙ take-append_seam bs [])

stamp-none : stamp_of [] ≡ Unknown
unfolding numeric_of numeric_day four_at two_at digit_at named_of
stamp-none = refl

stamp-read : (c : ℕ) (cs : List ℕ) → eqb c 34 ≡ false → IsUnbroken (c ∷ cs) → stamp_said (Some (c ∷ cs)) ≡ Unknown
stamp-read c cs bare all =
    let bs : List ℕ = c ∷ cs in
    ap (λ x. stamp_of (unblanked (drop (name_length x) x))) (unblanked-whole c cs all.0)
    ∙ ap (λ n. stamp_of (unblanked (drop n bs))) (length-whole c cs bare all)
    ∙ ap (λ x. stamp_of (unblanked x)) (ap (drop (length bs)) (sym (append-nil bs)) ∙ drop-append_seam bs [])
    ∙ stamp-none

-- ---- the name of a made file

digit-plain : (d : ℕ) → is_digit d ≡ true → is_blank d ≡ false
digit-plain d is = grind arith

digits-plain : (ds : List ℕ) → AllDigits ds → IsUnbroken ds
digits-plain [] all = tt
digits-plain (d ∷ ds) all = (digit-plain d all.0, digits-plain ds all.1)

name-plain : (i : ℕ) → IsUnbroken (file_name i)
name-plain i = (refl, (refl, (refl, (refl, (refl, digits-plain (decimal i) (decimal-numeral i).digits)))))

digit-clean : (d : ℕ) → is_digit d ≡ true → d ≢ 10
digit-clean d is e = let bad : is_digit 10 ≡ true = ap is_digit (sym e) ∙ is in absurd (cc)

digits-clean : (ds : List ℕ) → AllDigits ds → NoFeed ds
digits-clean [] all = tt
digits-clean (d ∷ ds) all = (digit-clean d all.0, digits-clean ds all.1)

pub name-clean : (i : ℕ) → NoFeed (file_name i)
name-clean i = ((λ e. cc), ((λ e. cc), ((λ e. cc), ((λ e. cc), ((λ e. cc), digits-clean (decimal i) (decimal-numeral i).digits)))))

-- ---- the two lines

-- the old name's line, and the new one's
abbrev pub heads : ℕ → List Head
heads i = (Minus, file_name i) ∷ (Plus, file_name i) ∷ []

old-is : (n : List ℕ) → old_line Unified (head_lines ((Minus, n) ∷ (Plus, n) ∷ [])) ≡ Some n
old-is n =
    last-three (codes "--- ") Minus Plus None (Some n) (Some n)
    ∙ or-second (shown (codes "--- ") Plus (Some n)) (shown (codes "--- ") Minus (Some n)) (shown (codes "--- ") Index None) (Some n) (shown-no (codes "--- ") Plus minus-plus (Some n)) (shown-yes (codes "--- ") Minus minus-minus (Some n)) (shown-no (codes "--- ") Index minus-index None)

new-is : (n : List ℕ) → new_line Unified (head_lines ((Minus, n) ∷ (Plus, n) ∷ [])) ≡ Some n
new-is n =
    last-three (codes "+++ ") Minus Plus None (Some n) (Some n)
    ∙ or-first (shown (codes "+++ ") Plus (Some n)) (shown (codes "+++ ") Minus (Some n)) (shown (codes "+++ ") Index None) (Some n) (shown-yes (codes "+++ ") Plus plus-plus (Some n)) (shown-no (codes "+++ ") Minus plus-minus (Some n)) (shown-no (codes "+++ ") Index plus-index None)

index-is : (n : List ℕ) → last_behind (codes "Index:") (head_lines ((Minus, n) ∷ (Plus, n) ∷ [])) ≡ None
index-is n =
    last-three (codes "Index:") Minus Plus None (Some n) (Some n)
    ∙ or-third (shown (codes "Index:") Plus (Some n)) (shown (codes "Index:") Minus (Some n)) (shown (codes "Index:") Index None) (shown-no (codes "Index:") Plus (index-other Plus plus-is) (Some n)) (shown-no (codes "Index:") Minus (index-other Minus minus-is) (Some n))

prereq-is : (n : List ℕ) → last_behind (codes "Prereq:") (head_lines ((Minus, n) ∷ (Plus, n) ∷ [])) ≡ None
prereq-is n =
    last-three (codes "Prereq:") Minus Plus None (Some n) (Some n)
    ∙ or-third (shown (codes "Prereq:") Plus (Some n)) (shown (codes "Prereq:") Minus (Some n)) (shown (codes "Prereq:") Index None) (shown-no (codes "Prereq:") Plus (prereq-none Plus) (Some n)) (shown-no (codes "Prereq:") Minus (prereq-none Minus) (Some n))

pub header-read : (ways : ReadOptions) (i : ℕ) (body : List (List ℕ)) → header_said ways (head_lines (heads i)) body (Opening Unified) ≡ Some (made_header i)
header-read ways i body =
    let n : List ℕ = file_name i in
    let name : name_said (Some n) ≡ Some n = name-read 103 (101 ∷ 110 ∷ 47 ∷ 102 ∷ decimal i) refl (name-plain i) in
    let stamp : stamp_said (Some n) ≡ Unknown = stamp-read 103 (101 ∷ 110 ∷ 47 ∷ 102 ∷ decimal i) refl (name-plain i) in
    ap (λ x. Some x)
    (behind-is ways Unified (heads i) (Some n) (Some n) None (old-is n) (new-is n) (index-is n) (prereq-is n)
    ∙ same-header Unified (name_said (Some n)) (name_said (Some n)) None (Some n) (Some n) None (stamp_said (Some n)) (stamp_said (Some n)) Unknown Unknown name name refl stamp stamp)
