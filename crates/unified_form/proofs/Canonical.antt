-- The canonical text of a hunk spells it.
use Rattle.std.proofs.Common.{◌≡◌, ◌≢◌, ℕ, ◌-◌, ◌⊎◌, Bool, true, false, cond, eqb, List, [], ◌∷◌, ◌++◌, length, take, refl, sym, ap, subst, ◌∙◌, append_assoc, arith, inl, inr}
use Rattle.std.proofs.lemmas.Bool.{eqb-true, eqb-false}
use Rattle.std.proofs.lemmas.List.{take_at, length-append}
use Rattle.std.specs.List.{AllByRecursion}
use Rattle.std.specs.Prelude.{codes}
use Rattle.std.specs.List.{flat_map}
use Rattle.std.proofs.lemmas.List.Concat.{flat_map-cons, flat_map-append}
use Rattle.line_list.specs.Lines.{lines, IsLine}
use Rattle.num_text.specs.Numbers.{decimal, is_digit, AllDigits}
use Rattle.hunk_core.specs.declared.Mark.{Mark}
use Rattle.hunk_core.specs.declared.Mark.TheVariants.{Keep, Drop, Add}
use Rattle.hunk_core.specs.PlainHunk.{Marked, PlainHunk}
use Rattle.hunk_core.specs.Writing.{no_newline}
use Rattle.line_list.proofs.Pieces.{longer}
use Rattle.line_list.proofs.WholeLines.{AreLines, lines-both, lines-whole}
use Rattle.hunk_core.proofs.LineEnds.{line-ends, is_clean, backslash}
use Rattle.unified_form.specs.Bodies.{is_last_line}
use Rattle.hunk_core.specs.LineTests.{marked, unended}
use Rattle.unified_form.specs.Grammar.{mark_byte, counts_of, SpellsLine, SpellsBody, SpellsRange, SpellsHunk, ranges_of, AreFair}
use Rattle.unified_form.specs.Canonical.{range_text, range_line_text, line_text, canonical}
use Rattle.hunk_core.specs.LineTests.{ends_line}
use Rattle.num_text.proofs.Decimal.{decimal-numeral}
use Rattle.line_list.proofs.Choices.{chosen}

abbrev pub line_lines : Marked → List (List ℕ)
line_lines m = cond (ends_line m.line) ((mark_byte m.mark ∷ m.line) ∷ []) ((mark_byte m.mark ∷ (m.line ++ 10 ∷ [])) ∷ no_newline ∷ [])

abbrev pub body_lines : List Marked → List (List ℕ)
body_lines [] = []
body_lines (m ∷ body) = line_lines m ++ body_lines body

-- the lines of the canonical text
abbrev pub hunk_lines : PlainHunk → List (List ℕ)
hunk_lines h = range_line_text h.old_start (counts_of h.body).old h.new_start (counts_of h.body).new ∷ body_lines h.body

-- a line has a line feed at its end, or it has none and is the last of its sides
abbrev pub LinesFit : List Marked → Type 0
LinesFit [] = Unit {0}
LinesFit (m ∷ body) = (IsLine m.line ⊎ (AllByRecursion (λ b. b ≢ 10) m.line × (is_last_line m.mark (counts_of body) ≡ true))) × LinesFit body

-- what has a canonical text
pub record IsHunk (least : ℕ) (h : PlainHunk) : Type 0 where
  pub ranges : AreFair least (ranges_of h)
  pub body : LinesFit h.body

pub range-spelled : (start count : ℕ) → SpellsRange (range_text start count) start count
range-spelled start count =
    elim (chosen (eqb count 1) (decimal start) (decimal start ++ 44 ∷ decimal count) _ refl) [
      | inl one ↦ (decimal start, decimal-numeral start, inl (eqb-true count 1 one.0, sym one.1))
      | inr many ↦ (decimal start, decimal-numeral start, inr (decimal count, decimal-numeral count, sym many.1))
    ]

-- ---- lines
no-end : (line : List ℕ) → AllByRecursion (λ b. b ≢ 10) line → ends_line line ≡ false
no-end [] h = refl
no-end (b ∷ []) h = let ne = h.0 in grind arith
no-end (b ∷ c ∷ bytes) h = no-end (c ∷ bytes) h.1

shorter : (mark : Mark) (line : List ℕ) → marked mark line ≡ unended (marked mark (line ++ 10 ∷ []))
shorter mark line =
    let len : length (line ++ 10 ∷ []) - 1 ≡ length line = omega (arith, length-append line (10 ∷ [])) in
    ap (marked mark) (sym (ap (λ n. take n (line ++ 10 ∷ [])) len ∙ take_at line (10 ∷ []) (length line) refl))

line-spelled : (m : Marked) (body : List Marked) → IsLine m.line ⊎ (AllByRecursion (λ b. b ≢ 10) m.line × (is_last_line m.mark (counts_of body) ≡ true)) → SpellsLine (line_lines m) m body
line-spelled m body (inl h) = subst (λ (b : Bool). SpellsLine (cond b ((mark_byte m.mark ∷ m.line) ∷ []) ((mark_byte m.mark ∷ (m.line ++ 10 ∷ [])) ∷ no_newline ∷ [])) m body) (sym (line-ends m.line h)) (inl refl)
line-spelled m body (inr h) = subst (λ (b : Bool). SpellsLine (cond b ((mark_byte m.mark ∷ m.line) ∷ []) ((mark_byte m.mark ∷ (m.line ++ 10 ∷ [])) ∷ no_newline ∷ [])) m body) (sym (no-end m.line h.0))
    (backslash, h.1, marked m.mark (m.line ++ 10 ∷ []), inl refl, shorter m.mark m.line)

pub body-spelled : (body : List Marked) → LinesFit body → SpellsBody (body_lines body) body
body-spelled [] h = refl
body-spelled (m ∷ body) h = (line_lines m, body_lines body, refl, line-spelled m body h.0, body-spelled body h.1)

pub hunk-spelled : (least : ℕ) (h : PlainHunk) → IsHunk least h → SpellsHunk least (hunk_lines h) h
hunk-spelled least h is = (
  record {
    old = range_text h.old_start (counts_of h.body).old;
    new = range_text h.new_start (counts_of h.body).new;
    rest = 10 ∷ [];
    parts = refl;
    old_range = range-spelled h.old_start (counts_of h.body).old;
    new_range = range-spelled h.new_start (counts_of h.body).new;
  },
  is.ranges,
  body-spelled h.body is.body,
)

-- ---- the text

no-feed : (ds : List ℕ) → AllDigits ds → AllByRecursion (λ b. b ≢ 10) ds
no-feed [] h = tt
no-feed (d ∷ ds) h = (not_feed d h.0, no-feed ds h.1)
  where
    not_feed : (b : ℕ) → is_digit b ≡ true → b ≢ 10
    not_feed b is e = let ten : is_digit 10 ≡ true = subst (λ (x : ℕ). is_digit x ≡ true) e is in cc

pub both : (xs ys : List ℕ) → AllByRecursion (λ b. b ≢ 10) xs → AllByRecursion (λ b. b ≢ 10) ys → AllByRecursion (λ b. b ≢ 10) (xs ++ ys)
both [] ys h k = k
both (x ∷ xs) ys h k = (h.0, both xs ys h.1 k)

pub closes : (bs : List ℕ) → AllByRecursion (λ b. b ≢ 10) bs → IsLine (bs ++ 10 ∷ [])
closes [] h = refl
closes (b ∷ []) h = (h.0, refl)
closes (b ∷ c ∷ bs) h = (h.0, closes (c ∷ bs) h.1)

pub range-clean : (start count : ℕ) → AllByRecursion (λ b. b ≢ 10) (range_text start count)
range-clean start count =
    elim (chosen (eqb count 1) (decimal start) (decimal start ++ 44 ∷ decimal count) _ refl) [
      | inl one ↦ subst (λ t. AllByRecursion (λ b. b ≢ 10) t) one.1 (no-feed (decimal start) (decimal-numeral start).digits)
      | inr many ↦ subst (λ t. AllByRecursion (λ b. b ≢ 10) t) many.1 (both (decimal start) (44 ∷ decimal count) (no-feed (decimal start) (decimal-numeral start).digits) ((λ e. cc), no-feed (decimal count) (decimal-numeral count).digits))
    ]

pub line-prefix : (xs ys : List ℕ) → AllByRecursion (λ b. b ≢ 10) xs → IsLine ys → IsLine (xs ++ ys)
line-prefix [] ys h k = k
line-prefix (x ∷ xs) ys h k = longer x (xs ++ ys) h.0 (line-prefix xs ys h.1 k)

pub clean : (bs : List ℕ) → is_clean bs ≡ true → AllByRecursion (λ b. b ≢ 10) bs
clean [] e = tt
clean (b ∷ bs) e =
    elim (chosen (eqb b 10) false (is_clean bs) true e) [
      | inl feed ↦ absurd cc
      | inr other ↦ (eqb-false b 10 other.0, clean bs other.1)
    ]

range-line : (a b c d : ℕ) → IsLine (range_line_text a b c d)
range-line a b c d =
    line-prefix (64 ∷ 64 ∷ 32 ∷ 45 ∷ []) _ (clean (64 ∷ 64 ∷ 32 ∷ 45 ∷ []) refl)
    (line-prefix (range_text a b) _ (range-clean a b)
    (line-prefix (32 ∷ 43 ∷ []) _ (clean (32 ∷ 43 ∷ []) refl)
    (line-prefix (range_text c d) _ (range-clean c d)
    (line-prefix (32 ∷ 64 ∷ 64 ∷ []) (10 ∷ []) (clean (32 ∷ 64 ∷ 64 ∷ []) refl) refl))))

no-newline-line : IsLine no_newline
no-newline-line = line-prefix (92 ∷ 32 ∷ codes "No newline at end of file") (10 ∷ []) (clean (92 ∷ 32 ∷ codes "No newline at end of file") refl) refl

mark-clean : (mark : Mark) → mark_byte mark ≢ 10
mark-clean Keep = λ e. cc
mark-clean Drop = λ e. cc
mark-clean Add = λ e. cc

line-lines : (m : Marked) (body : List Marked) → IsLine m.line ⊎ (AllByRecursion (λ b. b ≢ 10) m.line × (is_last_line m.mark (counts_of body) ≡ true)) → AreLines (line_lines m)
line-lines m body (inl h) = subst (λ (b : Bool). AreLines (cond b ((mark_byte m.mark ∷ m.line) ∷ []) ((mark_byte m.mark ∷ (m.line ++ 10 ∷ [])) ∷ no_newline ∷ []))) (sym (line-ends m.line h)) (longer (mark_byte m.mark) m.line (mark-clean m.mark) h, tt)
line-lines m body (inr h) = subst (λ (b : Bool). AreLines (cond b ((mark_byte m.mark ∷ m.line) ∷ []) ((mark_byte m.mark ∷ (m.line ++ 10 ∷ [])) ∷ no_newline ∷ []))) (sym (no-end m.line h.0)) (longer (mark_byte m.mark) (m.line ++ 10 ∷ []) (mark-clean m.mark) (closes m.line h.0), (no-newline-line, tt))

pub body-lines : (body : List Marked) → LinesFit body → AreLines (body_lines body)
body-lines [] h = tt
body-lines (m ∷ body) h = lines-both (line_lines m) (body_lines body) (line-lines m body h.0) (body-lines body h.1)

-- ---- the bytes are these lines

line-joined : (m : Marked) → flat_map (λ line. line) (line_lines m) ≡ line_text m
line-joined m = by (ends_line m.line)
  where
    by : (v : Bool) → flat_map (λ line. line) (cond v ((mark_byte m.mark ∷ m.line) ∷ []) ((mark_byte m.mark ∷ (m.line ++ 10 ∷ [])) ∷ no_newline ∷ [])) ≡ mark_byte m.mark ∷ (m.line ++ cond v [] (10 ∷ no_newline))
    by true = flat_map-cons (λ line. line) (mark_byte m.mark ∷ m.line) []
    by false = flat_map-cons (λ line. line) (mark_byte m.mark ∷ (m.line ++ 10 ∷ [])) (no_newline ∷ []) ∙ ap (λ bs. mark_byte m.mark ∷ bs) (append_assoc m.line (10 ∷ []) no_newline)

pub body-joined : (body : List Marked) → flat_map (λ line. line) (body_lines body) ≡ flat_map line_text body
body-joined [] = refl
body-joined (m ∷ body) =
    flat_map-append (λ line. line) (line_lines m) (body_lines body) ∙ ap (λ bs. bs ++ flat_map (λ line. line) (body_lines body)) (line-joined m) ∙ ap (λ bs. line_text m ++ bs) (body-joined body)
    ∙ sym (flat_map-cons line_text m body)

joined-is : (h : PlainHunk) → flat_map (λ line. line) (hunk_lines h) ≡ canonical h
joined-is h =
    flat_map-cons (λ line. line) (range_line_text h.old_start (counts_of h.body).old h.new_start (counts_of h.body).new) (body_lines h.body)
    ∙ ap (λ bs. range_line_text h.old_start (counts_of h.body).old h.new_start (counts_of h.body).new ++ bs) (body-joined h.body)

-- the lines of the canonical text with a rest behind it
pub canonical-lines : (least : ℕ) (h : PlainHunk) (rest : List ℕ) → IsHunk least h → lines (canonical h ++ rest) ≡ hunk_lines h ++ lines rest
canonical-lines least h rest is =
    ap (λ bs. lines (bs ++ rest)) (sym (joined-is h))
    ∙ lines-whole (hunk_lines h) rest (range-line h.old_start (counts_of h.body).old h.new_start (counts_of h.body).new, body-lines h.body is.body)
