-- A text without its indent has the lines of the given one.
use Rattle.std.proofs.Common.{◌≡◌, ◌⊎◌, inl, inr, ℕ, zero, suc, ◌+◌, ◌≤◌, ◌<◌, Bool, true, false, not, ◌&&◌, ◌||◌, cond, List, [], ◌∷◌, ◌++◌, length, map, take, drop, None, Some, refl, sym, ap, subst, ◌∙◌, arith}
use Rattle.std.specs.Prelude.{nat_eq, nat_lt, unwrap_or}
use Rattle.std.specs.Cmp.Lexicographic.{same_text}
use Rattle.std.specs.List.{list_any, position_or_len, starts_with}
use Rattle.std.proofs.lemmas.Bool.{ltb-true}
use Rattle.std.proofs.lemmas.Bool.Decides.{nat_tests}
use Rattle.std.proofs.lemmas.List.{take-append-drop}
use Rattle.std.proofs.lemmas.List.Folds.{flat_map-map}
use Rattle.std.proofs.lemmas.List.Sums.{prefix_len-le-length}
use Rattle.line_list.specs.Lines.{lines, IsLine, IsOpenLine, ArePieces}
use Rattle.line_list.proofs.Pieces.{lines-pieces, pieces-only}
use Rattle.patch_header.specs.declared.read_options.ReadOptions.{ReadOptions}
use Rattle.patch_header.specs.Values.{blanks, first, is_blank, unblanked}
use Rattle.read_clean_text.specs.Indents.{begins_patch, has_indent, indent_of, loses_indent, unindented, unindented_line, without_indent, AreUnindented}

-- ---- blanks

first-is : (test : ℕ → Bool) (bs : List ℕ) → first test bs ≡ position_or_len test bs
first-is test bs = by (nat_lt (position_or_len test bs) (length bs)) refl
  where
    by : (v : Bool) → nat_lt (position_or_len test bs) (length bs) ≡ v → unwrap_or (cond v (Some (position_or_len test bs)) None) (length bs) ≡ position_or_len test bs
    by true e = refl
    by false e = let le : length bs ≤ position_or_len test bs = grind (arith, nat_tests) in omega (arith, le, prefix_len-le-length (λ x. not (test x)) bs)

none-before : (test : ℕ → Bool) (bs : List ℕ) → list_any test (take (position_or_len test bs) bs) ≡ false
none-before test [] = refl
none-before test (b ∷ bs) = by (test b) refl (none-before test bs)
  where
    by : (v : Bool) → test b ≡ v → list_any test (take (position_or_len test bs) bs) ≡ false → list_any test (take (cond (not v) (1 + position_or_len test bs) 0) (b ∷ bs)) ≡ false
    by true e later = refl
    by false e later =
        let more : 1 + position_or_len test bs ≡ suc (position_or_len test bs) = omega arith in
        ap (λ n. list_any test (take n (b ∷ bs))) more ∙ ap (λ v. v || list_any test (take (position_or_len test bs) bs)) e ∙ later

blanks-alone : (line : List ℕ) → list_any (λ b. not (is_blank b)) (take (blanks line) line) ≡ false
blanks-alone line = ap (λ n. list_any (λ b. not (is_blank b)) (take n line)) (first-is (λ b. not (is_blank b)) line) ∙ none-before (λ b. not (is_blank b)) line

pub indent-blank : (ls : List (List ℕ)) → list_any (λ b. not (is_blank b)) (indent_of ls) ≡ false
unfolding indent_of
indent-blank [] = refl
indent-blank (line ∷ ls) = by (begins_patch (unblanked line)) (indent-blank ls)
  where
    by : (v : Bool) → list_any (λ b. not (is_blank b)) (indent_of ls) ≡ false → list_any (λ b. not (is_blank b)) (cond v (take (blanks line) line) (indent_of ls)) ≡ false
    by true later = blanks-alone line
    by false later = later

-- ---- lines

both-true : (v w : Bool) → (v && w) ≡ true → (v ≡ true) × (w ≡ true)
both-true true w is = (refl, is)
both-true false w is = absurd cc

-- what begins with these bytes is these and what is left
with-front : (front line : List ℕ) → starts_with nat_eq line front ≡ true → line ≡ front ++ drop (length front) line
with-front front line is = sym (take-append-drop (length front) line) ∙ ap (λ l. l ++ drop (length front) line) (sym (same_text front (take (length front) line) (sym is)))

front-whole : (n : ℕ) (line : List ℕ) → n < length line → IsLine line → IsLine (drop n line)
front-whole zero line lt is = is
front-whole (suc n) [] lt is = absurd (omega (arith, lt))
front-whole (suc n) (b ∷ []) lt is = absurd (omega (arith, lt))
front-whole (suc n) (b ∷ c ∷ line) lt is = front-whole n (c ∷ line) (omega (arith, lt)) is.1

front-open : (n : ℕ) (line : List ℕ) → n < length line → IsOpenLine line → IsOpenLine (drop n line)
front-open zero line lt is = is
front-open (suc n) [] lt is = absurd (omega (arith, lt))
front-open (suc n) (b ∷ line) lt is = front-open n line (omega (arith, lt)) (omega (arith, lt), is.1.1)

module _ (indent : List ℕ) where
  longer-than : (line : List ℕ) → has_indent indent line ≡ true → length indent < length line
  longer-than line is = ltb-true (length indent) (length line) (both-true (starts_with nat_eq line indent) (nat_lt (length indent) (length line)) is).1

  one-of : (line : List ℕ) → (line ≡ unindented_line indent line) ⊎ (line ≡ indent ++ unindented_line indent line)
  one-of line = by (has_indent indent line) refl
    where
      by : (v : Bool) → has_indent indent line ≡ v → (line ≡ cond v (drop (length indent) line) line) ⊎ (line ≡ indent ++ cond v (drop (length indent) line) line)
      by true is = inr (with-front indent line (both-true (starts_with nat_eq line indent) (nat_lt (length indent) (length line)) is).0)
      by false is = inl refl

  still-whole : (line : List ℕ) → IsLine line → IsLine (unindented_line indent line)
  still-whole line is = by (has_indent indent line) refl
    where
      by : (v : Bool) → has_indent indent line ≡ v → IsLine (cond v (drop (length indent) line) line)
      by true has = front-whole (length indent) line (longer-than line has) is
      by false has = is

  still-open : (line : List ℕ) → IsOpenLine line → IsOpenLine (unindented_line indent line)
  still-open line is = by (has_indent indent line) refl
    where
      by : (v : Bool) → has_indent indent line ≡ v → IsOpenLine (cond v (drop (length indent) line) line)
      by true has = front-open (length indent) line (longer-than line has) is
      by false has = is

  still-last : (line : List ℕ) → IsLine line ⊎ IsOpenLine line → IsLine (unindented_line indent line) ⊎ IsOpenLine (unindented_line indent line)
  still-last line (inl is) = inl (still-whole line is)
  still-last line (inr is) = inr (still-open line is)

  still-pieces : (ls : List (List ℕ)) → ArePieces ls → ArePieces (map (unindented_line indent) ls)
  still-pieces [] is = tt
  still-pieces (line ∷ []) is = still-last line is
  still-pieces (line ∷ next ∷ more) is = (still-whole line is.0, still-pieces (next ∷ more) is.1)

  all-so : (ls : List (List ℕ)) → AreUnindented indent (map (unindented_line indent) ls) ls
  all-so [] = tt
  all-so (line ∷ ls) = (one-of line, all-so ls)

  all-same : (ls : List (List ℕ)) → AreUnindented indent ls ls
  all-same [] = tt
  all-same (line ∷ ls) = (inl refl, all-same ls)

  lines-of : (text : List ℕ) → lines (without_indent indent text) ≡ map (unindented_line indent) (lines text)
  lines-of text = ap lines (sym (flat_map-map (λ l. l) (unindented_line indent) (lines text))) ∙ pieces-only (map (unindented_line indent) (lines text)) (still-pieces (lines text) (lines-pieces text))

  without-so : (text : List ℕ) → AreUnindented indent (lines (without_indent indent text)) (lines text)
  without-so text = subst (λ (ls : List (List ℕ)). AreUnindented indent ls (lines text)) (sym (lines-of text)) (all-so (lines text))

pub unindented-lines : (ways : ReadOptions) (text : List ℕ) → AreUnindented (indent_of (lines text)) (lines (unindented ways text)) (lines text)
unfolding unindented
unindented-lines ways text = by (loses_indent ways text)
  where
    by : (v : Bool) → AreUnindented (indent_of (lines text)) (lines (cond v (without_indent (indent_of (lines text)) text) text)) (lines text)
    by true = without-so (indent_of (lines text)) text
    by false = all-same (indent_of (lines text)) (lines text)
