-- A cleaned text has the lines of the given one.
use Rattle.std.proofs.Common.{◌≡◌, ◌⊎◌, inl, inr, ℕ, zero, suc, ◌+◌, ◌-◌, ◌≤◌, Bool, true, false, cond, List, [], ◌∷◌, ◌++◌, length, map, take, refl, sym, ap, subst, ◌∙◌, arith}
use Rattle.std.specs.Prelude.{Result, Ok, Err}
use Rattle.std.proofs.lemmas.List.Folds.{flat_map-map}
use Rattle.line_list.specs.Lines.{lines, IsLine, IsOpenLine, ArePieces}
use Rattle.line_list.specs.Completed.{completed}
use Rattle.line_list.proofs.Pieces.{lines-pieces, longer, pieces-only}
use Rattle.line_list.proofs.WholeLines.{closes, no-feed-take}
use Rattle.hunk_core.specs.Reading.{Fault}
use Rattle.patch_header.specs.declared.read_options.ReadOptions.{ReadOptions}
use Rattle.read_file_patch.specs.PlainPatch.{PlainPatch}
use Rattle.read_patch_text.specs.Patches.{patches_of}
use Rattle.read_patch_text.specs.Regions.{Region, regions_of}
use Rattle.read_clean_text.specs.Bare.{bare_line, bare_text, has_return, returns_of}
use Rattle.read_clean_text.specs.Cleaned.{cleaned, cleaned_by, cleaned_in, cleaned_lines, is_clean, line_unless, loses_in, region_at, IsLineForLine}
use Rattle.read_clean_text.proofs.CleanedLines.{joined}
use Rattle.read_clean_text.proofs.Lines.{return-long}

closes-at : (n : ℕ) (line : List ℕ) → n + 2 ≤ length line → IsLine line → IsLine (take n line ++ 10 ∷ [])
closes-at zero line le is = refl
closes-at (suc n) [] le is = absurd is
closes-at (suc n) (b ∷ []) le is = absurd (omega (arith, le))
closes-at (suc n) (b ∷ c ∷ bs) le is = longer b (take n (c ∷ bs) ++ 10 ∷ []) is.0 (closes-at n (c ∷ bs) (omega (arith, le)) is.1)

bare-whole : (line : List ℕ) → IsLine line → IsLine (bare_line line)
bare-whole line is = by (has_return line) refl
  where
    by : (v : Bool) → has_return line ≡ v → IsLine (cond v (take (length line - 2) line ++ 10 ∷ []) line)
    by true has = closes-at (length line - 2) line (omega (arith, return-long line has)) is
    by false has = is

bare-open : (line : List ℕ) → IsOpenLine line → IsLine (bare_line line) ⊎ IsOpenLine (bare_line line)
bare-open line is = by (has_return line)
  where
    by : (v : Bool) → IsLine (cond v (take (length line - 2) line ++ 10 ∷ []) line) ⊎ IsOpenLine (cond v (take (length line - 2) line ++ 10 ∷ []) line)
    by true = inl (closes (take (length line - 2) line) (no-feed-take (length line - 2) line is.1))
    by false = inr is

is-whole : (new line : List ℕ) → (new ≡ line) ⊎ (new ≡ bare_line line) → IsLine line → IsLine new
is-whole new line (inl same) is = subst IsLine (sym same) is
is-whole new line (inr bare) is = subst IsLine (sym bare) (bare-whole line is)

is-last : (new line : List ℕ) → (new ≡ line) ⊎ (new ≡ bare_line line) → IsLine line ⊎ IsOpenLine line → IsLine new ⊎ IsOpenLine new
is-last new line one (inl is) = inl (is-whole new line one is)
is-last new line (inl same) (inr is) = inr (subst IsOpenLine (sym same) is)
is-last new line (inr bare) (inr is) = subst (λ (l : List ℕ). IsLine l ⊎ IsOpenLine l) (sym bare) (bare-open line is)

still-pieces : (news olds : List (List ℕ)) → IsLineForLine news olds → ArePieces olds → ArePieces news
still-pieces [] [] same is = tt
still-pieces [] (line ∷ more) same is = absurd same
still-pieces (new ∷ news) [] same is = absurd same
still-pieces (new ∷ []) (line ∷ []) same is = is-last new line same.0 is
still-pieces (new ∷ []) (line ∷ next ∷ more) same is = absurd same.1
still-pieces (new ∷ second ∷ news) (line ∷ []) same is = absurd same.1
still-pieces (new ∷ second ∷ news) (line ∷ next ∷ more) same is = (is-whole new line same.0 is.0, still-pieces (second ∷ news) (next ∷ more) same.1 is.1)

-- the lines of what such lines join to are such lines
joined-so : (news : List (List ℕ)) (text whole : List ℕ) → whole ≡ joined news → IsLineForLine news (lines text) → IsLineForLine (lines whole) (lines text)
joined-so news text whole is same =
    subst (λ (ls : List (List ℕ)). IsLineForLine ls (lines text)) (sym (ap lines is ∙ pieces-only news (still-pieces news (lines text) same (lines-pieces text)))) same

all-same : (ls : List (List ℕ)) → IsLineForLine ls ls
all-same [] = tt
all-same (line ∷ ls) = (inl refl, all-same ls)

all-bare : (ls : List (List ℕ)) → IsLineForLine (map bare_line ls) ls
all-bare [] = tt
all-bare (line ∷ ls) = (inr refl, all-bare ls)

one-of : (loses : Bool) (line : List ℕ) → (line_unless loses line ≡ line) ⊎ (line_unless loses line ≡ bare_line line)
one-of true line = inr refl
one-of false line = inl refl

all-cleaned : (keeps : Bool) (returns : List Bool) (rs : List Region) (at : ℕ) (ls : List (List ℕ)) → IsLineForLine (cleaned_lines keeps returns rs at ls) ls
unfolding cleaned_lines
all-cleaned keeps returns rs at [] = tt
all-cleaned keeps returns rs at (line ∷ ls) = (one-of (loses_in keeps returns (region_at rs at) at line) line, all-cleaned keeps returns rs (at + length (bare_line line)) ls)

bare-joined : (text : List ℕ) → bare_text text ≡ joined (map bare_line (lines text))
unfolding bare_text
bare-joined text = sym (flat_map-map (λ l. l) bare_line (lines text))

by-patches : (keeps : Bool) (text : List ℕ) (r : Result (List PlainPatch) Fault) (rs : List Region) → IsLineForLine (lines (cleaned_by keeps text r rs)) (lines text)
by-patches keeps text (Ok ps) rs =
    joined-so (cleaned_lines keeps (returns_of text) rs 0 (lines text)) text (joined (cleaned_lines keeps (returns_of text) rs 0 (lines text))) refl (all-cleaned keeps (returns_of text) rs 0 (lines text))
by-patches keeps text (Err f) rs = joined-so (map bare_line (lines text)) text (bare_text text) (bare-joined text) (all-bare (lines text))

pub line-for-line : (ways : ReadOptions) (keeps : Bool) (text : List ℕ) → IsLineForLine (lines (cleaned ways keeps text)) (lines text)
unfolding cleaned
line-for-line ways keeps text = by (is_clean text)
  where
    by : (v : Bool) → IsLineForLine (lines (cond v text (cleaned_in ways keeps text (completed (bare_text text))))) (lines text)
    by true = all-same (lines text)
    by false = by-patches keeps text (patches_of ways (completed (bare_text text))) (regions_of ways (completed (bare_text text)))
