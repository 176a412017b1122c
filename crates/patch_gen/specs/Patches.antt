-- The patch over a made file, in the unified form (GNU diffutils manual, "Detailed Description of Unified Format"). Its hunks speak of the numbered lines as if the extra ones weren't there.
use Rattle.std.specs.Prelude.{ℕ, ◌+◌, ◌-◌, ◌*◌, List, [], ◌∷◌, ◌++◌, codes}
use Rattle.std.specs.List.{flat_map, range_with_len}
use Rattle.num_text.specs.Numbers.{decimal}
use Rattle.patch_gen.specs.Texts.{in_places}

-- `gen/f` and the file's number
abbrev pub file_name : ℕ → List ℕ
file_name i = codes "gen/f" ++ decimal i

-- both header lines name the file
abbrev pub header_lines : ℕ → List ℕ
header_lines i = codes "--- " ++ file_name i ++ 10 ∷ (codes "+++ " ++ file_name i ++ 10 ∷ [])

-- `new ` and a number in seven digits
abbrev pub new_line : ℕ → List ℕ
new_line j = codes "new " ++ in_places 7 j ++ 10 ∷ []

-- seven lines on both sides, from the same line on
abbrev pub range_line : ℕ → List ℕ
range_line s = codes "@@ -" ++ decimal s ++ codes ",7 +" ++ decimal s ++ codes ",7 @@" ++ 10 ∷ []

-- three lines of context
abbrev pub kept_lines : (ℕ → List ℕ) → ℕ → List ℕ
kept_lines line from = flat_map (λ j. 32 ∷ line j) (range_with_len from 3)

-- seven lines from s on, the fourth of them dropped and the new one added after it
abbrev pub hunk_from : (ℕ → List ℕ) → ℕ → List ℕ → List ℕ
hunk_from line s new = range_line s ++ kept_lines line s ++ (45 ∷ line (s + 3)) ++ (43 ∷ new) ++ kept_lines line (s + 4)

-- hunk h, counted from 1
abbrev pub hunk_text : (ℕ → List ℕ) → ℕ → List ℕ
hunk_text line h = hunk_from line (20 * h - 13) (new_line (20 * h - 10))

-- the header lines of file i, and so many hunks over its lines
abbrev pub file_patch : (ℕ → List ℕ) → ℕ → ℕ → List ℕ
file_patch line i hunks = header_lines i ++ flat_map (hunk_text line) (range_with_len 1 hunks)
