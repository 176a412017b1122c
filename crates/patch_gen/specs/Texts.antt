-- The text of a made file. Every line has 12 bytes with its line feed.
use Rattle.std.specs.Prelude.{ℕ, zero, suc, ◌+◌, ◌-◌, ◌*◌, ◌/◌, ◌%◌, ◌^◌, List, [], ◌∷◌, ◌++◌, codes}
use Rattle.std.specs.List.{flat_map, range_with_len, slice_range}
use Rattle.patch_gen.specs.Lcg.{next_state, draw}

-- the decimal digits of a number at so many places, the last of them the ones
abbrev pub in_places : ℕ → ℕ → List ℕ
in_places zero n = []
in_places (suc w) n = (48 + n / 10 ^ w % 10) ∷ in_places w n

-- `extra ` and a number in five digits
abbrev pub extra_line : ℕ → List ℕ
extra_line k = codes "extra " ++ in_places 5 k ++ 10 ∷ []

-- the line's number in seven digits, a space and its value in three
abbrev pub numbered_line : ℕ → ℕ → List ℕ
numbered_line j value = in_places 7 j ++ 32 ∷ in_places 3 value ++ 10 ∷ []

-- a file's first draw says how many extra lines it has
abbrev pub extra_count : ℕ → ℕ
extra_count x = draw x 1 % 5

-- the draws that follow it are the values of the numbered lines, in their order
abbrev pub line_value : ℕ → ℕ → ℕ
line_value x j = draw (next_state x) j % 1000

-- the numbered line j of the file whose draws begin at the state x
abbrev pub file_line : ℕ → ℕ → List ℕ
file_line x j = numbered_line j (line_value x j)

-- the extra lines, numbered from 1 on
abbrev pub extra_lines : ℕ → List ℕ
extra_lines count = flat_map extra_line (range_with_len 1 count)

-- the numbered lines, from 1 on
abbrev pub file_lines : ℕ → ℕ → List ℕ
file_lines x lines = flat_map (file_line x) (range_with_len 1 lines)

-- the file whose draws begin at the state x
abbrev pub file_text : ℕ → ℕ → List ℕ
file_text x lines = extra_lines (extra_count x) ++ file_lines x lines

-- the line of this number in lines of 12 bytes
abbrev pub line_in : List ℕ → ℕ → List ℕ
line_in bytes j = slice_range bytes (12 * (j - 1)) (12 * j)
