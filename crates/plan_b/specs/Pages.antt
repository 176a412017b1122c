-- Padded pages: each line of a file is a record of one width, and a page holds as many as fit it.
use Rattle.std.specs.Prelude.{ℕ, ◌+◌, ◌*◌, ◌/◌, List, length, take, drop}
use Rattle.std.specs.List.{flat_map, range_with_len}
use Rattle.std.specs.Int.{div_ceil}
use Rattle.page_pair.specs.Records.{longest, padded, record_of}

-- the width of a record: 4 bytes, and the longest line
abbrev pub width_of : List (List ℕ) → ℕ
width_of ls = 4 + longest ls

-- a page: the records of its lines one after another, and zero bytes to its end
unfoldable pub page_with : ℕ → ℕ → List (List ℕ) → List ℕ
page_with size width ls = padded size (flat_map (record_of width) ls)

-- the lines of page j, from 0, of which each holds q: the lines j * q + 1 to j * q + q, as far as there are some
unfoldable pub lines_on : ℕ → List (List ℕ) → ℕ → List (List ℕ)
lines_on q ls j = take q (drop (j * q) ls)

-- the first n pages of lines, where a page holds q
unfoldable pub front_pages : ℕ → ℕ → ℕ → List (List ℕ) → ℕ → List ℕ
front_pages size width q ls n = flat_map (λ j. page_with size width (lines_on q ls j)) (range_with_len 0 n)

-- the pages of lines as records of a width, each page with as many as fit it
abbrev pub pages_of_width : ℕ → ℕ → List (List ℕ) → List ℕ
pages_of_width size width ls = front_pages size width (size / width) ls (div_ceil (length ls) (size / width))

-- the padded pages of lines
abbrev pub pages : ℕ → List (List ℕ) → List ℕ
pages size ls = pages_of_width size (width_of ls) ls
