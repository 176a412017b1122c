-- Packed pages: the records of a file's lines without padding, as many to a page as fit it, and before the pages
-- the number of the first line of each.
use Rattle.std.specs.Prelude.{ℕ, ◌+◌, List, [], ◌∷◌, ◌++◌, length, nat_le, if◌then◌else◌}
use Rattle.std.specs.List.{flat_map}
use Rattle.std.specs.Int.{w32, w64, to_le_bytes}
use Rattle.page_pair.specs.Records.{padded}

-- a record: the line's length as 4 bytes, the lowest first, and the line
unfoldable pub packed_record : List ℕ → List ℕ
packed_record line = to_le_bytes w32 (length line) ++ line

-- the records of lines one after another
abbrev pub records : List (List ℕ) → List ℕ
records lines = flat_map packed_record lines

-- a page that is begun, if it has lines
abbrev pub begun : List (List ℕ) → List (List (List ℕ))
begun [] = []
begun (line ∷ more) = (line ∷ more) ∷ []

-- pages of lines, of which the first is begun with some: a line goes onto the page where its record fits, and else begins the next one
abbrev pub pages_from : ℕ → List (List ℕ) → List (List ℕ) → List (List (List ℕ))
pages_from size page [] = begun page
pages_from size page (line ∷ more) = if nat_le (length (records page) + (4 + length line)) size then pages_from size (page ++ line ∷ []) more else page ∷ pages_from size (line ∷ []) more

-- lines cut into those of each page
unfoldable pub pages_of : ℕ → List (List ℕ) → List (List (List ℕ))
pages_of size lines = pages_from size [] lines

-- the lines of pages
abbrev pub joined : List (List (List ℕ)) → List (List ℕ)
joined pages = flat_map (λ page. page) pages

-- a page: the records of its lines, and zero bytes to its end
unfoldable pub page_with : ℕ → List (List ℕ) → List ℕ
page_with size lines = padded size (records lines)

-- an entry for each page: the number of its first line as 8 bytes, the lowest first, where line k is the first of all
abbrev pub entries_from : ℕ → List (List (List ℕ)) → List ℕ
entries_from k [] = []
entries_from k (page ∷ more) = to_le_bytes w64 k ++ entries_from (k + length page) more

-- the entries and the pages behind them
unfoldable pub bytes_of : ℕ → List (List (List ℕ)) → List ℕ
bytes_of size pages = entries_from 1 pages ++ flat_map (page_with size) pages

-- the packed pages of lines with their entries
abbrev pub packs : ℕ → List (List ℕ) → List ℕ
packs size lines = bytes_of size (pages_of size lines)
