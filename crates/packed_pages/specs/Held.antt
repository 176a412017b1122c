-- What a plan of packed pages holds, and what it is seen as.
use Rattle.std.specs.Prelude.{◌≡◌, ◌≢◌, ◌⊎◌, ⊤, ℕ, ◌+◌, ◌-◌, ◌^◌, ◌<◌, ◌≤◌, List, length, false, Option, Some, None}
use Rattle.std.specs.Option.{option_map}
use Rattle.outside.specs.ScratchView.{ScratchView}
use Rattle.line_store.specs.declared.fault.LineFault.{LineFault}
use Rattle.line_store.specs.declared.fault.LineFault.TheVariants.{Scratch, Disagree}
use Rattle.line_store.specs.declared.Half.{Half}
use Rattle.line_store.specs.declared.Half.TheVariants.{First, Second}
use Rattle.line_store.specs.Store.{Seen}
use Rattle.page_pair.specs.Pair.{Pair, page_of}
use Rattle.page_pair.specs.Records.{stated}
use Rattle.packed_pages.specs.declared.layout.Layout.{Layout}
use Rattle.packed_pages.specs.declared.marks.PageMarks.{PageMarks}
use Rattle.packed_pages.specs.declared.places.RecordPlace.{RecordPlace}
use Rattle.packed_pages.specs.declared.places.Places.{Places}
use Rattle.packed_pages.specs.declared.searching.Span.{Span}
use Rattle.packed_pages.specs.Marks.{IsMark, AreMarks}
use Rattle.packed_pages.specs.Layout.{IsLayout, HasPacks, IsPageOf, first_line, page_in, place_in, lines_told}

-- where the line that a half holds stands
abbrev pub place_of : Places → Half → Option RecordPlace
place_of places First = places.first
place_of places Second = places.second

-- the line that a half holds
abbrev pub line_held : Places → Half → Option ℕ
line_held places h = option_map (λ p. p.line) (place_of places h)

-- a plan stands for the lines that its scratch holds
abbrev pub seen_of : Layout → Places → ScratchView → Seen
seen_of l places v = record {
  told = lines_told l v.told;
  count = l.count;
  held = line_held places;
  faults = v.faults;
  scratch = v.told;
  size = l.size;
  needs_memory = false;
}

-- bytes are the page of a place, and its lines go from the first up to before the next one
pub record IsPage (l : Layout) (b : List ℕ) (p : RecordPlace) (page : List ℕ) : Type 0 where
  pub is : page ≡ page_in l b p.page
  pub first : first_line l b p.page ≡ p.first
  pub next : first_line l b (p.page + 1) ≡ p.next

-- a half holds the page of a place, where the scratch tells its bytes
abbrev pub HoldsPage : Pair → Layout → ScratchView → Half → RecordPlace → Type 0
HoldsPage pair l v h p = (b : List ℕ) → v.told ≡ Some b → IsPage l b p (page_of pair h)

-- a place stands on the page that a half holds
pub record IsOnPage (pair : Pair) (l : Layout) (v : ScratchView) (h : Half) (p : RecordPlace) : Type 0 where
  pub low : p.first ≤ p.line
  pub high : p.line < p.next
  pub page : p.page < l.pages
  pub place : p.at ≡ place_in (p.line - p.first) (page_of pair h)
  pub within : p.at ≤ length (page_of pair h)
  pub told : HoldsPage pair l v h p

-- a half holds the line of a place
pub record IsLoaded (pair : Pair) (l : Layout) (v : ScratchView) (h : Half) (p : RecordPlace) : Type 0 where
  pub on : IsOnPage pair l v h p
  pub some : 1 ≤ p.line
  pub most : p.line ≤ l.count
  pub fits : p.at + 4 + stated (page_of pair h) p.at ≤ length (page_of pair h)

-- the scratch holds the packed pages of the layout
abbrev pub HoldsPacks : Layout → ScratchView → Type 0
HoldsPacks l v = (b : List ℕ) → v.told ≡ Some b → HasPacks l b

-- pages, scratch and places as they are between calls
pub record IsHeld (pair : Pair) (l : Layout) (places : Places) (v : ScratchView) : Type 0 where
  pub layout : IsLayout l
  pub size : l.size ≡ pair.size
  pub packs : 0 < l.count → HoldsPacks l v
  pub loaded : (h : Half) (p : RecordPlace) → place_of places h ≡ Some p → IsLoaded pair l v h p

-- the page that a half holds is told to be the page of line k
abbrev pub HoldsPageOf : Layout → Places → ScratchView → Half → ℕ → Type 0
HoldsPageOf l places v h k = (p : RecordPlace) → place_of places h ≡ Some p → (b : List ℕ) → v.told ≡ Some b → IsPageOf l b k p.page

-- a half holds the page of line k already
abbrev pub HasPageOf : Places → Half → ℕ → Type 0
HasPageOf places h k = (p : RecordPlace) × ((place_of places h ≡ Some p) × ((p.first ≤ k) × (k < p.next)))

-- a place is a record of each page that has these marks
pub record IsMarked (ms : PageMarks) (p : RecordPlace) : Type 0 where
  pub low : p.first ≤ p.line
  pub is : (page : List ℕ) → AreMarks page ms → IsMark page (record { before = p.line - p.first; at = p.at })

-- a place on the page of another, at a line that isn't after line k
pub record IsStart (held : RecordPlace) (ms : PageMarks) (k : ℕ) (p : RecordPlace) : Type 0 where
  pub first : p.first ≡ held.first
  pub next : p.next ≡ held.next
  pub page : p.page ≡ held.page
  pub low : p.line ≤ k
  pub high : k < p.next
  pub place : (p ≡ held) ⊎ IsMarked ms p

-- the place from which line k is found, where a place that is held has it on its page
abbrev pub IfStart : Option RecordPlace → PageMarks → ℕ → Option RecordPlace → Type 0
IfStart None ms k None = ⊤
IfStart None ms k (Some p) = ⊥
IfStart (Some held) ms k None = (held.first ≤ k) → (k < held.next) → ⊥
IfStart (Some held) ms k (Some p) = IsStart held ms k p

-- at most so many reads of the scratch
abbrev pub ReadsAtMost : ℕ → ScratchView → ScratchView → Type 0
ReadsAtMost n v w = w.reads ≤ v.reads + n

-- at most as many reads as a number has binary digits, and so many more
abbrev pub ReadsByDigits : ℕ → ℕ → ScratchView → ScratchView → Type 0
ReadsByDigits n more v w = (digits : ℕ) → n < 2 ^ digits → ReadsAtMost (digits + more) v w

-- of so many digits' reads are left as many as find one page of so many
pub record HasReadsLeft (pages digits : ℕ) (v w : ScratchView) : Type 0 where
  pub left : ℕ
  pub enough : pages ≤ 2 ^ left
  pub reads : w.reads + left ≤ v.reads + digits

-- line k stands on one of the pages of a span
pub record IsSpan (l : Layout) (k : ℕ) (s : Span) : Type 0 where
  pub some : s.low < s.high
  pub high : s.high ≤ l.pages
  pub first : s.first ≤ k
  pub next : k < s.next

-- the entries state the first lines of a span's first page and of the page behind it
pub record IsSpanTold (l : Layout) (b : List ℕ) (s : Span) : Type 0 where
  pub first : first_line l b s.low ≡ s.first
  pub next : first_line l b s.high ≡ s.next

-- a record that has at most n before it reaches past the end of its page
pub record Overruns (n : ℕ) (page : List ℕ) : Type 0 where
  pub before : ℕ
  pub most : before ≤ n
  pub over : length page < place_in before page + 4 + stated page (place_in before page)

-- why the end of a record was not found: it reaches past the end of its page
abbrev pub IsPastEnd : LineFault → List ℕ → ℕ → Type 0
IsPastEnd Scratch page at = ⊥
IsPastEnd (Disagree want got) page at = (want ≢ got) × (length page < at + 4 + stated page at)

-- why a record was not found on a page
abbrev pub IsRecordFault : LineFault → ℕ → List ℕ → Type 0
IsRecordFault Scratch n page = ⊥
IsRecordFault (Disagree want got) n page = (want ≢ got) × Overruns n page
