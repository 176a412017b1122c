-- Records of the pages that the halves hold, from which others are found.
use Rattle.std.specs.Prelude.{◌≡◌, ◌≤◌, ℕ, List, length}
use Rattle.std.specs.List.{All}
use Rattle.line_store.specs.declared.Half.{Half}
use Rattle.line_store.specs.declared.Half.TheVariants.{First, Second}
use Rattle.page_pair.specs.Pair.{Pair, page_of}
use Rattle.packed_pages.specs.declared.marks.RecordMark.{RecordMark}
use Rattle.packed_pages.specs.declared.marks.PageMarks.{PageMarks}
use Rattle.packed_pages.specs.declared.marks.Marks.{Marks}
use Rattle.packed_pages.specs.Layout.{place_in}

-- a mark is a record of a page
pub record IsMark (page : List ℕ) (m : RecordMark) : Type 0 where
  pub place : m.at ≡ place_in m.before page
  pub within : m.at ≤ length page

-- each mark, far or near, is one of a page
pub record AreMarks (page : List ℕ) (ms : PageMarks) : Type 0 where
  pub far : All (IsMark page) ms.far.items
  pub near : All (IsMark page) ms.near.items

-- the marks of a half
abbrev pub marks_of : Marks → Half → PageMarks
marks_of marks First = marks.first
marks_of marks Second = marks.second

-- each half's marks are of the page that it holds
abbrev pub AreMarked : Pair → Marks → Type 0
AreMarked pair marks = (h : Half) → AreMarks (page_of pair h) (marks_of marks h)
