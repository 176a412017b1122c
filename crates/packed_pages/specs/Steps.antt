-- Places reached from another one of the same page without a search.
use Rattle.std.specs.Prelude.{◌≡◌, ◌≢◌, ⊤, ℕ, ◌+◌, ◌-◌, ◌<◌, ◌≤◌, List, length, Option, Some, None}
use Rattle.page_pair.specs.Records.{stated, line_in}
use Rattle.packed_pages.specs.declared.places.RecordPlace.{RecordPlace}
use Rattle.packed_pages.specs.Layout.{place_in}

-- a place is that of a whole record of a page, where its line stands so many behind the first
pub record IsWhole (page : List ℕ) (p : RecordPlace) : Type 0 where
  pub low : p.first ≤ p.line
  pub place : p.at ≡ place_in (p.line - p.first) page
  pub fits : p.at + 4 + stated page p.at ≤ length page

-- a place on the same page, at this line or behind it
pub record Follows (page : List ℕ) (p q : RecordPlace) : Type 0 where
  pub first : q.first ≡ p.first
  pub next : q.next ≡ p.next
  pub page_ : q.page ≡ p.page
  pub order : p.line ≤ q.line
  pub within : q.line < p.next
  pub whole : IsWhole page q

-- a place of line k, if one is given, follows the one that is held
abbrev pub IfNear : List ℕ → Option RecordPlace → ℕ → Option RecordPlace → Type 0
IfNear page held k None = ⊤
IfNear page None k (Some q) = ⊥
IfNear page (Some p) k (Some q) = Follows page p q × (q.line ≡ k)

-- none of the records of a page that stand for lines from one up to before another is this line
abbrev pub Misses : List ℕ → ℕ → List ℕ → ℕ → ℕ → Type 0
Misses page first line from to = (i : ℕ) → from ≤ i → i < to → line_in page (place_in (i - first) page) ≢ line

-- a place that follows another one holds this line, and none behind it does, up to before a line
pub record IsLastAt (page : List ℕ) (start : RecordPlace) (line : List ℕ) (to : ℕ) (q : RecordPlace) : Type 0 where
  pub follows : Follows page start q
  pub before : q.line < to
  pub is : line_in page q.at ≡ line
  pub misses : Misses page start.first line (q.line + 1) to

-- the last such place, if there is one
abbrev pub IfLast : List ℕ → RecordPlace → List ℕ → ℕ → Option RecordPlace → Type 0
IfLast page start line to None = Misses page start.first line start.line to
IfLast page start line to (Some q) = IsLastAt page start line to q

-- the place of line k on the page of another one
abbrev pub moved : ℕ → ℕ → RecordPlace → RecordPlace
moved k at p = record { line = k; at = at; first = p.first; next = p.next; page = p.page }

-- line k is reached at a place, if one is given, from the line that is held
abbrev pub IfReaches : List ℕ → Option RecordPlace → ℕ → Option ℕ → Type 0
IfReaches page held k None = ⊤
IfReaches page None k (Some at) = ⊥
IfReaches page (Some p) k (Some at) = Follows page p (moved k at p)
