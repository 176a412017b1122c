-- Records of lines that halves hold, and those reached from them on the same page.
use Rattle.std.specs.Prelude.{◌≡◌, ◌≢◌, ⊤, ℕ, ◌+◌, ◌-◌, ◌*◌, ◌%◌, ◌<◌, ◌≤◌, List, Bool, true, false, Option, Some, None}
use Rattle.line_store.specs.declared.Half.{Half}
use Rattle.line_store.specs.declared.Half.TheVariants.{First, Second}
use Rattle.line_store.specs.declared.halves.Halves.{Halves}
use Rattle.line_store.specs.Halves.{half_of}
use Rattle.line_store.specs.Store.{NoneAlike, line_at}
use Rattle.page_pair.specs.Records.{stated, line_in}
use Rattle.plan_b.specs.declared.layout.Layout.{Layout}
use Rattle.plan_b.specs.declared.spots.RecordOnPage.{RecordOnPage}
use Rattle.plan_b.specs.declared.spots.Spots.{Spots}
use Rattle.plan_b.specs.Layout.{page_number, place_on_page}

-- the spot of a half
abbrev pub spot_of : Spots → Half → RecordOnPage
spot_of spots First = spots.first
spot_of spots Second = spots.second

-- the record of line k stands there
pub record IsSpot (l : Layout) (k : ℕ) (s : RecordOnPage) : Type 0 where
  pub index_ : s.index ≡ (k - 1) % l.per_page
  pub place : s.at ≡ s.index * l.width

-- each half that holds a line has its spot
abbrev pub AreSpots : Layout → Halves → Spots → Type 0
AreSpots l halves spots = (h : Half) (k : ℕ) → half_of halves h ≡ Some k → IsSpot l k (spot_of spots h)

-- a page holds the record of line k there
pub record IsRecord (page : List ℕ) (l : Layout) (k : ℕ) (s : RecordOnPage) : Type 0 where
  pub low : 1 ≤ k
  pub spot : IsSpot l k s
  pub fits : stated page s.at + 4 ≤ l.width

-- and that of line j, on the page of line k, there
pub record Follows (page : List ℕ) (l : Layout) (k j : ℕ) (s : RecordOnPage) : Type 0 where
  pub page_ : page_number l (j - 1) ≡ page_number l (k - 1)
  pub is : IsRecord page l j s

-- the record of line k, if one is given, is reached from the line that is held
abbrev pub IfNear : List ℕ → Layout → Option ℕ → ℕ → Option RecordOnPage → Type 0
IfNear page l held k None = ⊤
IfNear page l None k (Some s) = ⊥
IfNear page l (Some j) k (Some s) = Follows page l j k s

-- none of the records of a page that stand for lines from one up to before another is this line
abbrev pub Misses : List ℕ → Layout → List ℕ → ℕ → ℕ → Type 0
Misses page l line from to = (i : ℕ) → from ≤ i → i < to → line_in page (place_on_page l (i - 1)) ≢ line

-- up to before a line, the last one that is alike is another one, or none from that one on
abbrev pub FindsLast : List (List ℕ) → List ℕ → ℕ → ℕ → Bool → Type 0
FindsLast lines line to k true = (line_at lines k ≡ line) × NoneAlike lines line (k + 1) to
FindsLast lines line to k false = NoneAlike lines line k to
