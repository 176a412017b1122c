-- What a plan of padded pages holds, and what it is seen as.
use Rattle.std.specs.Prelude.{◌≡◌, ◌⊎◌, ℕ, ◌+◌, ◌-◌, ◌*◌, ◌≤◌, List, take, drop, false, Option, Some}
use Rattle.std.specs.Option.{option_map}
use Rattle.outside.specs.ScratchView.{ScratchView, counted}
use Rattle.line_store.specs.declared.Half.{Half}
use Rattle.line_store.specs.declared.halves.Halves.{Halves}
use Rattle.line_store.specs.Halves.{half_of}
use Rattle.line_store.specs.Store.{Seen}
use Rattle.page_pair.specs.Pair.{Pair, page_of}
use Rattle.plan_b.specs.declared.layout.Layout.{Layout}
use Rattle.plan_b.specs.Layout.{IsLayout, HasRecords, page_number, place_on_page, lines_told}
use Rattle.page_pair.specs.Records.{stated}

-- a plan stands for the lines that its scratch holds
abbrev pub seen_of : Layout → Halves → ScratchView → Seen
seen_of l halves v = record {
  told = lines_told l v.told;
  count = l.count;
  held = half_of halves;
  faults = v.faults;
  scratch = v.told;
  size = l.size;
  needs_memory = false;
}

-- a half holds the page with this number, where the scratch tells its bytes
abbrev pub HoldsPage : Pair → Layout → ScratchView → Half → ℕ → Type 0
HoldsPage pair l v h j = (bytes : List ℕ) → v.told ≡ Some bytes → page_of pair h ≡ take l.size (drop (j * l.size) bytes)

-- a half holds line k, on the page of that line
pub record IsLoaded (pair : Pair) (l : Layout) (v : ScratchView) (h : Half) (k : ℕ) : Type 0 where
  pub low : 1 ≤ k
  pub high : k ≤ l.count
  pub fits : stated (page_of pair h) (place_on_page l (k - 1)) + 4 ≤ l.width
  pub page : HoldsPage pair l v h (page_number l (k - 1))

-- the scratch holds the records of the layout
abbrev pub HoldsRecords : Layout → ScratchView → Type 0
HoldsRecords l v = (bytes : List ℕ) → v.told ≡ Some bytes → HasRecords l bytes

-- pages, scratch and halves as they are between calls
pub record IsHeld (pair : Pair) (l : Layout) (halves : Halves) (v : ScratchView) : Type 0 where
  pub layout : IsLayout l
  pub size : l.size ≡ pair.size
  pub records : HoldsRecords l v
  pub loaded : (h : Half) (k : ℕ) → half_of halves h ≡ Some k → IsLoaded pair l v h k

-- the number of the page that a half holds
abbrev pub page_held : Layout → Halves → Half → Option ℕ
page_held l halves h = option_map (λ k. page_number l (k - 1)) (half_of halves h)

-- the scratch was read once or not at all
abbrev pub ReadsOnceAtMost : ScratchView → ScratchView → Type 0
ReadsOnceAtMost v w = (w.reads ≡ v.reads) ⊎ (w.reads ≡ counted v.reads)
