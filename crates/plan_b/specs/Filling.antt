-- Records made on a page, and pages written one behind another.
use Rattle.std.specs.Prelude.{◌≡◌, ℕ, ◌+◌, ◌*◌, ◌^◌, ◌<◌, ◌≤◌, List, ◌++◌, length, take, drop, Option, Some}
use Rattle.std.specs.List.{flat_map}
use Rattle.plan_b.specs.declared.layout.Layout.{Layout}
use Rattle.plan_b.specs.declared.filling.Filling.{Filling}
use Rattle.page_pair.specs.Records.{longest, record_of}
use Rattle.plan_b.specs.Pages.{front_pages}

-- where the next record goes: behind whole pages, on a page that isn't full
pub record IsReady (l : Layout) (told : Option (List ℕ)) (f : Filling) : Type 0 where
  pub some : f.records < l.per_page
  pub few : f.pages * l.per_page + f.records ≤ 2 ^ 40
  pub behind : (bytes : List ℕ) → told ≡ Some bytes → length bytes ≡ f.pages * l.size

-- lines stand on so many whole pages of a scratch, and the last of them as records on a page in memory
pub record IsFilled (l : Layout) (told : Option (List ℕ)) (page : List ℕ) (f : Filling) (ls : List (List ℕ)) : Type 0 where
  pub counted : length ls ≡ f.pages * l.per_page + f.records
  pub narrow : 4 + longest ls ≤ l.width
  pub last : take (f.records * l.width) page ≡ flat_map (record_of l.width) (drop (f.pages * l.per_page) ls)
  pub front : (bytes : List ℕ) → told ≡ Some bytes → bytes ≡ front_pages l.size l.width l.per_page ls f.pages
