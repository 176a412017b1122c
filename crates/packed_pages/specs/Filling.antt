-- Records made on a page, and pages written with their entries.
use Rattle.std.specs.Prelude.{◌≡◌, ℕ, ◌+◌, ◌-◌, ◌*◌, ◌^◌, ◌<◌, ◌≤◌, List, [], ◌++◌, length, take, replicate, slice_index_or, Option, Some}
use Rattle.std.specs.List.{flat_map}
use Rattle.page_pair.specs.Room.{no_room, room_from, page_count}
use Rattle.page_pair.specs.Records.{longest}
use Rattle.packed_pages.specs.declared.layout.Layout.{Layout}
use Rattle.packed_pages.specs.declared.filling.Filling.{Filling}
use Rattle.packed_pages.specs.Packs.{records, joined, page_with, entries_from, bytes_of, pages_of, pages_from}

-- where the next record goes: behind whole pages, on one that is begun
pub record IsReady (l : Layout) (told : Option (List ℕ)) (f : Filling) : Type 0 where
  pub filled : f.room.filled ≤ l.size
  pub pages : f.room.pages ≤ l.pages
  pub few : f.count ≤ 2 ^ 40
  pub behind : (b : List ℕ) → told ≡ Some b → length b ≡ 8 * l.pages + f.room.pages * l.size

-- lines stand on so many whole pages of a scratch, each with its entry, and the last of them as records on a page in memory
pub record IsFilled (l : Layout) (told : Option (List ℕ)) (page : List ℕ) (f : Filling) (ls : List (List ℕ)) : Type 0 where
  pub full : List (List (List ℕ))
  pub last : List (List ℕ)
  pub many : length full ≡ f.room.pages
  pub filled : length (records last) ≡ f.room.filled
  pub counted : length ls ≡ f.count
  pub first : 1 + length (joined full) ≡ f.first
  pub lines_ : joined full ++ last ≡ ls
  pub fits : (i : ℕ) → i < length full → length (records (slice_index_or full i [])) ≤ l.size
  pub on : take f.room.filled page ≡ records last
  pub bytes : (b : List ℕ) → told ≡ Some b → b ≡ entries_from 1 full ++ replicate (8 * (l.pages - f.room.pages)) 0 ++ flat_map (page_with l.size) full
  pub greedy : (more : List (List ℕ)) → pages_of l.size (ls ++ more) ≡ full ++ pages_from l.size last more
  pub room : room_from l.size no_room ls ≡ f.room

-- a scratch holds the packed pages of lines
pub record IsPacked (l : Layout) (told : Option (List ℕ)) (ls : List (List ℕ)) : Type 0 where
  pub pages : List (List (List ℕ))
  pub many : length pages ≡ l.pages
  pub lines_ : joined pages ≡ ls
  pub fits : (i : ℕ) → i < length pages → length (records (slice_index_or pages i [])) ≤ l.size
  pub bytes : (b : List ℕ) → told ≡ Some b → b ≡ bytes_of l.size pages
  pub are : pages_of l.size ls ≡ pages

-- a layout fits these lines, of which none is too long
pub record IsMeasuredAs (l : Layout) (ls : List (List ℕ)) : Type 0 where
  pub counted : l.count ≡ length ls
  pub pages : l.pages ≡ page_count (room_from l.size no_room ls)
  pub short : 4 + longest ls ≤ l.size
