-- The room that records without padding take on pages.
use Rattle.std.specs.Prelude.{◌≡◌, ℕ, ◌+◌, List, [], ◌∷◌, ◌++◌, length, drop, min, nat_le, if◌then◌else◌}
use Rattle.line_list.specs.Lines.{lines}
use Rattle.page_pair.specs.declared.room.Room.{Room}

abbrev pub no_room : Room
no_room = record { pages = 0; filled = 0 }

-- a record of n bytes more: on the page that is begun where it fits, and else on the next one
abbrev pub room_with : ℕ → Room → ℕ → Room
room_with size r n = if nat_le (r.filled + n) size then record { pages = r.pages; filled = r.filled + n } else record { pages = r.pages + 1; filled = n }

-- the records of lines more
abbrev pub room_from : ℕ → Room → List (List ℕ) → Room
room_from size r [] = r
room_from size r (line ∷ more) = room_from size (room_with size r (4 + length line)) more

-- the number of pages, with the one that is begun
abbrev pub page_count : Room → ℕ
page_count r = r.pages + min 1 r.filled

-- the records of the lines before a place of a text take so much room
pub record HasRoom (size : ℕ) (text : List ℕ) (at : ℕ) (room : Room) : Type 0 where
  pub front : List (List ℕ)
  pub split : lines text ≡ front ++ lines (drop at text)
  pub is : room_from size no_room front ≡ room
