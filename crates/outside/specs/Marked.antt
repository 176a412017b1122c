-- Which names have room for a mark, and which are marked.
use Rattle.std.specs.Prelude.{ℕ, List, Bool, false, is_some, unwrap_or}
use Rattle.std.specs.BTreeMap.{get_by_text}
use Rattle.outside.specs.declared.marks.WrittenNames.{WrittenNames}

-- the name can be marked without more memory
abbrev pub has_room : WrittenNames → List ℕ → Bool
has_room n name = is_some (get_by_text n.marks name)

-- a name without room isn't
abbrev pub is_marked : WrittenNames → List ℕ → Bool
is_marked n name = unwrap_or (get_by_text n.marks name) false
