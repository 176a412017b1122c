-- Whether a file patch finds its file as it is to become already (GNU patch manual, "Creating and Removing Files").
use Rattle.std.specs.Prelude.{ℕ, List, length, Bool, true, false, ◌==◌, if◌then◌else◌, Option, None, Some, option_map}
use Rattle.hunk_core.specs.declared.Side.{Side}
use Rattle.hunk_core.specs.Turned.{other_side}
use Rattle.read_file_patch.specs.PlainPatch.{PlainPatch}
use Rattle.read_file_patch.specs.Absent.{creates}
use Rattle.name_choice.specs.Making.{may_make}
use Rattle.say_text.specs.declared.standing.Standing.{Standing}
use Rattle.say_text.specs.declared.standing.Standing.TheVariants.{Missing, Empty, Filled}
use Rattle.apply_task.specs.Asking.{is_bare}
use Rattle.apply_start.specs.declared.fitting.Purpose.{Purpose}
use Rattle.apply_start.specs.declared.fitting.Purpose.TheVariants.{Makes, MakesEmpty, Clears, RemovesEmpty, Changes}

-- what stands at a name, by the length of its file
abbrev pub standing_by : Option ℕ → Standing
standing_by None = Missing
standing_by (Some n) = if n == 0 then Empty else Filled

abbrev pub standing_of : Option (List ℕ) → Standing
standing_of bytes = standing_by (option_map length bytes)

-- what a file patch taken from this side is for, whether its file gets another name or not: it makes a file then, and where it says that none is there; it leaves no byte where it could make one from the other side; without a hunk the file has no byte
abbrev pub purpose_of : Bool → Side → PlainPatch → Purpose
purpose_of is_moving side p = if is_moving then Makes
    else if creates side p then (if is_bare p then MakesEmpty else Makes)
    else if may_make (other_side side) p then (if is_bare p then RemovesEmpty else Clears)
    else Changes

-- what stands there isn't what it can be meant for
abbrev pub misfits : Purpose → Standing → Bool
misfits Makes Missing = false
misfits Makes Empty = false
misfits Makes Filled = true
misfits MakesEmpty Missing = false
misfits MakesEmpty Empty = true
misfits MakesEmpty Filled = true
misfits Clears Missing = true
misfits Clears Empty = true
misfits Clears Filled = false
misfits RemovesEmpty Missing = true
misfits RemovesEmpty Empty = false
misfits RemovesEmpty Filled = false
misfits Changes standing = false

-- what stands there, if it misfits
abbrev pub misfit : Purpose → Standing → Option Standing
misfit purpose standing = if misfits purpose standing then Some standing else None

-- of what only changes a file that isn't asked
abbrev pub is_asked : Purpose → Bool
is_asked Makes = true
is_asked MakesEmpty = true
is_asked Clears = true
is_asked RemovesEmpty = true
is_asked Changes = false
