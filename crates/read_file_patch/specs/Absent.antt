-- Which side of a file patch is no file: what it creates, and what it deletes (POSIX `patch`, "Filename Determination"; GNU patch manual, "Creating and Removing Files").
use Rattle.std.specs.Prelude.{◌≡◌, ℕ, Bool, true, false, nat_lt, if◌then◌else◌, ◌&&◌, ◌||◌, ◌==◌, List, [], ◌∷◌, length, Option, None, Some, bytes_eq, codes, ℤ, pos, negsuc}
use Rattle.hunk_core.specs.declared.Side.{Side}
use Rattle.hunk_core.specs.declared.Side.TheVariants.{Forward, Reversed}
use Rattle.hunk_core.specs.PlainHunk.{PlainHunk, lines_on}
use Rattle.hunk_core.specs.Turned.{other_side}
use Rattle.stamp.specs.declared.Stamp.{Stamp}
use Rattle.stamp.specs.declared.Stamp.TheVariants.{Known, Unknown}
use Rattle.read_header_record.specs.declared.Action.{Action}
use Rattle.read_file_patch.specs.declared.FilePatch.{FilePatch}
use Rattle.read_file_patch.specs.Actions.{is_new, is_deleted}
use Rattle.read_file_patch.specs.PlainPatch.{PlainHeader, PlainChange, PlainPatch, hunks, script, patch_of, IsLawfulChange}

-- the name and the stamp of the side that is taken as old
abbrev pub name_on : Side → PlainHeader → Option (List ℕ)
name_on Forward h = h.old_name
name_on Reversed h = h.new_name

abbrev pub stamp_on : Side → PlainHeader → Stamp
stamp_on Forward h = h.old_stamp
stamp_on Reversed h = h.new_stamp

-- `/dev/null` as it is written, without quotes: no tool puts it in some
abbrev pub is_null : Option (List ℕ) → Bool
is_null None = false
is_null (Some name) = bytes_eq name (codes "/dev/null")

-- 1970-01-01 00:00:00 UTC, to a second
abbrev pub is_zero : ℤ → Bool
is_zero (pos n) = n == 0
is_zero (negsuc n) = false

-- less than 25 hours before that second or 26 hours behind it: wherever a clock stands, it may show that second so
abbrev pub is_near_zero : ℤ → Bool
is_near_zero (pos n) = nat_lt n 93_600
is_near_zero (negsuc n) = nat_lt n 89_999

abbrev pub is_epoch : Stamp → Bool
is_epoch (Known time) = if time.is_local then is_near_zero time.seconds else is_zero time.seconds
is_epoch Unknown = false

-- there is one hunk, which has no line on this side
abbrev pub is_one_empty : Side → List PlainHunk → Bool
is_one_empty side [] = false
is_one_empty side (h ∷ []) = length (lines_on side h.body) == 0
is_one_empty side (h ∷ i ∷ hs) = false

abbrev pub is_empty_on : Side → PlainChange → Bool
is_empty_on side (hunks hs) = is_one_empty side hs
is_empty_on side (script es) = false

-- a git header says that the side is no file: the old one of a new file, the new one of a deleted file (git-diff(1), "Generating patch text with -p")
abbrev pub is_said_absent : Side → Action → Bool
is_said_absent Forward action = is_new action
is_said_absent Reversed action = is_deleted action

-- the one hunk has no line of the side, and the side's stamp is the epoch
abbrev pub is_empty_file : Side → PlainPatch → Bool
is_empty_file side p = is_empty_on side p.change && is_epoch (stamp_on side p.header)

-- the side is no file: it is named `/dev/null`, or a git header says so, or it is an empty file from the epoch
abbrev pub is_absent : Side → PlainPatch → Bool
is_absent side p = is_null (name_on side p.header) || (is_said_absent side p.header.action || is_empty_file side p)

-- what the file patch says of the side that is taken as old
abbrev pub told_absent : Side → FilePatch → Bool
told_absent Forward p = p.old_absent
told_absent Reversed p = p.new_absent

-- taken from this side, the file patch makes a file, and takes one away
abbrev pub creates : Side → PlainPatch → Bool
creates side p = is_absent side p

abbrev pub deletes : Side → PlainPatch → Bool
deletes side p = is_absent (other_side side) p

-- what a reader gives: a lawful change, and what is said of the sides holds
pub record IsLawfulPatch (text : List ℕ) (p : FilePatch) : Type 0 where
  pub change : IsLawfulChange text p.change
  pub absent : (side : Side) → told_absent side p ≡ is_absent side (patch_of text p)
