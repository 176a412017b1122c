-- Which file patches can make their file, and so name one that isn't there (POSIX `patch`, "Filename Determination"; GNU patch manual, "Creating and Removing Files").
use Rattle.std.specs.Prelude.{Bool, true, false, ◌&&◌, ◌||◌, ◌==◌, List, [], ◌∷◌}
use Rattle.hunk_core.specs.declared.Form.{Form}
use Rattle.hunk_core.specs.declared.Form.TheVariants.{Unified, Context, Normal, Ed}
use Rattle.hunk_core.specs.declared.Hunk.{Hunk}
use Rattle.hunk_core.specs.declared.Side.{Side}
use Rattle.hunk_core.specs.declared.Side.TheVariants.{Forward, Reversed}
use Rattle.hunk_core.specs.Sides.{start_of}
use Rattle.hunk_core.specs.Turned.{turned}
use Rattle.read_file_patch.specs.declared.Change.{Change}
use Rattle.read_file_patch.specs.declared.Change.TheVariants.{Hunks, Script}
use Rattle.read_file_patch.specs.declared.FilePatch.{FilePatch}
use Rattle.read_file_patch.specs.PlainPatch.{PlainChange, PlainPatch, hunks, script}
use Rattle.read_file_patch.specs.Absent.{creates, told_absent}

-- a range of this form says of a side without lines that it has none; a command of a normal diff or of an ed script that adds at 0 is an insertion in front
abbrev pub tells_empty_sides : Form → Bool
tells_empty_sides Unified = true
tells_empty_sides Context = true
tells_empty_sides Normal = false
tells_empty_sides Ed = false

-- the first hunk starts at 0 on the side that is taken as old: nothing is in front of it, and it has no line there
abbrev pub starts_at_none : Side → PlainChange → Bool
starts_at_none side (hunks []) = false
starts_at_none side (hunks (h ∷ hs)) = (turned side h).old_start == 0
starts_at_none side (script es) = false

-- taken from this side the file patch can make its file: it says that there is none, or its first hunk starts at 0
abbrev pub may_make : Side → PlainPatch → Bool
may_make side p = creates side p || (tells_empty_sides p.header.form && starts_at_none side p.change)

-- from one side or the other it can make its file; so it names one that isn't there
abbrev pub names_new : PlainPatch → Bool
names_new p = may_make Forward p || may_make Reversed p

-- ---- what a file patch that was read says of it

abbrev pub first_none : Side → List Hunk → Bool
first_none side [] = false
first_none side (h ∷ hs) = start_of side h == 0

abbrev pub told_none : Side → Change → Bool
told_none side (Hunks hs) = first_none side hs.items
told_none side (Script es) = false

abbrev pub told_making : Side → FilePatch → Bool
told_making side p = told_absent side p || (tells_empty_sides p.header.form && told_none side p.change)

abbrev pub told_new : FilePatch → Bool
told_new p = told_making Forward p || told_making Reversed p
