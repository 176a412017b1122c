-- What a file patch is about, by the modes of its git header: a regular file, a symbolic link, a submodule (git-diff(1), "Generating patch text with -p").
use Rattle.std.specs.Prelude.{List, ℕ, Bool, true, false, codes, is_some, if◌then◌else◌, Option, None, Some}
use Rattle.std.specs.Option.{option_and_then}
use Rattle.hunk_core.specs.LineTests.{after}
use Rattle.read_file_patch.specs.PlainPatch.{PlainPatch}
use Rattle.apply_task.specs.declared.kinds.Kind.{Kind}
use Rattle.apply_task.specs.declared.kinds.Kind.TheVariants as kind
use Rattle.apply_task.specs.declared.kinds.Subject.{Subject}
use Rattle.apply_task.specs.declared.kinds.Subject.TheVariants.{File, Link, FileToLink, LinkToFile, Submodule}

-- a mode begins with the type of what it is of
abbrev pub kind_by : List ℕ → Option Kind
kind_by mode = if is_some (after (codes "100") mode) then Some kind.File
    else if is_some (after (codes "120") mode) then Some kind.Link
    else if is_some (after (codes "160") mode) then Some kind.Submodule
    else None

-- of the old side's kind and the new one's; a side whose mode isn't told has the kind of the other
abbrev pub subject_by : Option Kind → Option Kind → Subject
subject_by None None = File
subject_by None (Some kind.File) = File
subject_by None (Some kind.Link) = Link
subject_by None (Some kind.Submodule) = Submodule
subject_by (Some kind.File) None = File
subject_by (Some kind.File) (Some kind.File) = File
subject_by (Some kind.File) (Some kind.Link) = FileToLink
subject_by (Some kind.File) (Some kind.Submodule) = Submodule
subject_by (Some kind.Link) None = Link
subject_by (Some kind.Link) (Some kind.File) = LinkToFile
subject_by (Some kind.Link) (Some kind.Link) = Link
subject_by (Some kind.Link) (Some kind.Submodule) = Submodule
subject_by (Some kind.Submodule) new = Submodule

abbrev pub subject_of : PlainPatch → Subject
subject_of p = subject_by (option_and_then kind_by p.header.old_mode) (option_and_then kind_by p.header.new_mode)

abbrev pub is_link_subject : Subject → Bool
is_link_subject File = false
is_link_subject Link = true
is_link_subject FileToLink = false
is_link_subject LinkToFile = false
is_link_subject Submodule = false

-- it can be carried out: a file stays one, and so does a link
abbrev pub is_meant_subject : Subject → Bool
is_meant_subject File = true
is_meant_subject Link = true
is_meant_subject FileToLink = false
is_meant_subject LinkToFile = false
is_meant_subject Submodule = false

-- a file patch can be carried out. Git writes a change of type as a removal and a new file; with `-R` these stand in the
-- wrong order, and the first is refused
abbrev pub is_meant : PlainPatch → Bool
is_meant p = is_meant_subject (subject_of p)

-- it is about a symbolic link, whose text its hunks are placed on
abbrev pub is_link : PlainPatch → Bool
is_link p = is_link_subject (subject_of p)
