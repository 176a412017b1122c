-- What is written of file patches that are turned round.
use Rattle.std.specs.Prelude.{ℕ, List, [], ◌++◌, map, reverse}
use Rattle.std.specs.List.{flat_map}
use Rattle.hunk_core.specs.declared.Form.{Form}
use Rattle.hunk_core.specs.declared.Form.TheVariants.{Unified, Context, Normal, Ed}
use Rattle.hunk_core.specs.declared.Side.TheVariants.{Reversed}
use Rattle.hunk_core.specs.PlainHunk.{PlainHunk}
use Rattle.hunk_core.specs.Turned.{swapped}
use Rattle.unified_form.specs.Canonical as unified
use Rattle.context_form.specs.Canonical as context
use Rattle.normal_form.specs.Canonical as normal
use Rattle.read_file_patch.specs.declared.FilePatch.{FilePatch}
use Rattle.read_file_patch.specs.PlainPatch.{PlainChange, hunks, script, change_of}
use Rattle.patch_set.specs.SetView.{SetView}
use Rattle.flip_patch.specs.HeaderText.{header_text}

-- a hunk in the canonical text of a form
abbrev pub hunk_text : Form → PlainHunk → List ℕ
hunk_text Unified h = unified.canonical h
hunk_text Context h = context.canonical h
hunk_text Normal h = normal.canonical h
hunk_text Ed h = []

-- the hunks of a change, each with its starts exchanged, and its dropped lines with the added ones; an ed script has none
abbrev pub swapped_hunks : PlainChange → List PlainHunk
swapped_hunks (hunks hs) = map swapped hs
swapped_hunks (script es) = []

-- the header lines with both names exchanged, and the hunks in their order
abbrev pub flipped_patch : List ℕ → FilePatch → List ℕ
flipped_patch text p = header_text text p.header.form Reversed p.header ++ flat_map (hunk_text p.header.form) (swapped_hunks (change_of text p.change))

-- the file patches from the last to the first, each turned round. Written is what they are, and not their text: lines in
-- front that are no names, `Prereq:` lines and what a git header says are left out
unfoldable pub flipped : SetView → List ℕ
flipped v = flat_map (flipped_patch v.text) (reverse v.patches)
