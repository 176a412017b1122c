-- What is left of a hunk whose form shows its dropped and its added lines in an order of its own.
use Rattle.std.specs.Prelude.{◌≡◌}
use Rattle.std.specs.List.{AllByRecursion}
use Rattle.hunk_core.specs.declared.Form.{Form}
use Rattle.hunk_core.specs.declared.Form.TheVariants.{Unified, Context, Normal, Ed}
use Rattle.hunk_core.specs.declared.Side.TheVariants.{Forward, Reversed}
use Rattle.hunk_core.specs.PlainHunk.{PlainHunk}
use Rattle.hunk_core.specs.Turned.{swapped}
use Rattle.context_form.specs.Merging.{DropsFirst, part_of}
use Rattle.read_file_patch.specs.PlainPatch.{PlainChange, hunks, script}
use Rattle.law_reading.specs.TurnedPatches.{as_shown}

-- the starts stay, and on each side the lines in their order, kept ones and others
pub record IsReordered (h shown : PlainHunk) : Type 0 where
  pub old_start : shown.old_start ≡ h.old_start
  pub new_start : shown.new_start ≡ h.new_start
  pub olds : part_of Forward shown.body ≡ part_of Forward h.body
  pub news : part_of Reversed shown.body ≡ part_of Reversed h.body
  -- between two kept lines the dropped ones come first
  pub drops : DropsFirst shown.body

-- in the unified form nothing is reordered
abbrev pub IsShown : Form → PlainHunk → PlainHunk → Type 0
IsShown Unified h shown = shown ≡ h
IsShown Context h shown = IsReordered h shown
IsShown Normal h shown = IsReordered h shown
IsShown Ed h shown = shown ≡ h

-- so each hunk of a change is shown once it is turned round
abbrev pub AreShown : Form → PlainChange → Type 0
AreShown form (hunks hs) = AllByRecursion (λ h. IsShown form (swapped h) (as_shown form (swapped h))) hs
AreShown form (script es) = Unit {0}
