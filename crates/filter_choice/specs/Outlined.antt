-- A patch text and its file patches without their hunks.
use Rattle.std.specs.Prelude.{◌≡◌, ℕ, List, map, Ok}
use Rattle.line_list.specs.Completed.{completed}
use Rattle.read_file_patch.specs.declared.FilePatch.{FilePatch}
use Rattle.read_file_patch.specs.PlainPatch.{PlainPatch, patch_of}
use Rattle.patch_options.specs.PlainJob.{PlainOptions}
use Rattle.read_patch_text.specs.Outlines.{outlines_of}
use Rattle.patch_set.specs.Asked.{ways_of}

pub record OutlineView : Type 0 where
  -- the text that was read, with a line feed at its end
  pub text : List ℕ
  pub patches : List FilePatch

-- what its file patches stand for
abbrev pub outlined : OutlineView → List PlainPatch
outlined v = map (patch_of v.text) v.patches

-- they are those of this text, each with its only hunk or with none
pub record IsOutline (o : PlainOptions) (given : List ℕ) (v : OutlineView) : Type 0 where
  pub text : v.text ≡ completed given
  pub patches : outlines_of (ways_of o) v.text ≡ Ok (outlined v)
