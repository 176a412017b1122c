-- A patch text and its file patches without hunks, with the piece and the old lines of each.
use Rattle.std.specs.Prelude.{◌≡◌, ℕ, List, map, Ok}
use Rattle.line_list.specs.Completed.{completed}
use Rattle.unified_form.specs.declared.hunk_scan.OldRange.{OldRange}
use Rattle.read_file_patch.specs.declared.FilePatch.{FilePatch}
use Rattle.read_file_patch.specs.PlainPatch.{PlainPatch, patch_of}
use Rattle.patch_options.specs.PlainJob.{PlainOptions}
use Rattle.read_patch_text.specs.Digests.{AreDigests, digests_of}
use Rattle.read_patch_text.specs.Regions.{region_of, regions_of}
use Rattle.patch_set.specs.Asked.{ways_of}

pub record DigestView : Type 0 where
  -- the text that was read, with a line feed at its end
  pub text : List ℕ
  pub patches : List FilePatch
  -- the old lines of the hunks of each
  pub olds : List (List OldRange)

-- what its file patches stand for
abbrev pub digested : DigestView → List PlainPatch
digested v = map (patch_of v.text) v.patches

-- they are those of this text, and lie where it says
pub record IsDigestOf (o : PlainOptions) (given : List ℕ) (v : DigestView) : Type 0 where
  pub text : v.text ≡ completed given
  pub patches : digests_of (ways_of o) v.text ≡ Ok (digested v, v.olds)
  pub regions : map region_of v.patches ≡ regions_of (ways_of o) v.text
  -- each has a piece for each of its hunks
  pub are : AreDigests v.text v.patches v.olds
