-- A set of which nothing was tried yet.
use Rattle.std.specs.Prelude.{◌≡◌, ℕ, ◌<◌, ◌^◌, List, length, map, replicate, All, Option}
use Rattle.hunk_core.specs.declared.Verdict.TheVariants.{Untried}
use Rattle.read_file_patch.specs.declared.FilePatch.{FilePatch}
use Rattle.read_file_patch.specs.Absent.{IsLawfulPatch}
use Rattle.patch_header.specs.declared.read_options.ReadOptions.{ReadOptions}
use Rattle.read_patch_text.specs.Regions.{region_of, regions_of}
use Rattle.patch_set.specs.declared.names.NamedPatches.{NamedPatches}
use Rattle.patch_set.specs.declared.set.Notes.{Notes}
use Rattle.read_file_patch.specs.declared.derived.Target.{Target}
use Rattle.patch_set.specs.Room.{AreBlank}
use Rattle.patch_set.specs.SetView.{SetView, IsFresh, IsWhole, first_row, hunks_in}
use Rattle.patch_set.specs.Skipped.{skipped_changes}
use Rattle.patch_set.specs.Spans.{ArePlaced}

-- lawful file patches that lie where the text says, one behind the other, and can be counted with their hunks
pub record AreWhole (ways : ReadOptions) (text : List ℕ) (ps : List FilePatch) : Type 0 where
  pub lawful : All (IsLawfulPatch text) ps
  pub regions : map region_of ps ≡ regions_of ways text
  pub placed : ArePlaced text 0 0 ps
  pub count : length ps < 2 ^ 32
  pub hunks : hunks_in ps < 2 ^ 32

-- what is noted before anything was tried
pub record AreFirst (ways : ReadOptions) (text : List ℕ) (ps : List FilePatch) (out : Option Target) (n : Notes) : Type 0 where
  pub skipped : n.skipped.items ≡ skipped_changes ways text
  pub verdicts : n.verdicts.items ≡ replicate (hunks_in ps) Untried
  pub rows : n.rows.items ≡ replicate (length ps) first_row
  pub marks : AreBlank ps out n.marks

-- the set of these file patches
pub record IsUntried (given : List ℕ) (read : ReadOptions) (named : NamedPatches) (v : SetView) : Type 0 where
  pub text : v.text ≡ given
  pub ways : v.ways ≡ read
  pub patches : v.patches ≡ named.patches.items
  pub output : v.output ≡ named.output
  pub skipped : v.skipped ≡ skipped_changes read given
  pub fresh : IsFresh v
  pub whole : IsWhole v
