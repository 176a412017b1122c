-- What a file patch needs before it is taken.
use Rattle.std.specs.Prelude.{◌≡◌, ℕ, ◌<◌, ◌^◌, List, [], length, map, All, if◌then◌else◌}
use Rattle.std.specs.Option.{ForSome}
use Rattle.patch_options.specs.PlainJob.{PlainOptions, HasContext, IsMacroName}
use Rattle.read_file_patch.specs.declared.FilePatch.{FilePatch}
use Rattle.read_file_patch.specs.declared.derived.Target.{Target}
use Rattle.read_file_patch.specs.Actions.{is_moved}
use Rattle.read_file_patch.specs.PlainPatch.{patch_of, row_count}
use Rattle.read_file_patch.specs.Absent.{IsLawfulPatch}
use Rattle.patch_set.specs.SetView.{SetView}
use Rattle.patch_set.specs.declared.skipped.BinaryChange.{BinaryChange}
use Rattle.apply_task.specs.Named.{IsNamed}
use Rattle.apply_task.specs.Contexts.{Item, PlainContext}

-- the two names of a file patch that renames or copies a file
abbrev pub moved_of : FilePatch → List Target
moved_of p = if is_moved p.header.action then p.targets.items else []

abbrev pub moved_in : List FilePatch → List (List Target)
moved_in ps = map moved_of ps

-- a file patch of a set, of whose text these binary changes are passed over and these files renamed or copied
abbrev pub item_of : List ℕ → List BinaryChange → List (List Target) → FilePatch → Item
item_of text skipped moved p = record { patch = patch_of text p; targets = p.targets.items; skipped = skipped; moved = moved }

-- a file patch of a set, with its targets
pub record IsFit (text : List ℕ) (p : FilePatch) : Type 0 where
  pub lawful : IsLawfulPatch text p
  pub few : length p.targets.items < 2 ^ 32
  pub named : All IsNamed p.targets.items
  pub hunks : row_count p.change < 2 ^ 32

-- a set whose file patches are carried out with these options
pub record IsReady (o : PlainOptions) (v : SetView) : Type 0 where
  pub patches : All (IsFit v.text) v.patches
  pub output : ForSome v.output IsNamed
  pub reject_form : ForSome o.reject_form HasContext
  pub define : ForSome o.define IsMacroName
  pub rows : length v.rows ≡ length v.patches
  pub count : length v.patches < 2 ^ 32

-- the turn of a file patch without what was before it
abbrev pub alone : PlainOptions → SetView → FilePatch → PlainContext
alone o v p = record { options = o; output = v.output; item = item_of v.text v.skipped (moved_in v.patches) p; past = [] }
