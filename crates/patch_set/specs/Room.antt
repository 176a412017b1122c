-- Room for marks at the names that a run can make or take away.
use Rattle.std.specs.Prelude.{◌≡◌, ℕ, List, All, Bool, true, false, not, ◌&&◌, ◌||◌, Option}
use Rattle.std.specs.Option.{ForSome}
use Rattle.outside.specs.Marked.{has_room, is_marked}
use Rattle.outside.specs.declared.marks.WrittenNames.{WrittenNames}
use Rattle.read_file_patch.specs.declared.FilePatch.{FilePatch}
use Rattle.patch_options.specs.PlainJob.{PlainOptions}
use Rattle.read_file_patch.specs.declared.derived.Target.{Target}

-- a run with these options can ask for a backup of a file, and then whether the run itself made or took it away
abbrev pub are_asked : PlainOptions → Bool
are_asked o = not o.dry_run && (o.backup || o.mismatch_backup)

-- nothing is marked
abbrev pub AreUnmarked : WrittenNames → Type 0
AreUnmarked n = (q : List ℕ) → is_marked n q ≡ false

abbrev pub HasRoom : WrittenNames → Target → Type 0
HasRoom n t = has_room n t.name ≡ true

-- there is room for the name of each target of the file patches, and for the output's
pub record HaveRoom (ps : List FilePatch) (out : Option Target) (n : WrittenNames) : Type 0 where
  pub targets : All (λ p. All (HasRoom n) p.targets.items) ps
  pub output : ForSome out (HasRoom n)

-- marks as a set keeps them, until they are handed out
pub record AreBlank (ps : List FilePatch) (out : Option Target) (marks : Option WrittenNames) : Type 0 where
  pub unmarked : ForSome marks AreUnmarked
  pub room : ForSome marks (HaveRoom ps out)

-- the same marks, with as much room or more
pub record GivesRoom (old new : WrittenNames) : Type 0 where
  pub same : (q : List ℕ) → is_marked new q ≡ is_marked old q
  pub room : (q : List ℕ) → has_room old q ≡ true → has_room new q ≡ true
