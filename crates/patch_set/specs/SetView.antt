-- What a set of file patches is seen as, and what one that was read is.
use Rattle.std.specs.Prelude.{◌≡◌, ℕ, ◌<◌, ◌^◌, List, length, map, take, drop, replicate, set, slice_get, sum_by, All, Bool, false, Option, None, Result, Ok, Err, ◌⊎◌}
use Rattle.std.specs.Option.{ForSome}
use Rattle.line_list.specs.Completed.{completed}
use Rattle.hunk_core.specs.declared.Side.TheVariants.{Forward}
use Rattle.hunk_core.specs.declared.Verdict.{Verdict}
use Rattle.hunk_core.specs.declared.Verdict.TheVariants.{Untried}
use Rattle.read_file_patch.specs.declared.FilePatch.{FilePatch}
use Rattle.read_file_patch.specs.PlainPatch.{PlainPatch, header_of, patch_of, row_count}
use Rattle.read_file_patch.specs.Absent.{IsLawfulPatch}
use Rattle.patch_options.specs.PlainJob.{PlainOptions}
use Rattle.read_file_patch.specs.declared.derived.Target.{Target}
use Rattle.read_file_patch.specs.Targets.{HasTemps, IsLasting}
use Rattle.patch_header.specs.declared.read_options.ReadOptions.{ReadOptions}
use Rattle.read_patch_text.specs.Patches.{patches_of}
use Rattle.read_patch_text.specs.Regions.{region_of, regions_of}
use Rattle.patch_set.specs.declared.fault.SetFault.{SetFault}
use Rattle.patch_set.specs.declared.fault.SetFault.TheVariants.{Memory}
use Rattle.patch_set.specs.declared.set.Row.{Row}
use Rattle.patch_set.specs.declared.skipped.BinaryChange.{BinaryChange}
use Rattle.patch_set.specs.Asked.{ways_of}
use Rattle.patch_set.specs.Named.{known_names, targets_of, output_of}
use Rattle.patch_set.specs.Skipped.{skipped_changes}
use Rattle.patch_set.specs.Spans.{ArePlaced}

pub record SetView : Type 0 where
  -- the text that was read, with a line feed at its end, and the ways in which it was read
  pub text : List ℕ
  pub ways : ReadOptions
  pub patches : List FilePatch
  pub output : Option Target
  -- the binary changes that were passed over
  pub skipped : List BinaryChange
  -- one for each hunk, an ed script counting as one, or none
  pub verdicts : List Verdict
  -- one for each file patch
  pub rows : List Row
  -- marks at the names that a run can make or take away are there to be handed out
  pub has_marks : Bool

-- how many hunks the file patches have
abbrev pub hunks_in : List FilePatch → ℕ
hunks_in ps = sum_by (λ p. row_count p.change) ps

-- what the file patches of a set stand for
abbrev pub plain_patches : SetView → List PlainPatch
plain_patches v = map (patch_of v.text) v.patches

-- a file patch, counted from 0
abbrev pub patch_at : SetView → ℕ → Option FilePatch
patch_at v patch = slice_get v.patches patch

-- the verdicts aren't taken
abbrev pub HasVerdicts : SetView → Type 0
HasVerdicts v = length v.verdicts ≡ hunks_in v.patches

-- those on the hunks of a file patch
abbrev pub verdicts_in : SetView → FilePatch → List Verdict
verdicts_in v p = take (row_count p.change) (drop p.first_verdict v.verdicts)

-- what never changes: lawful file patches that lie where the text says, one behind the other, and can be counted with their hunks, and a row for each
pub record IsWhole (v : SetView) : Type 0 where
  pub lawful : All (IsLawfulPatch v.text) v.patches
  pub regions : map region_of v.patches ≡ regions_of v.ways v.text
  pub placed : ArePlaced v.text 0 0 v.patches
  pub count : length v.patches < 2 ^ 32
  pub hunks : hunks_in v.patches < 2 ^ 32
  pub rows : length v.rows ≡ length v.patches
  pub skipped : v.skipped ≡ skipped_changes v.ways v.text

-- a target whose temporaries have names of temporaries, while the names that are written have not
pub record IsFit (t : Target) : Type 0 where
  pub temps : HasTemps t
  pub lasting : IsLasting t

-- the set has these names, one list for each file patch
pub record HasTargets (o : PlainOptions) (known : List (List ℕ)) (v : SetView) : Type 0 where
  pub targets : map (λ p. p.targets.items) v.patches ≡ map (λ p. targets_of o known (header_of v.text p.header)) v.patches
  pub output : v.output ≡ output_of o known
  pub few : All (λ p. length p.targets.items < 2 ^ 32) v.patches
  pub fit : All (λ p. All IsFit p.targets.items) v.patches
  pub output_fit : 0 < length v.patches → ForSome v.output IsFit

-- the set is read from this text
pub record IsRead (o : PlainOptions) (given : List ℕ) (v : SetView) : Type 0 where
  pub text : v.text ≡ completed given
  pub ways : v.ways ≡ ways_of o
  pub patches : patches_of (ways_of o) v.text ≡ Ok (plain_patches v)
  -- each lies where the text says
  pub regions : map region_of v.patches ≡ regions_of (ways_of o) v.text
  pub spans : ArePlaced v.text 0 0 v.patches
  pub skipped : v.skipped ≡ skipped_changes (ways_of o) v.text
  pub names : HasTargets o (known_names o (plain_patches v)) v

-- the set of these file patches of a text
pub record IsSetOf (o : PlainOptions) (given : List ℕ) (ps : List PlainPatch) (v : SetView) : Type 0 where
  pub text : v.text ≡ given
  pub ways : v.ways ≡ ways_of o
  pub plain : plain_patches v ≡ ps
  pub regions : map region_of v.patches ≡ regions_of (ways_of o) v.text
  pub spans : ArePlaced v.text 0 0 v.patches
  pub skipped : v.skipped ≡ skipped_changes (ways_of o) v.text
  pub names : HasTargets o (known_names o (plain_patches v)) v

-- nothing was tried yet
abbrev pub first_row : Row
first_row = record { side = Forward; target = None; wrote = false }

pub record IsFresh (v : SetView) : Type 0 where
  pub verdicts : v.verdicts ≡ replicate (hunks_in v.patches) Untried
  pub rows : v.rows ≡ replicate (length v.patches) first_row

-- a set only where no refusal applies, and else that refusal, unless memory ran out
abbrev pub Meets : {X : Type 0} → Option SetFault → Result X SetFault → Type 0
Meets refused (Ok x) = refused ≡ None
Meets refused (Err e) = (e ≡ Memory) ⊎ (refused ≡ Option.Some e)

-- the same set with another row for a file patch, with these verdicts, or once its marks were handed out
abbrev pub with_row : SetView → ℕ → Row → SetView
with_row v patch row = record v { rows = set v.rows patch row }

abbrev pub with_verdicts : SetView → List Verdict → SetView
with_verdicts v verdicts = record v { verdicts = verdicts }

abbrev pub without_marks : SetView → SetView
without_marks v = record v { has_marks = false }
