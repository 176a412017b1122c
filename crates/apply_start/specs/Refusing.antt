-- What is said of a file patch that is refused for what is in its way, and what that can be.
use Rattle.std.specs.Prelude.{◌≡◌, ◌⊎◌, ℕ, List, drop, Bool, true, false, ◌&&◌, ◌||◌, is_some, is_none}
use Rattle.read_file_patch.specs.declared.derived.Target.{Target}
use Rattle.patch_options.specs.declared.options.ReadOnlyFiles.TheVariants.{Refused}
use Rattle.say_text.specs.Messages.{barred_line, read_only_line}
use Rattle.apply_task.specs.Asking.{moves, renames}
use Rattle.apply_task.specs.Contexts.{PlainContext, target_at, written, shown}
use Rattle.apply_start.specs.declared.obstacles.Barrier.{Barrier}
use Rattle.apply_start.specs.declared.obstacles.Barrier.TheVariants.{Kind, ReadOnly}

abbrev pub barrier_line : Barrier → List ℕ
barrier_line (Kind name link) = barred_line link name.now
barrier_line (ReadOnly name) = read_only_line name.now

-- something else than a file, or than a link, stands at the name that messages show so, or no directory on the way to it
abbrev pub IsFor : List ℕ → Bool → Barrier → Type 0
IsFor shown link (Kind name other) = (name.now ≡ shown) × (other ≡ link)
IsFor shown link (ReadOnly name) = ⊥

-- the same of a target's backup, which is a file or a link as what stands at the target's name
abbrev pub IsForBackup : Target → Barrier → Type 0
IsForBackup w (Kind name link) = (name.now ≡ drop w.shown_from w.backup) ⊎ (name.now ≡ w.backup)
IsForBackup w (ReadOnly name) = ⊥

-- the file that is written may be another one than that which is read
abbrev pub is_apart : PlainContext → Bool
is_apart t = is_some t.options.output || moves t.item.patch

-- with `-b` the backup of the file that is written is asked about, and of a rename that of the file which goes
abbrev pub IsBarrierToBackups : PlainContext → ℕ → Barrier → Type 0
IsBarrierToBackups t place b = ((t.options.backup ≡ true) × IsForBackup (written t place) b) ⊎ (((t.options.backup && renames t.item.patch) ≡ true) × IsForBackup (target_at t.item.targets place) b)

-- before these the file that is written; an output that the options name is no link
abbrev pub IsBarrierToTarget : PlainContext → ℕ → Bool → Barrier → Type 0
IsBarrierToTarget t place link b = ((is_apart t ≡ true) × IsFor (shown (written t place)) (link && is_none t.options.output) b) ⊎ IsBarrierToBackups t place b

-- first of all the file that is read
abbrev pub IsBarrierOfKind : PlainContext → ℕ → Bool → Barrier → Type 0
IsBarrierOfKind t place link b = IsFor (shown (target_at t.item.targets place)) link b ⊎ IsBarrierToTarget t place link b

-- that file may not be written to, and the options ask to leave it then
abbrev pub IsBarrierToWriting : PlainContext → ℕ → Bool → Barrier → Type 0
IsBarrierToWriting t place link (Kind name other) = ⊥
IsBarrierToWriting t place link (ReadOnly name) = (name.now ≡ shown (target_at t.item.targets place)) × ((link ≡ false) × (t.options.read_only ≡ Refused))

-- all that can be in the way of a file patch that is about a link, or about a file, when it begins
abbrev pub IsBarrier : PlainContext → ℕ → Bool → Barrier → Type 0
IsBarrier t place link b = IsBarrierOfKind t place link b ⊎ IsBarrierToWriting t place link b
