-- Which numbers backups get (GNU patch manual, "Backup Files": the kinds of `--version-control`).
use Rattle.std.specs.Prelude.{ℕ, zero, suc, ◌-◌, ◌^◌, List, Bool, true, false, nat_lt, is_some, ◌&&◌, if◌then◌else◌, Option, None, Some}
use Rattle.std.specs.FinMap.{get}
use Rattle.outside.specs.Files.{Files, temp_of}
use Rattle.outside.specs.Numbered.{numbered}
use Rattle.patch_options.specs.PlainJob.{PlainOptions}
use Rattle.patch_options.specs.declared.options.BackupNumbers.{BackupNumbers}
use Rattle.patch_options.specs.declared.options.BackupNumbers.TheVariants.{Never, Existing, Always}
use Rattle.read_file_patch.specs.declared.derived.Target.{Target}
use Rattle.patch_set.specs.Room.{are_asked}

-- backups may have numbers
abbrev pub have_numbers : BackupNumbers → Bool
have_numbers Never = false
have_numbers Existing = true
have_numbers Always = true

-- a run with these options can ask for a backup that may have a number
abbrev pub asks_numbers : PlainOptions → Bool
asks_numbers o = are_asked o && have_numbers o.numbers

-- the greatest number below a bound that passes a test, or 0
unfoldable pub greatest_below : (ℕ → Bool) → ℕ → ℕ
greatest_below test zero = 0
greatest_below test (suc n) = if test n then n else greatest_below test n

-- the greatest number that a backup of the name has, of those below the largest u64, and 0 where none has one. A backup
-- that the run makes itself isn't seen. A directory that can't be read ends the run there, before the first change
abbrev pub last_number : Files → List ℕ → ℕ
last_number files name = greatest_below (λ n. is_some (get files (numbered name n))) (2 ^ 64 - 1)

-- the number of the next backup behind the last one, if it gets one
abbrev pub next_number : BackupNumbers → ℕ → Option ℕ
next_number Never last = None
next_number Existing last = if nat_lt 0 last then Some (suc last) else None
next_number Always last = Some (suc last)

-- the target with another backup
abbrev pub with_backup : List ℕ → Target → Target
with_backup backup t = record t { backup = backup; backup_temp = temp_of backup }

-- with a numbered one
abbrev pub with_number : Option ℕ → Target → Target
with_number None t = t
with_number (Some n) t = with_backup (numbered t.name n) t

-- with the one that comes next over these files
abbrev pub numbered_target : BackupNumbers → Files → Target → Target
numbered_target numbers files t = with_number (next_number numbers (last_number files t.name)) t
