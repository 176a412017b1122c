-- Which names a run of `patch` can change.
use Rattle.std.specs.Prelude.{ℕ, List, Bool, ◌&&◌, ◌||◌, bytes_eq, is_none}
use Rattle.std.specs.List.{list_any}
use Rattle.patch_options.specs.PlainJob.{PlainOptions}
use Rattle.read_file_patch.specs.declared.derived.Target.{Target}
pub use Rattle.patch_run.specs.Laws.{targets_in}

-- the options ask for backups, always or where a hunk failed or stands elsewhere than it says
abbrev pub may_back_up : PlainOptions → Bool
may_back_up o = o.backup || (o.mismatch_backup && is_none o.output)

-- the name is the target's own, that of its reject file, or that of its backup where backups are asked for
abbrev pub is_name_of : PlainOptions → List ℕ → Target → Bool
is_name_of o name t = bytes_eq t.name name || (bytes_eq t.reject name || (may_back_up o && bytes_eq t.backup name))

abbrev pub can_change : PlainOptions → List Target → List ℕ → Bool
can_change o targets name = list_any (is_name_of o name) targets
