-- What one file patch says and does, step by step (POSIX `patch`; GNU patch manual, "Invoking patch").
use Rattle.std.specs.Prelude.{ℕ, List, [], ◌++◌, replicate, Bool, true, ◌||◌, if◌then◌else◌, Option, None, Some}
use Rattle.outside.specs.Files.{Files}
use Rattle.outside.specs.Quiet.{Effect}
use Rattle.hunk_core.specs.declared.Side.{Side}
use Rattle.hunk_core.specs.declared.Verdict.{Verdict}
use Rattle.hunk_core.specs.declared.Verdict.TheVariants.{Ignored}
use Rattle.line_store.specs.declared.fault.OpenFault.{OpenFault}
use Rattle.read_file_patch.specs.declared.derived.Target.{Target}
use Rattle.patch_set.specs.declared.set.Row.{Row}
use Rattle.say_text.specs.Messages.{ignored_line}
use Rattle.apply_task.specs.Asking.{is_bare}
pub use Rattle.apply_task.specs.Contexts.{Item, PastFilePatch, PlainContext, no_target, target_at, written_at, written, written_by, renamed_by, bytes_of, shown, shown_reject, total}
pub use Rattle.apply_task.specs.Outputs.{Tried, verdicts_on, text_of, parted_output, output_on, tried, failed, some_placed, some_failed}
pub use Rattle.apply_outcome.specs.HunksSaid.{hunk_said, script_said, change_said}
unfoldable pub use Rattle.apply_outcome.specs.HunksSaid.{hunks_said}
pub use Rattle.apply_outcome.specs.Outcome.{is_unrejected, is_taken_away, is_kept, kept_said, named_reject, failures_said, own_reject_form, reject_form, has_rejects, own_reject, is_name, has_name, was_written, text_if, is_backup_asked, is_backup_apart, is_backup_due, keeps_old, is_old_kept, is_made_bare, is_written, is_unwanted, is_always_put, is_removal, is_moving, made_effects, written_effects, rejects_text, reject_effects}
unfoldable pub use Rattle.apply_outcome.specs.Outcome.{tried_said, mark_of, rejected_before, effects_of, wrote}
pub use Rattle.apply_start.specs.Start.{Start, skips, refuses, tries, said_first, skips_at, lines_in, first_hunk, is_reversed, turns, turns_round, on_direction, line_has_word, has_word, lacks_word, prereq_said, on_prereq, refusal_of, refused_or, on_taking, standing, unfit, unfit_said, on_misfit, is_needed, is_forced, on_unfit, on_fitting, on_file, origin_by, origin_of, named, patching_said, on_meant, unmeant_line, unmeant_said, on_target, on_choice, choice_of, is_first, skipped_said, fails_first, own_start}
unfoldable pub use Rattle.apply_start.specs.Start.{start}
unfoldable pub use Rattle.apply_start.specs.Skipping.{changes_said}

-- what a file patch says and does
pub record Story : Type 0 where
  pub said : List ℕ
  pub effects : List Effect
  -- the name whose temporary is gone afterwards, whether or not the name itself was put
  pub cleared : Option (List ℕ)
  pub verdicts : List Verdict
  pub row : Row
  -- a hunk failed, it was skipped, a file that was to be deleted wasn't, or a binary change failed in front of it
  pub is_bad : Bool
  -- the bytes of the file that the plan took
  pub taken : Option (List ℕ)

-- it came to its end; or the file isn't taken, once this was said
pub data Ending : Type 0 where
  ended : Story → Ending
  stopped : List ℕ → OpenFault → Ending

-- ---- the whole story

-- nothing is said of hunks where there is none
abbrev pub ignored_said : PlainContext → List ℕ
ignored_said t = if is_bare t.item.patch then [] else ignored_line (total t)

-- all hunks are ignored
abbrev pub skipped : PlainContext → List ℕ → Row → Option (List ℕ) → Story
skipped t said row taken = record {
  said = said ++ ignored_said t;
  effects = [];
  cleared = None;
  verdicts = replicate (total t) Ignored;
  row = row;
  is_bad = true;
  taken = taken;
}

abbrev pub finished : PlainContext → Files → List ℕ → ℕ → Option (List ℕ) → Target → Target → Tried → Story
finished t files said place bytes s w x = record {
  said = said ++ tried_said t w x;
  effects = effects_of t files s w x;
  cleared = if t.options.dry_run then None else Some w.name;
  verdicts = x.verdicts;
  row = record { side = x.side; target = Some place; wrote = wrote t files w x };
  is_bad = (some_failed x.verdicts || is_kept t x) || fails_first t;
  taken = bytes;
}

abbrev pub finished_at : PlainContext → Files → List ℕ → ℕ → Side → Story
finished_at t files said place side = finished t files said place (bytes_of t files place) (target_at t.item.targets place) (written t place) (tried t side (lines_in (bytes_of t files place)))

abbrev pub ending_of : PlainContext → Files → Start → Ending
ending_of t files (skips said row taken) = ended (skipped t said row taken)
ending_of t files (refuses said fault) = stopped said fault
ending_of t files (tries said place side) = ended (finished_at t files said place side)

-- what a file patch says and does on these files
unfoldable pub ending : PlainContext → Files → Ending
ending t files = ending_of t files (start t files)
