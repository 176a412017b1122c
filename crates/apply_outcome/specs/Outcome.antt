-- What is said and written of a file patch whose hunks were tried.
use Rattle.std.specs.Prelude.{ℕ, List, [], ◌++◌, Bool, false, not, ◌&&◌, ◌||◌, if◌then◌else◌, bytes_eq, Option, None, Some, is_some, is_none, unwrap_or, option_map}
use Rattle.std.specs.List.{list_any, flat_map}
use Rattle.std.specs.FinMap.{get}
use Rattle.outside.specs.Files.{Files}
use Rattle.outside.specs.Quiet.{Effect}
use Rattle.hunk_core.specs.declared.Form.{Form}
use Rattle.hunk_core.specs.declared.Form.TheVariants.{Unified, Context, Normal, Ed}
use Rattle.hunk_core.specs.declared.Side.{Side}
use Rattle.hunk_core.specs.declared.Verdict.{Verdict}
use Rattle.patch_options.specs.PlainJob.{PlainOptions}
use Rattle.read_file_patch.specs.declared.derived.Target.{Target}
use Rattle.patch_set.specs.declared.set.Row.{Row}
use Rattle.read_file_patch.specs.PlainPatch.{PlainChange, is_script}
use Rattle.read_file_patch.specs.Absent.{deletes}
use Rattle.hunk_apply.specs.Session.{is_inexact}
use Rattle.hunk_apply.specs.Written.{is_nothing}
use Rattle.reject_text.specs.Rejects.{reject_text, hunks_in}
use Rattle.say_text.specs.Messages.{not_deleting_line, failures_line}
use Rattle.apply_task.specs.TargetEffects.{put_if, backup_effects, target_effects, moved_effects}
use Rattle.apply_task.specs.Asking.{moves, renames, is_bare, acts_new, acts_deleted, takes_files, is_set, mode_asked}
use Rattle.apply_task.specs.Kinds.{is_link}
use Rattle.apply_task.specs.Contexts.{PastFilePatch, PlainContext, written_by, renamed_by, shown, shown_reject, total}
use Rattle.apply_task.specs.Outputs.{Tried, failed, some_placed, some_failed}
use Rattle.apply_outcome.specs.HunksSaid.{change_said}

-- ---- what came of the hunks

-- no reject file is written: of a script, or as the options ask
abbrev pub is_unrejected : PlainOptions → PlainChange → Bool
is_unrejected o change = o.no_rejects || is_script change

-- its file is to be taken away: without a hunk as its git header says, else where a hunk was placed
abbrev pub is_taken_away : PlainContext → Tried → Bool
is_taken_away t x = takes_files t.options && (if is_bare t.item.patch then acts_deleted x.side t.item.patch else deletes x.side t.item.patch && some_placed x.verdicts)

-- a file that was to be deleted has bytes left
abbrev pub is_kept : PlainContext → Tried → Bool
is_kept t x = is_taken_away t x && not (is_nothing x.text)

abbrev pub kept_said : PlainContext → Target → Tried → List ℕ
kept_said t w x = if is_kept t x then not_deleting_line (shown w) else []

-- the file of the rejects is named where it is written
abbrev pub named_reject : PlainContext → Target → Option (List ℕ)
named_reject t w = if t.options.dry_run || is_unrejected t.options t.item.patch.change then None else Some (shown_reject w)

abbrev pub failures_said : PlainContext → Target → Tried → List ℕ
failures_said t w x = if some_failed x.verdicts then failures_line (failed x.verdicts) (total t) (named_reject t w) else []

-- what is said once the hunks were tried
unfoldable pub tried_said : PlainContext → Target → Tried → List ℕ
tried_said t w x = change_said t.options x.end x.side t.item.patch.change x.verdicts ++ (kept_said t w x ++ failures_said t w x)

-- ---- marks

-- rejects are unified for a unified patch, else context, unless the options say
abbrev pub own_reject_form : Form → Form
own_reject_form Unified = Unified
own_reject_form Context = Context
own_reject_form Normal = Context
own_reject_form Ed = Context

abbrev pub reject_form : PlainContext → Form
reject_form t = unwrap_or t.options.reject_form (own_reject_form t.item.patch.header.form)

abbrev pub has_rejects : PlainContext → List Verdict → Bool
has_rejects t vs = some_failed vs && not (is_unrejected t.options t.item.patch.change)

abbrev pub own_reject : PlainContext → Target → Side → List Verdict → List ℕ
own_reject t w side vs = reject_text (hunks_in t.item.patch.change) vs side (shown w) (reject_form t)

-- the mark of a file patch, by its row and its verdicts; in a dry run nothing is written
unfoldable pub mark_of : PlainContext → Row → List Verdict → PastFilePatch
mark_of t r vs = record {
  written = if r.wrote then option_map (λ w. w.name) (written_by t r) else None;
  renamed = if r.wrote then option_map (λ w. w.name) (renamed_by t r) else None;
  rejected = if has_rejects t vs && not t.options.dry_run then option_map (λ w. (w.reject, own_reject t w r.side vs)) (written_by t r) else None;
}

abbrev pub is_name : List ℕ → Option (List ℕ) → Bool
is_name name None = false
is_name name (Some other) = bytes_eq name other

-- it made or took away this name, as its target or from a file that it renamed
abbrev pub has_name : List ℕ → PastFilePatch → Bool
has_name name m = is_name name m.written || is_name name m.renamed

-- so did an earlier file patch
abbrev pub was_written : List PastFilePatch → List ℕ → Bool
was_written past name = list_any (has_name name) past

abbrev pub text_if : List ℕ → Option (List ℕ × List ℕ) → List ℕ
text_if name None = []
text_if name (Some r) = if bytes_eq name r.0 then r.1 else []

-- the reject texts so far of this name
unfoldable pub rejected_before : List PastFilePatch → List ℕ → List ℕ
rejected_before past name = flat_map (λ m. text_if name m.rejected) past

-- ---- the effects

-- with `-b` always, else where a hunk failed or stands elsewhere than it says (GNU patch manual, "Backups")
abbrev pub is_backup_asked : PlainContext → List Verdict → Bool
is_backup_asked t vs = t.options.backup || (t.options.mismatch_backup && is_none t.options.output && list_any is_inexact vs)

-- the backup's name is none of those that the file patch writes or takes away; beside the target's own name that is the
-- other one of a rename. A copy isn't excepted: it puts that backup first, over its own source. With `-E` and `-b` a bare
-- header for an empty file that isn't made backs up an empty file
abbrev pub is_backup_apart : PlainContext → Target → Target → Bool
is_backup_apart t w other = not (bytes_eq w.backup w.name) && not (renames t.item.patch && bytes_eq w.backup other.name)

-- once for each name
abbrev pub is_backup_due : PlainContext → Target → Target → List Verdict → Bool
is_backup_due t w other vs = not (was_written t.past w.name) && is_backup_apart t w other && is_backup_asked t vs

-- it is due since hunks that were placed stand elsewhere than they say, or others failed, and not since `-b` asks for each
abbrev pub is_mismatch_kept : PlainContext → Target → Target → List Verdict → Bool
is_mismatch_kept t w other vs = not t.options.backup && some_placed vs && is_backup_due t w other vs

-- without a hunk the target is written where a file is made, renamed or copied, an empty one is taken away, or a file that stays gets a mode
abbrev pub is_made_bare : PlainContext → Tried → Bool
is_made_bare t x = acts_new x.side t.item.patch || moves t.item.patch || (if acts_deleted x.side t.item.patch then is_taken_away t x && is_nothing x.text else is_set (mode_asked t.options x.side t.item.patch))

-- and with hunks where one was placed
abbrev pub is_written : PlainContext → Tried → Bool
is_written t x = some_placed x.verdicts || (is_bare t.item.patch && is_made_bare t x)

-- a file without a byte is to go: the file patch deletes its file, or `-E` was given (GNU patch manual, "Creating and Removing Files"); and so is a symbolic link without a text
abbrev pub is_unwanted : PlainContext → Side → Bool
is_unwanted t side = (t.options.remove_empty || is_link t.item.patch) || (takes_files t.options && deletes side t.item.patch)

-- an output of the options is put, and so is one with conditions, and a file that is renamed or copied
abbrev pub is_always_put : PlainContext → Bool
is_always_put t = is_some t.options.output || is_some t.options.define || moves t.item.patch

-- any other output without a byte takes the target away, where that is to go
abbrev pub is_removal : PlainContext → Tried → Bool
is_removal t x = is_nothing x.text && not (is_always_put t) && is_unwanted t x.side

-- the source of a rename goes, which is there and isn't the target itself
abbrev pub is_moving : PlainContext → Files → Target → Target → Bool
is_moving t files s w = renames t.item.patch && not (bytes_eq s.name w.name) && is_some (get files s.name)

-- of a source and a target: a rename takes the source away once the target is put, both being backed up before
abbrev pub made_effects : PlainContext → Files → Target → Target → Tried → List Effect
made_effects t files s w x = if is_moving t files s w
    then moved_effects (is_backup_due t w s x.verdicts) (is_backup_due t s w x.verdicts) files s w x.output
    else backup_effects (is_backup_due t w s x.verdicts) files w ++ target_effects (is_removal t x) files w x.output

-- with `-b` also where no hunk was placed, of the file that they were tried for; an output of the options has no old bytes
abbrev pub keeps_old : PlainOptions → List Verdict → Bool
keeps_old o vs = o.backup && is_none o.output && some_failed vs

abbrev pub is_old_kept : PlainContext → Target → Target → List Verdict → Bool
is_old_kept t w other vs = keeps_old t.options vs && is_backup_due t w other vs

abbrev pub written_effects : PlainContext → Files → Target → Target → Tried → List Effect
written_effects t files s w x = if is_written t x then made_effects t files s w x else backup_effects (is_old_kept t w s x.verdicts) files w

abbrev pub rejects_text : PlainContext → Target → Side → List Verdict → List ℕ
rejects_text t w side vs = rejected_before t.past w.reject ++ own_reject t w side vs

abbrev pub reject_effects : PlainContext → Target → Tried → List Effect
reject_effects t w x = put_if (has_rejects t x.verdicts) w.reject (rejects_text t w x.side x.verdicts)

-- in a dry run there is none
unfoldable pub effects_of : PlainContext → Files → Target → Target → Tried → List Effect
effects_of t files s w x = if t.options.dry_run then [] else written_effects t files s w x ++ reject_effects t w x

-- the target was made or taken away
unfoldable pub wrote : PlainContext → Files → Target → Tried → Bool
wrote t files w x = not t.options.dry_run && is_written t x && (not (is_removal t x) || is_some (get files w.name))
