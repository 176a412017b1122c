-- What is said and written of a file patch that something is in the way of; in a tree that tells its files nothing is.
use Rattle.std.specs.Prelude.{ℕ, List, [], Bool, not, ◌||◌, if◌then◌else◌, Some, None}
use Rattle.std.specs.FinMap.{insert, remove}
use Rattle.outside.specs.Files.{Files}
use Rattle.outside.specs.TreeView.{TreeView}
use Rattle.outside.specs.Calls.{Becomes}
use Rattle.hunk_core.specs.declared.Side.{Side}
use Rattle.hunk_core.specs.declared.Verdict.{Verdict}
use Rattle.read_file_patch.specs.declared.derived.Target.{Target}
use Rattle.say_text.specs.Messages.{refused_line}
use Rattle.apply_task.specs.Asking.{is_bare}
use Rattle.patch_run.specs.OnePatch.{PlainContext, total, shown_reject, is_unrejected, rejects_text}

-- all its hunks are ignored, and the reject file is named, if it is put. They have no place, so they are rejects as others are, though they are
-- told as ignored, as GNU patch tells them
abbrev pub refused_said : PlainContext → Target → Bool → List ℕ
refused_said t w saved = if is_bare t.item.patch then [] else refused_line (total t) (if saved then Some (shown_reject w) else None)

-- its hunks go to a reject file, unless it has none or none is written
abbrev pub saves_refused : PlainContext → Bool
saves_refused t = not ((t.options.dry_run || is_bare t.item.patch) || is_unrejected t.options t.item.patch.change)

-- reads give the reject file with them, and no temporary of it
abbrev pub PutsRejects : TreeView → TreeView → PlainContext → Target → Side → List Verdict → Type 0
PutsRejects u w t target side verdicts = Becomes u w (λ (f : Files). remove (insert f target.reject (rejects_text t target side verdicts)) target.reject_temp)
