-- What a run over the file patches of a text comes to: its answer, its text, its effects and its receipt.
use Rattle.std.specs.Prelude.{ℕ, List, [], length, map, Bool, if◌then◌else◌, Option, None, Some}
use Rattle.outside.specs.Files.{Files}
use Rattle.outside.specs.Quiet.{Effect}
use Rattle.line_store.specs.declared.fault.OpenFault.{OpenFault}
use Rattle.read_file_patch.specs.PlainPatch.{PlainPatch}
use Rattle.read_file_patch.specs.declared.derived.Target.{Target}
use Rattle.patch_options.specs.PlainJob.{PlainOptions}
use Rattle.patch_options.specs.declared.options.PlanKind.{PlanKind}
use Rattle.patch_set.specs.Asked.{ways_of}
use Rattle.patch_set.specs.Named.{known_names, targets_of, output_of}
use Rattle.patch_set.specs.declared.skipped.BinaryChange.{BinaryChange}
use Rattle.patch_set.specs.Skipped.{skipped_changes}
use Rattle.apply_task.specs.Asking.{moves}
use Rattle.apply_task.specs.Faults.{of_open}
use Rattle.patch_run.specs.Applied.{Receipt}
use Rattle.patch_run.specs.OnePatch.{Item}
use Rattle.patch_run.specs.Run.{Run, run_of}
use Rattle.cli_run_answers.specs.declared.why.Why.{Why}
use Rattle.cli_run_answers.specs.declared.why.Why.TheVariants.{Done, Rejected}
use Rattle.cli_run_answers.specs.Answers.{of_run}

pub record Outcome : Type 0 where
  pub why : Why
  -- what goes to standard output
  pub text : List ℕ
  pub effects : List Effect
  -- the files afterwards
  pub files : Files
  -- the bytes of the files that were taken to be patched, the last of them last
  pub taken : List (List ℕ)
  pub applied : Option Receipt

-- a refusal says nothing and changes nothing
abbrev pub refused : Why → Files → Outcome
refused why files = record { why = why; text = []; effects = []; files = files; taken = []; applied = None }

-- the two names of a file patch that renames or copies a file
abbrev pub moved_for : PlainOptions → List (List ℕ) → PlainPatch → List Target
moved_for o known p = if moves p then targets_of o known p.header else []

-- a file patch with its targets, whose numbers are their places among the known names, the binary changes that are passed over, and the files that are renamed or copied
abbrev pub item_for : PlainOptions → List (List ℕ) → List BinaryChange → List (List Target) → PlainPatch → Item
item_for o known skipped moved p = record { patch = p; targets = targets_of o known p.header; skipped = skipped; moved = moved }

-- those of a text
abbrev pub items_for : PlainOptions → List ℕ → List PlainPatch → List Item
items_for o text ps = map (item_for o (known_names o ps) (skipped_changes (ways_of o) text) (map (moved_for o (known_names o ps)) ps)) ps

-- the file patches of a text one after another
abbrev pub run_for : PlainOptions → List ℕ → List PlainPatch → Files → Run
run_for o text ps files = run_of o (output_of o (known_names o ps)) (items_for o text ps) files

abbrev pub end_of : Option OpenFault → Bool → Why
end_of None is_bad = if is_bad then Rejected else Done
end_of (Some fault) is_bad = of_run (of_open fault)

abbrev pub receipt_if : Option OpenFault → Receipt → Option Receipt
receipt_if None receipt = Some receipt
receipt_if (Some fault) receipt = None

-- what a run over so many file patches comes to
abbrev pub carried_out : ℕ → Run → Outcome
carried_out count r = record {
  why = end_of r.stop r.is_bad;
  text = r.said;
  effects = r.effects;
  files = r.files;
  taken = r.taken;
  applied = receipt_if r.stop (record { is_bad = r.is_bad; done = count; effects = length r.effects });
}

-- the same options with another plan
abbrev pub with_plan : PlanKind → PlainOptions → PlainOptions
with_plan plan o = record o { plan = plan }
