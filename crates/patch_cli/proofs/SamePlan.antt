-- With another plan a command does the same.
use Rattle.std.proofs.Common.{◌≡◌, ◌∙◌, ℕ, List, Option, None, Some, length, Result, Ok, Err, refl, ap}
use Rattle.line_list.specs.Completed.{completed}
use Rattle.hunk_core.specs.Reading.{Fault}
use Rattle.outside.specs.Files.{Files}
use Rattle.patch_options.specs.PlainJob.{PlainOptions}
use Rattle.patch_options.specs.PlainJob.PlainJob.{patch}
use Rattle.patch_options.specs.declared.options.PlanKind.{PlanKind}
use Rattle.cli_run_answers.specs.declared.fault.InputFault.{InputFault}
use Rattle.cli_run_answers.specs.Input.{input_bytes, answer_of}
use Rattle.read_file_patch.specs.PlainPatch.{PlainPatch}
use Rattle.read_patch_text.specs.Patches.{patches_of}
use Rattle.patch_set.specs.Asked.{ways_of}
use Rattle.patch_set.specs.declared.fault.SetFault.{SetFault}
use Rattle.patch_set.specs.Refusals.{refusal}
use Rattle.read_clean_text.specs.Reading.{clean_of}
use Rattle.patch_run.specs.Outcome.{carried_out, with_plan}
use Rattle.patch_run.specs.Run.{Run, begun}
use Rattle.patch_run.proofs.SamePlan.{refusal_same, run_same}
use Rattle.patch_cli.specs.Numbered.{asked_output, asked_items}
use Rattle.patch_cli.specs.Damaged.{has_damaged}
use Rattle.patch_cli.specs.Returns.{strips_returns, first_said}
use Rattle.patch_cli.specs.Command.{bad_where, behind, on_patches, on_refusal, on_text, on_input, on_job}

module _ (plan : PlanKind) (o : PlainOptions) (f : Files) where
  patches_same : (first text : List ℕ) (ps : Result (List PlainPatch) Fault) → on_patches (with_plan plan o) first text ps f ≡ on_patches o first text ps f
  patches_same first text (Err fault) = refl
  patches_same first text (Ok ps) = ap (λ (r : Run). behind first (carried_out (length ps) (bad_where (has_damaged (ways_of o) text) r))) (run_same plan o (asked_output o f ps) (asked_items o f text ps) (begun f))

  refused_same : (first text : List ℕ) (fault : Option SetFault) → on_refusal (with_plan plan o) first fault text f ≡ on_refusal o first fault text f
  refused_same first text (Some fault) = refl
  refused_same first text None = patches_same first (completed text) (patches_of (ways_of o) (completed text))

  text_same : (first text : List ℕ) → on_text (with_plan plan o) first text f ≡ on_text o first text f
  text_same first text = ap (λ fault. on_refusal (with_plan plan o) first fault text f) (refusal_same plan o text) ∙ refused_same first text (refusal o text)

  input_same : (bytes : Result (List ℕ) InputFault) → on_input (with_plan plan o) bytes f ≡ on_input o bytes f
  input_same (Err fault) = refl
  input_same (Ok bytes) = text_same (first_said o (strips_returns o bytes)) (clean_of o bytes)

  pub job_same : (left : List ℕ) → on_job (Ok (patch (with_plan plan o))) f left ≡ on_job (Ok (patch o)) f left
  job_same left = input_same (answer_of (input_bytes o.input o.dir f left))
