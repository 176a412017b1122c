-- A command that ends well says one line.
use Rattle.std.proofs.Common.{◌≡◌, ℕ, List, [], ◌++◌, Bool, true, false, Option, None, Some, Result, Ok, Err, refl, ◌∙◌, ap}
use Rattle.outside.specs.Files.{Files}
use Rattle.outside.specs.Quiet.{after_all}
use Rattle.hunk_core.specs.Reading.{Fault}
use Rattle.line_list.specs.Completed.{completed}
use Rattle.line_store.specs.declared.fault.OpenFault.{OpenFault}
use Rattle.line_store.specs.declared.fault.OpenFault.TheVariants as open_fault
use Rattle.read_file_patch.specs.PlainPatch.{PlainPatch}
use Rattle.patch_options.specs.Table.{uses}
use Rattle.read_patch_text.specs.Patches.{patches_of}
use Rattle.patch_set.specs.Asked.{skips_binary, ways_of}
use Rattle.patch_set.specs.Refusals.{refusal}
use Rattle.patch_set.specs.declared.fault.SetFault.{SetFault}
use Rattle.patch_set.specs.declared.fault.SetFault.TheVariants as set
use Rattle.patch_run.specs.Run.{Run}
use Rattle.cli_tool_words.specs.PlainJobs.{PlainGenJob}
use Rattle.cli_run_answers.specs.declared.why.Why.TheVariants.{Done}
use Rattle.cli_run_answers.specs.Answers.{of_set}
use Rattle.patch_run.specs.Outcome.{end_of}
use Rattle.cli_gen.specs.Jobs.{options_for}
use Rattle.cli_gen.specs.Command.{file_puts, patch_text, on_job, on_patches, on_refusal, run_over, summary, summary_if}
use Rattle.cli_gen.proofs.Silent.{silent_for}

-- it says its summary
abbrev SaysLine : PlainGenJob → Files → List ℕ → Type 0
SaysLine j f text = (ps : List PlainPatch) × (text ≡ summary j (run_over j ps f))

not_refused : (fault : SetFault) → of_set fault ≡ Done → ⊥
not_refused (set.Malformed line kind) is = absurd (cc)
not_refused set.Garbage is = absurd (cc)
not_refused set.TooLong is = absurd (cc)
not_refused (set.OutMany count) is = absurd (cc)
not_refused (set.EdReverse line) is = absurd (cc)
not_refused (set.Reserved line) is = absurd (cc)
not_refused set.Memory is = absurd (cc)

not_stopped : (fault : OpenFault) (bad : Bool) → end_of (Some fault) bad ≡ Done → ⊥
not_stopped open_fault.Tree bad is = absurd (cc)
not_stopped open_fault.Scratch bad is = absurd (cc)
not_stopped (open_fault.LongLine line count) bad is = absurd (cc)
not_stopped (open_fault.FileTooLong count) bad is = absurd (cc)
not_stopped (open_fault.Disagree want got) bad is = absurd (cc)
not_stopped open_fault.Memory bad is = absurd (cc)

ends_well : (stop : Option OpenFault) (bad : Bool) → end_of stop bad ≡ Done → (stop ≡ None) × (bad ≡ false)
ends_well None true is = absurd (cc)
ends_well None false is = (refl, refl)
ends_well (Some fault) bad is = absurd (not_stopped fault bad is)

run_line : (j : PlainGenJob) (r : Run) → (r.is_bad ≡ false → r.stop ≡ None → r.said ≡ []) → end_of r.stop r.is_bad ≡ Done → r.said ++ summary_if r.stop (summary j r) ≡ summary j r
run_line j r hushed is =
    let well = ends_well r.stop r.is_bad is in
    ap (λ (l : List ℕ). l ++ summary_if r.stop (summary j r)) (hushed well.1 well.0) ∙ ap (λ s. summary_if s (summary j r)) well.0

-- the options of `patchgen` don't ask that binary changes be passed over
asks_none : (j : PlainGenJob) → skips_binary (options_for j) ≡ false
unfolding uses
asks_none j = refl

read_line : (j : PlainGenJob) (f : Files) (x : Result (List PlainPatch) Fault) → (on_patches j x f).why ≡ Done → SaysLine j f (on_patches j x f).text
read_line j f (Err fault) is = absurd (cc)
read_line j f (Ok ps) is = (ps, run_line j (run_over j ps f) (silent_for (options_for j) (completed (patch_text j)) ps (after_all (file_puts j) f) refl (asks_none j)) is)

line_unless : (j : PlainGenJob) (f : Files) (x : Option SetFault) → (on_refusal j x f).why ≡ Done → SaysLine j f (on_refusal j x f).text
line_unless j f (Some fault) is = absurd (not_refused fault is)
line_unless j f None is = read_line j f (patches_of (ways_of (options_for j)) (completed (patch_text j))) is

pub one_line : (j : PlainGenJob) (f : Files) → (on_job j f).why ≡ Done → (ps : List PlainPatch) × ((on_job j f).text ≡ summary j (run_over j ps f))
one_line j f is = line_unless j f (refusal (options_for j) (patch_text j)) is
