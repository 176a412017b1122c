-- What `patchgen` does, as a function of its words and the files of the tree: it puts the files that a seed makes, applies the patch
-- over them as `patch -s -p0` does, and tells what came of it.
use Rattle.std.specs.Prelude.{ℕ, List, [], ◌++◌, length, map, Option, None, Some, Result, Ok, Err}
use Rattle.std.specs.List.{range_with_len}
use Rattle.line_list.specs.Completed.{completed}
use Rattle.hunk_core.specs.Reading.{Fault}
use Rattle.outside.specs.Files.{Files}
use Rattle.outside.specs.Quiet.{Effect, after_all}
use Rattle.outside.specs.Quiet.Effect.{Put}
use Rattle.line_store.specs.declared.fault.OpenFault.{OpenFault}
use Rattle.read_file_patch.specs.PlainPatch.{PlainPatch}
use Rattle.patch_options.specs.declared.options.WordFault.{WordFault}
use Rattle.cli_tool_words.specs.PlainJobs.{PlainGenJob}
use Rattle.patch_gen.specs.Patches.{file_name}
use Rattle.patch_gen.specs.Tree.{made, made_file}
use Rattle.read_patch_text.specs.Patches.{patches_of}
use Rattle.patch_set.specs.Asked.{ways_of}
use Rattle.patch_set.specs.Refusals.{refusal}
use Rattle.patch_set.specs.declared.fault.SetFault.{SetFault}
use Rattle.patch_run.specs.Run.{Run}
use Rattle.cli_run_answers.specs.declared.why.Why.TheVariants.{Malformed}
use Rattle.cli_run_answers.specs.Answers.{of_set, of_words}
use Rattle.patch_run.specs.Outcome.{Outcome, refused, run_for, end_of, receipt_if}
use Rattle.patch_run.specs.Finishes.{verdicts_of}
use Rattle.cli_gen.specs.Jobs.{options_for}
use Rattle.cli_gen.specs.Summary.{summary_of}

-- file i is put as it is made, in place of what has its name
abbrev pub file_put : PlainGenJob → ℕ → Effect
file_put j i = Put (file_name i) (made_file j.seed j.lines i)

-- the files in their order
abbrev pub file_puts : PlainGenJob → List Effect
file_puts j = map (file_put j) (range_with_len 1 j.files)

-- the patch over them
abbrev pub patch_text : PlainGenJob → List ℕ
patch_text j = (made j.seed j.files j.lines).patch

abbrev pub summary : PlainGenJob → Run → List ℕ
summary j r = summary_of j.files (made j.seed j.files j.lines).hunks (verdicts_of r) r.files r.is_bad

-- a run that stopped at a file which isn't taken has no summary
abbrev pub summary_if : Option OpenFault → List ℕ → List ℕ
summary_if None line = line
summary_if (Some fault) line = []

-- the files, the run over so many file patches, and its summary; the receipt is the run's, in which the files aren't counted
abbrev pub told_of : PlainGenJob → ℕ → Run → Outcome
told_of j count r = record {
  why = end_of r.stop r.is_bad;
  text = r.said ++ summary_if r.stop (summary j r);
  effects = file_puts j ++ r.effects;
  files = r.files;
  taken = r.taken;
  applied = receipt_if r.stop (record { is_bad = r.is_bad; done = count; effects = length r.effects });
}

-- the run over the file patches, on the files that are put
abbrev pub run_over : PlainGenJob → List PlainPatch → Files → Run
run_over j ps f = run_for (options_for j) (completed (patch_text j)) ps (after_all (file_puts j) f)

abbrev pub on_patches : PlainGenJob → Result (List PlainPatch) Fault → Files → Outcome
on_patches j (Err fault) f = refused (Malformed fault.line fault.kind) f
on_patches j (Ok ps) f = told_of j (length ps) (run_over j ps f)

-- the patch is read as `patch` reads it, before a file is put
abbrev pub on_refusal : PlainGenJob → Option SetFault → Files → Outcome
on_refusal j (Some fault) f = refused (of_set fault) f
on_refusal j None f = on_patches j (patches_of (ways_of (options_for j)) (completed (patch_text j))) f

abbrev pub on_job : PlainGenJob → Files → Outcome
on_job j f = on_refusal j (refusal (options_for j) (patch_text j)) f

-- what the words come to that ask for this
abbrev pub command : Result PlainGenJob WordFault → Files → Outcome
command (Ok j) f = on_job j f
command (Err fault) f = refused (of_words fault) f
