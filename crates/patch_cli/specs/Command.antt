-- What a command does, as a function of its words, the files of the tree and what standard input has left (POSIX `patch`; GNU patch manual).
use Rattle.std.specs.Prelude.{◌≡◌, ℕ, Bool, ◌||◌, List, ◌++◌, length, Option, None, Some, Result, Ok, Err}
use Rattle.line_list.specs.Completed.{completed}
use Rattle.hunk_core.specs.Reading.{Fault}
use Rattle.outside.specs.Files.{Files}
use Rattle.read_file_patch.specs.PlainPatch.{PlainPatch}
use Rattle.patch_options.specs.PlainJob.{PlainOptions, PlainJob}
use Rattle.patch_options.specs.PlainJob.PlainJob.{patch}
use Rattle.patch_options.specs.Words.{job_of}
use Rattle.patch_options.specs.declared.options.WordFault.{WordFault}
use Rattle.cli_run_answers.specs.declared.fault.InputFault.{InputFault}
use Rattle.cli_run_answers.specs.Input.{input_bytes, answer_of}
use Rattle.read_patch_text.specs.Patches.{patches_of}
use Rattle.patch_set.specs.Asked.{ways_of}
use Rattle.read_clean_text.specs.Reading.{clean_of}
use Rattle.patch_set.specs.declared.fault.SetFault.{SetFault}
use Rattle.patch_set.specs.Refusals.{refusal}
use Rattle.cli_run_answers.specs.declared.why.Why.TheVariants.{Malformed}
use Rattle.cli_run_answers.specs.Answers.{of_words, of_input, of_set}
use Rattle.patch_run.specs.Run.{Run}
use Rattle.patch_run.specs.Outcome.{Outcome, refused, carried_out}
use Rattle.patch_cli.specs.Numbered.{numbered_run}
use Rattle.patch_cli.specs.Damaged.{has_damaged}
use Rattle.patch_cli.specs.Returns.{strips_returns, first_said}

-- the same run, bad for another reason, too, where there is one
abbrev pub bad_where : Bool → Run → Run
bad_where is_bad r = record r { is_bad = r.is_bad || is_bad }

-- the same outcome with a text in front of all else that is said
abbrev pub behind : List ℕ → Outcome → Outcome
behind first o = record o { text = first ++ o.text }

-- a text that isn't refused has file patches, or is empty; where a damaged line begins no hunk, what that line should begin isn't done
abbrev pub on_patches : PlainOptions → List ℕ → List ℕ → Result (List PlainPatch) Fault → Files → Outcome
on_patches o first text (Err fault) files = refused (Malformed fault.line fault.kind) files
on_patches o first text (Ok ps) files = behind first (carried_out (length ps) (bad_where (has_damaged (ways_of o) text) (numbered_run o text ps files)))

abbrev pub on_refusal : PlainOptions → List ℕ → Option SetFault → List ℕ → Files → Outcome
on_refusal o first (Some fault) text files = refused (of_set fault) files
on_refusal o first None text files = on_patches o first (completed text) (patches_of (ways_of o) (completed text)) files

-- what is said first comes where the text isn't refused
abbrev pub on_text : PlainOptions → List ℕ → List ℕ → Files → Outcome
on_text o first text files = on_refusal o first (refusal o text) text files

abbrev pub on_input : PlainOptions → Result (List ℕ) InputFault → Files → Outcome
on_input o (Err fault) files = refused (of_input fault) files
on_input o (Ok bytes) files = on_text o (first_said o (strips_returns o bytes)) (clean_of o bytes) files

abbrev pub on_job : Result PlainJob WordFault → Files → List ℕ → Outcome
on_job (Err fault) files left = refused (of_words fault) files
on_job (Ok (patch o)) files left = on_input o (answer_of (input_bytes o.input o.dir files left)) files

-- the patch text that the options name, cleaned and completed, is read as these file patches, and none of them is refused
pub record Reads (o : PlainOptions) (files : Files) (left text : List ℕ) (ps : List PlainPatch) : Type 0 where
  pub bytes : List ℕ
  pub given : answer_of (input_bytes o.input o.dir files left) ≡ Ok bytes
  pub free : refusal o (clean_of o bytes) ≡ None
  pub whole : text ≡ completed (clean_of o bytes)
  pub patches : patches_of (ways_of o) text ≡ Ok ps

-- the words are read first, then the patch text; then the file patches are carried out
abbrev pub command : List (List ℕ) → Files → List ℕ → Outcome
command words files left = on_job (job_of words) files left
