-- What a filter comes to, by its words, the files of the tree and what standard input has left (manual pages of patchutils).
use Rattle.std.specs.Prelude.{◌≡◌, ◌⊎◌, ℕ, List, [], Bool, Option, None, Some, Result, Ok, Err}
use Rattle.hunk_core.specs.declared.Form.{Form}
use Rattle.outside.specs.Files.{Files}
use Rattle.outside.specs.FinderView.{FinderView}
use Rattle.patch_options.specs.declared.options.WordFault.{WordFault}
use Rattle.cli_tool_words.specs.PlainJobs.{PlainFilterJob, PlainToolJob}
use Rattle.cli_tool_words.specs.PlainJobs.PlainToolJob.{list_job, filter_job, grep_job, split_job, recount_job, gen_job, flip_job, stack_job}
use Rattle.filter_whole_text.specs.declared.fault.FilterFault.{FilterFault}
use Rattle.filter_whole_text.specs.declared.fault.FilterFault.TheVariants as faults
use Rattle.cli_filter.specs.declared.form_fault.FormFault.{FormFault}
use Rattle.cli_filter.specs.declared.form_fault.FormFault.TheVariants as forms
use Rattle.cli_filter.specs.Converting.{styled_convert}
use Rattle.cli_filter.specs.Outcomes.{HasPatches, list_outcome, grep_outcome, styled_filter}
use Rattle.filter_whole_text.specs.Outcomes.{given, recount_outcome}
use Rattle.filter_whole_text.specs.Flips.{flip_outcome}
use Rattle.filter_whole_text.specs.Parting.{Part, part_lines, part_puts}
use Rattle.filter_whole_text.specs.Splits.{split_outcome}
use Rattle.cli_run_answers.specs.declared.why.Why.{Why}
use Rattle.cli_run_answers.specs.declared.why.Why.TheVariants.{Done, Usage, BadPattern, NoContext, Unfit, WriteFault, TreeFault, Memory}
use Rattle.cli_run_answers.specs.Answers.{of_words, of_input, of_set}
use Rattle.cli_run_answers.specs.Outcomes.{Outcome, refused}
use Rattle.cli_filter.specs.Jobs.{AsksFor, MayBeRefused}
use Rattle.cli_filter.specs.Worlds.{World, Tells}

-- the answer that a filter's fault is
abbrev pub of_filter : FilterFault → Why
of_filter (faults.Input fault) = of_input fault
of_filter (faults.Set fault) = of_set fault
of_filter (faults.Unfit line) = Unfit line
of_filter faults.Pattern = BadPattern
of_filter faults.Tree = TreeFault
of_filter faults.Write = WriteFault
of_filter faults.Memory = Memory

-- the answer of a filter that came to its end, or didn't
abbrev pub why_by : Result (Unit {0}) FilterFault → Why
why_by (Ok done) = Done
why_by (Err fault) = of_filter fault

-- a text is written, and the tree stays
abbrev pub written : Result (List ℕ) FilterFault → Outcome
written (Ok text) = record { why = Done; text = text; effects = [] }
written (Err fault) = refused (of_filter fault)

-- the same of `filterdiff` with a form
abbrev pub of_form : FormFault → Why
of_form (forms.Filter fault) = of_filter fault
of_form (forms.NoContext line) = NoContext line
of_form (forms.Unfit line) = Unfit line

abbrev pub why_formed : Result (Unit {0}) FormFault → Why
why_formed (Ok done) = Done
why_formed (Err fault) = of_form fault

abbrev pub formed : Result (List ℕ) FormFault → Outcome
formed (Ok text) = record { why = Done; text = text; effects = [] }
formed (Err fault) = refused (of_form fault)

-- `filterdiff`, with the form that it is asked for or without one
abbrev pub in_form : Option Form → PlainFilterJob → Files → List ℕ → Outcome
in_form None j files left = written (styled_filter j files left)
in_form (Some form) j files left = formed (styled_convert form j files left)

-- the parts of a text are put, and their names are written
abbrev pub parted : Result (List Part) FilterFault → Outcome
parted (Ok parts) = record { why = Done; text = part_lines parts; effects = part_puts parts }
parted (Err fault) = refused (of_filter fault)

-- what a job comes to, for what the finder hits
abbrev pub on_job : (List ℕ → List ℕ → Bool) → PlainToolJob → Files → List ℕ → Outcome
on_job hit (list_job j) files left = written (list_outcome j files left)
on_job hit (filter_job j) files left = in_form j.format j files left
on_job hit (grep_job j) files left = written (grep_outcome hit j files left)
on_job hit (split_job j) files left = parted (split_outcome j files)
on_job hit (recount_job input) files left = written (recount_outcome input files left)
on_job hit (gen_job j) files left = refused Usage
on_job hit (flip_job input) files left = written (flip_outcome input files left)
on_job hit (stack_job op) files left = refused Usage

-- what the words come to that ask for this
abbrev pub command : (List ℕ → List ℕ → Bool) → Result PlainToolJob WordFault → Files → List ℕ → Outcome
command hit (Ok job) files left = on_job hit job files left
command hit (Err fault) files left = refused (of_words fault)

-- there are file patches to search for a pattern
abbrev pub Searches : PlainToolJob → Files → List ℕ → Type 0
Searches (list_job j) files left = ⊥
Searches (filter_job j) files left = ⊥
Searches (grep_job j) files left = HasPatches (given j.input j.select files left)
Searches (split_job j) files left = ⊥
Searches (recount_job input) files left = ⊥
Searches (gen_job j) files left = ⊥
Searches (flip_job input) files left = ⊥
Searches (stack_job op) files left = ⊥

-- the outcome is the command's; or a pattern that isn't always taken is refused, where there are file patches to search
abbrev pub IsOutcome : FinderView → Result PlainToolJob WordFault → Files → List ℕ → Outcome → Type 0
IsOutcome v job files left o = (o ≡ command v.hit job files left) ⊎ ((o ≡ refused BadPattern) × AsksFor job (λ j. MayBeRefused v j × Searches j files left))

-- what holds where the text is told and isn't searched
abbrev pub UnlessSearched : Result PlainToolJob WordFault → World → Type 0 → Type 0
UnlessSearched job w P = (f : Files) (left : List ℕ) → Tells job w f left → (AsksFor job (λ j. Searches j f left) → ⊥) → P
