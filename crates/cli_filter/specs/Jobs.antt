-- What the words of a filter ask for, and what a job reads.
use Rattle.std.specs.Prelude.{◌≡◌, ℕ, List, Bool, true, false, if◌then◌else◌, Some, Result, Ok, Err}
use Rattle.hunk_core.specs.declared.Form.{Form}
use Rattle.outside.specs.FinderView.{FinderView}
use Rattle.patch_options.specs.declared.options.WordFault.{WordFault}
use Rattle.patch_options.specs.declared.options.WordFault.TheVariants.{Usage}
use Rattle.cli_tool_words.specs.PlainJobs.{PlainToolJob}
use Rattle.cli_tool_words.specs.PlainJobs.PlainToolJob.{list_job, filter_job, grep_job, split_job, recount_job, gen_job, flip_job, stack_job}
use Rattle.cli_tool_words.specs.Words.{tool_job}
use Rattle.cli_run_answers.specs.Input.{IsStandard}
use Rattle.filter_whole_text.specs.declared.fault.FilterFault.{FilterFault}
use Rattle.format_convert.specs.declared.fault.ConvertFault.{ConvertFault}
use Rattle.cli_filter.specs.Converting.{HasFormCause}
use Rattle.filter_whole_text.specs.Outcomes.{no_selection}
use Rattle.filter_whole_text.specs.Sifting.{HasRefusal, HasTextCause, HasCountCause}
use Rattle.filter_whole_text.specs.Sifting as sifting
use Rattle.filter_whole_text.specs.Flips.{HasFlipCause}

-- the job is a filter's
abbrev pub is_filter : PlainToolJob → Bool
is_filter (list_job j) = true
is_filter (filter_job j) = true
is_filter (grep_job j) = true
is_filter (split_job j) = true
is_filter (recount_job input) = true
is_filter (gen_job j) = false
is_filter (flip_job input) = true
is_filter (stack_job op) = false

-- words of other tools are no command here
abbrev pub filter_of : Result PlainToolJob WordFault → Result PlainToolJob WordFault
filter_of (Ok job) = if is_filter job then Ok job else Err Usage
filter_of (Err fault) = Err fault

-- what the words ask for; the first names the tool
abbrev pub job_of : List (List ℕ) → Result PlainToolJob WordFault
job_of words = filter_of (tool_job words)

-- the words ask for a job of which P holds
abbrev pub AsksFor : Result PlainToolJob WordFault → (PlainToolJob → Type 0) → Type 0
AsksFor (Ok job) P = P job
AsksFor (Err fault) P = ⊥

-- it reads standard input
abbrev pub IsFromSource : PlainToolJob → Type 0
IsFromSource (list_job j) = IsStandard j.input
IsFromSource (filter_job j) = IsStandard j.input
IsFromSource (grep_job j) = IsStandard j.input
IsFromSource (split_job j) = ⊥
IsFromSource (recount_job input) = IsStandard input
IsFromSource (gen_job j) = ⊥
IsFromSource (flip_job input) = IsStandard input
IsFromSource (stack_job op) = ⊥

abbrev pub ReadsSource : Result PlainToolJob WordFault → Type 0
ReadsSource job = AsksFor job IsFromSource

-- it names a file that is read
abbrev pub NamesFile : PlainToolJob → Type 0
NamesFile (list_job j) = sifting.NamesFile j.input j.select
NamesFile (filter_job j) = sifting.NamesFile j.input j.select
NamesFile (grep_job j) = sifting.NamesFile j.input j.select
NamesFile (split_job j) = Unit {0}
NamesFile (recount_job input) = sifting.NamesFile input no_selection
NamesFile (gen_job j) = ⊥
NamesFile (flip_job input) = sifting.NamesFile input no_selection
NamesFile (stack_job op) = ⊥

-- some text is refused so: `lsdiff`, `filterdiff` and `grepdiff` take one without file patches, `recountdiff` refuses bad hunks alone, and
-- `reversediff` refuses also what can't be turned round
abbrev pub MayFault : PlainToolJob → FilterFault → Type 0
MayFault (list_job j) fault = HasTextCause j.select.skip_binary fault
MayFault (filter_job j) fault = HasTextCause j.select.skip_binary fault
MayFault (grep_job j) fault = HasTextCause j.select.skip_binary fault
MayFault (split_job j) fault = HasRefusal j.skip_binary fault
MayFault (recount_job input) fault = HasCountCause fault
MayFault (gen_job j) fault = ⊥
MayFault (flip_job input) fault = HasFlipCause fault
MayFault (stack_job op) fault = ⊥

-- some text can't be written so in the form that is asked for
abbrev pub MayMisfit : PlainToolJob → ConvertFault → Type 0
MayMisfit (list_job j) fault = ⊥
MayMisfit (filter_job j) fault = (form : Form) × (j.format ≡ Some form) × HasFormCause form j fault
MayMisfit (grep_job j) fault = ⊥
MayMisfit (split_job j) fault = ⊥
MayMisfit (recount_job input) fault = ⊥
MayMisfit (gen_job j) fault = ⊥
MayMisfit (flip_job input) fault = ⊥
MayMisfit (stack_job op) fault = ⊥

-- it looks for a pattern
abbrev pub HasPattern : PlainToolJob → Type 0
HasPattern (list_job j) = ⊥
HasPattern (filter_job j) = ⊥
HasPattern (grep_job j) = Unit {0}
HasPattern (split_job j) = ⊥
HasPattern (recount_job input) = ⊥
HasPattern (gen_job j) = ⊥
HasPattern (flip_job input) = ⊥
HasPattern (stack_job op) = ⊥

-- which the finder doesn't always take
abbrev pub MayBeRefused : FinderView → PlainToolJob → Type 0
MayBeRefused v (list_job j) = ⊥
MayBeRefused v (filter_job j) = ⊥
MayBeRefused v (grep_job j) = v.takes j.pattern ≡ false
MayBeRefused v (split_job j) = ⊥
MayBeRefused v (recount_job input) = ⊥
MayBeRefused v (gen_job j) = ⊥
MayBeRefused v (flip_job input) = ⊥
MayBeRefused v (stack_job op) = ⊥

-- it puts parts
abbrev pub Puts : PlainToolJob → Type 0
Puts (list_job j) = ⊥
Puts (filter_job j) = ⊥
Puts (grep_job j) = ⊥
Puts (split_job j) = Unit {0}
Puts (recount_job input) = ⊥
Puts (gen_job j) = ⊥
Puts (flip_job input) = ⊥
Puts (stack_job op) = ⊥
