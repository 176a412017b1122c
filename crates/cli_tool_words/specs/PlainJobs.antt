-- What the tools beside `patch` are asked for, with texts, patterns and ranges as lists, and which jobs are lawful.
use Rattle.std.specs.Prelude.{◌≡◌, ℕ, ◌*◌, ◌≤◌, List, All, map, Bool, false, Option, option_map, string_bytes}
use Rattle.std.specs.Option.{ForSome}
use Rattle.hunk_core.specs.declared.Form.{Form}
use Rattle.outside.specs.Files.{is_temp}
use Rattle.patch_options.specs.Forms.{largest_buffer}
use Rattle.patch_options.specs.declared.options.Input.{Input}
use Rattle.patch_options.specs.declared.options.PlanKind.{PlanKind}
use Rattle.patch_options.specs.declared.options.SyncKind.{SyncKind}
use Rattle.cli_tool_words.specs.declared.jobs.Select.{Select}
use Rattle.cli_tool_words.specs.declared.jobs.Ranges.{Ranges}
use Rattle.cli_tool_words.specs.declared.jobs.Shown.{Shown}
use Rattle.cli_tool_words.specs.declared.jobs.ListJob.{ListJob}
use Rattle.cli_tool_words.specs.declared.jobs.FilterJob.{FilterJob}
use Rattle.cli_tool_words.specs.declared.jobs.Style.{Style}
use Rattle.cli_tool_words.specs.declared.jobs.Searched.{Searched}
use Rattle.cli_tool_words.specs.declared.jobs.GrepOut.{GrepOut}
use Rattle.cli_tool_words.specs.declared.jobs.GrepJob.{GrepJob}
use Rattle.cli_tool_words.specs.declared.jobs.Marks.{Marks}
use Rattle.cli_tool_words.specs.declared.jobs.PartNames.{PartNames}
use Rattle.cli_tool_words.specs.declared.jobs.SplitJob.{SplitJob}
use Rattle.cli_tool_words.specs.declared.jobs.GenJob.{GenJob}
use Rattle.cli_tool_words.specs.declared.jobs.StackJob.{StackJob}
use Rattle.cli_tool_words.specs.declared.jobs.ToolJob.{ToolJob}
use Rattle.cli_tool_words.specs.declared.jobs.ToolJob.TheVariants.{List as ListOf, Filter, Grep, Split, Recount, Gen, Flip, Stack}

-- which file patches are meant; each field is that of `Select`
pub record PlainSelect : Type 0 where
  pub strip : ℕ
  pub include : List (List ℕ)
  pub exclude : List (List ℕ)
  pub include_file : Option (List ℕ)
  pub exclude_file : Option (List ℕ)
  pub only_included : Bool
  pub skip_binary : Bool

-- numbers from a first up to and with a last
abbrev pub PlainItems : Type 0
PlainItems = List (ℕ × ℕ)

-- the numbers of some items, or all other ones; each field is that of `Ranges`
pub record PlainRanges : Type 0 where
  pub items : PlainItems
  pub others : Bool

-- how a file patch is shown; each field is that of `Shown`
pub record PlainShown : Type 0 where
  pub numbers : Bool
  pub hunks : Bool
  pub status : Bool
  pub empty_absent : Bool
  pub strip : ℕ
  pub prefix : List ℕ
  pub label : List ℕ
  pub hunk_label : List ℕ

-- a list; each field is that of `ListJob`
pub record PlainListJob : Type 0 where
  pub input : Input
  pub select : PlainSelect
  pub shown : PlainShown
  pub number_files : Bool

-- what is done to the lines that are written; each field is that of `Style`
pub record PlainStyle : Type 0 where
  pub strip : ℕ
  pub prefix : Option (List ℕ)
  pub old_prefix : List ℕ
  pub new_prefix : List ℕ
  pub no_stamps : Bool
  pub clean : Bool

-- what is left of a text; each field is that of `FilterJob`
pub record PlainFilterJob : Type 0 where
  pub input : Input
  pub select : PlainSelect
  pub hunks : Option PlainRanges
  pub lines : Option PlainRanges
  pub files : Option PlainRanges
  pub format : Option Form
  pub verbose : Bool
  pub style : PlainStyle
  pub marks : Marks

-- what is looked for; each field is that of `GrepJob`
pub record PlainGrepJob : Type 0 where
  pub input : Input
  pub select : PlainSelect
  pub pattern : List ℕ
  pub pattern_file : Option (List ℕ)
  pub searched : Searched
  pub output : GrepOut
  pub shown : PlainShown
  pub marks : Marks

-- how the parts are named; each field is that of `PartNames`
pub record PlainPartNames : Type 0 where
  pub by_name : Bool
  pub directory : Option (List ℕ)
  pub bare : Bool
  pub strip : ℕ

-- what is cut; each field is that of `SplitJob`
pub record PlainSplitJob : Type 0 where
  pub input : List ℕ
  pub every : Bool
  pub names : PlainPartNames
  pub verbose : Bool
  pub skip_binary : Bool
  pub sync : SyncKind

-- what is made; each field is that of `GenJob`
pub record PlainGenJob : Type 0 where
  pub seed : ℕ
  pub files : ℕ
  pub lines : ℕ
  pub plan : PlanKind
  pub buffer : ℕ
  pub sync : SyncKind

pub data PlainToolJob : Type 0 where
  list_job : PlainListJob → PlainToolJob
  filter_job : PlainFilterJob → PlainToolJob
  grep_job : PlainGrepJob → PlainToolJob
  split_job : PlainSplitJob → PlainToolJob
  recount_job : Input → PlainToolJob
  gen_job : PlainGenJob → PlainToolJob
  flip_job : Input → PlainToolJob
  stack_job : StackJob → PlainToolJob

-- ---- what the structs of the code stand for

abbrev pub plain_select : Select → PlainSelect
plain_select s = record {
  strip = s.strip;
  include = map (λ p. p.items) s.include.items;
  exclude = map (λ p. p.items) s.exclude.items;
  include_file = s.include_file;
  exclude_file = s.exclude_file;
  only_included = s.only_included;
  skip_binary = s.skip_binary;
}

abbrev pub plain_ranges : Option Ranges → Option PlainRanges
plain_ranges ranges = option_map (λ r. record { items = r.items.items; others = r.others }) ranges

abbrev pub plain_shown : Shown → PlainShown
plain_shown s = record { numbers = s.numbers; hunks = s.hunks; status = s.status; empty_absent = s.empty_absent; strip = s.strip; prefix = s.prefix.items; label = s.label.items; hunk_label = s.hunk_label.items }

abbrev pub plain_style : Style → PlainStyle
plain_style s = record { strip = s.strip; prefix = option_map (λ p. p.items) s.prefix; old_prefix = s.old_prefix.items; new_prefix = s.new_prefix.items; no_stamps = s.no_stamps; clean = s.clean }

abbrev pub plain_list_job : ListJob → PlainListJob
plain_list_job j = record { input = j.input; select = plain_select j.select; shown = plain_shown j.shown; number_files = j.number_files }

abbrev pub plain_filter_job : FilterJob → PlainFilterJob
plain_filter_job j = record { input = j.input; select = plain_select j.select; hunks = plain_ranges j.hunks; lines = plain_ranges j.lines; files = plain_ranges j.files; format = j.format; verbose = j.verbose; style = plain_style j.style; marks = j.marks }

abbrev pub plain_grep_job : GrepJob → PlainGrepJob
plain_grep_job j = record { input = j.input; select = plain_select j.select; pattern = string_bytes j.pattern; pattern_file = j.pattern_file; searched = j.searched; output = j.output; shown = plain_shown j.shown; marks = j.marks }

abbrev pub plain_part_names : PartNames → PlainPartNames
plain_part_names n = record { by_name = n.by_name; directory = n.directory; bare = n.bare; strip = n.strip }

abbrev pub plain_split_job : SplitJob → PlainSplitJob
plain_split_job j = record { input = j.input; every = j.every; names = plain_part_names j.names; verbose = j.verbose; skip_binary = j.skip_binary; sync = j.sync }

abbrev pub plain_gen_job : GenJob → PlainGenJob
plain_gen_job j = record { seed = j.seed; files = j.files; lines = j.lines; plan = j.plan; buffer = j.buffer; sync = j.sync }

abbrev pub plain_tool_job : ToolJob → PlainToolJob
plain_tool_job (ListOf j) = list_job (plain_list_job j)
plain_tool_job (Filter j) = filter_job (plain_filter_job j)
plain_tool_job (Grep j) = grep_job (plain_grep_job j)
plain_tool_job (Split j) = split_job (plain_split_job j)
plain_tool_job (Recount i) = recount_job i
plain_tool_job (Gen j) = gen_job (plain_gen_job j)
plain_tool_job (Flip i) = flip_job i
plain_tool_job (Stack j) = stack_job j

-- ---- the jobs that a tool may get

-- from a first number up to and with a last
abbrev pub IsRange : ℕ × ℕ → Type 0
IsRange range = range.0 ≤ range.1

abbrev pub AreRanges : Option PlainRanges → Type 0
AreRanges ranges = ForSome ranges (λ r. All IsRange r.items)

-- the ranges of a filter
pub record HasRanges (j : PlainFilterJob) : Type 0 where
  pub hunks : AreRanges j.hunks
  pub lines : AreRanges j.lines
  pub files : AreRanges j.files

-- so many files of so many lines, by pages of such a size
pub record IsSize (j : PlainGenJob) : Type 0 where
  pub some_files : 1 ≤ j.files
  pub few_files : j.files ≤ 1000
  pub some_lines : 20 ≤ j.lines
  pub few_lines : j.lines ≤ 9999999
  pub few : j.files * j.lines ≤ 10000000
  pub least : 512 ≤ j.buffer
  pub most : j.buffer ≤ largest_buffer j.plan

-- the parts of a text are no temporaries; the other tools' jobs may be any
abbrev pub IsLawfulToolJob : PlainToolJob → Type 0
IsLawfulToolJob (filter_job j) = HasRanges j
IsLawfulToolJob (split_job j) = is_temp j.input ≡ false
IsLawfulToolJob (gen_job j) = IsSize j
IsLawfulToolJob (list_job j) = Unit {0}
IsLawfulToolJob (grep_job j) = Unit {0}
IsLawfulToolJob (recount_job i) = Unit {0}
IsLawfulToolJob (flip_job i) = Unit {0}
IsLawfulToolJob (stack_job j) = Unit {0}
