-- What each switch and each value of `patch` gives, over what `clap` matched.
use Rattle.std.specs.Prelude.{ℕ, ◌+◌, List, codes, nat_le, nat_lt, Bool, true, false, not, ◌&&◌, ◌||◌, if◌then◌else◌, bytes_eq, Option, None, Some, is_some, option_map, option_and_then, unwrap_or}
use Rattle.std.specs.Option.{option_map_or}
use Rattle.std.specs.Borrow.{Bor}
use Rattle.clap.specs.Words.{Row, Text, count_of, first_of}
use Rattle.outside.specs.Names.{given_form, is_here}
use Rattle.hunk_core.specs.declared.Form.{Form}
use Rattle.hunk_core.specs.declared.Form.TheVariants.{Unified, Context, Normal, Ed}
use Rattle.patch_options.specs.Forms.{number_of, buffer_of, usual_buffer, plan_of, reject_form_of, is_suffix, backup_numbers_of, is_get, is_quoting_style, read_only_of, sync_of, is_macro_name, is_prefix, is_base_prefix, is_lasting_name, is_reject_file, is_directory, is_patch_file}
use Rattle.patch_options.specs.PlainJob.{PlainOptions}
use Rattle.patch_options.specs.declared.options.PlanKind.{PlanKind}
use Rattle.patch_options.specs.declared.options.PlanKind.TheVariants.{Auto}
use Rattle.patch_options.specs.declared.options.BackupNumbers.{BackupNumbers}
use Rattle.patch_options.specs.declared.options.BackupNumbers.TheVariants.{Existing}
use Rattle.patch_options.specs.declared.options.FileTimes.{FileTimes}
use Rattle.patch_options.specs.declared.options.FileTimes.TheVariants.{Written, Local, Utc}
use Rattle.patch_options.specs.declared.options.ReadOnlyFiles.{ReadOnlyFiles}
use Rattle.patch_options.specs.declared.options.ReadOnlyFiles.TheVariants.{Told}
use Rattle.patch_options.specs.declared.options.SyncKind.{SyncKind}
use Rattle.patch_options.specs.declared.options.SyncKind.TheVariants.{Each}
use Rattle.patch_options.specs.declared.options.Input.{Input}
use Rattle.patch_options.specs.declared.options.Input.TheVariants.{Standard, File}

-- how often the switch was given
unfoldable pub uses : List Row → Text → ℕ
uses rows name = count_of name rows

abbrev pub is_used : List Row → Text → Bool
is_used rows name = nat_lt 0 (uses rows name)

abbrev pub are_both_used : List Row → Text → Text → Bool
are_both_used rows one other = is_used rows one && is_used rows other

abbrev pub one_if : Bool → ℕ
one_if b = if b then 1 else 0

-- how many forms the patch text may have alone
abbrev pub forms_named : List Row → ℕ
forms_named rows = one_if (is_used rows (codes "context")) + one_if (is_used rows (codes "ed")) + one_if (is_used rows (codes "normal")) + one_if (is_used rows (codes "unified"))

-- `--quiet` only asks for silence, so with `--verbose` it is taken, and silence wins; `--silent` isn't
abbrev pub exclusions_hold : List Row → Bool
exclusions_hold rows = not (are_both_used rows (codes "backup-if-mismatch") (codes "no-backup-if-mismatch")) && not (are_both_used rows (codes "silent") (codes "verbose"))

-- no two switches that exclude each other
abbrev pub switches_agree : List Row → Bool
switches_agree rows = nat_le (forms_named rows) 1 && exclusions_hold rows

-- the value of an option, the last one where it was given more than once, or of an operand
unfoldable pub value_of : List Row → Text → Option Text
value_of rows name = first_of name rows

-- where there is a value, it has this form
abbrev pub has_form : (Text → Bool) → Option Text → Bool
has_form form value = option_map_or form value true

abbrev pub numbers_agree : List Row → Bool
numbers_agree rows = has_form (λ t. is_some (number_of t)) (value_of rows (codes "strip"))
    && (has_form (λ t. is_some (number_of t)) (value_of rows (codes "fuzz"))
    && (has_form (λ t. is_some (buffer_of t)) (value_of rows (codes "buffer")) && has_form is_get (value_of rows (codes "get"))))

abbrev pub words_agree : List Row → Bool
words_agree rows = has_form (λ t. is_some (plan_of t)) (value_of rows (codes "plan"))
    && (has_form (λ t. is_some (reject_form_of t)) (value_of rows (codes "reject-format"))
    && (has_form is_suffix (value_of rows (codes "suffix")) && has_form (λ t. is_some (backup_numbers_of t)) (value_of rows (codes "version-control"))))

abbrev pub writing_agrees : List Row → Bool
writing_agrees rows = has_form (λ t. is_some (read_only_of t)) (value_of rows (codes "read-only")) && has_form (λ t. is_some (sync_of t)) (value_of rows (codes "sync"))

abbrev pub others_agree : List Row → Bool
others_agree rows = has_form is_quoting_style (value_of rows (codes "quoting-style")) && writing_agrees rows

-- numbers, words, the suffix and the name that conditions test have their forms; what `get` and `quoting-style` ask for is so in any case
abbrev pub values_agree : List Row → Bool
values_agree rows = numbers_agree rows && (words_agree rows && (others_agree rows && has_form is_macro_name (value_of rows (codes "ifdef"))))

-- the text behind a reference
abbrev pub text_of : Option (Bor Text) → Option Text
text_of text = option_map (λ t. t.now) text

-- the patch file is given once at most, as a name or `-`
abbrev pub inputs_agree : Option Text → Option Text → Bool
inputs_agree input operand = not (is_some input && is_some operand) && (has_form is_patch_file input && has_form is_patch_file operand)

-- the names that are written, and what stands before that of a backup, are lawful
unfoldable pub outputs_agree : List Row → Bool
outputs_agree rows = has_form is_lasting_name (value_of rows (codes "output"))
    && (has_form is_reject_file (value_of rows (codes "reject-file"))
    && (has_form is_prefix (value_of rows (codes "prefix")) && has_form is_base_prefix (value_of rows (codes "basename-prefix"))))

-- names are lawful
abbrev pub names_agree : List Row → Bool
names_agree rows = inputs_agree (value_of rows (codes "input")) (value_of rows (codes "patchfile"))
    && (has_form is_directory (value_of rows (codes "directory"))
    && (has_form is_lasting_name (value_of rows (codes "file")) && outputs_agree rows))

-- what was matched is a command
abbrev pub is_command : List Row → Bool
is_command rows = switches_agree rows && (values_agree rows && names_agree rows)

-- ---- what it asks for

abbrev pub only_form : List Row → Option Form
only_form rows = if is_used rows (codes "context") then Some Context
    else if is_used rows (codes "ed") then Some Ed
    else if is_used rows (codes "normal") then Some Normal
    else if is_used rows (codes "unified") then Some Unified
    else None

-- a backup is made where a hunk failed or stands elsewhere than it says; with `--posix` only where that is asked for
abbrev pub mismatch_backup : List Row → Bool
mismatch_backup rows = if is_used rows (codes "posix") then is_used rows (codes "backup-if-mismatch") else not (is_used rows (codes "no-backup-if-mismatch"))

-- whether words give the whole name of a backup, which then has no number
abbrev pub is_backup_named : List Row → Bool
is_backup_named rows = is_some (value_of rows (codes "suffix")) || (is_some (value_of rows (codes "prefix")) || is_some (value_of rows (codes "basename-prefix")))

-- whether they have numbers where nothing is said of it: with `-b` where such a backup is there already, but for `--posix`
abbrev pub usual_numbers : List Row → BackupNumbers
usual_numbers rows = if is_used rows (codes "backup") && not (is_used rows (codes "posix")) then Existing else BackupNumbers.Never

-- whether names of backups have numbers (GNU patch manual, "Backup Files")
abbrev pub numbers_in : List Row → BackupNumbers
numbers_in rows = if is_backup_named rows then BackupNumbers.Never else unwrap_or (option_and_then backup_numbers_of (value_of rows (codes "version-control"))) (usual_numbers rows)

-- what is done about files that may not be written to
abbrev pub read_only_in : List Row → ReadOnlyFiles
read_only_in rows = unwrap_or (option_and_then read_only_of (value_of rows (codes "read-only"))) Told

-- when written files say that they were written
abbrev pub times_in : List Row → FileTimes
times_in rows = if is_used rows (codes "set-utc") then Utc else if is_used rows (codes "set-time") then Local else Written

-- when what is written is on the disk
abbrev pub sync_in : List Row → SyncKind
sync_in rows = unwrap_or (option_and_then sync_of (value_of rows (codes "sync"))) Each

-- how the lines of the file to be patched are held
abbrev pub plan_in : List Row → PlanKind
plan_in rows = unwrap_or (option_and_then plan_of (value_of rows (codes "plan"))) Auto

-- the size of a buffer, by the words or else by the plan
abbrev pub buffer_size : List Row → ℕ
buffer_size rows = unwrap_or (option_and_then buffer_of (value_of rows (codes "buffer"))) (usual_buffer (plan_in rows))

abbrev pub first_given : Option Text → Option Text → Option Text
first_given None other = other
first_given (Some text) other = Some text

-- the patch file, `-` or none being standard input
abbrev pub input_of : Option Text → Input
input_of None = Standard
input_of (Some text) = if bytes_eq text (codes "-") then Standard else File (given_form text)

-- the directory, none where it is the working directory. A value of which no component is left is as if there were none,
-- unless it is empty or begins with a slash. `/` is refused: names below it would need a second form of joining
abbrev pub directory_of : Text → Option Text
directory_of text = if is_here text then None else Some (given_form text)

-- `-` stands for no reject file
abbrev pub is_no_file : Option Text → Bool
is_no_file value = option_map_or (λ t. bytes_eq t (codes "-")) value false

abbrev pub reject_of : Text → Option Text
reject_of text = if bytes_eq text (codes "-") then None else Some (given_form text)

abbrev pub options_of : List Row → PlainOptions
options_of rows = record {
  only = only_form rows;
  strip = option_and_then number_of (value_of rows (codes "strip"));
  fuzz = unwrap_or (option_and_then number_of (value_of rows (codes "fuzz"))) 2;
  reverse = is_used rows (codes "reverse");
  force = is_used rows (codes "force");
  batch = is_used rows (codes "batch");
  forward = is_used rows (codes "forward");
  loose = is_used rows (codes "ignore-whitespace");
  remove_empty = is_used rows (codes "remove-empty-files");
  backup = is_used rows (codes "backup");
  mismatch_backup = mismatch_backup rows;
  suffix = value_of rows (codes "suffix");
  prefix = value_of rows (codes "prefix");
  base_prefix = value_of rows (codes "basename-prefix");
  numbers = numbers_in rows;
  dir = option_and_then directory_of (value_of rows (codes "directory"));
  file = option_map given_form (value_of rows (codes "file"));
  input = input_of (first_given (value_of rows (codes "input")) (value_of rows (codes "patchfile")));
  output = option_map given_form (value_of rows (codes "output"));
  reject = option_and_then reject_of (value_of rows (codes "reject-file"));
  no_rejects = is_no_file (value_of rows (codes "reject-file"));
  reject_form = option_and_then reject_form_of (value_of rows (codes "reject-format"));
  define = value_of rows (codes "ifdef");
  posix = is_used rows (codes "posix");
  keep_returns = is_used rows (codes "binary");
  skip_binary = is_used rows (codes "skip-binary");
  dry_run = is_used rows (codes "dry-run");
  read_only = read_only_in rows;
  times = times_in rows;
  follow_links = is_used rows (codes "follow-symlinks");
  silent = is_used rows (codes "silent") || is_used rows (codes "quiet");
  verbose = is_used rows (codes "verbose");
  plan = plan_in rows;
  buffer = buffer_size rows;
  sync = sync_in rows;
}
