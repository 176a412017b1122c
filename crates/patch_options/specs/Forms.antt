-- The forms that values have.
use Rattle.std.specs.Prelude.{ℕ, ◌^◌, List, [], ◌∷◌, ◌++◌, codes, nat_le, nat_lt, Bool, true, false, not, ◌&&◌, ◌||◌, ◌==◌, if◌then◌else◌, bytes_eq, Option, None, Some, is_none, nat_eq, option_and_then}
use Rattle.std.specs.List.{list_all, list_any, starts_with}
use Rattle.num_text.specs.Numbers.{number_at}
use Rattle.outside.specs.Files.{is_temp}
use Rattle.outside.specs.Names.{broken_given, broken_rule, given_form, is_here, is_slash, is_control}
use Rattle.hunk_core.specs.declared.Form.{Form}
use Rattle.hunk_core.specs.declared.Form.TheVariants.{Unified, Context}
use Rattle.patch_options.specs.declared.options.PlanKind.{PlanKind}
use Rattle.patch_options.specs.declared.options.PlanKind.TheVariants.{Whole, Padded, Packed, Auto}
use Rattle.patch_options.specs.declared.options.BackupNumbers.{BackupNumbers}
use Rattle.patch_options.specs.declared.options.BackupNumbers.TheVariants.{Existing, Always}
use Rattle.patch_options.specs.declared.options.ReadOnlyFiles.{ReadOnlyFiles}
use Rattle.patch_options.specs.declared.options.ReadOnlyFiles.TheVariants.{Told, Replaced, Refused}
use Rattle.patch_options.specs.declared.options.SyncKind.{SyncKind}
use Rattle.patch_options.specs.declared.options.SyncKind.TheVariants.{Each, Never}

abbrev pub is_empty : List ℕ → Bool
is_empty [] = true
is_empty (b ∷ bs) = false

abbrev pub whole_number : Option (ℕ × List ℕ) → Option ℕ
whole_number None = None
whole_number (Some p) = if is_empty p.1 && nat_lt p.0 (2 ^ 32) then Some p.0 else None

-- the number that a text writes: digits and nothing else, at most 4,294,967,295
unfoldable pub number_of : List ℕ → Option ℕ
number_of text = whole_number (number_at text)

abbrev pub buffer_in : ℕ → Option ℕ
buffer_in n = if nat_le 512 n && nat_le n 1048576 then Some n else None

-- the size of a buffer: a number from 512 to 1,048,576
unfoldable pub buffer_of : List ℕ → Option ℕ
buffer_of text = option_and_then buffer_in (number_of text)

-- the size of a buffer that isn't said: where the size of a file decides how its lines are held, a line has as many bytes as it likes
abbrev pub usual_buffer : PlanKind → ℕ
usual_buffer Whole = 65536
usual_buffer Padded = 65536
usual_buffer Packed = 65536
usual_buffer Auto = 4294967295

-- the largest size of a buffer
abbrev pub largest_buffer : PlanKind → ℕ
largest_buffer Whole = 1048576
largest_buffer Padded = 1048576
largest_buffer Packed = 1048576
largest_buffer Auto = 4294967295

-- the plan that a text names
unfoldable pub plan_of : List ℕ → Option PlanKind
plan_of text = if bytes_eq text (codes "a") then Some Whole
    else if bytes_eq text (codes "b") then Some Padded
    else if bytes_eq text (codes "packed") then Some Packed
    else if bytes_eq text (codes "auto") then Some Auto
    else None

-- the form of rejects that a text names
unfoldable pub reject_form_of : List ℕ → Option Form
reject_form_of text = if bytes_eq text (codes "context") then Some Context
    else if bytes_eq text (codes "unified") then Some Unified
    else None

-- what may stand behind a name to make the name of a backup
unfoldable pub is_suffix : List ℕ → Bool
is_suffix text = not (is_empty text) && (not (list_any is_slash text) && (not (list_any is_control text) && not (is_temp text)))

-- a text is a word, or a front of it
unfoldable pub is_front : List ℕ → List ℕ → Bool
is_front text word = starts_with nat_eq word text

-- it can be cut short from a kind of backups whose names have no numbers
abbrev pub names_simple : List ℕ → Bool
names_simple text = (is_front text (codes "none") || is_front text (codes "off")) || (is_front text (codes "simple") || is_front text (codes "never"))

-- from one whose names have numbers where there is such a backup already
abbrev pub names_existing : List ℕ → Bool
names_existing text = is_front text (codes "existing") || is_front text (codes "nil")

-- from one whose names have numbers
abbrev pub names_numbered : List ℕ → Bool
names_numbered text = is_front text (codes "numbered") || is_front text (codes "t")

abbrev pub only_if : Bool → BackupNumbers → Option BackupNumbers
only_if is kind = if is then Some kind else None

-- the kind of backups that a text names, whole or cut short, where it names no other kind (GNU patch manual, "Backup Files")
unfoldable pub backup_numbers_of : List ℕ → Option BackupNumbers
backup_numbers_of text = if names_simple text then only_if (not (names_existing text || names_numbered text)) BackupNumbers.Never
    else if names_existing text then only_if (not (names_numbered text)) Existing
    else only_if (names_numbered text) Always

abbrev pub is_digit : ℕ → Bool
is_digit b = nat_le 48 b && nat_le b 57

abbrev pub are_digits : List ℕ → Bool
are_digits text = not (is_empty text) && list_all is_digit text

-- digits, behind a sign or none; + 43, - 45
abbrev pub is_signed : List ℕ → Bool
is_signed [] = false
is_signed (b ∷ bs) = if (b == 43) || (b == 45) then are_digits bs else are_digits (b ∷ bs)

-- a number of any size: whatever it is, files are got from no other system
unfoldable pub is_get : List ℕ → Bool
is_get text = is_signed text

-- a way to write names that GNU `patch` has: here they are written as they are
unfoldable pub is_quoting_style : List ℕ → Bool
is_quoting_style text = (bytes_eq text (codes "literal") || bytes_eq text (codes "shell"))
    || (bytes_eq text (codes "shell-always") || (bytes_eq text (codes "c") || bytes_eq text (codes "escape")))

-- what is done about files that may not be written to, as a text names it
unfoldable pub read_only_of : List ℕ → Option ReadOnlyFiles
read_only_of text = if bytes_eq text (codes "warn") then Some Told
    else if bytes_eq text (codes "ignore") then Some Replaced
    else if bytes_eq text (codes "fail") then Some Refused
    else None

-- when what is written is on the disk, as a text names it
unfoldable pub sync_of : List ℕ → Option SyncKind
sync_of text = if bytes_eq text (codes "each") then Some Each
    else if bytes_eq text (codes "none") then Some Never
    else None

-- a letter or an underscore
abbrev pub begins_name : ℕ → Bool
begins_name b = (b == 95) || ((nat_le 65 b && nat_le b 90) || (nat_le 97 b && nat_le b 122))

-- one of these or a digit
abbrev pub goes_on_name : ℕ → Bool
goes_on_name b = begins_name b || (nat_le 48 b && nat_le b 57)

-- a name that a condition of the C preprocessor can test (POSIX `patch`, `-D`)
abbrev pub is_macro_name : List ℕ → Bool
is_macro_name [] = false
is_macro_name (b ∷ bs) = begins_name b && list_all goes_on_name bs

-- the text of a name that an operator may give
unfoldable pub is_name : List ℕ → Bool
is_name text = is_none (broken_given text)

-- a name whose last component isn't that of a temporary
unfoldable pub is_lasting_name : List ℕ → Bool
is_lasting_name text = is_name text && not (is_temp (given_form text))

-- such a name, or `-` for no reject file
unfoldable pub is_reject_file : List ℕ → Bool
is_reject_file text = bytes_eq text (codes "-") || is_lasting_name text

-- a name, or the working directory
unfoldable pub is_directory : List ℕ → Bool
is_directory text = is_here text || is_name text

-- a name, or `-` for standard input
unfoldable pub is_patch_file : List ℕ → Bool
is_patch_file text = bytes_eq text (codes "-") || is_name text

-- what may stand before a name: with `x` behind it, it is the text of a name in normal form
unfoldable pub is_prefix : List ℕ → Bool
is_prefix text = is_name (text ++ codes "x") && bytes_eq (given_form (text ++ codes "x")) (text ++ codes "x")

-- what may stand before the last component of a name: a front that a patch may give, which leads nowhere else
unfoldable pub is_base_prefix : List ℕ → Bool
is_base_prefix text = is_prefix text && is_none (broken_rule (text ++ codes "x"))
