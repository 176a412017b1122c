-- What `patch` says on standard output while it works: each message is a line with its line feed, one of them two lines.
-- The texts are the project's own, in the wording of GNU patch where there is one.
use Rattle.std.specs.Prelude.{ℕ, ◌==◌, ℤ, pos, negsuc, suc, List, [], ◌∷◌, ◌++◌, codes, Bool, true, false, ◌&&◌, ◌||◌, not, if◌then◌else◌, Option, None, Some}
use Rattle.num_text.specs.Numbers.{decimal}
use Rattle.patch_options.specs.PlainJob.{PlainOptions}
use Rattle.say_text.specs.Origins.{PlainOrigin}
use Rattle.say_text.specs.Origins.PlainOrigin.{Itself, RenamedFrom, RenamedBefore, CopiedFrom}
use Rattle.say_text.specs.declared.standing.Standing.{Standing}
use Rattle.say_text.specs.declared.standing.Standing.TheVariants.{Missing, Empty, Filled}

-- with `-s` nothing is said (GNU diffutils manual, "Messages and Questions from patch")
abbrev pub silenced : PlainOptions → List ℕ → List ℕ
silenced o text = if o.silent then [] else text

-- a number, behind a minus sign where it is below 0
abbrev pub signed : ℤ → List ℕ
signed (pos n) = decimal n
signed (negsuc n) = 45 ∷ decimal (suc n)

-- a signed number is 0, or 1
abbrev pub is_int_zero : ℤ → Bool
is_int_zero (pos n) = n == 0
is_int_zero (negsuc n) = false

abbrev pub is_int_one : ℤ → Bool
is_int_one (pos n) = n == 1
is_int_one (negsuc n) = false

-- what is done with a file or a symbolic link; in a dry run it is only checked
abbrev pub doing : Bool → Bool → List ℕ
doing is_dry true = if is_dry then codes "checking symbolic link " else codes "patching symbolic link "
doing is_dry false = if is_dry then codes "checking file " else codes "patching file "

-- what stands behind the name of a patched file: the source where it is renamed, now or before, or copied
abbrev pub behind_name : PlainOrigin → List ℕ
behind_name Itself = codes "\n"
behind_name (RenamedFrom source) = codes " (renamed from " ++ (source ++ codes ")\n")
behind_name (RenamedBefore source) = codes " (already renamed from " ++ (source ++ codes ")\n")
behind_name (CopiedFrom source) = codes " (copied from " ++ (source ++ codes ")\n")

-- the file, and where it comes from; with `-o` the output, and the file that it is read from
abbrev pub patching_line : Bool → Bool → Option (List ℕ) → List ℕ → PlainOrigin → List ℕ
patching_line is_dry is_link None name origin = doing is_dry is_link ++ (name ++ behind_name origin)
patching_line is_dry is_link (Some output) name origin = doing is_dry is_link ++ (output ++ (codes " (read from " ++ (name ++ codes ")\n")))

-- a binary change at this line is passed over
abbrev pub skipping_line : ℕ → List ℕ
skipping_line line = codes "Skipping a binary change at input line " ++ (decimal line ++ codes ".\n")

-- an image isn't put in: the name of its file
abbrev pub image_line : List ℕ → List ℕ
image_line name = codes "File " ++ (name ++ codes ": git binary diffs are not supported.\n")

-- no file was found for the patch that opens at this line: two lines
abbrev pub no_file_lines : ℕ → List ℕ
no_file_lines line = codes "can't find file to patch at input line " ++ (decimal line ++ codes "\nSkipping patch.\n")

-- the file lacks the word of the `Prereq:` line; with `-f` that is a warning
abbrev pub prereq_line : Bool → List ℕ → List ℕ
prereq_line false word = codes "This file doesn't appear to be the " ++ (word ++ codes " version -- skipping patch.\n")
prereq_line true word = codes "Warning: this file doesn't appear to be the " ++ (word ++ codes " version -- patching anyway.\n")

-- what becomes of a patch that doesn't suit the file as it is: it is turned round, or skipped
abbrev pub reaction : Bool → List ℕ
reaction is_turned = if is_turned then codes "  Assuming -R.\n" else codes "  Skipping patch.\n"

-- the patch looks reversed
abbrev pub reversed_line : Bool → List ℕ
reversed_line is_turned = codes "Reversed (or previously applied) patch detected!" ++ reaction is_turned

-- what the patch would do, where its file is as it is to be already (GNU patch manual, "Creating and Removing Files")
abbrev pub would_do : Standing → List ℕ
would_do Missing = codes "The next patch would delete the file "
would_do Empty = codes "The next patch would empty out the file "
would_do Filled = codes "The next patch would create the file "

abbrev pub stands_so : Standing → List ℕ
stands_so Missing = codes ", which does not exist!"
stands_so Empty = codes ", which is already empty!"
stands_so Filled = codes ", which already exists!"

abbrev pub unfit_line : Standing → List ℕ → Bool → List ℕ
unfit_line standing name is_turned = would_do standing ++ (name ++ (stands_so standing ++ reaction is_turned))

-- fuzz is told where it isn't 0
abbrev pub fuzz_part : ℕ → List ℕ
fuzz_part fuzz = if fuzz == 0 then [] else codes " with fuzz " ++ decimal fuzz

-- behind an offset of 1 stands one line
abbrev pub line_word : ℤ → List ℕ
line_word offset = if is_int_one offset then codes " line)" else codes " lines)"

-- an offset is told where it isn't 0, with its minus sign
abbrev pub offset_part : ℤ → List ℕ
offset_part offset = if is_int_zero offset then [] else codes " (offset " ++ (signed offset ++ line_word offset)

-- what came of a hunk, and at which line
abbrev pub hunk_text : ℕ → List ℕ → ℤ → List ℕ
hunk_text number what at = codes "Hunk #" ++ (decimal number ++ (what ++ signed at))

-- where a hunk was placed
abbrev pub placed_line : ℕ → ℤ → ℕ → ℤ → List ℕ
placed_line number at fuzz offset = hunk_text number (codes " succeeded at ") at ++ (fuzz_part fuzz ++ (offset_part offset ++ codes ".\n"))

-- a placed hunk is told of where it has fuzz or an offset other than 0, and with `--verbose` always
abbrev pub is_told : Bool → ℕ → ℤ → Bool
is_told is_verbose fuzz offset = is_verbose || not ((fuzz == 0) && is_int_zero offset)

-- what is said of a placed hunk
abbrev pub placed_text : Bool → ℕ → ℤ → ℕ → ℤ → List ℕ
placed_text is_verbose number at fuzz offset = if is_told is_verbose fuzz offset then placed_line number at fuzz offset else []

-- a hunk has no place, and where its lines end otherwise than those of the file, that is told
abbrev pub failed_end : Bool → List ℕ
failed_end true = codes " (different line endings).\n"
failed_end false = codes ".\n"

abbrev pub failed_line : ℕ → ℤ → Bool → List ℕ
failed_line number at ends_otherwise = hunk_text number (codes " FAILED at ") at ++ failed_end ends_otherwise

-- a file that was to be deleted is kept
abbrev pub not_deleting_line : List ℕ → List ℕ
not_deleting_line name = codes "Not deleting file " ++ (name ++ codes " as content differs from patch\n")

-- what stands at this name, or on the way to it, is no file, or no symbolic link where one is meant
abbrev pub is_not : Bool → List ℕ
is_not true = codes " is not a symbolic link -- refusing to patch\n"
is_not false = codes " is not a regular file -- refusing to patch\n"

abbrev pub barred_line : Bool → List ℕ → List ℕ
barred_line is_link name = codes "File " ++ (name ++ is_not is_link)

-- the file may not be written to, and the options ask to leave it then
abbrev pub read_only_line : List ℕ → List ℕ
read_only_line name = codes "File " ++ (name ++ codes " is read-only; refusing to patch\n")

-- a file would become a symbolic link, or a link a file; types are told as modes of the system
abbrev pub type_change : Bool → List ℕ
type_change true = codes ": can't change file type from 0100000 to 0120000.\n"
type_change false = codes ": can't change file type from 0120000 to 0100000.\n"

abbrev pub type_line : Bool → List ℕ → List ℕ
type_line to_link name = codes "File " ++ (name ++ type_change to_link)

-- what is at this name is no file, but another repository
abbrev pub submodule_line : List ℕ → List ℕ
submodule_line name = codes "File " ++ (name ++ codes ": git submodules are not supported.\n")

-- behind a number of 1 stands one hunk
abbrev pub hunk_word : ℕ → List ℕ
hunk_word hunks = if hunks == 1 then codes " hunk" else codes " hunks"

-- so many of a file's hunks
abbrev pub share : ℕ → ℕ → List ℕ
share some hunks = decimal some ++ (codes " out of " ++ (decimal hunks ++ hunk_word hunks))

-- hunks failed, and where their rejects go, if they are written
abbrev pub failures_line : ℕ → ℕ → Option (List ℕ) → List ℕ
failures_line failed hunks None = share failed hunks ++ codes " FAILED\n"
failures_line failed hunks (Some reject) = share failed hunks ++ (codes " FAILED -- saving rejects to file " ++ (reject ++ codes "\n"))

-- all hunks of a patch that was skipped
abbrev pub ignored_line : ℕ → List ℕ
ignored_line hunks = share hunks hunks ++ codes " ignored\n"

-- all hunks of a patch that was refused, and where their rejects go, if they are written
abbrev pub refused_line : ℕ → Option (List ℕ) → List ℕ
refused_line hunks None = ignored_line hunks
refused_line hunks (Some reject) = share hunks hunks ++ (codes " ignored -- saving rejects to file " ++ (reject ++ codes "\n"))
