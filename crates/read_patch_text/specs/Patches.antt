-- The file patches of a patch text, with garbage between them (POSIX `patch`, "Input Files" and "Patchfile Format"; git-diff(1), "Generating patch text with -p").
use Rattle.std.specs.Prelude.{ℕ, zero, suc, ◌+◌, ◌-◌, Bool, List, [], ◌∷◌, length, drop, sum_by, Option, None, Some, Result, Ok, Err, if◌then◌else◌}
use Rattle.line_list.specs.Lines.{lines}
use Rattle.hunk_core.specs.declared.BadKind.TheVariants as kinds
use Rattle.hunk_core.specs.declared.Form.{Form}
use Rattle.hunk_core.specs.declared.Form.TheVariants.{Unified, Context, Normal, Ed}
use Rattle.hunk_core.specs.Reading.{Fault, fault, ◌>>=◌, Ahead, ahead}
use Rattle.hunk_core.specs.PlainHunk.{PlainHunk}
use Rattle.ed_form.specs.PlainEdit.{PlainEdit}
use Rattle.unified_form.specs.Hunks as unified
use Rattle.context_form.specs.Openings as context_openings
use Rattle.context_form.specs.Hunks as context
use Rattle.normal_form.specs.Hunks as normal
use Rattle.ed_form.specs.Commands as ed_commands
use Rattle.ed_form.specs.Scripts as ed
use Rattle.read_header_record.specs.declared.Header.{Header}
use Rattle.patch_header.specs.declared.search.HeaderStep.{HeaderStep}
use Rattle.patch_header.specs.declared.search.HeaderStep.TheVariants.{Found, Binary, End}
use Rattle.patch_header.specs.declared.read_options.ReadOptions.{ReadOptions}
use Rattle.patch_header.specs.GitHeaders.{git_header}
use Rattle.patch_header.specs.Steps.{next_step}
use Rattle.read_file_patch.specs.PlainPatch.{PlainChange, PlainPatch, hunks, script, header_of}

-- what was read as hunks, or as an ed script
abbrev pub as_hunks : List PlainHunk × Ahead → Result (PlainChange × Ahead) Fault
as_hunks x = Ok (hunks x.0, x.1)

abbrev pub as_script : List PlainEdit × Ahead → Result (PlainChange × Ahead) Fault
as_script x = Ok (script x.0, x.1)

-- the hunks that follow each other in a form, or the script, and what is ahead behind it
unfoldable pub change_at : Form → ℕ → List (List ℕ) → Result (PlainChange × Ahead) Fault
change_at Unified number rest = unified.reading number rest >>= as_hunks
change_at Context number rest = context.reading number rest >>= as_hunks
change_at Normal number rest = normal.reading number rest >>= as_hunks
change_at Ed number rest = ed.reading number rest >>= as_script

-- a hunk of this form, or an ed command, opens these lines
abbrev pub begins_change : Form → List (List ℕ) → Bool
begins_change Unified rest = unified.begins_hunk rest
begins_change Context rest = context_openings.begins_hunk rest
begins_change Normal rest = normal.begins_hunk rest
begins_change Ed rest = ed_commands.begins_script rest

-- the place in a text that these lines are left from
abbrev pub place_before : List ℕ → List (List ℕ) → ℕ
place_before text rest = length text - sum_by length rest

-- a file patch with this header and this change
abbrev pub patch_with : List ℕ → Header → PlainChange → PlainPatch
patch_with text h change = record { header = header_of text h; change = change }

-- the git header that begins at a place of a text
abbrev pub git_lines_at : List ℕ → ℕ → List (List ℕ)
git_lines_at text at = git_header (lines (drop at text))

-- the place behind it
abbrev pub git_end : List ℕ → ℕ → ℕ
git_end text at = at + sum_by length (git_lines_at text at)

-- no hunk, and what is ahead behind a bare git header, whose git line has this number
abbrev pub bare_change : List ℕ → ℕ → ℕ → PlainChange × Ahead
bare_change text at number = (hunks [], ahead (number + length (git_lines_at text at)) (lines (drop (git_end text at) text)))

-- the change that a header opens, and what is ahead behind it
abbrev pub change_behind : List ℕ → Header → Result (PlainChange × Ahead) Fault
change_behind text h = if h.bare then Ok (bare_change text h.at h.opening) else change_at h.form h.opening (lines (drop h.at text))

-- a file patch with this header, and what is ahead behind it
abbrev pub patch_at : List ℕ → Header → Result (PlainPatch × Ahead) Fault
patch_at text h = change_behind text h >>= λ x. Ok (patch_with text h x.0, x.1)

-- a file patch, if that comes next; a binary line is a fault
abbrev pub patch_by : List ℕ → HeaderStep → Result (Option (PlainPatch × Ahead)) Fault
patch_by text (Found h) = patch_at text h >>= λ x. Ok (Some x)
patch_by text (Binary number) = Err (fault number kinds.Binary)
patch_by text End = Ok None

-- the first file patch from a place on, whose line has this number
abbrev pub next_patch : ReadOptions → List ℕ → ℕ → ℕ → Result (Option (PlainPatch × Ahead)) Fault
next_patch ways text at number = patch_by text (next_step ways text at number)

-- a file patch, if there is one, and those that come later
abbrev pub and_later : (Ahead → Result (List PlainPatch) Fault) → Option (PlainPatch × Ahead) → Result (List PlainPatch) Fault
and_later later None = Ok []
and_later later (Some x) = later x.1 >>= λ others. Ok (x.0 ∷ others)

-- at most so many file patches from a place on, whose line has this number
unfoldable pub patches_at : ℕ → ReadOptions → List ℕ → ℕ → ℕ → Result (List PlainPatch) Fault
patches_at zero ways text at number = Ok []
patches_at (suc most) ways text at number = next_patch ways text at number >>= and_later (λ p. patches_at most ways text (place_before text p.rest) p.number)

-- the file patches of a text, read in these ways, or the first fault; each has a byte at least
abbrev pub patches_of : ReadOptions → List ℕ → Result (List PlainPatch) Fault
patches_of ways text = patches_at (length text) ways text 0 1
