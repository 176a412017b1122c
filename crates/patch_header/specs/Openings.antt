-- What can stand at a line: the opening of a form, a binary line, or a bare git header (git-diff(1), "Generating patch text with -p").
use Rattle.std.specs.Prelude.{ℕ, Bool, true, false, not, ◌&&◌, ◌||◌, List, [], ◌∷◌, Option, None, Some, if◌then◌else◌}
use Rattle.hunk_core.specs.declared.Form.{Form}
use Rattle.hunk_core.specs.declared.Form.TheVariants.{Unified, Context, Normal, Ed}
use Rattle.hunk_core.specs.declared.command.Action.{Action}
use Rattle.hunk_core.specs.declared.command.Action.TheVariants as actions
use Rattle.ed_form.specs.declared.command.Command.{Command}
use Rattle.ed_form.specs.Commands.{parts_at, is_command}
use Rattle.unified_form.specs.Hunks as unified
use Rattle.context_form.specs.Openings as context
use Rattle.normal_form.specs.Hunks as normal
use Rattle.patch_header.specs.Content.{is_binary, has_dot}
use Rattle.patch_header.specs.GitHeaders.{behind_run, begins_bare}
use Rattle.patch_header.specs.declared.read_options.ReadOptions.{ReadOptions}
use Rattle.patch_header.specs.declared.openings.Stop.{Stop}
use Rattle.patch_header.specs.declared.openings.Stop.TheVariants.{Opening, Binary, Bare}

-- a form is admitted where it is the only one that is asked for, or all are
abbrev pub admits : Option Form → Form → Bool
admits None form = true
admits (Some Unified) Unified = true
admits (Some Context) Context = true
admits (Some Normal) Normal = true
admits (Some Ed) Ed = true
admits (Some only) form = false

-- text follows 'a' and 'c'
abbrev pub has_text : Action → Bool
has_text actions.Add = true
has_text actions.Change = true
has_text actions.Delete = false

-- a command that text follows
abbrev pub takes_text : Option Command → Bool
takes_text None = false
takes_text (Some c) = has_text c.action

-- where all forms are admitted, a command that text follows opens a script only before a line '.'; where ed scripts alone are asked for, each command opens one
abbrev pub asks_dot : Option Form → List ℕ → Bool
asks_dot None line = takes_text (parts_at line)
asks_dot (Some only) line = false

-- an ed script opens these lines
abbrev pub begins_script : Option Form → List (List ℕ) → Bool
begins_script only [] = false
begins_script only (line ∷ rest) = is_command line && (not (asks_dot only line) || has_dot rest)

-- a hunk of a form, or an ed script, opens these lines
abbrev pub begins : Option Form → Form → List (List ℕ) → Bool
begins only Unified rest = unified.begins_hunk rest
begins only Context rest = context.begins_hunk rest
begins only Normal rest = normal.begins_hunk rest
begins only Ed rest = begins_script only rest

-- an opening of a form that is admitted stands at the first of these lines
abbrev pub opens : Option Form → Form → List (List ℕ) → Bool
opens only form rest = admits only form && begins only form rest

-- a binary line is the first of these lines
abbrev pub begins_binary : List (List ℕ) → Bool
begins_binary [] = false
begins_binary (line ∷ rest) = is_binary line

-- a binary line that isn't passed over is the first of these lines
abbrev pub stops_binary : ReadOptions → List (List ℕ) → Bool
stops_binary ways rest = not ways.skip_binary && begins_binary rest

-- the line directly behind the git header that begins these lines is a binary line
abbrev pub tells_binary : List (List ℕ) → Bool
tells_binary [] = false
tells_binary (line ∷ rest) = begins_binary (behind_run rest)

-- such a header is a part of the binary change; where binary lines are passed over, so is it
abbrev pub is_passed_over : ReadOptions → List (List ℕ) → Bool
is_passed_over ways rest = ways.skip_binary && tells_binary rest

-- a bare git header begins these lines, where git headers are read, and isn't passed over with a binary change
abbrev pub stops_bare : ReadOptions → List (List ℕ) → Bool
stops_bare ways rest = ways.git && (begins_bare rest && not (is_passed_over ways rest))

-- what stands at the first of these lines; no line has two of them, so the order of the tests tells nothing
unfoldable pub stop_at : ReadOptions → List (List ℕ) → Option Stop
stop_at ways rest = if opens ways.only Unified rest then Some (Opening Unified)
    else if opens ways.only Context rest then Some (Opening Context)
    else if opens ways.only Normal rest then Some (Opening Normal)
    else if opens ways.only Ed rest then Some (Opening Ed)
    else if stops_binary ways rest then Some Binary
    else if stops_bare ways rest then Some Bare
    else None
