-- What is written of a set in another form, and what a call that writes it promises.
use Rattle.std.specs.Prelude.{◌≡◌, ℕ, Bool, ◌||◌, ◌==◌, not, List, [], ◌∷◌, ◌++◌, length, map, Option, None, Some, Result, OnOk, IfErr, if◌then◌else◌}
use Rattle.std.specs.List.{flat_map, range_with_len, zip}
use Rattle.outside.specs.SinkView.{SinkView, SinkPasses, Receives, ReceivesPart, Rises}
use Rattle.hunk_core.specs.declared.Form.{Form}
use Rattle.hunk_core.specs.declared.Form.TheVariants.{Unified, Context, Normal, Ed}
use Rattle.hunk_core.specs.declared.Side.TheVariants.{Forward}
use Rattle.hunk_core.specs.PlainHunk.{PlainHunk, bytes_at}
use Rattle.read_header_record.specs.declared.Header.{Header}
use Rattle.read_file_patch.specs.declared.FilePatch.{FilePatch}
use Rattle.read_file_patch.specs.PlainPatch.{PlainChange, PlainPatch, hunks, script, patch_of}
use Rattle.patch_set.specs.SetView.{SetView}
use Rattle.flip_patch.specs.HeaderText.{header_text}
use Rattle.cli_tool_words.specs.PlainJobs.{PlainFilterJob}
use Rattle.format_convert.specs.declared.fault.ConvertFault.{ConvertFault}
use Rattle.format_convert.specs.declared.fault.ConvertFault.TheVariants.{NoContext, Unfit, Write}
use Rattle.format_convert.specs.Behind.{behind_in, shown_text}
use Rattle.format_convert.specs.Taken.{flags, has_kept, left_change}
use Rattle.format_convert.specs.Blocks.{blocks_in}
use Rattle.format_convert.specs.Commands.{command_text}
use Rattle.format_convert.specs.Refusals.{shows_context}

-- ---- the hunks of a file patch, each behind its lines in the text

-- one that is kept, or none
abbrev pub piece_if : Bool × (List ℕ × PlainHunk) → List (List ℕ × PlainHunk)
piece_if row = if row.0 then row.1 ∷ [] else []

abbrev pub kept_pieces : List Bool → List (List ℕ × PlainHunk) → List (List ℕ × PlainHunk)
kept_pieces are xs = flat_map piece_if (zip are xs)

-- what is written of one whose lines have this form: the text behind its ranges is kept
abbrev pub told : Form → Form → List ℕ × PlainHunk → List ℕ
told wanted from x = shown_text wanted (behind_in from x.0) x.1

-- what is written of those of a change that are kept; a script has none
abbrev pub hunk_texts : Form → Form → List Bool → List (List ℕ) → PlainChange → List ℕ
hunk_texts wanted from are pieces (hunks hs) = flat_map (told wanted from) (kept_pieces are (zip pieces hs))
hunk_texts wanted from are pieces (script es) = []

-- ---- a file patch

-- a change in a form: its kept hunks, or a command for each of its blocks
abbrev pub change_text : Form → Form → List Bool → List (List ℕ) → PlainChange → List ℕ
change_text Unified from are pieces c = hunk_texts Unified from are pieces c
change_text Context from are pieces c = hunk_texts Context from are pieces c
change_text Normal from are pieces c = command_text Normal (left_change are c)
change_text Ed from are pieces c = command_text Ed (left_change are c)

-- a form of commands has nothing to say where nothing is changed
abbrev pub is_written : Form → PlainChange → Bool
is_written wanted c = shows_context wanted || not (length (blocks_in c) == 0)

-- the header lines, and the change
abbrev pub written : Form → List ℕ → Header → List Bool → List (List ℕ) → PlainChange → List ℕ
written wanted text h are pieces c = if is_written wanted (left_change are c) then header_text text wanted Forward h ++ change_text wanted h.form are pieces c else []

-- what is written of a file patch, counted from 0, with the lines of each of its hunks; nothing where no hunk is kept
abbrev pub written_of : Form → PlainFilterJob → List ℕ → ℕ → Header → List (List ℕ) → PlainPatch → List ℕ
written_of wanted j text patch h pieces p = if has_kept j patch p then written wanted text h (flags j patch p) pieces p.change else []

-- the lines of each hunk
abbrev pub pieces : List ℕ → FilePatch → List (List ℕ)
pieces text p = map (bytes_at text) p.hunk_spans.items

-- the file patches of a set, each behind its number
abbrev pub rows : SetView → List (ℕ × FilePatch)
rows v = zip (range_with_len 0 (length v.patches)) v.patches

abbrev pub written_if : Form → PlainFilterJob → List ℕ → ℕ × FilePatch → List ℕ
written_if wanted j text row = written_of wanted j text row.0 row.1.header (pieces text row.1) (patch_of text row.1)

-- what is written of a set
unfoldable pub converted : Form → PlainFilterJob → SetView → List ℕ
converted wanted j v = flat_map (written_if wanted j v.text) (rows v)

-- ---- one call

-- a refusal comes before anything is written; else the sink has failed, and received a first part
abbrev pub HasConvertCause : {O : Type 0} → ConvertFault → (O → SinkView) → O → O → Option ConvertFault → List ℕ → Type 0
HasConvertCause (NoContext line) view old new refused bytes = (refused ≡ Some (NoContext line)) × (new ≡ old)
HasConvertCause (Unfit line) view old new refused bytes = (refused ≡ Some (Unfit line)) × (new ≡ old)
HasConvertCause Write view old new refused bytes = (refused ≡ None) × Rises (view old) (view new) × ReceivesPart (view old) (view new) bytes

-- on Ok nothing is refused, and the sink received these bytes
pub record Converts {O : Type 0} (view : O → SinkView) (same_rest : O → O → Type 0) (old new : O) (result : Result (Unit {0}) ConvertFault) (refused : Option ConvertFault) (bytes : List ℕ) : Type 0 where
  pub passes : SinkPasses (view old) (view new)
  pub rest : same_rest old new
  pub accepted : OnOk result (refused ≡ None)
  pub received : OnOk result (Receives (view old) (view new) bytes)
  pub cause : IfErr result (λ e. HasConvertCause e view old new refused bytes)
