-- Which file patches a text has, by the grammars of the forms: what is read is this and nothing else.
use Rattle.std.specs.Prelude.{◌≡◌, ℕ, ◌+◌, ◌<◌, ◌≤◌, true, false, List, [], ◌∷◌, length, drop, Err, ◌⊎◌}
use Rattle.line_list.specs.Lines.{lines}
use Rattle.hunk_core.specs.declared.Form.{Form}
use Rattle.hunk_core.specs.declared.Form.TheVariants.{Unified, Context, Normal, Ed}
use Rattle.hunk_core.specs.declared.BadKind.{BadKind}
use Rattle.hunk_core.specs.declared.BadKind.TheVariants as kinds
use Rattle.hunk_core.specs.Reading.{fault}
use Rattle.unified_form.specs.Grammar as unified
use Rattle.context_form.specs.Grammar as context
use Rattle.normal_form.specs.Grammar as normal
use Rattle.ed_form.specs.Grammar as ed
use Rattle.read_header_record.specs.declared.Header.{Header}
use Rattle.patch_header.specs.declared.read_options.ReadOptions.{ReadOptions}
use Rattle.patch_header.specs.Steps.{IsFirstOpening, IsFirstBinary, IsEnd}
use Rattle.read_file_patch.specs.PlainPatch.{PlainChange, PlainPatch, hunks, script, header_of}
use Rattle.read_patch_text.specs.Patches.{change_behind, git_lines_at, git_end}

-- the lines ahead, the first with this number, are this change in this form, and then this rest, whose first line has that number
abbrev pub IsPiece : Form → ℕ → List (List ℕ) → PlainChange → ℕ → List (List ℕ) → Type 0
IsPiece Unified number lines (hunks hs) next rest = unified.IsPiece number lines hs next rest
IsPiece Context number lines (hunks hs) next rest = context.IsPiece number lines hs next rest
IsPiece Normal number lines (hunks hs) next rest = normal.IsPiece number lines hs next rest
IsPiece Ed number lines (script es) next rest = ed.IsPiece number lines es next rest
IsPiece Unified number lines (script es) next rest = ⊥
IsPiece Context number lines (script es) next rest = ⊥
IsPiece Normal number lines (script es) next rest = ⊥
IsPiece Ed number lines (hunks hs) next rest = ⊥

-- a bare git header with this number and at this place has no hunk, and goes up to an end, whose line has the number `next`
pub record IsBare (text : List ℕ) (at number : ℕ) (change : PlainChange) (end next : ℕ) : Type 0 where
  pub none : change ≡ hunks []
  pub ends : end ≡ git_end text at
  pub counted : next ≡ number + length (git_lines_at text at)

-- what a header opens goes up to an end: hunks or a script by the grammar of its form, or a bare git header alone
pub record GoesUpTo (text : List ℕ) (h : Header) (change : PlainChange) (end next : ℕ) : Type 0 where
  pub spelled : h.bare ≡ false → IsPiece h.form h.opening (lines (drop h.at text)) change next (lines (drop end text))
  pub bare : h.bare ≡ true → IsBare text h.at h.opening change end next

-- at the first line from a place on at which something stands, a file patch opens; it goes up to the end, whose line has the number `next`
pub record StandsFirst (ways : ReadOptions) (text : List ℕ) (at number : ℕ) (p : PlainPatch) (end next : ℕ) : Type 0 where
  pub header : Header
  pub opens : IsFirstOpening ways text at number header
  pub says : p.header ≡ header_of text header
  pub goes : GoesUpTo text header p.change end next
  pub some : at < end
  pub high : end ≤ length text

-- from a place on up to an end these file patches stand, one behind the other
abbrev pub Stand : ReadOptions → List ℕ → ℕ → ℕ → List PlainPatch → ℕ → ℕ → Type 0
Stand ways text at number [] end next = (at ≡ end) × (number ≡ next)
Stand ways text at number (p ∷ ps) end next = (mid : ℕ) × (line : ℕ) × StandsFirst ways text at number p mid line × Stand ways text mid line ps end next

-- a text has these file patches, and behind them neither an opening nor a bare git header nor a binary line
pub record HasPatches (ways : ReadOptions) (text : List ℕ) (ps : List PlainPatch) : Type 0 where
  pub end : ℕ
  pub next : ℕ
  pub stand : Stand ways text 0 1 ps end next
  pub ends : IsEnd ways text end

-- what comes next from a place on is at fault here: a binary line, or a change whose first fault this is
abbrev pub ComesFault : ReadOptions → List ℕ → ℕ → ℕ → ℕ → BadKind → Type 0
ComesFault ways text at number line kind = (IsFirstBinary ways text at number line × (kind ≡ kinds.Binary))
    ⊎ ((h : Header) × IsFirstOpening ways text at number h × (change_behind text h ≡ Err (fault line kind)))

-- a text has some file patches, and what comes behind them is at fault
pub record IsFaulty (ways : ReadOptions) (text : List ℕ) (line : ℕ) (kind : BadKind) : Type 0 where
  pub front : List PlainPatch
  pub end : ℕ
  pub next : ℕ
  pub stand : Stand ways text 0 1 front end next
  pub comes : ComesFault ways text end next line kind
