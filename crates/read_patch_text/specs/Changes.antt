-- A change that was read, and the pieces of the text that its hunks stand in.
use Rattle.std.specs.Prelude.{◌≡◌, ℕ, ◌+◌, ◌<◌, ◌≤◌, ◌^◌, true, false, List, [], ◌∷◌, length, map, drop, slice_range}
use Rattle.line_list.specs.declared.Span.{Span}
use Rattle.line_list.specs.Lines.{lines}
use Rattle.hunk_core.specs.declared.Form.{Form}
use Rattle.hunk_core.specs.declared.Form.TheVariants.{Unified, Context, Normal, Ed}
use Rattle.hunk_core.specs.PlainHunk.{PlainHunk, bytes_at}
use Rattle.hunk_core.specs.declared.hunks.Hunks.{Hunks}
use Rattle.hunk_core.specs.Pieces.{AreInTurn, SpellInTurn}
use Rattle.hunk_core.specs.Reading.{Ahead, ahead}
use Rattle.unified_form.specs.Grammar as unified
use Rattle.context_form.specs.Grammar as context
use Rattle.normal_form.specs.Grammar as normal
use Rattle.ed_form.specs.PlainEdit.{PlainEdit}
use Rattle.ed_form.specs.Grammar as ed
use Rattle.patch_header.specs.Content.{has_dot}
use Rattle.read_file_patch.specs.PlainPatch.{PlainChange, hunks, script, change_of, row_count, IsLawfulChange}
use Rattle.read_file_patch.specs.declared.Change.TheVariants as changes
use Rattle.read_header_record.specs.declared.Header.{Header}
use Rattle.read_patch_text.specs.Regions.{hunk_ends, piece_ends}
use Rattle.read_patch_text.specs.Texts.{GoesUpTo, IsBare, IsPiece}
use Rattle.read_patch_text.specs.declared.change.ReadChange.{ReadChange}

-- the change, and what stands behind it
abbrev pub read_of : List ℕ → ReadChange → PlainChange × Ahead
read_of text r = (change_of text r.change, ahead r.next (lines (drop r.end text)))

-- hunks as they were read
abbrev pub hunks_read : Hunks → ReadChange
hunks_read h = record { change = changes.Hunks h.items; spans = h.spans; end = h.end; next = h.next }

-- the lines of a hunk's piece, behind a hunk that starts at least there, spell it in this form
abbrev pub Spells : Form → ℕ → List (List ℕ) → PlainHunk → Type 0
Spells Unified = unified.SpellsHunk
Spells Context = context.SpellsPiece
Spells Normal = normal.SpellsHunk
Spells Ed = λ least own h. ⊥

-- the one piece of a script spells its edits
abbrev pub SpellScript : List ℕ → List Span → List PlainEdit → Type 0
SpellScript text [] es = ⊥
SpellScript text (s ∷ []) es = ed.SpellsEdits (2 ^ 32) (lines (bytes_at text s)) es (lines (drop s.end text))
SpellScript text (s ∷ t ∷ ss) es = ⊥

-- the lines of each span spell its hunk, or the script
abbrev pub SpellChange : List ℕ → Form → List Span → PlainChange → Type 0
SpellChange text form spans (hunks hs) = SpellInTurn (Spells form) text 0 spans hs
SpellChange text form spans (script es) = SpellScript text spans es

-- what is known of a change of a form that was read from a place on, whose line has this number
pub record IsChange (text : List ℕ) (form : Form) (at line : ℕ) (r : ReadChange) : Type 0 where
  pub lawful : IsLawfulChange text r.change
  -- the spans follow each other up to the end, one for each hunk, and spell the change
  pub turn : AreInTurn at r.spans.items r.end
  pub each : length r.spans.items ≡ row_count r.change
  pub pieces : SpellChange text form r.spans.items (change_of text r.change)
  pub spelled : IsPiece form line (lines (drop at text)) (change_of text r.change) r.next (lines (drop r.end text))
  -- they end where the text has it
  pub ends : map (λ s. s.end) r.spans.items ≡ piece_ends form at (lines (slice_range text at r.end))
  pub some : at < r.end
  pub rows : 0 < row_count r.change
  pub high : r.end ≤ length text
  pub numbers : r.next + at ≤ line + r.end
  pub dots : has_dot (lines (drop at text)) ≡ false → has_dot (lines (drop r.end text)) ≡ false

-- what is known of a bare git header at a place, whose git line has this number
pub record IsBareChange (text : List ℕ) (at line : ℕ) (r : ReadChange) : Type 0 where
  pub lawful : IsLawfulChange text r.change
  pub spans : r.spans.items ≡ []
  pub count : row_count r.change ≡ 0
  pub goes : IsBare text at line (change_of text r.change) r.end r.next
  pub some : at < r.end
  pub high : r.end ≤ length text
  pub numbers : r.next + at ≤ line + r.end
  pub dots : has_dot (lines (drop at text)) ≡ false → has_dot (lines (drop r.end text)) ≡ false

-- the spans make up what a header opens up to an end; a bare one has none
pub record AreCut (h : Header) (spans : List Span) (end : ℕ) : Type 0 where
  pub turn : h.bare ≡ false → AreInTurn h.at spans end
  pub none : h.bare ≡ true → spans ≡ []

-- what is known of what a header opens: hunks or a script in its form, or a bare git header alone
pub record IsBehind (text : List ℕ) (h : Header) (r : ReadChange) : Type 0 where
  pub lawful : IsLawfulChange text r.change
  pub cut : AreCut h r.spans.items r.end
  pub each : length r.spans.items ≡ row_count r.change
  pub pieces : SpellChange text h.form r.spans.items (change_of text r.change)
  pub goes : GoesUpTo text h (change_of text r.change) r.end r.next
  pub ends : map (λ s. s.end) r.spans.items ≡ hunk_ends text h r.end
  pub some : h.at < r.end
  pub rows : h.bare ≡ false → 0 < row_count r.change
  pub high : r.end ≤ length text
  pub numbers : r.next + h.at ≤ h.opening + r.end
  pub dots : has_dot (lines (drop h.at text)) ≡ false → has_dot (lines (drop r.end text)) ≡ false
