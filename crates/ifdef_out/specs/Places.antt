-- The edits that are left of a change when a walk over it has come to a place.
use Rattle.std.specs.Prelude.{◌≡◌, ℕ, ◌+◌, ◌-◌, ◌*◌, ◌^◌, ◌<◌, ◌≤◌, List, [], ◌∷◌, ◌++◌, map, flat_map, reverse, drop, length, All, Option, None, Some, IfSome, option_map}
use Rattle.line_store.specs.Store.{Seen}
use Rattle.hunk_core.specs.declared.Side.{Side}
use Rattle.hunk_core.specs.declared.Hunk.{Hunk}
use Rattle.hunk_core.specs.declared.Verdict.{Verdict}
use Rattle.hunk_core.specs.PlainHunk.{bytes_at}
use Rattle.hunk_core.specs.Turned.{LiesIn}
use Rattle.hunk_place.specs.Order.{from_to}
use Rattle.ed_form.specs.declared.script.EdEdit.{EdEdit}
use Rattle.ed_form.specs.PlainEdit.{edits_of, lines_of}
use Rattle.read_file_patch.specs.PlainPatch.{IsLawfulChange, change_of, row_count}
use Rattle.read_file_patch.specs.declared.Change.{Change}
use Rattle.read_file_patch.specs.declared.Change.TheVariants.{Hunks, Script}
use Rattle.hunk_apply.specs.Applied.{taken_all}
use Rattle.hunk_apply.specs.Body.{side_body}
use Rattle.hunk_apply.specs.Session.{IsTried}
use Rattle.hunk_apply.specs.Written.{lines_between}
use Rattle.hunk_apply.specs.Splice.{Edit, add, drop_line, body_edits}
use Rattle.ifdef_out.specs.Placed.{placed_edits, command_edits, change_edits}
use Rattle.ifdef_out.specs.Chain.{block_end, block_added, behind_block, is_some_line}
use Rattle.ifdef_out.specs.declared.place.ChangeCursor.{ChangeCursor}
use Rattle.ifdef_out.specs.declared.place.LineEdit.{LineEdit}
use Rattle.ifdef_out.specs.declared.place.Step.{Step}
use Rattle.ifdef_out.specs.declared.edits.Edits.{Edits}
use Rattle.ifdef_out.specs.declared.found.FoundChange.{FoundChange}
use Rattle.ifdef_out.specs.declared.block.Block.{Block}

-- what an edit stands for over a text
abbrev pub edit_at : List ℕ → LineEdit → Edit
edit_at text e = record { at = e.at; added = option_map (bytes_at text) e.added }

-- the edit of a step, which may have none
abbrev pub step_edit : List ℕ → Option LineEdit → List Edit
step_edit text None = []
step_edit text (Some e) = edit_at text e ∷ []

-- the line that an edit adds lies in the text, and its place can be counted on from
pub record Lies (text : List ℕ) (e : LineEdit) : Type 0 where
  pub near : e.at ≤ 2 ^ 43
  pub lies : IfSome e.added (LiesIn text)

-- of hunks, from a line of the first one on: what is left of that one, and the hunks behind it
abbrev pub hunks_left : List ℕ → Side → ℕ → ℕ → List Hunk → List Verdict → List Edit
hunks_left text side line next [] vs = []
hunks_left text side line next (h ∷ hs) vs = body_edits next (side_body text side (drop line h.body.items)) ++ placed_edits vs (taken_all text side hs)

abbrev pub hunks_at : List ℕ → Side → List Verdict → List Hunk → ℕ → ℕ → ℕ → List Edit
hunks_at text side vs hs row line next = hunks_left text side line next (drop row hs) (drop (row + 1) vs)

-- of the commands of a script, from the last one on
abbrev pub script_left : List ℕ → ℕ → ℕ → List EdEdit → List Edit
script_left text line next [] = []
script_left text line next (e ∷ es) = (map drop_line (from_to next e.last) ++ map (add (e.last + 1)) (lines_of text (drop line e.added.items))) ++ flat_map command_edits (edits_of text es)

abbrev pub script_at : List ℕ → List EdEdit → ℕ → ℕ → ℕ → List Edit
script_at text es row line next = script_left text line next (drop row (reverse es))

abbrev pub left_of : List ℕ → Side → List Verdict → Change → ℕ → ℕ → ℕ → List Edit
left_of text side vs (Hunks hs) row line next = hunks_at text side vs hs.items row line next
left_of text side vs (Script s) row line next = script_at text s.edits.items row line next

abbrev pub edits_left : Edits → ChangeCursor → List Edit
edits_left e p = left_of e.text.now e.side e.verdicts.now e.change.now p.row p.line p.next

-- all edits of the change
abbrev pub all_of : Edits → List Edit
all_of e = change_edits e.verdicts.now e.side (change_of e.text.now e.change.now)

-- how far a walk over so many hunks or commands can go on at most
abbrev pub way_of : ℕ → ChangeCursor → ℕ
way_of count p = (count - p.row) * 2 ^ 66 + (2 ^ 64 - p.line) + (2 ^ 64 - p.next)

abbrev pub row_total : Change → ℕ
row_total (Hunks hs) = length hs.items
row_total (Script s) = length s.edits.items

-- a step leads on: its edit and what is left behind it are what was left
pub record IsStep (text : List ℕ) (rest_at : ℕ → ℕ → ℕ → List Edit) (count : ℕ) (p : ChangeCursor) (s : Step) : Type 0 where
  pub left : rest_at p.row p.line p.next ≡ step_edit text s.edit ++ rest_at s.behind.row s.behind.line s.behind.next
  pub shorter : way_of count s.behind < way_of count p
  pub lies : IfSome s.edit (Lies text)

-- the next edit, and what is left behind it
pub record IsFound (e : Edits) (p : ChangeCursor) (f : FoundChange) : Type 0 where
  pub left : edits_left e p ≡ edit_at e.text.now f.edit ∷ edits_left e f.behind
  pub lies : Lies e.text.now f.edit

-- the block that begins at a line
pub record IsBlock (e : Edits) (p : ChangeCursor) (first : ℕ) (b : Block) : Type 0 where
  pub end : b.end ≡ block_end first (edits_left e p)
  pub adding : b.is_adding ≡ is_some_line (block_added first (edits_left e p))
  pub behind : edits_left e b.behind ≡ behind_block first (edits_left e p)

-- what is said of the lines from `from` up to, not including, `to`, where the store tells its lines and has these
abbrev pub WhereHad : Seen → ℕ → ℕ → (List (List ℕ) → Type 0) → Type 0
WhereHad seen from to P = (lines : List (List ℕ)) → seen.told ≡ Some lines → 1 ≤ from → from ≤ to → to ≤ length lines + 1 → P (lines_between lines from to)

-- what is said of the lines that a block drops, where the store has them, and of those that it adds, if it adds any
abbrev pub WhereDropped : Seen → ℕ → Block → (List (List ℕ) → List (List ℕ) → Type 0) → Type 0
WhereDropped seen first b P = WhereHad seen first b.end (λ dropped. (added : List (List ℕ)) → b.is_adding ≡ is_some_line added → P dropped added)

-- a lawful change with a verdict for each hunk
pub record AreEdits (e : Edits) : Type 0 where
  pub lawful : IsLawfulChange e.text.now e.change.now
  pub rows : length e.verdicts.now ≡ row_count e.change.now
  pub tried : All IsTried e.verdicts.now
