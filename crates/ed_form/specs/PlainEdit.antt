-- An edit apart from where its text lies: the lines that it takes away, and the lines that it puts in their place.
use Rattle.std.specs.Prelude.{ℕ, ◌+◌, ◌<◌, ◌≤◌, ◌^◌, min, List, [], ◌∷◌, length, map, sum_by, All}
use Rattle.line_list.specs.Lines.{IsLine}
use Rattle.line_list.specs.declared.Span.{Span}
use Rattle.hunk_core.specs.PlainHunk.{bytes_at}
use Rattle.hunk_core.specs.Turned.{LiesIn}
use Rattle.ed_form.specs.declared.script.EdEdit.{EdEdit}
use Rattle.ed_form.specs.declared.script.EdScript.{EdScript}

-- the lines from first to last are replaced by the added lines, each with its line feed; behind line N none is taken away, which is from N + 1 to N
pub record PlainEdit : Type 0 where
  pub first : ℕ
  pub last : ℕ
  pub added : List (List ℕ)

-- the lines that spans stand for over a text
abbrev pub lines_of : List ℕ → List Span → List (List ℕ)
lines_of text spans = map (bytes_at text) spans

-- what an edit stands for over a text
abbrev pub edit_of : List ℕ → EdEdit → PlainEdit
edit_of text e = record { first = e.first; last = e.last; added = lines_of text e.added.items }

-- what edits stand for
abbrev pub edits_of : List ℕ → List EdEdit → List PlainEdit
edits_of text es = map (edit_of text) es

-- the first address of an edit's command: the first line that it takes away, or the line that it stands behind
abbrev pub lowest : PlainEdit → ℕ
lowest e = min e.first e.last

-- lines from 1 on, in their order, or the place behind a line
pub record IsLawfulEdit (e : PlainEdit) : Type 0 where
  pub start : 1 ≤ e.first
  pub order : e.first ≤ e.last + 1
  pub small : e.first < 2 ^ 32
  pub added : All IsLine e.added

-- each edit keeps the rules, and its last address is below the first one of the edit before, the first edit's below this number
abbrev pub AreLawful : ℕ → List PlainEdit → Type 0
AreLawful below [] = Unit {0}
AreLawful below (e ∷ es) = IsLawfulEdit e × (e.last < below) × AreLawful (lowest e) es

-- a script of one edit or more, lawful over the text, whose edits and added lines can be counted together
pub record IsLawfulScript (text : List ℕ) (s : EdScript) : Type 0 where
  pub some : 0 < length s.edits.items
  pub few : length s.edits.items + sum_by (λ e. length e.added.items) s.edits.items < 2 ^ 32
  pub edits : AreLawful (2 ^ 32) (edits_of text s.edits.items)
  pub within : All (λ e. All (LiesIn text) e.added.items) s.edits.items
