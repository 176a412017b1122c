-- What is wrong with a line of an ed script (GNU diffutils manual, "Detailed Description of ed Scripts").
use Rattle.std.specs.Prelude.{◌≡◌, ◌≢◌, ◌⊎◌, ℕ, ◌+◌, ◌^◌, ◌<◌, ◌≤◌, Bool, true, false, List, [], ◌∷◌, ◌++◌}
use Rattle.hunk_core.specs.declared.BadKind.{BadKind}
use Rattle.hunk_core.specs.declared.BadKind.TheVariants as kinds
use Rattle.hunk_core.specs.declared.command.Action.{Action}
use Rattle.hunk_core.specs.declared.command.Action.TheVariants.{Add, Change, Delete}
use Rattle.ed_form.specs.PlainEdit.{PlainEdit, lowest}
use Rattle.ed_form.specs.Texts.{is_append, is_substitution}
use Rattle.ed_form.specs.Grammar.{IsCommand, HaveNoDot, SpellsEdits}

-- two addresses for the place behind a line; or a second address below the first, or lines from 0 on
abbrev pub AreBad : Action → Bool → ℕ → ℕ → Type 0
AreBad Add single first last = single ≡ false
AreBad Change single first last = (last < first) ⊎ (first ≡ 0)
AreBad Delete single first last = (last < first) ⊎ (first ≡ 0)

-- an address is above the greatest number; of 'a' one more counts
abbrev pub AreTooLarge : Action → ℕ → ℕ → Type 0
AreTooLarge Add first last = 2 ^ 32 ≤ last + 1
AreTooLarge Change first last = (2 ^ 32 ≤ first) ⊎ (2 ^ 32 ≤ last)
AreTooLarge Delete first last = (2 ^ 32 ≤ first) ⊎ (2 ^ 32 ≤ last)

-- behind a line 'a' no line is '.'
abbrev pub EndsOpen : List (List ℕ) → Type 0
EndsOpen lines = (front : List (List ℕ)) × (append : List ℕ) × (behind : List (List ℕ)) × (lines ≡ front ++ append ∷ behind) × (is_append append ≡ true) × HaveNoDot behind

-- the lines have no '.', or none behind the line 'a' that further text begins with
abbrev pub HaveNoEnd : List (List ℕ) → Type 0
HaveNoEnd lines = HaveNoDot lines ⊎ EndsOpen lines

-- what is wrong, for each kind of fault, with a line whose last address must be below this number, with these lines behind it; no other kinds come
abbrev pub Breaks : ℕ → BadKind → List ℕ → List (List ℕ) → Type 0
Breaks below kinds.Range line behind = (c : IsCommand line) × AreBad c.action c.single c.first c.last
Breaks below kinds.Mark line behind = ⊥
Breaks below kinds.Count line behind = ⊥
Breaks below kinds.ShortEnd line behind = ⊥
Breaks below kinds.NumberTooLarge line behind = (c : IsCommand line) × AreTooLarge c.action c.first c.last
Breaks below kinds.SidesDiffer line behind = ⊥
Breaks below kinds.MisplacedBackslash line behind = ⊥
Breaks below kinds.EdCommand line behind = is_substitution line ≡ true
Breaks below kinds.EdOrder line behind = (c : IsCommand line) × (below ≤ c.last)
Breaks below kinds.EdNoDot line behind = (c : IsCommand line) × (c.action ≢ Delete) × HaveNoEnd behind
Breaks below kinds.Binary line behind = ⊥
Breaks below kinds.HunkOrder line behind = ⊥

-- the first address of the last of these edits, or this number where there is none
abbrev pub last_lowest : ℕ → List PlainEdit → ℕ
last_lowest below [] = below
last_lowest below (e ∷ es) = last_lowest (lowest e) es

-- in front of the line are whole edits, the first with its last address below this number
abbrev pub IsAtFault : ℕ → BadKind → List (List ℕ) → List ℕ → List (List ℕ) → Type 0
IsAtFault below kind front line behind = (es : List PlainEdit) × SpellsEdits below front es (line ∷ behind) × Breaks (last_lowest below es) kind line behind
