-- The grammar of ed scripts, apart from any reading: which lines spell which edits.
use Rattle.std.specs.Prelude.{◌≡◌, ◌⊎◌, ℕ, zero, suc, ◌+◌, ◌≤◌, ◌<◌, ◌^◌, Bool, true, false, List, [], ◌∷◌, ◌++◌, length}
use Rattle.std.specs.List.{AllByRecursion}
use Rattle.num_text.specs.Numbers.{IsNumeral}
use Rattle.num_text.specs.NumberRanges.{SpellsRange}
use Rattle.hunk_core.specs.declared.command.Action.{Action}
use Rattle.hunk_core.specs.declared.command.Action.TheVariants.{Add, Change, Delete}
use Rattle.hunk_core.specs.Letters.{letter, is_line_end}
use Rattle.ed_form.specs.PlainEdit.{PlainEdit, lowest}
use Rattle.ed_form.specs.Commands.{begins_script}
use Rattle.ed_form.specs.Texts.{is_dot, is_correction, is_append}
use Rattle.ed_form.specs.Scripts.{begins_substitution}

-- a line is a command: one number, or two with a comma, a letter, and nothing more
pub record IsCommand (line : List ℕ) : Type 0 where
  pub text : List ℕ
  pub single : Bool
  pub first : ℕ
  pub last : ℕ
  pub action : Action
  pub rest : List ℕ
  pub parts : line ≡ text ++ letter action ∷ rest
  pub ends : is_line_end rest ≡ true
  pub numbers : SpellsRange text single first last

-- none of these lines is '.'
abbrev pub HaveNoDot : List (List ℕ) → Type 0
HaveNoDot ls = AllByRecursion (λ line. is_dot line ≡ false) ls

-- lines of a text, and the line '.' that ends them
pub record IsEnded (own text : List (List ℕ)) : Type 0 where
  pub dot : List ℕ
  pub parts : own ≡ text ++ dot ∷ []
  pub clear : HaveNoDot text
  pub ends : is_dot dot ≡ true

-- lines of a text whose last one is '.': written as '..', and corrected by 's/.//' behind the line '.' that ends them
pub record IsCorrected (own text : List (List ℕ)) : Type 0 where
  pub front : List (List ℕ)
  pub lone : List ℕ
  pub dot : List ℕ
  pub correction : List ℕ
  pub parts : own ≡ front ++ (46 ∷ lone) ∷ dot ∷ correction ∷ []
  pub is : text ≡ front ++ lone ∷ []
  pub clear : HaveNoDot front
  pub is_lone : is_dot lone ≡ true
  pub ends : is_dot dot ≡ true
  pub corrects : is_correction correction ≡ true

-- 'a' opens these lines
abbrev pub begins_append : List (List ℕ) → Bool
begins_append [] = false
begins_append (line ∷ rest) = is_append line

-- these lines are this text, before these others; so often further text follows behind a corrected line and 'a'
abbrev pub SpellsText : ℕ → List (List ℕ) → List (List ℕ) → List (List ℕ) → Type 0
SpellsText zero own text others = IsEnded own text ⊎ (IsCorrected own text × (begins_append others ≡ false))
SpellsText (suc turns) own text others = (one : List (List ℕ)) × (append : List ℕ) × (rest : List (List ℕ)) × (own ≡ one ++ append ∷ rest) × (is_append append ≡ true)
    × (first : List (List ℕ)) × (more : List (List ℕ)) × (text ≡ first ++ more) × IsCorrected one first × SpellsText turns rest more others

-- 'a' and 'c' have a text, perhaps without lines; 'd' has none
abbrev pub SpellsAdded : Action → List (List ℕ) → List (List ℕ) → List (List ℕ) → Type 0
SpellsAdded Add own added others = (turns : ℕ) × SpellsText turns own added others
SpellsAdded Change own added others = (turns : ℕ) × SpellsText turns own added others
SpellsAdded Delete own added others = (own ≡ []) × (added ≡ [])

-- behind line N, one number; or lines from first to last, one number or two with a comma. A command has addresses and no
-- counts, so `4294967295d` is lawful and `4294967295a` too large. An insertion at N counts as N in the order of commands,
-- so `5a` and then `5d` are out of order
abbrev pub SpellsAddresses : Action → List ℕ → ℕ → ℕ → Type 0
SpellsAddresses Add text first last = IsNumeral text last × (first ≡ last + 1)
SpellsAddresses Change text first last = (single : Bool) × SpellsRange text single first last × (1 ≤ first) × (first ≤ last)
SpellsAddresses Delete text first last = (single : Bool) × SpellsRange text single first last × (1 ≤ first) × (first ≤ last)

-- the addresses, a letter, and nothing more; no number is too large
pub record SpellsCommand (line : List ℕ) (action : Action) (first last : ℕ) : Type 0 where
  pub text : List ℕ
  pub rest : List ℕ
  pub parts : line ≡ text ++ letter action ∷ rest
  pub ends : is_line_end rest ≡ true
  pub addresses : SpellsAddresses action text first last
  pub small : first < 2 ^ 32
  pub small_last : last < 2 ^ 32

-- these lines are this edit, whose last address is below this number, before these others
abbrev pub SpellsEdit : ℕ → List (List ℕ) → PlainEdit → List (List ℕ) → Type 0
SpellsEdit below [] e others = ⊥
SpellsEdit below (line ∷ rest) e others = (action : Action) × SpellsCommand line action e.first e.last × (e.last < below) × SpellsAdded action rest e.added others

-- these lines are these edits, each with its last address below the first one of the edit before, the first edit's below this number
abbrev pub SpellsEdits : ℕ → List (List ℕ) → List PlainEdit → List (List ℕ) → Type 0
SpellsEdits below own [] others = own ≡ []
SpellsEdits below own (e ∷ es) others = (one : List (List ℕ)) × (rest : List (List ℕ)) × (own ≡ one ++ rest) × SpellsEdit below one e (rest ++ others) × SpellsEdits (lowest e) rest es others

-- neither a command nor a substitution follows
abbrev pub EndsPiece : List (List ℕ) → Type 0
EndsPiece rest = (begins_script rest ≡ false) × (begins_substitution rest ≡ false)

-- the lines ahead are these edits, and then this rest, whose first line has this number
pub record IsPiece (number : ℕ) (lines : List (List ℕ)) (es : List PlainEdit) (next : ℕ) (rest : List (List ℕ)) : Type 0 where
  pub own : List (List ℕ)
  pub parts : lines ≡ own ++ rest
  pub spelled : SpellsEdits (2 ^ 32) own es rest
  pub ends : EndsPiece rest
  pub counted : next ≡ number + length own

-- the line with this number stands behind whole edits
pub record StandsBehind (below number : ℕ) (lines : List (List ℕ)) (at : ℕ) : Type 0 where
  pub own : List (List ℕ)
  pub es : List PlainEdit
  pub rest : List (List ℕ)
  pub parts : lines ≡ own ++ rest
  pub some : 0 < length rest
  pub spelled : SpellsEdits below own es rest
  pub counted : at ≡ number + length own
