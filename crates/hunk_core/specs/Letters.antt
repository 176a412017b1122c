-- The letter of a command of a normal diff or an ed script, and the end of its line.
use Rattle.std.specs.Prelude.{ℕ, Bool, true, false, ◌==◌, List, [], ◌∷◌, Option, None, Some, if◌then◌else◌}
use Rattle.hunk_core.specs.declared.command.Action.{Action}
use Rattle.hunk_core.specs.declared.command.Action.TheVariants.{Add, Change, Delete}

-- 'a', 'c' or 'd'
abbrev pub letter : Action → ℕ
letter Add = 97
letter Change = 99
letter Delete = 100

-- one of 'a', 'c' and 'd', and what stands after it
unfoldable pub action_at : List ℕ → Option (Action × List ℕ)
action_at [] = None
action_at (b ∷ bytes) = if b == 97 then Some (Add, bytes) else if b == 99 then Some (Change, bytes) else if b == 100 then Some (Delete, bytes) else None

-- nothing, or a line feed alone
abbrev pub is_line_end : List ℕ → Bool
is_line_end [] = true
is_line_end (b ∷ []) = b == 10
is_line_end (b ∷ c ∷ bytes) = false
