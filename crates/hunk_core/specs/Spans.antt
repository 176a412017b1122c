-- The numbers of a range of lines.
use Rattle.std.specs.Prelude.{ℕ, ◌+◌, ◌-◌, nat_lt, List, ◌∷◌, ◌++◌, if◌then◌else◌}
use Rattle.num_text.specs.Numbers.{decimal}

-- one number for at most one line, and two for more
abbrev pub span_text : ℕ → ℕ → List ℕ
span_text start count = if nat_lt 1 count then decimal start ++ 44 ∷ decimal (start + count - 1) else decimal start
