-- How many patches of a stack are applied.
use Rattle.std.specs.Prelude.{ℕ, List, [], ◌∷◌, ◌++◌, nat_le, ◌&&◌, if◌then◌else◌, bytes_eq, Option, None, Some}
use Rattle.num_text.specs.Numbers.{decimal}
use Rattle.series_stack.specs.Texts.{first_number}

-- the number in digits without leading zeros, and a line feed
abbrev pub count_text : ℕ → List ℕ
count_text n = decimal n ++ 10 ∷ []

abbrev pub counted : ℕ → Option (ℕ × List ℕ) → Option ℕ
counted most None = None
counted most (Some x) = if bytes_eq x.1 (10 ∷ []) && nat_le x.0 most then Some x.0 else None

-- the number that a text writes, or none where it is no such text or the number is above the most
unfoldable pub count_of : ℕ → List ℕ → Option ℕ
count_of most text = counted most (first_number text)
