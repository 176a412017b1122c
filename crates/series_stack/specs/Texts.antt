-- What stands at the front of a text.
use Rattle.std.specs.Prelude.{ℕ, ◌^◌, List, [], ◌∷◌, length, take, drop, nat_lt, ◌==◌, if◌then◌else◌, bytes_eq, Option, None, Some, option_map}
use Rattle.num_text.specs.Numbers.{number_at, decimal}

-- what stands behind this front, where the text begins so
abbrev pub behind : List ℕ → List ℕ → Option (List ℕ)
behind front text = if bytes_eq (take (length front) text) front then Some (drop (length front) text) else None

abbrev pub with_byte : ℕ → List ℕ × List ℕ → List ℕ × List ℕ
with_byte b x = (b ∷ x.0, x.1)

-- what stands before the first line feed, and behind it; None where there is no line feed
unfoldable pub cut : List ℕ → Option (List ℕ × List ℕ)
cut [] = None
cut (b ∷ bs) = if b == 10 then Some ([], bs) else option_map (with_byte b) (cut bs)

-- a number and what stands behind it, where its digits have no leading zeros
abbrev pub in_digits : List ℕ → ℕ → Option (ℕ × List ℕ)
in_digits text n = option_map (λ rest. (n, rest)) (behind (decimal n) text)

abbrev pub small_in_digits : List ℕ → Option (ℕ × List ℕ) → Option (ℕ × List ℕ)
small_in_digits text None = None
small_in_digits text (Some n) = if nat_lt n.0 (2 ^ 32) then in_digits text n.0 else None

-- a number below 2 ^ 32 at the front, in digits without leading zeros, and what stands behind it
unfoldable pub first_number : List ℕ → Option (ℕ × List ℕ)
first_number text = small_in_digits text (number_at text)
