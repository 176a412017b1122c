-- A pattern read as a list of elements (POSIX Shell Command Language, "Pattern Matching Notation"; here `*` takes slashes too).
use Rattle.std.specs.Prelude.{ℕ, zero, suc, ◌+◌, ◌-◌, Bool, true, false, ◌||◌, ◌==◌, if◌then◌else◌, List, [], ◌∷◌, length, drop, Option, None, Some, option_map}

-- an element: any run of bytes, any one byte, one byte, or one byte of a set or of its opposite
pub data Element : Type 0 where
  Run : Element
  Any : Element
  Byte : ℕ → Element
  OneOf : Bool → List ℕ → Element

-- an element at the front of a pattern, and how many bytes write it
pub record Front : Type 0 where
  pub element : Element
  pub size : ℕ

-- the bytes before the first `]`
unfoldable pub before_bracket : List ℕ → Option (List ℕ)
before_bracket [] = None
before_bracket (b ∷ bs) = if b == 93 then Some [] else option_map (λ ms. b ∷ ms) (before_bracket bs)

-- the members of a set that has an end: a byte, which may be `]`, and all up to the next `]`
abbrev pub members_of : List ℕ → Option (List ℕ)
members_of [] = None
members_of (b ∷ bs) = option_map (λ ms. b ∷ ms) (before_bracket bs)

-- a set without an end stands for its `[`
abbrev pub set_front : Bool → ℕ → Option (List ℕ) → Front
set_front is_opposite sign None = record { element = Byte 91; size = 1 }
set_front is_opposite sign (Some ms) = record { element = OneOf is_opposite ms; size = length ms + sign + 2 }

-- a `!` or `^` stands first
abbrev pub is_sign : List ℕ → Bool
is_sign [] = false
is_sign (b ∷ bs) = (b == 33) || (b == 94)

-- what follows a `[`: perhaps a sign, then the members
abbrev pub after_open : List ℕ → Front
after_open bs = if is_sign bs then set_front true 1 (members_of (drop 1 bs)) else set_front false 0 (members_of bs)

-- what follows a backslash: the byte itself, or at the end of the pattern nothing
abbrev pub after_backslash : List ℕ → Front
after_backslash [] = record { element = Byte 92; size = 1 }
after_backslash (b ∷ bs) = record { element = Byte b; size = 2 }

-- the element at the front
unfoldable pub front_of : ℕ → List ℕ → Front
front_of b bs = if b == 42 then record { element = Run; size = 1 }
    else (if b == 63 then record { element = Any; size = 1 }
    else (if b == 92 then after_backslash bs
    else (if b == 91 then after_open bs
    else record { element = Byte b; size = 1 })))

-- the elements of a pattern, of whose first `skip` bytes an element was read already
unfoldable pub elements_after : ℕ → List ℕ → List Element
elements_after skip [] = []
elements_after (suc skip) (b ∷ bs) = elements_after skip bs
elements_after zero (b ∷ bs) = (front_of b bs).element ∷ elements_after ((front_of b bs).size - 1) bs

-- the elements of a pattern
abbrev pub elements : List ℕ → List Element
elements pattern = elements_after 0 pattern
