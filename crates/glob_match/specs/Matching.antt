-- The names that a pattern matches.
use Rattle.std.specs.Prelude.{◌≡◌, ℕ, ◌+◌, ◌≤◌, Bool, true, false, not, nat_le, ◌&&◌, ◌||◌, ◌==◌, if◌then◌else◌, List, [], ◌∷◌, length, drop}
use Rattle.std.specs.List.{list_any, range_with_len}
use Rattle.glob_match.specs.Pattern.{Element, Run, Any, Byte, OneOf, elements}

-- the byte is a member: one of the bytes, or in a range `a-z`; a backslash is a member as any other byte
unfoldable pub is_member : List ℕ → ℕ → Bool
is_member [] byte = false
is_member (a ∷ []) byte = a == byte
is_member (a ∷ b ∷ []) byte = (a == byte) || (b == byte)
is_member (a ∷ b ∷ z ∷ more) byte = if b == 45 then (nat_le a byte && nat_le byte z) || is_member more byte else (a == byte) || is_member (b ∷ z ∷ more) byte

-- an element that takes one byte takes this one
abbrev pub takes : Element → ℕ → Bool
takes Run byte = false
takes Any byte = true
takes (Byte b) byte = b == byte
takes (OneOf is_opposite ms) byte = if is_opposite then not (is_member ms byte) else is_member ms byte

-- the elements match the whole name: a run takes any number of bytes, slashes too, and each other element one byte
unfoldable pub Match : List Element → List ℕ → Type 0
Match [] name = name ≡ []
Match (Run ∷ es) name = (k : ℕ) × (k ≤ length name) × Match es (drop k name)
Match (Any ∷ es) [] = ⊥
Match (Any ∷ es) (b ∷ bs) = Match es bs
Match (Byte c ∷ es) [] = ⊥
Match (Byte c ∷ es) (b ∷ bs) = (takes (Byte c) b ≡ true) × Match es bs
Match (OneOf o ms ∷ es) [] = ⊥
Match (OneOf o ms ∷ es) (b ∷ bs) = (takes (OneOf o ms) b ≡ true) × Match es bs

-- the pattern matches the whole name
abbrev pub Matches : List ℕ → List ℕ → Type 0
Matches pattern name = Match (elements pattern) name

-- the same as a test: a run takes one of the numbers of bytes that there are
unfoldable pub fits : List Element → List ℕ → Bool
fits [] [] = true
fits [] (b ∷ bs) = false
fits (Run ∷ es) name = list_any (λ k. fits es (drop k name)) (range_with_len 0 (length name + 1))
fits (Any ∷ es) [] = false
fits (Any ∷ es) (b ∷ bs) = fits es bs
fits (Byte c ∷ es) [] = false
fits (Byte c ∷ es) (b ∷ bs) = takes (Byte c) b && fits es bs
fits (OneOf o ms ∷ es) [] = false
fits (OneOf o ms ∷ es) (b ∷ bs) = takes (OneOf o ms) b && fits es bs

-- the test of a whole name
abbrev pub does_match : List ℕ → List ℕ → Bool
does_match pattern name = fits (elements pattern) name
