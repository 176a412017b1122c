-- A line that is gathered from pieces: how long it can be, and what it says.
use Rattle.std.proofs.Common.{◌≡◌, ℕ, Bool, false, if◌then◌else◌, ◌+◌, ◌<◌, ◌≤◌, List, [], ◌++◌, codes, length, sym, ap, ◌∙◌, arith, length-append, append_assoc}
use Rattle.std.specs.Prelude.{◌==◌}
use Rattle.std.proofs.lemmas.Bool.Decides.{nat_tests}
use Rattle.num_text.specs.Numbers.{decimal}
use Rattle.say_text.specs.Messages.{fuzz_part}

pub empty : (line : List ℕ) → line ≡ [] → length line ≤ 0
empty line is = let none : length line ≡ 0 = ap (λ (l : List ℕ). length l) is in omega (arith, none)

-- a piece more, and a number more
pub grown : (old new piece : List ℕ) (n k : ℕ) → new ≡ old ++ piece → length old ≤ n → length piece ≤ k → length new ≤ n + k
grown old new piece n k is few small =
    let a : length new ≡ length (old ++ piece) = ap (λ (l : List ℕ). length l) is in
    omega (arith, a, length-append old piece, few, small)

pub grown_by : (old new piece : List ℕ) (n k : ℕ) → new ≡ old ++ piece → length old ≤ n → length piece ≡ k → length new ≤ n + k
grown_by old new piece n k is few long = grown old new piece n k is few (omega (arith, long))

pub more : (a b n k : ℕ) → a ≤ b + k → b ≤ n → a ≤ n + k
more a b n k le few = omega (arith, le, few)

-- there is room for so many bytes more
pub room_for : (a n k left : ℕ) → n + k + left ≡ 160 → a ≤ n → a + k ≤ 160
room_for a n k left all few = omega (arith, all, few)

pub piece_room : (old piece : List ℕ) (n k left : ℕ) → n + k + left ≡ 160 → length old ≤ n → length piece ≤ k → (168 < 9223372036854775808) × (length old + length piece ≤ 160)
piece_room old piece n k left all few small = (omega arith, omega (arith, all, few, small))

-- behind a line for which there is room
pub grown_from : (old new piece : List ℕ) (k : ℕ) → new ≡ old ++ piece → length piece ≡ k → length new ≤ length old + k
grown_from old new piece k is long = grown_by old new piece (length old) k is (omega arith) long

pub room_from : (a b k m n left : ℕ) → k + n + left ≡ m → a ≤ b + k → b + m ≤ 160 → a + n ≤ 160
room_from a b k m n left all few room = omega (arith, all, few, room)

pub piece_room_from : (old piece : List ℕ) (b k m n left : ℕ) → k + n + left ≡ m → length old ≤ b + k → b + m ≤ 160 → length piece ≤ n → (168 < 9223372036854775808) × (length old + length piece ≤ 160)
piece_room_from old piece b k m n left all few room small = (omega arith, omega (arith, all, few, room, small))

pub both_more : (a b d k m n : ℕ) → k + m ≡ n → a ≤ b + m → b ≤ d + k → a ≤ d + n
both_more a b d k m n all le few = omega (arith, all, le, few)

-- what two or three pieces join to
pub two_pieces : (a b c p q : List ℕ) → b ≡ a ++ p → c ≡ b ++ q → c ≡ a ++ (p ++ q)
two_pieces a b c p q first second = second ∙ ap (λ (l : List ℕ). l ++ q) first ∙ append_assoc a p q

pub three_pieces : (a b c d p q r : List ℕ) → b ≡ a ++ p → c ≡ b ++ q → d ≡ c ++ r → d ≡ a ++ (p ++ (q ++ r))
three_pieces a b c d p q r first second third =
    third ∙ ap (λ (l : List ℕ). l ++ r) (two_pieces a b c p q first second)
    ∙ append_assoc a (p ++ q) r ∙ ap (λ (l : List ℕ). a ++ l) (append_assoc p q r)

pub fuzz_told : (fuzz : ℕ) → (fuzz ≡ 0 → ⊥) → codes " with fuzz " ++ decimal fuzz ≡ fuzz_part fuzz
fuzz_told fuzz ne =
    let other : (fuzz == 0) ≡ false = grind (arith, nat_tests) in
    ap (λ (b : Bool). if b then [] else codes " with fuzz " ++ decimal fuzz) (sym other)

pub at_most : (a : ℕ) → a ≤ a
at_most a = omega arith
