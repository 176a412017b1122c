-- Plain numbers: how far a loop has come, and what fits a word.
use Rattle.std.proofs.Common.{◌≡◌, ◌≤◌, ◌<◌, ◌+◌, ◌-◌, ◌*◌, ◌^◌, ℕ, Option, Some, IsSome, Fits, SFits, w64, pos, refl, sym, subst, arith}
use Rattle.std.proofs.lemmas.Int.{ints}

pub some-is : {A : Type 0} (o : Option A) (x : A) → o ≡ Some x → IsSome o
some-is o x is = subst IsSome (sym is) refl

pub le-both : (a b c : ℕ) → a ≤ b → b ≤ c → a ≤ c
le-both a b c h k = omega arith

pub low-more : (q n : ℕ) → 1 ≤ q → 1 ≤ q + n
low-more q n low = omega arith

pub high-one : (q most all : ℕ) → 1 ≤ most → q + most ≤ all + 1 → q ≤ all
high-one q most all some high = omega arith

pub high-more : (q n most all : ℕ) → n < most → q + most ≤ all + 1 → q + n ≤ all
high-more q n most all lt high = omega arith

pub high-fewer : (q few most all now : ℕ) → few ≤ most → now ≡ all → q + most ≤ all + 1 → q + few ≤ now + 1
high-fewer q few most all now le same high = omega arith

pub high-rest : (q to all now : ℕ) → q < to → now ≡ all → to ≤ all + 1 → q + (to - q) ≤ now + 1
high-rest q to all now lt same high = omega arith

pub rest-some : (q to : ℕ) → q < to → 1 ≤ to - q
rest-some q to lt = omega arith

pub one-less : (most n : ℕ) → n < most → most - (n + 1) < most - n
one-less most n lt = omega arith

pub some-less : (to q n : ℕ) → 1 ≤ n → n ≤ to - q → to - (q + n) < to - q
some-less to q n some most = omega arith

pub back-less : (k : ℕ) → 0 < k → k - 1 - 0 < k - 0
back-less k some = omega arith

-- a place behind what was consumed
pub next-some : (n : ℕ) → 1 ≤ n + 1
next-some n = omega arith

pub behind-some : (n line : ℕ) → n < line → 1 ≤ line
behind-some n line lt = omega arith

pub behind-next : (n line : ℕ) → n < line → n + 1 ≤ line
behind-next n line lt = omega arith

-- a hunk's old lines without trailing context
pub line-end : (line taken post : ℕ) → post ≤ taken → line ≤ line + taken - post
line-end line taken post le = omega arith

pub line-high : (line taken post count len : ℕ) → post ≤ taken → line + taken ≤ count + 1 + post → count ≡ len → line ≤ len + 1
line-high line taken post count len le room is = omega arith

pub line-small : (line taken post count n : ℕ) → post ≤ taken → line + taken ≤ count + 1 + post → n ≡ count → n ≤ 2 ^ 40 → line < 2 ^ 62
line-small line taken post count n le room is most = omega arith

pub one-more : (a b : ℕ) → a ≤ b → a + 1 ≤ b + 1
one-more a b le = omega arith

pub one-back : (n : ℕ) → n ≡ (n + 1) - 1
one-back n = omega arith

pub begin-high : (first last all now : ℕ) → first ≤ last + 1 → last ≤ all → now ≡ all → first ≤ now + 1
begin-high first last all now order within is = omega arith

pub back-one : (k : ℕ) → 0 < k → k ≡ k - 1 + 1
back-one k some = omega arith

pub back-in : (k len n : ℕ) → 0 < k → k ≤ len → len ≡ n → k - 1 < n
back-in k len n some le is = omega arith

pub fits-more : (n most top : ℕ) → n < most → most ≤ top → Fits w64 top → Fits w64 (n + 1)
fits-more n most top lt le fits = omega (arith, fits)

pub fits-within : (q n to : ℕ) → q < to → n ≤ to - q → Fits w64 to → Fits w64 (q + n)
fits-within q n to lt le fits = omega (arith, fits)

pub fits-count : (n : ℕ) → n ≤ 2 ^ 40 → Fits w64 (n + 1)
fits-count n most = omega arith

pub fits-next : (n all count : ℕ) → n ≤ all → count ≡ all → count ≤ 2 ^ 40 → Fits w64 (n + 1)
fits-next n all count le is most = fits-count n (omega arith)

pub fits-offset : (j n : ℕ) → j < n → n < 2 ^ 32 → Fits w64 (j * 32)
fits-offset j n lt few = omega arith

pub fits-signed : (n : ℕ) → n < 2 ^ 32 → SFits w64 (pos n)
fits-signed n few = omega (arith, ints)

-- a line in front of trailing context
pub in-front : (k len end post n : ℕ) → k < len - end → len ≡ n → end ≡ post → k + 1 + post ≤ n
in-front k len end post n lt is same = omega arith

pub in-list : (k len end n : ℕ) → k < len - end → len ≡ n → k < n
in-list k len end n lt is = omega arith
