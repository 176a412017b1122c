-- Sums and bounds of a search, over plain numbers.
use Rattle.std.proofs.Common.{◌≡◌, ℕ, ◌+◌, ◌-◌, ◌<◌, ◌≤◌, ◌^◌, max, sym, subst, arith, to_z, of_z, w32, w64, pos, negsuc, ◌+ℤ◌, ◌-ℤ◌, ◌≤ℤ◌, ℤ, Option, Some, None, Result, Ok, Err}
use mir.Val.{Fits, SFits}
use Rattle.std.proofs.lemmas.Int.{ints}
use Rattle.std.proofs.lemmas.Bool.Decides.{nat_tests}
use Rattle.std.specs.Prelude.{IfOk, IfErr, IfSome, IsErrAnd, Bool, true, false, nat_lt, nat_le, min, if◌then◌else◌}
use Rattle.std.specs.Option.{option_map}
use Rattle.hunk_place.specs.Passing.{nearer}
use Rattle.hunk_place.specs.declared.Spot.{Spot}
use Rattle.line_store.specs.Store.{Seen, Keeps, HasCause}
use Rattle.line_store.specs.declared.fault.LineFault.{LineFault}
use Rattle.line_store.proofs.StoreLemmas.{cause-more}

pub sum-fits : (b : ℕ) (o : ℤ) → b ≤ 2 ^ 32 → negsuc (2 ^ 41) ≤ℤ o → o ≤ℤ pos (2 ^ 41) → SFits w64 (to_z w64 b +ℤ to_z w64 (of_z w64 o))
sum-fits b o small low high = omega (arith, ints)

pub offset-fits : (line b : ℕ) → line ≤ 2 ^ 42 → b ≤ 2 ^ 32 → SFits w64 (to_z w64 line -ℤ to_z w64 b)
offset-fits line b high small = omega (arith, ints)

pub line-fits : (line : ℕ) → line ≤ 2 ^ 42 → SFits w64 (pos line)
line-fits line high = omega (arith, ints)

pub more-room : (a b : ℕ) → a ≤ 2 ^ 41 → 2 ^ 41 ≤ b → a ≤ b
more-room a b low high = omega arith

-- an offset lies as far out as its line may
pub is-near : (line b : ℕ) (offset : ℤ) → line ≤ 2 ^ 41 → b ≤ 2 ^ 32 → offset ≡ pos line -ℤ pos b → (negsuc (2 ^ 41) ≤ℤ offset) × (offset ≤ℤ pos (2 ^ 41))
is-near line b offset high small is = subst (λ z. (negsuc (2 ^ 41) ≤ℤ z) × (z ≤ℤ pos (2 ^ 41))) (sym is) (omega (arith, ints), omega (arith, ints))

pub room-for : (line count n m post most : ℕ) → n ≡ m → post ≡ most → line + n ≤ count + 1 + post → line + m ≤ count + 1 + most
room-for line count n m post most en ep le = omega arith

pub line-small : (line n count post : ℕ) → count ≤ 2 ^ 40 → post < 2 ^ 32 → line + n ≤ count + 1 + post → line ≤ 2 ^ 41
line-small line n count post high few le = omega arith

-- a place from the lowest to the highest lies in the lines, but for trailing context
pub behind : (consumed high back count lines pre post n k context w : ℕ) → high ≡ count + 1 + back - n → back ≡ k - (context - post) → context ≡ max pre post → k ≤ max pre post → count ≡ lines → consumed + 1 ≤ w → w ≤ high → (consumed < w) × (w + n ≤ lines + 1 + post)
behind consumed high back count lines pre post n k context w eh eb ec le el low top = (omega arith, omega arith)

pub found-all : {E : Type 0} (P Q : ℕ → Type 0) (r : Result (Option ℕ) E) → ((w : ℕ) → P w → Q w) → IfOk r (λ o. IfSome o P) → IfOk r (λ o. IfSome o Q)
found-all P Q (Ok None) f h = tt
found-all P Q (Ok (Some w)) f h = f w h
found-all P Q (Err e) f h = tt

pub all-behind : (consumed high back count lines pre post n k context : ℕ) (r : Result (Option ℕ) LineFault) → high ≡ count + 1 + back - n → back ≡ k - (context - post) → context ≡ max pre post → k ≤ max pre post → count ≡ lines
    → IfOk r (λ o. IfSome o (λ w. (consumed + 1 ≤ w) × (w ≤ high))) → IfOk r (λ o. IfSome o (λ w. (consumed < w) × (w + n ≤ lines + 1 + post)))
all-behind consumed high back count lines pre post n k context r eh eb ec le el h = found-all (λ w. (consumed + 1 ≤ w) × (w ≤ high)) (λ w. (consumed < w) × (w + n ≤ lines + 1 + post)) r (λ w in_room. behind consumed high back count lines pre post n k context w eh eb ec le el in_room.0 in_room.1) h

-- at the highest place the last line that is compared is the last one
pub last-room : (consumed high back count lines n m last front : ℕ) → high ≡ count + 1 + back - n → count ≡ lines → n ≡ m → last ≡ m - back → consumed + 1 ≤ high → front < last → high + last ≤ lines + 1
last-room consumed high back count lines n m last front eh el en es room some = omega arith

pub high-small : (high count back n : ℕ) → high ≡ count + 1 + back - n → count ≤ 2 ^ 40 → back < 2 ^ 32 → high < 2 ^ 62
high-small high count back n eh most few = omega arith

pub not-first : (n : ℕ) → 1 ≤ n + 1
not-first n = omega arith

pub left-most : (a b m : ℕ) → m ≡ max a b → a ≤ m
left-most a b m e = omega arith

pub right-most : (a b m : ℕ) → m ≡ max a b → b ≤ m
right-most a b m e = omega arith

-- a line that is compared, between the first and the last
pub line-low : (at front i : ℕ) → front ≤ i → 1 ≤ at + front → 1 ≤ at + i
line-low at front i low first = omega arith

pub line-high : (at last i count now : ℕ) → i < last → at + last ≤ count + 1 → now ≡ count → at + i ≤ now
line-high at last i count now lt le e = omega arith

pub high-is : (high back count lines n old fuzz : ℕ) → high ≡ count + 1 + back - n → count ≡ lines → n ≡ old → back ≡ fuzz → high ≡ lines + 1 + fuzz - old
high-is high back count lines n old fuzz eh el en eb = omega arith

pub end-is : (end count lines n old : ℕ) → end ≡ count + 1 - n → count ≡ lines → n ≡ old → end ≡ lines + 1 - old
end-is end count lines n old ee el en = omega arith

pub is-below : (k m context post : ℕ) → m ≡ context → k < m - post → nat_lt k (context - post) ≡ true
is-below k m context post e lt = let below : k < context - post = omega arith in grind (arith, nat_tests)

pub is-not-below : (k m context post : ℕ) → m ≡ context → m - post ≤ k → nat_lt k (context - post) ≡ false
is-not-below k m context post e le = let above : context - post ≤ k = omega arith in grind (arith, nat_tests)

pub one-up : (front i : ℕ) → front ≤ i → front ≤ i + 1
one-up front i low = omega arith

pub is-behind : (front i : ℕ) → front ≤ i → front < i + 1
is-behind front i low = omega arith

pub room-left : (i last n back m : ℕ) → i < last → last ≡ n - back → m ≡ n → i + 1 + back ≤ m
room-left i last n back m lt el em = omega arith

-- the window of a search
pub some-weaker : (P Q : ℕ → Type 0) (o : Option ℕ) → ((w : ℕ) → P w → Q w) → IfSome o P → IfSome o Q
some-weaker P Q None f h = tt
some-weaker P Q (Some w) f h = f w h

pub from-centre : (centre from top : ℕ) (above : Option ℕ) → IfSome above (λ u. (centre + from ≤ u) × (u < top)) → IfSome above (λ u. centre ≤ u)
from-centre centre from top above h = some-weaker (λ u. (centre + from ≤ u) × (u < top)) (λ u. centre ≤ u) above (λ u b. omega (arith, b.0)) h

pub to-centre : (centre from bottom end : ℕ) (below : Option ℕ) → end ≡ centre + 1 - from → IfSome below (λ w. (bottom ≤ w) × (w < end)) → IfSome below (λ w. w ≤ centre)
to-centre centre from bottom end below e h = some-weaker (λ w. (bottom ≤ w) × (w < end)) (λ w. w ≤ centre) below (λ w b. omega (arith, b.1)) h

pub nearer-within : (low high centre from to top bottom end sat : ℕ) (above below : Option ℕ) → low ≤ centre → centre ≤ high → top ≡ min (centre + to) (high + 1) → bottom ≡ max low sat → end ≡ centre + 1 - from
    → IfSome above (λ u. (centre + from ≤ u) × (u < top)) → IfSome below (λ w. (bottom ≤ w) × (w < end)) → IfSome (nearer centre above below) (λ w. (low ≤ w) × (w ≤ high))
nearer-within low high centre from to top bottom end sat None below in_low in_high et eb ee a b =
    some-weaker (λ w. (bottom ≤ w) × (w < end)) (λ w. (low ≤ w) × (w ≤ high)) below (λ w h. (omega (arith, h.0), omega (arith, h.1))) b
nearer-within low high centre from to top bottom end sat (Some u) None in_low in_high et eb ee a b = (omega (arith, a.0), omega (arith, a.1))
nearer-within low high centre from to top bottom end sat (Some u) (Some w) in_low in_high et eb ee a b =
    by (nat_le (u - centre) (centre - w)) (omega (arith, a.0), omega (arith, a.1)) (omega (arith, b.0), omega (arith, b.1))
  where
    by : (v : Bool) → (low ≤ u) × (u ≤ high) → (low ≤ w) × (w ≤ high) → IfSome (if v then Some u else Some w) (λ x. (low ≤ x) × (x ≤ high))
    by true x y = x
    by false x y = y

pub top-room : (high centre to top last count : ℕ) → top ≡ min (centre + to) (high + 1) → high + last ≤ count + 1 → top + last ≤ count + 2
top-room high centre to top last count e le = omega arith

pub end-room : (high centre from end last count now : ℕ) → centre ≤ high → end ≡ centre + 1 - from → now ≡ count → high + last ≤ count + 1 → end + last ≤ now + 2
end-room high centre from end last count now in_high e en le = omega arith

-- fuzzes up to the most
pub most-within : (most fuzz context pre post : ℕ) → most ≡ min fuzz context → context ≡ max pre post → most ≤ max pre post
most-within most fuzz context pre post em ec = omega arith

pub fuzz-within : (k most fuzz context pre post : ℕ) → k < most + 1 → most ≡ min fuzz context → context ≡ max pre post → k ≤ max pre post
fuzz-within k most fuzz context pre post lt em ec = omega arith

pub fuzz-fits : (k most fuzz context : ℕ) → k < most + 1 → most ≡ min fuzz context → fuzz < 2 ^ 32 → Fits w32 k
fuzz-fits k most fuzz context lt em few = omega arith

pub with-context : (consumed line n count post : ℕ) → (consumed < line) × (line + n ≤ count + 1) → (consumed < line) × (line + n ≤ count + 1 + post)
with-context consumed line n count post h = (h.0, omega (arith, h.1))

pub guess-within : (consumed n count lines post : ℕ) (o : Option Spot) → n ≡ 0 → count ≡ lines → IfSome o (λ s. (consumed + 1 ≤ s.line) × (s.line ≤ count + 1)) → IfSome o (λ s. (consumed < s.line) × (s.line + n ≤ lines + 1 + post))
guess-within consumed n count lines post None en el h = tt
guess-within consumed n count lines post (Some s) en el h = let a : consumed + 1 ≤ s.line = h.0 in let b : s.line ≤ count + 1 = h.1 in (omega arith, omega arith)

pub guess-small : (consumed count : ℕ) (o : Option Spot) → count ≤ 2 ^ 40 → IfSome o (λ s. (consumed + 1 ≤ s.line) × (s.line ≤ count + 1)) → IfSome o (λ s. s.line ≤ 2 ^ 41)
guess-small consumed count None most h = tt
guess-small consumed count (Some s) most h = let b : s.line ≤ count + 1 = h.1 in omega arith

pub moved-within : (from to front : ℕ) (o : Option ℕ) → IfSome o (λ k. (from + front ≤ k) × (k < to + front)) → IfSome (option_map (λ k. k - front) o) (λ w. (from ≤ w) × (w < to))
moved-within from to front None h = tt
moved-within from to front (Some k) h = (omega (arith, h.0), omega (arith, h.0, h.1))

pub behind-front : (from to front : ℕ) (o : Option ℕ) → IfSome o (λ k. (from + front ≤ k) × (k < to + front)) → IfSome o (λ k. front ≤ k)
behind-front from to front o h = some-weaker (λ k. (from + front ≤ k) × (k < to + front)) (λ k. front ≤ k) o (λ k b. omega (arith, b.0)) h

pub wider-low : (from at w to : ℕ) → from ≤ at → (at ≤ w) × (w < to) → (from ≤ w) × (w < to)
wider-low from at w to low h = (omega (arith, h.0), h.1)

pub wider-high : (from w end to : ℕ) → end ≤ to → (from ≤ w) × (w < end) → (from ≤ w) × (w < to)
wider-high from w end to high h = (h.0, omega (arith, h.1))

pub next-fits : (w to : ℕ) → w < to → to ≤ 2 ^ 62 → Fits w64 (w + 1)
next-fits w to lt small = omega arith

-- the lines of a place that lies in a range
pub lies-in : (from w to front last count now : ℕ) → 1 ≤ from → (from ≤ w) × (w < to) → to + last ≤ count + 2 → now ≡ count → (1 ≤ w + front) × (w + last ≤ now + 1)
lies-in from w to front last count now first h le e = let a : from ≤ w = h.0 in let b : w < to = h.1 in (omega arith, omega arith)

pub most-fits : (most fuzz context : ℕ) → most ≡ min fuzz context → fuzz < 2 ^ 32 → Fits w64 (most + 1)
most-fits most fuzz context e few = omega arith

-- where the window of a search begins and ends
pub window-of : (low high centre from to top bottom sat : ℕ) → from < to → top ≡ min (centre + to) (high + 1) → sat ≡ centre + 1 - to → bottom ≡ max low sat
    → (top ≤ high + 1) × (top ≤ centre + to) × ((v : ℕ) → v ≤ high → v < centre + to → v < top) × (low ≤ bottom) × (centre < bottom + to) × ((v : ℕ) → low ≤ v → centre < v + to → bottom ≤ v)
window-of low high centre from to top bottom sat lt et es eb = (omega arith, omega arith, λ v a b. omega arith, omega arith, omega arith, λ v a b. omega arith)

-- a fault that is passed on has its cause since the first call
pub cause-on : {R : Type 0} (a b c : Seen) (e : LineFault) (r : Result R LineFault) → IsErrAnd r (λ x. x ≡ e) → Keeps a b → HasCause e b c → IfErr r (λ x. HasCause x a c)
cause-on a b c e (Ok x) is k h = absurd is
cause-on a b c e (Err x) is k h = subst (λ y. HasCause y a c) (sym is) (cause-more e a b c k h)
