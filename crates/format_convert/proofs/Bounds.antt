-- Bounds of numbers and lengths over plain variables, so that no answer looks for them among all that its goal knows.
use Rattle.std.proofs.Common.{◌≡◌, append_assoc, ℕ, ◌+◌, ◌-◌, ◌*◌, ◌^◌, ◌<◌, ◌≤◌, Bool, true, false, cond, List, [], ◌∷◌, ◌++◌, length, get_or, sym, ap, ◌∙◌, take, arith, rules, w64, Fits}
use Rattle.std.specs.Prelude.{nat_lt, vec_len}
use Rattle.std.proofs.lemmas.List.{length-append, length-take}
use Rattle.std.proofs.lemmas.List.Sums.{count_by-le-length}
use Rattle.std.proofs.lemmas.Bool.Decides.{nat_tests}
use Rattle.num_text.specs.Numbers.{decimal}
use Rattle.hunk_core.specs.Spans.{span_text}
use Rattle.ed_form.specs.declared.script.EdScript.{EdScript}
use Rattle.hunk_core.specs.declared.Hunk.{Hunk}
use Rattle.hunk_core.specs.declared.HunkLine.{HunkLine}
use Rattle.hunk_core.specs.declared.Side.TheVariants.{Forward}
use Rattle.hunk_core.specs.Sides.{is_on_side, taken_count}
use Rattle.hunk_core.specs.Turned.{IsLawful}
use Rattle.format_convert.specs.Commands.{range_start}
use Rattle.format_convert.specs.Walk.{IsKept, IsSmall, new_start, way_of}
use Rattle.format_convert.specs.declared.block.Block.{Block}
use Rattle.format_convert.specs.declared.kept.Kept.{Kept}
use Rattle.format_convert.specs.declared.normal.Net.{Net}
use Rattle.format_convert.specs.declared.place.EditCursor.{EditCursor}

-- ---- places in a list

pub offset-fits : (i n : ℕ) → i < n → n < 2 ^ 32 → Fits w64 (i * 32)
offset-fits i n lt few = omega arith

pub next-fits : (i n : ℕ) → i < n → n < 2 ^ 64 → Fits w64 (i + 1)
next-fits i n lt few = omega arith

pub sum-fits : (a b : ℕ) → a ≤ 2 ^ 60 → b ≤ 2 ^ 60 → Fits w64 (a + b)
sum-fits a b low few = omega arith

-- a walk from the end
pub under : (i from m n : ℕ) → from < i → i ≤ m → m ≤ n → i - 1 < n
under i from m n lt le within = omega arith

pub falls : (i from : ℕ) → from < i → i - 1 - from < i - from
falls i from lt = omega arith

pub some-left : (i from : ℕ) → from < i → 1 ≤ i
some-left i from lt = omega arith

pub down-up : (i : ℕ) → 0 < i → i ≡ i - 1 + 1
down-up i lt = omega arith

-- ---- hunks

pub body-long : (h : Hunk) → vec_len h.body ≡ length h.body.items
body-long h = search rules

pub body-short : (k : Kept) → IsKept k → (i : ℕ) (h : Hunk) → i < length k.hunks.now → vec_len (get_or k.hunks.now i h).body < 2 ^ 32
body-short k is i h lt =
    let l : IsLawful k.set.now.text (get_or k.hunks.now i h) = is.lawful.lawful i h lt in
    omega (arith, body-long (get_or k.hunks.now i h), l.few)

-- ---- numbers of commands

pub range-low : (first count : ℕ) → first ≤ 2 ^ 60 → range_start first count ≤ 2 ^ 60
range-low first count low = grind (arith, nat_tests)

pub new-low : (n : Net) (b : Block) → IsSmall n b → new_start n b ≤ 2 ^ 60
new-low n b is = omega (arith, is.first, is.net)

pub adds-low : (n : Net) (b : Block) → IsSmall n b → b.adds ≤ 2 ^ 60
adds-low n b is = omega (arith, is.block)

pub first-low : (n : Net) (b : Block) → IsSmall n b → b.first ≤ 2 ^ 60
first-low n b is = omega (arith, is.first)

-- the start of a range that isn't empty
pub start-some : (first count : ℕ) → ((count ≡ 0) → ⊥) → first ≡ range_start first count
start-some first count some = grind (arith, nat_tests)

pub digits-room : (n len t : ℕ) → n + 20 ≤ 128 → len ≡ t → len ≤ 20 → (136 < 2 ^ 63) × (n + t ≤ 128)
digits-room n len t room is few = (omega arith, omega arith)

pub few-more : (new old piece : List ℕ) (len : ℕ) → new ≡ old ++ piece → len ≡ length piece → len ≤ 20 → length new ≤ length old + 20
few-more new old piece len is long few = omega (arith, ap length is, length-append old piece, long, few)

pub comma-room : (new old : List ℕ) (n : ℕ) → new ≡ old ++ 44 ∷ [] → length old ≤ n + 20 → n + 41 ≤ 128 → length new + 20 ≤ 128
comma-room new old n is few room = omega (arith, ap length is, length-append old (44 ∷ []), few, room)

pub span-few : (new old : List ℕ) (n last : ℕ) → new ≡ old ++ 44 ∷ [] → length old ≤ n + 20 → last ≤ length new + 20 → last ≤ n + 41
span-few new old n last is few more = omega (arith, ap length is, length-append old (44 ∷ []), few, more)

pub one-behind : (start count : ℕ) → 1 < count → 1 ≤ start + count
one-behind start count lt = omega arith

test-true : (count : ℕ) → 1 < count → nat_lt 1 count ≡ true
test-true count lt = grind (arith, nat_tests)

test-false : (count : ℕ) → count ≤ 1 → nat_lt 1 count ≡ false
test-false count le = grind (arith, nat_tests)

pub span-one : (old new : List ℕ) (start count : ℕ) → count ≤ 1 → new ≡ old ++ decimal start → new ≡ old ++ span_text start count
span-one old new start count le is =
    is ∙ ap (λ (b : Bool). old ++ cond b (decimal start ++ 44 ∷ decimal (start + count - 1)) (decimal start)) (sym (test-false count le))

pub span-two : (old first mid last : List ℕ) (start count : ℕ) → 1 < count → first ≡ old ++ decimal start → mid ≡ first ++ 44 ∷ [] → last ≡ mid ++ decimal (start + count - 1) → last ≡ old ++ span_text start count
span-two old first mid last start count lt one two three =
    let end = decimal (start + count - 1) in
    three ∙ ap (λ xs. xs ++ end) (two ∙ ap (λ xs. xs ++ 44 ∷ []) one)
    ∙ append_assoc (old ++ decimal start) (44 ∷ []) end
    ∙ append_assoc old (decimal start) (44 ∷ end)
    ∙ ap (λ (b : Bool). old ++ cond b (decimal start ++ 44 ∷ end) (decimal start)) (sym (test-true count lt))

-- ---- places of a walk

pub stays : (n : ℕ) → n ≡ n + 0
stays n = omega arith

pub place-fits : (i n : ℕ) → i < n → n < 2 ^ 32 → Fits w64 (i + 1)
place-fits i n lt few = omega arith

pub line-fits : (line : ℕ) → line < 2 ^ 32 → Fits w64 (line + 1)
line-fits line low = omega arith

pub near-line : (next line : ℕ) → next ≤ 2 ^ 42 + line → line < 2 ^ 32 → next ≤ 2 ^ 43
near-line next line near low = omega arith

pub near-fits : (next line : ℕ) → next ≤ 2 ^ 42 + line → line < 2 ^ 32 → Fits w64 (next + 1)
near-fits next line near low = omega arith

-- ---- orders

pub le-same : (a b : ℕ) → a ≡ b → a ≤ b
le-same a b is = omega arith

pub lt-le : (a n : ℕ) → a < n → a ≤ n
lt-le a n lt = omega arith

pub len-same : (at end len v : ℕ) → end ≡ v → len ≡ v → at ≤ end → end ≤ at → at ≡ len
len-same at end len v is same le ge = omega arith

pub under-end : (i n : ℕ) → 0 < i → i ≤ n → i - 1 < n
under-end i n lt le = omega arith

pub near-low : (n : ℕ) → n ≤ 2 ^ 43 → n ≤ 2 ^ 60
near-low n near = omega arith

pub end-low : (first end : ℕ) → end ≤ 2 ^ 32 → end - first ≤ 2 ^ 60
end-low first end near = omega arith

pub run-low : (first end : ℕ) → first ≤ end → end ≤ 2 ^ 32 → first ≤ 2 ^ 60
run-low first end le near = omega arith

pub own-fits : (a b : ℕ) → a ≤ 2 ^ 32 → b < 2 ^ 32 → Fits w64 (a + b)
own-fits a b low few = omega arith

pub word-fits : (a n b : ℕ) → a ≤ 2 ^ 32 → n < 2 ^ 32 → b ≡ n → Fits w64 (a + b)
word-fits a n b low few is = omega arith

pub letter-room : (xs : List ℕ) (m : ℕ) → xs ≡ [] → m ≤ length xs + 41 → m + 1 ≤ 128
letter-room xs m none few = omega (arith, ap length none, few)

pub span-room : (xs : List ℕ) → xs ≡ [] → length xs + 41 ≤ 128
span-room xs none = omega (arith, ap length none)

pub second-room : (xs span new : List ℕ) (l : ℕ) → xs ≡ [] → length span ≤ length xs + 41 → new ≡ span ++ l ∷ [] → length new + 41 ≤ 128
second-room xs span new l none few is = omega (arith, ap length none, few, ap length is, length-append span (l ∷ []))

pub edits-long : (s : EdScript) → vec_len s.edits ≡ length s.edits.items
edits-long s = search rules

pub taken-few : (line : ℕ) (items : List HunkLine) → taken_count Forward (take line items) ≤ line
taken-few line items = omega (arith, count_by-le-length (λ l. is_on_side Forward l.mark) (take line items), length-take line items)

pub line-place : (q next own base cut taken line : ℕ) → q ≡ next - cut → next ≡ own + taken → base ≡ own → base ≤ 2 ^ 32 → taken ≤ line → 0 < line → q ≤ 2 ^ 42 + (line - 1)
line-place q next own base cut taken line is at same low few some = omega arith

pub less-none : (n : ℕ) → n ≡ n - 0
less-none n = omega arith

pub over-end : (n m : ℕ) → n ≡ m → m ≤ n
over-end n m is = omega arith

pub own-long : (hs : List Hunk) (i n : ℕ) (h : Hunk) → h ≡ get_or hs i h → n ≡ vec_len (get_or hs i h).body → n ≡ length h.body.items
own-long hs i n h is count = count ∙ body-long (get_or hs i h) ∙ ap (λ (x : Hunk). length x.body.items) (sym is)

pub line-low : (line n : ℕ) → line < n → n < 2 ^ 32 → line < 2 ^ 32
line-low line n lt few = omega arith

pub way-next : (count : ℕ) (p b : EditCursor) → b.hunk ≡ p.hunk + 1 → p.hunk < count → way_of count b < way_of count p
way-next count p b is lt = omega (arith, is, lt)

pub way-line : (count : ℕ) (p b : EditCursor) → b.hunk ≡ p.hunk → b.line ≡ p.line + 1 → p.line < 2 ^ 32 → way_of count b < way_of count p
way-line count p b same is low = omega (arith, same, is, low)

pub whole-next : (base count own taken more : ℕ) → base ≡ own → count ≡ taken → more ≡ taken → base + count ≡ own + more
whole-next base count own taken more is same whole = omega arith

pub from-end : (next own taken less one : ℕ) → next ≡ own + taken → taken ≡ less + one → next ≡ own + less + one
from-end next own taken less one is more = omega arith
