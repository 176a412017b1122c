-- Places and numbers of a text stay within it, and fit.
use Rattle.std.proofs.Common.{◌≡◌, ℕ, ◌+◌, ◌-◌, ◌<◌, ◌≤◌, ◌^◌, true, false, eqb, List, [], ◌∷◌, ◌++◌, length, sum_by, get_or, Fits, w32, w64, refl, sym, arith}
use Rattle.std.specs.Prelude.{All, nat_lt, vec_len}
use Rattle.std.proofs.lemmas.Bool.{eqb-true, or_parts}
use Rattle.std.proofs.lemmas.List.{length-append}
use Rattle.std.proofs.lemmas.List.Sums.{sum_by-append}
use Rattle.std.proofs.lemmas.List.Elements.{All-push}
use Rattle.line_list.specs.Lines.{IsLineAt}
use Rattle.line_list.specs.declared.Span.{Span}
use Rattle.hunk_core.specs.declared.fault.Place.{Place}
use Rattle.hunk_core.specs.Reading.{IsPlace}
use Rattle.hunk_core.specs.Turned.{LiesIn}
use Rattle.ed_form.specs.declared.script.EdEdit.{EdEdit}
use Rattle.ed_form.specs.declared.command.Heading.{Heading}
use Rattle.ed_form.specs.Commands.{is_too_large}
use Rattle.ed_form.specs.Commands as small

pub low-end : {text : List ℕ} {at end : ℕ} → IsLineAt text at end → at ≤ end
low-end line = omega (arith, line.low)

pub nearer : {text : List ℕ} {at end : ℕ} → IsLineAt text at end → length text - end < length text - at
nearer line = omega (arith, line.low, line.high)

pub nearer-place : (at next long : ℕ) → at < next → next ≤ long → long - next < long - at
nearer-place at next long low high = omega (arith, low, high)

pub short-fits : (n long : ℕ) → n ≤ long → long < 2 ^ 32 → Fits w32 n
short-fits n long within short = omega (arith, within, short)

pub number-fits : {text : List ℕ} {p : Place} → IsPlace text p → Fits w64 (p.number + 1)
number-fits p = omega (arith, p.short, p.within, p.small)

pub next-place : {text : List ℕ} {p : Place} {end : ℕ} → IsPlace text p → IsLineAt text p.at end → IsPlace text (record { at = end; number = p.number + 1 })
next-place p line = record { short = p.short; within = line.high; small = omega (arith, p.small, line.low) }

pub place-later : {text : List ℕ} {at end : ℕ} (next : ℕ) → IsLineAt text at end → end ≤ next → at < next
place-later next line later = omega (arith, line.low, later)

pub few-later : {text : List ℕ} {at end : ℕ} (n next : ℕ) → IsLineAt text at end → end + n ≤ next → at + n < next
few-later n next line few = omega (arith, line.low, few)

pub few-within : (at n m place long : ℕ) → at + n + m ≤ place → place ≤ long → n + m ≤ long
few-within at n m place long few within = omega (arith, few, within)

pub no-more : (n m : ℕ) → n ≡ m → n ≤ m + 1
no-more n m e = omega (arith, e)

pub one-more : (n m : ℕ) → n ≡ m + 1 → n ≤ m + 1
one-more n m e = omega (arith, e)

-- ---- the last of some spans

pub some-spans : (spans : List Span) → false ≡ eqb (length spans) 0 → 0 < length spans
some-spans [] e = absurd cc
some-spans (s ∷ spans) e = omega arith

pub below-last : (spans : List Span) → false ≡ eqb (length spans) 0 → length spans - 1 < length spans
below-last spans e = omega (arith, some-spans spans e)

pub last-lies : (text : List ℕ) (spans : List Span) (d : Span) → false ≡ eqb (length spans) 0 → All (LiesIn text) spans → LiesIn text (get_or spans (length spans - 1) d)
last-lies text spans d some lies = lies (length spans - 1) d (below-last spans some)

pub no-spans : (spans : List Span) → true ≡ eqb (length spans) 0 → spans ≡ []
no-spans [] e = refl
no-spans (s ∷ spans) e = absurd (omega (arith, eqb-true (length (s ∷ spans)) 0 (sym e)))

-- ---- an edit more

module _ (edits more : List EdEdit) (e : EdEdit) (pushed : more ≡ edits ++ e ∷ []) where
  pub few-more : (at place next : ℕ) → at + length edits + sum_by (λ (x : EdEdit). length x.added.items) edits ≤ place → place + vec_len e.added < next
      → at + length more + sum_by (λ (x : EdEdit). length x.added.items) more ≤ next
  few-more at place next few added = rw (pushed, length-append, sum_by-append (λ (x : EdEdit). length x.added.items)) (omega (arith, few, added, e.added.ok.0))

  pub lies-more : (text : List ℕ) → All (λ (x : EdEdit). All (LiesIn text) x.added.items) edits → All (LiesIn text) e.added.items → All (λ (x : EdEdit). All (LiesIn text) x.added.items) more
  lies-more text all one = rw pushed (All-push (λ (x : EdEdit). All (LiesIn text) x.added.items) edits e all one)

-- ---- the numbers of a command

pub heading-fits : (h : Heading) → false ≡ is_too_large h → small.Fits h
heading-fits h e =
    let both = or_parts (nat_lt 4294967295 h.first) (nat_lt 4294967295 h.last) (sym e) in
    let first : nat_lt 4294967295 h.first ≡ false = both.0 in
    let last : nat_lt 4294967295 h.last ≡ false = both.1 in
    record { first = grind (arith, first); last = grind (arith, last) }

pub address-fits : (n : ℕ) → n < 2 ^ 32 → Fits w32 n
address-fits n small = omega (arith, small)
