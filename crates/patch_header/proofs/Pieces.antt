-- Parts of a text that a tail shows, and the bytes of a line.
use Rattle.std.proofs.Common.{◌≡◌, ℕ, ◌+◌, ◌-◌, ◌≤◌, Bool, true, false, cond, eqb, List, [], ◌∷◌, length, drop, slice_range, Option, None, Some, refl, arith, length-take, length-drop}
use Rattle.std.specs.Prelude.{IfSome}
use Rattle.std.proofs.lemmas.Bool.{eqb-false}
use Rattle.line_list.specs.declared.Span.{Span}
use Rattle.hunk_core.specs.LineTests.{ends_line}
use Rattle.patch_header.specs.Region.{LiesIn}
use Rattle.patch_header.specs.GitRows.{FitsIn}
use Rattle.patch_header.specs.declared.git_names.Pair.{Pair}
use Rattle.patch_header.specs.Values.{span_at, bytes_of, IsPieceOf}
use Rattle.patch_header.specs.declared.region.Tail.{Tail}

-- a span that ends within the text is a piece of it
pub piece-at : (text : List ℕ) (start len : ℕ) (o : Option Span) → o ≡ span_at start len → start + len ≤ length text → IfSome o (IsPieceOf text)
piece-at text start len o e fits = rw e (by (eqb len 0) refl)
  where
    by : (v : Bool) → eqb len 0 ≡ v → IfSome (cond v None (Some (record { start = start; end = start + len }))) (IsPieceOf text)
    by true k = tt
    by false k = record { some = omega (arith, eqb-false len 0 k); high = fits }

pub whole-fits : (text : List ℕ) (t : Tail) → LiesIn text t → t.start + length (bytes_of text t) ≤ length text
whole-fits text t lies = omega (arith, lies.low, lies.high, length-take (t.end - t.start) (drop t.start text), length-drop t.start text)

-- what begins behind the first bytes of a tail
pub part-fits : (text : List ℕ) (t : Tail) (skipped len : ℕ) → LiesIn text t → skipped ≤ length (bytes_of text t) → len ≤ length (slice_range (bytes_of text t) skipped (length (bytes_of text t))) → (t.start + skipped) + len ≤ length text
part-fits text t skipped len lies low high =
    let bytes = bytes_of text t in
    omega (arith, whole-fits text t lies, low, high, length-take (length bytes - skipped) (drop skipped bytes), length-drop skipped bytes)

-- the names of a git line
pub old-fits : (text : List ℕ) (t : Tail) (p : Pair) → LiesIn text t → FitsIn (bytes_of text t) p → t.start + p.old ≤ length text
old-fits text t p lies fits = omega (arith, whole-fits text t lies, fits.old)

pub new-fits : (text : List ℕ) (t : Tail) (p : Pair) → LiesIn text t → FitsIn (bytes_of text t) p → (t.start + p.start) + p.new ≤ length text
new-fits text t p lies fits = omega (arith, whole-fits text t lies, fits.new)

-- a line that ends has a byte
pub ended-some : (line : List ℕ) → ends_line line ≡ true → 1 ≤ length line
ended-some [] h = absurd cc
ended-some (b ∷ bytes) h = omega arith
