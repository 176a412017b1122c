-- What is spelled breaks none of the rules of a hunk.
use Rattle.std.proofs.Common.{◌≡◌, ◌≢◌, ℕ, ◌+◌, ◌≤◌, ◌<◌, Bool, true, false, cond, not, eqb, ◌&&◌, List, [], ◌∷◌, ◌++◌, length, map, None, refl, sym, subst, arith, inl, inr}
use Rattle.std.specs.Prelude.{filter}
use Rattle.std.proofs.lemmas.Bool.{eqb-true}
use Rattle.line_list.specs.Lines.{IsLine, ArePieces}
use Rattle.hunk_core.specs.declared.Mark.{Mark}
use Rattle.hunk_core.specs.declared.Mark.TheVariants.{Keep, Drop, Add}
use Rattle.hunk_core.specs.declared.Side.{Side}
use Rattle.hunk_core.specs.declared.Side.TheVariants.{Forward, Reversed}
use Rattle.hunk_core.specs.Sides.{is_on_side}
use Rattle.hunk_core.specs.PlainHunk.{Marked, PlainHunk, lines_on, old_lines, new_lines}
use Rattle.hunk_core.specs.LineTests.{ends_line}
use Rattle.hunk_core.specs.Rules.{starts_at_zero, runs_over, lacks_inner_end, first_broken}
use Rattle.hunk_core.proofs.PieceLemmas.{pieces-last}
use Rattle.hunk_core.proofs.RuleLemmas.{no-rule}
use Rattle.hunk_core.proofs.LineEnds.{line-ends, lacks-step}
use Rattle.unified_form.specs.declared.body.Left.{Left}
use Rattle.unified_form.specs.Bodies.{is_last_line}
use Rattle.unified_form.specs.Grammar.{mark_byte, Shows, counts_of, SpellsLine, SpellsBody, SpellsHunk}
use Rattle.unified_form.proofs.Counts.{counts-old, counts-new, left_on, counts-on}

-- ---- a line that stands before another has its line feed
not-feed : (mark : Mark) → mark_byte mark ≢ 10
not-feed Keep = λ e. cc
not-feed Drop = λ e. cc
not-feed Add = λ e. cc

behind-mark : (mark : Mark) (line : List ℕ) → IsLine (mark_byte mark ∷ line) → ends_line line ≡ true
behind-mark mark [] h = absurd (not-feed mark h)
behind-mark mark (b ∷ bytes) h = line-ends (b ∷ bytes) h.1

shown-ends : (line : List ℕ) (m : Marked) → Shows line m → IsLine line → ends_line m.line ≡ true
shown-ends line m (inl e) whole = behind-mark m.mark m.line (subst IsLine e whole)
shown-ends line m (inr h) whole = subst (λ (x : Marked). ends_line x.line ≡ true) (sym h.1) (line-ends line whole)

whole-before : (line next : List ℕ) (more : List (List ℕ)) → ArePieces (line ∷ next ∷ more) → IsLine line
whole-before line next more h = h.0

-- ---- no line of a side is left behind the last

pub last-none : (side : Side) (mark : Mark) (left : Left) → is_on_side side mark ≡ true → is_last_line mark left ≡ true → left_on side left ≡ 0
last-none Forward Keep left on e = eqb-true left.old 0 (both (eqb left.old 0) (eqb left.new 0) e).0
  where
    both : (a b : Bool) → (a && b) ≡ true → (a ≡ true) × (b ≡ true)
    both true b e = (refl, e)
    both false b e = absurd cc
last-none Forward Drop left on e = eqb-true left.old 0 e
last-none Forward Add left on e = absurd cc
last-none Reversed Keep left on e = eqb-true left.new 0 (both (eqb left.old 0) (eqb left.new 0) e).1
  where
    both : (a b : Bool) → (a && b) ≡ true → (a ≡ true) × (b ≡ true)
    both true b e = (refl, e)
    both false b e = absurd cc
last-none Reversed Drop left on e = absurd cc
last-none Reversed Add left on e = eqb-true left.new 0 e

no-piece : (own rest : List (List ℕ)) (m : Marked) (body : List Marked) → [] ≡ own ++ rest → SpellsLine own m body → ⊥
no-piece [] rest m body e h = h
no-piece (line ∷ own) rest m body e h = cc

piece-some : (piece : List (List ℕ)) (m : Marked) (body : List Marked) → SpellsBody piece (m ∷ body) → 0 < length piece
piece-some [] m body h = absurd (no-piece h.0 h.1 m body h.2 h.3)
piece-some (line ∷ piece) m body h = omega arith

-- a line of a side, before others of that side
ends-inner : (side : Side) (own rest : List (List ℕ)) (m : Marked) (body : List Marked) → is_on_side side m.mark ≡ true → 0 < length (lines_on side body) → SpellsLine own m body → 0 < length rest → ArePieces (own ++ rest) → ends_line m.line ≡ true
ends-inner side [] rest m body on more h some pieces = absurd h
ends-inner side (line ∷ []) [] m body on more h some pieces = absurd (omega arith)
ends-inner side (line ∷ []) (next ∷ rest) m body on more h some pieces = shown-ends line m h pieces.0
ends-inner side (line ∷ mark ∷ []) rest m body on more h some pieces =
    let none : left_on side (counts_of body) ≡ 0 = last-none side m.mark (counts_of body) on h.1 in
    absurd (omega (arith, counts-on side body))
ends-inner side (line ∷ mark ∷ other ∷ own) rest m body on more h some pieces = absurd h

rest-some : (side : Side) (rest : List (List ℕ)) (body : List Marked) → 0 < length (lines_on side body) → SpellsBody rest body → 0 < length rest
rest-some side rest [] more h = absurd (omega arith)
rest-some side rest (m ∷ body) more h = piece-some rest m body h

pub body-ends : (side : Side) (body : List Marked) (piece : List (List ℕ)) → SpellsBody piece body → ArePieces piece → lacks_inner_end (lines_on side body) ≡ false
body-ends side [] piece h pieces = refl
body-ends side (m ∷ body) piece h pieces =
    let split : ArePieces (h.0 ++ h.1) = subst ArePieces h.2 pieces in
    let others : lacks_inner_end (lines_on side body) ≡ false = body-ends side body h.1 h.4 (pieces-last h.0 h.1 split) in
    by (is_on_side side m.mark) refl split others
  where
    by : (b : Bool) → is_on_side side m.mark ≡ b → ArePieces (h.0 ++ h.1) → lacks_inner_end (lines_on side body) ≡ false
        → lacks_inner_end (map (λ x. x.line) (cond b (m ∷ filter (λ x. is_on_side side x.mark) body) (filter (λ x. is_on_side side x.mark) body))) ≡ false
    by true on split others = lacks-step m.line (lines_on side body) (λ more. ends-inner side h.0 h.1 m body on more h.3 (rest-some side h.1 body more h.4) split) others
    by false on split others = others

-- ---- the other rules

zero-start : (start count : ℕ) (side : List (List ℕ)) → count ≡ length side → (start ≡ 0 → count ≡ 0) → starts_at_zero start side ≡ false
zero-start start count side same begins = by (eqb start 0) refl
  where
    by : (b : Bool) → eqb start 0 ≡ b → (b && not (eqb (length side) 0)) ≡ false
    by true e = let none : eqb (length side) 0 ≡ true = (let z : length side ≡ 0 = omega (arith, same, begins (eqb-true start 0 e)) in rw z refl) in rw none refl
    by false e = refl

no-run : (start count : ℕ) (side : List (List ℕ)) → count ≡ length side → start + count < 4294967296 → runs_over start side ≡ false
no-run start count side same small = let le : start + length side ≤ 4294967295 = omega (arith, same) in grind arith

some-body : (body : List Marked) → 0 < (counts_of body).old + (counts_of body).new → eqb (length body) 0 ≡ false
some-body [] h = absurd (omega arith)
some-body (m ∷ body) h = grind arith

pub hunk-unbroken : (least : ℕ) (own : List (List ℕ)) (h : PlainHunk) → SpellsHunk least own h → ArePieces own → first_broken h ≡ None
hunk-unbroken least [] h s pieces = absurd s
hunk-unbroken least (line ∷ own) h s pieces =
    let fair = s.1 in
    let rest : ArePieces own = pieces-last (line ∷ []) own pieces in
    no-rule _ _ _ _ _ _ _ _ _ _ _
    (some-body h.body fair.counts)
    (zero-start h.old_start (counts_of h.body).old (old_lines h.body) (counts-old h.body) fair.old_begins)
    (zero-start h.new_start (counts_of h.body).new (new_lines h.body) (counts-new h.body) fair.new_begins)
    (no-run h.old_start (counts_of h.body).old (old_lines h.body) (counts-old h.body) fair.fits.old)
    (no-run h.new_start (counts_of h.body).new (new_lines h.body) (counts-new h.body) fair.fits.new)
    (body-ends Forward h.body own s.2 rest)
    (body-ends Reversed h.body own s.2 rest)
