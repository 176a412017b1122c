-- A hunk that a piece of a text spells breaks no rule.
use Rattle.std.proofs.Common.{◌≡◌, ℕ, suc, ◌<◌, ◌≤◌, Bool, true, false, not, cond, eqb, ◌||◌, List, [], ◌∷◌, ◌++◌, length, None, refl, sym, ap, subst, ◌∙◌, arith, inl, inr}
use Rattle.std.proofs.lemmas.Bool.{eqb-true, ne_eqb}
use Rattle.std.proofs.lemmas.List.{length-map}
use Rattle.line_list.specs.Lines.{IsLine, ArePieces}
use Rattle.hunk_core.specs.declared.Mark.{Mark}
use Rattle.hunk_core.specs.declared.Mark.TheVariants as its
use Rattle.hunk_core.specs.declared.Side.{Side}
use Rattle.hunk_core.specs.declared.Side.TheVariants.{Forward, Reversed}
use Rattle.hunk_core.specs.Sides.{is_on_side}
use Rattle.hunk_core.specs.PlainHunk.{Marked, PlainHunk, old_lines, new_lines}
use Rattle.hunk_core.specs.LineTests.{ends_line}
use Rattle.hunk_core.specs.Rules.{starts_at_zero, runs_over, lacks_inner_end, first_broken}
use Rattle.hunk_core.specs.Turned.{other_side}
use Rattle.hunk_core.proofs.PieceLemmas.{pieces-first, pieces-last}
use Rattle.line_list.proofs.WholeLines.{whole-before}
use Rattle.hunk_core.proofs.RuleLemmas.{no-rule, zero-start, no-run}
use Rattle.hunk_core.proofs.LineEnds.{line-ends, lacks-step}
use Rattle.context_form.specs.Merging.{part_of}
use Rattle.context_form.specs.Presence.{is_there}
use Rattle.context_form.specs.Parts.{behind_blank}
use Rattle.context_form.specs.Grammar.{mark_byte, Shows, SpellsLine, SpellsPart, SpellsNumbers, SpellsSide, SpellsHunk, SpellsPiece, stated_as, written}
use Rattle.context_form.proofs.JoinLemmas.{kept-other}
use Rattle.context_form.proofs.Again.{on-length}
use Rattle.context_form.proofs.Canonical.{lines_of}

-- ---- a hunk at the end of a text

not-there : (single : Bool) (start n : ℕ) (olds : List Marked) → is_there (stated_as single start n) olds [] ≡ false
not-there true start n olds = by (eqb start 0)
  where
    by : (b : Bool) → cond b false false ≡ false
    by true = refl
    by false = refl
not-there false start n olds = refl

pub at-end : (least : ℕ) (own behind : List (List ℕ)) (h : PlainHunk) → SpellsHunk least own behind h → SpellsPiece least own h
at-end least own behind h s = record {
  stars = s.stars;
  old_line = s.old_line;
  old = s.old;
  new_line = s.new_line;
  new = s.new;
  parts = s.parts;
  asterisks = s.asterisks;
  old_single = s.old_single;
  new_single = s.new_single;
  old_range = s.old_range;
  new_range = s.new_range;
  old_part = s.old_part;
  new_part = s.new_part;
  some = s.some;
  drops = s.drops;
  old_fits = s.old_fits;
  new_fits = s.new_fits;
  order = s.order;
  begins = s.begins;
  told = λ e. not-there s.new_single h.new_start (length (part_of Reversed h.body)) (written Forward s.old h.body);
}

-- ---- a line that stands before another has its line feed
not-feed : (changed : Bool) (mark : Mark) → mark_byte changed mark ≡ 10 → ⊥
not-feed changed its.Keep e = cc
not-feed true its.Drop e = cc
not-feed false its.Drop e = cc
not-feed true its.Add e = cc
not-feed false its.Add e = cc

blank-ends : (c : ℕ) (bytes : List ℕ) → IsLine (c ∷ bytes) → ends_line (behind_blank (c ∷ bytes)) ≡ true
blank-ends c [] h = by (eqb c 32) (eqb c 9) refl refl
  where
    by : (v w : Bool) → eqb c 32 ≡ v → eqb c 9 ≡ w → ends_line (cond v [] (cond w [] (c ∷ []))) ≡ true
    by true w e f = absurd (let a : c ≡ 32 = eqb-true c 32 e in let b : c ≡ 10 = h in omega (arith, a, b))
    by false true e f = absurd (let a : c ≡ 9 = eqb-true c 9 f in let b : c ≡ 10 = h in omega (arith, a, b))
    by false false e f = line-ends (c ∷ []) h
blank-ends c (d ∷ bytes) h = by (eqb c 32) (eqb c 9)
  where
    by : (v w : Bool) → ends_line (cond v (d ∷ bytes) (cond w (d ∷ bytes) (c ∷ d ∷ bytes))) ≡ true
    by true w = line-ends (d ∷ bytes) h.1
    by false true = line-ends (d ∷ bytes) h.1
    by false false = line-ends (c ∷ d ∷ bytes) h

behind-mark : (changed : Bool) (mark : Mark) (bytes : List ℕ) → IsLine (mark_byte changed mark ∷ bytes) → ends_line (behind_blank bytes) ≡ true
behind-mark changed mark [] h = absurd (not-feed changed mark h)
behind-mark changed mark (c ∷ bytes) h = blank-ends c bytes h.1

shown-ends : (line : List ℕ) (m : Marked) → Shows line m → IsLine line → ends_line m.line ≡ true
shown-ends line m (inl h) whole = subst (λ l. ends_line l ≡ true) (sym h.3) (behind-mark h.0 m.mark h.1 (subst IsLine h.2 whole))
shown-ends line m (inr h) whole = subst (λ (x : Marked). ends_line x.line ≡ true) (sym h.1) (line-ends line whole)

part-some : (piece : List (List ℕ)) (part : List Marked) → SpellsPart piece part → 0 < length part → 0 < length piece
part-some piece [] s some = absurd (omega (arith, some))
part-some [] (m ∷ part) s some = absurd (none s.0 s.1 s.2 s.3)
  where
    none : (own rest : List (List ℕ)) → [] ≡ own ++ rest → SpellsLine own m part → ⊥
    none [] rest e h = h
    none (line ∷ own) rest e h = cc
part-some (line ∷ piece) (m ∷ part) s some = omega arith

ends-inner : (own rest : List (List ℕ)) (m : Marked) (others : List Marked) → SpellsLine own m others → SpellsPart rest others → 0 < length others → ArePieces (own ++ rest) → ends_line m.line ≡ true
ends-inner [] rest m others h s some pieces = absurd h
ends-inner (line ∷ []) rest m others h s some pieces = shown-ends line m h (whole-before line rest (part-some rest others s some) pieces)
ends-inner (line ∷ mark ∷ []) rest m others h s some pieces = absurd (omega (arith, some, ap length h.1))
ends-inner (line ∷ mark ∷ other ∷ own) rest m others h s some pieces = absurd h

part-ends : (piece : List (List ℕ)) (part : List Marked) → SpellsPart piece part → ArePieces piece → lacks_inner_end (lines_of part) ≡ false
part-ends piece [] s pieces = refl
part-ends piece (m ∷ part) s pieces =
    let split : ArePieces (s.0 ++ s.1) = subst ArePieces s.2 pieces in
    lacks-step m.line (lines_of part) (λ some. ends-inner s.0 s.1 m part s.3 s.4 (omega (arith, some, length-map part (λ (x : Marked). x.line))) split) (part-ends s.1 part s.4 (pieces-last s.0 s.1 split))

-- and so have some of the lines
lacks-first : (line : List ℕ) (lines : List (List ℕ)) → lacks_inner_end (line ∷ lines) ≡ false → (0 < length lines → ends_line line ≡ true) × (lacks_inner_end lines ≡ false)
lacks-first line [] h = ((λ some. absurd (omega (arith, some))), refl)
lacks-first line (x ∷ xs) h = by (ends_line line) refl h
  where
    by : (b : Bool) → ends_line line ≡ b → (not b || lacks_inner_end (x ∷ xs)) ≡ false → (0 < length (x ∷ xs) → ends_line line ≡ true) × (lacks_inner_end (x ∷ xs) ≡ false)
    by true is k = ((λ some. is), k)
    by false is k = absurd cc

some-of : (side : Side) (body : List Marked) → 0 < length (lines_of (part_of side body)) → 0 < length (lines_of body)
some-of side [] some = absurd (omega (arith, some))
some-of side (m ∷ body) some = omega arith

part-lacks : (side : Side) (body : List Marked) → lacks_inner_end (lines_of body) ≡ false → lacks_inner_end (lines_of (part_of side body)) ≡ false
part-lacks side [] h = refl
part-lacks side (m ∷ body) h =
    let f = lacks-first m.line (lines_of body) h in
    by (is_on_side side m.mark) f.0 (part-lacks side body f.1)
  where
    by : (b : Bool) → (0 < length (lines_of body) → ends_line m.line ≡ true) → lacks_inner_end (lines_of (part_of side body)) ≡ false → lacks_inner_end (lines_of (cond b (m ∷ part_of side body) (part_of side body))) ≡ false
    by true ends more = lacks-step m.line (lines_of (part_of side body)) (λ some. ends (some-of side body some)) more
    by false ends more = more

-- a part that is written or left out
side-ends : (side : Side) (own partner : List (List ℕ)) (body : List Marked) → SpellsSide side own partner body → SpellsSide (other_side side) partner own body → 0 < length (own ++ partner) → ArePieces own → ArePieces partner → lacks_inner_end (lines_of (part_of side body)) ≡ false
side-ends side (line ∷ own) partner body s t some p q = part-ends (line ∷ own) (part_of side body) s p
side-ends side [] [] body s t some p q = absurd (omega (arith, some))
side-ends side [] (line ∷ partner) body s t some p q =
    part-lacks side body (subst (λ ms. lacks_inner_end (lines_of ms) ≡ false) (kept-other side body s.0) (part-ends (line ∷ partner) (part_of (other_side side) body) t q))

-- ---- the other rules

numbers-start : (text : List ℕ) (single : Bool) (start count : ℕ) → SpellsNumbers text single start count → start ≡ 0 → count ≡ 0
numbers-start text true start count s z = s.2 z
numbers-start text false start count s z = absurd (omega (arith, z, s.6))

part-within : (side : Side) (body : List Marked) → length (part_of side body) ≤ length body
part-within side [] = omega arith
part-within side (m ∷ body) = by (is_on_side side m.mark) (part-within side body)
  where
    by : (b : Bool) → length (part_of side body) ≤ length body → length (cond b (m ∷ part_of side body) (part_of side body)) ≤ suc (length body)
    by true le = omega (arith, le)
    by false le = omega (arith, le)

written-some : (side : Side) (own partner : List (List ℕ)) (body : List Marked) → SpellsSide side own partner body → 0 < length own → 0 < length body
written-some side [] partner body s some = absurd (omega (arith, some))
written-some side (line ∷ own) partner body s some = by (part_of side body) s (part-within side body)
  where
    by : (part : List Marked) → SpellsPart (line ∷ own) part → length part ≤ length body → 0 < length body
    by [] t le = absurd (let bad : line ∷ own ≡ [] = t in cc)
    by (m ∷ part) t le = omega (arith, le)

some-body : (old new : List (List ℕ)) (body : List Marked) → SpellsSide Forward old new body → SpellsSide Reversed new old body → 0 < length (old ++ new) → 0 < length body
some-body [] new body s t some = written-some Reversed new [] body t some
some-body (line ∷ old) new body s t some = written-some Forward (line ∷ old) new body s (omega arith)

swap-some : (old new : List (List ℕ)) → 0 < length (old ++ new) → 0 < length (new ++ old)
swap-some [] [] some = absurd (omega (arith, some))
swap-some [] (line ∷ new) some = omega arith
swap-some (line ∷ old) [] some = omega arith
swap-some (line ∷ old) (line2 ∷ new) some = omega arith

pub hunk-unbroken : (least : ℕ) (own behind : List (List ℕ)) (h : PlainHunk) → SpellsHunk least own behind h → ArePieces own → first_broken h ≡ None
hunk-unbroken least own behind h s pieces =
    let split : ArePieces (s.stars ∷ s.old_line ∷ (s.old ++ s.new_line ∷ s.new)) = subst ArePieces s.parts pieces in
    let inner : ArePieces (s.old ++ s.new_line ∷ s.new) = pieces-last (s.stars ∷ s.old_line ∷ []) (s.old ++ s.new_line ∷ s.new) split in
    let olds : ArePieces s.old = pieces-first s.old (s.new_line ∷ s.new) inner in
    let news : ArePieces s.new = pieces-last (s.new_line ∷ []) s.new (pieces-last s.old (s.new_line ∷ s.new) inner) in
    let body = h.body in
    let n = on-length Forward body in
    let n2 = on-length Reversed body in
    let some : eqb (length h.body) 0 ≡ false = ne_eqb (length h.body) 0 (λ z. absurd (omega (arith, z, some-body s.old s.new h.body s.old_part s.new_part s.some))) in
    let a : starts_at_zero h.old_start (old_lines h.body) ≡ false = zero-start h.old_start (old_lines h.body) (λ z. n ∙ numbers-start s.old_range.text s.old_single h.old_start (length (part_of Forward h.body)) s.old_range.numbers z) in
    let b : starts_at_zero h.new_start (new_lines h.body) ≡ false = zero-start h.new_start (new_lines h.body) (λ z. n2 ∙ numbers-start s.new_range.text s.new_single h.new_start (length (part_of Reversed h.body)) s.new_range.numbers z) in
    let c : runs_over h.old_start (old_lines h.body) ≡ false = no-run h.old_start (old_lines h.body) (omega (arith, n, s.old_fits)) in
    let d : runs_over h.new_start (new_lines h.body) ≡ false = no-run h.new_start (new_lines h.body) (omega (arith, n2, s.new_fits)) in
    let e : lacks_inner_end (old_lines h.body) ≡ false = side-ends Forward s.old s.new h.body s.old_part s.new_part s.some olds news in
    let f : lacks_inner_end (new_lines h.body) ≡ false = side-ends Reversed s.new s.old h.body s.new_part s.old_part (swap-some s.old s.new s.some) news olds in
    no-rule _ _ _ _ _ _ _ _ _ _ _ some a b c d e f
