-- Hunks that break no rule.
use Rattle.std.proofs.Common.{◌≡◌, Bool, true, false, cond, Option, None, Some, refl, eqb, length, ◌||◌, ℕ, not, ◌&&◌, List, ◌+◌, ◌<◌, arith}
use Rattle.hunk_core.specs.declared.check.BadHunk.{BadHunk}
use Rattle.hunk_core.specs.PlainHunk.{PlainHunk, old_lines, new_lines}
use Rattle.hunk_core.specs.Rules.{starts_at_zero, runs_over, lacks_inner_end, first_broken}
use Rattle.std.proofs.lemmas.Bool.{or_parts, eqb-true, le-ltb, ltb-false}
use Rattle.hunk_core.specs.declared.check.BadHunk.TheVariants as rules

pub pass : (b : Bool) (x : BadHunk) (o : Option BadHunk) → cond b (Some x) o ≡ None → (b ≡ false) × (o ≡ None)
pass true x o e = absurd cc
pass false x o e = (refl, e)

pub record Kept (h : PlainHunk) : Type 0 where
  pub some : eqb (length h.body) 0 ≡ false
  pub old_begins : starts_at_zero h.old_start (old_lines h.body) ≡ false
  pub new_begins : starts_at_zero h.new_start (new_lines h.body) ≡ false
  pub old_fits : runs_over h.old_start (old_lines h.body) ≡ false
  pub new_fits : runs_over h.new_start (new_lines h.body) ≡ false
  pub old_ends : lacks_inner_end (old_lines h.body) ≡ false
  pub new_ends : lacks_inner_end (new_lines h.body) ≡ false

pub kept : (h : PlainHunk) → first_broken h ≡ None → Kept h
kept h e =
    let a = pass (eqb (length h.body) 0) rules.NoLines _ e in
    let b = pass (starts_at_zero h.old_start (old_lines h.body) || starts_at_zero h.new_start (new_lines h.body)) rules.Start _ a.1 in
    let c = pass (runs_over h.old_start (old_lines h.body) || runs_over h.new_start (new_lines h.body)) rules.Sum _ b.1 in
    let d = pass (lacks_inner_end (old_lines h.body) || lacks_inner_end (new_lines h.body)) rules.InnerEnd _ c.1 in
    let begin = or_parts _ _ b.0 in
    let fits = or_parts _ _ c.0 in
    let ends = or_parts _ _ d.0 in
    record { some = a.0; old_begins = begin.0; new_begins = begin.1; old_fits = fits.0; new_fits = fits.1; old_ends = ends.0; new_ends = ends.1 }

pub no-rule : (x y z w : BadHunk) (a b b2 c c2 d d2 : Bool) → a ≡ false → b ≡ false → b2 ≡ false → c ≡ false → c2 ≡ false → d ≡ false → d2 ≡ false → cond a (Some x) (cond (b || b2) (Some y) (cond (c || c2) (Some z) (cond (d || d2) (Some w) None))) ≡ None
no-rule x y z w a b b2 c c2 d d2 e1 e2 e3 e4 e5 e6 e7 = rw (e1, e2, e3, e4, e5, e6, e7) refl

pub zero-start : (start : ℕ) (side : List (List ℕ)) → (start ≡ 0 → length side ≡ 0) → starts_at_zero start side ≡ false
zero-start start side begins = by (eqb start 0) refl
  where
    by : (b : Bool) → eqb start 0 ≡ b → (b && not (eqb (length side) 0)) ≡ false
    by true e = let z : length side ≡ 0 = begins (eqb-true start 0 e) in rw z refl
    by false e = refl

pub no-run : (start : ℕ) (side : List (List ℕ)) → start + length side < 4294967296 → runs_over start side ≡ false
no-run start side small = le-ltb 4294967295 (start + length side) (omega (arith, small))

pub fits-back : (start : ℕ) (side : List (List ℕ)) → runs_over start side ≡ false → start + length side < 4294967296
fits-back start side e = omega (arith, ltb-false 4294967295 (start + length side) e)
