-- Hunks that are read are spelled so, and what is spelled so is read.
use Rattle.std.proofs.Common.{◌≡◌, ℕ, suc, ◌+◌, Bool, true, false, cond, eqb, List, [], ◌∷◌, ◌++◌, length, Option, None, Some, Result, Ok, Err, refl, ap, subst, ◌∙◌, arith, inl, inr}
use Rattle.std.specs.Prelude.{is_some, IfOk}
use Rattle.hunk_core.specs.declared.fault.FormFault.{FormFault}
use Rattle.hunk_core.specs.Reading.{Gives}
use Rattle.std.proofs.lemmas.Bool.{eqb-true}
use Rattle.hunk_core.specs.declared.BadKind.{BadKind}
use Rattle.hunk_core.specs.PlainHunk.{PlainHunk}
use Rattle.hunk_core.specs.Reading.{◌>>=◌, Ahead, ahead}
use Rattle.hunk_core.specs.OptionSteps.{◌>>=◌ as ◌>>?◌}
use Rattle.hunk_core.specs.Refusals.{settled}
use Rattle.hunk_core.proofs.OptionLemmas.{some_step, is_none}
use Rattle.unified_form.specs.declared.body.Left.{Left}
use Rattle.unified_form.specs.declared.range.Ranges.{Ranges}
use Rattle.unified_form.specs.Ranges.{size_at, count_at, range_at, range_line, from_ranges, opening, is_opening}
use Rattle.hunk_core.specs.LineTests.{after}
use Rattle.unified_form.specs.Bodies.{body_at}
use Rattle.hunk_core.specs.LineTests.{is_backslash, after_backslash}
use Rattle.unified_form.specs.Hunks.{at_line, left_of, change, first_hunk, hunk_at, begins_hunk, reading}
use Rattle.unified_form.specs.Grammar.{counts_of, ranges_of, SpellsHunk, IsPiece}
use Rattle.hunk_core.proofs.Grammars.{TakesHunk, IsGrammar, piece-alike, reading_takes, piece_reads}
use Rattle.hunk_core.proofs.ReadSteps.{bind_ok, guard_ok}
use Rattle.line_list.proofs.Choices.{chosen}
use Rattle.unified_form.proofs.RangeGrammar.{opening-takes, opening-again, made}
use Rattle.unified_form.proofs.Bodies.{body_takes, body_again}

-- ---- a line that opens a hunk

was_read : (least : ℕ) (o : Option Ranges) (r : Ranges) → from_ranges least o ≡ Ok r → (q : Ranges) × (o ≡ Some q)
was_read least None r e = absurd cc
was_read least (Some q) r e = (q, refl)

pub opens : (least : ℕ) (line : List ℕ) (r : Ranges) → opening least line ≡ Ok r → is_opening line ≡ true
unfolding range_line range_at is_opening
opens least line r e =
    let q = was_read least (range_line line) r e in
    let a = some_step (after (64 ∷ 64 ∷ 32 ∷ 45 ∷ []) line) _ q.0 q.1 in
    let b = some_step (range_at a.0) _ q.0 a.2 in
    let c = some_step (size_at a.0) (λ start. count_at start.1 >>? λ count. Some ((start.0, count.0), count.1)) b.0 b.1 in
    rw (a.1, c.1) refl

no_prefix : (v : Bool) (o : Option (List ℕ)) → v ≡ false → is_some (cond v o None >>? size_at) ≡ true → ⊥
no_prefix true o f e = cc
no_prefix false o f e = cc

-- a line that begins with '@' doesn't begin with a backslash
opening_first : (line : List ℕ) → is_opening line ≡ true → is_backslash line ≡ false
unfolding is_opening after
opening_first [] e = absurd cc
opening_first (b ∷ bytes) e =
    elim (chosen (eqb b 64) (after (64 ∷ 32 ∷ 45 ∷ []) bytes) None _ refl) [
      | inl at ↦ rw (eqb-true b 64 at.0) refl
      | inr other ↦ absurd (no_prefix (eqb b 64) (after (64 ∷ 32 ∷ 45 ∷ []) bytes) other.0 e)
    ]

-- ---- one hunk

-- a hunk doesn't look at the lines behind it
abbrev pub SpellsIn : ℕ → List (List ℕ) → List (List ℕ) → PlainHunk → Type 0
SpellsIn least own behind h = SpellsHunk least own h

pub at_line-ok : (number : ℕ) (o : Result Ranges BadKind) (r : Ranges) → at_line number o ≡ Ok r → o ≡ Ok r
at_line-ok number (Ok q) r e = cc
at_line-ok number (Err kind) r e = absurd cc

pub is_ranges : (a b c d e f : ℕ) → b ≡ e → d ≡ f → made a b c d ≡ made a e c f
is_ranges a b c d e f h k = rw (h, k) refl

pub hunk_takes : (least number : ℕ) (rest : List (List ℕ)) (x : PlainHunk × Ahead) → first_hunk least number rest ≡ Ok x → TakesHunk SpellsIn least (ahead number rest) x
unfolding first_hunk
hunk_takes least number [] x h = absurd cc
hunk_takes least number (line ∷ rest) x h =
    let a = bind_ok (at_line number (opening least line)) (λ r. body_at (r.old_count + r.new_count) (left_of r) (ahead (number + 1) rest) >>= λ body. settled (change r body.0) body.1) x h in
    let b = bind_ok (body_at (a.0.old_count + a.0.new_count) (left_of a.0) (ahead (number + 1) rest)) (λ body. settled (change a.0 body.0) body.1) x a.2 in
    let g = guard_ok _ _ (change a.0 b.0.0, b.0.1) x b.2 in
    let body = body_takes _ (left_of a.0) (ahead (number + 1) rest) b.0 (omega arith) b.1 in
    let stated : a.0 ≡ ranges_of (change a.0 b.0.0) = is_ranges a.0.old_start a.0.old_count a.0.new_start a.0.new_count _ _ (ap (λ (l : Left). l.old) body.counts) (ap (λ (l : Left). l.new) body.counts) in
    let range_spelled = opening-takes least line (ranges_of (change a.0 b.0.0)) (at_line-ok number (opening least line) a.0 a.1 ∙ ap (λ (r : Ranges). Ok r) stated) in
    subst (λ (y : PlainHunk × Ahead). TakesHunk SpellsIn least (ahead number (line ∷ rest)) y) g.1 (record {
      own = line ∷ body.own;
      parts = ap (λ (r : List (List ℕ)). line ∷ r) body.parts;
      number = omega (arith, body.number);
      spelled = (range_spelled.0, range_spelled.1, body.spelled);
      quiet = is_none (after_backslash b.0.1.rest) g.0;
    })

pub hunk_again : (h : PlainHunk) (own rest : List (List ℕ)) (least number : ℕ) → SpellsHunk least own h → after_backslash rest ≡ None → first_hunk least number (own ++ rest) ≡ Ok (h, ahead (number + length own) rest)
unfolding first_hunk
hunk_again h [] rest least number s none = absurd s
hunk_again h (line ∷ lines) rest least number s none =
    let range : opening least line ≡ Ok (ranges_of h) = opening-again least line (ranges_of h) s.0 s.1 in
    let body : body_at ((counts_of h.body).old + (counts_of h.body).new) (counts_of h.body) (ahead (number + 1) (lines ++ rest)) ≡ Ok (h.body, ahead (number + 1 + length lines) rest) = body_again h.body lines rest (number + 1) _ s.2 none (omega arith) in
    let count : number + 1 + length lines ≡ number + suc (length lines) = omega arith in
    rw (range, body, none, count) refl

-- ---- hunks that follow each other

opening_quiet : (rest : List (List ℕ)) → begins_hunk rest ≡ true → after_backslash rest ≡ None
opening_quiet [] e = refl
opening_quiet (line ∷ rest) e = rw (opening_first line e) refl

pub hunk_opens : (least : ℕ) (own tail : List (List ℕ)) (h : PlainHunk) → SpellsHunk least own h → begins_hunk (own ++ tail) ≡ true
hunk_opens least [] tail h s = absurd s
hunk_opens least (line ∷ lines) tail h s = opens least line (ranges_of h) (opening-again least line (ranges_of h) s.0 s.1)

pub grammar : IsGrammar begins_hunk hunk_at SpellsIn
grammar = record {
  none = refl;
  quiet = opening_quiet;
  opens = λ least own behind tail h s. hunk_opens least own tail h s;
  takes = λ least p x opens h. hunk_takes least p.number p.rest x h;
  again = λ h own rest least number s none. hunk_again h own rest least number s none;
}

pub reading_finds : (number : ℕ) (lines : List (List ℕ)) (x : List PlainHunk × Ahead) → begins_hunk lines ≡ true → reading number lines ≡ Ok x → IsPiece number lines x.0 x.1.number x.1.rest
reading_finds number lines x opens h = piece-alike begins_hunk SpellsIn (λ ls. ls) (λ ls. []) (λ least own behind others h s. s) number lines x.0 x.1.number x.1.rest (reading_takes begins_hunk hunk_at SpellsIn grammar number lines x h opens)

pub reading_again : (number : ℕ) (lines : List (List ℕ)) (hs : List PlainHunk) (next : ℕ) (rest : List (List ℕ)) → IsPiece number lines hs next rest → reading number lines ≡ Ok (hs, ahead next rest)
reading_again number lines hs next rest p = piece_reads begins_hunk hunk_at SpellsIn grammar number lines hs next rest (piece-alike begins_hunk SpellsIn (λ ls. []) (λ ls. ls) (λ least own behind others h s. s) number lines hs next rest p)

pub is_found : {X : Type 0} (view : X → List PlainHunk × Ahead) (number : ℕ) (lines : List (List ℕ)) (r : Result X FormFault) → begins_hunk lines ≡ true → Gives view r (reading number lines) → IfOk r (λ h. IsPiece number lines (view h).0 (view h).1.number (view h).1.rest)
is_found view number lines (Ok h) opens given = reading_finds number lines (view h) opens given
is_found view number lines (Err e) opens given = tt
