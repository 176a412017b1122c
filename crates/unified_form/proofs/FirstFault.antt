-- A fault stays whatever lines come after its own.
use Rattle.std.proofs.Common.{◌≡◌, ◌≢◌, inl, inr, ℕ, ◌+◌, ◌≤◌, ◌<◌, Bool, true, false, cond, List, [], ◌∷◌, ◌++◌, length, Option, None, Some, Result, Ok, Err, refl, sym, ap, subst, ◌∙◌, arith}
use Rattle.std.specs.Prelude.{is_some}
use Rattle.hunk_core.specs.declared.BadKind.{BadKind}
use Rattle.hunk_core.specs.declared.BadKind.TheVariants as kinds
use Rattle.hunk_core.specs.PlainHunk.{Marked, PlainHunk}
use Rattle.hunk_core.specs.LineTests.{after_backslash}
use Rattle.hunk_core.specs.Reading.{◌>>=◌, Fault, fault, Ahead, ahead}
use Rattle.hunk_core.proofs.TextLemmas.{has_some}
use Rattle.hunk_core.proofs.ReadSteps.{bind_ok, guard_ok}
use Rattle.hunk_core.specs.Refusals.{settled}
use Rattle.hunk_core.specs.FirstFault.{AgreeTo}
use Rattle.hunk_core.proofs.FaultSteps.{err_is, bind_err}
use Rattle.hunk_core.proofs.Agreeing.{agree_head}
use Rattle.unified_form.specs.declared.range.Ranges.{Ranges}
use Rattle.unified_form.specs.Ranges.{range_line, from_ranges, opening}
use Rattle.unified_form.specs.Bodies.{body_at}
use Rattle.unified_form.specs.Hunks.{at_line, left_of, change, first_hunk, hunk_at, begins_hunk, hunks_at, reading}
use Rattle.unified_form.specs.Grammar.{IsPiece}
use Rattle.unified_form.proofs.Pieces.{SpellsIn, grammar, reading_again}
use Rattle.hunk_core.proofs.Steady.{Goes}
use Rattle.hunk_core.proofs.Faults.{FillsHunks, IsSteady, hunks_low as low_of, hunks_fill as fill_of, stays, short, unread, late}
use Rattle.unified_form.proofs.BodyFaults.{agree_quiet, agree_loud, body_low, body_up, body_stays, body_goes}

-- ---- a hunk

checked_kind : (a b c d : Bool) (r : Ranges) (kind : BadKind) → cond a (Err kinds.Range) (cond b (Err kinds.NumberTooLarge) (cond c (Err kinds.Count) (cond d (Err kinds.HunkOrder) (Ok r)))) ≡ Err kind → kind ≢ kinds.ShortEnd
checked_kind true b c d r kind h = λ short. cc
checked_kind false true c d r kind h = λ short. cc
checked_kind false false true d r kind h = λ short. cc
checked_kind false false false true r kind h = λ short. cc
checked_kind false false false false r kind h = λ short. cc

opening_kind : (least : ℕ) (line : List ℕ) (kind : BadKind) → opening least line ≡ Err kind → kind ≢ kinds.ShortEnd
opening_kind least line kind h = by (range_line line) h
  where
    by : (o : Option Ranges) → from_ranges least o ≡ Err kind → kind ≢ kinds.ShortEnd
    by None h = λ short. cc
    by (Some r) h = checked_kind _ _ _ _ r kind h

at_line_err : (number : ℕ) (o : Result Ranges BadKind) (e : Fault) → at_line number o ≡ Err e → (kind : BadKind) × (o ≡ Err kind) × (e ≡ fault number kind)
at_line_err number (Ok r) e h = absurd cc
at_line_err number (Err kind) e h = (kind, refl, sym (err_is {A = Ranges} (fault number kind) e h))

pub range_low : (least number : ℕ) (line : List ℕ) (e : Fault) → at_line number (opening least line) ≡ Err e → (e.line ≡ number) × (e.kind ≢ kinds.ShortEnd)
range_low least number line e h =
    let a = at_line_err number (opening least line) e h in
    (ap (λ (x : Fault). x.line) a.2, subst (λ (x : Fault). x.kind ≢ kinds.ShortEnd) (sym a.2) (opening_kind least line a.0 a.1))

abbrev pub with_body : ℕ → List (List ℕ) → Ranges → Result (PlainHunk × Ahead) Fault
with_body number rest r = body_at (r.old_count + r.new_count) (left_of r) (ahead (number + 1) rest) >>= λ body. settled (change r body.0) body.1

pub settled_err : (h : PlainHunk) (p : Ahead) (e : Fault) → settled h p ≡ Err e → (fault p.number kinds.MisplacedBackslash ≡ e) × (is_some (after_backslash p.rest) ≡ true)
settled_err h p e is = by (is_some (after_backslash p.rest)) refl is
  where
    by : (b : Bool) → is_some (after_backslash p.rest) ≡ b → cond {A = Result (PlainHunk × Ahead) Fault} b (Err (fault p.number kinds.MisplacedBackslash)) (Ok (h, p)) ≡ Err e → (fault p.number kinds.MisplacedBackslash ≡ e) × (is_some (after_backslash p.rest) ≡ true)
    by true is h = (cc, is)
    by false is h = absurd cc

pub hunk_low : (least number : ℕ) (lines : List (List ℕ)) (e : Fault) → first_hunk least number lines ≡ Err e → (number ≤ e.line) × (e.kind ≡ kinds.ShortEnd → e.line ≡ number + length lines)
unfolding first_hunk
hunk_low least number [] e h = let is : fault number kinds.ShortEnd ≡ e = cc in (omega (arith, ap (λ (x : Fault). x.line) is), λ _. omega (arith, ap (λ (x : Fault). x.line) is))
hunk_low least number (line ∷ rest) e h =
    elim (bind_err (at_line number (opening least line)) (with_body number rest) e h) [
      | inl bad ↦ (let l = range_low least number line e bad in (omega (arith, l.0), λ short. absurd (l.1 short)))
      | inr good ↦ elim (bind_err (body_at (good.0.old_count + good.0.new_count) (left_of good.0) (ahead (number + 1) rest)) (λ body. settled (change good.0 body.0) body.1) e good.2) [
        | inl bad ↦ (let l = body_low _ (left_of good.0) (ahead (number + 1) rest) e bad in (omega (arith, l.0), λ short. omega (arith, l.1 short)))
        | inr body ↦ (
            let up = body_up _ (left_of good.0) (ahead (number + 1) rest) body.0 body.1 in
            let s = settled_err (change good.0 body.0.0) body.0.1 e body.2 in
            (omega (arith, up.0, ap (λ (x : Fault). x.line) s.0), λ short. absurd (let k : kinds.MisplacedBackslash ≡ kinds.ShortEnd = ap (λ (x : Fault). x.kind) s.0 ∙ short in cc)))
      ]
    ]

pub hunk_up : (least number : ℕ) (lines : List (List ℕ)) (x : PlainHunk × Ahead) → first_hunk least number lines ≡ Ok x → (number < x.1.number) × (x.1.number + length x.1.rest ≡ number + length lines)
unfolding first_hunk
hunk_up least number [] x h = absurd cc
hunk_up least number (line ∷ rest) x h =
    let a = bind_ok (at_line number (opening least line)) (with_body number rest) x h in
    let b = bind_ok (body_at (a.0.old_count + a.0.new_count) (left_of a.0) (ahead (number + 1) rest)) (λ body. settled (change a.0 body.0) body.1) x a.2 in
    let g = guard_ok _ _ (change a.0 b.0.0, b.0.1) x b.2 in
    let up = body_up _ (left_of a.0) (ahead (number + 1) rest) b.0 b.1 in
    subst (λ (y : PlainHunk × Ahead). (number < y.1.number) × (y.1.number + length y.1.rest ≡ number + length (line ∷ rest))) g.1 (omega (arith, up.0), omega (arith, up.1))

hunk_step_err : (least number : ℕ) (line : List ℕ) (rest others : List (List ℕ)) (e : Fault) → others ≡ line ∷ rest → at_line number (opening least line) ≡ Err e → first_hunk least number others ≡ Err e
unfolding first_hunk
hunk_step_err least number line rest others e is h = rw (is, h) refl

hunk_body_err : (least number : ℕ) (line : List ℕ) (rest others : List (List ℕ)) (r : Ranges) (e : Fault) → others ≡ line ∷ rest → at_line number (opening least line) ≡ Ok r → body_at (r.old_count + r.new_count) (left_of r) (ahead (number + 1) rest) ≡ Err e → first_hunk least number others ≡ Err e
unfolding first_hunk
hunk_body_err least number line rest others r e is h body = rw (is, h, body) refl

hunk_step : (least number : ℕ) (line : List ℕ) (rest others : List (List ℕ)) (r : Ranges) (body : List Marked × Ahead) (y : Result (PlainHunk × Ahead) Fault) → others ≡ line ∷ rest → at_line number (opening least line) ≡ Ok r → body_at (r.old_count + r.new_count) (left_of r) (ahead (number + 1) rest) ≡ Ok body → settled (change r body.0) body.1 ≡ y → first_hunk least number others ≡ y
unfolding first_hunk
hunk_step least number line rest others r body y is h read e = rw (is, h, read) e

settled_stays : (h : PlainHunk) (last number : ℕ) (rest others : List (List ℕ)) → AgreeTo last number rest others → number ≤ last → is_some (after_backslash rest) ≡ true → settled h (ahead number others) ≡ Err (fault number kinds.MisplacedBackslash)
settled_stays h last number rest others agree le e =
    let k = has_some (after_backslash rest) e in
    let b = agree_loud last number rest others k.0 agree le k.1 in
    rw b.1 refl

none_is : (o : Option (List (List ℕ))) → is_some o ≡ false → o ≡ None
none_is None e = refl
none_is (Some x) e = absurd cc

settled_goes : (h : PlainHunk) (last number : ℕ) (rest others : List (List ℕ)) → AgreeTo last number rest others → number ≤ last → is_some (after_backslash rest) ≡ false → settled h (ahead number others) ≡ Ok (h, ahead number others)
settled_goes h last number rest others agree le e =
    let q = agree_quiet last number rest others agree le (none_is (after_backslash rest) e) in
    rw q refl

pub hunk_stays : (least number : ℕ) (lines others : List (List ℕ)) (e : Fault) → first_hunk least number lines ≡ Err e → e.kind ≢ kinds.ShortEnd → AgreeTo e.line number lines others → first_hunk least number others ≡ Err e
unfolding first_hunk
hunk_stays least number [] others e h long agree = absurd (long (let is : fault number kinds.ShortEnd ≡ e = cc in sym (ap (λ (x : Fault). x.kind) is)))
hunk_stays least number (line ∷ rest) others e h long agree =
    let low = hunk_low least number (line ∷ rest) e h in
    let a = agree_head e.line number line rest others agree low.0 in
    elim (bind_err (at_line number (opening least line)) (with_body number rest) e h) [
      | inl bad ↦ hunk_step_err least number line a.0 others e a.1 bad
      | inr good ↦ elim (bind_err (body_at (good.0.old_count + good.0.new_count) (left_of good.0) (ahead (number + 1) rest)) (λ body. settled (change good.0 body.0) body.1) e good.2) [
        | inl bad ↦ hunk_body_err least number line a.0 others good.0 e a.1 good.1 (body_stays _ (left_of good.0) (ahead (number + 1) rest) a.0 e bad long a.2)
        | inr body ↦ (
            let s = settled_err (change good.0 body.0.0) body.0.1 e body.2 in
            let le : body.0.1.number ≤ e.line = omega (arith, ap (λ (x : Fault). x.line) s.0) in
            let go = body_goes _ (left_of good.0) e.line (ahead (number + 1) rest) a.0 body.0 body.1 le a.2 in
            hunk_step least number line a.0 others good.0 (body.0.0, ahead body.0.1.number go.rest) (Err e) a.1 good.1 go.read
            (settled_stays (change good.0 body.0.0) e.line body.0.1.number body.0.1.rest go.rest go.agree le s.1 ∙ ap (λ x. Err x) s.0))
      ]
    ]

pub hunk_goes : (least last number : ℕ) (lines others : List (List ℕ)) (x : PlainHunk × Ahead) → first_hunk least number lines ≡ Ok x → x.1.number ≤ last → AgreeTo last number lines others → Goes (hunk_at least) last number others x
unfolding first_hunk
hunk_goes least last number [] others x h le agree = absurd cc
hunk_goes least last number (line ∷ rest) others x h le agree =
    let up = hunk_up least number (line ∷ rest) x h in
    let head = agree_head last number line rest others agree (omega (arith, up.0)) in
    let a = bind_ok (at_line number (opening least line)) (with_body number rest) x h in
    let b = bind_ok (body_at (a.0.old_count + a.0.new_count) (left_of a.0) (ahead (number + 1) rest)) (λ body. settled (change a.0 body.0) body.1) x a.2 in
    let g = guard_ok _ _ (change a.0 b.0.0, b.0.1) x b.2 in
    let there : b.0.1.number ≤ last = omega (arith, le, ap (λ (y : PlainHunk × Ahead). y.1.number) g.1) in
    let go = body_goes _ (left_of a.0) last (ahead (number + 1) rest) head.0 b.0 b.1 there head.2 in
    subst (λ (y : PlainHunk × Ahead). Goes (hunk_at least) last number others y) g.1 (record {
      rest = go.rest;
      read = hunk_step least number line head.0 others a.0 (b.0.0, ahead b.0.1.number go.rest) _ head.1 a.1 go.read (settled_goes (change a.0 b.0.0) last b.0.1.number b.0.1.rest go.rest go.agree there g.0);
      agree = go.agree;
    })

-- ---- hunks that follow each other

begins_too : (last number : ℕ) (rest others : List (List ℕ)) → AgreeTo last number rest others → number ≤ last → begins_hunk rest ≡ true → begins_hunk others ≡ true
begins_too last number [] others agree le e = absurd cc
begins_too last number (line ∷ rest) others agree le e = let a = agree_head last number line rest others agree le in rw a.1 e

steady : IsSteady begins_hunk hunk_at SpellsIn (λ n. n)
steady = record {
  far = λ n. omega arith;
  opens = begins_too;
  one = λ least. record {
    low = λ p e h. hunk_low least p.number p.rest e h;
    up = λ p x h. (let up = hunk_up least p.number p.rest x h in (omega (arith, up.0), up.1));
    stays = λ p others e h long agree. hunk_stays least p.number p.rest others e h long agree;
    goes = λ last p others x h le agree. hunk_goes least last p.number p.rest others x h le agree;
  };
}

pub hunks_low : (most least : ℕ) (p : Ahead) (e : Fault) → hunks_at most least p ≡ Err e → (p.number ≤ e.line) × (e.kind ≡ kinds.ShortEnd → e.line ≡ p.number + length p.rest)
hunks_low = low_of begins_hunk hunk_at SpellsIn (λ n. n) grammar steady

-- the lines in front of a fault, with others, are hunks
pub hunks_fill : ((least : ℕ) (p : Ahead) (e : Fault) → hunk_at least p ≡ Err e → FillsHunks SpellsIn least p e) → (most least : ℕ) (p : Ahead) (e : Fault) → hunks_at most least p ≡ Err e → FillsHunks SpellsIn least p e
hunks_fill = fill_of begins_hunk hunk_at SpellsIn (λ n. n) grammar steady (λ least own behind others h s. s)

-- ---- the first fault

pub fault-stays : (number : ℕ) (lines others : List (List ℕ)) (e : Fault) → reading number lines ≡ Err e → e.kind ≢ kinds.ShortEnd → AgreeTo e.line number lines others → reading number others ≡ Err e
fault-stays = stays begins_hunk hunk_at SpellsIn (λ n. n) grammar steady

pub fault-short : (number : ℕ) (lines : List (List ℕ)) (e : Fault) → reading number lines ≡ Err e → e.kind ≡ kinds.ShortEnd → e.line ≡ number + length lines
fault-short = short begins_hunk hunk_at SpellsIn (λ n. n) grammar steady

pub fault-unspelled : (number : ℕ) (lines others : List (List ℕ)) (e : Fault) (hs : List PlainHunk) (next : ℕ) (rest : List (List ℕ)) → reading number lines ≡ Err e → e.kind ≢ kinds.ShortEnd → AgreeTo e.line number lines others → IsPiece number others hs next rest → ⊥
fault-unspelled number lines others e hs next rest h long agree piece = unread begins_hunk hunk_at SpellsIn (λ n. n) grammar steady number lines others e (hs, ahead next rest) h long agree (reading_again number others hs next rest piece)

pub fault-late : (number : ℕ) (front behind others : List (List ℕ)) (e : Fault) (hs : List PlainHunk) (next : ℕ) (rest : List (List ℕ)) → IsPiece number (front ++ others) hs next rest → reading number (front ++ behind) ≡ Err e → number + length front ≤ e.line
fault-late number front behind others e hs next rest piece h = late begins_hunk hunk_at SpellsIn (λ n. n) grammar steady number front behind others e (hs, ahead next rest) (reading_again number (front ++ others) hs next rest piece) h
