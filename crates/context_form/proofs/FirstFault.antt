-- A fault stays whatever lines come after the one that decides it.
use Rattle.std.proofs.Common.{◌≡◌, ◌≢◌, inl, inr, ℕ, zero, suc, ◌+◌, ◌-◌, ◌≤◌, Bool, true, false, cond, List, [], ◌∷◌, ◌++◌, length, None, Some, Ok, Err, refl, sym, ap, subst, ◌∙◌, arith}
use Rattle.std.proofs.lemmas.Bool.{cases_lt, and_parts}
use Rattle.std.proofs.lemmas.List.{length-append}
use Rattle.hunk_core.specs.declared.BadKind.{BadKind}
use Rattle.hunk_core.specs.declared.BadKind.TheVariants as kinds
use Rattle.hunk_core.specs.PlainHunk.{PlainHunk}
use Rattle.std.specs.Prelude.{is_some}
use Rattle.hunk_core.specs.LineTests.{is_backslash, after_backslash}
use Rattle.hunk_core.specs.Reading.{Fault, Ahead, ahead}
use Rattle.line_list.proofs.Choices.{chosen}
use Rattle.hunk_core.specs.FirstFault.{AgreeTo}
use Rattle.hunk_core.proofs.FaultSteps.{failed, bind_err, add_err, short_or}
use Rattle.hunk_core.proofs.Agreeing.{agree_head, agree_front}
use Rattle.context_form.specs.Openings.{is_stars, begins_old, begins_hunk}
use Rattle.context_form.specs.Hunks.{PlainPart, whole, parts_at, hunk_at, hunks_at, reading}
use Rattle.context_form.specs.Grammar.{SpellsHunk, IsPiece}
use Rattle.context_form.specs.FirstFault.{lines_behind, reach, behind_first, decided_at, decided_by}
use Rattle.context_form.proofs.SteadyParts.{steady-parts}
use Rattle.hunk_core.specs.Following.{hunks_by}
use Rattle.hunk_core.proofs.Following.{more_hunks, hunks_step}
use Rattle.hunk_core.proofs.Grammars.{hunk-shrinks, some-lines}
use Rattle.context_form.proofs.Pieces.{grammar, reading_again}
use Rattle.context_form.proofs.HunkFaults.{whole-over, FailsBehind, FailsWhole, hunk-fails, ReadsWhole, hunk-reads, hunk-bad, hunk-over, hunk-good, hunk-loud}

-- ---- which line decides

decided-parts : (most least : ℕ) (p : Ahead) (e : Fault) → parts_at least (behind_first p.number p.rest) ≡ Err e → decided_at (suc most) least p ≡ reach e
unfolding decided_at
decided-parts most least p e h = rw h refl

decided-whole : (most least : ℕ) (p : Ahead) (x : (PlainPart × PlainPart) × Ahead) (e : Fault) → parts_at least (behind_first p.number p.rest) ≡ Ok x → whole x.0.0 x.0.1 ≡ Err e → decided_at (suc most) least p ≡ x.1.number
unfolding decided_at
decided-whole most least p x e h k = rw (h, k) refl

decided-later : (most least : ℕ) (p : Ahead) (x : (PlainPart × PlainPart) × Ahead) (h : PlainHunk) → parts_at least (behind_first p.number p.rest) ≡ Ok x → whole x.0.0 x.0.1 ≡ Ok h → is_some (after_backslash x.1.rest) ≡ false → decided_at (suc most) least p ≡ decided_at most h.old_start x.1
unfolding decided_at
decided-later most least p x h e k s = rw (e, k, s) refl

decided-loud : (most least : ℕ) (p : Ahead) (x : (PlainPart × PlainPart) × Ahead) (h : PlainHunk) → parts_at least (behind_first p.number p.rest) ≡ Ok x → whole x.0.0 x.0.1 ≡ Ok h → is_some (after_backslash x.1.rest) ≡ true → decided_at (suc most) least p ≡ x.1.number
unfolding decided_at
decided-loud most least p x h e k s = rw (e, k, s) refl

-- ---- hunks that follow each other

old_too : (last number : ℕ) (rest others : List (List ℕ)) → AgreeTo last number rest others → number ≤ last → begins_old rest ≡ true → begins_old others ≡ true
old_too last number [] others agree le e = absurd cc
old_too last number (line ∷ rest) others agree le e = let a = agree_head last number line rest others agree le in rw a.1 e

begins_again : (line : List ℕ) (rest : List (List ℕ)) → is_stars line ≡ true → begins_old rest ≡ true → begins_hunk (line ∷ rest) ≡ true
begins_again line rest c m = rw (c, m) refl

-- other lines that agree begin a hunk too, and agree behind the first
pub record Opens (last number : ℕ) (rest others : List (List ℕ)) : Type 0 where
  pub begins : begins_hunk others ≡ true
  pub number_is : (behind_first number others).number ≡ number + 1
  pub same : (behind_first number rest).number ≡ number + 1
  pub agree : AgreeTo last (number + 1) (behind_first number rest).rest (behind_first number others).rest
  pub count : (number + 1) + length (behind_first number rest).rest ≡ number + length rest

opens_too : (last number : ℕ) (rest others : List (List ℕ)) → AgreeTo last number rest others → number + 1 ≤ last → begins_hunk rest ≡ true → Opens last number rest others
opens_too last number [] others agree le e = absurd cc
opens_too last number (line ∷ rest) others agree le e =
    let a = agree_head last number line rest others agree (omega (arith, le)) in
    let b = and_parts (is_stars line) (begins_old rest) e in
    subst (Opens last number (line ∷ rest)) (sym a.1) (record { begins = begins_again line a.0 b.0 (old_too last (number + 1) rest a.0 a.2 le b.1); number_is = refl; same = refl; agree = a.2; count = omega arith })

behind-number : (number : ℕ) (rest : List (List ℕ)) → begins_hunk rest ≡ true → ((behind_first number rest).number ≡ number + 1) × ((number + 1) + length (behind_first number rest).rest ≡ number + length rest)
behind-number number [] e = absurd cc
behind-number number (line ∷ rest) e = (refl, omega arith)

-- what a fault of hunks is
pub record FaultIs (most least : ℕ) (p : Ahead) (e : Fault) : Type 0 where
  pub later : p.number + 1 ≤ decided_at most least p
  pub short : e.kind ≡ kinds.ShortEnd → e.line ≡ p.number + length p.rest
  pub own : e.kind ≢ kinds.Count → e.kind ≢ kinds.NumberTooLarge → e.kind ≢ kinds.SidesDiffer → decided_at most least p ≡ e.line

-- a fault of another kind is decided by its own line
own-line : (e : Fault) → e.kind ≢ kinds.Count → e.kind ≢ kinds.NumberTooLarge → reach e ≡ e.line
own-line e a b = let none : lines_behind e.kind ≡ 0 = by e.kind a b in omega (arith, none)
  where
    by : (k : BadKind) → k ≢ kinds.Count → k ≢ kinds.NumberTooLarge → lines_behind k ≡ 0
    by kinds.Range c d = refl
    by kinds.Mark c d = refl
    by kinds.Count c d = absurd (c refl)
    by kinds.ShortEnd c d = refl
    by kinds.NumberTooLarge c d = absurd (d refl)
    by kinds.SidesDiffer c d = refl
    by kinds.MisplacedBackslash c d = refl
    by kinds.EdCommand c d = refl
    by kinds.EdOrder c d = refl
    by kinds.EdNoDot c d = refl
    by kinds.Binary c d = refl
    by kinds.HunkOrder c d = refl

fault-parts : (most least : ℕ) (p : Ahead) (e : Fault) → begins_hunk p.rest ≡ true → parts_at least (behind_first p.number p.rest) ≡ Err e → FaultIs (suc most) least p e
fault-parts most least p e begins h =
    let d = decided-parts most least p e h in
    let n = behind-number p.number p.rest begins in
    let l = (steady-parts least).low (behind_first p.number p.rest) e h in
    record { later = omega (arith, d, n.0, l.0); short = λ k. omega (arith, l.1 k, n.0, n.1); own = λ a b c. d ∙ own-line e a b }

fault-whole : (most least : ℕ) (p : Ahead) (e : Fault) → begins_hunk p.rest ≡ true → FailsWhole least p e → FaultIs (suc most) least p e
fault-whole most least p e begins f =
    let d = decided-whole most least p f.parts e f.read f.bad in
    let n = behind-number p.number p.rest begins in
    let u = (steady-parts least).up (behind_first p.number p.rest) f.parts f.read in
    let over = whole-over f.parts.0.0 f.parts.0.1 e f.bad in
    record { later = omega (arith, d, n.0, u.0); short = λ k. absurd (over.long k); own = λ a b c. absurd (over.known a b c) }

fault-behind : (most least : ℕ) (p : Ahead) (e : Fault) → begins_hunk p.rest ≡ true → FailsBehind least p e → FaultIs (suc most) least p e
fault-behind most least p e begins f =
    let d = decided-loud most least p f.parts f.hunk f.read f.good f.loud in
    let n = behind-number p.number p.rest begins in
    let u = (steady-parts least).up (behind_first p.number p.rest) f.parts f.read in
    record { later = omega (arith, d, n.0, u.0); short = λ k. absurd (let bad : kinds.MisplacedBackslash ≡ kinds.ShortEnd = ap (λ (x : Fault). x.kind) f.is ∙ k in cc); own = λ a b c. d ∙ ap (λ (x : Fault). x.line) f.is }

fault-later : (most least : ℕ) (p : Ahead) (x : PlainHunk × Ahead) (e : Fault) → begins_hunk p.rest ≡ true → ReadsWhole least p x → FaultIs most x.0.old_start x.1 e → FaultIs (suc most) least p e
fault-later most least p x e begins r f =
    let d = decided-later most least p r.parts x.0 r.read r.good r.silent ∙ ap (decided_at most x.0.old_start) r.same in
    let n = behind-number p.number p.rest begins in
    let u = (steady-parts least).up (behind_first p.number p.rest) r.parts r.read in
    let here : r.parts.1.number ≡ x.1.number = ap (λ (q : Ahead). q.number) r.same in
    let there : length r.parts.1.rest ≡ length x.1.rest = ap (λ (q : Ahead). length q.rest) r.same in
    record { later = omega (arith, d, n.0, u.0, here, f.later); short = λ k. omega (arith, f.short k, n.0, n.1, u.1, here, there); own = λ a b c. d ∙ f.own a b c }

pub hunks-fault : (most least : ℕ) (p : Ahead) (e : Fault) → hunks_at most least p ≡ Err e → FaultIs most least p e
unfolding hunks_by
hunks-fault zero least p e h = absurd cc
hunks-fault (suc most) least p e h =
    elim (chosen (begins_hunk p.rest) _ _ (Err e) h) [
      | inl some ↦ elim (bind_err (hunk_at least p) (more_hunks begins_hunk hunk_at most) e some.1) [
        | inl bad ↦ elim (hunk-fails least p e some.0 bad) [
          | inl parts ↦ fault-parts most least p e some.0 parts
          | inr others ↦ elim others [
            | inl over ↦ fault-whole most least p e some.0 over
            | inr loud ↦ fault-behind most least p e some.0 loud
          ]
        ]
        | inr good ↦ fault-later most least p good.0 e some.0 (hunk-reads least p good.0 good.1) (hunks-fault most good.0.0.old_start good.0.1 e (add_err good.0.0 (hunks_at most good.0.0.old_start good.0.1) e good.2))
      ]
      | inr none ↦ absurd (let bad : Ok ([], p) ≡ failed {A = List PlainHunk × Ahead} e = none.1 in cc)
    ]

hunks_err : (most least : ℕ) (p : Ahead) (e : Fault) → begins_hunk p.rest ≡ true → hunk_at least p ≡ Err e → hunks_at (suc most) least p ≡ Err e
hunks_err most least p e begins h = hunks_step begins_hunk hunk_at most least p begins ∙ (rw h refl)

hunks_on : (most least : ℕ) (p : Ahead) (x : PlainHunk × Ahead) (e : Fault) → begins_hunk p.rest ≡ true → hunk_at least p ≡ Ok x → hunks_at most x.0.old_start x.1 ≡ Err e → hunks_at (suc most) least p ≡ Err e
hunks_on most least p x e begins h more = hunks_step begins_hunk hunk_at most least p begins ∙ (rw (h, more) refl)

-- the line behind a hunk is a backslash line over other lines too
loud_too : (last number : ℕ) (rest others : List (List ℕ)) (v : Bool) → AgreeTo last number rest others → number ≤ last → is_some (after_backslash rest) ≡ v → is_some (after_backslash others) ≡ v
loud_too last number [] others v agree le e = absurd (omega (arith, le, agree))
loud_too last number (line ∷ rest) others v agree le e = let a = agree_head last number line rest others agree le in rw a.1 (same (is_backslash line) e)
  where
    same : (b : Bool) → is_some (cond b (Some rest) None) ≡ v → is_some (cond b (Some (agree_head last number line rest others agree le).0) None) ≡ v
    same true h = h
    same false h = h

-- ahead with another number for the same
renumber : (q : Ahead) (n : ℕ) → q.number ≡ n → q ≡ ahead n q.rest
renumber q n e = ap (λ k. ahead k q.rest) e

pub hunks_stay : (most most2 least : ℕ) (p : Ahead) (others : List (List ℕ)) (e : Fault) → hunks_at most least p ≡ Err e → e.kind ≢ kinds.ShortEnd → AgreeTo (decided_at most least p) p.number p.rest others → length others ≤ most2 → hunks_at most2 least (ahead p.number others) ≡ Err e
unfolding hunks_by
hunks_stay zero most2 least p others e h long agree enough = absurd cc
hunks_stay (suc most) most2 least p others e h long agree enough =
    let f = hunks-fault (suc most) least p e h in
    let last = decided_at (suc most) least p in
    elim (chosen (begins_hunk p.rest) _ _ (Err e) h) [
      | inl some ↦ (
          let o = opens_too (decided_at (suc most) least p) p.number p.rest others agree f.later some.0 in
          let q = behind_first p.number p.rest in
          let q2 : behind_first p.number others ≡ ahead (behind_first p.number p.rest).number (behind_first p.number others).rest = renumber (behind_first p.number others) (behind_first p.number p.rest).number (o.number_is ∙ sym o.same) in
          let agree2 : AgreeTo (decided_at (suc most) least p) (behind_first p.number p.rest).number (behind_first p.number p.rest).rest (behind_first p.number others).rest = subst (λ n. AgreeTo (decided_at (suc most) least p) n (behind_first p.number p.rest).rest (behind_first p.number others).rest) (sym o.same) o.agree in
          let k : most2 ≡ suc (most2 - 1) = omega (arith, enough, some-lines begins_hunk hunk_at SpellsHunk grammar others o.begins) in
          subst (λ n. hunks_at n least (ahead p.number others) ≡ Err e) (sym k) (elim (bind_err (hunk_at least p) (more_hunks begins_hunk hunk_at most) e some.1) [
            | inl bad ↦ hunks_err (most2 - 1) least (ahead p.number others) e o.begins (elim (hunk-fails least p e some.0 bad) [
              | inl parts ↦ hunk-bad least (ahead p.number others) e o.begins (ap (parts_at least) q2 ∙ (steady-parts least).stays q (behind_first p.number others).rest e parts long (subst (λ n. AgreeTo n (behind_first p.number p.rest).number (behind_first p.number p.rest).rest (behind_first p.number others).rest) (decided-parts most least p e parts) agree2))
              | inr either ↦ elim either [
                | inl over ↦ (
                    let go = (steady-parts least).goes last q (behind_first p.number others).rest over.parts over.read (omega (arith, decided-whole most least p over.parts e over.read over.bad)) agree2 in
                    hunk-over least (ahead p.number others) (over.parts.0, ahead over.parts.1.number go.rest) e o.begins (ap (parts_at least) q2 ∙ go.read) over.bad)
                | inr loud ↦ (
                    let d = decided-loud most least p loud.parts loud.hunk loud.read loud.good loud.loud in
                    let go = (steady-parts least).goes last q (behind_first p.number others).rest loud.parts loud.read (omega (arith, d)) agree2 in
                    let still = loud_too last loud.parts.1.number loud.parts.1.rest go.rest true go.agree (omega (arith, d)) loud.loud in
                    hunk-loud least (ahead p.number others) (loud.parts.0, ahead loud.parts.1.number go.rest) loud.hunk o.begins (ap (parts_at least) q2 ∙ go.read) loud.good still ∙ ap (λ (x : Fault). Err x) loud.is)
              ]
            ])
            | inr good ↦ (
                let x = good.0 in
                let r = hunk-reads least p x good.1 in
                let rest : hunks_at most x.0.old_start x.1 ≡ Err e = add_err x.0 (hunks_at most x.0.old_start x.1) e good.2 in
                let d : decided_at (suc most) least p ≡ decided_at most x.0.old_start x.1 = decided-later most least p r.parts x.0 r.read r.good r.silent ∙ ap (decided_at most x.0.old_start) r.same in
                let there = hunks-fault most x.0.old_start x.1 e rest in
                let here : r.parts.1.number ≡ x.1.number = ap (λ (y : Ahead). y.number) r.same in
                let go = (steady-parts least).goes last q (behind_first p.number others).rest r.parts r.read (omega (arith, d, there.later, here)) agree2 in
                let read2 : hunk_at least (ahead p.number others) ≡ Ok (x.0, ahead x.1.number go.rest) = hunk-good least (ahead p.number others) (r.parts.0, ahead r.parts.1.number go.rest) x.0 o.begins (ap (parts_at least) q2 ∙ go.read) r.good (loud_too last r.parts.1.number r.parts.1.rest go.rest false go.agree (omega (arith, d, there.later, here)) r.silent) ∙ ap (λ n. Ok (x.0, ahead n go.rest)) here in
                let agree3 : AgreeTo (decided_at most x.0.old_start x.1) x.1.number x.1.rest go.rest = subst (λ n. AgreeTo n x.1.number x.1.rest go.rest) d (subst (λ (y : Ahead). AgreeTo (decided_at (suc most) least p) y.number y.rest go.rest) r.same go.agree) in
                let fewer : length go.rest ≤ most2 - 1 = omega (arith, enough, hunk-shrinks begins_hunk hunk_at SpellsHunk grammar least (ahead p.number others) (x.0, ahead x.1.number go.rest) o.begins read2) in
                hunks_on (most2 - 1) least (ahead p.number others) (x.0, ahead x.1.number go.rest) e o.begins read2 (hunks_stay most (most2 - 1) x.0.old_start x.1 go.rest e rest long agree3 fewer))
          ]))
      | inr none ↦ absurd (let bad : Ok ([], p) ≡ failed {A = List PlainHunk × Ahead} e = none.1 in cc)
    ]

-- ---- the first fault

pub fault-stays : (number : ℕ) (lines others : List (List ℕ)) (e : Fault) → reading number lines ≡ Err e → e.kind ≢ kinds.ShortEnd → AgreeTo (decided_by number lines) number lines others → reading number others ≡ Err e
fault-stays number lines others e h long agree = hunks_stay (length lines) (length others) 0 (ahead number lines) others e h long agree (omega arith)

pub fault-short : (number : ℕ) (lines : List (List ℕ)) (e : Fault) → reading number lines ≡ Err e → e.kind ≡ kinds.ShortEnd → e.line ≡ number + length lines
fault-short number lines e h short = (hunks-fault (length lines) 0 (ahead number lines) e h).short short

pub fault-own : (number : ℕ) (lines : List (List ℕ)) (e : Fault) → reading number lines ≡ Err e → e.kind ≢ kinds.Count → e.kind ≢ kinds.NumberTooLarge → e.kind ≢ kinds.SidesDiffer → decided_by number lines ≡ e.line
fault-own number lines e h a b c = (hunks-fault (length lines) 0 (ahead number lines) e h).own a b c

pub fault-unspelled : (number : ℕ) (lines others : List (List ℕ)) (e : Fault) (hs : List PlainHunk) (next : ℕ) (rest : List (List ℕ)) → reading number lines ≡ Err e → e.kind ≢ kinds.ShortEnd → AgreeTo (decided_by number lines) number lines others → IsPiece number others hs next rest → ⊥
fault-unspelled number lines others e hs next rest h long agree piece =
    let fails = fault-stays number lines others e h long agree in
    let reads = reading_again number others hs next rest piece in
    cc

differs : (k other : BadKind) → k ≡ kinds.ShortEnd → kinds.ShortEnd ≢ other → k ≢ other
differs k other is ne h = ne (sym is ∙ h)

pub fault-late : (number : ℕ) (front behind others : List (List ℕ)) (e : Fault) (hs : List PlainHunk) (next : ℕ) (rest : List (List ℕ)) → IsPiece number (front ++ others) hs next rest → reading number (front ++ behind) ≡ Err e → number + length front ≤ decided_by number (front ++ behind)
fault-late number front behind others e hs next rest piece h =
    elim (cases_lt (decided_by number (front ++ behind)) (number + length front)) [
      | inl early ↦ elim (short_or e.kind) [
        | inl short ↦ (
            let own = fault-own number (front ++ behind) e h (differs e.kind kinds.Count short (λ z. cc)) (differs e.kind kinds.NumberTooLarge short (λ z. cc)) (differs e.kind kinds.SidesDiffer short (λ z. cc)) in
            omega (arith, own, fault-short number (front ++ behind) e h short, length-append front behind))
        | inr long ↦ absurd (fault-unspelled number (front ++ behind) (front ++ others) e hs next rest h long (agree_front (decided_by number (front ++ behind)) number front behind others early) piece)
      ]
      | inr late ↦ late
    ]
