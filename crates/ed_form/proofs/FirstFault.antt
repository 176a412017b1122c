-- A fault stays whatever lines come after its own, but for a text without its end.
use Rattle.std.proofs.Common.{◌≡◌, ◌≢◌, ◌⊎◌, inl, inr, ℕ, zero, suc, ◌+◌, ◌-◌, ◌≤◌, ◌<◌, ◌^◌, Bool, true, false, cond, List, [], ◌∷◌, ◌++◌, length, Result, Ok, Err, refl, sym, ap, subst, ◌∙◌, append_assoc, arith}
use Rattle.std.proofs.lemmas.Bool.{cases_lt}
use Rattle.std.proofs.lemmas.List.{length-append}
use Rattle.hunk_core.specs.declared.BadKind.TheVariants as kinds
use Rattle.hunk_core.specs.Reading.{◌>>=◌, Fault, fault, Ahead, ahead}
use Rattle.line_list.proofs.Choices.{chosen}
use Rattle.hunk_core.specs.FirstFault.{AgreeTo}
use Rattle.hunk_core.proofs.FaultSteps.{failed, err_is, bind_err}
use Rattle.hunk_core.proofs.Agreeing.{agree_front}
use Rattle.ed_form.specs.Commands.{begins_script}
use Rattle.ed_form.specs.PlainEdit.{PlainEdit, lowest}
use Rattle.ed_form.specs.Texts.{is_dot}
use Rattle.ed_form.specs.Scripts.{edit_at, begins_substitution, no_edits, edits_at, reading}
use Rattle.ed_form.specs.Grammar.{HaveNoDot, SpellsEdit, IsPiece, StandsBehind}
use Rattle.ed_form.proofs.Counts.{edit-counts}
use Rattle.ed_form.proofs.EditLoops.{edits_step, some_lines, no_more}
use Rattle.ed_form.proofs.Pieces.{TakesEdit, edit_takes, reading_again}
use Rattle.ed_form.proofs.OneEdit.{guard_err, agree_head, edit-low, edit-stays, edit-goes, edit-more, edit-endless, edit-ended}

-- ---- edits that follow each other

begins_too : (last number : ℕ) (rest others : List (List ℕ)) → AgreeTo last number rest others → number ≤ last → begins_script rest ≡ true → begins_script others ≡ true
begins_too last number [] others agree le e = absurd cc
begins_too last number (line ∷ rest) others agree le e = let a = agree_head last number line rest others agree le in rw a.1 e

begins_more : (rest others : List (List ℕ)) → begins_script rest ≡ true → begins_script (rest ++ others) ≡ true
begins_more [] others e = absurd cc
begins_more (line ∷ rest) others e = e

abbrev more_edits : ℕ → PlainEdit × Ahead → Result (List PlainEdit × Ahead) Fault
more_edits most first = edits_at most (lowest first.0) first.1 >>= λ others. Ok (first.0 ∷ others.0, others.1)

abbrev put_first : PlainEdit → List PlainEdit × Ahead → Result (List PlainEdit × Ahead) Fault
put_first x others = Ok (x ∷ others.0, others.1)

add_err : (x : PlainEdit) (r : Result (List PlainEdit × Ahead) Fault) (e : Fault) → (r >>= put_first x) ≡ Err e → r ≡ Err e
add_err x (Ok y) e f = absurd (let bad : put_first x y ≡ failed {A = List PlainEdit × Ahead} e = f in cc)
add_err x (Err d) e f = ap (λ y. Err y) (err_is {A = List PlainEdit × Ahead} d e f)

edits_err : (most below : ℕ) (p : Ahead) (e : Fault) → begins_script p.rest ≡ true → edit_at below p ≡ Err e → edits_at (suc most) below p ≡ Err e
edits_err most below p e begins h = edits_step most below p begins ∙ rw h refl

edits_on : (most below : ℕ) (p : Ahead) (x : PlainEdit × Ahead) (e : Fault) → begins_script p.rest ≡ true → edit_at below p ≡ Ok x → edits_at most (lowest x.0) x.1 ≡ Err e → edits_at (suc most) below p ≡ Err e
edits_on most below p x e begins h more = edits_step most below p begins ∙ rw (h, more) refl

none_err : (p : Ahead) (e : Fault) → no_edits p ≡ Err e → (begins_substitution p.rest ≡ true) × (fault p.number kinds.EdCommand ≡ e)
none_err p e h = guard_err (begins_substitution p.rest) (fault p.number kinds.EdCommand) e ([], p) h

-- how edits fail: the first one, a later one, or what stands behind them
abbrev FirstFails : ℕ → Ahead → Fault → Type 0
FirstFails below p e = (begins_script p.rest ≡ true) × (edit_at below p ≡ Err e)

abbrev LaterFails : ℕ → ℕ → Ahead → Fault → Type 0
LaterFails most below p e = (begins_script p.rest ≡ true) × (x : PlainEdit × Ahead) × (edit_at below p ≡ Ok x) × (edits_at most (lowest x.0) x.1 ≡ Err e)

abbrev EndFails : Ahead → Fault → Type 0
EndFails p e = (begins_script p.rest ≡ false) × (begins_substitution p.rest ≡ true) × (fault p.number kinds.EdCommand ≡ e)

edits-fail : (most below : ℕ) (p : Ahead) (e : Fault) → edits_at (suc most) below p ≡ Err e → (FirstFails below p e ⊎ LaterFails most below p e) ⊎ EndFails p e
unfolding edits_at
edits-fail most below p e h =
    elim (chosen (begins_script p.rest) _ _ (Err e) h) [
      | inl some ↦ elim (bind_err (edit_at below p) (more_edits most) e some.1) [
        | inl bad ↦ inl (inl (some.0, bad))
        | inr good ↦ inl (inr (some.0, good.0, good.1, add_err good.0.0 (edits_at most (lowest good.0.0) good.0.1) e good.2))
      ]
      | inr none ↦ (let n = none_err p e none.1 in inr (none.0, n.0, n.1))
    ]

last-fail : (below : ℕ) (p : Ahead) (e : Fault) → edits_at zero below p ≡ Err e → (begins_substitution p.rest ≡ true) × (fault p.number kinds.EdCommand ≡ e)
unfolding edits_at
last-fail below p e h = none_err p e h

edits_low : (most below : ℕ) (p : Ahead) (e : Fault) → edits_at most below p ≡ Err e → p.number ≤ e.line
edits_low zero below p e h = omega (arith, ap (λ (x : Fault). x.line) (last-fail below p e h).1)
edits_low (suc most) below p e h =
    elim (edits-fail most below p e h) [
      | inl some ↦ elim some [
        | inl first ↦ omega (arith, edit-low below p.number p.rest e first.1)
        | inr later ↦ (
            let counts = edit-counts below p.number p.rest later.1 later.2 in
            omega (arith, counts.low, edits_low most (lowest later.1.0) later.1.1 e later.3))
      ]
      | inr none ↦ omega (arith, ap (λ (x : Fault). x.line) none.2)
    ]

some_rest : (most below : ℕ) (p : Ahead) (e : Fault) → edits_at most below p ≡ Err e → 0 < length p.rest
some_rest most below p e h = by p.rest refl
  where
    by : (ls : List (List ℕ)) → p.rest ≡ ls → 0 < length p.rest
    by [] is = absurd (let bad : Ok ([], p) ≡ failed {A = List PlainEdit × Ahead} e = sym (no_more most below p (ap begins_script is) ∙ ap (λ (b : Bool). cond b (Err (fault p.number kinds.EdCommand)) (Ok ([], p))) (ap begins_substitution is)) ∙ h in cc)
    by (line ∷ ls) is = omega (arith, ap length is)

-- what stops edits over these lines stops them over others that agree
end_stays : (most below : ℕ) (p : Ahead) (others : List (List ℕ)) (e : Fault) → begins_script p.rest ≡ false → begins_substitution p.rest ≡ true → fault p.number kinds.EdCommand ≡ e → AgreeTo e.line p.number p.rest others → edits_at most below (ahead p.number others) ≡ Err e
end_stays most below p others e none clean is agree = by p.rest none clean agree
  where
    by : (ls : List (List ℕ)) → begins_script ls ≡ false → begins_substitution ls ≡ true → AgreeTo e.line p.number ls others → edits_at most below (ahead p.number others) ≡ Err e
    by [] none clean agree = absurd cc
    by (line ∷ ls) none clean agree =
        let head = agree_head e.line p.number line ls others agree (omega (arith, ap (λ (x : Fault). x.line) is)) in
        let over : begins_script others ≡ false = ap begins_script head.1 ∙ none in
        let stops : begins_substitution others ≡ true = ap begins_substitution head.1 ∙ clean in
        no_more most below (ahead p.number others) over ∙ rw stops (ap failed is)

pub edits_stay : (most most2 below : ℕ) (p : Ahead) (others : List (List ℕ)) (e : Fault) → length p.rest ≤ most → length others ≤ most2 → edits_at most below p ≡ Err e → e.kind ≢ kinds.EdNoDot → AgreeTo e.line p.number p.rest others → edits_at most2 below (ahead p.number others) ≡ Err e
edits_stay zero most2 below p others e fuel enough h ne agree = absurd (omega (arith, fuel, some_rest zero below p e h))
edits_stay (suc most) most2 below p others e fuel enough h ne agree =
    let low = edits_low (suc most) below p e h in
    elim (edits-fail most below p e h) [
      | inl some ↦ elim some [
        | inl first ↦ (
            let begins : begins_script others ≡ true = begins_too e.line p.number p.rest others agree low first.0 in
            let more = some_lines others begins in
            let k : most2 ≡ suc (most2 - 1) = omega (arith, enough, more) in
            ap (λ m. edits_at m below (ahead p.number others)) k ∙ edits_err (most2 - 1) below (ahead p.number others) e begins (edit-stays below p.number p.rest others e first.1 ne agree))
        | inr later ↦ (
            let begins : begins_script others ≡ true = begins_too e.line p.number p.rest others agree low later.0 in
            let more = some_lines others begins in
            let k : most2 ≡ suc (most2 - 1) = omega (arith, enough, more) in
            let x = later.1 in
            let here = edits_low most (lowest x.0) x.1 e later.3 in
            let go = edit-goes below p.number p.rest x e.line others later.2 here agree in
            let old = edit-counts below p.number p.rest x later.2 in
            let counts = edit-counts below p.number others (x.0, ahead x.1.number go.more) go.read in
            let rest = edits_stay most (most2 - 1) (lowest x.0) x.1 go.more e (omega (arith, fuel, old.low, old.same)) (omega (arith, enough, counts.low, counts.same)) later.3 ne go.agree in
            ap (λ m. edits_at m below (ahead p.number others)) k ∙ edits_on (most2 - 1) below (ahead p.number others) (x.0, ahead x.1.number go.more) e begins go.read rest)
      ]
      | inr none ↦ end_stays most2 below p others e none.0 none.1 none.2 agree
    ]

-- a text without its end stays so
pub edits_endless : (most most2 below : ℕ) (p : Ahead) (others : List (List ℕ)) (e : Fault) → length p.rest ≤ most → length (p.rest ++ others) ≤ most2 → edits_at most below p ≡ Err e → e.kind ≡ kinds.EdNoDot → HaveNoDot others → edits_at most2 below (ahead p.number (p.rest ++ others)) ≡ Err e
edits_endless zero most2 below p others e fuel enough h is clear = absurd (omega (arith, fuel, some_rest zero below p e h))
edits_endless (suc most) most2 below p others e fuel enough h is clear =
    elim (edits-fail most below p e h) [
      | inl some ↦ elim some [
        | inl first ↦ (
            let begins : begins_script (p.rest ++ others) ≡ true = begins_more p.rest others first.0 in
            let k : most2 ≡ suc (most2 - 1) = omega (arith, enough, some_lines (p.rest ++ others) begins) in
            ap (λ m. edits_at m below (ahead p.number (p.rest ++ others))) k ∙ edits_err (most2 - 1) below (ahead p.number (p.rest ++ others)) e begins (edit-endless below p.number p.rest others e first.1 is clear))
        | inr later ↦ (
            let begins : begins_script (p.rest ++ others) ≡ true = begins_more p.rest others later.0 in
            let k : most2 ≡ suc (most2 - 1) = omega (arith, enough, some_lines (p.rest ++ others) begins) in
            let x = later.1 in
            let go = edit-more below p.number p.rest x others later.2 (some_rest most (lowest x.0) x.1 e later.3) in
            let old = edit-counts below p.number p.rest x later.2 in
            let counts = edit-counts below p.number (p.rest ++ others) (x.0, ahead x.1.number (x.1.rest ++ others)) go in
            let rest = edits_endless most (most2 - 1) (lowest x.0) x.1 others e (omega (arith, fuel, old.low, old.same)) (omega (arith, enough, counts.low, counts.same)) later.3 is clear in
            ap (λ m. edits_at m below (ahead p.number (p.rest ++ others))) k ∙ edits_on (most2 - 1) below (ahead p.number (p.rest ++ others)) (x.0, ahead x.1.number (x.1.rest ++ others)) e begins go rest)
      ]
      | inr none ↦ absurd (let bad : kinds.EdCommand ≡ kinds.EdNoDot = ap (λ (x : Fault). x.kind) none.2 ∙ is in cc)
    ]

-- edits whose first one is read fail as those behind it
edits_then : (most below : ℕ) (p : Ahead) (x : PlainEdit × Ahead) (e : Fault) → begins_script p.rest ≡ true → edit_at below p ≡ Ok x → edits_at (suc most) below p ≡ Err e → edits_at most (lowest x.0) x.1 ≡ Err e
edits_then most below p x e begins read h = add_err x.0 (edits_at most (lowest x.0) x.1) e (sym (edits_step most below p begins ∙ ap (λ (r : Result (PlainEdit × Ahead) Fault). r >>= more_edits most) read) ∙ h)

-- a text that gets its end has no such fault any more
pub edits_ended : (most most2 below : ℕ) (p : Ahead) (dot : List ℕ) (others : List (List ℕ)) (e : Fault) → length p.rest ≤ most → length (p.rest ++ dot ∷ others) ≤ most2 → edits_at most below p ≡ Err e → e.kind ≡ kinds.EdNoDot → is_dot dot ≡ true → begins_substitution others ≡ false → edits_at most2 below (ahead p.number (p.rest ++ dot ∷ others)) ≢ Err e
edits_ended zero most2 below p dot others e fuel enough h is dotted clean = absurd (omega (arith, fuel, some_rest zero below p e h))
edits_ended (suc most) most2 below p dot others e fuel enough h is dotted clean =
    elim (edits-fail most below p e h) [
      | inl some ↦ elim some [
        | inl first ↦ (λ bad.
            let begins : begins_script (p.rest ++ dot ∷ others) ≡ true = begins_more p.rest (dot ∷ others) first.0 in
            let k : most2 ≡ suc (most2 - 1) = omega (arith, enough, some_lines (p.rest ++ dot ∷ others) begins) in
            let read = edit-ended below p.number p.rest dot others e first.1 is dotted clean in
            let counts = edit-counts below p.number (p.rest ++ dot ∷ others) read.0 read.1 in
            let late = edits_low (most2 - 1) (lowest read.0.0) read.0.1 e (edits_then (most2 - 1) below (ahead p.number (p.rest ++ dot ∷ others)) read.0 e begins read.1 (ap (λ m. edits_at m below (ahead p.number (p.rest ++ dot ∷ others))) (sym k) ∙ bad)) in
            absurd (omega (arith, late, counts.low, edit-low below p.number p.rest e first.1)))
        | inr later ↦ (λ bad.
            let begins : begins_script (p.rest ++ dot ∷ others) ≡ true = begins_more p.rest (dot ∷ others) later.0 in
            let k : most2 ≡ suc (most2 - 1) = omega (arith, enough, some_lines (p.rest ++ dot ∷ others) begins) in
            let x = later.1 in
            let go = edit-more below p.number p.rest x (dot ∷ others) later.2 (some_rest most (lowest x.0) x.1 e later.3) in
            let old = edit-counts below p.number p.rest x later.2 in
            let counts = edit-counts below p.number (p.rest ++ dot ∷ others) (x.0, ahead x.1.number (x.1.rest ++ dot ∷ others)) go in
            edits_ended most (most2 - 1) (lowest x.0) x.1 dot others e (omega (arith, fuel, old.low, old.same)) (omega (arith, enough, counts.low, counts.same)) later.3 is dotted clean
            (edits_then (most2 - 1) below (ahead p.number (p.rest ++ dot ∷ others)) (x.0, ahead x.1.number (x.1.rest ++ dot ∷ others)) e begins go (ap (λ m. edits_at m below (ahead p.number (p.rest ++ dot ∷ others))) (sym k) ∙ bad)))
      ]
      | inr none ↦ absurd (let bad : kinds.EdCommand ≡ kinds.EdNoDot = ap (λ (x : Fault). x.kind) none.2 ∙ is in cc)
    ]

-- ---- what stands before a fault

behind-first : (below number : ℕ) (lines : List (List ℕ)) (at : ℕ) → 0 < length lines → at ≡ number → StandsBehind below number lines at
behind-first below number lines at some same = record { own = []; es = []; rest = lines; parts = refl; some = some; spelled = refl; counted = omega (arith, same) }

behind-more : (below : ℕ) (p : Ahead) (x : PlainEdit × Ahead) (at : ℕ) → TakesEdit below p x → StandsBehind (lowest x.0) x.1.number x.1.rest at → StandsBehind below p.number p.rest at
behind-more below p x at t b = record {
  own = t.own ++ b.own;
  es = x.0 ∷ b.es;
  rest = b.rest;
  parts = t.parts ∙ ap (λ (r : List (List ℕ)). t.own ++ r) b.parts ∙ sym (append_assoc t.own b.own b.rest);
  some = b.some;
  spelled = (t.own, b.own, refl, subst (SpellsEdit below t.own x.0) b.parts t.spelled, b.spelled);
  counted = omega (arith, t.number, b.counted, length-append t.own b.own);
}

edits_behind : (most below : ℕ) (p : Ahead) (e : Fault) → edits_at most below p ≡ Err e → StandsBehind below p.number p.rest e.line
edits_behind zero below p e h = behind-first below p.number p.rest e.line (some_rest zero below p e h) (sym (ap (λ (x : Fault). x.line) (last-fail below p e h).1))
edits_behind (suc most) below p e h =
    let some = some_rest (suc most) below p e h in
    elim (edits-fail most below p e h) [
      | inl failed_edit ↦ elim failed_edit [
        | inl first ↦ behind-first below p.number p.rest e.line some (edit-low below p.number p.rest e first.1)
        | inr later ↦ behind-more below p later.1 e.line (edit_takes below p.number p.rest later.1 later.2) (edits_behind most (lowest later.1.0) later.1.1 e later.3)
      ]
      | inr none ↦ behind-first below p.number p.rest e.line some (sym (ap (λ (x : Fault). x.line) none.2))
    ]

-- ---- the whole

pub fault-behind : (number : ℕ) (lines : List (List ℕ)) (e : Fault) → reading number lines ≡ Err e → StandsBehind (2 ^ 32) number lines e.line
fault-behind number lines e h = edits_behind (length lines) (2 ^ 32) (ahead number lines) e h

pub fault-stays : (number : ℕ) (lines others : List (List ℕ)) (e : Fault) → reading number lines ≡ Err e → e.kind ≢ kinds.EdNoDot → AgreeTo e.line number lines others → reading number others ≡ Err e
fault-stays number lines others e h ne agree = edits_stay (length lines) (length others) (2 ^ 32) (ahead number lines) others e (omega arith) (omega arith) h ne agree

pub fault-unspelled : (number : ℕ) (lines others : List (List ℕ)) (e : Fault) (es : List PlainEdit) (next : ℕ) (rest : List (List ℕ)) → reading number lines ≡ Err e → e.kind ≢ kinds.EdNoDot → AgreeTo e.line number lines others → IsPiece number others es next rest → ⊥
fault-unspelled number lines others e es next rest h ne agree piece =
    let fails = fault-stays number lines others e h ne agree in
    let reads = reading_again number others es next rest piece in
    cc

pub fault-late : (number : ℕ) (front behind others : List (List ℕ)) (e : Fault) (es : List PlainEdit) (next : ℕ) (rest : List (List ℕ)) → IsPiece number (front ++ others) es next rest → reading number (front ++ behind) ≡ Err e → e.kind ≢ kinds.EdNoDot → number + length front ≤ e.line
fault-late number front behind others e es next rest piece h ne =
    elim (cases_lt e.line (number + length front)) [
      | inl early ↦ absurd (fault-unspelled number (front ++ behind) (front ++ others) e es next rest h ne (agree_front e.line number front behind others early) piece)
      | inr late ↦ late
    ]

pub fault-endless : (number : ℕ) (lines others : List (List ℕ)) (e : Fault) → reading number lines ≡ Err e → e.kind ≡ kinds.EdNoDot → HaveNoDot others → reading number (lines ++ others) ≡ Err e
fault-endless number lines others e h is clear = edits_endless (length lines) (length (lines ++ others)) (2 ^ 32) (ahead number lines) others e (omega arith) (omega arith) h is clear

pub fault-ended : (number : ℕ) (lines others : List (List ℕ)) (dot : List ℕ) (e : Fault) → reading number lines ≡ Err e → e.kind ≡ kinds.EdNoDot → is_dot dot ≡ true → begins_substitution others ≡ false → reading number (lines ++ dot ∷ others) ≢ Err e
fault-ended number lines others dot e h is dotted clean = edits_ended (length lines) (length (lines ++ dot ∷ others)) (2 ^ 32) (ahead number lines) dot others e (omega arith) (omega arith) h is dotted clean
