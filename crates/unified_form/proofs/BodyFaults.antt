-- A fault in the lines of a body stays whatever lines come after its own.
use Rattle.std.proofs.Common.{◌≡◌, ◌≢◌, inl, inr, ℕ, zero, suc, ◌+◌, ◌≤◌, ◌<◌, Bool, true, false, cond, eqb, List, [], ◌∷◌, length, Option, None, Some, Result, Ok, Err, refl, sym, ap, subst, ◌∙◌, arith}
use Rattle.hunk_core.specs.declared.Mark.{Mark}
use Rattle.hunk_core.specs.declared.Mark.TheVariants.{Keep, Drop, Add}
use Rattle.hunk_core.specs.declared.BadKind.TheVariants as kinds
use Rattle.hunk_core.specs.PlainHunk.{Marked}
use Rattle.hunk_core.specs.LineTests.{is_backslash, after_backslash, unended}
use Rattle.hunk_core.specs.Reading.{◌>>=◌, Fault, fault, Ahead, ahead}
use Rattle.hunk_core.proofs.ReadSteps.{bind_ok, must_ok, ok_is}
use Rattle.line_list.proofs.Choices.{chosen}
use Rattle.hunk_core.specs.FirstFault.{AgreeTo}
use Rattle.hunk_core.proofs.FaultSteps.{failed, err_is, bind_err, guard_err, add}
use Rattle.hunk_core.proofs.Agreeing.{agree_head}
use Rattle.unified_form.specs.declared.body.Left.{Left}
use Rattle.unified_form.specs.Bodies.{is_last_line, marked_at, mark_at, must_be_marked, room_at, ended_by, first_line, line_at, body_at}

-- ---- steps that fail
-- ---- lines that agree
quiet_too : (b : Bool) (rest more : List (List ℕ)) → cond b (Some rest) None ≡ None → cond b (Some more) None ≡ None
quiet_too true rest more h = absurd cc
quiet_too false rest more h = refl

pub agree_quiet : (last number : ℕ) (rest others : List (List ℕ)) → AgreeTo last number rest others → number ≤ last → after_backslash rest ≡ None → after_backslash others ≡ None
agree_quiet last number [] others h le e = absurd (omega arith)
agree_quiet last number (line ∷ rest) others h le e =
    let a = agree_head last number line rest others h le in
    rw a.1 (quiet_too (is_backslash line) rest a.0 e)

loud_too : (b : Bool) (rest more kept : List (List ℕ)) → cond b (Some rest) None ≡ Some kept → (cond b (Some more) None ≡ Some more) × (kept ≡ rest)
loud_too true rest more kept h = (refl, cc)
loud_too false rest more kept h = absurd cc

-- a backslash line at the front of both
pub agree_loud : (last number : ℕ) (rest others kept : List (List ℕ)) → AgreeTo last number rest others → number ≤ last → after_backslash rest ≡ Some kept → (more : List (List ℕ)) × (after_backslash others ≡ Some more) × AgreeTo last (number + 1) kept more
agree_loud last number [] others kept h le e = absurd (omega arith)
agree_loud last number (line ∷ rest) others kept h le e =
    let a = agree_head last number line rest others h le in
    let b = loud_too (is_backslash line) rest a.0 kept e in
    (a.0, ap after_backslash a.1 ∙ b.0, subst (λ ls. AgreeTo last (number + 1) ls a.0) (sym b.1) a.2)

backslash_by : (b : Bool) (line : List ℕ) (rest more : List (List ℕ)) → cond b (Some rest) None ≡ Some more → length (line ∷ rest) ≡ suc (length more)
backslash_by true line rest more h = let same : rest ≡ more = cc in rw same refl
backslash_by false line rest more h = absurd cc

pub backslash_one : (rest more : List (List ℕ)) → after_backslash rest ≡ Some more → length rest ≡ suc (length more)
backslash_one [] more h = absurd cc
backslash_one (line ∷ rest) more h = backslash_by (is_backslash line) line rest more h

-- ---- a line

-- the numbers of faults, and of what stands behind
pub ended_low : (number : ℕ) (m : Marked) (room : Left) (rest : List (List ℕ)) (o : Option (List (List ℕ))) (e : Fault) → ended_by number m room rest o ≡ Err e → (e ≡ fault (number + 1) kinds.MisplacedBackslash) × (is_last_line m.mark room ≡ false) × (more : List (List ℕ)) × (o ≡ Some more)
ended_low number m room rest None e h = absurd cc
ended_low number m room rest (Some more) e h = by (is_last_line m.mark room) refl h
  where
    by : (b : Bool) → is_last_line m.mark room ≡ b → cond {A = Result (Marked × Left × Ahead) Fault} b (Ok (unended m, room, ahead (number + 2) more)) (Err (fault (number + 1) kinds.MisplacedBackslash)) ≡ Err e → (e ≡ fault (number + 1) kinds.MisplacedBackslash) × (is_last_line m.mark room ≡ false) × (kept : List (List ℕ)) × (Some more ≡ Some kept)
    by true is h = absurd cc
    by false is h = (cc, is, more, refl)

pub marked_low : (number : ℕ) (line : List ℕ) (e : Fault) → marked_at number line ≡ Err e → (e.line ≡ number) × (e.kind ≢ kinds.ShortEnd)
marked_low number line e h = by (mark_at line) h
  where
    kind : (b : Bool) → cond b kinds.MisplacedBackslash kinds.Mark ≢ kinds.ShortEnd
    kind true = λ h. cc
    kind false = λ h. cc

    by : (o : Option Marked) → must_be_marked number line o ≡ Err e → (e.line ≡ number) × (e.kind ≢ kinds.ShortEnd)
    by None h = let is : fault number (cond (is_backslash line) kinds.MisplacedBackslash kinds.Mark) ≡ e = cc in (sym (ap (λ (x : Fault). x.line) is), subst (λ (x : Fault). x.kind ≢ kinds.ShortEnd) is (kind (is_backslash line)))
    by (Some m) h = absurd cc

count_low : (number : ℕ) (e : Fault) → fault number kinds.Count ≡ e → (e.line ≡ number) × (e.kind ≢ kinds.ShortEnd)
count_low number e is = (sym (ap (λ (x : Fault). x.line) is), subst (λ (x : Fault). x.kind ≢ kinds.ShortEnd) is (λ h. cc))

pub room_low : (number : ℕ) (mark : Mark) (left : Left) (e : Fault) → room_at number mark left ≡ Err e → (e.line ≡ number) × (e.kind ≢ kinds.ShortEnd)
room_low number Keep left e h = count_low number e (guard_err _ (fault number kinds.Count) e _ h)
room_low number Drop left e h = count_low number e (guard_err _ (fault number kinds.Count) e _ h)
room_low number Add left e h = count_low number e (guard_err _ (fault number kinds.Count) e _ h)

abbrev pub rest_of_line : Left → ℕ → List (List ℕ) → Marked → Result (Marked × Left × Ahead) Fault
rest_of_line left number rest m = room_at number m.mark left >>= λ room. ended_by number m room rest (after_backslash rest)

-- where a line fails, and whether it is missing
pub line_low : (left : Left) (number : ℕ) (lines : List (List ℕ)) (e : Fault) → first_line left number lines ≡ Err e → (number ≤ e.line) × (e.kind ≡ kinds.ShortEnd → e.line ≡ number + length lines)
unfolding first_line
line_low left number [] e h = let is : fault number kinds.ShortEnd ≡ e = cc in (omega (arith, ap (λ (x : Fault). x.line) is), λ _. omega (arith, ap (λ (x : Fault). x.line) is))
line_low left number (line ∷ rest) e h =
    elim (bind_err (marked_at number line) (rest_of_line left number rest) e h) [
      | inl bad ↦ (let l = marked_low number line e bad in (omega (arith, l.0), λ short. absurd (l.1 short)))
      | inr good ↦ elim (bind_err (room_at number good.0.mark left) (λ room. ended_by number good.0 room rest (after_backslash rest)) e good.2) [
        | inl bad ↦ (let l = room_low number good.0.mark left e bad in (omega (arith, l.0), λ short. absurd (l.1 short)))
        | inr room ↦ (
            let l = ended_low number good.0 room.0 rest (after_backslash rest) e room.2 in
            (omega (arith, ap (λ (x : Fault). x.line) l.0), λ short. absurd (let k : kinds.MisplacedBackslash ≡ kinds.ShortEnd = sym (ap (λ (x : Fault). x.kind) l.0) ∙ short in cc)))
      ]
    ]

-- a line that fails, fails whatever comes after the fault
pub line_stays : (left : Left) (number : ℕ) (lines others : List (List ℕ)) (e : Fault) → first_line left number lines ≡ Err e → e.kind ≢ kinds.ShortEnd → AgreeTo e.line number lines others → first_line left number others ≡ Err e
unfolding first_line
line_stays left number [] others e h long agree = absurd (long (let is : fault number kinds.ShortEnd ≡ e = cc in sym (ap (λ (x : Fault). x.kind) is)))
line_stays left number (line ∷ rest) others e h long agree =
    let low = line_low left number (line ∷ rest) e h in
    let a = agree_head e.line number line rest others agree low.0 in
    rw a.1 (elim (bind_err (marked_at number line) (rest_of_line left number rest) e h) [
      | inl bad ↦ rw bad refl
      | inr good ↦ elim (bind_err (room_at number good.0.mark left) (λ room. ended_by number good.0 room rest (after_backslash rest)) e good.2) [
        | inl bad ↦ rw (good.1, bad) refl
        | inr room ↦ (
            let l = ended_low number good.0 room.0 rest (after_backslash rest) e room.2 in
            let b = agree_loud e.line (number + 1) rest a.0 l.2 a.2 (omega (arith, ap (λ (x : Fault). x.line) l.0)) l.3 in
            rw (good.1, room.1, b.1, l.1, l.0) refl)
      ]
    ])

-- a line that is read, is read whatever comes after the last line that agrees
pub record LineGoes (left : Left) (last number : ℕ) (others : List (List ℕ)) (x : Marked × Left × Ahead) : Type 0 where
  pub rest : List (List ℕ)
  pub read : first_line left number others ≡ Ok (x.0, x.1, ahead x.2.number rest)
  pub agree : AgreeTo last x.2.number x.2.rest rest

ended_last : (number : ℕ) (m : Marked) (room : Left) (others more : List (List ℕ)) → after_backslash others ≡ Some more → is_last_line m.mark room ≡ true → ended_by number m room others (after_backslash others) ≡ Ok (unended m, room, ahead (number + 2) more)
ended_last number m room others more e last = rw (e, last) refl

line_from : (left : Left) (number : ℕ) (line : List ℕ) (rest others : List (List ℕ)) (m : Marked) (room : Left) (y : Result (Marked × Left × Ahead) Fault) → marked_at number line ≡ Ok m → room_at number m.mark left ≡ Ok room → others ≡ line ∷ rest → ended_by number m room rest (after_backslash rest) ≡ y → first_line left number others ≡ y
unfolding first_line
line_from left number line rest others m room y marked fits is e = rw (is, marked, fits) e

ended_goes : (last number : ℕ) (m : Marked) (room : Left) (rest others : List (List ℕ)) (o : Option (List (List ℕ))) (x : Marked × Left × Ahead) → after_backslash rest ≡ o → ended_by number m room rest o ≡ Ok x → x.2.number ≤ last → AgreeTo last (number + 1) rest others
    → (kept : List (List ℕ)) × (ended_by number m room others (after_backslash others) ≡ Ok (x.0, x.1, ahead x.2.number kept)) × AgreeTo last x.2.number x.2.rest kept
ended_goes last number m room rest others None x is h le agree =
    let same : (m, room, ahead (number + 1) rest) ≡ x = ok_is _ _ h in
    let here : number + 1 ≤ last = omega (arith, ap (λ (y : Marked × Left × Ahead). y.2.number) same) in
    subst (λ (y : Marked × Left × Ahead). (kept : List (List ℕ)) × (ended_by number m room others (after_backslash others) ≡ Ok (y.0, y.1, ahead y.2.number kept)) × AgreeTo last y.2.number y.2.rest kept) same
    (others, rw (agree_quiet last (number + 1) rest others agree here is) refl, agree)
ended_goes last number m room rest others (Some more) x is h le agree =
    let g = must_ok (is_last_line m.mark room) _ (unended m, room, ahead (number + 2) more) x h in
    let here : number + 1 ≤ last = omega (arith, ap (λ (y : Marked × Left × Ahead). y.2.number) g.1) in
    let b = agree_loud last (number + 1) rest others more agree here is in
    let on : AgreeTo last (number + 2) more b.0 = subst (λ n. AgreeTo last n more b.0) (let two : number + 1 + 1 ≡ number + 2 = omega arith in two) b.2 in
    subst (λ (y : Marked × Left × Ahead). (kept : List (List ℕ)) × (ended_by number m room others (after_backslash others) ≡ Ok (y.0, y.1, ahead y.2.number kept)) × AgreeTo last y.2.number y.2.rest kept) g.1
    (b.0, ended_last number m room others b.0 b.1 g.0, on)

ended_up : (number : ℕ) (m : Marked) (room : Left) (rest : List (List ℕ)) (o : Option (List (List ℕ))) (x : Marked × Left × Ahead) → after_backslash rest ≡ o → ended_by number m room rest o ≡ Ok x → (number < x.2.number) × (x.2.number + length x.2.rest ≡ number + 1 + length rest)
ended_up number m room rest None x is h =
    let same : (m, room, ahead (number + 1) rest) ≡ x = ok_is _ _ h in
    subst (λ (y : Marked × Left × Ahead). (number < y.2.number) × (y.2.number + length y.2.rest ≡ number + 1 + length rest)) same (omega arith, refl)
ended_up number m room rest (Some more) x is h =
    let g = must_ok (is_last_line m.mark room) _ (unended m, room, ahead (number + 2) more) x h in
    let one : length rest ≡ suc (length more) = backslash_one rest more is in
    subst (λ (y : Marked × Left × Ahead). (number < y.2.number) × (y.2.number + length y.2.rest ≡ number + 1 + length rest)) g.1 (omega arith, omega (arith, one))

-- the number goes up with each line
pub line_up : (left : Left) (number : ℕ) (lines : List (List ℕ)) (x : Marked × Left × Ahead) → first_line left number lines ≡ Ok x → (number < x.2.number) × (x.2.number + length x.2.rest ≡ number + length lines)
unfolding first_line
line_up left number [] x h = absurd cc
line_up left number (line ∷ rest) x h =
    let a = bind_ok (marked_at number line) (rest_of_line left number rest) x h in
    let b = bind_ok (room_at number a.0.mark left) (λ room. ended_by number a.0 room rest (after_backslash rest)) x a.2 in
    let u = ended_up number a.0 b.0 rest (after_backslash rest) x refl b.2 in
    (u.0, omega (arith, u.1))

pub line_goes : (left : Left) (last number : ℕ) (lines others : List (List ℕ)) (x : Marked × Left × Ahead) → first_line left number lines ≡ Ok x → x.2.number ≤ last → AgreeTo last number lines others → LineGoes left last number others x
unfolding first_line
line_goes left last number [] others x h le agree = absurd cc
line_goes left last number (line ∷ rest) others x h le agree =
    let up = line_up left number (line ∷ rest) x h in
    let a = bind_ok (marked_at number line) (rest_of_line left number rest) x h in
    let b = bind_ok (room_at number a.0.mark left) (λ room. ended_by number a.0 room rest (after_backslash rest)) x a.2 in
    let head = agree_head last number line rest others agree (omega (arith, up.0)) in
    let e = ended_goes last number a.0 b.0 rest head.0 (after_backslash rest) x refl b.2 le head.2 in
    record { rest = e.0; read = line_from left number line head.0 others a.0 b.0 _ a.1 b.1 head.1 e.1; agree = e.2 }

-- ---- a body

abbrev pub one_more_line : ℕ → Marked × Left × Ahead → Result (List Marked × Ahead) Fault
one_more_line most first = body_at most first.1 first.2 >>= λ others. Ok (first.0 ∷ others.0, others.1)

pub add_err : {X : Type 0} (m : X) (r : Result (List X × Ahead) Fault) (e : Fault) → (r >>= add m) ≡ Err e → r ≡ Err e
add_err m (Ok x) e h = absurd cc
add_err {X = X} m (Err d) e h = ap (λ x. Err x) (err_is {A = List X × Ahead} d e h)

pub body_low : (most : ℕ) (left : Left) (p : Ahead) (e : Fault) → body_at most left p ≡ Err e → (p.number ≤ e.line) × (e.kind ≡ kinds.ShortEnd → e.line ≡ p.number + length p.rest)
unfolding body_at
body_low zero left p e h = absurd cc
body_low (suc most) left p e h =
    elim (chosen (eqb (left.old + left.new) 0) _ _ (Err e) h) [
      | inl none ↦ absurd (let bad : Ok ([], p) ≡ failed {A = List Marked × Ahead} e = none.1 in cc)
      | inr some ↦ elim (bind_err (line_at left p) (one_more_line most) e some.1) [
        | inl bad ↦ line_low left p.number p.rest e bad
        | inr good ↦ (
            let up = line_up left p.number p.rest good.0 good.1 in
            let l = body_low most good.0.1 good.0.2 e (add_err good.0.0 (body_at most good.0.1 good.0.2) e good.2) in
            (omega (arith, up.0, l.0), λ short. l.1 short ∙ up.1))
      ]
    ]

pub body_up : (most : ℕ) (left : Left) (p : Ahead) (x : List Marked × Ahead) → body_at most left p ≡ Ok x → (p.number ≤ x.1.number) × (x.1.number + length x.1.rest ≡ p.number + length p.rest)
unfolding body_at
body_up zero left p x h = subst (λ (y : List Marked × Ahead). (p.number ≤ y.1.number) × (y.1.number + length y.1.rest ≡ p.number + length p.rest)) (ok_is _ _ h) (omega arith, refl)
body_up (suc most) left p x h =
    elim (chosen (eqb (left.old + left.new) 0) _ _ (Ok x) h) [
      | inl none ↦ subst (λ (y : List Marked × Ahead). (p.number ≤ y.1.number) × (y.1.number + length y.1.rest ≡ p.number + length p.rest)) (ok_is _ _ none.1) (omega arith, refl)
      | inr some ↦ (
          let a = bind_ok (line_at left p) (one_more_line most) x some.1 in
          let b = bind_ok (body_at most a.0.1 a.0.2) (λ others. Ok (a.0.0 ∷ others.0, others.1)) x a.2 in
          let up = line_up left p.number p.rest a.0 a.1 in
          let on = body_up most a.0.1 a.0.2 b.0 b.1 in
          subst (λ (y : List Marked × Ahead). (p.number ≤ y.1.number) × (y.1.number + length y.1.rest ≡ p.number + length p.rest)) (ok_is _ _ b.2) (omega (arith, up.0, on.0), on.1 ∙ up.1))
    ]

body_step_err : (most : ℕ) (left : Left) (p : Ahead) (e : Fault) → eqb (left.old + left.new) 0 ≡ false → line_at left p ≡ Err e → body_at (suc most) left p ≡ Err e
unfolding body_at
body_step_err most left p e some h = rw (some, h) refl

body_step : (most : ℕ) (left : Left) (p : Ahead) (x : Marked × Left × Ahead) (y : Result (List Marked × Ahead) Fault) → eqb (left.old + left.new) 0 ≡ false → line_at left p ≡ Ok x → body_at most x.1 x.2 ≡ y → body_at (suc most) left p ≡ (y >>= λ others. Ok (x.0 ∷ others.0, others.1))
unfolding body_at
body_step most left p x y some h more = rw (some, h, more) refl

body_none : (most : ℕ) (left : Left) (p : Ahead) → eqb (left.old + left.new) 0 ≡ true → body_at (suc most) left p ≡ Ok ([], p)
unfolding body_at
body_none most left p none = rw none refl

pub body_stays : (most : ℕ) (left : Left) (p : Ahead) (others : List (List ℕ)) (e : Fault) → body_at most left p ≡ Err e → e.kind ≢ kinds.ShortEnd → AgreeTo e.line p.number p.rest others → body_at most left (ahead p.number others) ≡ Err e
unfolding body_at
body_stays zero left p others e h long agree = absurd cc
body_stays (suc most) left p others e h long agree =
    elim (chosen (eqb (left.old + left.new) 0) _ _ (Err e) h) [
      | inl none ↦ absurd (let bad : Ok ([], p) ≡ failed {A = List Marked × Ahead} e = none.1 in cc)
      | inr some ↦ elim (bind_err (line_at left p) (one_more_line most) e some.1) [
        | inl bad ↦ body_step_err most left (ahead p.number others) e some.0 (line_stays left p.number p.rest others e bad long agree)
        | inr good ↦ (
            let x = good.0 in
            let rest : body_at most x.1 x.2 ≡ Err e = add_err x.0 (body_at most x.1 x.2) e good.2 in
            let low = body_low most x.1 x.2 e rest in
            let go = line_goes left e.line p.number p.rest others x good.1 low.0 agree in
            body_step most left (ahead p.number others) (x.0, x.1, ahead x.2.number go.rest) (Err e) some.0 go.read (body_stays most x.1 x.2 go.rest e rest long go.agree))
      ]
    ]

pub record BodyGoes (most : ℕ) (left : Left) (last number : ℕ) (others : List (List ℕ)) (x : List Marked × Ahead) : Type 0 where
  pub rest : List (List ℕ)
  pub read : body_at most left (ahead number others) ≡ Ok (x.0, ahead x.1.number rest)
  pub agree : AgreeTo last x.1.number x.1.rest rest

pub body_goes : (most : ℕ) (left : Left) (last : ℕ) (p : Ahead) (others : List (List ℕ)) (x : List Marked × Ahead) → body_at most left p ≡ Ok x → x.1.number ≤ last → AgreeTo last p.number p.rest others → BodyGoes most left last p.number others x
unfolding body_at
body_goes zero left last p others x h le agree = subst (λ (y : List Marked × Ahead). BodyGoes zero left last p.number others y) (ok_is _ _ h) (record { rest = others; read = refl; agree = agree })
body_goes (suc most) left last p others x h le agree =
    elim (chosen (eqb (left.old + left.new) 0) _ _ (Ok x) h) [
      | inl none ↦ subst (λ (y : List Marked × Ahead). BodyGoes (suc most) left last p.number others y) (ok_is _ _ none.1) (record { rest = others; read = body_none most left (ahead p.number others) none.0; agree = agree })
      | inr some ↦ (
          let a = bind_ok (line_at left p) (one_more_line most) x some.1 in
          let b = bind_ok (body_at most a.0.1 a.0.2) (λ others. Ok (a.0.0 ∷ others.0, others.1)) x a.2 in
          let same : (a.0.0 ∷ b.0.0, b.0.1) ≡ x = ok_is _ _ b.2 in
          let up = body_up most a.0.1 a.0.2 b.0 b.1 in
          let there : b.0.1.number ≤ last = omega (arith, le, ap (λ (y : List Marked × Ahead). y.1.number) same) in
          let go = line_goes left last p.number p.rest others a.0 a.1 (omega (arith, up.0, there)) agree in
          let on = body_goes most a.0.1 last a.0.2 go.rest b.0 b.1 there go.agree in
          subst (λ (y : List Marked × Ahead). BodyGoes (suc most) left last p.number others y) same
          (record { rest = on.rest; read = body_step most left (ahead p.number others) (a.0.0, a.0.1, ahead a.0.2.number go.rest) _ some.0 go.read on.read; agree = on.agree }))
    ]
