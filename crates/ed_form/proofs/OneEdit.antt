-- One edit over other lines that agree is read as before, or fails as before.
use Rattle.std.proofs.Common.{◌≡◌, ◌≢◌, ◌⊎◌, inl, inr, ℕ, ◌+◌, ◌≤◌, ◌<◌, Bool, true, false, cond, ltb, List, [], ◌∷◌, ◌++◌, length, Option, None, Some, Result, Ok, Err, refl, sym, ap, subst, ◌∙◌, append_assoc, arith}
use Rattle.std.proofs.lemmas.List.{append-nil}
use Rattle.hunk_core.specs.declared.BadKind.{BadKind}
use Rattle.hunk_core.specs.declared.BadKind.TheVariants as kinds
use Rattle.hunk_core.specs.Reading.{◌>>=◌, Fault, fault, Ahead, ahead}
use Rattle.line_list.proofs.Choices.{chosen}
use Rattle.hunk_core.proofs.ReadSteps.{ok_is}
use Rattle.hunk_core.specs.declared.command.Action.{Action}
use Rattle.hunk_core.specs.declared.command.Action.TheVariants.{Add, Change, Delete}
use Rattle.hunk_core.specs.FirstFault.{AgreeTo}
use Rattle.hunk_core.proofs.FaultSteps.{failed, err_is, bind_err}
use Rattle.hunk_core.proofs.Agreeing.{agree_front}
use Rattle.ed_form.specs.declared.added.TextState.{TextState}
use Rattle.ed_form.specs.declared.added.TextState.TheVariants.{Text, Ended, Corrected}
use Rattle.ed_form.specs.declared.command.Command.{Command}
use Rattle.ed_form.specs.declared.command.Heading.{Heading}
use Rattle.ed_form.specs.Commands.{is_bad_range, heading, is_too_large, placed, from_parts, parts_at, opening}
use Rattle.ed_form.specs.PlainEdit.{PlainEdit}
use Rattle.ed_form.specs.Texts.{is_dot, is_open, is_taken, step, closed, text_at}
use Rattle.ed_form.specs.Scripts.{at_line, added_at, edit, first_edit, begins_substitution}
use Rattle.ed_form.specs.Grammar.{HaveNoDot}
use Rattle.ed_form.proofs.TextLoops.{text-takes, text-stops}
use Rattle.ed_form.proofs.TextGrammar.{text-dot, text-run, ended-stops, closed-is}
use Rattle.ed_form.proofs.Counts.{edit-parts, edit-counts, text-counts}

pub guard_err : {A : Type 0} (b : Bool) (d e : Fault) (x : A) → cond b (failed d) (Ok x) ≡ failed e → (b ≡ true) × (d ≡ e)
guard_err {A = A} true d e x h = (refl, err_is {A = A} d e h)
guard_err false d e x h = absurd cc

-- ---- lines that agree

pub agree_head : (last number : ℕ) (line : List ℕ) (rest others : List (List ℕ)) → AgreeTo last number (line ∷ rest) others → number ≤ last → (more : List (List ℕ)) × (others ≡ line ∷ more) × AgreeTo last (number + 1) rest more
agree_head last number line rest [] h le = absurd (omega (arith, h, le))
agree_head last number line rest (other ∷ more) h le = (more, ap (λ l. l ∷ more) (sym (h.0 le)), h.1)

-- lines and the same with others behind them
agree_more : (last number : ℕ) (lines others : List (List ℕ)) → last < number + length lines → AgreeTo last number lines (lines ++ others)
agree_more last number lines others past = subst (λ ls. AgreeTo last number ls (lines ++ others)) (append-nil lines) (agree_front last number lines [] others past)

cancel : (own a b : List (List ℕ)) → own ++ a ≡ own ++ b → a ≡ b
cancel [] a b e = e
cancel (x ∷ own) a b e = cancel own a b (behind (own ++ a) (own ++ b) e)
  where
    behind : (c d : List (List ℕ)) → x ∷ c ≡ x ∷ d → c ≡ d
    behind c d h = cc

-- lines that agree with a line and what stands behind it
behind_line : (line : List ℕ) (others rest own more : List (List ℕ)) → others ≡ line ∷ rest → rest ≡ own ++ more → others ≡ (line ∷ own) ++ more
behind_line line others rest own more e f = e ∙ ap (λ (r : List (List ℕ)). line ∷ r) f

-- ---- a text

-- what goes on over other lines as over these
pub record Goes {A : Type 0} (f : List (List ℕ) → Result (A × Ahead) Fault) (last : ℕ) (rest others : List (List ℕ)) (x : A × Ahead) : Type 0 where
  pub own : List (List ℕ)
  pub parts : rest ≡ own ++ x.1.rest
  pub more : List (List ℕ)
  pub over : others ≡ own ++ more
  pub read : f others ≡ Ok (x.0, ahead x.1.number more)
  pub agree : AgreeTo last x.1.number x.1.rest more

text-none : (opened : ℕ) (part : TextState) (before : List (List ℕ)) (number : ℕ) (line : List ℕ) (rest : List (List ℕ)) → is_taken part before line ≡ false → is_open part ≡ false → text_at opened part before number (line ∷ rest) ≡ Ok (before, ahead number (line ∷ rest))
text-none opened part before number line rest none whole = text-stops opened part before number (line ∷ rest) none ∙ rw whole refl

text-goes : (opened : ℕ) (part : TextState) (before : List (List ℕ)) (number : ℕ) (rest : List (List ℕ)) (x : List (List ℕ) × Ahead) (last : ℕ) (others : List (List ℕ)) → text_at opened part before number rest ≡ Ok x → x.1.number ≤ last → AgreeTo last number rest others
    → Goes (text_at opened part before number) last rest others x
unfolding text_at
text-goes opened part before number [] x last others h le agree =
    let same = (closed-is opened part before (ahead number []) x h).1 in
    let here : number ≤ last = omega (arith, le, ap (λ (y : List (List ℕ) × Ahead). y.1.number) same) in
    absurd (omega (arith, here, agree))
text-goes opened part before number (line ∷ rest) x last others h le agree =
    elim (chosen (is_taken part before line) _ _ (Ok x) h) [
      | inl taken ↦ (
          let counts = text-counts opened (step part before line).0 (step part before line).1 (number + 1) rest x taken.1 in
          let head = agree_head last number line rest others agree (omega (arith, le, counts.low)) in
          let go = text-goes opened (step part before line).0 (step part before line).1 (number + 1) rest x last head.0 taken.1 le head.2 in
          record {
            own = line ∷ go.own;
            parts = ap (λ (r : List (List ℕ)). line ∷ r) go.parts;
            more = go.more;
            over = behind_line line others head.0 go.own go.more head.1 go.over;
            read = ap (text_at opened part before number) head.1 ∙ text-takes opened part before number line head.0 taken.0 ∙ go.read;
            agree = go.agree;
          })
      | inr none ↦ (
          let c = closed-is opened part before (ahead number (line ∷ rest)) x none.1 in
          let here : number ≤ last = omega (arith, le, ap (λ (y : List (List ℕ) × Ahead). y.1.number) c.1) in
          let head = agree_head last number line rest others agree here in
          subst (λ (y : List (List ℕ) × Ahead). Goes (text_at opened part before number) last (line ∷ rest) others y) c.1 (record {
            own = [];
            parts = refl;
            more = others;
            over = refl;
            read = ap (text_at opened part before number) head.1 ∙ text-none opened part before number line head.0 none.0 c.0 ∙ ap (λ (r : List (List ℕ)). Ok (before, ahead number r)) (sym head.1);
            agree = agree;
          }))
    ]

-- the one fault of a text
closed-err : (opened : ℕ) (part : TextState) (before : List (List ℕ)) (p : Ahead) (e : Fault) → closed opened part before p ≡ Err e → (is_open part ≡ true) × (fault opened kinds.EdNoDot ≡ e)
closed-err opened part before p e h = guard_err (is_open part) (fault opened kinds.EdNoDot) e (before, p) h

text-err : (opened : ℕ) (part : TextState) (before : List (List ℕ)) (number : ℕ) (rest : List (List ℕ)) (e : Fault) → text_at opened part before number rest ≡ Err e → fault opened kinds.EdNoDot ≡ e
unfolding text_at
text-err opened part before number [] e h = (closed-err opened part before (ahead number []) e h).1
text-err opened part before number (line ∷ rest) e h =
    elim (chosen (is_taken part before line) _ _ (Err e) h) [
      | inl taken ↦ text-err opened (step part before line).0 (step part before line).1 (number + 1) rest e taken.1
      | inr none ↦ (closed-err opened part before (ahead number (line ∷ rest)) e none.1).1
    ]

open-text : (part : TextState) → is_open part ≡ true → part ≡ Text
open-text Text e = refl
open-text Ended e = absurd cc
open-text Corrected e = absurd cc

open-takes : (part : TextState) (before : List (List ℕ)) (line : List ℕ) (A : Type 0) → is_open part ≡ true → is_taken part before line ≡ false → A
open-takes Text before line A e f = absurd cc
open-takes Ended before line A e f = absurd cc
open-takes Corrected before line A e f = absurd cc

run-open : (opened : ℕ) (before : List (List ℕ)) (number : ℕ) (others : List (List ℕ)) → HaveNoDot others → text_at opened Text before number others ≡ Err (fault opened kinds.EdNoDot)
run-open opened before number others clear =
    ap (text_at opened Text before number) (sym (append-nil others))
    ∙ text-run opened before others number [] clear
    ∙ text-stops opened Text (before ++ others) (number + length others) [] refl

text-endless : (opened : ℕ) (part : TextState) (before : List (List ℕ)) (number : ℕ) (rest others : List (List ℕ)) (e : Fault) → text_at opened part before number rest ≡ Err e → HaveNoDot others → text_at opened part before number (rest ++ others) ≡ Err e
unfolding text_at
text-endless opened part before number [] others e h clear =
    let c = closed-err opened part before (ahead number []) e h in
    ap (λ (q : TextState). text_at opened q before number others) (open-text part c.0) ∙ run-open opened before number others clear ∙ ap failed c.1
text-endless opened part before number (line ∷ rest) others e h clear =
    elim (chosen (is_taken part before line) _ _ (Err e) h) [
      | inl taken ↦ text-takes opened part before number line (rest ++ others) taken.0 ∙ text-endless opened (step part before line).0 (step part before line).1 (number + 1) rest others e taken.1 clear
      | inr none ↦ open-takes part before line _ (closed-err opened part before (ahead number (line ∷ rest)) e none.1).0 none.0
    ]

-- what is read where a '.' comes behind
abbrev IsRead : Result (List (List ℕ) × Ahead) Fault → Type 0
IsRead r = (x : List (List ℕ) × Ahead) × (r ≡ Ok x)

text-ended : (opened : ℕ) (part : TextState) (before : List (List ℕ)) (number : ℕ) (rest : List (List ℕ)) (dot : List ℕ) (others : List (List ℕ)) (e : Fault) → text_at opened part before number rest ≡ Err e → is_dot dot ≡ true → begins_substitution others ≡ false → IsRead (text_at opened part before number (rest ++ dot ∷ others))
unfolding text_at
text-ended opened part before number [] dot others e h is clean =
    let c = closed-err opened part before (ahead number []) e h in
    ((before, ahead (number + 1) others), ap (λ (q : TextState). text_at opened q before number (dot ∷ others)) (open-text part c.0) ∙ text-dot opened before number dot others is ∙ ended-stops opened before (number + 1) others clean)
text-ended opened part before number (line ∷ rest) dot others e h is clean =
    elim (chosen (is_taken part before line) _ _ (Err e) h) [
      | inl taken ↦ (
          let more = text-ended opened (step part before line).0 (step part before line).1 (number + 1) rest dot others e taken.1 is clean in
          (more.0, text-takes opened part before number line (rest ++ dot ∷ others) taken.0 ∙ more.1))
      | inr none ↦ open-takes part before line _ (closed-err opened part before (ahead number (line ∷ rest)) e none.1).0 none.0
    ]

-- ---- what a command adds

added-goes : (opened : ℕ) (action : Action) (number : ℕ) (rest : List (List ℕ)) (x : List (List ℕ) × Ahead) (last : ℕ) (others : List (List ℕ)) → added_at opened action (ahead number rest) ≡ Ok x → x.1.number ≤ last → AgreeTo last number rest others
    → Goes (λ ls. added_at opened action (ahead number ls)) last rest others x
added-goes opened Add number rest x last others h le agree = text-goes opened Text [] number rest x last others h le agree
added-goes opened Change number rest x last others h le agree = text-goes opened Text [] number rest x last others h le agree
added-goes opened Delete number rest x last others h le agree =
    let same : ([], ahead number rest) ≡ x = ok_is _ _ h in
    subst (λ (y : List (List ℕ) × Ahead). Goes (λ ls. added_at opened Delete (ahead number ls)) last rest others y) same (record { own = []; parts = refl; more = others; over = refl; read = refl; agree = agree })

added-err : (opened : ℕ) (action : Action) (p : Ahead) (e : Fault) → added_at opened action p ≡ Err e → fault opened kinds.EdNoDot ≡ e
added-err opened Add p e h = text-err opened Text [] p.number p.rest e h
added-err opened Change p e h = text-err opened Text [] p.number p.rest e h
added-err opened Delete p e h = absurd (let bad : Ok ([], p) ≡ failed {A = List (List ℕ) × Ahead} e = h in cc)

added-endless : (opened : ℕ) (action : Action) (number : ℕ) (rest others : List (List ℕ)) (e : Fault) → added_at opened action (ahead number rest) ≡ Err e → HaveNoDot others → added_at opened action (ahead number (rest ++ others)) ≡ Err e
added-endless opened Add number rest others e h clear = text-endless opened Text [] number rest others e h clear
added-endless opened Change number rest others e h clear = text-endless opened Text [] number rest others e h clear
added-endless opened Delete number rest others e h clear = absurd (let bad : Ok ([], ahead number rest) ≡ failed {A = List (List ℕ) × Ahead} e = h in cc)

added-ended : (opened : ℕ) (action : Action) (number : ℕ) (rest : List (List ℕ)) (dot : List ℕ) (others : List (List ℕ)) (e : Fault) → added_at opened action (ahead number rest) ≡ Err e → is_dot dot ≡ true → begins_substitution others ≡ false → IsRead (added_at opened action (ahead number (rest ++ dot ∷ others)))
added-ended opened Add number rest dot others e h is clean = text-ended opened Text [] number rest dot others e h is clean
added-ended opened Change number rest dot others e h is clean = text-ended opened Text [] number rest dot others e h is clean
added-ended opened Delete number rest dot others e h is clean = absurd (let bad : Ok ([], ahead number rest) ≡ failed {A = List (List ℕ) × Ahead} e = h in cc)

-- ---- an edit

opening-kind : (below : ℕ) (line : List ℕ) (kind : BadKind) → opening below line ≡ Err kind → kind ≢ kinds.EdNoDot
opening-kind below line kind h = by (parts_at line) h
  where
    is : (k : BadKind) → (x : Result Heading BadKind) → x ≡ Err k → k ≢ kinds.EdNoDot → x ≡ Err kind → kind ≢ kinds.EdNoDot
    is k x e ne f = subst (λ z. z ≢ kinds.EdNoDot) (let same : k ≡ kind = cc in same) ne

    order : (q : Heading) (b : Bool) → cond b (Ok q) (Err kinds.EdOrder) ≡ Err kind → kind ≢ kinds.EdNoDot
    order q true h = absurd cc
    order q false h = is kinds.EdOrder (Err kinds.EdOrder) refl (λ z. cc) h

    large : (q : Heading) (b : Bool) → cond b (Err kinds.NumberTooLarge) (cond (ltb q.last below) (Ok q) (Err kinds.EdOrder)) ≡ Err kind → kind ≢ kinds.EdNoDot
    large q true h = is kinds.NumberTooLarge (Err kinds.NumberTooLarge) refl (λ z. cc) h
    large q false h = order q (ltb q.last below) h

    bad : (c : Command) (b : Bool) → cond b (Err kinds.Range) (placed below (heading c)) ≡ Err kind → kind ≢ kinds.EdNoDot
    bad c true h = is kinds.Range (Err kinds.Range) refl (λ z. cc) h
    bad c false h = large (heading c) (is_too_large (heading c)) h

    by : (o : Option Command) → from_parts below o ≡ Err kind → kind ≢ kinds.EdNoDot
    by None h = is kinds.Range (Err kinds.Range) refl (λ z. cc) h
    by (Some c) h = bad c (is_bad_range c.action c.range) h

heading-err : (below number : ℕ) (line : List ℕ) (e : Fault) → at_line number (opening below line) ≡ Err e → (e.line ≡ number) × (e.kind ≢ kinds.EdNoDot)
heading-err below number line e h = by (opening below line) refl h
  where
    by : (o : Result Heading BadKind) → opening below line ≡ o → at_line number o ≡ Err e → (e.line ≡ number) × (e.kind ≢ kinds.EdNoDot)
    by (Ok q) is h = absurd cc
    by (Err kind) is h =
        let same : fault number kind ≡ e = err_is {A = Heading} _ e h in
        (sym (ap (λ (x : Fault). x.line) same), λ bad. opening-kind below line kind is (ap (λ (x : Fault). x.kind) same ∙ bad))

abbrev with_heading : ℕ → List (List ℕ) → Heading → Result (PlainEdit × Ahead) Fault
with_heading number rest h = added_at number h.action (ahead (number + 1) rest) >>= λ text. Ok (edit h text.0, text.1)

first-is : (below number : ℕ) (line : List ℕ) (rest : List (List ℕ)) → first_edit below number (line ∷ rest) ≡ (at_line number (opening below line) >>= with_heading number rest)
unfolding first_edit
first-is below number line rest = refl

none-is : (below number : ℕ) → first_edit below number [] ≡ Err (fault number kinds.Range)
unfolding first_edit
none-is below number = refl

first-step : (below number : ℕ) (line : List ℕ) (rest : List (List ℕ)) (h : Heading) (text : List (List ℕ) × Ahead) → at_line number (opening below line) ≡ Ok h → added_at number h.action (ahead (number + 1) rest) ≡ Ok text → first_edit below number (line ∷ rest) ≡ Ok (edit h text.0, text.1)
first-step below number line rest h text e1 e2 = first-is below number line rest ∙ rw (e1, e2) refl

over-first : (below number : ℕ) (line : List ℕ) (others rest : List (List ℕ)) (h : Heading) (text : List (List ℕ) × Ahead) → others ≡ line ∷ rest → at_line number (opening below line) ≡ Ok h → added_at number h.action (ahead (number + 1) rest) ≡ Ok text → first_edit below number others ≡ Ok (edit h text.0, text.1)
over-first below number line others rest h text over e1 e2 = ap (first_edit below number) over ∙ first-step below number line rest h text e1 e2

-- why an edit fails: its command, or its text
abbrev FailsBy : ℕ → ℕ → List ℕ → List (List ℕ) → Fault → Type 0
FailsBy below number line rest e = (at_line number (opening below line) ≡ Err e) ⊎ ((h : Heading) × (at_line number (opening below line) ≡ Ok h) × (added_at number h.action (ahead (number + 1) rest) ≡ Err e))

edit-fails : (below number : ℕ) (line : List ℕ) (rest : List (List ℕ)) (e : Fault) → first_edit below number (line ∷ rest) ≡ Err e → FailsBy below number line rest e
edit-fails below number line rest e f =
    elim (bind_err (at_line number (opening below line)) (with_heading number rest) e (sym (first-is below number line rest) ∙ f)) [
      | inl bad ↦ inl bad
      | inr good ↦ elim (bind_err (added_at number good.0.action (ahead (number + 1) rest)) (λ text. Ok (edit good.0 text.0, text.1)) e good.2) [
        | inl bad ↦ inr (good.0, good.1, bad)
        | inr more ↦ absurd (let never : Ok (edit good.0 more.0.0, more.0.1) ≡ failed {A = PlainEdit × Ahead} e = more.2 in cc)
      ]
    ]

heading-fails : (below number : ℕ) (line : List ℕ) (rest : List (List ℕ)) (e : Fault) → at_line number (opening below line) ≡ Err e → first_edit below number (line ∷ rest) ≡ Err e
heading-fails below number line rest e bad = first-is below number line rest ∙ rw bad refl

text-fails : (below number : ℕ) (line : List ℕ) (rest : List (List ℕ)) (h : Heading) (e : Fault) → at_line number (opening below line) ≡ Ok h → added_at number h.action (ahead (number + 1) rest) ≡ Err e → first_edit below number (line ∷ rest) ≡ Err e
text-fails below number line rest h e good bad = first-is below number line rest ∙ rw (good, bad) refl

pub edit-low : (below number : ℕ) (rest : List (List ℕ)) (e : Fault) → first_edit below number rest ≡ Err e → e.line ≡ number
edit-low below number [] e f = let same : fault number kinds.Range ≡ e = err_is {A = PlainEdit × Ahead} _ e (sym (none-is below number) ∙ f) in sym (ap (λ (x : Fault). x.line) same)
edit-low below number (line ∷ rest) e f =
    elim (edit-fails below number line rest e f) [
      | inl bad ↦ (heading-err below number line e bad).0
      | inr bad ↦ sym (ap (λ (x : Fault). x.line) (added-err number bad.0.action (ahead (number + 1) rest) e bad.2))
    ]

pub edit-stays : (below number : ℕ) (rest others : List (List ℕ)) (e : Fault) → first_edit below number rest ≡ Err e → e.kind ≢ kinds.EdNoDot → AgreeTo e.line number rest others → first_edit below number others ≡ Err e
edit-stays below number [] others e f ne agree = absurd (omega (arith, edit-low below number [] e f, agree))
edit-stays below number (line ∷ rest) others e f ne agree =
    let head = agree_head e.line number line rest others agree (omega (arith, edit-low below number (line ∷ rest) e f)) in
    elim (edit-fails below number line rest e f) [
      | inl bad ↦ ap (first_edit below number) head.1 ∙ heading-fails below number line head.0 e bad
      | inr bad ↦ absurd (ne (sym (ap (λ (x : Fault). x.kind) (added-err number bad.0.action (ahead (number + 1) rest) e bad.2))))
    ]

no-edit : (below number : ℕ) (x : PlainEdit × Ahead) (A : Type 0) → first_edit below number [] ≡ Ok x → A
no-edit below number x A h = absurd (let bad : Ok x ≡ failed {A = PlainEdit × Ahead} (fault number kinds.Range) = sym h ∙ none-is below number in cc)

pub edit-goes : (below number : ℕ) (rest : List (List ℕ)) (x : PlainEdit × Ahead) (last : ℕ) (others : List (List ℕ)) → first_edit below number rest ≡ Ok x → x.1.number ≤ last → AgreeTo last number rest others → Goes (first_edit below number) last rest others x
edit-goes below number [] x last others h le agree = no-edit below number x _ h
edit-goes below number (line ∷ rest) x last others h le agree =
    let counts = edit-counts below number (line ∷ rest) x h in
    let parts = edit-parts below number line rest x h in
    let head = agree_head last number line rest others agree (omega (arith, le, counts.low)) in
    let here : parts.text.1.number ≤ last = omega (arith, le, ap (λ (y : PlainEdit × Ahead). y.1.number) parts.is) in
    let go = added-goes number parts.h.action (number + 1) rest parts.text last head.0 parts.added here head.2 in
    subst (λ (y : PlainEdit × Ahead). Goes (first_edit below number) last (line ∷ rest) others y) parts.is (record {
      own = line ∷ go.own;
      parts = ap (λ (r : List (List ℕ)). line ∷ r) go.parts;
      more = go.more;
      over = behind_line line others head.0 go.own go.more head.1 go.over;
      read = over-first below number line others head.0 parts.h (parts.text.0, ahead parts.text.1.number go.more) head.1 parts.heading go.read;
      agree = go.agree;
    })

-- an edit before further lines stays as it is whatever comes behind them
pub edit-more : (below number : ℕ) (rest : List (List ℕ)) (x : PlainEdit × Ahead) (others : List (List ℕ)) → first_edit below number rest ≡ Ok x → 0 < length x.1.rest → first_edit below number (rest ++ others) ≡ Ok (x.0, ahead x.1.number (x.1.rest ++ others))
edit-more below number rest x others h some =
    let counts = edit-counts below number rest x h in
    let go = edit-goes below number rest x x.1.number (rest ++ others) h (omega arith) (agree_more x.1.number number rest others (omega (arith, counts.same, some))) in
    let same : x.1.rest ++ others ≡ go.more = cancel go.own (x.1.rest ++ others) go.more (sym (append_assoc go.own x.1.rest others) ∙ ap (λ (r : List (List ℕ)). r ++ others) (sym go.parts) ∙ go.over) in
    go.read ∙ ap (λ (r : List (List ℕ)). Ok (x.0, ahead x.1.number r)) (sym same)

pub edit-endless : (below number : ℕ) (rest others : List (List ℕ)) (e : Fault) → first_edit below number rest ≡ Err e → e.kind ≡ kinds.EdNoDot → HaveNoDot others → first_edit below number (rest ++ others) ≡ Err e
edit-endless below number [] others e f is clear =
    let same : fault number kinds.Range ≡ e = err_is {A = PlainEdit × Ahead} _ e (sym (none-is below number) ∙ f) in
    absurd (let bad : kinds.Range ≡ kinds.EdNoDot = ap (λ (x : Fault). x.kind) same ∙ is in cc)
edit-endless below number (line ∷ rest) others e f is clear =
    elim (edit-fails below number line rest e f) [
      | inl bad ↦ absurd ((heading-err below number line e bad).1 is)
      | inr bad ↦ text-fails below number line (rest ++ others) bad.0 e bad.1 (added-endless number bad.0.action (number + 1) rest others e bad.2 clear)
    ]

abbrev pub IsEdit : Result (PlainEdit × Ahead) Fault → Type 0
IsEdit r = (x : PlainEdit × Ahead) × (r ≡ Ok x)

pub edit-ended : (below number : ℕ) (rest : List (List ℕ)) (dot : List ℕ) (others : List (List ℕ)) (e : Fault) → first_edit below number rest ≡ Err e → e.kind ≡ kinds.EdNoDot → is_dot dot ≡ true → begins_substitution others ≡ false → IsEdit (first_edit below number (rest ++ dot ∷ others))
edit-ended below number [] dot others e f is dotted clean =
    let same : fault number kinds.Range ≡ e = err_is {A = PlainEdit × Ahead} _ e (sym (none-is below number) ∙ f) in
    absurd (let bad : kinds.Range ≡ kinds.EdNoDot = ap (λ (x : Fault). x.kind) same ∙ is in cc)
edit-ended below number (line ∷ rest) dot others e f is dotted clean =
    elim (edit-fails below number line rest e f) [
      | inl bad ↦ absurd ((heading-err below number line e bad).1 is)
      | inr bad ↦ (
          let text = added-ended number bad.0.action (number + 1) rest dot others e bad.2 dotted clean in
          ((edit bad.0 text.0.0, text.0.1), first-step below number line (rest ++ dot ∷ others) bad.0 text.0 bad.1 text.1))
    ]
