-- Edits that are read are spelled so, and what is spelled so is read.
use Rattle.std.proofs.Common.{◌≡◌, ℕ, zero, suc, ◌+◌, ◌≤◌, ◌<◌, ◌^◌, true, false, eqb, List, [], ◌∷◌, ◌++◌, length, Result, Ok, Err, refl, sym, ap, subst, ◌∙◌, append_assoc, arith, inl, inr}
use Rattle.std.specs.Prelude.{IfOk}
use Rattle.std.proofs.lemmas.Bool.{eqb-true, false≢true}
use Rattle.std.proofs.lemmas.List.{length-append}
use Rattle.hunk_core.specs.declared.BadKind.{BadKind}
use Rattle.hunk_core.specs.declared.BadKind.TheVariants as kinds
use Rattle.hunk_core.specs.declared.fault.FormFault.{FormFault}
use Rattle.hunk_core.specs.LineTests.{after}
use Rattle.hunk_core.specs.Reading.{fault, Gives, ◌>>=◌, Ahead, ahead}
use Rattle.hunk_core.proofs.ReadSteps.{bind_ok, guard_ok, ok_is}
use Rattle.line_list.proofs.Choices.{chosen}
use Rattle.num_text.specs.NumberRanges.{range_at}
use Rattle.ed_form.specs.declared.command.Heading.{Heading}
use Rattle.ed_form.specs.Commands.{parts_at, is_command, begins_script, opening}
use Rattle.ed_form.specs.PlainEdit.{PlainEdit, lowest}
use Rattle.ed_form.specs.Texts.{is_substitution}
use Rattle.ed_form.specs.Scripts.{at_line, added_at, edit, first_edit, edit_at, begins_substitution, no_edits, edits_at, reading}
use Rattle.ed_form.specs.Grammar.{SpellsEdit, SpellsEdits, EndsPiece, IsPiece}
use Rattle.ed_form.proofs.CommandGrammar.{opening-takes, opening-again, opening-is, heading_is}
use Rattle.ed_form.proofs.TextGrammar.{added_takes, added_again}
use Rattle.ed_form.proofs.Counts.{edit-parts, edit-counts, no-edit}
use Rattle.ed_form.proofs.EditLoops.{no_more}

-- ---- one edit

pub record TakesEdit (below : ℕ) (p : Ahead) (x : PlainEdit × Ahead) : Type 0 where
  pub own : List (List ℕ)
  pub parts : p.rest ≡ own ++ x.1.rest
  pub number : x.1.number ≡ p.number + length own
  pub some : 0 < length own
  pub spelled : SpellsEdit below own x.0 x.1.rest

at_line-ok : (number : ℕ) (o : Result Heading BadKind) (h : Heading) → at_line number o ≡ Ok h → o ≡ Ok h
at_line-ok number (Ok q) h e = cc
at_line-ok number (Err kind) h e = absurd cc

pub edit_takes : (below number : ℕ) (rest : List (List ℕ)) (x : PlainEdit × Ahead) → first_edit below number rest ≡ Ok x → TakesEdit below (ahead number rest) x
edit_takes below number [] x h = no-edit below number x _ h
edit_takes below number (line ∷ rest) x h =
    let parts = edit-parts below number line rest x h in
    let o = opening-takes below line parts.h (at_line-ok number (opening below line) parts.h parts.heading) in
    let t = added_takes number parts.h.action (ahead (number + 1) rest) parts.text parts.added in
    subst (TakesEdit below (ahead number (line ∷ rest))) parts.is (record {
      own = line ∷ t.own;
      parts = ap (λ (r : List (List ℕ)). line ∷ r) t.parts;
      number = omega (arith, t.number_of);
      some = omega arith;
      spelled = (parts.h.action, o.0, o.1, t.spelled);
    })

first-step : (below number : ℕ) (line : List ℕ) (rest more : List (List ℕ)) (h : Heading) (added : List (List ℕ)) (after_number : ℕ) → opening below line ≡ Ok h → added_at number h.action (ahead (number + 1) rest) ≡ Ok (added, ahead after_number more) → first_edit below number (line ∷ rest) ≡ Ok (edit h added, ahead after_number more)
unfolding first_edit
first-step below number line rest more h added after_number e1 e2 = rw (e1, e2) refl

pub edit_again : (e : PlainEdit) (own rest : List (List ℕ)) (below number : ℕ) → SpellsEdit below own e rest → begins_substitution rest ≡ false → first_edit below number (own ++ rest) ≡ Ok (e, ahead (number + length own) rest)
edit_again e [] rest below number s clean = absurd s
edit_again e (line ∷ lines) rest below number s clean =
    let count : number + 1 + length lines ≡ number + length (line ∷ lines) = omega arith in
    first-step below number line (lines ++ rest) rest (heading_is s.0 e.first e.last) e.added (number + 1 + length lines) (opening-again below line s.0 e.first e.last s.1 s.2) (added_again number s.0 lines e.added (number + 1) rest s.3 clean)
    ∙ ap (λ n. Ok (e, ahead n rest)) count

-- ---- how an edit begins

pub edit_opens : (below : ℕ) (own tail others : List (List ℕ)) (e : PlainEdit) → SpellsEdit below own e others → begins_script (own ++ tail) ≡ true
edit_opens below [] tail others e s = absurd s
edit_opens below (line ∷ lines) tail others e s = opening-is below line (heading_is s.0 e.first e.last) (opening-again below line s.0 e.first e.last s.1 s.2)

edit_lines : (below : ℕ) (own others : List (List ℕ)) (e : PlainEdit) → SpellsEdit below own e others → 0 < length own
edit_lines below [] others e s = absurd s
edit_lines below (line ∷ lines) others e s = omega arith

letter-none : (bytes : List ℕ) → is_command (115 ∷ bytes) ≡ false
unfolding parts_at range_at
letter-none bytes = refl

-- a command is no substitution
command-clean : (line : List ℕ) → is_command line ≡ true → is_substitution line ≡ false
unfolding after
command-clean [] e = refl
command-clean (b ∷ bytes) e =
    elim (chosen (eqb b 115) true false _ refl) [
      | inl letter ↦ absurd (false≢true (sym (letter-none bytes) ∙ subst (λ k. is_command (k ∷ bytes) ≡ true) (eqb-true b 115 letter.0) e))
      | inr other ↦ rw other.0 refl
    ]

pub opening_clean : (rest : List (List ℕ)) → begins_script rest ≡ true → begins_substitution rest ≡ false
opening_clean [] e = refl
opening_clean (line ∷ rest) e = command-clean line e

-- ---- edits that follow each other

pub record TakesEdits (below : ℕ) (p : Ahead) (x : List PlainEdit × Ahead) : Type 0 where
  pub own : List (List ℕ)
  pub parts : p.rest ≡ own ++ x.1.rest
  pub number : x.1.number ≡ p.number + length own
  pub spelled : SpellsEdits below own x.0 x.1.rest
  pub ends : EndsPiece x.1.rest

edits_none : (below : ℕ) (p : Ahead) (x : List PlainEdit × Ahead) → begins_script p.rest ≡ false → no_edits p ≡ Ok x → TakesEdits below p x
edits_none below p x none h =
    let g = guard_ok (begins_substitution p.rest) (fault p.number kinds.EdCommand) ([], p) x h in
    subst (TakesEdits below p) g.1 (record { own = []; parts = refl; number = omega arith; spelled = refl; ends = (none, g.0) })

edits_more : (below : ℕ) (p : Ahead) (x : PlainEdit × Ahead) (y : List PlainEdit × Ahead) → TakesEdit below p x → TakesEdits (lowest x.0) x.1 y → TakesEdits below p (x.0 ∷ y.0, y.1)
edits_more below p x y first others = record {
  own = first.own ++ others.own;
  parts = first.parts ∙ ap (λ (r : List (List ℕ)). first.own ++ r) others.parts ∙ sym (append_assoc first.own others.own y.1.rest);
  number = omega (arith, first.number, others.number, length-append first.own others.own);
  spelled = (first.own, others.own, refl, subst (SpellsEdit below first.own x.0) others.parts first.spelled, others.spelled);
  ends = others.ends;
}

nothing_begins : (rest : List (List ℕ)) → length rest ≤ 0 → begins_script rest ≡ false
nothing_begins [] le = refl
nothing_begins (line ∷ rest) le = absurd (omega arith)

pub edits_take : (most below : ℕ) (p : Ahead) (x : List PlainEdit × Ahead) → length p.rest ≤ most → edits_at most below p ≡ Ok x → TakesEdits below p x
unfolding edits_at
edits_take zero below p x enough h = edits_none below p x (nothing_begins p.rest enough) h
edits_take (suc most) below p x enough h =
    elim (chosen (begins_script p.rest) _ _ (Ok x) h) [
      | inl some ↦ (
          let a = bind_ok (edit_at below p) (λ first. edits_at most (lowest first.0) first.1 >>= λ others. Ok (first.0 ∷ others.0, others.1)) x some.1 in
          let b = bind_ok (edits_at most (lowest a.0.0) a.0.1) (λ others. Ok (a.0.0 ∷ others.0, others.1)) x a.2 in
          let counts = edit-counts below p.number p.rest a.0 a.1 in
          let first = edit_takes below p.number p.rest a.0 a.1 in
          let others = edits_take most (lowest a.0.0) a.0.1 b.0 (omega (arith, enough, counts.low, counts.same)) b.1 in
          subst (TakesEdits below p) (ok_is _ _ b.2) (edits_more below p a.0 b.0 first others))
      | inr none ↦ edits_none below p x none.0 none.1
    ]

edits_clean : (es : List PlainEdit) (below : ℕ) (own rest : List (List ℕ)) → SpellsEdits below own es rest → begins_substitution rest ≡ false → begins_substitution (own ++ rest) ≡ false
edits_clean [] below own rest s clean = rw s clean
edits_clean (e ∷ es) below own rest s clean = rw (s.2, append_assoc s.0 s.1 rest) (opening_clean (s.0 ++ (s.1 ++ rest)) (edit_opens below s.0 (s.1 ++ rest) (s.1 ++ rest) e s.3))

pub edits_again : (es : List PlainEdit) (own rest : List (List ℕ)) (below number most : ℕ) → SpellsEdits below own es rest → EndsPiece rest → length (own ++ rest) ≤ most
    → edits_at most below (ahead number (own ++ rest)) ≡ Ok (es, ahead (number + length own) rest)
unfolding edits_at
edits_again [] own rest below number most s ends enough =
    let same : number + 0 ≡ number = omega arith in
    rw (s, same) (no_more most below (ahead number rest) ends.0 ∙ rw ends.1 refl)
edits_again (e ∷ es) own rest below number zero s ends enough =
    let some = edit_lines below s.0 (s.1 ++ rest) e s.3 in
    absurd (omega (arith, enough, some, length-append own rest, length-append s.0 s.1, ap length s.2))
edits_again (e ∷ es) own rest below number (suc most) s ends enough =
    let mine = s.0 in
    let more = s.1 in
    let parts : own ++ rest ≡ mine ++ (more ++ rest) = ap (λ (p : List (List ℕ)). p ++ rest) s.2 ∙ append_assoc mine more rest in
    let begins : begins_script (mine ++ (more ++ rest)) ≡ true = edit_opens below mine (more ++ rest) (more ++ rest) e s.3 in
    let one : first_edit below number (mine ++ (more ++ rest)) ≡ Ok (e, ahead (number + length mine) (more ++ rest)) = edit_again e mine (more ++ rest) below number s.3 (edits_clean es (lowest e) more rest s.4 ends.1) in
    let fewer : length (more ++ rest) ≤ most = omega (arith, enough, ap length parts, length-append mine (more ++ rest), edit_lines below mine (more ++ rest) e s.3) in
    let others : edits_at most (lowest e) (ahead (number + length mine) (more ++ rest)) ≡ Ok (es, ahead (number + length mine + length more) rest) = edits_again es more rest (lowest e) (number + length mine) most s.4 ends fewer in
    let lines : number + length mine + length more ≡ number + length own = omega (arith, length-append mine more, ap length s.2) in
    ap (λ (p : List (List ℕ)). edits_at (suc most) below (ahead number p)) parts
    ∙ rw (begins, one, others, lines) refl

-- ---- the whole piece

pub reading_finds : (number : ℕ) (lines : List (List ℕ)) (x : List PlainEdit × Ahead) → reading number lines ≡ Ok x → IsPiece number lines x.0 x.1.number x.1.rest
reading_finds number lines x h =
    let t = edits_take (length lines) (2 ^ 32) (ahead number lines) x (omega arith) h in
    record { own = t.own; parts = t.parts; spelled = t.spelled; ends = t.ends; counted = t.number }

pub reading_again : (number : ℕ) (lines : List (List ℕ)) (es : List PlainEdit) (next : ℕ) (rest : List (List ℕ)) → IsPiece number lines es next rest → reading number lines ≡ Ok (es, ahead next rest)
reading_again number lines es next rest p =
    rw (p.parts, p.counted) (edits_again es p.own rest (2 ^ 32) number (length (p.own ++ rest)) p.spelled p.ends (omega arith))

pub is_found : {X : Type 0} (view : X → List PlainEdit × Ahead) (number : ℕ) (lines : List (List ℕ)) (r : Result X FormFault) → Gives view r (reading number lines) → IfOk r (λ s. IsPiece number lines (view s).0 (view s).1.number (view s).1.rest)
is_found view number lines (Ok s) given = reading_finds number lines (view s) given
is_found view number lines (Err e) given = tt
