use Rattle.std.proofs.Common.{◌≡◌, ◌<◌, ◌+◌, eqb, true, false, length, drop, get_or, List, Some, ℕ, refl, sym, ap, ◌∙◌, arith, length-drop}
use Rattle.std.specs.Prelude.{option_and_then}
use Rattle.std.proofs.lemmas.Bool.Decides.{nat_tests}
use Rattle.std.proofs.lemmas.List.{take_rest, append-nil}
use Rattle.read_header_record.specs.Quoted.{spelling, spellings}
use Rattle.read_header_record.proofs.Quotes.{none-at, one-at, quote-at, ended-at, name-on, name_behind}
use Rattle.read_header_record.proofs.quoted.unquoted.Goals as goal
use Rattle.read_header_record.proofs.quoted.unquoted.Goals.{then-loop-at-test+else-text-at-ne34, else-loop-at-test}

pub returns-in-None : goal.returns-in-None
returns-in-None c =
    let text = c.args.text.now in
    let at = c.loop-at.at in
    let none = sym (c.spelling.ensures.is ∙ ap spelling (take_rest text at)) ∙ c.in-None.is in
    sym (c.loop-at.invariant.same ∙ ap (option_and_then (name_behind c.loop-at.name.items at (length text))) (none-at text at c.loop-at-test.true c.if-text-at-ne34.true none))

pub loop-at-preserved : goal.loop-at-preserved
loop-at-preserved c =
    let text = c.args.text.now in
    let at = c.loop-at.at in
    let one = c.in-Some.one in
    let name = c.loop-at.name.items in
    let some = sym (c.spelling.ensures.is ∙ ap spelling (take_rest text at)) ∙ c.in-Some.is in
    record {
      within = omega (arith, c.in-Some.ensures.within.1, c.loop-at-test.true, ap length (take_rest text at), length-drop at text);
      same = c.loop-at.invariant.same
          ∙ ap (option_and_then (name_behind name at (length text))) (one-at text at one c.loop-at-test.true c.if-text-at-ne34.true some c.in-Some.ensures.within.0)
          ∙ name-on name at (length text) one _
          ∙ ap (λ l. option_and_then (name_behind l (at + one.size) (length text)) (spellings 0 (drop (at + one.size) text))) (sym c.in_ok-push-in-Some.ensures.items);
    }

pub returns-then-at-text : goal.returns-then-at-text
returns-then-at-text c =
    let text = c.args.text.now in
    let at = c.loop-at.at in
    let name = c.loop-at.name.items in
    let whole : at + 1 ≡ length text = c.if-at-text.true in
    let inside : at < length text = omega (arith, whole) in
    let here : get_or text at 0 ≡ 34 = elim c.loop-at-test.branch [
      | then-loop-at-test+else-text-at-ne34 w ↦ w.if-text-at-ne34.false
      | else-loop-at-test w ↦ absurd (omega (arith, inside, w.loop-at-test.false))
    ] in
    let last : eqb (at + 1 + 0) (length text) ≡ true = grind (arith, nat_tests, whole) in
    sym (c.loop-at.invariant.same ∙ ap (option_and_then (name_behind name at (length text))) (quote-at text at inside here)
    ∙ rw last (ap (λ (l : List ℕ). Some l) (append-nil name)))

pub returns-else-at-text : goal.returns-else-at-text
returns-else-at-text c =
    let text = c.args.text.now in
    let at = c.loop-at.at in
    let name = c.loop-at.name.items in
    elim c.loop-at-test.branch [
      | then-loop-at-test+else-text-at-ne34 w ↦
          let other : eqb (at + 1 + 0) (length text) ≡ false = grind (arith, nat_tests) in
          sym (c.loop-at.invariant.same ∙ ap (option_and_then (name_behind name at (length text))) (quote-at text at w.loop-at-test.true w.if-text-at-ne34.false)
          ∙ rw other refl)
      | else-loop-at-test w ↦ sym (c.loop-at.invariant.same ∙ ap (option_and_then (name_behind name at (length text))) (ended-at text at (omega (arith, w.loop-at-test.false))))
    ]
