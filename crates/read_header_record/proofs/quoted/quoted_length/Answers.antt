use Rattle.std.proofs.Common.{ℕ, ◌≡◌, ◌+◌, length, get_or, Some, sym, ap, ◌∙◌, arith, length-drop}
use Rattle.std.specs.Prelude.{option_map, sum_by}
use Rattle.std.proofs.lemmas.List.{take_rest}
use Rattle.read_header_record.specs.Quoted.{spelling}
use Rattle.read_header_record.proofs.Quotes.{none-at, one-at, quote-at, ended-at, size-on}
use Rattle.read_header_record.proofs.quoted.quoted_length.Goals as goal
use Rattle.read_header_record.proofs.quoted.quoted_length.Goals.{then-loop-at-test+else-bytes-at-ne34, else-loop-at-test}

pub returns-in-None-clause-is : goal.returns-in-None-clause-is
returns-in-None-clause-is c =
    let bytes = c.args.bytes.now in
    let at = c.loop-at.at in
    let none = sym (c.spelling.ensures.is ∙ ap spelling (take_rest bytes at)) ∙ c.in-None.is in
    sym (c.loop-at.invariant.same ∙ ap (option_map (λ ss. at + 1 + sum_by (λ s. s.size) ss)) (none-at bytes at c.loop-at-test.true c.if-bytes-at-ne34.true none))

pub loop-at-preserved : goal.loop-at-preserved
loop-at-preserved c =
    let bytes = c.args.bytes.now in
    let at = c.loop-at.at in
    let one = c.in-Some.one in
    let some = sym (c.spelling.ensures.is ∙ ap spelling (take_rest bytes at)) ∙ c.in-Some.is in
    record {
      within = omega (arith, c.in-Some.ensures.within.1, c.loop-at-test.true, ap length (take_rest bytes at), length-drop at bytes);
      same = c.loop-at.invariant.same
          ∙ ap (option_map (λ ss. at + 1 + sum_by (λ s. s.size) ss)) (one-at bytes at one c.loop-at-test.true c.if-bytes-at-ne34.true some c.in-Some.ensures.within.0)
          ∙ size-on at one _;
    }

pub returns-then-at-bytes-clause-is : goal.returns-then-at-bytes-clause-is
returns-then-at-bytes-clause-is c =
    let bytes = c.args.bytes.now in
    let at = c.loop-at.at in
    let here : get_or bytes at 0 ≡ 34 = elim c.loop-at-test.branch [
      | then-loop-at-test+else-bytes-at-ne34 w ↦ w.if-bytes-at-ne34.false
      | else-loop-at-test w ↦ absurd (omega (arith, c.if-at-bytes.true, w.loop-at-test.false))
    ] in
    let none : at + 1 + 0 ≡ at + 1 = omega arith in
    sym (c.loop-at.invariant.same ∙ ap (option_map (λ ss. at + 1 + sum_by (λ s. s.size) ss)) (quote-at bytes at c.if-at-bytes.true here) ∙ ap (λ (n : ℕ). Some n) none)

pub returns-else-at-bytes-clause-is : goal.returns-else-at-bytes-clause-is
returns-else-at-bytes-clause-is c =
    let bytes = c.args.bytes.now in
    let at = c.loop-at.at in
    sym (c.loop-at.invariant.same ∙ ap (option_map (λ ss. at + 1 + sum_by (λ s. s.size) ss)) (ended-at bytes at (omega (arith, c.if-at-bytes.false))))
