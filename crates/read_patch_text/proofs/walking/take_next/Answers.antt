use Rattle.std.proofs.Common.{inr, refl, subst, sym, ◌∙◌}
use Rattle.patch_header.specs.Steps.{Comes, IsFirstOpening, KnowsNoDot, LiesBehind}
use Rattle.read_patch_text.proofs.HeaderLemmas.{header-from}
use Rattle.read_patch_text.proofs.Passed.{binary-comes, binary-fault, end-comes, number-fits, patch-fails, some-isnt, value-isnt}
use Rattle.read_patch_text.proofs.TextLaws.{quiet-end}
use Rattle.read_patch_text.proofs.TextLoops.{next-end}
use Rattle.read_patch_text.proofs.Taking.{failed-behind, next_taken}
use Rattle.std.proofs.lemmas.Result.{err_from_is_err_and}
use Rattle.read_patch_text.proofs.walking.take_next.Goals as goal

pub returns-then-here-text : goal.returns-then-here-text
returns-then-here-text g c = record {
  progress = tt;
  behind = tt;
  comes = tt;
  ends = λ e. (quiet-end c.args.ways c.args.text.now c.args.here.at c.if-here-text.true, refl);
  none = λ e. next-end c.args.ways c.args.text.now c.args.here.at c.args.here.number c.if-here-text.true;
  fails = tt;
  malformed = λ line kind e. absurd (value-isnt _ _ _ refl e);
}

pub returns-in-End : goal.returns-in-End
returns-in-End g c = record {
  progress = tt;
  behind = tt;
  comes = tt;
  ends = λ e. (subst (Comes c.args.ways c.args.text.now c.args.here.at c.args.here.number) c.in-End.is c.header_from-step.ensures.comes, refl);
  none = λ e. end-comes c.args.ways c.args.text.now c.args.here.at c.args.here.number (sym c.in-End.is ∙ c.header_from-step.ensures.exact);
  fails = tt;
  malformed = λ line kind e. absurd (value-isnt _ _ _ refl e);
}

pub returns-in-Binary : goal.returns-in-Binary
returns-in-Binary g c = record {
  progress = tt;
  behind = tt;
  comes = tt;
  ends = tt;
  none = tt;
  fails = binary-comes c.bad.result c.args.ways c.args.text.now c.args.here.at c.args.here.number c.in-Binary.line (sym c.in-Binary.is ∙ c.header_from-step.ensures.exact) c.bad.ensures;
  malformed = λ line kind e. binary-fault c.args.ways c.args.text.now c.args.here.at c.args.here.number c.in-Binary.line c.bad.result _ line kind (subst (Comes c.args.ways c.args.text.now c.args.here.at c.args.here.number) c.in-Binary.is c.header_from-step.ensures.comes) c.bad.ensures refl e;
}

pub returns-in_ok-next-in-Found : goal.returns-in_ok-next-in-Found
returns-in_ok-next-in-Found g c = record {
  progress = c.in_ok-next-in-Found.ensures.progress;
  behind = c.in_ok-next-in-Found.ensures.behind;
  comes = next_taken g.W.PatchWalk.Has c.args.ways c.args.text.now c.args.here _ c.in-Found.header c.args.kept.now _ c.in_ok-next-in-Found.next (sym c.in-Found.is ∙ c.header_from-step.ensures.exact) (subst (Comes c.args.ways c.args.text.now c.args.here.at c.args.here.number) c.in-Found.is c.header_from-step.ensures.comes) c.in_ok-next-in-Found.ensures.taken;
  ends = λ e. absurd (some-isnt _ _ refl e);
  none = λ e. absurd (some-isnt _ _ refl e);
  fails = tt;
  malformed = λ line kind e. absurd (value-isnt _ _ _ refl e);
}

pub returns-in_err-next-in-Found : goal.returns-in_err-next-in-Found
returns-in_err-next-in-Found g c =
    let p = err_from_is_err_and c.from_residual.result c.from_residual.ensures.1 in
    let text = c.args.text.now in
    let h = c.in-Found.header in
    let e = c.in_err-next-in-Found.field-0.0 in
    let fails = patch-fails e c.args.ways text c.args.here.at c.args.here.number h (sym c.in-Found.is ∙ c.header_from-step.ensures.exact) c.in_err-next-in-Found.ensures.fails in
    rw (p.1, p.2) (record {
      progress = tt;
      behind = tt;
      comes = tt;
      ends = tt;
      none = tt;
      fails = fails;
      malformed = λ line kind is. inr (h, subst (Comes c.args.ways text c.args.here.at c.args.here.number) c.in-Found.is c.header_from-step.ensures.comes, failed-behind e text h line kind is c.in_err-next-in-Found.ensures.fails);
    })

pub take-requires-clause-header : goal.take-requires-clause-header
take-requires-clause-header g c =
    let text = c.args.text.now in
    let at = c.args.here.at in
    let line = c.args.here.number in
    let h = c.in-Found.header in
    let first : IsFirstOpening c.args.ways text at line h = rw c.in-Found.is at c.header_from-step.ensures.comes in
    let lies : LiesBehind c.args.ways text at line h = rw c.in-Found.is at c.header_from-step.ensures.lies in
    header-from c.args.ways text at line h first lies

pub take-requires-clause-known : goal.take-requires-clause-known
take-requires-clause-known g c = λ e. subst (KnowsNoDot c.args.text.now) c.in-Found.is (c.header_from-step.ensures.known e)

pub take-requires-clause-numbers : goal.take-requires-clause-numbers
take-requires-clause-numbers g c = c.requires.progress.numbers

pub take-requires-clause-few : goal.take-requires-clause-few
take-requires-clause-few g c = c.requires.progress.few

pub header_from-step-requires-clause-small : goal.header_from-step-requires-clause-small
header_from-step-requires-clause-small g c = number-fits c.args.here.number c.args.here.at _ c.requires.progress.numbers c.requires.progress.within c.if-here-text.false c.requires.short
