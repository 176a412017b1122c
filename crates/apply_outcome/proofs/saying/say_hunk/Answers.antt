use Rattle.std.proofs.Common.{◌≡◌, ◌≤◌, ◌^◌, subst, sym, ap, ◌∙◌, rules, arith, w64, to_z, of_z, ⊎_elim}
use Rattle.std.specs.Prelude.{ℤ, pos, ◌+ℤ◌, Bool}
use mir.Val.{SFits}
use Rattle.outside.proofs.Writing.{writes_is}
use Rattle.hunk_core.specs.declared.Verdict.{Verdict}
use Rattle.hunk_core.specs.PlainHunk.{hunk_of}
use Rattle.hunk_core.specs.Turned.{turned, base}
use Rattle.hunk_core.proofs.TurnedLemmas.{turned-base}
use Rattle.hunk_apply.specs.Session.{IsTried}
use Rattle.patch_options.specs.PlainJob.{plain_options}
use Rattle.apply_task.specs.LineEnds.{ends_otherwise}
use Rattle.say_text.specs.Messages.{silenced, failed_line}
use Rattle.apply_outcome.specs.HunksSaid.{hunk_said}
use Rattle.apply_outcome.proofs.Telling.{moved-line, placed-passed, line-fits, moved-fits}
use Rattle.hunk_core.specs.declared.Verdict.TheVariants.{Untried, Ignored}
use Rattle.apply_outcome.proofs.saying.say_hunk.Goals as goal

pub overflow_add-line : goal.overflow_add-line
overflow_add-line g c = moved-fits c.in-At.line c.args.net (subst IsTried c.in-At.is c.requires.tried) c.requires.low c.requires.high

pub overflow_add-base : goal.overflow_add-base
overflow_add-base g c = moved-fits c.base.result c.args.net (omega (arith, c.base.ensures.small)) c.requires.low c.requires.high

pub overflow_cast-line : goal.overflow_cast-line
overflow_cast-line g c = line-fits c.in-At.line (subst IsTried c.in-At.is c.requires.tried)

pub returns-in-At : goal.returns-in-At
returns-in-At g c = record {
  writes = (
      let o = plain_options c.args.options.now in
      let net = c.args.net in
      let h = turned c.args.side (hunk_of c.args.text.now c.args.hunk.now) in
      let at = c.in-At in
      let small : at.line ≤ 2 ^ 41 = subst IsTried at.is c.requires.tried in
      let fits : SFits w64 at.offset = search rules in
      let moved : to_z w64 (of_z w64 (to_z w64 at.line +ℤ to_z w64 (of_z w64 net))) ≡ pos at.line +ℤ net = moved-line at.line net small c.requires.low c.requires.high in
      writes_is c.say_placed.result (hunk_said o c.args.end c.args.number net h c.args.verdict) c.say_placed.ensures.writes
      (placed-passed o c.args.number (to_z w64 (of_z w64 (to_z w64 at.line +ℤ to_z w64 (of_z w64 net)))) (pos at.line +ℤ net) at.fuzz at.offset fits moved
      ∙ ap (λ (v : Verdict). hunk_said o c.args.end c.args.number net h v) (sym at.is)));
  rest = c.say_placed.ensures.rest;
}

pub returns-in-Nowhere : goal.returns-in-Nowhere
returns-in-Nowhere g c = record {
  writes = (
      let o = plain_options c.args.options.now in
      let net = c.args.net in
      let h = turned c.args.side (hunk_of c.args.text.now c.args.hunk.now) in
      let line = c.base.result in
      let is : line ≡ base h = c.base.ensures.is ∙ sym (turned-base c.args.text.now c.args.side c.args.hunk.now) in
      let moved : to_z w64 (of_z w64 (to_z w64 line +ℤ to_z w64 (of_z w64 net))) ≡ pos (base h) +ℤ net =
      moved-line line net (omega (arith, c.base.ensures.small)) c.requires.low c.requires.high ∙ ap (λ n. pos n +ℤ net) is in
      writes_is c.say_failed.result (hunk_said o c.args.end c.args.number net h c.args.verdict) c.say_failed.ensures.writes
      (ap (λ (b : Bool). silenced o (failed_line c.args.number (to_z w64 (of_z w64 (to_z w64 line +ℤ to_z w64 (of_z w64 net)))) b)) c.ends_otherwise-apart.ensures
      ∙ ap (λ (z : ℤ). silenced o (failed_line c.args.number z (ends_otherwise c.args.end h))) moved
      ∙ ap (λ (v : Verdict). hunk_said o c.args.end c.args.number net h v) (sym c.in-Nowhere.is)));
  rest = c.say_failed.ensures.rest;
}

pub returns-in-Untried : goal.returns-in-Untried
returns-in-Untried g c = record {
  rest = g.met.O.Sink.rest_none _;
  writes = absurd (⊎_elim (λ (e : c.args.verdict ≡ Untried). subst IsTried e c.requires.tried) (λ (e : c.args.verdict ≡ Ignored). subst IsTried e c.requires.tried) c.in-Untried.is);
}

pub base-requires : goal.base-requires
base-requires g c = omega (arith, c.args.hunk.now.body.ok.0, c.requires.lawful.few)

pub ends_otherwise-apart-requires : goal.ends_otherwise-apart-requires
ends_otherwise-apart-requires g c = record { lawful = c.requires.lawful }
