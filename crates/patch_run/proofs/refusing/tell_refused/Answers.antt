use Rattle.std.proofs.Common.{ℕ, Bool, List, [], Option, if◌then◌else◌, Some, None, sym, ◌∙◌, ap}
use Rattle.std.specs.Option.{option_copied}
use Rattle.outside.proofs.Writing.{writes_is}
use Rattle.say_text.specs.Messages.{refused_line}
use Rattle.apply_outcome.specs.ContextView.{plain_context}
use Rattle.patch_run.specs.OnePatch.{total, shown_reject}
use Rattle.patch_run.specs.Refused.{refused_said}
use Rattle.patch_run.proofs.refusing.tell_refused.Goals as goal

pub returns-then-is_bare-clause-rest : goal.returns-then-is_bare-clause-rest
returns-then-is_bare-clause-rest g c = g.met.O.Sink.rest_none _

pub returns : goal.returns
returns g c = record {
  writes = (
      let t = plain_context c.args.turn.now in
      let text = c.args.turn.now.task.set.now.text in
      let reject : Option (List ℕ) = if c.args.saved then Some (shown_reject c.args.target.now) else None in
      writes_is c.say_refused.result (refused_said t c.args.target.now c.args.saved) c.say_refused.ensures.writes
      (ap (λ (n : ℕ). refused_line n (option_copied c.named_reject-reject.result)) (c.hunks.ensures text)
      ∙ ap (λ (o : Option (List ℕ)). refused_line (total t) o) c.named_reject-reject.ensures
      ∙ sym (ap (λ (b : Bool). if b then [] else refused_line (total t) reject) (sym (c.is_bare.ensures text) ∙ c.if-is_bare.false))));
  rest = c.say_refused.ensures.rest;
}

pub is_bare-requires : goal.is_bare-requires
is_bare-requires g c = c.requires.turn.task.fit.hunks

pub hunks-requires : goal.hunks-requires
hunks-requires g c = c.requires.turn.task.fit.hunks

pub named_reject-reject-requires : goal.named_reject-reject-requires
named_reject-reject-requires g c = c.requires.named
