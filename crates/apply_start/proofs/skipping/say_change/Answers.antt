use Rattle.std.proofs.Common.{Bool, sym, ap, ◌∙◌, if◌then◌else◌}
use Rattle.outside.proofs.Writing.{writes_is}
use Rattle.patch_options.specs.PlainJob.{plain_options}
use Rattle.say_text.specs.Messages.{skipping_line}
use Rattle.apply_start.specs.Skipping.{failing_line}
use Rattle.apply_start.proofs.skipping.say_change.Goals as goal

pub returns-then-is_failing : goal.returns-then-is_failing
returns-then-is_failing g c = record {
  writes = (
      let o = plain_options c.args.options.now in
      let change = c.args.change.now in
      writes_is _ _ c.say_failing.ensures.writes (sym (ap (λ (b : Bool). if b then failing_line o change.line change.name else skipping_line change.line) (sym c.is_failing.ensures ∙ c.if-is_failing.true))));
  rest = c.say_failing.ensures.rest;
}

pub returns-else-is_failing : goal.returns-else-is_failing
returns-else-is_failing g c = record {
  writes = (
      let o = plain_options c.args.options.now in
      let change = c.args.change.now in
      writes_is _ _ c.say_skipped.ensures.writes (sym (ap (λ (b : Bool). if b then failing_line o change.line change.name else skipping_line change.line) (sym c.is_failing.ensures ∙ c.if-is_failing.false))));
  rest = c.say_skipped.ensures.rest;
}
