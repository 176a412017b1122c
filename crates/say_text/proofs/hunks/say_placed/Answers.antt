use Rattle.std.proofs.Common.{ℤ, ◌∙◌, ◌&&◌, not, sym, true, false}
use Rattle.patch_options.specs.PlainJob.{plain_options}
use Rattle.say_text.specs.Messages.{is_told, placed_line}
use Rattle.say_text.proofs.Saying.{by_one, told, untold, passed, passed_both}
use Rattle.say_text.proofs.hunks.say_placed.Goals as goal

pub returns-then-not-is_told : goal.returns-then-not-is_told
returns-then-not-is_told g c = record {
  writes = let o = plain_options c.args.options.now in
      untold (g.O.Sink.view c.args.out.now) o (is_told o.verbose c.args.fuzz c.args.offset) _ (placed_line c.args.number c.args.at c.args.fuzz c.args.offset)
      (sym (passed (λ (z : ℤ). not o.silent && is_told o.verbose c.args.fuzz z) c.args.offset false c.ranges.offset c.if-not-is_told.ensures));
  rest = g.met.O.Sink.rest_none c.args.out.now;
}

pub returns : goal.returns
returns g c = record {
  writes = let o = plain_options c.args.options.now in
      let line = placed_line c.args.number c.args.at c.args.fuzz c.args.offset in
      told o (is_told o.verbose c.args.fuzz c.args.offset) c.put_all.result line
      (sym (passed (λ (z : ℤ). not o.silent && is_told o.verbose c.args.fuzz z) c.args.offset true c.ranges.offset c.if-not-is_told.ensures))
      (by_one c.put_all.result c.as_slice.result.now line c.put_all.ensures.call c.put_all.ensures.received c.put_all.ensures.failed
      (c.as_slice.ensures.value ∙ passed_both (λ (x y : ℤ). placed_line c.args.number x c.args.fuzz y) c.args.at c.args.offset c.placed_line-line.result.items c.ranges.at c.ranges.offset c.placed_line-line.ensures));
  rest = c.put_all.ensures.rest;
}
