use Rattle.std.proofs.Common.{refl}
use Rattle.outside.proofs.Exits.{if_ok_none, on_ok_none}
use Rattle.cli_tool_words.specs.PlainJobs.{plain_select}
use Rattle.outside.specs.Calls.{untouched_both}
use Rattle.filter_whole_text.proofs.Gathering.{fault-is}
use Rattle.filter_whole_text.proofs.Taking.{none-given, text-refused, text-cause, given-is, given-refused, selection-cause}
use Rattle.filter_whole_text.proofs.opening.read_given.Goals as goal

pub returns-in_err-text : goal.returns-in_err-text
returns-in_err-text g c = record {
  untouched = c.read_input.ensures.untouched;
  source = c.read_input.ensures.passes;
  unread = c.read_input.ensures.source;
  read = on_ok_none _ _ c.from_residual.result c.from_residual.ensures.1;
  taken = c.read_input.ensures.taken;
  given = if_ok_none _ _ c.from_residual.result c.from_residual.ensures.1;
  refused = let i = c.args.input.now in
      let e = c.in_err-text.field-0.0 in
      rw (fault-is c.from_residual.result e c.from_residual.ensures.1)
      (λ refuses f left told. none-given i (plain_select c.args.select.now) f left e (text-refused e i (plain_select c.args.select.now) _ _ _ _ c.in_err-text.ensures.cause refuses f left told));
  cause = let e = c.in_err-text.field-0.0 in
      rw (fault-is c.from_residual.result e c.from_residual.ensures.1) (text-cause e c.args.input.now (plain_select c.args.select.now) _ _ _ _ c.in_err-text.ensures.cause);
  skips = refl;
}

pub returns-in_err-add_patterns : goal.returns-in_err-add_patterns
returns-in_err-add_patterns g c = record {
  untouched = untouched_both c.read_input.ensures.untouched c.add_patterns.ensures.untouched;
  source = c.read_input.ensures.passes;
  unread = c.read_input.ensures.source;
  read = on_ok_none _ _ c.from_residual-in_err-add_patterns.result c.from_residual-in_err-add_patterns.ensures.1;
  taken = c.read_input.ensures.taken;
  given = if_ok_none _ _ c.from_residual-in_err-add_patterns.result c.from_residual-in_err-add_patterns.ensures.1;
  refused = let t = g.T.Tree.view c.args.tree.now in
      let u = g.T.Tree.view c.read_input.new.tree in
      let a = g.I.Source.view c.args.source.now in
      let e = c.in_err-add_patterns.field-0.0 in
      rw (fault-is c.from_residual-in_err-add_patterns.result e c.from_residual-in_err-add_patterns.ensures.1)
      (given-refused c.args.input.now (plain_select c.args.select.now) t u a c.read_input.ensures.untouched c.in_ok-text.text.items c.in_ok-text.ensures.text e _ c.in_err-add_patterns.ensures.cause);
  cause = let t = g.T.Tree.view c.args.tree.now in
      let u = g.T.Tree.view c.read_input.new.tree in
      let a = g.I.Source.view c.args.source.now in
      let b = g.I.Source.view c.read_input.new.source in
      let e = c.in_err-add_patterns.field-0.0 in
      rw (fault-is c.from_residual-in_err-add_patterns.result e c.from_residual-in_err-add_patterns.ensures.1)
      (selection-cause e c.args.input.now (plain_select c.args.select.now) t u _ a b c.read_input.ensures.untouched c.in_err-add_patterns.ensures.cause);
  skips = c.add_patterns.ensures.skips;
}

pub returns : goal.returns
returns g c = record {
  untouched = untouched_both c.read_input.ensures.untouched c.add_patterns.ensures.untouched;
  source = c.read_input.ensures.passes;
  unread = c.read_input.ensures.source;
  read = c.in_ok-text.ensures.end;
  taken = c.read_input.ensures.taken;
  given = let t = g.T.Tree.view c.args.tree.now in
      let u = g.T.Tree.view c.read_input.new.tree in
      let a = g.I.Source.view c.args.source.now in
      given-is c.args.input.now (plain_select c.args.select.now) t u a c.read_input.ensures.untouched c.in_ok-text.text.items c.in_ok-text.ensures.text (plain_select c.add_patterns.new.select) c.in_ok-add_patterns.ensures.selection;
  refused = tt;
  cause = tt;
  skips = c.add_patterns.ensures.skips;
}
