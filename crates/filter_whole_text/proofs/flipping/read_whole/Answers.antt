use Rattle.outside.proofs.Exits.{if_ok_none, on_ok_none}
use Rattle.filter_whole_text.specs.Flips.{IsUnread}
use Rattle.filter_whole_text.proofs.SplitRun.{passed}
use Rattle.filter_whole_text.proofs.flipping.read_whole.Goals as goal

pub returns-in_err-text : goal.returns-in_err-text
returns-in_err-text g c = record {
  untouched = c.read_input.ensures.untouched;
  source = c.read_input.ensures.passes;
  unread = c.read_input.ensures.source;
  end = on_ok_none _ _ c.from_residual.result c.from_residual.ensures.1;
  taken = c.read_input.ensures.taken;
  set = if_ok_none _ _ c.from_residual.result c.from_residual.ensures.1;
  refused = passed c.from_residual.result _ (λ e. IsUnread e c.args.input.now (g.T.Tree.view c.args.tree.now) (g.T.Tree.view c.read_input.new.tree) (g.I.Source.view c.args.source.now) (g.I.Source.view c.read_input.new.source)) c.from_residual.ensures.1
      c.in_err-text.ensures.cause;
}

pub returns-in_err-set : goal.returns-in_err-set
returns-in_err-set g c = record {
  untouched = c.read_input.ensures.untouched;
  source = c.read_input.ensures.passes;
  unread = c.read_input.ensures.source;
  end = on_ok_none _ _ c.from_residual-in_err-set.result c.from_residual-in_err-set.ensures.1;
  taken = c.read_input.ensures.taken;
  set = if_ok_none _ _ c.from_residual-in_err-set.result c.from_residual-in_err-set.ensures.1;
  refused = let text = c.in_ok-text.text.items in
      passed c.from_residual-in_err-set.result _ (λ e. IsUnread e c.args.input.now (g.T.Tree.view c.args.tree.now) (g.T.Tree.view c.read_input.new.tree) (g.I.Source.view c.args.source.now) (g.I.Source.view c.read_input.new.source)) c.from_residual-in_err-set.ensures.1
      (record { text = text; given = c.in_ok-text.ensures.text; why = c.in_err-set.ensures.refused });
}

pub returns : goal.returns
returns g c = record {
  untouched = c.read_input.ensures.untouched;
  source = c.read_input.ensures.passes;
  unread = c.read_input.ensures.source;
  end = c.in_ok-text.ensures.end;
  taken = c.read_input.ensures.taken;
  set = let text = c.in_ok-text.text.items in
      record {
        text = text;
        given = c.in_ok-text.ensures.text;
        free = c.in_ok-set.ensures.refused;
        read = c.in_ok-set.ensures.read;
      };
  refused = tt;
}
