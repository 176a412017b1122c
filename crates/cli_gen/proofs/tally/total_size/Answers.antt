use Rattle.std.proofs.Common.{ap, ◌∙◌, refl}
use Rattle.std.specs.Prelude.{get_or}
use Rattle.outside.specs.Calls.{untouched_both, untouched_none}
use Rattle.cli_gen.specs.Summary.{capped}
use Rattle.cli_gen.proofs.Sizes.{size_told, sizes_more, sizes_all}
use Rattle.std.proofs.lemmas.Bool.{false≢true}
use Rattle.outside.proofs.Exits.{if_ok_none}
use Rattle.outside.proofs.Views.{rises_then}
use Rattle.cli_gen.proofs.tally.total_size.Goals as goal

pub returns-in_err-size : goal.returns-in_err-size
returns-in_err-size g c = record {
  untouched = untouched_both c.loop-k.invariant.untouched c.in_err-size.ensures.untouched;
  cause = λ is. rises_then (g.T.Tree.view c.args.tree.now) (g.T.Tree.view c.loop-k.tree) (g.T.Tree.view c.size.new.self) c.loop-k.invariant.untouched.passes (c.in_err-size.ensures.call.cause refl);
  size = if_ok_none _ _ c.from_residual.result c.from_residual.ensures.1;
}

pub loop-k-preserved : goal.loop-k-preserved
loop-k-preserved g c = record {
  untouched = untouched_both c.loop-k.invariant.untouched c.in_ok-size.ensures.untouched;
  size = λ f told. c.saturating_add-total.ensures
      ∙ sizes_more f c.args.places.now c.loop-k.k c.loop-k.total c.unwrap_or.result c.index-places-k.result c.loop-k-test.true (c.loop-k.invariant.size f told)
      (c.unwrap_or.ensures ∙ size_told f (get_or c.args.places.now c.loop-k.k c.index-places-k.result).name c.in_ok-size.size (c.in_ok-size.ensures.size f (c.loop-k.invariant.untouched.told ∙ told)));
}

pub returns : goal.returns
returns g c = record {
  size = λ f count told are. c.loop-k.invariant.size f told ∙ ap capped (sizes_all f c.args.places.now count c.loop-k.k c.loop-k-test.false are);
  cause = λ is. absurd (false≢true is);
  untouched = c.loop-k.invariant.untouched;
}

pub loop-k-init : goal.loop-k-init
loop-k-init g c = record { untouched = untouched_none (g.T.Tree.view c.args.tree.now); size = λ f told. refl }
