use Rattle.std.proofs.Common.{refl, sym, ◌∙◌}
use Rattle.std.proofs.lemmas.Option.{none-some}
use Rattle.outside.specs.FinderView.{finder_passes_none}
use Rattle.outside.specs.SinkView.{sink_passes_none}
use Rattle.cli_filter.proofs.sifting.put_grepped.Goals as goal

pub returns-in-Some : goal.returns-in-Some
returns-in-Some g c = record {
  finder = c.grep_patches.ensures.finder;
  passes = c.grep_patches.ensures.passes;
  rest = c.grep_patches.ensures.rest;
  received = rw c.in-Some.is c.grep_patches.ensures.received;
  failed = rw c.in-Some.is c.grep_patches.ensures.failed;
  cause = c.grep_patches.ensures.cause;
  unasked = rw c.in-Some.is c.grep_patches.ensures.unasked;
  none = λ none. absurd (none-some _ (sym none ∙ c.in-Some.is));
}

pub returns-in-None : goal.returns-in-None
returns-in-None g c = record {
  finder = finder_passes_none (g.F.Finder.view c.args.finder.now);
  passes = sink_passes_none (g.O.Sink.view c.args.out.now);
  rest = g.met.O.Sink.rest_none c.args.out.now;
  received = rw c.in-None.is tt;
  failed = rw c.in-None.is tt;
  cause = tt;
  unasked = rw c.in-None.is tt;
  none = λ none. (refl, refl, refl);
}
