use Rattle.std.proofs.Common.{refl, sym, ◌∙◌}
use Rattle.std.proofs.lemmas.Option.{none-some}
use Rattle.cli_filter.proofs.sifting.put_listed.Goals as goal

pub returns-in-Some : goal.returns-in-Some
returns-in-Some g c = record {
  writes = rw c.in-Some.is c.list_patches.ensures.writes;
  none = λ none. absurd (none-some _ (sym none ∙ c.in-Some.is));
  rest = c.list_patches.ensures.rest;
}

pub returns-in-None : goal.returns-in-None
returns-in-None g c = record {
  writes = rw c.in-None.is tt;
  none = λ none. (refl, refl);
  rest = g.met.O.Sink.rest_none c.args.out.now;
}
