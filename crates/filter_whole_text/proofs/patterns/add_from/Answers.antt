use Rattle.std.proofs.Common.{[], ℕ, map, refl, sym, Vec, Global}
use Rattle.std.proofs.lemmas.List.{append-nil}
use Rattle.outside.specs.Calls.{untouched_none}
use Rattle.filter_whole_text.proofs.patterns.add_from.Goals as goal

pub returns-in-Some : goal.returns-in-Some
returns-in-Some g c = record {
  untouched = c.add_file.ensures.untouched;
  added = rw c.in-Some.is c.add_file.ensures.added;
  cause = rw c.in-Some.is c.add_file.ensures.cause;
}

pub returns-in-None : goal.returns-in-None
returns-in-None g c = record {
  untouched = untouched_none (g.T.Tree.view c.args.tree.now);
  added = rw c.in-None.is (λ f told. ([], refl, sym (append-nil (map (λ (p : Vec ℕ Global). p.items) c.args.patterns.now.items))));
  cause = tt;
}
