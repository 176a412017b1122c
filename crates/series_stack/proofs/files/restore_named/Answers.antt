use Rattle.std.proofs.Common.{List, Option, [], ap, subst, sym, ℕ, ◌∷◌}
use Rattle.series_stack.specs.Restoring.{Restores}
use Rattle.series_stack.specs.Found.{entry_with}
use Rattle.std.specs.Option.{option_copied}
use Rattle.series_stack.proofs.files.restore_named.Goals as goal

pub returns-in-Some : goal.returns-in-Some
returns-in-Some g c = record {
  makes = subst (λ (o : Option (List ℕ)). Restores (g.T.Tree.view c.args.tree.now) (g.T.Tree.view c.put_file.new.tree) c.put_file.result (entry_with c.args.name.now o ∷ [])) (sym (ap option_copied c.in-Some.is)) c.put_file.ensures.makes;
  cause = c.put_file.ensures.cause;
}

pub returns-in-None : goal.returns-in-None
returns-in-None g c = record {
  makes = subst (λ (o : Option (List ℕ)). Restores (g.T.Tree.view c.args.tree.now) (g.T.Tree.view c.take_away.new.tree) c.take_away.result (entry_with c.args.name.now o ∷ [])) (sym (ap option_copied c.in-None.is)) c.take_away.ensures.makes;
  cause = c.take_away.ensures.cause;
}
