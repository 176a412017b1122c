use Rattle.std.proofs.Common.{List, [], inl, refl, subst, ℕ, ◌∷◌}
use Rattle.series_stack.specs.Restoring.{Restores}
use Rattle.series_stack.specs.Found.{entry_with}
use Rattle.std.specs.Option.{option_copied}
use Rattle.series_stack.proofs.Steps.{untouched_fails}
use Rattle.outside.specs.Calls.{untouched_none}
use Rattle.series_stack.proofs.files.restore_entry.Goals as goal

pub returns-in-Err : goal.returns-in-Err
returns-in-Err g c = record {
  makes = untouched_fails (untouched_none (g.T.Tree.view c.args.tree.now)) c.requires.quiet _ _;
  cause = inl refl;
}

pub returns-in-Ok : goal.returns-in-Ok
returns-in-Ok g c = record {
  makes = subst (λ (n : List ℕ). Restores (g.T.Tree.view c.args.tree.now) (g.T.Tree.view c.restore_named.new.tree) c.restore_named.result (entry_with n (option_copied c.args.bytes) ∷ [])) c.in-Ok.ensures.name c.restore_named.ensures.makes;
  cause = c.restore_named.ensures.cause;
}

pub restore_named-requires-clause-quiet : goal.restore_named-requires-clause-quiet
restore_named-requires-clause-quiet g c = c.requires.quiet

pub restore_named-requires-clause-lasting : goal.restore_named-requires-clause-lasting
restore_named-requires-clause-lasting g c = c.in-Ok.ensures.lasting
