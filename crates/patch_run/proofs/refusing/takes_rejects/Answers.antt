use Rattle.std.proofs.Common.{not, sym, ◌∙◌, ap}
use Rattle.std.proofs.lemmas.Bool.{false≢true}
use Rattle.outside.specs.Calls.{untouched_none}
use Rattle.patch_run.proofs.refusing.takes_rejects.Goals as goal

pub returns-then-not-saves_refused : goal.returns-then-not-saves_refused
returns-then-not-saves_refused g c = record {
  untouched = untouched_none (g.T.Tree.view c.args.tree.now);
  cause = tt;
  due = λ f told. sym c.if-not-saves_refused.true ∙ c.saves_refused.ensures;
  may = λ is. absurd (false≢true is);
}

pub returns-in-Ok : goal.returns-in-Ok
returns-in-Ok g c = record {
  untouched = c.is_barred.ensures.untouched;
  cause = tt;
  due = λ f told. ap (λ b. not b) (c.in-Ok.ensures.free f told) ∙ sym c.if-not-saves_refused.false ∙ c.saves_refused.ensures;
  may = λ is. sym c.saves_refused.ensures ∙ c.if-not-saves_refused.false;
}

pub saves_refused-requires : goal.saves_refused-requires
saves_refused-requires g c = record { turn = c.requires.turn }
