use Rattle.std.proofs.Common.{refl, sym, ◌∙◌, arith}
use Rattle.outside.specs.Calls.{untouched_none}
use Rattle.series_stack.specs.Saves.{entries_of}
use Rattle.cli_stack.proofs.Running.{cut-comes, cut-fails, cut-is, cut-quiet}
use Rattle.cli_stack.proofs.closing.close_cut.Goals as goal

pub returns-in-Ok : goal.returns-in-Ok
returns-in-Ok g c a b s same =
    let is = sym c.is_cut.ensures ∙ c.if-is_cut.true in
    rw is (cut-comes c.args.cut c.from.result s c.args.applied (entries_of c.args.save.now) (cut-is c.args.cut is c.requires.cut) same c.from.ensures c.in-Ok.field-0 (c.in-Ok.ensures b))

pub returns-in-Err : goal.returns-in-Err
returns-in-Err g c a b s same = rw (sym c.is_cut.ensures ∙ c.if-is_cut.true) (cut-fails c.in-Err.fault c.args.cut c.from-in-Err.result s c.args.applied (entries_of c.args.save.now) same c.from-in-Err.ensures (c.in-Err.ensures b))

pub returns-else-is_cut : goal.returns-else-is_cut
returns-else-is_cut g c a b s same = rw (sym c.is_cut.ensures ∙ c.if-is_cut.false) (record { is = c.from-else-is_cut.ensures; tree = untouched_none (g.T.Tree.view c.args.tree.now); out = refl })

pub undo-requires-clause-save : goal.undo-requires-clause-save
undo-requires-clause-save g c = c.requires.save

pub undo-requires-clause-quiet : goal.undo-requires-clause-quiet
undo-requires-clause-quiet g c = cut-quiet c.args.cut (sym c.is_cut.ensures ∙ c.if-is_cut.true) c.requires.quiet

pub overflow_add-applied : goal.overflow_add-applied
overflow_add-applied g c = omega (arith, c.requires.applied)
