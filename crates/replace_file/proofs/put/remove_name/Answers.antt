use Rattle.std.proofs.Common.{inl, refl, inr, sym, ◌∙◌}
use Rattle.std.proofs.lemmas.Option.{same_Some}
use Rattle.std.proofs.lemmas.Result.{on_ok_weaker, IfOk-from_err}
use Rattle.outside.proofs.Quiet.{drop_either, seals_drop}
use Rattle.replace_file.proofs.Removing.{drop_failed, spoilt_same, removed_quiet, removed}
use Rattle.outside.proofs.Views.{run_on}
use Rattle.replace_file.proofs.Runs.{run_first, on_ok_from}
use Rattle.replace_file.proofs.put.remove_name.Goals as goal

pub returns-in_err-drop_name-clause-tells : goal.returns-in_err-drop_name-clause-tells
returns-in_err-drop_name-clause-tells g c f h told now = inl (spoilt_same (g.T.Tree.view c.args.tree.now) (g.T.Tree.view c.drop_name.new.self) c.args.name.now c.requires.lasting c.in_err-drop_name.ensures.err f h told now)

pub returns-clause-quiet : goal.returns-clause-quiet
returns-clause-quiet g c =
    let e = c.drop_name.ensures in
    let d = c.fix_names.ensures in
    on_ok_weaker c.fix_names.result (removed_quiet c.drop_name.result c.fix_names.result (g.T.Tree.view c.args.tree.now) (g.T.Tree.view c.drop_name.new.self) (g.T.Tree.view c.fix_names.new.self) c.args.name.now c.requires.quiet e.call (drop_either c.drop_name.result (g.T.Tree.view c.args.tree.now) (g.T.Tree.view c.drop_name.new.self) c.args.name.now e.call.passes e.ok e.err e.quiet e.crash) c.in_ok-drop_name.ensures.ok d.call d.same d.crash (d.seals c.args.name.now c.in_ok-drop_name.ensures.sealed)) d.fixed

pub returns-clause-makes : goal.returns-clause-makes
returns-clause-makes g c =
    let e = c.drop_name.ensures in
    let d = c.fix_names.ensures in
    removed c.drop_name.result c.fix_names.result (g.T.Tree.view c.args.tree.now) (g.T.Tree.view c.drop_name.new.self) (g.T.Tree.view c.fix_names.new.self) c.args.name.now c.requires.quiet e.call (drop_either c.drop_name.result (g.T.Tree.view c.args.tree.now) (g.T.Tree.view c.drop_name.new.self) c.args.name.now e.call.passes e.ok e.err e.quiet e.crash) c.in_ok-drop_name.ensures.ok d.call d.same d.crash (d.seals c.args.name.now c.in_ok-drop_name.ensures.sealed) d.fixed (seals_drop c.drop_name.result (g.T.Tree.view c.args.tree.now) (g.T.Tree.view c.drop_name.new.self) c.args.name.now e.sealed e.seal e.seals) (λ q l was. d.seals q was)

pub returns-in_err-drop_name-clause-makes : goal.returns-in_err-drop_name-clause-makes
returns-in_err-drop_name-clause-makes g c =
    let e = c.drop_name.ensures in
    drop_failed c.drop_name.result c.from_residual.result (g.T.Tree.view c.args.tree.now) (g.T.Tree.view c.drop_name.new.self) c.args.name.now c.from_residual.ensures.0 c.requires.quiet e.call (c.in_err-drop_name.ensures.call.cause refl)
    (drop_either c.drop_name.result (g.T.Tree.view c.args.tree.now) (g.T.Tree.view c.drop_name.new.self) c.args.name.now e.call.passes e.ok e.err e.quiet e.crash) c.in_err-drop_name.ensures.err
    (seals_drop c.drop_name.result (g.T.Tree.view c.args.tree.now) (g.T.Tree.view c.drop_name.new.self) c.args.name.now e.sealed e.seal e.seals)

pub drop_name-requires : goal.drop_name-requires
drop_name-requires g c = c.requires.there

pub returns-in_err-drop_name-clause-run : goal.returns-in_err-drop_name-clause-run
returns-in_err-drop_name-clause-run g c = run_first c.drop_name.ensures.call.passes (c.in_err-drop_name.ensures.call.cause refl)

pub returns-in_err-drop_name-clause-ok : goal.returns-in_err-drop_name-clause-ok
returns-in_err-drop_name-clause-ok g c = IfOk-from_err c.from_residual.result _ c.from_residual.ensures.0

pub returns-clause-run : goal.returns-clause-run
returns-clause-run g c = run_on c.drop_name.ensures.call.passes c.fix_names.ensures.call

pub returns-clause-ok : goal.returns-clause-ok
returns-clause-ok g c = on_ok_from c.fix_names.result (λ f told. c.fix_names.ensures.same ∙ c.in_ok-drop_name.ensures.ok f told)

pub returns-clause-tells : goal.returns-clause-tells
returns-clause-tells g c = λ f h told now. inr (same_Some _ _ (sym now ∙ c.fix_names.ensures.same ∙ c.in_ok-drop_name.ensures.ok f told))
