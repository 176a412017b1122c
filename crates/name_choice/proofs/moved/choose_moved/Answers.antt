use Rattle.std.proofs.Common.{◌∙◌}
use Rattle.std.proofs.lemmas.Result.{IfOk-weaker}
use Rattle.outside.proofs.Views.{untouched_both}
use Rattle.name_choice.specs.Choice.{names_of}
use Rattle.name_choice.proofs.Chosen.{later_cause, other-stands}
use Rattle.name_choice.proofs.moved.choose_moved.Goals as goal

pub returns-in-Nothing-clause-chosen : goal.returns-in-Nothing-clause-chosen
returns-in-Nothing-clause-chosen g c =
    let source = c.in_ok-source.ensures in
    IfOk-weaker c.existing_if_any-in-Nothing.result _ _ (λ chosen is files told.
    other-stands files (names_of c.args.targets.now) c.args.action c.args.side c.in_ok-source.source chosen c.source_place.result c.done_place.result c.source_place.ensures c.done_place.ensures
    (source.chosen files told) c.in-Nothing.is (is files (source.untouched.told ∙ told))) c.existing_if_any-in-Nothing.ensures.chosen

pub returns-in-Nothing-clause-untouched : goal.returns-in-Nothing-clause-untouched
returns-in-Nothing-clause-untouched g c = untouched_both c.in_ok-source.ensures.untouched c.existing_if_any-in-Nothing.ensures.untouched

pub returns-in-Nothing-clause-cause : goal.returns-in-Nothing-clause-cause
returns-in-Nothing-clause-cause g c =
    later_cause (g.T.Tree.view c.args.tree.now) (g.T.Tree.view c.existing_if_any.new.tree) (g.T.Tree.view c.existing_if_any-in-Nothing.new.tree) c.existing_if_any-in-Nothing.result c.in_ok-source.ensures.untouched c.existing_if_any-in-Nothing.ensures.cause
