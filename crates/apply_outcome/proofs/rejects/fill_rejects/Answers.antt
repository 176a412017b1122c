use Rattle.std.proofs.Common.{rules, ℕ, List, [], Option, IsSome, refl, sym, subst, ◌∙◌}
use Rattle.replace_file.specs.TempSink.{sink_view}
use Rattle.apply_task.proofs.Filling.{around_works, around_is, received_holds, holds_is}
use Rattle.outside.proofs.Exits.{if_ok_none, on_ok_none}
use Rattle.std.proofs.lemmas.Bool.{false≢true}
use Rattle.apply_outcome.proofs.rejects.fill_rejects.Goals as goal

pub returns-in_err-put_texts-clause-works : goal.returns-in_err-put_texts-clause-works
returns-in_err-put_texts-clause-works g c =
    let view = g.T.Tree.view in
    let sink = c.new-sink.result in
    around_works _ _ _ c.args.begun.temporary c.requires.quiet
    (around_is view c.args.tree.now _ sink.tree.now c.put_texts.new.out.tree.now _ sink.temp.name.now c.new-sink.ensures.same (search rules) c.new-sink.ensures.name c.put_texts.ensures.rest.2)

pub returns-clause-works : goal.returns-clause-works
returns-clause-works g c =
    let view = g.T.Tree.view in
    let sink = c.new-sink.result in
    around_works _ _ _ c.args.begun.temporary c.requires.quiet
    (around_is view c.args.tree.now _ sink.tree.now c.put_texts.new.out.tree.now _ sink.temp.name.now c.new-sink.ensures.same (search rules) c.new-sink.ensures.name c.put_texts.ensures.rest.2)

pub returns-clause-holds : goal.returns-clause-holds
returns-clause-holds g c =
    let view = g.T.Tree.view in
    let sink = c.new-sink.result in
    let filled = c.put_texts.new.out in
    holds_is view filled.tree.now _ sink.temp.name.now _ _ (search rules) c.new-sink.ensures.name
    (received_holds (view sink.tree.now) (view filled.tree.now) sink.temp.name.now filled.temp.name.now _ sink.silent (sink_view (view filled.tree.now) filled.temp.name.now filled.silent)
    c.put_texts.ensures.rest.2.rest.passes c.new-sink.ensures.tells c.put_texts.ensures.rest.1
    (holds_is view c.args.tree.now sink.tree.now c.args.begun.name.now sink.temp.name.now [] (sym c.new-sink.ensures.same) (sym c.new-sink.ensures.name) c.requires.empty)
    c.in_ok-put_texts.ensures.writes.received c.into_temp.ensures.holds)

pub returns-clause-there : goal.returns-clause-there
returns-clause-there g c f now = subst (λ (o : Option (List ℕ)). IsSome o) (sym (returns-clause-holds g c f now)) refl

pub put_texts-requires-clause-rows : goal.put_texts-requires-clause-rows
put_texts-requires-clause-rows g c = c.requires.rows

pub put_texts-requires-clause-turn : goal.put_texts-requires-clause-turn
put_texts-requires-clause-turn g c = c.requires.turn

pub put_texts-requires-clause-hunks : goal.put_texts-requires-clause-hunks
put_texts-requires-clause-hunks g c = c.requires.hunks

pub put_texts-requires-clause-named : goal.put_texts-requires-clause-named
put_texts-requires-clause-named g c = c.requires.named

pub new-sink-requires-clause-there : goal.new-sink-requires-clause-there
new-sink-requires-clause-there g c = c.requires.there

pub new-sink-requires-clause-quiet : goal.new-sink-requires-clause-quiet
new-sink-requires-clause-quiet g c = c.requires.quiet

pub returns-in_err-put_texts-clause-holds : goal.returns-in_err-put_texts-clause-holds
returns-in_err-put_texts-clause-holds g c = on_ok_none _ _ c.from_residual.result c.from_residual.ensures.1

pub returns-in_err-put_texts-clause-there : goal.returns-in_err-put_texts-clause-there
returns-in_err-put_texts-clause-there g c = on_ok_none _ _ c.from_residual.result c.from_residual.ensures.1

pub returns-in_err-put_texts-clause-name : goal.returns-in_err-put_texts-clause-name
returns-in_err-put_texts-clause-name g c = if_ok_none _ _ c.from_residual.result c.from_residual.ensures.1

pub returns-clause-run : goal.returns-clause-run
returns-clause-run g c = record { passes = (returns-clause-works g c).passes; cause = λ err. absurd (false≢true err) }

pub returns-clause-name : goal.returns-clause-name
returns-clause-name g c = c.into_temp.ensures.name ∙ c.put_texts.ensures.rest.1 ∙ c.new-sink.ensures.name
