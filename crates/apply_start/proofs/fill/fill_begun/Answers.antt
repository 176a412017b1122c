use Rattle.std.proofs.Common.{rules, ◌≡◌, ℕ, List, [], Some, refl, sym, ap, ◌∙◌, subst}
use Rattle.outside.specs.TreeView.{passes_both}
use Rattle.outside.specs.Quiet.{Holds}
use Rattle.replace_file.specs.TempSink.{sink_view, SameAround, around_both}
use Rattle.apply_task.proofs.Filling.{around_works, around_is, received_holds, holds_is, works_then}
use Rattle.apply_start.proofs.fill.fill_begun.Goals as goal

pub returns-in-Ok-finish-clause-works : goal.returns-in-Ok-finish-clause-works
returns-in-Ok-finish-clause-works g c =
    let view = g.T.Tree.view in
    let sink = c.new-sink.result in
    let filled = c.try_into.new.out in
    let last = c.finish.new.self in
    around_works _ _ _ c.args.begun.temporary c.requires.quiet
    (around_is view c.args.tree.now _ sink.tree.now last.tree.now _ sink.temp.name.now c.new-sink.ensures.same (search rules) c.new-sink.ensures.name
    (around_both (view sink.tree.now) (view filled.tree.now) (view last.tree.now) sink.temp.name.now c.try_into.ensures.rest.2
    (subst (λ n. SameAround (view filled.tree.now) (view last.tree.now) n) c.try_into.ensures.rest.1 c.finish.ensures.rest.2)))

pub returns-in-Ok-finish-clause-holds : goal.returns-in-Ok-finish-clause-holds
returns-in-Ok-finish-clause-holds g c lines told =
    let view = g.T.Tree.view in
    let sink = c.new-sink.result in
    let filled = c.try_into.new.out in
    let last = c.finish.new.self in
    let stands : (b : List ℕ) → (sink_view (view filled.tree.now) filled.temp.name.now filled.silent).told ≡ Some b → Holds (view last.tree.now) last.temp.name.now b =
    λ b is. c.into_temp.ensures.holds b (ap (λ n. (sink_view (view last.tree.now) n last.silent).told) c.finish.ensures.rest.1 ∙ c.in-Ok-finish.ensures.told ∙ is) in
    holds_is view last.tree.now _ sink.temp.name.now _ _ (search rules) c.new-sink.ensures.name
    (received_holds (view sink.tree.now) (view last.tree.now) sink.temp.name.now last.temp.name.now _ sink.silent (sink_view (view filled.tree.now) filled.temp.name.now filled.silent)
    (passes_both c.try_into.ensures.rest.2.rest.passes c.finish.ensures.run.passes) c.new-sink.ensures.tells (c.finish.ensures.rest.1 ∙ c.try_into.ensures.rest.1)
    (holds_is view c.args.tree.now sink.tree.now c.args.begun.name.now sink.temp.name.now [] (sym c.new-sink.ensures.same) (sym c.new-sink.ensures.name) c.requires.empty)
    (c.in-Ok.ensures.received lines told) stands)

pub returns-in-Err-clause-works : goal.returns-in-Err-clause-works
returns-in-Err-clause-works g c =
    let view = g.T.Tree.view in
    let sink = c.new-sink.result in
    let filled = c.try_into.new.out in
    let last = c.finish.new.self in
    around_works _ _ _ c.args.begun.temporary c.requires.quiet
    (around_is view c.args.tree.now _ sink.tree.now last.tree.now _ sink.temp.name.now c.new-sink.ensures.same (search rules) c.new-sink.ensures.name
    (around_both (view sink.tree.now) (view filled.tree.now) (view last.tree.now) sink.temp.name.now c.try_into.ensures.rest.2
    (subst (λ n. SameAround (view filled.tree.now) (view last.tree.now) n) c.try_into.ensures.rest.1 c.finish.ensures.rest.2)))

pub returns-in-Err-finish-clause-works : goal.returns-in-Err-finish-clause-works
returns-in-Err-finish-clause-works g c =
    let view = g.T.Tree.view in
    let sink = c.new-sink.result in
    let filled = c.try_into.new.out in
    let last = c.finish-in-Err-Line.new.self in
    around_works _ _ _ c.args.begun.temporary c.requires.quiet
    (around_is view c.args.tree.now _ sink.tree.now last.tree.now _ sink.temp.name.now c.new-sink.ensures.same (search rules) c.new-sink.ensures.name
    (around_both (view sink.tree.now) (view filled.tree.now) (view last.tree.now) sink.temp.name.now c.try_into.ensures.rest.2
    (subst (λ n. SameAround (view filled.tree.now) (view last.tree.now) n) c.try_into.ensures.rest.1 c.finish-in-Err-Line.ensures.rest.2)))

pub returns-in-Err-Line-Scratch-clause-works : goal.returns-in-Err-Line-Scratch-clause-works
returns-in-Err-Line-Scratch-clause-works g c =
    let view = g.T.Tree.view in
    let sink = c.new-sink.result in
    around_works _ _ _ c.args.begun.temporary c.requires.quiet
    (around_is view c.args.tree.now _ sink.tree.now c.try_into.new.out.tree.now _ sink.temp.name.now c.new-sink.ensures.same (search rules) c.new-sink.ensures.name c.try_into.ensures.rest.2)

pub returns-in-Err-Write-clause-works : goal.returns-in-Err-Write-clause-works
returns-in-Err-Write-clause-works g c =
    let view = g.T.Tree.view in
    let sink = c.new-sink.result in
    around_works _ _ _ c.args.begun.temporary c.requires.quiet
    (around_is view c.args.tree.now _ sink.tree.now c.try_into.new.out.tree.now _ sink.temp.name.now c.new-sink.ensures.same (search rules) c.new-sink.ensures.name c.try_into.ensures.rest.2)

pub returns-in-Ok-finish-2-clause-works : goal.returns-in-Ok-finish-2-clause-works
returns-in-Ok-finish-2-clause-works g c =
    let view = g.T.Tree.view in
    let sink = c.new-sink.result in
    let filled = c.try_into.new.out in
    let last = c.finish-in-Err-Line.new.self in
    let rest = c.finish-in-Err-Line.ensures.rest in
    let temp = c.into_temp-in-Ok-finish-2.result.name.now in
    let around = around_is view c.args.tree.now last.tree.now sink.tree.now last.tree.now c.args.begun.name.now sink.temp.name.now c.new-sink.ensures.same refl c.new-sink.ensures.name
    (around_both (view sink.tree.now) (view filled.tree.now) (view last.tree.now) sink.temp.name.now c.try_into.ensures.rest.2
    (subst (λ n. SameAround (view filled.tree.now) (view last.tree.now) n) c.try_into.ensures.rest.1 rest.2)) in
    works_then view c.args.tree.now last.tree.now _ c.give_up.new.tree c.args.begun.name.now temp c.args.begun.temporary (search rules)
    (c.into_temp-in-Ok-finish-2.ensures.name ∙ rest.1 ∙ c.try_into.ensures.rest.1 ∙ c.new-sink.ensures.name)
    (around_works (view c.args.tree.now) (view last.tree.now) c.args.begun.name.now c.args.begun.temporary c.requires.quiet around) c.give_up.ensures.works

pub returns-in-Err-clause-begun : goal.returns-in-Err-clause-begun
returns-in-Err-clause-begun g c = tt

pub returns-in-Err-clause-there : goal.returns-in-Err-clause-there
returns-in-Err-clause-there g c = tt

pub returns-in-Err-clause-holds : goal.returns-in-Err-clause-holds
returns-in-Err-clause-holds g c = tt

pub returns-in-Err-clause-session : goal.returns-in-Err-clause-session
returns-in-Err-clause-session g c = tt

pub returns-in-Err-clause-verdicts : goal.returns-in-Err-clause-verdicts
returns-in-Err-clause-verdicts g c = tt

pub returns-in-Err-clause-tried : goal.returns-in-Err-clause-tried
returns-in-Err-clause-tried g c = tt

pub returns-in-Err-finish-clause-begun : goal.returns-in-Err-finish-clause-begun
returns-in-Err-finish-clause-begun g c = tt

pub returns-in-Err-finish-clause-there : goal.returns-in-Err-finish-clause-there
returns-in-Err-finish-clause-there g c = tt

pub returns-in-Err-finish-clause-holds : goal.returns-in-Err-finish-clause-holds
returns-in-Err-finish-clause-holds g c = tt

pub returns-in-Err-finish-clause-session : goal.returns-in-Err-finish-clause-session
returns-in-Err-finish-clause-session g c = tt

pub returns-in-Err-finish-clause-verdicts : goal.returns-in-Err-finish-clause-verdicts
returns-in-Err-finish-clause-verdicts g c = tt

pub returns-in-Err-finish-clause-tried : goal.returns-in-Err-finish-clause-tried
returns-in-Err-finish-clause-tried g c = tt

pub returns-in-Err-Line-Scratch-clause-begun : goal.returns-in-Err-Line-Scratch-clause-begun
returns-in-Err-Line-Scratch-clause-begun g c = tt

pub returns-in-Err-Line-Scratch-clause-there : goal.returns-in-Err-Line-Scratch-clause-there
returns-in-Err-Line-Scratch-clause-there g c = tt

pub returns-in-Err-Line-Scratch-clause-holds : goal.returns-in-Err-Line-Scratch-clause-holds
returns-in-Err-Line-Scratch-clause-holds g c = tt

pub returns-in-Err-Line-Scratch-clause-session : goal.returns-in-Err-Line-Scratch-clause-session
returns-in-Err-Line-Scratch-clause-session g c = tt

pub returns-in-Err-Line-Scratch-clause-verdicts : goal.returns-in-Err-Line-Scratch-clause-verdicts
returns-in-Err-Line-Scratch-clause-verdicts g c = tt

pub returns-in-Err-Line-Scratch-clause-tried : goal.returns-in-Err-Line-Scratch-clause-tried
returns-in-Err-Line-Scratch-clause-tried g c = tt

pub returns-in-Err-Write-clause-begun : goal.returns-in-Err-Write-clause-begun
returns-in-Err-Write-clause-begun g c = tt

pub returns-in-Err-Write-clause-there : goal.returns-in-Err-Write-clause-there
returns-in-Err-Write-clause-there g c = tt

pub returns-in-Err-Write-clause-holds : goal.returns-in-Err-Write-clause-holds
returns-in-Err-Write-clause-holds g c = tt

pub returns-in-Err-Write-clause-session : goal.returns-in-Err-Write-clause-session
returns-in-Err-Write-clause-session g c = tt

pub returns-in-Err-Write-clause-verdicts : goal.returns-in-Err-Write-clause-verdicts
returns-in-Err-Write-clause-verdicts g c = tt

pub returns-in-Err-Write-clause-tried : goal.returns-in-Err-Write-clause-tried
returns-in-Err-Write-clause-tried g c = tt

pub returns-in-Ok-finish-2-clause-begun : goal.returns-in-Ok-finish-2-clause-begun
returns-in-Ok-finish-2-clause-begun g c = tt

pub returns-in-Ok-finish-2-clause-there : goal.returns-in-Ok-finish-2-clause-there
returns-in-Ok-finish-2-clause-there g c = tt

pub returns-in-Ok-finish-2-clause-holds : goal.returns-in-Ok-finish-2-clause-holds
returns-in-Ok-finish-2-clause-holds g c = tt

pub returns-in-Ok-finish-2-clause-session : goal.returns-in-Ok-finish-2-clause-session
returns-in-Ok-finish-2-clause-session g c = tt

pub returns-in-Ok-finish-2-clause-verdicts : goal.returns-in-Ok-finish-2-clause-verdicts
returns-in-Ok-finish-2-clause-verdicts g c = tt

pub returns-in-Ok-finish-2-clause-tried : goal.returns-in-Ok-finish-2-clause-tried
returns-in-Ok-finish-2-clause-tried g c = tt

pub returns-in-Err-clause-keeps : goal.returns-in-Err-clause-keeps
returns-in-Err-clause-keeps g c = c.try_into.ensures.keeps

pub returns-in-Err-clause-rows : goal.returns-in-Err-clause-rows
returns-in-Err-clause-rows g c = c.try_into.ensures.rows

pub returns-in-Err-finish-clause-keeps : goal.returns-in-Err-finish-clause-keeps
returns-in-Err-finish-clause-keeps g c = c.try_into.ensures.keeps

pub returns-in-Err-finish-clause-rows : goal.returns-in-Err-finish-clause-rows
returns-in-Err-finish-clause-rows g c = c.try_into.ensures.rows

pub returns-in-Err-Line-Scratch-clause-keeps : goal.returns-in-Err-Line-Scratch-clause-keeps
returns-in-Err-Line-Scratch-clause-keeps g c = c.try_into.ensures.keeps

pub returns-in-Err-Line-Scratch-clause-rows : goal.returns-in-Err-Line-Scratch-clause-rows
returns-in-Err-Line-Scratch-clause-rows g c = c.try_into.ensures.rows

pub returns-in-Err-Write-clause-keeps : goal.returns-in-Err-Write-clause-keeps
returns-in-Err-Write-clause-keeps g c = c.try_into.ensures.keeps

pub returns-in-Err-Write-clause-rows : goal.returns-in-Err-Write-clause-rows
returns-in-Err-Write-clause-rows g c = c.try_into.ensures.rows

pub returns-in-Ok-finish-2-clause-keeps : goal.returns-in-Ok-finish-2-clause-keeps
returns-in-Ok-finish-2-clause-keeps g c = c.try_into.ensures.keeps

pub returns-in-Ok-finish-2-clause-rows : goal.returns-in-Ok-finish-2-clause-rows
returns-in-Ok-finish-2-clause-rows g c = c.try_into.ensures.rows

pub returns-in-Ok-finish-clause-keeps : goal.returns-in-Ok-finish-clause-keeps
returns-in-Ok-finish-clause-keeps g c = c.try_into.ensures.keeps

pub returns-in-Ok-finish-clause-rows : goal.returns-in-Ok-finish-clause-rows
returns-in-Ok-finish-clause-rows g c = c.try_into.ensures.rows

pub returns-in-Ok-finish-clause-cause : goal.returns-in-Ok-finish-clause-cause
returns-in-Ok-finish-clause-cause g c = tt

pub returns-in-Ok-finish-clause-gone : goal.returns-in-Ok-finish-clause-gone
returns-in-Ok-finish-clause-gone g c = tt

pub returns-in-Ok-finish-clause-session : goal.returns-in-Ok-finish-clause-session
returns-in-Ok-finish-clause-session g c = c.in-Ok.ensures.session

pub returns-in-Ok-finish-clause-verdicts : goal.returns-in-Ok-finish-clause-verdicts
returns-in-Ok-finish-clause-verdicts g c = c.in-Ok.ensures.verdicts

pub returns-in-Ok-finish-clause-tried : goal.returns-in-Ok-finish-clause-tried
returns-in-Ok-finish-clause-tried g c = c.in-Ok.ensures.tried

pub returns-in-Ok-finish-clause-begun : goal.returns-in-Ok-finish-clause-begun
returns-in-Ok-finish-clause-begun g c = c.into_temp.ensures.name ∙ c.finish.ensures.rest.1 ∙ c.try_into.ensures.rest.1 ∙ c.new-sink.ensures.name

pub returns-in-Err-clause-gone : goal.returns-in-Err-clause-gone
returns-in-Err-clause-gone g c = tt

pub returns-in-Err-finish-clause-gone : goal.returns-in-Err-finish-clause-gone
returns-in-Err-finish-clause-gone g c = tt

pub returns-in-Err-Line-Scratch-clause-gone : goal.returns-in-Err-Line-Scratch-clause-gone
returns-in-Err-Line-Scratch-clause-gone g c = tt

pub returns-in-Err-Write-clause-gone : goal.returns-in-Err-Write-clause-gone
returns-in-Err-Write-clause-gone g c = tt
