use Rattle.std.proofs.Common.{ℕ, List, [], unwrap_or, Option, refl, sym, ◌∙◌, ap, subst, IsSome, is_err}
use Rattle.outside.specs.Files.{bytes_at}
use Rattle.outside.specs.Quiet.{WorksOn, Holds}
use Rattle.outside.proofs.Views.{rises_then}
use Rattle.outside.proofs.Quiet.{holds_put, works_both}
use Rattle.replace_file.specs.Puts.{Puts}
use Rattle.replace_file.proofs.Putting.{puts_failed, puts_after}
use Rattle.apply_outcome.specs.Outcome.{rejects_text}
use Rattle.apply_outcome.specs.ContextView.{plain_context}
use Rattle.outside.specs.Calls.{IsThere}
use Rattle.apply_outcome.proofs.rejects.swap_rejects.Goals as goal

pub fill_rejects-requires-clause-empty : goal.fill_rejects-requires-clause-empty
fill_rejects-requires-clause-empty g c =
    let view = g.T.Tree.view in
    subst (λ n. Holds (view c.begin_temp.new.tree) n []) (sym c.in_ok-begun.ensures.name)
    (holds_put (view c.args.tree.now) (view c.begin_temp.new.tree) c.args.target.now.reject_temp [] (λ f. []) c.begin_temp.ensures.run.passes c.in_ok-begun.ensures.ok (λ f told. refl))

pub returns-in_err-filled : goal.returns-in_err-filled
returns-in_err-filled g c =
    let u = g.T.Tree.view c.args.tree.now in
    let v = g.T.Tree.view c.begin_temp.new.tree in
    let w = g.T.Tree.view c.fill_rejects.new.tree in
    let t = c.args.target.now in
    let is = c.requires.named.temps.reject in
    let begins = c.begin_temp.ensures.works c.requires.quiet in
    let fills : WorksOn v w t.reject_temp = subst (λ n. WorksOn v w n) c.in_ok-begun.ensures.name c.fill_rejects.ensures.works in
    let works : WorksOn u w t.reject_temp = works_both u v w t.reject_temp is begins fills in
    puts_failed u w t.reject_temp is works works.seals c.from_residual-in_err-filled.result t.reject (λ f. rejects_text (plain_context c.args.turn.now) t c.args.side c.args.verdicts.now) c.from_residual-in_err-filled.ensures.0
    (rises_then u v w begins.passes (c.in_err-filled.ensures.run.cause refl))

pub returns : goal.returns
returns g c =
    let u = g.T.Tree.view c.args.tree.now in
    let v = g.T.Tree.view c.begin_temp.new.tree in
    let w = g.T.Tree.view c.fill_rejects.new.tree in
    let x = g.T.Tree.view c.put_begun.new.tree in
    let t = c.args.target.now in
    let text = rejects_text (plain_context c.args.turn.now) t c.args.side c.args.verdicts.now in
    let is = c.requires.named.temps.reject in
    let named = c.in_ok-begun.ensures.name in
    let begins = c.begin_temp.ensures.works c.requires.quiet in
    let fills : WorksOn v w t.reject_temp = subst (λ n. WorksOn v w n) named c.fill_rejects.ensures.works in
    let works : WorksOn u w t.reject_temp = works_both u v w t.reject_temp is begins fills in
    let holds : Holds w t.reject_temp text = subst (λ n. Holds w n text) named c.in_ok-filled.ensures.holds in
    let puts : Puts w x c.put_begun.result t.reject_temp t.reject (λ f. bytes_at f t.reject_temp) = subst (λ (n : List ℕ). Puts w x c.put_begun.result n t.reject (λ f. bytes_at f n)) (c.in_ok-filled.ensures.name ∙ named) c.put_begun.ensures in
    puts_after u w t.reject_temp is works works.seals c.put_begun.result x t.reject (λ f. text) (λ f g told now. ap (λ (o : Option (List ℕ)). unwrap_or o []) (holds g now)) puts

pub fill_rejects-requires-clause-rows : goal.fill_rejects-requires-clause-rows
fill_rejects-requires-clause-rows g c = c.requires.rows

pub fill_rejects-requires-clause-turn : goal.fill_rejects-requires-clause-turn
fill_rejects-requires-clause-turn g c = c.requires.turn

pub fill_rejects-requires-clause-hunks : goal.fill_rejects-requires-clause-hunks
fill_rejects-requires-clause-hunks g c = c.requires.hunks

pub fill_rejects-requires-clause-named : goal.fill_rejects-requires-clause-named
fill_rejects-requires-clause-named g c = c.requires.named

pub fill_rejects-requires-clause-there : goal.fill_rejects-requires-clause-there
fill_rejects-requires-clause-there g c f now = subst (λ (o : Option (List ℕ)). IsSome o) (sym (fill_rejects-requires-clause-empty g c f now)) refl

pub fill_rejects-requires-clause-quiet : goal.fill_rejects-requires-clause-quiet
fill_rejects-requires-clause-quiet g c = (c.begin_temp.ensures.works c.requires.quiet).quiet

pub put_begun-requires-clause-there : goal.put_begun-requires-clause-there
put_begun-requires-clause-there g c = subst (λ n. IsThere (g.T.Tree.view c.fill_rejects.new.tree) n) (sym c.in_ok-filled.ensures.name) c.in_ok-filled.ensures.there

pub put_begun-requires-clause-lasting : goal.put_begun-requires-clause-lasting
put_begun-requires-clause-lasting g c = c.requires.named.lasting.reject

pub put_begun-requires-clause-quiet : goal.put_begun-requires-clause-quiet
put_begun-requires-clause-quiet g c = c.fill_rejects.ensures.works.quiet

pub returns-in_err-begun : goal.returns-in_err-begun
returns-in_err-begun g c =
    let t = c.args.target.now in
    let works = c.begin_temp.ensures.works c.requires.quiet in
    puts_failed (g.T.Tree.view c.args.tree.now) (g.T.Tree.view c.begin_temp.new.tree) t.reject_temp c.requires.named.temps.reject works works.seals c.from_residual.result t.reject (λ f. rejects_text (plain_context c.args.turn.now) t c.args.side c.args.verdicts.now) c.from_residual.ensures.0
    (c.begin_temp.ensures.run.cause (ap is_err c.in_err-begun.was))

pub begin_temp-requires : goal.begin_temp-requires
begin_temp-requires g c = c.requires.named.temps.reject
