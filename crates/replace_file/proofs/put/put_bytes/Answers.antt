use Rattle.std.proofs.Common.{◌≡◌, ◌++◌, ◌∙◌, ℕ, List, refl, subst, sym}
use Rattle.std.specs.FinMap.{insert}
use Rattle.outside.specs.Files.{bytes_at}
use Rattle.outside.specs.Calls.{Becomes, SealsStay, IsThere}
use Rattle.outside.specs.Quiet.{WorksOn}
use Rattle.outside.proofs.Views.{rises_then}
use Rattle.outside.proofs.Quiet.{works_both}
use Rattle.replace_file.specs.Puts.{Puts}
use Rattle.replace_file.proofs.Putting.{puts_failed, puts_after}
use Rattle.replace_file.proofs.Work.{stays_both, bytes_begun}
use Rattle.replace_file.proofs.put.put_bytes.Goals as goal

pub returns-in_err-put : goal.returns-in_err-put
returns-in_err-put g c =
    let u = g.T.Tree.view c.args.tree.now in
    let v = g.T.Tree.view c.begin_temp.new.tree in
    let w = g.T.Tree.view c.put.new.tree in
    let temp = c.args.temp.now in
    let is = c.requires.temporary in
    let named : c.in_ok-begun.begun.name.now ≡ temp = c.in_ok-begun.ensures.name in
    let begins = c.begin_temp.ensures.works c.requires.quiet in
    let adds : WorksOn v w temp = subst (λ n. WorksOn v w n) named (c.put.ensures.works begins.quiet) in
    let stays : SealsStay v w temp = subst (λ n. SealsStay v w n) named c.put.ensures.seals in
    puts_failed u w temp is (works_both u v w temp is begins adds) (stays_both u v w temp c.begin_temp.ensures.seals stays) c.from_residual-in_err-put.result c.args.to.now (λ f. c.args.bytes.now) c.from_residual-in_err-put.ensures.0
    (rises_then u v w begins.passes (c.in_err-put.ensures.run.cause refl))

pub returns : goal.returns
returns g c =
    let u = g.T.Tree.view c.args.tree.now in
    let v = g.T.Tree.view c.begin_temp.new.tree in
    let w = g.T.Tree.view c.put.new.tree in
    let x = g.T.Tree.view c.put_begun.new.tree in
    let temp = c.args.temp.now in
    let to = c.args.to.now in
    let bytes = c.args.bytes.now in
    let is = c.requires.temporary in
    let named : c.in_ok-begun.begun.name.now ≡ temp = c.in_ok-begun.ensures.name in
    let begins = c.begin_temp.ensures.works c.requires.quiet in
    let adds : WorksOn v w temp = subst (λ n. WorksOn v w n) named (c.put.ensures.works begins.quiet) in
    let stays : SealsStay v w temp = subst (λ n. SealsStay v w n) named c.put.ensures.seals in
    let added : Becomes v w (λ f. insert f temp (bytes_at f temp ++ bytes)) = subst (λ (n : List ℕ). Becomes v w (λ f. insert f n (bytes_at f n ++ bytes))) named c.in_ok-put.ensures.ok in
    let puts : Puts w x c.put_begun.result temp to (λ f. bytes_at f temp) = subst (λ (n : List ℕ). Puts w x c.put_begun.result n to (λ f. bytes_at f n)) (c.put.ensures.name ∙ named) c.put_begun.ensures in
    puts_after u w temp is (works_both u v w temp is begins adds) (stays_both u v w temp c.begin_temp.ensures.seals stays) c.put_begun.result x to (λ f. bytes) (bytes_begun u v w temp bytes begins.passes c.in_ok-begun.ensures.ok added) puts

pub begin_temp-requires : goal.begin_temp-requires
begin_temp-requires g c = c.requires.temporary

pub put-requires : goal.put-requires
put-requires g c = subst (λ n. IsThere (g.T.Tree.view c.begin_temp.new.tree) n) (sym c.in_ok-begun.ensures.name) c.in_ok-begun.ensures.there

pub put_begun-requires-clause-there : goal.put_begun-requires-clause-there
put_begun-requires-clause-there g c = subst (λ n. IsThere (g.T.Tree.view c.put.new.tree) n) (sym c.put.ensures.name) c.in_ok-put.ensures.there

pub put_begun-requires-clause-lasting : goal.put_begun-requires-clause-lasting
put_begun-requires-clause-lasting g c = c.requires.lasting

pub put_begun-requires-clause-quiet : goal.put_begun-requires-clause-quiet
put_begun-requires-clause-quiet g c = (c.put.ensures.works (c.begin_temp.ensures.works c.requires.quiet).quiet).quiet
