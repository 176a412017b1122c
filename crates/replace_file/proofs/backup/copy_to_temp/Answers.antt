use Rattle.std.proofs.Common.{◌≡◌, ◌++◌, ◌∙◌, ℕ, List, Some, refl, subst, sym}
use Rattle.outside.specs.Files.{Files, bytes_at}
use Rattle.outside.specs.Calls.{SealsStay, IsThere}
use Rattle.outside.specs.Quiet.{WorksOn}
use Rattle.outside.proofs.Views.{rises_then}
use Rattle.outside.proofs.Quiet.{works_both}
use Rattle.replace_file.specs.Puts.{Puts}
use Rattle.replace_file.proofs.Copying.{bytes_copied}
use Rattle.replace_file.proofs.Putting.{puts_failed, puts_after}
use Rattle.replace_file.proofs.Work.{stays_both}
use Rattle.replace_file.proofs.backup.copy_to_temp.Goals as goal

pub returns-in_err-copy_whole : goal.returns-in_err-copy_whole
returns-in_err-copy_whole g c =
    let u = g.T.Tree.view c.args.tree.now in
    let v = g.T.Tree.view c.begin_temp.new.tree in
    let w = g.T.Tree.view c.copy_whole.new.tree in
    let temp = c.args.temp.now in
    let is = c.requires.temporary in
    let named : c.in_ok-begun.begun.name.now ≡ temp = c.in_ok-begun.ensures.name in
    let begins = c.begin_temp.ensures.works c.requires.quiet in
    let adds : WorksOn v w temp = subst (λ n. WorksOn v w n) named c.copy_whole.ensures.works in
    let stays : SealsStay v w temp = subst (λ n. SealsStay v w n) named c.copy_whole.ensures.seals in
    puts_failed u w temp is (works_both u v w temp is begins adds) (stays_both u v w temp c.begin_temp.ensures.seals stays) c.from_residual-in_err-copy_whole.result c.args.to.now (λ f. bytes_at f c.args.from.now) c.from_residual-in_err-copy_whole.ensures.0
    (rises_then u v w begins.passes (c.in_err-copy_whole.ensures.run.cause refl))

pub returns : goal.returns
returns g c =
    let u = g.T.Tree.view c.args.tree.now in
    let v = g.T.Tree.view c.begin_temp.new.tree in
    let w = g.T.Tree.view c.copy_whole.new.tree in
    let x = g.T.Tree.view c.put_begun.new.tree in
    let temp = c.args.temp.now in
    let from = c.args.from.now in
    let to = c.args.to.now in
    let is = c.requires.temporary in
    let named : c.in_ok-begun.begun.name.now ≡ temp = c.in_ok-begun.ensures.name in
    let begins = c.begin_temp.ensures.works c.requires.quiet in
    let adds : WorksOn v w temp = subst (λ n. WorksOn v w n) named c.copy_whole.ensures.works in
    let stays : SealsStay v w temp = subst (λ n. SealsStay v w n) named c.copy_whole.ensures.seals in
    let added : (f h : Files) → v.told ≡ Some f → w.told ≡ Some h → bytes_at h temp ≡ bytes_at f temp ++ bytes_at f from =
    subst (λ (n : List ℕ). (f h : Files) → v.told ≡ Some f → w.told ≡ Some h → bytes_at h n ≡ bytes_at f n ++ bytes_at f from) named c.in_ok-copy_whole.ensures.bytes in
    let puts : Puts w x c.put_begun.result temp to (λ f. bytes_at f temp) = subst (λ (n : List ℕ). Puts w x c.put_begun.result n to (λ f. bytes_at f n)) (c.copy_whole.ensures.name ∙ named) c.put_begun.ensures in
    puts_after u w temp is (works_both u v w temp is begins adds) (stays_both u v w temp c.begin_temp.ensures.seals stays) c.put_begun.result x to (λ f. bytes_at f from) (bytes_copied u v w temp from is c.requires.lasting_from begins c.in_ok-begun.ensures.ok added) puts

pub begin_temp-requires : goal.begin_temp-requires
begin_temp-requires g c = c.requires.temporary

pub copy_whole-requires-clause-quiet : goal.copy_whole-requires-clause-quiet
copy_whole-requires-clause-quiet g c = (c.begin_temp.ensures.works c.requires.quiet).quiet

pub copy_whole-requires-clause-lasting : goal.copy_whole-requires-clause-lasting
copy_whole-requires-clause-lasting g c = c.requires.lasting_from

pub copy_whole-requires-clause-begun : goal.copy_whole-requires-clause-begun
copy_whole-requires-clause-begun g c = subst (λ n. IsThere (g.T.Tree.view c.begin_temp.new.tree) n) (sym c.in_ok-begun.ensures.name) c.in_ok-begun.ensures.there

pub put_begun-requires-clause-there : goal.put_begun-requires-clause-there
put_begun-requires-clause-there g c = subst (λ n. IsThere (g.T.Tree.view c.copy_whole.new.tree) n) (sym c.copy_whole.ensures.name) c.in_ok-copy_whole.ensures.there

pub put_begun-requires-clause-lasting : goal.put_begun-requires-clause-lasting
put_begun-requires-clause-lasting g c = c.requires.lasting

pub put_begun-requires-clause-quiet : goal.put_begun-requires-clause-quiet
put_begun-requires-clause-quiet g c = c.copy_whole.ensures.works.quiet
