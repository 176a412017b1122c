use Rattle.std.proofs.Common.{◌≡◌, ◌∙◌, Bool, ◌&&◌, not, Option, List, ℕ, Ok, ap, subst}
use Rattle.std.proofs.lemmas.Result.{IfErr-weaker}
use Rattle.outside.specs.Calls.{untouched_both}
use Rattle.patch_options.specs.PlainJob.{plain_options}
use Rattle.patch_options.specs.PlainJob.PlainJob.{patch}
use Rattle.cli_run_answers.specs.Input.{IsAnswer}
use Rattle.patch_cli.specs.Returns.{strips_returns}
use Rattle.patch_cli.proofs.Asked.{asked_if, numbers_stop, on_ok_so, standard_is}
use Rattle.patch_cli.proofs.opening.read_patches.Goals as goal

pub returns-clause-asked : goal.returns-clause-asked
returns-clause-asked g c =
    let o = plain_options c.args.options.now in
    let t = g.T.Tree.view c.args.tree.now in
    let x = g.T.Tree.view c.read_input.new.tree in
    let s = g.I.Source.view c.args.source.now in
    let text = c.in_ok-text.text.items in
    let answer : IsAnswer (Ok text) o.input o.dir t s = subst (λ (dir : Option (List ℕ)). IsAnswer (Ok text) o.input dir t s) c.as_ref.ensures.value c.in_ok-text.ensures.text in
    let stripped : c.strips_returns.result ≡ strips_returns o text = c.strips_returns.ensures ∙ ap (λ (told : Bool). not o.keep_returns && told) c.in_ok-set.ensures.told in
    asked_if o text c.in_ok-set.set t x s c.requires answer c.in_ok-set.ensures.read c.in_ok-set.ensures.fresh c.in_ok-set.ensures.refused c.strips_returns.result stripped c.read_input.ensures.untouched.told c.number_if.result c.number_if.ensures.made

pub returns-clause-untouched : goal.returns-clause-untouched
returns-clause-untouched g c = untouched_both c.read_input.ensures.untouched c.number_if.ensures.untouched

pub returns-clause-read : goal.returns-clause-read
returns-clause-read g c = on_ok_so _ c.number_if.result (λ is left told. c.in_ok-text.ensures.end (standard_is c.args.options.now.input is) left told)

pub returns-clause-refused : goal.returns-clause-refused
returns-clause-refused g c =
    let o = plain_options c.args.options.now in
    let t = g.T.Tree.view c.args.tree.now in
    let x = g.T.Tree.view c.read_input.new.tree in
    let u = g.T.Tree.view c.number_if.new.tree in
    IfErr-weaker c.number_if.result _ _ (λ why cause. numbers_stop why (Ok (patch o)) t x u (g.I.Source.view c.args.source.now) (g.I.Source.view c.read_input.new.source) c.read_input.ensures.untouched.passes cause) c.number_if.ensures.cause
