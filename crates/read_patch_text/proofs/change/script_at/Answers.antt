use Rattle.std.proofs.Common.{List, [], ◌∷◌, ◌++◌, refl, ap, ◌∙◌}
use Rattle.line_list.specs.declared.Span.{Span}
use Rattle.read_patch_text.proofs.ChangeLemmas.{script-change}
use Rattle.read_patch_text.proofs.EndsLemmas.{script-end}
use Rattle.hunk_core.specs.declared.fault.FormFault.TheVariants.{Memory}
use Rattle.read_patch_text.proofs.Passed.{fault-given}
use Rattle.read_patch_text.proofs.change.script_at.Goals as goal

pub returns-clause-is : goal.returns-clause-is
returns-clause-is c =
    let given = c.in_ok-script.ensures in
    let found = given.found in
    script-change c.args.text.now c.args.at c.args.line c.in_ok-script.script _ found.own refl (c.in_ok-push.ensures.items ∙ ap (λ (ss : List Span). ss ++ c.in_ok-script.script.span ∷ []) c.new-spans.ensures.items) refl refl given.lawful given.start given.within.0 given.within.1 given.piece (script-end c.args.text.now c.args.at c.in_ok-script.script.span.end given.within.0 given.within.1) found.parts found.counted found

pub returns-in_err-push-clause-exact : goal.returns-in_err-push-clause-exact
returns-in_err-push-clause-exact c = fault-given _ Memory c.from_residual-in_err-push.result _ c.from_residual-in_err-push.ensures.1 tt

pub read_script-requires-clause-short : goal.read_script-requires-clause-short
read_script-requires-clause-short c = c.requires.short

pub read_script-requires-clause-within : goal.read_script-requires-clause-within
read_script-requires-clause-within c = c.requires.within

pub read_script-requires-clause-small : goal.read_script-requires-clause-small
read_script-requires-clause-small c = c.requires.small

pub read_script-requires-clause-opens : goal.read_script-requires-clause-opens
read_script-requires-clause-opens c = c.requires.opens
