use Rattle.std.proofs.Common.{◌-◌, get_or, ap, ◌∙◌, arith}
use Rattle.std.proofs.lemmas.Bool.{eqb-true}
use Rattle.context_form.proofs.writing.stands_before.Goals as goal

pub returns : goal.returns
returns c space = (c.args.start - 2, omega (arith, c.if-start-lt2.false), c.if-text-start.false, ap (λ n. get_or c.args.text.now n 0) (omega (arith, c.if-start-lt2.false)) ∙ eqb-true _ 32 space)
