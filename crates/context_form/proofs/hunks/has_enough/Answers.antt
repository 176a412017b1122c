use Rattle.std.proofs.Common.{sym, ap, cond, Err, Ok, arith}
use Rattle.hunk_core.specs.declared.BadKind.TheVariants as kinds
use Rattle.hunk_core.specs.Reading.{fault}
use Rattle.context_form.proofs.StepLemmas.{too-few}
use Rattle.context_form.proofs.hunks.has_enough.Goals as goal

pub returns-then-not-is_count : goal.returns-then-not-is_count
returns-then-not-is_count c text = rw c.bad.ensures (ap (λ b. cond b (Err (fault c.args.number kinds.Count)) (Ok tt)) (too-few text c.args.old.now.stated c.args.old.now.body.lines.items c.len-lines.result (omega (arith, c.len-lines.ensures, c.args.old.now.body.lines.ok.0)) (omega arith) (sym c.if-not-is_count.ensures)))
