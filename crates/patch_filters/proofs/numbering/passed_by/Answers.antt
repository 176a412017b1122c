use Rattle.std.proofs.Common.{◌∙◌, ap, sym}
use Rattle.hunk_core.specs.declared.Side.TheVariants.{Forward, Reversed}
use Rattle.hunk_core.proofs.SideLemmas.{lines-counted}
use Rattle.patch_filters.specs.Told.{left_out}
use Rattle.patch_filters.proofs.numbering.passed_by.Goals as goal

pub returns-clause-gone : goal.returns-clause-gone
returns-clause-gone c = λ text. c.left_out.ensures ∙ ap (left_out c.args.is_kept c.args.passed.gone) (c.count.ensures ∙ sym (lines-counted text Forward c.args.hunk.now.body.items))

pub returns-clause-come : goal.returns-clause-come
returns-clause-come c = λ text. c.left_out-2.ensures ∙ ap (left_out c.args.is_kept c.args.passed.come) (c.count-2.ensures ∙ sym (lines-counted text Reversed c.args.hunk.now.body.items))
