use Rattle.std.proofs.Common.{◌<◌, sym, subst, ◌∙◌}
use Rattle.hunk_place.proofs.PassLemmas.{first-is}
use Rattle.hunk_place.proofs.passing.first_line.Goals as goal

pub returns : goal.returns
returns c = first-is c.args.pattern.now c.index-line.result.now c.requires c.if-pattern.false c.if-pattern-2.false (subst (λ n. c.args.pattern.now.from < n) (c.len.ensures ∙ c.args.pattern.now.hunk.now.body.ok.0) c.if-pattern-len.false) c.index-line.ensures (sym c.is_taken.ensures ∙ c.if-not-is_taken.false)
