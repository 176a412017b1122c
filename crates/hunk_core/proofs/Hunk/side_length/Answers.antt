use Rattle.std.proofs.Common.{◌∙◌, sym}
use Rattle.hunk_core.proofs.SideLemmas.{lines-counted}
use Rattle.hunk_core.proofs.Hunk.side_length.Goals as goal

pub returns : goal.returns
returns c = c.count.ensures ∙ sym (lines-counted c.args.text.now c.args.side c.args.self.now.body.items)
