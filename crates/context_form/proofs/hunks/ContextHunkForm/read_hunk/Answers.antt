use Rattle.std.proofs.Common.{drop, slice_range}
use Rattle.std.proofs.lemmas.Result.{IfOk-weaker}
use Rattle.line_list.specs.Lines.{lines}
use Rattle.hunk_core.specs.PlainHunk.{hunk_of}
use Rattle.hunk_core.proofs.Grammars.{result-piece, result-unbroken, result-whole}
use Rattle.context_form.specs.Grammar.{SpellsHunk}
use Rattle.context_form.specs.Hunks.{hunk_at}
use Rattle.context_form.specs.Openings.{begins_hunk}
use Rattle.context_form.proofs.Pieces.{grammar}
use Rattle.context_form.proofs.Unbroken.{at-end, hunk-unbroken}
use Rattle.context_form.proofs.hunks.ContextHunkForm.read_hunk.Goals as goal

pub returns-clause-whole : goal.returns-clause-whole
returns-clause-whole c = result-whole begins_hunk hunk_at SpellsHunk grammar c.args.text.now c.args.least c.args.place c.take_hunk.result c.requires.opens c.take_hunk.ensures.place c.take_hunk.ensures.exact

pub returns-clause-piece : goal.returns-clause-piece
returns-clause-piece c = IfOk-weaker c.take_hunk.result _ _ (λ x spelled. at-end c.args.least (lines (slice_range c.args.text.now c.args.place.at x.1.at)) (lines (drop x.1.at c.args.text.now)) (hunk_of c.args.text.now x.0) spelled)
    (result-piece begins_hunk hunk_at SpellsHunk grammar c.args.text.now c.args.least c.args.place c.take_hunk.result c.requires.opens c.take_hunk.ensures.place c.take_hunk.ensures.exact)

pub returns-clause-unbroken : goal.returns-clause-unbroken
returns-clause-unbroken c = result-unbroken begins_hunk hunk_at SpellsHunk grammar c.args.text.now c.args.least c.args.place c.take_hunk.result (hunk-unbroken c.args.least)
    (result-piece begins_hunk hunk_at SpellsHunk grammar c.args.text.now c.args.least c.args.place c.take_hunk.result c.requires.opens c.take_hunk.ensures.place c.take_hunk.ensures.exact)
