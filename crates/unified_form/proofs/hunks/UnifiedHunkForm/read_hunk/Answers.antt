use Rattle.hunk_core.proofs.Grammars.{result-piece, result-unbroken, result-whole}
use Rattle.unified_form.specs.Hunks.{begins_hunk, hunk_at}
use Rattle.unified_form.proofs.Pieces.{SpellsIn, grammar}
use Rattle.unified_form.proofs.Unbroken.{hunk-unbroken}
use Rattle.unified_form.proofs.hunks.UnifiedHunkForm.read_hunk.Goals as goal

pub returns-clause-whole : goal.returns-clause-whole
returns-clause-whole c = result-whole begins_hunk hunk_at SpellsIn grammar c.args.text.now c.args.least c.args.place c.take_hunk.result c.requires.opens c.take_hunk.ensures.place c.take_hunk.ensures.exact

pub returns-clause-piece : goal.returns-clause-piece
returns-clause-piece c = result-piece begins_hunk hunk_at SpellsIn grammar c.args.text.now c.args.least c.args.place c.take_hunk.result c.requires.opens c.take_hunk.ensures.place c.take_hunk.ensures.exact

pub returns-clause-unbroken : goal.returns-clause-unbroken
returns-clause-unbroken c = result-unbroken begins_hunk hunk_at SpellsIn grammar c.args.text.now c.args.least c.args.place c.take_hunk.result (λ own behind h s pieces. hunk-unbroken c.args.least own h s pieces)
    (result-piece begins_hunk hunk_at SpellsIn grammar c.args.text.now c.args.least c.args.place c.take_hunk.result c.requires.opens c.take_hunk.ensures.place c.take_hunk.ensures.exact)
