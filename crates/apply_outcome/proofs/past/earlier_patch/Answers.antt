use Rattle.std.proofs.Common.{◌∙◌, ap, sym, get_or, subst, length, ◌<◌, List}
use Rattle.patch_options.specs.PlainJob.{plain_options}
use Rattle.apply_outcome.specs.Outcome.{mark_of}
use Rattle.apply_task.specs.Ready.{alone}
use Rattle.apply_outcome.proofs.PastMarks.{mark_at, verdicts_at, fit_at, in_set}
use Rattle.read_file_patch.specs.declared.FilePatch.{FilePatch}
use Rattle.apply_outcome.proofs.past.earlier_patch.Goals as goal

pub rows_in-requires-clause-within : goal.rows_in-requires-clause-within
rows_in-requires-clause-within c =
    let t = c.args.turn.now in
    verdicts_at (plain_options t.task.options.now) t.task.set.now t.count t.verdicts.now c.requires.turn.within c.args.k c.index-patches-k.result c.requires.low (c.index-patches-k.is ∙ ap (λ ps. get_or ps c.args.k c.index-patches-k.result) c.patches.ensures.patches) c.requires.turn.past

pub rows_in-requires-clause-few : goal.rows_in-requires-clause-few
rows_in-requires-clause-few c = (fit_at (plain_options c.args.turn.now.task.options.now) c.args.turn.now.task.set.now c.args.turn.now.count c.args.k c.index-patches-k.result c.requires.turn.task.ready c.requires.turn.within c.requires.low (c.index-patches-k.is ∙ ap (λ ps. get_or ps c.args.k c.index-patches-k.result) c.patches.ensures.patches)).hunks

pub bounds-patches-k : goal.bounds-patches-k
bounds-patches-k c = subst (λ (ps : List FilePatch). c.args.k < length ps) (sym c.patches.ensures.patches) (in_set c.args.k c.args.turn.now.count (length c.args.turn.now.task.set.now.patches) c.requires.low c.requires.turn.within)

pub returns : goal.returns
returns c = record {
  mark = λ m.
      let t = c.args.turn.now in
      mark_at (plain_options t.task.options.now) t.task.set.now t.count t.verdicts.now c.requires.turn.within c.requires.turn.task.ready.rows c.args.k c.index-patches-k.result c.row.result m c.requires.low (c.index-patches-k.is ∙ ap (λ ps. get_or ps c.args.k c.index-patches-k.result) c.patches.ensures.patches) c.row.ensures.row
      ∙ ap (mark_of (alone (plain_options t.task.options.now) t.task.set.now c.index-patches-k.result) c.row.result) (sym c.rows_in.ensures.rows);
  fit = fit_at (plain_options c.args.turn.now.task.options.now) c.args.turn.now.task.set.now c.args.turn.now.count c.args.k c.index-patches-k.result c.requires.turn.task.ready c.requires.turn.within c.requires.low (c.index-patches-k.is ∙ ap (λ ps. get_or ps c.args.k c.index-patches-k.result) c.patches.ensures.patches);
  rows = c.rows_in.ensures.count;
}
