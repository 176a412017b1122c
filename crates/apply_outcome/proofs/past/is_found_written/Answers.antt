use Rattle.std.proofs.Common.{◌≡◌, length, sym, ◌∙◌, ap, arith}
use Rattle.patch_options.specs.PlainJob.{plain_options}
use Rattle.apply_outcome.specs.Outcome.{has_name}
use Rattle.apply_outcome.specs.Ready.{marks}
use Rattle.apply_outcome.proofs.PastMarks.{no_mark, any_at, any_more, any_all, marks-length}
use Rattle.apply_outcome.proofs.past.is_found_written.Goals as goal

pub returns-then-has_written : goal.returns-then-has_written
returns-then-has_written c =
    let t = c.args.turn.now in
    let past = marks (plain_options t.task.options.now) t.task.set.now t.count t.verdicts.now in
    let all : length past ≡ t.count = marks-length (plain_options t.task.options.now) t.task.set.now t.count t.verdicts.now c.requires.turn.within c.requires.turn.task.ready.rows in
    sym (any_at (has_name c.args.name.now) past c.loop-k.k no_mark (omega arith)
    (ap (has_name c.args.name.now) (c.earlier_patch.ensures.mark no_mark) ∙ sym c.has_written.ensures ∙ c.if-has_written.true))

pub loop-k-preserved : goal.loop-k-preserved
loop-k-preserved c =
    let t = c.args.turn.now in
    let past = marks (plain_options t.task.options.now) t.task.set.now t.count t.verdicts.now in
    let all : length past ≡ t.count = marks-length (plain_options t.task.options.now) t.task.set.now t.count t.verdicts.now c.requires.turn.within c.requires.turn.task.ready.rows in
    any_more (has_name c.args.name.now) past c.loop-k.k no_mark (omega arith) c.loop-k.invariant
    (ap (has_name c.args.name.now) (c.earlier_patch.ensures.mark no_mark) ∙ sym c.has_written.ensures ∙ c.if-has_written.false)

pub returns : goal.returns
returns c =
    let t = c.args.turn.now in
    let past = marks (plain_options t.task.options.now) t.task.set.now t.count t.verdicts.now in
    let all : length past ≡ t.count = marks-length (plain_options t.task.options.now) t.task.set.now t.count t.verdicts.now c.requires.turn.within c.requires.turn.task.ready.rows in
    let end : c.loop-k.k ≡ t.count = omega arith in
    sym (any_all (has_name c.args.name.now) past c.loop-k.k (all ∙ sym end) c.loop-k.invariant)
