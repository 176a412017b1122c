use Rattle.std.proofs.Common.{refl}
use Rattle.std.proofs.lemmas.List.Elements.{All-push}
use Rattle.std.proofs.lemmas.Result.{IfOk-from_err}
use Rattle.hunk_core.specs.Turned.{LiesIn}
use Rattle.ed_form.proofs.Bounds.{no-more, one-more}
use Rattle.ed_form.proofs.TextLoops.{step-dot, step-push, step-ended, step-corrected, ended-double}
use Rattle.ed_form.proofs.added.take_line.Goals as goal

pub slice_bounds-is_line-count : goal.slice_bounds-is_line-count
slice_bounds-is_line-count c = c.requires.span.0

pub slice_bounds-is_line-start : goal.slice_bounds-is_line-start
slice_bounds-is_line-start c = c.requires.span.0

pub slice_bounds-is_line-end : goal.slice_bounds-is_line-end
slice_bounds-is_line-end c = c.requires.span.1

pub returns-then-is_line-clause-lies : goal.returns-then-is_line-clause-lies
returns-then-is_line-clause-lies c = c.requires.lies

pub returns-then-is_line-clause-few : goal.returns-then-is_line-clause-few
returns-then-is_line-clause-few c = no-more _ _ refl

pub returns-then-is_line-clause-memory : goal.returns-then-is_line-clause-memory
returns-then-is_line-clause-memory c = tt

pub returns-then-is_line-clause-exact : goal.returns-then-is_line-clause-exact
returns-then-is_line-clause-exact c = step-dot c.args.part _ _ c.in-Text.is c.if-is_line.ensures

pub returns-in_err-push-in-Text-clause-lies : goal.returns-in_err-push-in-Text-clause-lies
returns-in_err-push-in-Text-clause-lies c = IfOk-from_err c.from_residual.result _ c.from_residual.ensures.0

pub returns-in_err-push-in-Text-clause-few : goal.returns-in_err-push-in-Text-clause-few
returns-in_err-push-in-Text-clause-few c = IfOk-from_err c.from_residual.result _ c.from_residual.ensures.0

pub returns-in_err-push-in-Text-clause-exact : goal.returns-in_err-push-in-Text-clause-exact
returns-in_err-push-in-Text-clause-exact c = IfOk-from_err c.from_residual.result _ c.from_residual.ensures.0

pub returns-in_ok-push-in-Text-clause-lies : goal.returns-in_ok-push-in-Text-clause-lies
returns-in_ok-push-in-Text-clause-lies c = rw c.in_ok-push-in-Text.ensures.items (All-push (LiesIn c.args.text.now) c.args.added.now.items c.args.span c.requires.lies c.requires.span)

pub returns-in_ok-push-in-Text-clause-few : goal.returns-in_ok-push-in-Text-clause-few
returns-in_ok-push-in-Text-clause-few c = one-more _ _ c.in_ok-push-in-Text.ensures.len

pub returns-in_ok-push-in-Text-clause-memory : goal.returns-in_ok-push-in-Text-clause-memory
returns-in_ok-push-in-Text-clause-memory c = tt

pub returns-in_ok-push-in-Text-clause-exact : goal.returns-in_ok-push-in-Text-clause-exact
returns-in_ok-push-in-Text-clause-exact c = step-push c.args.text.now c.args.part c.args.added.now.items c.push.new.self.items c.args.span c.in-Text.is c.if-is_line.ensures c.in_ok-push-in-Text.ensures.items

pub correct-requires-clause-short : goal.correct-requires-clause-short
correct-requires-clause-short c = c.requires.short

pub correct-requires-clause-lies : goal.correct-requires-clause-lies
correct-requires-clause-lies c = c.requires.lies

pub correct-requires-clause-double : goal.correct-requires-clause-double
correct-requires-clause-double c = ended-double c.args.part _ _ c.in-Ended.is c.requires.taken

pub returns-in_err-correct-in-Ended-clause-lies : goal.returns-in_err-correct-in-Ended-clause-lies
returns-in_err-correct-in-Ended-clause-lies c = IfOk-from_err c.from_residual-in_err-correct-in-Ended.result _ c.from_residual-in_err-correct-in-Ended.ensures.0

pub returns-in_err-correct-in-Ended-clause-few : goal.returns-in_err-correct-in-Ended-clause-few
returns-in_err-correct-in-Ended-clause-few c = IfOk-from_err c.from_residual-in_err-correct-in-Ended.result _ c.from_residual-in_err-correct-in-Ended.ensures.0

pub returns-in_err-correct-in-Ended-clause-exact : goal.returns-in_err-correct-in-Ended-clause-exact
returns-in_err-correct-in-Ended-clause-exact c = IfOk-from_err c.from_residual-in_err-correct-in-Ended.result _ c.from_residual-in_err-correct-in-Ended.ensures.0

pub returns-in_ok-correct-in-Ended-clause-lies : goal.returns-in_ok-correct-in-Ended-clause-lies
returns-in_ok-correct-in-Ended-clause-lies c = c.in_ok-correct-in-Ended.ensures.lies

pub returns-in_ok-correct-in-Ended-clause-few : goal.returns-in_ok-correct-in-Ended-clause-few
returns-in_ok-correct-in-Ended-clause-few c = no-more _ _ c.in_ok-correct-in-Ended.ensures.len

pub returns-in_ok-correct-in-Ended-clause-memory : goal.returns-in_ok-correct-in-Ended-clause-memory
returns-in_ok-correct-in-Ended-clause-memory c = tt

pub returns-in_ok-correct-in-Ended-clause-exact : goal.returns-in_ok-correct-in-Ended-clause-exact
returns-in_ok-correct-in-Ended-clause-exact c = step-ended c.args.part _ _ _ c.in-Ended.is c.in_ok-correct-in-Ended.ensures.exact

pub returns-in-Corrected-clause-lies : goal.returns-in-Corrected-clause-lies
returns-in-Corrected-clause-lies c = c.requires.lies

pub returns-in-Corrected-clause-few : goal.returns-in-Corrected-clause-few
returns-in-Corrected-clause-few c = no-more _ _ refl

pub returns-in-Corrected-clause-memory : goal.returns-in-Corrected-clause-memory
returns-in-Corrected-clause-memory c = tt

pub returns-in-Corrected-clause-exact : goal.returns-in-Corrected-clause-exact
returns-in-Corrected-clause-exact c = step-corrected c.args.part _ _ c.in-Corrected.is
