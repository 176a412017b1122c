use Rattle.std.proofs.Common.{◌<◌, [], ◌∷◌, get_or, length, sym, arith}
use Rattle.std.proofs.lemmas.List.{length-append}
use Rattle.std.proofs.lemmas.List.Elements.{All-push}
use Rattle.hunk_core.specs.Turned.{LiesIn}
use Rattle.hunk_core.specs.PlainHunk.{marked_of}
use Rattle.context_form.proofs.MergeLemmas.{nothing, kept-step, change-step, apart-step, end-step, end-some, end-none, agrees-within}
use Rattle.std.proofs.lemmas.Result.{err_from_is_err_and}
use Rattle.context_form.proofs.merging.merge_parts.Goals as goal
use Rattle.context_form.proofs.merging.merge_parts.Goals.{then-keeps+in_ok-kept+else-not-agrees_at, else-keeps}

pub returns-then-not-agrees_at-clause-exact : goal.returns-then-not-agrees_at-clause-exact
returns-then-not-agrees_at-clause-exact c =
    apart-step c.args.text.now c.loop-old.body.items c.args.olds.now c.args.news.now c.loop-old.old-index c.loop-old.place c.in_ok-kept.kept _ c.loop-old-test.true (sym c.if-keeps.ensures) (sym c.if-not-agrees_at.ensures) (c.in_ok-kept.ensures.rest c.args.text.now) c.loop-old.invariant.so_far

pub loop-old-preserved : goal.loop-old-preserved
loop-old-preserved c = record {
  within = elim c.if-keeps.branch [
    | then-keeps+in_ok-kept+else-not-agrees_at w ↦ omega (arith, w.place-is, agrees-within c.args.text.now (marked_of c.args.text.now (get_or c.args.olds.now c.loop-old.old-index nothing)) c.args.news.now w.in_ok-kept.kept (sym w.if-not-agrees_at.ensures))
    | else-keeps w ↦ omega (arith, w.place-is, c.loop-old.invariant.within)
  ];
  few = rw (c.in_ok-push.ensures.items, length-append c.if-keeps.body.items (get_or c.args.olds.now c.loop-old.old-index nothing ∷ [])) (elim c.if-keeps.branch [
    | then-keeps+in_ok-kept+else-not-agrees_at w ↦ rw (w.body-is, w.place-is) (omega (arith, w.in_ok-kept.ensures.few, c.loop-old.invariant.few))
    | else-keeps w ↦ rw (w.body-is, w.place-is) (omega (arith, c.loop-old.invariant.few))
  ]);
  lies = rw c.in_ok-push.ensures.items (All-push (λ x. LiesIn c.args.text.now x.span) c.if-keeps.body.items (get_or c.args.olds.now c.loop-old.old-index nothing) (elim c.if-keeps.branch [
    | then-keeps+in_ok-kept+else-not-agrees_at w ↦ rw w.body-is (w.in_ok-kept.ensures.lies c.args.text.now c.loop-old.invariant.lies c.requires.news_within)
    | else-keeps w ↦ rw w.body-is c.loop-old.invariant.lies
  ]) (c.requires.olds_within c.loop-old.old-index nothing c.loop-old-test.true));
  so_far = rw c.in_ok-push.ensures.items (elim c.if-keeps.branch [
    | then-keeps+in_ok-kept+else-not-agrees_at w ↦ rw (w.body-is, w.place-is) (kept-step c.args.text.now c.loop-old.body.items w.take_changes.new.body.items c.args.olds.now c.args.news.now c.loop-old.old-index c.loop-old.place w.in_ok-kept.kept _ c.loop-old-test.true (sym w.if-keeps.ensures) (sym w.if-not-agrees_at.ensures) (w.in_ok-kept.ensures.rest c.args.text.now) (w.in_ok-kept.ensures.taken c.args.text.now) c.loop-old.invariant.so_far)
    | else-keeps w ↦ rw (w.body-is, w.place-is) (change-step c.args.text.now c.loop-old.body.items c.args.olds.now c.args.news.now c.loop-old.old-index c.loop-old.place _ c.loop-old-test.true (sym w.if-keeps.ensures) c.loop-old.invariant.so_far)
  ]);
}

pub returns-then-end-news-clause-exact : goal.returns-then-end-news-clause-exact
returns-then-end-news-clause-exact c =
    let rest = c.in_ok-end.ensures.rest c.args.text.now in
    let taken = c.in_ok-end.ensures.taken c.args.text.now in
    end-some c.args.text.now c.loop-old.body.items c.take_changes-2.new.body.items c.args.news.now c.loop-old.place c.in_ok-end.end _ c.if-end-news.true taken
    (end-step c.args.text.now c.loop-old.body.items c.take_changes-2.new.body.items c.args.olds.now c.args.news.now c.loop-old.old-index c.loop-old.place c.in_ok-end.end _ c.loop-old-test.false rest taken c.loop-old.invariant.so_far)

pub returns-else-end-news-clause-exact : goal.returns-else-end-news-clause-exact
returns-else-end-news-clause-exact c =
    let rest = c.in_ok-end.ensures.rest c.args.text.now in
    let taken = c.in_ok-end.ensures.taken c.args.text.now in
    let before : c.in_ok-end.end < length c.args.news.now = omega (arith, c.in_ok-end.ensures.high, c.if-end-news.false) in
    end-none c.args.text.now c.loop-old.body.items c.args.news.now c.loop-old.place c.in_ok-end.end _ before
    (end-step c.args.text.now c.loop-old.body.items c.take_changes-2.new.body.items c.args.olds.now c.args.news.now c.loop-old.old-index c.loop-old.place c.in_ok-end.end _ c.loop-old-test.false rest taken c.loop-old.invariant.so_far)

pub returns-in_err-body : goal.returns-in_err-body
returns-in_err-body c =
    let p = err_from_is_err_and c.from_residual.result c.from_residual.ensures.1 in
    rw p.1 (record { exact = tt; few = tt; lies = tt })

pub returns-in_err-kept : goal.returns-in_err-kept
returns-in_err-kept c =
    let p = err_from_is_err_and c.from_residual-in_err-kept.result c.from_residual-in_err-kept.ensures.1 in
    rw p.1 (record { exact = tt; few = tt; lies = tt })

pub returns-in_err-push : goal.returns-in_err-push
returns-in_err-push c =
    let p = err_from_is_err_and c.from_residual-in_err-push.result c.from_residual-in_err-push.ensures.1 in
    rw p.1 (record { exact = tt; few = tt; lies = tt })

pub returns-in_err-end : goal.returns-in_err-end
returns-in_err-end c =
    let p = err_from_is_err_and c.from_residual-in_err-end.result c.from_residual-in_err-end.ensures.1 in
    rw p.1 (record { exact = tt; few = tt; lies = tt })

pub take_changes-requires : goal.take_changes-requires
take_changes-requires c = c.loop-old.invariant.within

pub agrees_at-requires-clause-line_within : goal.agrees_at-requires-clause-line_within
agrees_at-requires-clause-line_within c = c.requires.olds_within _ _ c.loop-old-test.true

pub agrees_at-requires-clause-part_within : goal.agrees_at-requires-clause-part_within
agrees_at-requires-clause-part_within c = c.requires.news_within

pub take_changes-requires-2 : goal.take_changes-requires-2
take_changes-requires-2 c = c.loop-old.invariant.within

pub returns-then-end-news-clause-few : goal.returns-then-end-news-clause-few
returns-then-end-news-clause-few c = omega (arith, c.in_ok-end.ensures.few, c.loop-old.invariant.few, c.loop-old-test.false)

pub returns-then-end-news-clause-lies : goal.returns-then-end-news-clause-lies
returns-then-end-news-clause-lies c = c.in_ok-end.ensures.lies c.args.text.now c.loop-old.invariant.lies c.requires.news_within

pub overflow_add-place : goal.overflow_add-place
overflow_add-place c = omega (arith, c.in_ok-kept.ensures.high, c.requires.few)
