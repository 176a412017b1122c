use Rattle.std.proofs.Common.{◌≡◌, ℕ, List, [], length, take, drop, Some, IfOk, sym, ◌∙◌, ap, subst, arith, length-append, length-drop, ◌≤◌}
use Rattle.std.proofs.lemmas.Result.{IfOk-weaker}
use Rattle.std.proofs.lemmas.List.{take_at, drop_at, length-take, length-take-le}
use Rattle.hunk_core.specs.declared.Verdict.{Verdict}
use Rattle.apply_task.specs.Outputs.{verdicts_over}
use Rattle.read_file_patch.specs.PlainPatch.{row_count}
use Rattle.patch_run.specs.Doing.{Does, IsUntold, ArePlaced}
use Rattle.patch_run.specs.OnePatch.{ending}
use Rattle.apply_outcome.specs.ContextView.{plain_context}
use Rattle.apply_outcome.proofs.Marks.{rows-counted}
use Rattle.patch_run.proofs.RunEnds.{placed_earlier}
use Rattle.patch_run.proofs.set.apply_front.Goals as goal

pub returns : goal.returns
returns g c = record {
  does = (
      let n = row_count c.args.turn.now.task.patch.now.change in
      let is : c.hunks-count.result ≡ n = c.hunks-count.ensures [] ∙ rows-counted [] c.args.turn.now.task.patch.now.change in
      let ws = c.apply_one.new.verdicts in
      let long : length ws ≡ n = omega (arith, c.apply_one.ensures.rows, length-take c.hunks-count.result c.args.verdicts.now, is, c.requires.rows) in
      subst (λ (l : List Verdict). Does (g.T.Tree.view c.args.tree.now) (g.T.Tree.view c.apply_one.new.tree) (g.P.LineStore.seen c.args.plan.now) (g.P.LineStore.seen c.apply_one.new.plan) (g.O.Sink.view c.args.out.now) (g.O.Sink.view c.apply_one.new.out) g.P.Plan.scratch_after c.apply_one.result l (ending (plain_context c.args.turn.now)))
      (sym (take_at ws (drop c.hunks-count.result c.args.verdicts.now) n long))
      c.apply_one.ensures.does);
  behind = (
      let n = row_count c.args.turn.now.task.patch.now.change in
      let is : c.hunks-count.result ≡ n = c.hunks-count.ensures [] ∙ rows-counted [] c.args.turn.now.task.patch.now.change in
      let ws = c.apply_one.new.verdicts in
      let long : length ws ≡ n = omega (arith, c.apply_one.ensures.rows, length-take c.hunks-count.result c.args.verdicts.now, is, c.requires.rows) in
      drop_at ws (drop c.hunks-count.result c.args.verdicts.now) n long ∙ ap (λ k. drop k c.args.verdicts.now) is);
  verdicts = (
      let n = row_count c.args.turn.now.task.patch.now.change in
      let is : c.hunks-count.result ≡ n = c.hunks-count.ensures [] ∙ rows-counted [] c.args.turn.now.task.patch.now.change in
      let rest = drop c.hunks-count.result c.args.verdicts.now in
      omega (arith, length-append c.apply_one.new.verdicts rest, length-drop c.hunks-count.result c.args.verdicts.now, c.apply_one.ensures.rows, length-take c.hunks-count.result c.args.verdicts.now, is, c.requires.rows));
  rest = c.apply_one.ensures.rest;
  dry = c.apply_one.ensures.dry;
  few = c.apply_one.ensures.few;
  placed = (
      let n = row_count c.args.turn.now.task.patch.now.change in
      let count = c.hunks-count.result in
      let is : count ≡ n = c.hunks-count.ensures [] ∙ rows-counted [] c.args.turn.now.task.patch.now.change in
      let ws = c.apply_one.new.verdicts in
      let own : length (take count c.args.verdicts.now) ≡ n = omega (arith, length-take count c.args.verdicts.now, is, c.requires.rows) in
      let placed : List Verdict → ℕ → Type 0 = λ l m. IfOk c.apply_one.result (λ done. (lines : List (List ℕ)) → (g.P.LineStore.seen c.apply_one.new.plan).told ≡ Some lines
      → ArePlaced (IsUntold (g.T.Tree.view c.args.tree.now)) m l (verdicts_over (plain_context c.args.turn.now).options done.row.side (plain_context c.args.turn.now).item.patch lines)) in
      subst (λ (l : List Verdict). placed l n) (sym (take_at ws (drop count c.args.verdicts.now) n (c.apply_one.ensures.rows ∙ own)))
      (subst (λ (m : ℕ). placed ws m) own
      (IfOk-weaker c.apply_one.result _ _ (λ done is lines told. placed_earlier _ (IsUntold (g.T.Tree.view c.args.tree.now)) _ _ _ (λ both. both.0) (is lines told)) c.apply_one.ensures.placed)));
}

pub apply_one-requires-clause-rows : goal.apply_one-requires-clause-rows
apply_one-requires-clause-rows g c =
    let n = row_count c.args.turn.now.task.patch.now.change in
    let is : c.hunks-count.result ≡ n = c.hunks-count.ensures [] ∙ rows-counted [] c.args.turn.now.task.patch.now.change in
    omega (arith, length-take c.hunks-count.result c.args.verdicts.now, is, c.requires.rows)

pub slice_bounds-own-end-2 : goal.slice_bounds-own-end-2
slice_bounds-own-end-2 g c = sym (length-take-le c.hunks-count.result c.args.verdicts.now (subst (λ n. n ≤ length c.args.verdicts.now) (sym (c.hunks-count.ensures [] ∙ rows-counted [] c.args.turn.now.task.patch.now.change)) c.requires.rows))

pub slice_bounds-own-end : goal.slice_bounds-own-end
slice_bounds-own-end g c = subst (λ n. n ≤ length c.args.verdicts.now) (sym (c.hunks-count.ensures [] ∙ rows-counted [] c.args.turn.now.task.patch.now.change)) c.requires.rows

pub apply_one-requires-clause-turn : goal.apply_one-requires-clause-turn
apply_one-requires-clause-turn g c = c.requires.turn

pub apply_one-requires-clause-quiet : goal.apply_one-requires-clause-quiet
apply_one-requires-clause-quiet g c = c.requires.quiet

pub apply_one-requires-clause-size : goal.apply_one-requires-clause-size
apply_one-requires-clause-size g c = c.requires.size

pub hunks-count-requires : goal.hunks-count-requires
hunks-count-requires g c = c.requires.turn.task.fit.hunks
