use Rattle.std.proofs.Common.{◌≡◌, ◌+◌, ◌++◌, ℕ, List, length, take, drop, get_or, Some, refl, sym, ◌∙◌, ap, subst, arith, length-append, ◌<◌}
use Rattle.std.proofs.lemmas.List.{take_at, drop_at, drop-drop}
use Rattle.std.proofs.lemmas.List.Elements.{All-get_or}
use Rattle.std.proofs.lemmas.Result.{IfOk-weaker}
use Rattle.hunk_core.specs.declared.Verdict.{Verdict}
use Rattle.read_file_patch.specs.declared.FilePatch.{FilePatch}
use Rattle.apply_task.specs.Outputs.{verdicts_over}
use Rattle.read_file_patch.specs.PlainPatch.{patch_of, row_count}
use Rattle.patch_options.specs.PlainJob.{plain_options}
use Rattle.patch_run.specs.Doing.{Does, IsUntold, ArePlaced, IsPlacedOn}
use Rattle.patch_run.specs.OnePatch.{PastFilePatch, PlainContext, ending}
use Rattle.patch_run.specs.Run.{item_of, moved_in}
use Rattle.apply_outcome.specs.Ready.{IsFit, AreWritten, marks, rows_in, turn_at}
use Rattle.apply_outcome.proofs.Marks.{place-at, same-patch, all-first, marks-before, rows-last}
use Rattle.patch_run.proofs.RunEnds.{placed_rows}
use Rattle.patch_run.proofs.set.apply_at.Goals as goal

pub split_at_mut-before-requires : goal.split_at_mut-before-requires
split_at_mut-before-requires g c =
    let q = c.index-patches-k.result in
    let at : q ≡ get_or c.args.set.now.patches c.args.k q = c.index-patches-k.is ∙ ap (λ (l : List FilePatch). get_or l c.args.k q) c.patches.ensures.patches in
    let place = place-at c.args.verdicts.now c.args.set.now.patches c.args.k q c.requires.numbered c.requires.within at c.requires.verdicts in
    omega (arith, place)

pub apply_front-requires-clause-turn : goal.apply_front-requires-clause-turn
apply_front-requires-clause-turn g c =
    let v = c.args.set.now in
    let q = c.index-patches-k.result in
    let at : q ≡ get_or v.patches c.args.k q = c.index-patches-k.is ∙ ap (λ (l : List FilePatch). get_or l c.args.k q) c.patches.ensures.patches in
    record {
      task = record {
        ready = c.requires.ready;
        fit = subst (λ (p : FilePatch). IsFit v.text p) (sym at) (All-get_or (IsFit v.text) v.patches c.args.k q c.requires.within c.requires.ready.patches);
      };
      first = refl;
      within = omega (arith, c.requires.within);
      past = all-first v.patches c.args.k q (length c.split_at_mut-before.result.0.now) c.requires.numbered c.requires.within at (omega (arith, c.split_at_mut-before.ensures.front_len));
      written = subst (λ (past : List PastFilePatch). AreWritten c.args.written.now past)
          (sym (marks-before (plain_options c.args.options.now) v c.args.k q c.args.verdicts.now c.split_at_mut-before.result.0.now c.requires.numbered c.requires.within at c.split_at_mut-before.ensures.front)) c.requires.written;
    }

pub apply_front-requires-clause-rows : goal.apply_front-requires-clause-rows
apply_front-requires-clause-rows g c =
    let q = c.index-patches-k.result in
    let at : q ≡ get_or c.args.set.now.patches c.args.k q = c.index-patches-k.is ∙ ap (λ (l : List FilePatch). get_or l c.args.k q) c.patches.ensures.patches in
    let place = place-at c.args.verdicts.now c.args.set.now.patches c.args.k q c.requires.numbered c.requires.within at c.requires.verdicts in
    omega (arith, place, c.split_at_mut-before.ensures.back_len)

pub returns : goal.returns
returns g c = record {
  does = λ p here.
      let v = c.args.set.now in
      let o = plain_options c.args.options.now in
      let k = c.args.k in
      let q = c.index-patches-k.result in
      let s = c.split_at_mut-before.ensures in
      let front = c.split_at_mut-before.result.0.now in
      let at : q ≡ get_or v.patches k q = c.index-patches-k.is ∙ ap (λ (l : List FilePatch). get_or l k q) c.patches.ensures.patches in
      let turn : List PastFilePatch → PlainContext = λ past. record { options = o; output = v.output; item = item_of v.text v.skipped (moved_in v.patches) q; past = past } in
      let past : marks o v k front ≡ marks o v k c.args.verdicts.now = marks-before o v k q c.args.verdicts.now front c.requires.numbered c.requires.within at s.front in
      let D = λ (rows : List Verdict) (t : PlainContext). Does (g.T.Tree.view c.args.tree.now) (g.T.Tree.view c.apply_front.new.tree) (g.P.LineStore.seen c.args.plan.now) (g.P.LineStore.seen c.apply_front.new.plan) (g.O.Sink.view c.args.out.now) (g.O.Sink.view c.apply_front.new.out) g.P.Plan.scratch_after c.apply_front.result rows (ending t) in
      let does : D (take (row_count q.change) c.apply_front.new.verdicts) (turn (marks o v k front)) = c.apply_front.ensures.does in
      subst (λ (x : FilePatch). D (rows_in (front ++ c.apply_front.new.verdicts) x) (turn_at o v k c.args.verdicts.now x)) (same-patch v.patches k p q c.requires.within here at)
      (subst (λ (l : List Verdict). D l (turn_at o v k c.args.verdicts.now q)) (sym (rows-last front c.apply_front.new.verdicts q s.front_len))
      (subst (λ (l : List PastFilePatch). D (take (row_count q.change) c.apply_front.new.verdicts) (turn l)) past does));
  before = λ p here.
      let v = c.args.set.now in
      let k = c.args.k in
      let q = c.index-patches-k.result in
      let s = c.split_at_mut-before.ensures in
      let at : q ≡ get_or v.patches k q = c.index-patches-k.is ∙ ap (λ (l : List FilePatch). get_or l k q) c.patches.ensures.patches in
      let ws = c.split_at_mut-before.result.0.now ++ c.apply_front.new.verdicts in
      subst (λ (x : FilePatch). take x.first_verdict ws ≡ take x.first_verdict c.args.verdicts.now) (same-patch v.patches k p q c.requires.within here at)
      (take_at c.split_at_mut-before.result.0.now c.apply_front.new.verdicts q.first_verdict s.front_len ∙ s.front);
  behind = λ p here.
      let v = c.args.set.now in
      let k = c.args.k in
      let q = c.index-patches-k.result in
      let s = c.split_at_mut-before.ensures in
      let at : q ≡ get_or v.patches k q = c.index-patches-k.is ∙ ap (λ (l : List FilePatch). get_or l k q) c.patches.ensures.patches in
      let front = c.split_at_mut-before.result.0.now in
      let rest = c.apply_front.new.verdicts in
      let n = q.first_verdict in
      let m = row_count q.change in
      subst (λ (x : FilePatch). drop (x.first_verdict + row_count x.change) (front ++ rest) ≡ drop (x.first_verdict + row_count x.change) c.args.verdicts.now) (same-patch v.patches k p q c.requires.within here at)
      (sym (drop-drop m n (front ++ rest))
      ∙ ap (λ (l : List Verdict). drop m l) (drop_at front rest n s.front_len)
      ∙ c.apply_front.ensures.behind
      ∙ ap (λ (l : List Verdict). drop m l) s.back
      ∙ drop-drop m n c.args.verdicts.now);
  placed = (
      let v = c.args.set.now in
      let o = plain_options c.args.options.now in
      let k = c.args.k in
      let q = c.index-patches-k.result in
      let front = c.split_at_mut-before.result.0.now in
      let rest = c.apply_front.new.verdicts in
      let seen = g.P.LineStore.seen c.apply_front.new.plan in
      let Untold = IsUntold (g.T.Tree.view c.args.tree.now) in
      let at : q ≡ get_or v.patches k q = c.index-patches-k.is ∙ ap (λ (l : List FilePatch). get_or l k q) c.patches.ensures.patches in
      IfOk-weaker c.apply_front.result
      (λ done. (lines : List (List ℕ)) → seen.told ≡ Some lines → ArePlaced Untold (row_count q.change) (take (row_count q.change) rest) (verdicts_over o done.row.side (patch_of v.text q) lines))
      (λ done. (p : FilePatch) (lines : List (List ℕ)) → p ≡ get_or v.patches k p → seen.told ≡ Some lines → IsPlacedOn Untold o v.text p (front ++ rest) done.row lines)
      (λ done placed p lines here told.
      subst (λ (x : FilePatch). IsPlacedOn Untold o v.text x (front ++ rest) done.row lines) (same-patch v.patches k p q c.requires.within here at)
      (placed_rows Untold o v.text front rest q done.row lines c.split_at_mut-before.ensures.front_len (placed lines told)))
      c.apply_front.ensures.placed);
  rest = c.apply_front.ensures.rest;
  dry = c.apply_front.ensures.dry;
  few = c.apply_front.ensures.few;
  verdicts = (
      let q = c.index-patches-k.result in
      let at : q ≡ get_or c.args.set.now.patches c.args.k q = c.index-patches-k.is ∙ ap (λ (l : List FilePatch). get_or l c.args.k q) c.patches.ensures.patches in
      let place = place-at c.args.verdicts.now c.args.set.now.patches c.args.k q c.requires.numbered c.requires.within at c.requires.verdicts in
      omega (arith, place, length-append c.split_at_mut-before.result.0.now c.apply_front.new.verdicts, c.apply_front.ensures.verdicts, c.split_at_mut-before.ensures.front_len, c.split_at_mut-before.ensures.back_len));
}

pub apply_front-requires-clause-size : goal.apply_front-requires-clause-size
apply_front-requires-clause-size g c = c.requires.size

pub apply_front-requires-clause-quiet : goal.apply_front-requires-clause-quiet
apply_front-requires-clause-quiet g c = c.requires.quiet

pub bounds-patches-k : goal.bounds-patches-k
bounds-patches-k g c = subst (λ (l : List FilePatch). c.args.k < length l) (sym c.patches.ensures.patches) c.requires.within
