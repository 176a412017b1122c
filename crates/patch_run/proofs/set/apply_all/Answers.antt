use Rattle.std.proofs.Common.{◌≡◌, ◌+◌, ◌<◌, ◌||◌, List, [], ◌∷◌, ◌++◌, length, Bool, refl, sym, ◌∙◌, ap, subst, arith}
use Rattle.std.proofs.lemmas.List.{length-set}
use Rattle.std.specs.Option.{ForSome}
use Rattle.outside.specs.Calls.{untouched_none, untouched_both}
use Rattle.outside.proofs.Exits.{if_ok_none, on_ok_none}
use Rattle.read_file_patch.specs.declared.FilePatch.{FilePatch}
use Rattle.read_file_patch.specs.PlainPatch.{patch_of, row_count}
use Rattle.patch_options.specs.PlainJob.{plain_options}
use Rattle.patch_set.specs.Room.{HaveRoom}
use Rattle.patch_set.specs.SetView.{SetView, hunks_in, with_row}
use Rattle.apply_task.specs.Outputs.{verdicts_over}
use Rattle.apply_outcome.specs.Ready.{AreNumbered, AreWritten, marks, rows_in}
use Rattle.patch_run.specs.Doing.{StaysSet, IsUntold}
use Rattle.patch_run.specs.Applied.{Receipt}
use Rattle.patch_run.specs.OnePatch.{PastFilePatch}
use Rattle.apply_outcome.proofs.Marks.{patch-there, marks-none, marks-next, mark-alone}
use Rattle.patch_run.proofs.Ready.{ready, ready_still, numbered}
use Rattle.patch_run.proofs.Going.{IsAt, IsNext, run_to, goes_none, goes_on, at_none, at_next}
use Rattle.patch_run.proofs.RunEnds.{IsPlacedTo, cut_ends, runs_cut, runs_all, receipt_all, placed_none, placed_next, placed_all, placed_earlier, untold_earlier}
use Rattle.patch_run.proofs.set.apply_all.Goals as goal

pub loop-k-init : goal.loop-k-init
loop-k-init g c =
    let u = g.T.Tree.view c.args.tree.now in
    let a = g.P.LineStore.seen c.args.plan.now in
    let d = g.O.Sink.view c.args.out.now in
    let o = plain_options c.args.options.now in
    record {
      same = record { text = refl; patches = refl; output = refl; skipped = refl };
      rows = c.patches.ensures.whole.rows;
      long = c.requires.verdicts;
      few = omega arith;
      goes = goes_none u a d c.requires.quiet;
      rest = g.met.O.Sink.rest_none _;
      dry = λ dry. untouched_none u;
      at = λ f told. at_none u a d g.P.Plan.scratch_after o c.args.set.now c.args.verdicts.now f c.requires.quiet told;
      written = subst (λ (past : List PastFilePatch). AreWritten c.args.written past) (sym (marks-none o c.args.set.now c.args.verdicts.now)) c.requires.written;
      room = c.requires.room;
      placed = λ lines told. placed_none (IsUntold u) o c.args.set.now c.args.verdicts.now lines;
    }

pub apply_at-requires-clause-ready : goal.apply_at-requires-clause-ready
apply_at-requires-clause-ready g c =
    let inv = c.loop-k.invariant in
    let some : 0 < length c.args.set.now.patches = omega (arith, c.loop-k-test.true, ap (λ (l : List FilePatch). length l) c.patches.ensures.patches) in
    let o = plain_options c.args.options.now in
    ready_still o c.args.set.now c.loop-k.set inv.same inv.rows (ready o c.args.set.now c.requires.lawful c.requires.names c.patches.ensures.whole some)

pub with_row-written-requires-clause-room : goal.with_row-written-requires-clause-room
with_row-written-requires-clause-room g c = c.loop-k.invariant.room

pub apply_at-requires-clause-numbered : goal.apply_at-requires-clause-numbered
apply_at-requires-clause-numbered g c =
    subst (λ (l : List FilePatch). AreNumbered 0 l) (sym c.loop-k.invariant.same.patches) (numbered c.args.set.now.text 0 0 c.args.set.now.patches c.patches.ensures.whole.placed)

pub loop-k-preserved : goal.loop-k-preserved
loop-k-preserved g c =
    let u = g.T.Tree.view c.args.tree.now in
    let x = g.T.Tree.view c.loop-k.tree in
    let w = g.T.Tree.view c.apply_at.new.tree in
    let a = g.P.LineStore.seen c.args.plan.now in
    let b = g.P.LineStore.seen c.loop-k.plan in
    let b' = g.P.LineStore.seen c.apply_at.new.plan in
    let d = g.O.Sink.view c.args.out.now in
    let e = g.O.Sink.view c.loop-k.out in
    let h = g.O.Sink.view c.apply_at.new.out in
    let o = plain_options c.args.options.now in
    let v = c.loop-k.set in
    let k = c.loop-k.k in
    let vs = c.loop-k.verdicts in
    let ws = c.apply_at.new.verdicts in
    let done = c.in_ok-done.done in
    let inv = c.loop-k.invariant in
    let same : length v.patches ≡ length c.args.set.now.patches = ap (λ (l : List FilePatch). length l) inv.same.patches in
    let lt : k < length v.patches = omega (arith, c.loop-k-test.true, same, ap (λ (l : List FilePatch). length l) c.patches.ensures.patches) in
    let p = patch-there v.patches k lt in
    let places : AreNumbered 0 v.patches = subst (λ (l : List FilePatch). AreNumbered 0 l) (sym inv.same.patches) (numbered c.args.set.now.text 0 0 c.args.set.now.patches c.patches.ensures.whole.placed) in
    let next : IsNext v k p.0 vs ws = record { within = lt; at = p.1; numbered = places; rows = inv.rows; before = c.in_ok-done.ensures.before p.0 p.1 } in
    let does = c.in_ok-done.ensures.does p.0 p.1 in
    let noted : with_row v k done.row ≡ c.note.new.self = sym c.note.ensures in
    let is_bad : (c.loop-k.is_bad || done.is_bad) ≡ c.either-is_bad.result = sym c.either-is_bad.ensures in
    let count = c.loop-k.effects + done.effects in
    record {
      same = subst (λ (s : SetView). StaysSet c.args.set.now s) noted (record { text = inv.same.text; patches = inv.same.patches; output = inv.same.output; skipped = inv.same.skipped });
      rows = subst (λ (s : SetView). length s.rows ≡ length s.patches) noted (length-set v.rows k done.row ∙ inv.rows);
      long = subst (λ (s : SetView). length ws ≡ hunks_in s.patches) noted (c.in_ok-done.ensures.verdicts ∙ inv.long);
      few = omega (arith, inv.few, c.in_ok-done.ensures.few);
      goes = goes_on done inv.goes does.stays does.quiet does.tidy;
      rest = g.met.O.Sink.rest_both _ _ _ inv.rest c.in_ok-done.ensures.rest;
      dry = λ dry. untouched_both (inv.dry dry) (c.in_ok-done.ensures.dry dry);
      at = λ f told.
          let was = inv.at f told in
          let ended = does.whole (run_to o v k f).files (was.far.now, inv.goes.plan.telling ∙ told.1) in
          subst (λ (s : SetView). IsAt u w a b' d h g.P.Plan.scratch_after o s (k + 1) ws c.either-is_bad.result count (run_to o s (k + 1) f)) noted
          (subst (λ (bad : Bool). IsAt u w a b' d h g.P.Plan.scratch_after o (with_row v k done.row) (k + 1) ws bad count (run_to o v (k + 1) f)) is_bad
          (at_next o v k p.0 vs ws next f u x w a b b' d e h was done inv.goes.plan.size ended));
      written = subst (λ (s : SetView). AreWritten c.with_row-written.result (marks o s (k + 1) ws)) noted
          (subst (λ (past : List PastFilePatch). AreWritten c.with_row-written.result past) (sym (marks-next o v k p.0 done.row vs ws places lt inv.rows p.1 next.before))
          (subst (λ (m : PastFilePatch). AreWritten c.with_row-written.result (marks o v k vs ++ m ∷ [])) (mark-alone o v k vs p.0 done.row (rows_in ws p.0))
          (c.with_row-written.ensures.written o refl (marks o v k vs) p.0 (rows_in ws p.0) p.1 inv.written)));
      room = subst (λ (s : SetView). ForSome c.with_row-written.result (HaveRoom s.patches s.output)) noted c.with_row-written.ensures.room;
      placed = λ lines told.
          subst (λ (s : SetView). IsPlacedTo (IsUntold u) o s (k + 1) ws lines) noted
          (placed_next (IsUntold u) o v k p.0 done.row ws lines lt p.1 inv.rows
          (placed_earlier (IsUntold x) (IsUntold u) (row_count p.0.change) (rows_in ws p.0) (verdicts_over o done.row.side (patch_of v.text p.0) lines) (untold_earlier inv.goes) (c.in_ok-done.ensures.placed p.0 lines p.1 told)));
    }

pub returns-in_err-done : goal.returns-in_err-done
returns-in_err-done g c = record {
  runs = (
      let u = g.T.Tree.view c.args.tree.now in
      let x = g.T.Tree.view c.loop-k.tree in
      let w = g.T.Tree.view c.apply_at.new.tree in
      let a = g.P.LineStore.seen c.args.plan.now in
      let b = g.P.LineStore.seen c.loop-k.plan in
      let b' = g.P.LineStore.seen c.apply_at.new.plan in
      let d = g.O.Sink.view c.args.out.now in
      let e = g.O.Sink.view c.loop-k.out in
      let h = g.O.Sink.view c.apply_at.new.out in
      let o = plain_options c.args.options.now in
      let v = c.loop-k.set in
      let k = c.loop-k.k in
      let inv = c.loop-k.invariant in
      let same : length v.patches ≡ length c.args.set.now.patches = ap (λ (l : List FilePatch). length l) inv.same.patches in
      let lt : k < length v.patches = omega (arith, c.loop-k-test.true, same, ap (λ (l : List FilePatch). length l) c.patches.ensures.patches) in
      let p = patch-there v.patches k lt in
      let places : AreNumbered 0 v.patches = subst (λ (l : List FilePatch). AreNumbered 0 l) (sym inv.same.patches) (numbered c.args.set.now.text 0 0 c.args.set.now.patches c.patches.ensures.whole.placed) in
      let next : IsNext v k p.0 c.loop-k.verdicts c.apply_at.new.verdicts = record { within = lt; at = p.1; numbered = places; rows = inv.rows; before = c.in_err-done.ensures.before p.0 p.1 } in
      runs_cut u x w a b b' d e h o c.args.set.now v k p.0 c.loop-k.verdicts c.apply_at.new.verdicts next inv.same inv.goes inv.at c.in_err-done.field-0.0 c.from_residual.result c.from_residual.ensures.1 (c.in_err-done.ensures.does p.0 p.1));
  cut = (
      let u = g.T.Tree.view c.args.tree.now in
      let x = g.T.Tree.view c.loop-k.tree in
      let w = g.T.Tree.view c.apply_at.new.tree in
      let a = g.P.LineStore.seen c.args.plan.now in
      let b = g.P.LineStore.seen c.loop-k.plan in
      let b' = g.P.LineStore.seen c.apply_at.new.plan in
      let d = g.O.Sink.view c.args.out.now in
      let e = g.O.Sink.view c.loop-k.out in
      let h = g.O.Sink.view c.apply_at.new.out in
      let o = plain_options c.args.options.now in
      let v = c.loop-k.set in
      let k = c.loop-k.k in
      let inv = c.loop-k.invariant in
      let same : length v.patches ≡ length c.args.set.now.patches = ap (λ (l : List FilePatch). length l) inv.same.patches in
      let lt : k < length v.patches = omega (arith, c.loop-k-test.true, same, ap (λ (l : List FilePatch). length l) c.patches.ensures.patches) in
      let p = patch-there v.patches k lt in
      let places : AreNumbered 0 v.patches = subst (λ (l : List FilePatch). AreNumbered 0 l) (sym inv.same.patches) (numbered c.args.set.now.text 0 0 c.args.set.now.patches c.patches.ensures.whole.placed) in
      let next : IsNext v k p.0 c.loop-k.verdicts c.apply_at.new.verdicts = record { within = lt; at = p.1; numbered = places; rows = inv.rows; before = c.in_err-done.ensures.before p.0 p.1 } in
      cut_ends u x w a b b' d e h o c.args.set.now v k p.0 c.loop-k.verdicts c.apply_at.new.verdicts next inv.same inv.goes inv.at c.in_err-done.field-0.0 c.from_residual.result c.from_residual.ensures.1 (c.in_err-done.ensures.does p.0 p.1));
  dry = λ dry. untouched_both (c.loop-k.invariant.dry dry) (c.in_err-done.ensures.dry dry);
  rest = g.met.O.Sink.rest_both _ _ _ c.loop-k.invariant.rest c.in_err-done.ensures.rest;
  set = c.loop-k.invariant.same;
  verdicts = c.in_err-done.ensures.verdicts ∙ c.loop-k.invariant.long ∙ ap (λ (l : List FilePatch). hunks_in l) c.loop-k.invariant.same.patches ∙ sym c.requires.verdicts;
  receipt = if_ok_none _ _ c.from_residual.result c.from_residual.ensures.1;
  done = if_ok_none _ _ c.from_residual.result c.from_residual.ensures.1;
  placed = on_ok_none _ _ c.from_residual.result c.from_residual.ensures.1;
}

pub apply_at-requires-clause-within : goal.apply_at-requires-clause-within
apply_at-requires-clause-within g c =
    let same : length c.loop-k.set.patches ≡ length c.args.set.now.patches = ap (λ (l : List FilePatch). length l) c.loop-k.invariant.same.patches in
    omega (arith, c.loop-k-test.true, same, ap (λ (l : List FilePatch). length l) c.patches.ensures.patches)

pub apply_at-requires-clause-verdicts : goal.apply_at-requires-clause-verdicts
apply_at-requires-clause-verdicts g c = c.loop-k.invariant.long

pub apply_at-requires-clause-written : goal.apply_at-requires-clause-written
apply_at-requires-clause-written g c = c.loop-k.invariant.written

pub apply_at-requires-clause-size : goal.apply_at-requires-clause-size
apply_at-requires-clause-size g c = c.loop-k.invariant.goes.plan.size ∙ c.requires.size

pub apply_at-requires-clause-quiet : goal.apply_at-requires-clause-quiet
apply_at-requires-clause-quiet g c = c.loop-k.invariant.goes.quiet

pub with_row-written-requires-clause-within : goal.with_row-written-requires-clause-within
with_row-written-requires-clause-within g c =
    let same : length c.loop-k.set.patches ≡ length c.args.set.now.patches = ap (λ (l : List FilePatch). length l) c.loop-k.invariant.same.patches in
    omega (arith, c.loop-k-test.true, same, ap (λ (l : List FilePatch). length l) c.patches.ensures.patches)

pub note-requires : goal.note-requires
note-requires g c =
    let same : length c.loop-k.set.patches ≡ length c.args.set.now.patches = ap (λ (l : List FilePatch). length l) c.loop-k.invariant.same.patches in
    omega (arith, c.loop-k-test.true, same, ap (λ (l : List FilePatch). length l) c.patches.ensures.patches)

pub returns : goal.returns
returns g c = record {
  runs = (
      let u = g.T.Tree.view c.args.tree.now in
      let inv = c.loop-k.invariant in
      let same : length c.loop-k.set.patches ≡ length c.args.set.now.patches = ap (λ (l : List FilePatch). length l) inv.same.patches in
      let all : c.loop-k.k ≡ length c.loop-k.set.patches = omega (arith, c.loop-k-test.false, same, ap (λ (l : List FilePatch). length l) c.patches.ensures.patches) in
      runs_all (plain_options c.args.options.now) c.args.set.now c.loop-k.set c.loop-k.k c.loop-k.verdicts all inv.same inv.at c.new.result inv.goes);
  cut = tt;
  rest = c.loop-k.invariant.rest;
  dry = c.loop-k.invariant.dry;
  set = c.loop-k.invariant.same;
  verdicts = c.loop-k.invariant.long ∙ ap (λ (l : List FilePatch). hunks_in l) c.loop-k.invariant.same.patches ∙ sym c.requires.verdicts;
  receipt = (
      let inv = c.loop-k.invariant in
      let same : length c.loop-k.set.patches ≡ length c.args.set.now.patches = ap (λ (l : List FilePatch). length l) inv.same.patches in
      let all : c.loop-k.k ≡ length c.loop-k.set.patches = omega (arith, c.loop-k-test.false, same, ap (λ (l : List FilePatch). length l) c.patches.ensures.patches) in
      receipt_all (plain_options c.args.options.now) c.args.set.now c.loop-k.set c.loop-k.k c.loop-k.verdicts all inv.same inv.at _ c.new.result inv.long inv.rows c.new.ensures (ap (λ (l : List FilePatch). length l) c.patches.ensures.patches));
  done = ap (λ (r : Receipt). r.done) c.new.ensures ∙ ap (λ (l : List FilePatch). length l) c.patches.ensures.patches;
  placed = λ lines told.
      let inv = c.loop-k.invariant in
      let same : length c.loop-k.set.patches ≡ length c.args.set.now.patches = ap (λ (l : List FilePatch). length l) inv.same.patches in
      let all : c.loop-k.k ≡ length c.loop-k.set.patches = omega (arith, c.loop-k-test.false, same, ap (λ (l : List FilePatch). length l) c.patches.ensures.patches) in
      placed_all (IsUntold (g.T.Tree.view c.args.tree.now)) (plain_options c.args.options.now) c.loop-k.set c.loop-k.k c.loop-k.verdicts lines all inv.rows (inv.placed lines told);
}
