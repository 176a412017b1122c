use Rattle.std.proofs.Common.{◌≡◌, ◌*◌, ◌≤◌, ℕ, List, length, true, Some}
use Rattle.std.specs.Option.{ForSome}
use Rattle.outside.specs.Files.{Files}
use Rattle.outside.specs.Calls.{IsUntouched}
use Rattle.patch_options.specs.PlainJob.{plain_options}
use Rattle.patch_set.specs.Room.{HaveRoom}
use Rattle.patch_set.specs.SetView.{hunks_in}
use Rattle.apply_start.specs.Devices.{Told}
use Rattle.patch_run.specs.Doing.{StaysSet, IsUntold}
use Rattle.apply_outcome.specs.Ready.{AreWritten, marks}
use Rattle.patch_run.proofs.Going.{Goes, IsAt, run_to}
use Rattle.patch_run.proofs.RunEnds.{IsPlacedTo}
use Rattle.patch_run.proofs.set.apply_all.Given as goal

abbrev pub invariant-loop-k : goal.invariant-loop-k
invariant-loop-k g l =
    let u = g.T.Tree.view l.fn.tree in
    let v = g.T.Tree.view l.tree in
    let a = g.P.LineStore.seen l.fn.plan in
    let b = g.P.LineStore.seen l.plan in
    let c = g.O.Sink.view l.fn.out in
    let d = g.O.Sink.view l.out in
    let o = plain_options l.options in
    record {
      same : StaysSet l.fn.set l.set;
      rows : length l.set.rows ≡ length l.set.patches;
      long : length l.verdicts ≡ hunks_in l.set.patches;
      few : l.effects ≤ 5 * l.k;
      goes : Goes u v a b c d;
      rest : g.O.Sink.same_rest l.fn.out l.out;
      dry : o.dry_run ≡ true → IsUntouched u v;
      at : (f : Files) → Told u a f → IsAt u v a b c d g.P.Plan.scratch_after o l.set l.k l.verdicts l.is_bad l.effects (run_to o l.set l.k f);
      written : AreWritten l.written (marks o l.set l.k l.verdicts);
      room : ForSome l.written (HaveRoom l.set.patches l.set.output);
      placed : (lines : List (List ℕ)) → b.told ≡ Some lines → IsPlacedTo (IsUntold u) o l.set l.k l.verdicts lines;
    }
