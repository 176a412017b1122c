use Rattle.std.proofs.Common.{◌≡◌, ◌++◌, ℕ, List, [], length, take, drop, Some, IfErr, IfOk, OnOk, sym, ◌∙◌, ap, subst}
use Rattle.std.specs.Option.{ForSome}
use Rattle.std.proofs.lemmas.List.{take_at}
use Rattle.hunk_core.specs.declared.Verdict.{Verdict}
use Rattle.outside.specs.Files.{Files}
use Rattle.read_file_patch.specs.declared.FilePatch.{FilePatch}
use Rattle.patch_options.specs.PlainJob.{plain_options}
use Rattle.patch_set.specs.Room.{HaveRoom}
use Rattle.patch_set.specs.SetView.{SetView, without_marks, hunks_in}
use Rattle.apply_task.specs.declared.fault.RunFault.{RunFault}
use Rattle.apply_start.specs.Devices.{Told}
use Rattle.patch_run.specs.Finishes.{HasNames}
use Rattle.patch_run.specs.Run.{items_of, set_run}
use Rattle.patch_run.specs.Doing.{Runs, IsCutAt, IsReceipt, IsUntold, IsPlacedLast}
use Rattle.patch_run.proofs.Ready.{names_still}
use Rattle.patch_run.proofs.RunEnds.{ends_so}
use Rattle.patch_run.proofs.set.apply_set.Goals as goal

pub apply_all-applied-requires-clause-names : goal.apply_all-applied-requires-clause-names
apply_all-applied-requires-clause-names g c =
    subst HasNames (sym (c.take_marks-written.ensures.left ∙ ap without_marks c.take_verdicts-verdicts.ensures.left)) (names_still c.args.set.now [] c.requires.names)

pub apply_all-applied-requires-clause-written : goal.apply_all-applied-requires-clause-written
apply_all-applied-requires-clause-written g c = c.take_marks-written.ensures.unmarked

pub apply_all-applied-requires-clause-room : goal.apply_all-applied-requires-clause-room
apply_all-applied-requires-clause-room g c = subst (λ (s : SetView). ForSome c.take_marks-written.result (HaveRoom s.patches s.output)) (sym c.take_marks-written.ensures.left) c.take_marks-written.ensures.room

pub apply_all-applied-requires-clause-verdicts : goal.apply_all-applied-requires-clause-verdicts
apply_all-applied-requires-clause-verdicts g c =
    ap (λ (l : List Verdict). length l) (c.as_mut_slice.ensures.value ∙ c.take_verdicts-verdicts.ensures.taken) ∙ c.requires.verdicts ∙ ap (λ (s : SetView). hunks_in s.patches) (sym (c.take_marks-written.ensures.left ∙ ap without_marks c.take_verdicts-verdicts.ensures.left))

pub give_verdicts-requires : goal.give_verdicts-requires
give_verdicts-requires g c =
    let vec = c.take_verdicts-verdicts.result in
    let new = c.apply_all-applied.new in
    let same : take vec.len (new.verdicts ++ drop (length new.verdicts) vec.items) ≡ new.verdicts = take_at new.verdicts (drop (length new.verdicts) vec.items) vec.len (c.apply_all-applied.ensures.verdicts ∙ ap (λ (l : List Verdict). length l) c.as_mut_slice.ensures.value ∙ sym vec.ok.0) in
    ap (λ (l : List Verdict). length l) same
    ∙ c.apply_all-applied.ensures.verdicts
    ∙ ap (λ (l : List Verdict). length l) (c.as_mut_slice.ensures.value ∙ c.take_verdicts-verdicts.ensures.taken)
    ∙ c.requires.verdicts
    ∙ ap (λ (s : SetView). hunks_in s.patches) (sym (c.take_marks-written.ensures.left ∙ ap without_marks c.take_verdicts-verdicts.ensures.left))
    ∙ ap (λ (l : List FilePatch). hunks_in l) (sym c.apply_all-applied.ensures.set.patches)

pub returns : goal.returns
returns g c = record {
  runs = (
      let o = plain_options c.args.options.now in
      subst (λ (s : SetView). Runs (g.T.Tree.view c.args.tree.now) (g.T.Tree.view c.apply_all-applied.new.tree) (g.P.LineStore.seen c.args.plan.now) (g.P.LineStore.seen c.apply_all-applied.new.plan) (g.O.Sink.view c.args.out.now) (g.O.Sink.view c.apply_all-applied.new.out) g.P.Plan.scratch_after c.apply_all-applied.result (set_run o s))
      (c.take_marks-written.ensures.left ∙ ap without_marks c.take_verdicts-verdicts.ensures.left)
      c.apply_all-applied.ensures.runs);
  cut = (
      let o = plain_options c.args.options.now in
      subst (λ (s : SetView). IfErr c.apply_all-applied.result (λ (e : RunFault). (f : Files) → Told (g.T.Tree.view c.args.tree.now) (g.P.LineStore.seen c.args.plan.now) f
      → IsCutAt e (g.T.Tree.view c.apply_all-applied.new.tree) (g.O.Sink.view c.args.out.now) (g.O.Sink.view c.apply_all-applied.new.out) o s.output (items_of s) f))
      (c.take_marks-written.ensures.left ∙ ap without_marks c.take_verdicts-verdicts.ensures.left)
      c.apply_all-applied.ensures.cut);
  complete = λ f told none.
      let o = plain_options c.args.options.now in
      ends_so c.apply_all-applied.result
      (subst (λ (s : SetView). Runs (g.T.Tree.view c.args.tree.now) (g.T.Tree.view c.apply_all-applied.new.tree) (g.P.LineStore.seen c.args.plan.now) (g.P.LineStore.seen c.apply_all-applied.new.plan) (g.O.Sink.view c.args.out.now) (g.O.Sink.view c.apply_all-applied.new.out) g.P.Plan.scratch_after c.apply_all-applied.result (set_run o s))
      (c.take_marks-written.ensures.left ∙ ap without_marks c.take_verdicts-verdicts.ensures.left)
      c.apply_all-applied.ensures.runs)
      f told none;
  receipt = (
      let o = plain_options c.args.options.now in
      let v = c.args.set.now in
      let ended = c.apply_all-applied.result in
      let new = c.apply_all-applied.new in
      let vec = c.take_verdicts-verdicts.result in
      let same : take vec.len (new.verdicts ++ drop (length new.verdicts) vec.items) ≡ new.verdicts = take_at new.verdicts (drop (length new.verdicts) vec.items) vec.len (c.apply_all-applied.ensures.verdicts ∙ ap (λ (l : List Verdict). length l) c.as_mut_slice.ensures.value ∙ sym vec.ok.0) in
      subst (λ (s : SetView). IfOk ended (λ applied. (f : Files) → Told (g.T.Tree.view c.args.tree.now) (g.P.LineStore.seen c.args.plan.now) f → IsReceipt (set_run o v f) applied (length v.patches) s.verdicts s.rows))
      (sym c.give_verdicts.ensures)
      (subst (λ (l : List Verdict). IfOk ended (λ applied. (f : Files) → Told (g.T.Tree.view c.args.tree.now) (g.P.LineStore.seen c.args.plan.now) f → IsReceipt (set_run o v f) applied (length v.patches) l new.set.rows))
      (sym same)
      (subst (λ (s : SetView). IfOk ended (λ applied. (f : Files) → Told (g.T.Tree.view c.args.tree.now) (g.P.LineStore.seen c.args.plan.now) f → IsReceipt (set_run o s f) applied (length s.patches) new.verdicts new.set.rows))
      (c.take_marks-written.ensures.left ∙ ap without_marks c.take_verdicts-verdicts.ensures.left)
      c.apply_all-applied.ensures.receipt)));
  done = subst (λ (s : SetView). IfOk c.apply_all-applied.result (λ applied. applied.done ≡ length s.patches)) (c.take_marks-written.ensures.left ∙ ap without_marks c.take_verdicts-verdicts.ensures.left) c.apply_all-applied.ensures.done;
  rest = c.apply_all-applied.ensures.rest;
  dry = c.apply_all-applied.ensures.dry;
  set = (
      let stays = c.apply_all-applied.ensures.set in
      let left = (c.take_marks-written.ensures.left ∙ ap without_marks c.take_verdicts-verdicts.ensures.left) in
      record {
        text = ap (λ (s : SetView). s.text) c.give_verdicts.ensures ∙ stays.text ∙ ap (λ (s : SetView). s.text) left;
        patches = ap (λ (s : SetView). s.patches) c.give_verdicts.ensures ∙ stays.patches ∙ ap (λ (s : SetView). s.patches) left;
        output = ap (λ (s : SetView). s.output) c.give_verdicts.ensures ∙ stays.output ∙ ap (λ (s : SetView). s.output) left;
        skipped = ap (λ (s : SetView). s.skipped) c.give_verdicts.ensures ∙ stays.skipped ∙ ap (λ (s : SetView). s.skipped) left;
      });
  placed = (
      let o = plain_options c.args.options.now in
      let Untold = IsUntold (g.T.Tree.view c.args.tree.now) in
      let new = c.apply_all-applied.new in
      let vec = c.take_verdicts-verdicts.result in
      let same : take vec.len (new.verdicts ++ drop (length new.verdicts) vec.items) ≡ new.verdicts = take_at new.verdicts (drop (length new.verdicts) vec.items) vec.len (c.apply_all-applied.ensures.verdicts ∙ ap (λ (l : List Verdict). length l) c.as_mut_slice.ensures.value ∙ sym vec.ok.0) in
      subst (λ (s : SetView). OnOk c.apply_all-applied.result ((lines : List (List ℕ)) → (g.P.LineStore.seen new.plan).told ≡ Some lines → IsPlacedLast Untold o s s.verdicts lines))
      (sym c.give_verdicts.ensures)
      (subst (λ (l : List Verdict). OnOk c.apply_all-applied.result ((lines : List (List ℕ)) → (g.P.LineStore.seen new.plan).told ≡ Some lines → IsPlacedLast Untold o new.set l lines))
      (sym same)
      c.apply_all-applied.ensures.placed));
  verdicts = (
      let vec = c.take_verdicts-verdicts.result in
      let new = c.apply_all-applied.new in
      let same : take vec.len (new.verdicts ++ drop (length new.verdicts) vec.items) ≡ new.verdicts = take_at new.verdicts (drop (length new.verdicts) vec.items) vec.len (c.apply_all-applied.ensures.verdicts ∙ ap (λ (l : List Verdict). length l) c.as_mut_slice.ensures.value ∙ sym vec.ok.0) in
      ap (λ (s : SetView). length s.verdicts) c.give_verdicts.ensures
      ∙ ap (λ (l : List Verdict). length l) same
      ∙ c.apply_all-applied.ensures.verdicts
      ∙ ap (λ (l : List Verdict). length l) (c.as_mut_slice.ensures.value ∙ c.take_verdicts-verdicts.ensures.taken));
}

pub apply_all-applied-requires-clause-quiet : goal.apply_all-applied-requires-clause-quiet
apply_all-applied-requires-clause-quiet g c = c.requires.quiet

pub apply_all-applied-requires-clause-lawful : goal.apply_all-applied-requires-clause-lawful
apply_all-applied-requires-clause-lawful g c = c.requires.lawful

pub apply_all-applied-requires-clause-size : goal.apply_all-applied-requires-clause-size
apply_all-applied-requires-clause-size g c = c.requires.size
