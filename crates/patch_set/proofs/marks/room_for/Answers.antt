use Rattle.std.proofs.Common.{List, take, All, subst, arith}
use Rattle.std.proofs.lemmas.List.{take_all}
use Rattle.std.proofs.lemmas.List.Elements.{All-nil, All-more}
use Rattle.read_file_patch.specs.declared.FilePatch.{FilePatch}
use Rattle.read_file_patch.specs.declared.derived.Target.{Target}
use Rattle.patch_set.specs.Room.{HasRoom}
use Rattle.patch_set.proofs.Roomy.{all-roomy, still-unmarked}
use Rattle.patch_set.proofs.marks.room_for.Goals as goal

pub loop-patch-init : goal.loop-patch-init
loop-patch-init c = record {
  unmarked = c.new-names.ensures.marks;
  room = All-nil (λ (p : FilePatch). All (HasRoom c.new-names.result) p.targets.items);
}

pub loop-patch-preserved : goal.loop-patch-preserved
loop-patch-preserved c =
    let i = c.loop-patch.patch-index in
    let ps = c.args.patches.now in
    let p = c.patch-item.result in
    let n = c.loop-patch.names in
    let m = c.add_targets.new.names in
    let gives = c.in_ok-add_targets.ensures.gives in
    record {
      unmarked = still-unmarked n m gives c.loop-patch.invariant.unmarked;
      room = All-more (λ (x : FilePatch). All (HasRoom m) x.targets.items) ps i p (omega arith) (all-roomy n m gives (take i ps) c.loop-patch.invariant.room)
          (subst (λ (x : FilePatch). All (HasRoom m) x.targets.items) c.patch-item.is
          (subst (λ (ts : List Target). All (HasRoom m) ts) c.deref.ensures.value c.in_ok-add_targets.ensures.room));
    }

pub returns : goal.returns
returns c = record {
  unmarked = still-unmarked c.loop-patch.names c.add_output.new.names c.in_ok-add_output.ensures.gives c.loop-patch.invariant.unmarked;
  room = (
      let m = c.add_output.new.names in
      let ps = c.args.patches.now in
      let k = c.loop-patch.patch-index in
      record {
        targets = subst (λ (l : List FilePatch). All (λ (p : FilePatch). All (HasRoom m) p.targets.items) l) (take_all k ps (omega arith))
            (all-roomy c.loop-patch.names m c.in_ok-add_output.ensures.gives (take k ps) c.loop-patch.invariant.room);
        output = c.in_ok-add_output.ensures.room;
      });
}
