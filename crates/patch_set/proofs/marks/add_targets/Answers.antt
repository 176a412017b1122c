use Rattle.std.proofs.Common.{List, take, All, subst, arith}
use Rattle.std.proofs.lemmas.List.{take_all}
use Rattle.std.proofs.lemmas.List.Elements.{All-nil, All-more}
use Rattle.read_file_patch.specs.declared.derived.Target.{Target}
use Rattle.patch_set.specs.Room.{GivesRoom, HasRoom}
use Rattle.patch_set.proofs.Roomy.{gives-none, gives-both, gives-name, has-name, still-roomy}
use Rattle.patch_set.proofs.marks.add_targets.Goals as goal

pub loop-target-init : goal.loop-target-init
loop-target-init c = record { gives = gives-none c.args.names.now; room = All-nil (HasRoom c.args.names.now) }

pub loop-target-preserved : goal.loop-target-preserved
loop-target-preserved c =
    let i = c.loop-target.target-index in
    let ts = c.args.targets.now in
    let t = c.target-item.result in
    let n = c.loop-target.names in
    let m = c.add.new.self in
    let gives : GivesRoom n m = gives-name n m t.name c.in_ok-add.ensures.room c.add.ensures.marks in
    record {
      gives = gives-both c.args.names.now n m c.loop-target.invariant.gives gives;
      room = All-more (HasRoom m) ts i t (omega arith) (still-roomy n m gives (take i ts) c.loop-target.invariant.room)
          (subst (λ (x : Target). HasRoom m x) c.target-item.is (has-name n m t.name c.in_ok-add.ensures.room));
    }

pub returns : goal.returns
returns c = record {
  gives = c.loop-target.invariant.gives;
  room = subst (λ (ts : List Target). All (HasRoom c.loop-target.names) ts) (take_all c.loop-target.target-index c.args.targets.now (omega arith)) c.loop-target.invariant.room;
}
