use Rattle.std.proofs.Common.{◌≡◌, ℕ, length, subst, arith}
use Rattle.mem_world.proofs.Numbers.{LastSoFar, last_none, last_more, last_all}
use Rattle.mem_world.proofs.slots.last_number.Goals as goal

pub returns : goal.returns
returns c =
    let all : c.loop-slot.slot-index ≡ length c.args.files.now = omega arith in
    last_all c.args.files.now c.args.name.now c.loop-slot.last (subst (λ (n : ℕ). LastSoFar c.args.files.now n c.args.name.now c.loop-slot.last) all c.loop-slot.invariant)

pub loop-slot-preserved : goal.loop-slot-preserved
loop-slot-preserved c =
    last_more c.args.files.now c.loop-slot.slot-index c.slot-item.result c.args.name.now c.loop-slot.last c.number_there.result c.max-last.result c.loop-slot-test.true c.slot-item.is c.max-last.ensures c.number_there.ensures c.loop-slot.invariant

pub loop-slot-init : goal.loop-slot-init
loop-slot-init c = last_none c.args.files.now c.args.name.now
