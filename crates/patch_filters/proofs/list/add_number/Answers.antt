use Rattle.std.proofs.Common.{◌≤◌, length, take, arith, length-take}
use Rattle.patch_filters.proofs.Refusals.{digits-few, none-told, number-few, number-told}
use Rattle.patch_filters.proofs.list.add_number.Goals as goal

pub add_piece-requires-then-is_asked : goal.add_piece-requires-then-is_asked
add_piece-requires-then-is_asked c =
    let digits = take c.put_number-count.result c.put_number-count.new.out in
    let few : length digits ≤ 20 = omega (arith, length-take c.put_number-count.result c.put_number-count.new.out, c.put_number-count.array_long) in
    (omega arith, omega (arith, digits-few c.args.front.now.items digits c.add_piece.new.gathered.items c.requires few c.add_piece.ensures))

pub returns-then-is_asked-clause-text : goal.returns-then-is_asked-clause-text
returns-then-is_asked-clause-text c = number-told c.args.is_asked c.args.number c.args.front.now.items (take c.put_number-count.result c.put_number-count.new.out) c.add_piece.new.gathered.items c.add_piece-then-is_asked.new.gathered.items c.if-is_asked.true c.requires c.add_piece.ensures c.put_number-count.ensures.digits c.add_piece-then-is_asked.ensures

pub returns-then-is_asked-clause-few : goal.returns-then-is_asked-clause-few
returns-then-is_asked-clause-few c =
    let digits = take c.put_number-count.result c.put_number-count.new.out in
    let few : length digits ≤ 20 = omega (arith, length-take c.put_number-count.result c.put_number-count.new.out, c.put_number-count.array_long) in
    number-few c.add_piece.new.gathered.items c.add_piece-then-is_asked.new.gathered.items (digits-few c.args.front.now.items digits c.add_piece.new.gathered.items c.requires few c.add_piece.ensures) c.add_piece-then-is_asked.ensures

pub returns-else-is_asked-clause-text : goal.returns-else-is_asked-clause-text
returns-else-is_asked-clause-text c = none-told c.args.is_asked c.args.number c.args.front.now.items c.if-is_asked.false c.requires

pub slice_bounds-add_piece-end : goal.slice_bounds-add_piece-end
slice_bounds-add_piece-end c = omega (arith, length-take c.put_number-count.result c.put_number-count.new.out, c.put_number-count.array_long, c.put_number-count.ensures.few)

pub add_piece-requires : goal.add_piece-requires
add_piece-requires c = (omega arith, omega (arith, c.requires, length-take c.put_number-count.result c.put_number-count.new.out, c.put_number-count.array_long))

pub returns-else-is_asked-clause-few : goal.returns-else-is_asked-clause-few
returns-else-is_asked-clause-few c = omega (arith, c.requires)
