use Rattle.format_convert.proofs.Bounds.{comma-room, one-behind, span-few, span-one, span-two, sum-fits}
use Rattle.format_convert.proofs.numbers.add_span.Goals as goal

pub returns-then-count-gt1-clause-text : goal.returns-then-count-gt1-clause-text
returns-then-count-gt1-clause-text c = span-two c.args.command.now.items c.add_number.new.command.items c.add_piece.new.gathered.items c.add_number-then-count-gt1.new.command.items c.args.start c.args.count c.if-count-gt1.true c.add_number.ensures.text c.add_piece.ensures c.add_number-then-count-gt1.ensures.text

pub add_number-requires-then-count-gt1 : goal.add_number-requires-then-count-gt1
add_number-requires-then-count-gt1 c = comma-room c.add_piece.new.gathered.items c.add_number.new.command.items _ c.add_piece.ensures c.add_number.ensures.few c.requires.room

pub returns-then-count-gt1-clause-few : goal.returns-then-count-gt1-clause-few
returns-then-count-gt1-clause-few c = span-few c.add_piece.new.gathered.items c.add_number.new.command.items _ _ c.add_piece.ensures c.add_number.ensures.few c.add_number-then-count-gt1.ensures.few

pub overflow_add-start : goal.overflow_add-start
overflow_add-start c = sum-fits c.args.start c.args.count c.requires.start c.requires.count

pub overflow_sub-start : goal.overflow_sub-start
overflow_sub-start c = one-behind c.args.start c.args.count c.if-count-gt1.true

pub returns-else-count-gt1-clause-text : goal.returns-else-count-gt1-clause-text
returns-else-count-gt1-clause-text c = span-one c.args.command.now.items c.add_number.new.command.items c.args.start c.args.count c.if-count-gt1.false c.add_number.ensures.text
