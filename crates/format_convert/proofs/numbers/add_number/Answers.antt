use Rattle.std.proofs.Common.{◌++◌, List, ℕ, length, take, ap, sym, ◌∙◌}
use Rattle.format_convert.proofs.Bounds.{digits-room, few-more}
use Rattle.format_convert.proofs.numbers.add_number.Goals as goal

pub returns-clause-few : goal.returns-clause-few
returns-clause-few c = few-more c.add_piece.new.gathered.items c.args.command.now.items (take c.put_number-len.result c.put_number-len.new.out) c.put_number-len.result c.add_piece.ensures (c.put_number-len.ensures.count ∙ ap length (sym c.put_number-len.ensures.digits)) c.put_number-len.ensures.few.1

pub slice_bounds-add_piece-end : goal.slice_bounds-add_piece-end
slice_bounds-add_piece-end c = c.put_number-len.ensures.count ∙ ap length (sym c.put_number-len.ensures.digits)

pub add_piece-requires : goal.add_piece-requires
add_piece-requires c = digits-room (length c.args.command.now.items) c.put_number-len.result (length (take c.put_number-len.result c.put_number-len.new.out)) c.requires (c.put_number-len.ensures.count ∙ ap length (sym c.put_number-len.ensures.digits)) c.put_number-len.ensures.few.1

pub returns-clause-text : goal.returns-clause-text
returns-clause-text c = c.add_piece.ensures ∙ ap (λ (ds : List ℕ). c.args.command.now.items ++ ds) c.put_number-len.ensures.digits
