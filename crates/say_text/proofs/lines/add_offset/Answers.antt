use Rattle.std.proofs.Common.{codes, length, refl}
use Rattle.say_text.proofs.Growing.{at_most, both_more, grown, grown_from, piece_room_from, room_from}
use Rattle.say_text.proofs.lines.add_offset.Goals as goal

pub add_piece-requires-then-offset-ne0 : goal.add_piece-requires-then-offset-ne0
add_piece-requires-then-offset-ne0 c = piece_room_from c.add_signed.new.line.items c.line_word.result.now (length c.args.line.now.items) 30 37 7 0 refl (both_more _ _ (length c.args.line.now.items) 9 21 30 refl c.add_signed.ensures.few (grown_from _ _ (codes " (offset ") 9 c.add_piece.ensures refl)) c.requires c.line_word.ensures.few

pub add_signed-requires : goal.add_signed-requires
add_signed-requires c = room_from _ (length c.args.line.now.items) 9 37 21 7 refl (grown_from _ _ (codes " (offset ") 9 c.add_piece.ensures refl) c.requires

pub returns-then-offset-ne0-clause-few : goal.returns-then-offset-ne0-clause-few
returns-then-offset-ne0-clause-few c = both_more _ (length c.add_signed.new.line.items) (length c.args.line.now.items) 30 7 37 refl (grown _ _ _ (length c.add_signed.new.line.items) 7 c.add_piece-then-offset-ne0.ensures (at_most _) c.line_word.ensures.few) (both_more _ _ (length c.args.line.now.items) 9 21 30 refl c.add_signed.ensures.few (grown_from _ _ (codes " (offset ") 9 c.add_piece.ensures refl))
