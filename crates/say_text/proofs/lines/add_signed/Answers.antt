use Rattle.std.proofs.Common.{codes, length, refl}
use Rattle.say_text.proofs.Growing.{both_more, grown_from, room_from}
use Rattle.say_text.proofs.lines.add_signed.Goals as goal

pub add_number-requires : goal.add_number-requires
add_number-requires c = room_from _ (length c.args.line.now.items) 1 21 20 0 refl (grown_from _ _ (codes "-") 1 c.add_piece.ensures refl) c.requires

pub returns-then-value-lt0-clause-few : goal.returns-then-value-lt0-clause-few
returns-then-value-lt0-clause-few c = both_more _ _ (length c.args.line.now.items) 1 20 21 refl c.add_number.ensures.few (grown_from _ _ (codes "-") 1 c.add_piece.ensures refl)
