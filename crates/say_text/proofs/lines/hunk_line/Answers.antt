use Rattle.std.proofs.Common.{ℕ, ℤ, List, ◌++◌, codes, refl, ap, ◌∙◌}
use Rattle.num_text.specs.Numbers.{decimal}
use Rattle.say_text.specs.Messages.{signed}
use Rattle.say_text.proofs.Growing.{empty, grown, grown_by, more, piece_room, room_for, three_pieces}
use Rattle.say_text.proofs.Saying.{passed}
use Rattle.say_text.proofs.lines.hunk_line.Goals as goal

pub returns : goal.returns
returns c = record {
  few = more _ _ 40 21 c.add_signed.ensures.few (grown _ _ _ 26 14 c.add_piece-2.ensures (more _ _ 6 20 c.add_number.ensures.few (grown_by _ _ (codes "Hunk #") 0 6 c.add_piece.ensures (empty _ c.new-line.ensures) refl)) c.requires);
  text = three_pieces c.add_piece.new.gathered.items c.add_number.new.line.items c.add_piece-2.new.gathered.items c.add_signed.new.line.items (decimal c.args.number) c.args.what.now (signed c.args.at) (c.add_number.ensures.text ∙ ap (λ (n : ℕ). c.add_piece.new.gathered.items ++ decimal n) c.from.ensures) c.add_piece-2.ensures (passed (λ (z : ℤ). c.add_piece-2.new.gathered.items ++ signed z) c.args.at c.add_signed.new.line.items c.ranges.at c.add_signed.ensures.text) ∙ ap (λ (l : List ℕ). l ++ (decimal c.args.number ++ (c.args.what.now ++ signed c.args.at))) (c.add_piece.ensures ∙ ap (λ (l : List ℕ). l ++ codes "Hunk #") c.new-line.ensures);
}

pub add_signed-requires : goal.add_signed-requires
add_signed-requires c = room_for _ 40 21 99 refl (grown _ _ _ 26 14 c.add_piece-2.ensures (more _ _ 6 20 c.add_number.ensures.few (grown_by _ _ (codes "Hunk #") 0 6 c.add_piece.ensures (empty _ c.new-line.ensures) refl)) c.requires)

pub add_piece-requires-2 : goal.add_piece-requires-2
add_piece-requires-2 c = piece_room c.add_number.new.line.items c.args.what.now 26 14 120 refl (more _ _ 6 20 c.add_number.ensures.few (grown_by _ _ (codes "Hunk #") 0 6 c.add_piece.ensures (empty _ c.new-line.ensures) refl)) c.requires

pub add_number-requires : goal.add_number-requires
add_number-requires c = room_for _ 6 20 134 refl (grown_by _ _ (codes "Hunk #") 0 6 c.add_piece.ensures (empty _ c.new-line.ensures) refl)
