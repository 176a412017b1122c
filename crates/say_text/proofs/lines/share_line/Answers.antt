use Rattle.std.proofs.Common.{ℕ, List, ◌++◌, codes, refl, ap, ◌∙◌}
use Rattle.num_text.specs.Numbers.{decimal}
use Rattle.say_text.specs.Messages.{hunk_word}
use Rattle.say_text.proofs.Growing.{empty, grown, grown_by, more, piece_room, room_for, three_pieces}
use Rattle.say_text.proofs.lines.share_line.Goals as goal

pub add_piece-requires-3 : goal.add_piece-requires-3
add_piece-requires-3 c = piece_room c.add_piece-2.new.gathered.items c.args.ending.now 54 40 66 refl (grown _ _ _ 48 6 c.add_piece-2.ensures (more _ _ 28 20 c.add_number-2.ensures.few (grown_by _ _ (codes " out of ") 20 8 c.add_piece.ensures (more _ _ 0 20 c.add_number.ensures.few (empty _ c.new-line.ensures)) refl)) c.hunk_word.ensures.few) c.requires

pub add_piece-requires-2 : goal.add_piece-requires-2
add_piece-requires-2 c = piece_room c.add_number-2.new.line.items c.hunk_word.result.now 48 6 106 refl (more _ _ 28 20 c.add_number-2.ensures.few (grown_by _ _ (codes " out of ") 20 8 c.add_piece.ensures (more _ _ 0 20 c.add_number.ensures.few (empty _ c.new-line.ensures)) refl)) c.hunk_word.ensures.few

pub returns : goal.returns
returns c = c.add_piece-3.ensures ∙ ap (λ (l : List ℕ). l ++ c.args.ending.now) (three_pieces c.add_number.new.line.items c.add_piece.new.gathered.items c.add_number-2.new.line.items c.add_piece-2.new.gathered.items (codes " out of ") (decimal c.args.hunks) (hunk_word c.args.hunks) c.add_piece.ensures (c.add_number-2.ensures.text ∙ ap (λ (n : ℕ). c.add_piece.new.gathered.items ++ decimal n) c.from-2.ensures) (c.add_piece-2.ensures ∙ ap (λ (l : List ℕ). c.add_number-2.new.line.items ++ l) c.hunk_word.ensures.text) ∙ ap (λ (l : List ℕ). l ++ (codes " out of " ++ (decimal c.args.hunks ++ hunk_word c.args.hunks))) (c.add_number.ensures.text ∙ ap (λ (l : List ℕ). l ++ decimal c.from.result) c.new-line.ensures ∙ ap (λ (n : ℕ). decimal n) c.from.ensures))

pub add_number-requires-2 : goal.add_number-requires-2
add_number-requires-2 c = room_for _ 28 20 112 refl (grown_by _ _ (codes " out of ") 20 8 c.add_piece.ensures (more _ _ 0 20 c.add_number.ensures.few (empty _ c.new-line.ensures)) refl)
