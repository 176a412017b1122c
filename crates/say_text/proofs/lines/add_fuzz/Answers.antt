use Rattle.std.proofs.Common.{ℕ, List, ◌++◌, codes, length, refl, ap, ◌∙◌}
use Rattle.num_text.specs.Numbers.{decimal}
use Rattle.say_text.proofs.Growing.{both_more, fuzz_told, grown_from, room_from, two_pieces}
use Rattle.say_text.proofs.lines.add_fuzz.Goals as goal

pub returns-then-fuzz-ne0 : goal.returns-then-fuzz-ne0
returns-then-fuzz-ne0 c = record {
  few = both_more _ _ (length c.args.line.now.items) 11 20 31 refl c.add_number.ensures.few (grown_from _ _ (codes " with fuzz ") 11 c.add_piece.ensures refl);
  text = two_pieces c.args.line.now.items c.add_piece.new.gathered.items c.add_number.new.line.items (codes " with fuzz ") (decimal c.args.fuzz) c.add_piece.ensures (c.add_number.ensures.text ∙ ap (λ (n : ℕ). c.add_piece.new.gathered.items ++ decimal n) c.from.ensures) ∙ ap (λ (l : List ℕ). c.args.line.now.items ++ l) (fuzz_told c.args.fuzz c.if-fuzz-ne0.true);
}

pub add_number-requires : goal.add_number-requires
add_number-requires c = room_from _ (length c.args.line.now.items) 11 31 20 0 refl (grown_from _ _ (codes " with fuzz ") 11 c.add_piece.ensures refl) c.requires
