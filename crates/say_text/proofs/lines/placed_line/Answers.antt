use Rattle.std.proofs.Common.{◌≡◌, ◌∙◌, ℕ, ℤ, List, ◌++◌, codes, ap, append_assoc}
use Rattle.say_text.specs.Messages.{hunk_text, fuzz_part, offset_part}
use Rattle.say_text.proofs.Saying.{passed}
use Rattle.say_text.proofs.lines.placed_line.Goals as goal

-- four parts, added one after another
in_turn : (p q r s a b c d : List ℕ) → a ≡ p → b ≡ a ++ q → c ≡ b ++ r → d ≡ c ++ s → d ≡ p ++ (q ++ (r ++ s))
in_turn p q r s a b c d first second third last =
    last
    ∙ ap (λ (l : List ℕ). l ++ s) (third ∙ ap (λ (l : List ℕ). l ++ r) (second ∙ ap (λ (l : List ℕ). l ++ q) first))
    ∙ append_assoc (p ++ q) r s
    ∙ append_assoc p q (r ++ s)

pub returns : goal.returns
returns c = in_turn (hunk_text c.args.number (codes " succeeded at ") c.args.at) (fuzz_part c.args.fuzz) (offset_part c.args.offset) (codes ".\n")
    c.hunk_line-line.result.items c.add_fuzz.new.line.items c.add_offset.new.line.items c.add_piece.new.gathered.items
    (passed (λ (z : ℤ). hunk_text c.args.number (codes " succeeded at ") z) c.args.at c.hunk_line-line.result.items c.ranges.at c.hunk_line-line.ensures.text)
    c.add_fuzz.ensures.text
    (passed (λ (z : ℤ). c.add_fuzz.new.line.items ++ offset_part z) c.args.offset c.add_offset.new.line.items c.ranges.offset c.add_offset.ensures.text)
    c.add_piece.ensures
