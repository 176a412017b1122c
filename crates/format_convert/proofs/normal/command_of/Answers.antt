use Rattle.std.proofs.Common.{◌≤◌, ◌^◌, ◌++◌, ◌∷◌, [], List, ℕ, sym, ap, subst, ◌∙◌}
use Rattle.hunk_core.specs.declared.command.Action.{Action}
use Rattle.hunk_core.specs.Letters.{letter}
use Rattle.hunk_core.specs.Spans.{span_text}
use Rattle.normal_form.specs.Canonical.{action_for}
use Rattle.format_convert.specs.Commands.{range_start}
use Rattle.format_convert.specs.Walk.{new_start}
use Rattle.format_convert.proofs.Bounds.{adds-low, first-low, letter-room, new-low, range-low, second-room, span-room}
use Rattle.format_convert.proofs.normal.command_of.Goals as goal

pub add_span-requires-2-clause-room : goal.add_span-requires-2-clause-room
add_span-requires-2-clause-room c = second-room c.new-command.result.items c.add_span.new.command.items c.add_letter.new.command.items _ c.new-command.ensures c.add_span.ensures.few c.add_letter.ensures

pub add_span-requires-2-clause-start : goal.add_span-requires-2-clause-start
add_span-requires-2-clause-start c = subst (λ (n : ℕ). n ≤ 2 ^ 60) (sym (c.range_start-2.ensures ∙ ap (λ (n : ℕ). range_start n c.args.block.adds) c.new_first.ensures)) (range-low (new_start c.args.net c.args.block) c.args.block.adds (new-low c.args.net c.args.block c.requires))

pub add_letter-requires : goal.add_letter-requires
add_letter-requires c = letter-room c.new-command.result.items _ c.new-command.ensures c.add_span.ensures.few

pub add_span-requires-clause-start : goal.add_span-requires-clause-start
add_span-requires-clause-start c = subst (λ (n : ℕ). n ≤ 2 ^ 60) (sym c.range_start.ensures) (range-low c.args.block.first c.args.block.drops (first-low c.args.net c.args.block c.requires))

pub add_span-requires-2-clause-count : goal.add_span-requires-2-clause-count
add_span-requires-2-clause-count c = adds-low c.args.net c.args.block c.requires

pub add_span-requires-clause-room : goal.add_span-requires-clause-room
add_span-requires-clause-room c = span-room c.new-command.result.items c.new-command.ensures

pub returns : goal.returns
returns c =
    let head = span_text (range_start c.args.block.first c.args.block.drops) c.args.block.drops in
    c.add_span-2.ensures.text
    ∙ ap (λ (t : List ℕ). t ++ span_text c.range_start-2.result c.args.block.adds) (c.add_letter.ensures
    ∙ ap (λ (t : List ℕ). t ++ letter c.action_for.result ∷ []) (c.add_span.ensures.text
    ∙ ap (λ (t : List ℕ). t ++ span_text c.range_start.result c.args.block.drops) c.new-command.ensures
    ∙ ap (λ (n : ℕ). span_text n c.args.block.drops) c.range_start.ensures)
    ∙ ap (λ (a : Action). head ++ letter a ∷ []) c.action_for.ensures)
    ∙ ap (λ (n : ℕ). (head ++ letter (action_for c.args.block.drops c.args.block.adds) ∷ []) ++ span_text n c.args.block.adds) (c.range_start-2.ensures ∙ ap (λ (n : ℕ). range_start n c.args.block.adds) c.new_first.ensures)
