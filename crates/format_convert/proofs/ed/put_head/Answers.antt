use Rattle.std.proofs.Common.{◌≤◌, ◌^◌, ◌++◌, ◌∷◌, [], List, ℕ, sym, ap, subst, ◌∙◌}
use Rattle.outside.specs.Puts.{Puts}
use Rattle.hunk_core.specs.declared.command.Action.{Action}
use Rattle.hunk_core.specs.Letters.{letter}
use Rattle.hunk_core.specs.Spans.{span_text}
use Rattle.format_convert.specs.Commands.{range_start}
use Rattle.format_convert.proofs.Bounds.{letter-room, range-low, span-room}
use Rattle.format_convert.proofs.ed.put_head.Goals as goal

pub returns : goal.returns
returns g c = subst (λ (bs : List ℕ). Puts g.O.Sink.view g.O.Sink.same_rest c.args.out.now c.put_both.new.out c.put_both.result bs)
    (ap (λ (t : List ℕ). t ++ 10 ∷ []) (c.as_slice.ensures.value ∙ c.add_letter.ensures
    ∙ ap (λ (t : List ℕ). t ++ letter c.action_for.result ∷ []) (c.add_span.ensures.text
    ∙ ap (λ (t : List ℕ). t ++ span_text c.range_start.result c.args.drops) c.new-command.ensures
    ∙ ap (λ (n : ℕ). span_text n c.args.drops) c.range_start.ensures)
    ∙ ap (λ (a : Action). span_text (range_start c.args.first c.args.drops) c.args.drops ++ letter a ∷ []) c.action_for.ensures))
    c.put_both.ensures

pub add_letter-requires : goal.add_letter-requires
add_letter-requires g c = letter-room c.new-command.result.items _ c.new-command.ensures c.add_span.ensures.few

pub add_span-requires-clause-start : goal.add_span-requires-clause-start
add_span-requires-clause-start g c = subst (λ (n : ℕ). n ≤ 2 ^ 60) (sym c.range_start.ensures) (range-low c.args.first c.args.drops c.requires.first)

pub add_span-requires-clause-room : goal.add_span-requires-clause-room
add_span-requires-clause-room g c = span-room c.new-command.result.items c.new-command.ensures
