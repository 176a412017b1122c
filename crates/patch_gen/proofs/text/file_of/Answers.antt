use Rattle.std.proofs.Common.{◌≡◌, ◌/◌, ◌%◌, ◌^◌, ap, sym, ◌∙◌, ◌++◌}
use Rattle.std.specs.List.{flat_map, range_with_len}
use Rattle.patch_gen.specs.Lcg.{draw, state_after}
use Rattle.patch_gen.specs.Texts.{numbered_line, extra_lines, extra_count}
use Rattle.patch_gen.proofs.RunLemmas.{state-one, state-add}
use Rattle.patch_gen.proofs.text.file_of.Goals as goal

pub returns-clause-text : goal.returns-clause-text
returns-clause-text c =
    let x = c.args.draws.now.state in
    let drawn : c.next_draw-count.result ≡ draw x 1 = c.next_draw-count.ensures.drawn ∙ ap (λ y. y / 2 ^ 33) (c.next_draw-count.ensures.state ∙ sym (state-one x)) in
    let extras : c.add_extras.new.text.items ≡ extra_lines (extra_count x) = c.in_ok-add_extras.ensures ∙ ap (λ l. l ++ extra_lines (c.next_draw-count.result % 5)) c.in_ok-text.ensures.items ∙ ap (λ d. extra_lines (d % 5)) drawn in
    c.in_ok-add_numbered.ensures.text ∙ ap (λ l. l ++ flat_map (λ j. numbered_line j (draw c.next_draw-count.new.self.state j % 1000)) (range_with_len 1 c.args.lines)) extras
    ∙ ap (λ y. extra_lines (extra_count x) ++ flat_map (λ j. numbered_line j (draw y j % 1000)) (range_with_len 1 c.args.lines)) c.next_draw-count.ensures.state

pub returns-clause-state : goal.returns-clause-state
returns-clause-state c =
    let x = c.args.draws.now.state in
    c.in_ok-add_numbered.ensures.state ∙ ap (λ y. state_after y c.args.lines) (c.next_draw-count.ensures.state ∙ sym (state-one x)) ∙ state-add x 1 c.args.lines
