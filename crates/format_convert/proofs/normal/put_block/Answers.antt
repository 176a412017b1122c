use Rattle.std.proofs.Common.{ℕ, List, ◌++◌, Err, ap, subst, ◌∙◌}
use Rattle.std.specs.List.{flat_map}
use Rattle.std.proofs.lemmas.Result.{err_from_is_err_and}
use Rattle.hunk_core.specs.declared.Side.TheVariants.{Forward, Reversed}
use Rattle.outside.specs.Puts.{Puts}
use Rattle.outside.proofs.SinkSteps.{has-put, puts-more, puts-stop}
use Rattle.normal_form.specs.Canonical.{action_for, command_text, divider_text, line_text}
use Rattle.format_convert.specs.Commands.{range_start, side_text}
use Rattle.format_convert.specs.Fronts.{front}
use Rattle.format_convert.specs.Walk.{edits_left, new_start}
use Rattle.format_convert.proofs.NormalLemmas.{counted-is}
use Rattle.format_convert.proofs.normal.put_block.Goals as goal

pub returns-in_err-put_head : goal.returns-in_err-put_head
returns-in_err-put_head g c =
    let p = err_from_is_err_and c.from_residual.result c.from_residual.ensures.1 in
    let b = c.args.block in
    let left = edits_left c.args.kept c.args.place in
    rw (p.1, ← counted-is c.args.net.adds c.args.net.drops b.first left b.drops b.adds c.requires.block.drops c.requires.block.adds)
    (puts-stop c.in_err-put_head.field-0.0 p.0 (flat_map (line_text Forward) (front Forward b.first left) ++ (divider_text (action_for b.drops b.adds) ++ flat_map (line_text Reversed) (front Reversed b.first left))) c.in_err-put_head.ensures)

pub returns-in_err-put_side : goal.returns-in_err-put_side
returns-in_err-put_side g c =
    let p = err_from_is_err_and c.from_residual-in_err-put_side.result c.from_residual-in_err-put_side.ensures.1 in
    let b = c.args.block in
    let left = edits_left c.args.kept c.args.place in
    rw p.1 (subst (λ (bs : List ℕ). Puts {R = Unit {0}} g.O.Sink.view g.O.Sink.same_rest c.args.out.now c.put_side.new.out (Err p.0) bs)
    (counted-is c.args.net.adds c.args.net.drops b.first left b.drops b.adds c.requires.block.drops c.requires.block.adds)
    (puts-more g.met.O.Sink.rest_both (has-put c.in_ok-put_head.field-0 c.in_ok-put_head.ensures)
    (puts-stop c.in_err-put_side.field-0.0 p.0 (divider_text (action_for b.drops b.adds) ++ side_text Reversed b.first left) c.in_err-put_side.ensures)))

pub returns-in_err-put_piece : goal.returns-in_err-put_piece
returns-in_err-put_piece g c =
    let p = err_from_is_err_and c.from_residual-in_err-put_piece.result c.from_residual-in_err-put_piece.ensures.1 in
    let b = c.args.block in
    let left = edits_left c.args.kept c.args.place in
    let head = command_text (range_start b.first b.drops) b.drops (range_start (new_start c.args.net b) b.adds) b.adds in
    rw p.1 (subst (λ (bs : List ℕ). Puts {R = Unit {0}} g.O.Sink.view g.O.Sink.same_rest c.args.out.now c.put_piece.new.out (Err p.0) bs)
    (ap (λ (d : List ℕ). head ++ (side_text Forward b.first left ++ (d ++ side_text Reversed b.first left))) c.divider.ensures
    ∙ counted-is c.args.net.adds c.args.net.drops b.first left b.drops b.adds c.requires.block.drops c.requires.block.adds)
    (puts-more g.met.O.Sink.rest_both (has-put c.in_ok-put_head.field-0 c.in_ok-put_head.ensures)
    (puts-more g.met.O.Sink.rest_both (has-put c.in_ok-put_side.field-0 c.in_ok-put_side.ensures)
    (puts-stop c.in_err-put_piece.field-0.0 p.0 (side_text Reversed b.first left) c.in_err-put_piece.ensures))))

pub returns : goal.returns
returns g c =
    let b = c.args.block in
    let left = edits_left c.args.kept c.args.place in
    let head = command_text (range_start b.first b.drops) b.drops (range_start (new_start c.args.net b) b.adds) b.adds in
    subst (λ (bs : List ℕ). Puts g.O.Sink.view g.O.Sink.same_rest c.args.out.now c.put_side-2.new.out c.put_side-2.result bs)
    (ap (λ (d : List ℕ). head ++ (side_text Forward b.first left ++ (d ++ side_text Reversed b.first left))) c.divider.ensures
    ∙ counted-is c.args.net.adds c.args.net.drops b.first left b.drops b.adds c.requires.block.drops c.requires.block.adds)
    (puts-more g.met.O.Sink.rest_both (has-put c.in_ok-put_head.field-0 c.in_ok-put_head.ensures)
    (puts-more g.met.O.Sink.rest_both (has-put c.in_ok-put_side.field-0 c.in_ok-put_side.ensures)
    (puts-more g.met.O.Sink.rest_both (has-put c.in_ok-put_piece.field-0 c.in_ok-put_piece.ensures) c.put_side-2.ensures)))

pub put_side-requires-clause-near : goal.put_side-requires-clause-near
put_side-requires-clause-near g c = c.requires.small.first

pub put_side-requires-clause-kept : goal.put_side-requires-clause-kept
put_side-requires-clause-kept g c = c.requires.kept

pub put_side-requires-2-clause-near : goal.put_side-requires-2-clause-near
put_side-requires-2-clause-near g c = c.requires.small.first

pub put_side-requires-2-clause-kept : goal.put_side-requires-2-clause-kept
put_side-requires-2-clause-kept g c = c.requires.kept
