use Rattle.std.proofs.Common.{◌++◌, ◌-◌, drop, get_or, length, refl, ap, ◌∙◌}
use Rattle.read_git_order.specs.Batches.{end_at}
use Rattle.read_git_order.proofs.Steps.{laid-all, laid-more}
use Rattle.read_git_order.proofs.laying.laid.Goals as goal

pub places-preserved : goal.places-preserved
places-preserved c =
    let front = c.extend_from_slice.new.self.items in
    laid-more c.args.text.now c.args.pieces.now c.args.order.now c.places.out.items front c.extend_from_slice-in-places.new.self.items c.places.at (get_or c.args.order.now c.places.at 0)
    c.places.invariant c.places-test.true refl
    (c.in_ok-extend_from_slice.ensures.items ∙ ap (λ l. c.places.out.items ++ l) c.front_at.ensures)
    (c.in_ok-extend_from_slice-2.ensures.items ∙ ap (λ l. front ++ l) c.body_at.ensures)

pub returns : goal.returns
returns c =
    c.in_ok-extend_from_slice-3.ensures.items
    ∙ ap (λ l. c.places.out.items ++ l) c.behind_all.ensures
    ∙ ap (λ l. l ++ drop (end_at c.args.pieces.now (length c.args.pieces.now - 1)) c.args.text.now) (laid-all c.args.text.now c.args.pieces.now c.args.order.now c.places.out.items c.places.at c.places.invariant c.places-test.false)
