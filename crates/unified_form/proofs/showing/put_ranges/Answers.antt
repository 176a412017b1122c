use Rattle.std.proofs.Common.{◌≡◌, List, ℕ, length, subst, ap, ◌∙◌, arith, length-append}
use Rattle.outside.specs.Puts.{Puts}
use Rattle.unified_form.specs.Canonical.{ranges_text}
use Rattle.unified_form.proofs.ShownAgain.{ranges-pieces}
use Rattle.unified_form.proofs.showing.put_ranges.Goals as goal

pub add_piece-requires : goal.add_piece-requires
add_piece-requires g c = omega (arith, ap length c.new-gathered.ensures)

pub add_range-requires : goal.add_range-requires
add_range-requires g c = omega (arith, ap length c.new-gathered.ensures, simp length-append at (ap length c.add_piece.ensures))

pub add_piece-requires-2 : goal.add_piece-requires-2
add_piece-requires-2 g c = omega (arith, ap length c.new-gathered.ensures, simp length-append at (ap length c.add_piece.ensures), c.add_range.ensures.few)

pub add_range-requires-2 : goal.add_range-requires-2
add_range-requires-2 g c = omega (arith, ap length c.new-gathered.ensures, simp length-append at (ap length c.add_piece.ensures), c.add_range.ensures.few, simp length-append at (ap length c.add_piece-2.ensures))

pub add_piece-requires-3 : goal.add_piece-requires-3
add_piece-requires-3 g c = omega (arith, ap length c.new-gathered.ensures, simp length-append at (ap length c.add_piece.ensures), c.add_range.ensures.few, simp length-append at (ap length c.add_piece-2.ensures), c.add_range-2.ensures.few)

pub returns : goal.returns
returns g c =
    let e : c.as_slice.result.now ≡ ranges_text c.args.starts.0 c.args.counts.0 c.args.starts.1 c.args.counts.1 =
    c.as_slice.ensures.value ∙ ranges-pieces _ _ _ _ _ _ _ _ c.new-gathered.ensures c.add_piece.ensures c.add_range.ensures.text c.add_piece-2.ensures c.add_range-2.ensures.text c.add_piece-3.ensures in
    subst (λ (bs : List ℕ). Puts g.O.Sink.view g.O.Sink.same_rest c.args.out.now c.put_piece.new.out c.put_piece.result bs) e c.put_piece.ensures
