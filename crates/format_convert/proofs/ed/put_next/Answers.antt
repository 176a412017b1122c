use Rattle.std.proofs.Common.{◌≡◌, ℕ, List, [], sym, ap, subst, ◌∙◌, arith}
use Rattle.std.proofs.lemmas.Result.{err_from_is_err_and}
use Rattle.hunk_core.specs.declared.Side.TheVariants.{Reversed}
use Rattle.outside.specs.Puts.{Puts}
use Rattle.outside.proofs.SinkSteps.{HasPut, has-none, has-put, puts-done, puts-more, puts-stop}
use Rattle.format_convert.specs.Backward.{first_text}
use Rattle.format_convert.specs.Blocks.{blocks_of}
use Rattle.format_convert.specs.Commands.{ed_lines}
use Rattle.format_convert.specs.Fronts.{front}
use Rattle.format_convert.specs.Walk.{IsNextBlock, edits_left}
use Rattle.format_convert.proofs.Bounds.{near-low}
use Rattle.format_convert.proofs.EdLemmas.{counted-is}
use Rattle.format_convert.proofs.FrontLemmas.{blocks-none}
use Rattle.format_convert.proofs.Steps.{few-left}
use Rattle.format_convert.proofs.ed.put_next.Goals as goal

pub returns-in_err-put_head-in-Some : goal.returns-in_err-put_head-in-Some
returns-in_err-put_head-in-Some g c =
    let p = err_from_is_err_and c.from_residual.result c.from_residual.ensures.1 in
    let b = c.in-Some.block in
    let left = edits_left c.args.kept c.args.place in
    let n : IsNextBlock c.args.kept c.args.place c.in-Some.block = c.in-Some.ensures in
    rw (p.1, n.left, ← counted-is b.first left b.drops b.adds n.size.drops n.size.adds)
    (puts-stop c.in_err-put_head-in-Some.field-0.0 p.0 (ed_lines (front Reversed b.first left)) c.in_err-put_head-in-Some.ensures)

pub returns-in_ok-put_head-in-Some : goal.returns-in_ok-put_head-in-Some
returns-in_ok-put_head-in-Some g c =
    let b = c.in-Some.block in
    let n : IsNextBlock c.args.kept c.args.place c.in-Some.block = c.in-Some.ensures in
    subst (λ (bs : List ℕ). Puts g.O.Sink.view g.O.Sink.same_rest c.args.out.now c.put_added.new.out c.put_added.result bs)
    (counted-is b.first (edits_left c.args.kept c.args.place) b.drops b.adds n.size.drops n.size.adds ∙ sym (ap first_text n.left))
    (puts-more g.met.O.Sink.rest_both (has-put c.in_ok-put_head-in-Some.field-0 c.in_ok-put_head-in-Some.ensures) c.put_added.ensures)

pub returns-in-None : goal.returns-in-None
returns-in-None g c =
    let none : edits_left c.args.kept c.args.place ≡ [] = c.in-None.ensures in
    puts-done _ (subst (λ (bs : List ℕ). HasPut g.O.Sink.view g.O.Sink.same_rest c.args.out.now c.args.out.now bs) (sym (ap first_text (ap blocks_of none ∙ blocks-none))) (has-none g.met.O.Sink.rest_none c.args.out.now))

pub put_head-requires-clause-first : goal.put_head-requires-clause-first
put_head-requires-clause-first g c =
    let n : IsNextBlock c.args.kept c.args.place c.in-Some.block = c.in-Some.ensures in
    near-low c.in-Some.block.first n.size.near

pub put_head-requires-clause-drops : goal.put_head-requires-clause-drops
put_head-requires-clause-drops g c =
    let n : IsNextBlock c.args.kept c.args.place c.in-Some.block = c.in-Some.ensures in
    omega (arith, n.size.counted, few-left c.args.kept c.requires c.args.place)

pub put_added-requires-clause-block : goal.put_added-requires-clause-block
put_added-requires-clause-block g c =
    let n : IsNextBlock c.args.kept c.args.place c.in-Some.block = c.in-Some.ensures in
    n.size

pub put_added-requires-clause-kept : goal.put_added-requires-clause-kept
put_added-requires-clause-kept g c = c.requires
