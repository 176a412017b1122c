use Rattle.std.proofs.Common.{◌≡◌, ◌+◌, ◌++◌, ℕ, List, [], length, sym, ap, subst, ◌∙◌, arith}
use Rattle.std.proofs.lemmas.Result.{err_from_is_err_and}
use Rattle.format_convert.specs.Blocks.{Edit, blocks_of, hunk_edits}
use Rattle.format_convert.specs.Commands.{normal_behind, normal_command, normal_text}
use Rattle.format_convert.specs.Fronts.{front_block}
use Rattle.format_convert.specs.Walk.{IsNextBlock, edits_left, left_hunks}
use Rattle.format_convert.proofs.FrontLemmas.{blocks-none}
use Rattle.format_convert.proofs.NormalLemmas.{behind-cons, behind-none}
use Rattle.format_convert.proofs.Parts.{Written, written-all, written-more, written-none, written-stop}
use Rattle.format_convert.proofs.Steps.{edits-are, few-left}
use Rattle.format_convert.proofs.normal.put_normal.Goals as goal

pub loop-block-init : goal.loop-block-init
loop-block-init g c =
    let k = c.args.kept in
    let first : edits_left c.args.kept c.hunk_start-place.result ≡ hunk_edits (left_hunks c.args.kept) = c.hunk_start-place.ensures.left ∙ sym (edits-are k) in
    record {
      written = subst (λ (es : List Edit). Written g.O.Sink.view g.O.Sink.same_rest c.args.out.now c.args.out.now (normal_text (blocks_of es)) (normal_behind c.no_net-net.result.adds c.no_net-net.result.drops (blocks_of (edits_left k c.hunk_start-place.result)))) first
          (rw (c.no_net-net.ensures.adds, c.no_net-net.ensures.drops) (written-none g.met.O.Sink.rest_none c.args.out.now (normal_text (blocks_of (edits_left k c.hunk_start-place.result)))));
      small = omega (arith, c.no_net-net.ensures.adds, c.no_net-net.ensures.drops, few-left k c.requires c.hunk_start-place.result);
    }

pub put_block-requires-clause-small : goal.put_block-requires-clause-small
put_block-requires-clause-small g c =
    let n : IsNextBlock c.args.kept c.loop-block.place c.in-Some.block = c.in-Some.ensures in
    record {
      first = n.size.near;
      block = omega (arith, n.size.counted, c.loop-block.invariant.small);
      net = omega (arith, c.loop-block.invariant.small);
    }

pub put_block-requires-clause-block : goal.put_block-requires-clause-block
put_block-requires-clause-block g c = let n : IsNextBlock c.args.kept c.loop-block.place c.in-Some.block = c.in-Some.ensures in n.size

pub net_behind-net-requires-clause-net : goal.net_behind-net-requires-clause-net
net_behind-net-requires-clause-net g c = omega (arith, c.loop-block.invariant.small)

pub net_behind-net-requires-clause-block : goal.net_behind-net-requires-clause-block
net_behind-net-requires-clause-block g c =
    let n : IsNextBlock c.args.kept c.loop-block.place c.in-Some.block = c.in-Some.ensures in
    omega (arith, n.size.counted, c.loop-block.invariant.small)

pub loop-block-smaller : goal.loop-block-smaller
loop-block-smaller g c = let n : IsNextBlock c.args.kept c.loop-block.place c.in-Some.block = c.in-Some.ensures in n.shorter

pub loop-block-preserved : goal.loop-block-preserved
loop-block-preserved g c =
    let k = c.args.kept in
    let n : IsNextBlock c.args.kept c.loop-block.place c.in-Some.block = c.in-Some.ensures in
    let b = c.in-Some.block in
    let net = c.loop-block.net in
    let plain = front_block b.first (edits_left k c.loop-block.place) in
    let more = normal_behind c.net_behind-net.result.adds c.net_behind-net.result.drops (blocks_of (edits_left k b.behind)) in
    let cut : normal_behind net.adds net.drops (blocks_of (edits_left k c.loop-block.place)) ≡ normal_command net.adds net.drops plain ++ more =
    ap (normal_behind net.adds net.drops) n.left
    ∙ behind-cons net.adds net.drops plain (blocks_of (edits_left k b.behind))
    ∙ ap (λ (x : ℕ). normal_command net.adds net.drops plain ++ normal_behind x (net.drops + length plain.dropped) (blocks_of (edits_left k b.behind))) (ap (λ (x : ℕ). net.adds + x) (sym n.size.adds) ∙ sym c.net_behind-net.ensures.adds)
    ∙ ap (λ (x : ℕ). normal_command net.adds net.drops plain ++ normal_behind c.net_behind-net.result.adds x (blocks_of (edits_left k b.behind))) (ap (λ (x : ℕ). net.drops + x) (sym n.size.drops) ∙ sym c.net_behind-net.ensures.drops) in
    record {
      written = written-more g.met.O.Sink.rest_both c.loop-block.invariant.written (normal_command net.adds net.drops plain) more cut c.in_ok-put_block.field-0 c.in_ok-put_block.ensures;
      small = omega (arith, c.loop-block.invariant.small, n.size.counted, c.net_behind-net.ensures.adds, c.net_behind-net.ensures.drops);
    }

pub returns-in_err-put_block : goal.returns-in_err-put_block
returns-in_err-put_block g c =
    let p = err_from_is_err_and c.from_residual.result c.from_residual.ensures.1 in
    let k = c.args.kept in
    let n : IsNextBlock c.args.kept c.loop-block.place c.in-Some.block = c.in-Some.ensures in
    let b = c.in-Some.block in
    let net = c.loop-block.net in
    let plain = front_block b.first (edits_left k c.loop-block.place) in
    let more = normal_behind (net.adds + length plain.added) (net.drops + length plain.dropped) (blocks_of (edits_left k b.behind)) in
    let cut : normal_behind net.adds net.drops (blocks_of (edits_left k c.loop-block.place)) ≡ normal_command net.adds net.drops plain ++ more =
    ap (normal_behind net.adds net.drops) n.left ∙ behind-cons net.adds net.drops plain (blocks_of (edits_left k b.behind)) in
    rw p.1 (written-stop g.met.O.Sink.rest_both c.loop-block.invariant.written (normal_command net.adds net.drops plain) more cut c.in_err-put_block.field-0.0 p.0 c.in_err-put_block.ensures)

pub returns : goal.returns
returns g c =
    let none : edits_left c.args.kept c.loop-block.place ≡ [] = c.in_default.ensures in
    written-all _ c.loop-block.invariant.written
    (ap (λ (es : List Edit). normal_behind c.loop-block.net.adds c.loop-block.net.drops (blocks_of es)) none ∙ ap (normal_behind c.loop-block.net.adds c.loop-block.net.drops) blocks-none ∙ behind-none c.loop-block.net.adds c.loop-block.net.drops)

pub put_block-requires-clause-kept : goal.put_block-requires-clause-kept
put_block-requires-clause-kept g c = c.requires
