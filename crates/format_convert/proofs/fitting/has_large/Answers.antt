use Rattle.std.proofs.Common.{◌≡◌, ◌+◌, ◌||◌, ◌∷◌, ℕ, List, [], Bool, true, false, length, drop, sym, ap, ◌∙◌, arith}
use Rattle.hunk_core.specs.declared.Side.TheVariants.{Forward, Reversed}
use Rattle.format_convert.specs.Blocks.{Edit, blocks_of}
use Rattle.format_convert.specs.Fitting.{has_large_command}
use Rattle.format_convert.specs.Fronts.{front, front_block}
use Rattle.format_convert.specs.Walk.{IsNextBlock, edits_left}
use Rattle.format_convert.proofs.FitLemmas.{has_large, is_large, large-block, large-end, large-next, large-whole}
use Rattle.format_convert.proofs.FrontLemmas.{blocks-none}
use Rattle.format_convert.proofs.Steps.{edits-are, few-left}
use Rattle.format_convert.proofs.fitting.has_large.Goals as goal

pub loop-block-init : goal.loop-block-init
loop-block-init c =
    let k = c.args.kept in
    record {
      large = ap (λ es. has_large_command c.args.form (blocks_of es)) (edits-are k ∙ sym c.hunk_start-place.ensures.left)
          ∙ large-whole c.args.form (blocks_of (edits_left k c.hunk_start-place.result))
          ∙ ap (λ (n : ℕ). has_large c.args.form n 0 (blocks_of (edits_left k c.hunk_start-place.result))) (sym c.no_net-net.ensures.adds)
          ∙ ap (λ (n : ℕ). has_large c.args.form c.no_net-net.result.adds n (blocks_of (edits_left k c.hunk_start-place.result))) (sym c.no_net-net.ensures.drops);
      small = omega (arith, c.no_net-net.ensures.adds, c.no_net-net.ensures.drops, few-left k c.requires c.hunk_start-place.result);
    }

pub is_large-requires : goal.is_large-requires
is_large-requires c =
    let n : IsNextBlock c.args.kept c.loop-block.place c.in-Some.block = c.in-Some.ensures in
    record {
      first = n.size.near;
      block = omega (arith, n.size.counted, c.loop-block.invariant.small);
      net = omega (arith, c.loop-block.invariant.small);
    }

pub net_behind-net-requires-clause-net : goal.net_behind-net-requires-clause-net
net_behind-net-requires-clause-net c = omega (arith, c.loop-block.invariant.small)

pub net_behind-net-requires-clause-block : goal.net_behind-net-requires-clause-block
net_behind-net-requires-clause-block c =
    let n : IsNextBlock c.args.kept c.loop-block.place c.in-Some.block = c.in-Some.ensures in
    omega (arith, n.size.counted, c.loop-block.invariant.small)

pub loop-block-smaller : goal.loop-block-smaller
loop-block-smaller c = let n : IsNextBlock c.args.kept c.loop-block.place c.in-Some.block = c.in-Some.ensures in n.shorter

pub loop-block-preserved : goal.loop-block-preserved
loop-block-preserved c =
    let k = c.args.kept in
    let form = c.args.form in
    let n : IsNextBlock c.args.kept c.loop-block.place c.in-Some.block = c.in-Some.ensures in
    let b = c.in-Some.block in
    let net = c.loop-block.net in
    let left = edits_left k c.loop-block.place in
    let more = blocks_of (edits_left k b.behind) in
    let dropped = front Forward b.first left in
    let added = front Reversed b.first left in
    let small : is_large form net.adds net.drops (front_block b.first left) ≡ false = sym (large-block form net b dropped added n.size.drops n.size.adds) ∙ sym c.is_large.ensures ∙ c.if-is_large.false in
    record {
      large = c.loop-block.invariant.large
          ∙ ap (has_large form net.adds net.drops) n.left
          ∙ large-next form net.adds net.drops (front_block b.first left) more
          ∙ ap (λ (x : Bool). x || has_large form (net.adds + length added) (net.drops + length dropped) more) small
          ∙ ap (λ (x : ℕ). has_large form x (net.drops + length dropped) more) (ap (λ (x : ℕ). net.adds + x) (sym n.size.adds) ∙ sym c.net_behind-net.ensures.adds)
          ∙ ap (λ (x : ℕ). has_large form c.net_behind-net.result.adds x more) (ap (λ (x : ℕ). net.drops + x) (sym n.size.drops) ∙ sym c.net_behind-net.ensures.drops);
      small = omega (arith, c.loop-block.invariant.small, n.size.counted, c.net_behind-net.ensures.adds, c.net_behind-net.ensures.drops);
    }

pub returns-then-is_large : goal.returns-then-is_large
returns-then-is_large c =
    let k = c.args.kept in
    let form = c.args.form in
    let n : IsNextBlock c.args.kept c.loop-block.place c.in-Some.block = c.in-Some.ensures in
    let b = c.in-Some.block in
    let net = c.loop-block.net in
    let left = edits_left k c.loop-block.place in
    let more = blocks_of (edits_left k b.behind) in
    let dropped = front Forward b.first left in
    let added = front Reversed b.first left in
    let large : is_large form net.adds net.drops (front_block b.first left) ≡ true = sym (large-block form net b dropped added n.size.drops n.size.adds) ∙ sym c.is_large.ensures ∙ c.if-is_large.true in
    sym (c.loop-block.invariant.large
    ∙ ap (has_large form net.adds net.drops) n.left
    ∙ large-next form net.adds net.drops (front_block b.first left) more
    ∙ ap (λ (x : Bool). x || has_large form (net.adds + length added) (net.drops + length dropped) more) large)

pub returns : goal.returns
returns c =
    let none : edits_left c.args.kept c.loop-block.place ≡ [] = c.in_default.ensures in
    sym (c.loop-block.invariant.large
    ∙ ap (λ (es : List Edit). has_large c.args.form c.loop-block.net.adds c.loop-block.net.drops (blocks_of es)) none
    ∙ ap (has_large c.args.form c.loop-block.net.adds c.loop-block.net.drops) blocks-none
    ∙ large-end c.args.form c.loop-block.net.adds c.loop-block.net.drops)
