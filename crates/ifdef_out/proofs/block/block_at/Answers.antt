use Rattle.std.proofs.Common.{◌≡◌, ◌≢◌, ◌||◌, ℕ, [], length, sym, ap, ◌∙◌, arith}
use Rattle.std.proofs.Math.Bool.{or-false}
use Rattle.hunk_core.specs.PlainHunk.{bytes_at}
use Rattle.ifdef_out.specs.Chain.{block_end, block_added, behind_block, is_some_line}
use Rattle.ifdef_out.specs.Places.{IsFound, edits_left, edit_at}
use Rattle.ifdef_out.proofs.ChainLemmas.{end-none, added-none, behind-none, end-more, added-more, behind-more, end-stop, added-stop, behind-stop, adds-some, or-next}
use Rattle.ifdef_out.proofs.block.block_at.Goals as goal

pub returns : goal.returns
returns c =
    let q = c.loop-found.block.end in
    let none : edits_left c.args.edits c.loop-found.block.behind ≡ [] = c.in_default.ensures in
    record {
      end = sym (c.loop-found.invariant.end ∙ ap (block_end q) none ∙ end-none q);
      adding = sym (c.loop-found.invariant.adding ∙ ap (λ es. c.loop-found.block.is_adding || is_some_line (block_added q es)) none ∙ ap (λ ls. c.loop-found.block.is_adding || is_some_line ls) (added-none q) ∙ or-false c.loop-found.block.is_adding);
      behind = sym (c.loop-found.invariant.behind ∙ ap (behind_block q) none ∙ behind-none q ∙ sym none);
    }

pub returns-then-found-block : goal.returns-then-found-block
returns-then-found-block c =
    let q = c.loop-found.block.end in
    let f : IsFound c.args.edits c.loop-found.block.behind c.in-Some.found = c.in-Some.ensures in
    let e = edit_at c.args.edits.text.now c.in-Some.found.edit in
    let es = edits_left c.args.edits c.in-Some.found.behind in
    let away : c.in-Some.found.edit.at ≢ c.loop-found.block.end = c.if-found-block.true in
    record {
      end = sym (c.loop-found.invariant.end ∙ ap (block_end q) f.left ∙ end-stop q e es away);
      adding = sym (c.loop-found.invariant.adding ∙ ap (λ xs. c.loop-found.block.is_adding || is_some_line (block_added q xs)) f.left ∙ ap (λ ls. c.loop-found.block.is_adding || is_some_line ls) (added-stop q e es away) ∙ or-false c.loop-found.block.is_adding);
      behind = sym (c.loop-found.invariant.behind ∙ ap (behind_block q) f.left ∙ behind-stop q e es away ∙ sym f.left);
    }

pub loop-found-preserved : goal.loop-found-preserved
loop-found-preserved c =
    let q = c.loop-found.block.end in
    let f : IsFound c.args.edits c.loop-found.block.behind c.in-Some.found = c.in-Some.ensures in
    let text = c.args.edits.text.now in
    let e = edit_at c.args.edits.text.now c.in-Some.found.edit in
    let es = edits_left c.args.edits c.in-Some.found.behind in
    let here : c.in-Some.found.edit.at ≡ c.loop-found.block.end = c.if-found-block.false in
    let was = c.loop-found.block.is_adding in
    let next = sym (c.gap_behind.ensures text) in
    record {
      end = c.loop-found.invariant.end ∙ ap (block_end q) f.left ∙ end-more q e es here ∙ ap (λ (n : ℕ). block_end n es) next;
      adding = c.loop-found.invariant.adding ∙ ap (λ xs. was || is_some_line (block_added q xs)) f.left
          ∙ ap (λ ls. was || is_some_line ls) (added-more q e es here)
          ∙ ap (λ b. was || b) (adds-some (bytes_at text) c.in-Some.found.edit.added (block_added _ es))
          ∙ or-next was _ _ _ c.adds_by.ensures
          ∙ ap (λ (n : ℕ). c.adds_by.result || is_some_line (block_added n es)) next;
      behind = c.loop-found.invariant.behind ∙ ap (behind_block q) f.left ∙ behind-more q e es here ∙ ap (λ (n : ℕ). behind_block n es) next;
    }

pub loop-found-smaller : goal.loop-found-smaller
loop-found-smaller c =
    let f : IsFound c.args.edits c.loop-found.block.behind c.in-Some.found = c.in-Some.ensures in
    omega (arith, ap length f.left)

pub gap_behind-requires : goal.gap_behind-requires
gap_behind-requires c =
    let f : IsFound c.args.edits c.loop-found.block.behind c.in-Some.found = c.in-Some.ensures in
    omega (arith, f.lies.near, c.if-found-block.false)
