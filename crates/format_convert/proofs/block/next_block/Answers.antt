use Rattle.std.proofs.Common.{◌≡◌, ℕ, ◌+◌, [], length, sym, ap, subst, ◌∙◌, refl, arith}
use Rattle.std.specs.Prelude.{Option, MatchOption}
use Rattle.hunk_core.specs.declared.Side.TheVariants.{Forward, Reversed}
use Rattle.format_convert.specs.Fronts.{front, front_rest}
use Rattle.format_convert.specs.Walk.{IsBlock, IsFound, IsFoundIn, IsNextBlock, edit_at, edits_left}
use Rattle.format_convert.specs.declared.block.Block.{Block}
use Rattle.format_convert.specs.declared.place.EditCursor.{EditCursor}
use Rattle.format_convert.proofs.FrontLemmas.{Ended, Grows, Whole, blocks-next, ended, fewer, grows, whole}
use Rattle.format_convert.proofs.Steps.{few-left}
use Rattle.format_convert.proofs.block.next_block.Goals as goal

pub loop-found-init : goal.loop-found-init
loop-found-init c =
    let w : Whole c.in_ok-next.next.edit.at (edits_left c.args.kept c.args.place) = whole c.in_ok-next.next.edit.at (edits_left c.args.kept c.args.place) in
    record { first = refl; drops = w.dropped; adds = w.added; rest = w.rest; counted = omega arith }

pub overflow_add-block : goal.overflow_add-block
overflow_add-block c =
    let f : IsFound c.args.kept c.args.place c.in_ok-next.next = c.in_ok-next.ensures in
    omega (arith, f.lies.near, c.loop-found.invariant.first, c.loop-found.invariant.counted, few-left c.args.kept c.requires c.args.place)

pub with_edit-block-requires-clause-drops : goal.with_edit-block-requires-clause-drops
with_edit-block-requires-clause-drops c = omega (arith, c.loop-found.invariant.counted, few-left c.args.kept c.requires c.args.place)

pub with_edit-block-requires-clause-adds : goal.with_edit-block-requires-clause-adds
with_edit-block-requires-clause-adds c = omega (arith, c.loop-found.invariant.counted, few-left c.args.kept c.requires c.args.place)

pub loop-found-preserved : goal.loop-found-preserved
loop-found-preserved c =
    let k = c.args.kept in
    let b = c.loop-found.block in
    let n = c.with_edit-block.result in
    let i = c.loop-found.invariant in
    let f : IsFoundIn c.args.kept c.loop-found.block.behind (c.loop-found.block.first + c.loop-found.block.drops) c.in-Some.found = c.in-Some.ensures in
    let more = edits_left k c.in-Some.found.behind in
    let g : Grows c.loop-found.block.first c.loop-found.block.drops c.loop-found.block.adds c.with_edit-block.result.drops c.with_edit-block.result.adds (edits_left k b.behind) more =
    rw (c.with_edit-block.ensures.drops, c.with_edit-block.ensures.adds) (grows b.first b.drops b.adds (edits_left k b.behind) more (edit_at k.set.now.text c.in-Some.found.edit) f.found.left f.here) in
    let at : c.with_edit-block.result.behind ≡ c.in-Some.found.behind = c.with_edit-block.ensures.behind in
    let first : c.with_edit-block.result.first ≡ c.loop-found.block.first = c.with_edit-block.ensures.first in
    record {
      first = first ∙ i.first;
      drops = i.drops ∙ g.dropped ∙ ap (λ (p : EditCursor). n.drops + length (front Forward (b.first + n.drops) (edits_left k p))) (sym at) ∙ ap (λ (q : ℕ). n.drops + length (front Forward (q + n.drops) (edits_left k n.behind))) (sym first);
      adds = i.adds ∙ g.added ∙ ap (λ (p : EditCursor). n.adds + length (front Reversed (b.first + n.drops) (edits_left k p))) (sym at) ∙ ap (λ (q : ℕ). n.adds + length (front Reversed (q + n.drops) (edits_left k n.behind))) (sym first);
      rest = i.rest ∙ g.rest ∙ ap (λ (p : EditCursor). front_rest (b.first + n.drops) (edits_left k p)) (sym at) ∙ ap (λ (q : ℕ). front_rest (q + n.drops) (edits_left k n.behind)) (sym first);
      counted = ap (λ (p : EditCursor). n.drops + n.adds + length (edits_left k p)) at ∙ sym g.counted ∙ i.counted;
    }

pub loop-found-smaller : goal.loop-found-smaller
loop-found-smaller c =
    let k = c.args.kept in
    let f : IsFoundIn c.args.kept c.loop-found.block.behind (c.loop-found.block.first + c.loop-found.block.drops) c.in-Some.found = c.in-Some.ensures in
    let at : c.with_edit-block.result.behind ≡ c.in-Some.found.behind = c.with_edit-block.ensures.behind in
    omega (arith, ap length f.found.left, ap (λ (p : EditCursor). length (edits_left k p)) at)

pub returns : goal.returns
returns c =
    let k = c.args.kept in
    let b = c.loop-found.block in
    let at = c.in_ok-next.next.edit.at in
    let i = c.loop-found.invariant in
    let es = edits_left c.args.kept c.args.place in
    let f : IsFound c.args.kept c.args.place c.in_ok-next.next = c.in_ok-next.ensures in
    let e : Ended (c.loop-found.block.first + c.loop-found.block.drops) (edits_left c.args.kept c.loop-found.block.behind) = ended (b.first + b.drops) (edits_left k b.behind) c.in_default.ensures in
    let own : IsBlock c.args.kept c.args.place c.in_ok-next.next.edit.at c.loop-found.block = record {
      first = i.first;
      drops = omega (arith, i.drops, e.dropped);
      adds = omega (arith, i.adds, e.added);
      behind = sym (i.rest ∙ e.rest);
      counted = i.counted;
      near = omega (arith, i.first, f.lies.near);
    } in
    let rest = own.behind ∙ ap (λ (q : ℕ). front_rest q es) (sym i.first) in
    record {
      size = subst (λ (q : ℕ). IsBlock k c.args.place q b) (sym i.first) own;
      shorter = fewer es (edit_at k.set.now.text c.in_ok-next.next.edit) (edits_left k c.in_ok-next.next.behind) (edits_left k b.behind) b.first f.left i.first rest;
      left = blocks-next es (edit_at k.set.now.text c.in_ok-next.next.edit) (edits_left k c.in_ok-next.next.behind) (edits_left k b.behind) b.first f.left i.first rest;
    }

pub returns-in_err-next : goal.returns-in_err-next
returns-in_err-next c = subst (λ (o : Option Block). MatchOption o (edits_left c.args.kept c.args.place ≡ []) (IsNextBlock c.args.kept c.args.place)) (sym c.from_residual.ensures) c.in_err-next.ensures
