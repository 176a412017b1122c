use Rattle.std.proofs.Common.{◌+◌, ◌-◌, ◌++◌, List, ℕ, length, take, sym, ap, ◌∙◌}
use Rattle.std.proofs.lemmas.Slice.{take-put_mid}
use Rattle.hunk_apply.proofs.gather.add_line.Goals as goal

pub returns-clause-added : goal.returns-clause-added
returns-clause-added c =
    let line = c.args.line.now in
    take-put_mid c.args.bytes ((c.args.bytes + length line) - c.args.bytes) c.args.block.now c.copy_from_slice.new.self (c.args.bytes + length line) (ap (λ (bs : List ℕ). c.args.bytes + length bs) (sym c.copy_from_slice.ensures.after)) c.requires
    ∙ ap (λ bs. take c.args.bytes c.args.block.now ++ bs) c.copy_from_slice.ensures.after

pub returns-clause-fed : goal.returns-clause-fed
returns-clause-fed c = sym c.is_without_feed.ensures ∙ c.if-is_without_feed.false

pub overflow_sub-block : goal.overflow_sub-block
overflow_sub-block c = c.requires
