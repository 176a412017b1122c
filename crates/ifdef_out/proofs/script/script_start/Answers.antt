use Rattle.std.proofs.Common.{◌≡◌, ◌≤◌, ◌<◌, ◌-◌, length, get_or, sym, ap, ◌∙◌, subst}
use Rattle.ifdef_out.proofs.ScriptSteps.{none-ahead, none-placed, starts}
use Rattle.ifdef_out.proofs.script.script_start.Goals as goal

pub returns-then-row-len-clause-left : goal.returns-then-row-len-clause-left
returns-then-row-len-clause-left c text =
    let le : length c.args.script.now.edits.items ≤ c.args.row = subst (λ n. n ≤ c.args.row) (c.len.ensures ∙ c.args.script.now.edits.ok.0) c.if-row-len.true in
    none-ahead text c.args.script.now.edits.items c.args.row 0 1 le
    ∙ sym (none-placed text c.args.script.now.edits.items c.args.row le)

pub returns-clause-left : goal.returns-clause-left
returns-clause-left c text =
    let lt : c.args.row < length c.args.script.now.edits.items = subst (λ n. c.args.row < n) (c.len.ensures ∙ c.args.script.now.edits.ok.0) c.if-row-len.false in
    let count : c.len-2.result ≡ length c.args.script.now.edits.items = c.len-2.ensures ∙ c.args.script.now.edits.ok.0 in
    starts text c.args.script.now.edits.items c.args.row c.index.result.now lt
    (c.index.ensures ∙ ap (λ n. get_or c.args.script.now.edits.items ((n - 1) - c.args.row) c.index.result.now) count)
