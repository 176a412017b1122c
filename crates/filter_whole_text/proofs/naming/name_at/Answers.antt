use Rattle.std.proofs.Common.{◌<◌, ◌≤◌, length, sym, subst}
use Rattle.line_list.proofs.Elements.{there-is}
use Rattle.filter_whole_text.proofs.NameLoops.{named-here, none-there}
use Rattle.filter_whole_text.proofs.naming.name_at.Goals as goal

pub returns-then-patch-patches : goal.returns-then-patch-patches
returns-then-patch-patches c =
    let v = c.args.set.now in
    let lt : c.args.patch < length v.patches = subst (λ l. c.args.patch < length l) c.patches.ensures.patches c.if-patch-patches.true in
    let p = there-is v.patches c.args.patch lt in
    named-here v c.args.patch p.0 p.1 c.plain_name.result.now (c.plain_name.ensures p.0 p.1)

pub returns-else-patch-patches : goal.returns-else-patch-patches
returns-else-patch-patches c =
    let v = c.args.set.now in
    let past : length v.patches ≤ c.args.patch = subst (λ l. length l ≤ c.args.patch) c.patches.ensures.patches c.if-patch-patches.false in
    sym (none-there v c.args.patch past 0)
