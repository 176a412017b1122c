use Rattle.std.proofs.Common.{◌≡◌, ◌<◌, ◌≤◌, false, length, sym, ap, ◌∙◌, rules}
use Rattle.std.proofs.lemmas.List.{drop_all}
use Rattle.hunk_core.specs.Turned.{is_add}
use Rattle.normal_form.specs.Canonical.{are_added}
use Rattle.normal_form.proofs.WritingLemmas.{added-more, added-not, added-nil}
use Rattle.normal_form.proofs.writing.are_adds.Goals as goal

pub returns-then-not-is_added : goal.returns-then-not-is_added
returns-then-not-is_added c =
    let items = c.args.hunk.now.body.items in
    let lt : c.loop-i.i < length items = search rules in
    let none : is_add c.index.result.now.mark ≡ false = search rules in
    sym (sym c.loop-i.invariant ∙ added-not items c.loop-i.i c.index.result.now lt c.index.ensures none)

pub loop-i-preserved : goal.loop-i-preserved
loop-i-preserved c =
    let items = c.args.hunk.now.body.items in
    let lt : c.loop-i.i < length items = search rules in
    sym (added-more items c.loop-i.i c.index.result.now lt c.index.ensures (search rules)) ∙ c.loop-i.invariant

pub returns : goal.returns
returns c =
    let items = c.args.hunk.now.body.items in
    let all : length items ≤ c.loop-i.i = search rules in
    sym (sym c.loop-i.invariant ∙ ap are_added (drop_all c.loop-i.i items all) ∙ added-nil)
