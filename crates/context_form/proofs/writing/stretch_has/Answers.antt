use Rattle.std.proofs.Common.{◌≡◌, ◌<◌, ◌≤◌, true, false, length, sym, ap, ◌∙◌, rules}
use Rattle.std.proofs.lemmas.List.{drop_all}
use Rattle.hunk_core.specs.PlainHunk.{body_of}
use Rattle.hunk_core.specs.Sides.{is_on_side}
use Rattle.hunk_core.specs.Turned.{is_keep}
use Rattle.context_form.specs.Canonical.{stretch_has}
use Rattle.context_form.proofs.MixedLemmas.{has-step, has-stop, has-found, has-nil}
use Rattle.context_form.proofs.writing.stretch_has.Goals as goal

pub returns-then-keeps : goal.returns-then-keeps
returns-then-keeps c = λ text.
    let items = c.args.hunk.now.body.items in
    let lt : c.loop-i.i < length items = search rules in
    let keep : is_keep c.index.result.now.mark ≡ true = search rules in
    sym (sym (c.loop-i.invariant text) ∙ has-stop text c.args.side items c.loop-i.i c.index.result.now lt c.index.ensures keep)

pub returns-then-is_taken : goal.returns-then-is_taken
returns-then-is_taken c = λ text.
    let items = c.args.hunk.now.body.items in
    let lt : c.loop-i.i < length items = search rules in
    let keep : is_keep c.index.result.now.mark ≡ false = search rules in
    let on : is_on_side c.args.side c.index.result.now.mark ≡ true = search rules in
    sym (sym (c.loop-i.invariant text) ∙ has-found text c.args.side items c.loop-i.i c.index.result.now lt c.index.ensures keep on)

pub loop-i-preserved : goal.loop-i-preserved
loop-i-preserved c = λ text.
    let items = c.args.hunk.now.body.items in
    let lt : c.loop-i.i < length items = search rules in
    let keep : is_keep c.index.result.now.mark ≡ false = search rules in
    let on : is_on_side c.args.side c.index.result.now.mark ≡ false = search rules in
    sym (has-step text c.args.side items c.loop-i.i c.index.result.now lt c.index.ensures keep on) ∙ c.loop-i.invariant text

pub returns : goal.returns
returns c = λ text.
    let items = c.args.hunk.now.body.items in
    let all : length items ≤ c.loop-i.i = search rules in
    sym (sym (c.loop-i.invariant text) ∙ ap (λ xs. stretch_has c.args.side (body_of text xs)) (drop_all c.loop-i.i items all) ∙ has-nil c.args.side)
