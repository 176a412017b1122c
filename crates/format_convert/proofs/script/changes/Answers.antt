use Rattle.std.proofs.Common.{◌≡◌, ◌+◌, ◌∷◌, ◌<◌, ◌≤◌, ◌||◌, ℕ, List, [], Bool, drop, get_or, length, sym, ap, ◌∙◌, rules}
use Rattle.std.specs.List.{list_any}
use Rattle.std.proofs.lemmas.List.{at_drop_more, drop_all}
use Rattle.ed_form.specs.declared.script.EdEdit.{EdEdit}
use Rattle.ed_form.specs.PlainEdit.{edit_of, edits_of}
use Rattle.format_convert.specs.Blocks.{is_change}
use Rattle.format_convert.proofs.ScriptLemmas.{some-change}
use Rattle.format_convert.proofs.script.changes.Goals as goal

next : (text : List ℕ) (es : List EdEdit) (i : ℕ) (e : EdEdit) → i < length es → e ≡ get_or es i e → list_any is_change (edits_of text (drop i es)) ≡ (is_change (edit_of text e) || list_any is_change (edits_of text (drop (i + 1) es)))
next text es i e lt is =
    at_drop_more (λ xs. list_any is_change (edits_of text xs)) es i e lt
    ∙ ap (λ x. list_any is_change (edits_of text (x ∷ drop (i + 1) es))) (sym is)

pub loop-i-preserved : goal.loop-i-preserved
loop-i-preserved c = λ text.
    let es = c.args.script.now.edits.items in
    let lt : c.loop-i.i < length c.args.script.now.edits.items = search rules in
    c.loop-i.invariant text ∙ next text es c.loop-i.i c.index.result.now lt c.index.ensures
    ∙ ap (λ (b : Bool). b || list_any is_change (edits_of text (drop (c.loop-i.i + 1) es))) (sym (c.is_change.ensures text) ∙ c.if-is_change.false)

pub returns-then-is_change : goal.returns-then-is_change
returns-then-is_change c = λ text.
    let es = c.args.script.now.edits.items in
    let lt : c.loop-i.i < length c.args.script.now.edits.items = search rules in
    sym (sym (some-change (edits_of text es)) ∙ c.loop-i.invariant text ∙ next text es c.loop-i.i c.index.result.now lt c.index.ensures
    ∙ ap (λ (b : Bool). b || list_any is_change (edits_of text (drop (c.loop-i.i + 1) es))) (sym (c.is_change.ensures text) ∙ c.if-is_change.true))

pub returns : goal.returns
returns c = λ text.
    let es = c.args.script.now.edits.items in
    let end : length c.args.script.now.edits.items ≤ c.loop-i.i = search rules in
    sym (sym (some-change (edits_of text es)) ∙ c.loop-i.invariant text ∙ ap (λ xs. list_any is_change (edits_of text xs)) (drop_all c.loop-i.i es end))
