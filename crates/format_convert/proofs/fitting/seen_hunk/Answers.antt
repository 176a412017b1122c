use Rattle.std.proofs.Common.{◌≡◌, ◌+◌, ◌++◌, ◌∷◌, ◌<◌, ◌≤◌, ℕ, List, [], drop, get_or, length, take, map, sym, ap, subst, ◌∙◌, append_assoc, arith, rules}
use Rattle.std.proofs.lemmas.List.{append-nil, map-append, take_all, take_more}
use Rattle.hunk_core.specs.declared.HunkLine.{HunkLine}
use Rattle.hunk_core.specs.PlainHunk.{body_of, marked_of}
use Rattle.hunk_core.specs.Turned.{LiesIn}
use Rattle.format_convert.specs.Fitting.{own_lines}
use Rattle.format_convert.specs.Seeing.{Sees}
use Rattle.format_convert.proofs.FitLemmas.{own-append}
use Rattle.format_convert.proofs.fitting.seen_hunk.Goals as goal

pub loop-i-init : goal.loop-i-init
loop-i-init c = λ before sees. subst (Sees c.args.seen) (sym (append-nil before)) sees

pub seen_line-seen-requires : goal.seen_line-seen-requires
seen_line-seen-requires c =
    let lt : c.loop-i.i < length c.args.hunk.now.body.items = search rules in
    subst (λ (x : HunkLine). LiesIn c.args.text.now x.span) (sym c.index.ensures) (c.requires.within c.loop-i.i c.index.result.now lt)

pub loop-i-preserved : goal.loop-i-preserved
loop-i-preserved c = λ before sees.
    let items = c.args.hunk.now.body.items in
    let text = c.args.text.now in
    let side = c.args.side in
    let i = c.loop-i.i in
    let l = c.index.result.now in
    let lt : c.loop-i.i < length c.args.hunk.now.body.items = search rules in
    let more : take (c.loop-i.i + 1) c.args.hunk.now.body.items ≡ take c.loop-i.i c.args.hunk.now.body.items ++ c.index.result.now ∷ [] =
    take_more items i l lt ∙ ap (λ x. take i items ++ x ∷ []) (sym c.index.ensures) in
    subst (λ ls. Sees c.seen_line-seen.result ls)
    (append_assoc before (own_lines side (body_of text (take i items))) (own_lines side (marked_of text l ∷ []))
    ∙ ap (λ ls. before ++ ls) (sym (own-append side (body_of text (take i items)) (marked_of text l ∷ [])) ∙ ap (own_lines side) (sym (map-append (marked_of text) (take i items) (l ∷ []))) ∙ ap (λ ls. own_lines side (body_of text ls)) (sym more)))
    (c.seen_line-seen.ensures (before ++ own_lines side (body_of text (take i items))) (c.loop-i.invariant before sees))

pub returns : goal.returns
returns c = λ before sees.
    let items = c.args.hunk.now.body.items in
    let end : length c.args.hunk.now.body.items ≤ c.loop-i.i = search rules in
    subst (λ ls. Sees c.loop-i.seen (before ++ own_lines c.args.side (body_of c.args.text.now ls))) (take_all c.loop-i.i items end) (c.loop-i.invariant before sees)
