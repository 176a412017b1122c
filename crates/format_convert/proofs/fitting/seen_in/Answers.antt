use Rattle.std.proofs.Common.{◌≡◌, ◌+◌, ◌++◌, ◌∷◌, ◌<◌, [], Bool, false, get_or, length, take, refl, sym, ap, subst, ◌∙◌, arith}
use Rattle.std.specs.List.{flat_map}
use Rattle.std.proofs.lemmas.Grind.{flat_map-append}
use Rattle.std.proofs.lemmas.List.{append-nil, take_all, take_more}
use Rattle.std.proofs.lemmas.List.Concat.{flat_map-cons}
use Rattle.hunk_core.specs.declared.Hunk.{Hunk}
use Rattle.hunk_core.specs.PlainHunk.{PlainHunk}
use Rattle.format_convert.specs.Fitting.{changed_lines, own_lines}
use Rattle.format_convert.specs.Seeing.{Sees}
use Rattle.format_convert.specs.Walk.{first_hunk, hunk_at, kept_flags, pairs}
use Rattle.format_convert.proofs.FitLemmas.{hunks_if, left-are}
use Rattle.format_convert.proofs.Rows.{pair-at, pair-get, pairs-long}
use Rattle.format_convert.proofs.Steps.{is-there}
use Rattle.format_convert.proofs.fitting.seen_in.Goals as goal

pub loop-hunk-init : goal.loop-hunk-init
loop-hunk-init c = record { end = refl; inside = refl }

pub loop-hunk-preserved : goal.loop-hunk-preserved
loop-hunk-preserved c =
    let k = c.args.kept in
    let text = c.args.kept.set.now.text in
    let side = c.args.side in
    let i = c.loop-hunk.hunk in
    let lt : c.loop-hunk.hunk < length c.args.kept.hunks.now = omega (arith, c.loop-hunk-test.true) in
    let h = is-there k.hunks.now i lt in
    let row : Bool × Hunk = (get_or (kept_flags k) i false, h.0) in
    let here : hunk_at c.args.kept c.loop-hunk.hunk ≡ hunks_if c.args.kept.set.now.text row = ap (first_hunk text) (pair-at k c.requires i h.0 lt h.1) in
    let more : flat_map (hunks_if text) (take (c.loop-hunk.hunk + 1) (pairs c.args.kept)) ≡ flat_map (hunks_if text) (take c.loop-hunk.hunk (pairs c.args.kept)) ++ hunk_at c.args.kept c.loop-hunk.hunk =
    ap (flat_map (hunks_if text)) (take_more (pairs k) i row (omega (arith, lt, pairs-long k c.requires)) ∙ ap (λ (x : Bool × Hunk). take i (pairs k) ++ x ∷ []) (pair-get k c.requires i h.0 lt h.1))
    ∙ flat_map-append (hunks_if text) (take i (pairs k)) (row ∷ [])
    ∙ ap (λ hs. flat_map (hunks_if text) (take i (pairs k)) ++ hs) (flat_map-cons (hunks_if text) row [] ∙ append-nil (hunks_if text row) ∙ sym here) in
    subst (λ ls. Sees c.seen_if_kept-seen.result ls)
    (sym (ap (changed_lines side) more ∙ flat_map-append (λ (x : PlainHunk). own_lines side x.body) (flat_map (hunks_if text) (take i (pairs k))) (hunk_at k i)))
    (c.seen_if_kept-seen.ensures (changed_lines side (flat_map (hunks_if text) (take i (pairs k)))) c.loop-hunk.invariant)

pub returns : goal.returns
returns c =
    let k = c.args.kept in
    subst (λ rows. Sees c.loop-hunk.seen (changed_lines c.args.side rows)) (ap (λ xs. flat_map (hunks_if k.set.now.text) xs) (take_all c.loop-hunk.hunk (pairs k) (omega (arith, c.loop-hunk-test.false, pairs-long k c.requires))) ∙ sym (left-are k)) c.loop-hunk.invariant

pub seen_if_kept-seen-requires-clause-within : goal.seen_if_kept-seen-requires-clause-within
seen_if_kept-seen-requires-clause-within c = c.loop-hunk-test.true
