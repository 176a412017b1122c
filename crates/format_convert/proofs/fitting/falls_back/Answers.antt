use Rattle.std.proofs.Common.{◌≡◌, ◌+◌, ◌∷◌, ◌||◌, ◌&&◌, ◌<◌, ℕ, Bool, false, cond, drop, get_or, length, sym, ap, ◌∙◌, arith}
use Rattle.std.specs.Prelude.{nat_lt}
use Rattle.std.specs.List.{flat_map}
use Rattle.std.proofs.lemmas.List.Concat.{flat_map-cons}
use Rattle.hunk_core.specs.PlainHunk.{hunk_of}
use Rattle.format_convert.specs.Fitting.{falls_behind}
use Rattle.format_convert.specs.Walk.{first_base, first_count, kept_flags, own_base, own_count, pairs}
use Rattle.format_convert.specs.declared.kept.Kept.{Kept}
use Rattle.format_convert.specs.Walk.{IsKept}
use Rattle.format_convert.proofs.FitLemmas.{falls-none, falls-row, hunks_if, left-are}
use Rattle.format_convert.proofs.Rows.{none-behind, pair-at}
use Rattle.format_convert.proofs.Steps.{is-there}
use Rattle.format_convert.proofs.fitting.falls_back.Goals as goal

-- one hunk more
step : (k : Kept) (is : IsKept k) (i end : ℕ) → i < length k.hunks.now
    → falls_behind end (flat_map (hunks_if k.set.now.text) (drop i (pairs k))) ≡ ((get_or (kept_flags k) i false && nat_lt (own_base k i) end) || falls_behind (cond (get_or (kept_flags k) i false) (own_base k i + own_count k i) end) (flat_map (hunks_if k.set.now.text) (drop (i + 1) (pairs k))))
step k is i end lt =
    let text = k.set.now.text in
    let h = is-there k.hunks.now i lt in
    let b = get_or (kept_flags k) i false in
    let more = flat_map (hunks_if text) (drop (i + 1) (pairs k)) in
    let here : drop i (pairs k) ≡ (get_or (kept_flags k) i false, h.0) ∷ drop (i + 1) (pairs k) = pair-at k is i h.0 lt h.1 in
    ap (λ rows. falls_behind end (flat_map (hunks_if text) rows)) here
    ∙ ap (falls_behind end) (flat_map-cons (hunks_if text) (b, h.0) (drop (i + 1) (pairs k)))
    ∙ falls-row b end (hunk_of text h.0) more
    ∙ ap (λ rows. (b && nat_lt (first_base text rows) end) || falls_behind (cond b (first_base text rows + first_count text rows) end) more) (sym here)

pub loop-hunk-init : goal.loop-hunk-init
loop-hunk-init c = ap (falls_behind 0) (left-are c.args.kept)

pub loop-hunk-preserved : goal.loop-hunk-preserved
loop-hunk-preserved c =
    let k = c.args.kept in
    let i = c.loop-hunk.hunk in
    let text = c.args.kept.set.now.text in
    let more = flat_map (hunks_if text) (drop (i + 1) (pairs k)) in
    c.loop-hunk.invariant ∙ step k c.requires i c.loop-hunk.end (omega (arith, c.loop-hunk-test.true))
    ∙ ap (λ (b : Bool). b || falls_behind (cond (get_or (kept_flags k) i false) (own_base k i + own_count k i) c.loop-hunk.end) more) (sym c.stands_before.ensures ∙ c.if-stands_before.false)
    ∙ ap (λ (q : ℕ). falls_behind q more) (sym c.end_behind-end.ensures)

pub returns-then-stands_before : goal.returns-then-stands_before
returns-then-stands_before c =
    let k = c.args.kept in
    let i = c.loop-hunk.hunk in
    let text = c.args.kept.set.now.text in
    let more = flat_map (hunks_if text) (drop (i + 1) (pairs k)) in
    sym (c.loop-hunk.invariant ∙ step k c.requires i c.loop-hunk.end (omega (arith, c.loop-hunk-test.true))
    ∙ ap (λ (b : Bool). b || falls_behind (cond (get_or (kept_flags k) i false) (own_base k i + own_count k i) c.loop-hunk.end) more) (sym c.stands_before.ensures ∙ c.if-stands_before.true))

pub returns : goal.returns
returns c =
    sym (c.loop-hunk.invariant
    ∙ ap (λ rows. falls_behind c.loop-hunk.end (flat_map (hunks_if c.args.kept.set.now.text) rows)) (none-behind c.args.kept c.requires c.loop-hunk.hunk (omega (arith, c.loop-hunk-test.false)))
    ∙ falls-none c.loop-hunk.end)

pub end_behind-end-requires-clause-within : goal.end_behind-end-requires-clause-within
end_behind-end-requires-clause-within c = c.loop-hunk-test.true

pub stands_before-requires-clause-within : goal.stands_before-requires-clause-within
stands_before-requires-clause-within c = c.loop-hunk-test.true
