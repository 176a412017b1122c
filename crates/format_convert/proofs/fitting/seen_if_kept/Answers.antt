use Rattle.std.proofs.Common.{◌≡◌, ◌++◌, ◌∷◌, ℕ, List, [], Bool, get_or, sym, ap, subst, ◌∙◌}
use Rattle.std.proofs.lemmas.List.{append-nil}
use Rattle.std.proofs.lemmas.List.Concat.{flat_map-cons}
use Rattle.hunk_core.specs.declared.Hunk.{Hunk}
use Rattle.hunk_core.specs.PlainHunk.{PlainHunk, body_of, hunk_of}
use Rattle.hunk_core.specs.Turned.{IsLawful}
use Rattle.format_convert.specs.Taken.{hunk_if}
use Rattle.format_convert.specs.Fitting.{changed_lines, own_lines}
use Rattle.format_convert.specs.Seeing.{Sees}
use Rattle.format_convert.specs.Walk.{first_hunk, hunk_at}
use Rattle.format_convert.proofs.Rows.{pair-at}
use Rattle.format_convert.proofs.Steps.{is-there, own}
use Rattle.format_convert.proofs.Bounds.{offset-fits}
use Rattle.format_convert.proofs.fitting.seen_if_kept.Goals as goal

pub returns-then-not-is_kept : goal.returns-then-not-is_kept
returns-then-not-is_kept c = λ before sees.
    let k = c.args.kept in
    let text = c.args.kept.set.now.text in
    let h = is-there k.hunks.now c.args.hunk c.requires.within in
    let none : hunk_at c.args.kept c.args.hunk ≡ [] = ap (first_hunk text) (pair-at k c.requires.kept c.args.hunk h.0 c.requires.within h.1) ∙ ap (λ (b : Bool). hunk_if (b, hunk_of text h.0)) (sym c.is_kept.ensures ∙ c.if-not-is_kept.true) in
    subst (Sees c.args.seen) (sym (ap (λ hs. before ++ changed_lines c.args.side hs) none ∙ append-nil before)) sees

pub seen_hunk-requires : goal.seen_hunk-requires
seen_hunk-requires c =
    let k = c.args.kept in
    let h = c.index-kept-hunk.result in
    subst (λ (t : List ℕ). IsLawful t (get_or k.hunks.now c.args.hunk h)) (sym c.text.ensures)
    (subst (λ (x : Hunk). IsLawful k.set.now.text x) c.index-kept-hunk.is (own k c.requires.kept c.args.hunk h c.requires.within c.index-kept-hunk.is))

pub returns : goal.returns
returns c = λ before sees.
    let k = c.args.kept in
    let text = c.args.kept.set.now.text in
    let h = c.index-kept-hunk.result in
    let one : hunk_at c.args.kept c.args.hunk ≡ hunk_of c.args.kept.set.now.text c.index-kept-hunk.result ∷ [] = ap (first_hunk text) (pair-at k c.requires.kept c.args.hunk h c.requires.within c.index-kept-hunk.is) ∙ ap (λ (b : Bool). hunk_if (b, hunk_of text h)) (sym c.is_kept.ensures ∙ c.if-not-is_kept.false) in
    let lines : changed_lines c.args.side (hunk_at c.args.kept c.args.hunk) ≡ own_lines c.args.side (body_of c.args.kept.set.now.text c.index-kept-hunk.result.body.items) =
    ap (changed_lines c.args.side) one ∙ flat_map-cons (λ (x : PlainHunk). own_lines c.args.side x.body) (hunk_of text h) [] ∙ append-nil (own_lines c.args.side (body_of text h.body.items)) in
    subst (λ ls. Sees c.seen_hunk.result (before ++ ls))
    (ap (λ (t : List ℕ). own_lines c.args.side (body_of t (get_or k.hunks.now c.args.hunk h).body.items)) c.text.ensures
    ∙ ap (λ (x : Hunk). own_lines c.args.side (body_of text x.body.items)) (sym c.index-kept-hunk.is) ∙ sym lines)
    (c.seen_hunk.ensures before sees)

pub bounds-kept-hunk : goal.bounds-kept-hunk
bounds-kept-hunk c = c.requires.within

pub offset_bounds-kept-hunk : goal.offset_bounds-kept-hunk
offset_bounds-kept-hunk c = offset-fits c.args.hunk _ c.requires.within c.requires.kept.lawful.count

pub is_kept-requires-clause-within : goal.is_kept-requires-clause-within
is_kept-requires-clause-within c = c.requires.within
