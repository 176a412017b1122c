use Rattle.std.proofs.Common.{◌≡◌, ◌≤◌, ◌<◌, ◌+◌, ◌++◌, cond, get_or, length, ap, sym, ◌∙◌, ℕ, subst}
use Rattle.hunk_core.specs.declared.Hunk.{Hunk}
use Rattle.hunk_core.specs.declared.Side.TheVariants.{Forward}
use Rattle.hunk_core.specs.Sides.{is_on_side}
use Rattle.format_convert.specs.Walk.{left_at, pairs, step_edit}
use Rattle.format_convert.proofs.Steps.{hunk-over, line-ahead, line-lies, none-ahead, own, same-left}
use Rattle.format_convert.proofs.Bounds.{place-fits, line-low, own-long, way-line, way-next}
use Rattle.format_convert.proofs.edits.step.Goals as goal

pub returns-then-place-kept : goal.returns-then-place-kept
returns-then-place-kept c = none-ahead c.args.kept c.requires c.args.place.hunk c.args.place.line c.args.place.next c.if-place-kept.true

pub returns-then-place-len : goal.returns-then-place-len
returns-then-place-len c =
    let h = c.index-kept-place.result in
    let over = subst (λ (n : ℕ). n ≤ c.args.place.line) (own-long c.args.kept.hunks.now c.args.place.hunk c.len.result h c.index-kept-place.is c.len.ensures) c.if-place-len.true in
    record {
      left = hunk-over c.args.kept c.requires c.args.place.hunk h c.if-place-kept.false c.index-kept-place.is c.args.place.line c.args.place.next over ∙ sym c.hunk_start.ensures.left;
      shorter = way-next (length c.args.kept.hunks.now) c.args.place c.hunk_start.result c.hunk_start.ensures.hunk c.if-place-kept.false;
      lies = tt;
    }

pub line_step-requires : goal.line_step-requires
line_step-requires c =
    let h = c.index-kept-place.result in
    let within = subst (λ (n : ℕ). c.args.place.line < n) (own-long c.args.kept.hunks.now c.args.place.hunk c.len.result h c.index-kept-place.is c.len.ensures) c.if-place-len.false in
    line-low c.args.place.line _ within (own c.args.kept c.requires c.args.place.hunk h c.if-place-kept.false c.index-kept-place.is).few

pub returns : goal.returns
returns c =
    let k = c.args.kept in
    let text = c.args.kept.set.now.text in
    let h = c.index-kept-place.result in
    let l = c.index.result.now in
    let p = c.args.place in
    let within = subst (λ (n : ℕ). c.args.place.line < n) (own-long c.args.kept.hunks.now c.args.place.hunk c.len.result h c.index-kept-place.is c.len.ensures) c.if-place-len.false in
    let one : l ≡ get_or h.body.items p.line l = c.index.ensures ∙ ap (λ (x : Hunk). get_or x.body.items p.line l) (sym c.index-kept-place.is) in
    let at = left_at text (pairs c.args.kept) c.args.place.hunk in
    record {
      left = line-ahead k c.requires p.hunk h c.if-place-kept.false c.index-kept-place.is p.line p.next l within one
          ∙ c.line_step.ensures.edit text (at (p.line + 1) (p.next + cond (is_on_side Forward l.mark) 1 0))
          ∙ ap (λ es. step_edit text c.line_step.result.edit ++ es) (sym (same-left text (pairs k) _ _ _ _ _ _ c.line_step.ensures.hunk c.line_step.ensures.line c.line_step.ensures.next));
      shorter = way-line (length c.args.kept.hunks.now) c.args.place c.line_step.result.behind c.line_step.ensures.hunk c.line_step.ensures.line (line-low p.line _ within (own k c.requires p.hunk h c.if-place-kept.false c.index-kept-place.is).few);
      lies = c.line_step.ensures.lies text (line-lies k c.requires p.hunk h c.if-place-kept.false c.index-kept-place.is p.line l within one);
    }

pub overflow_add-place : goal.overflow_add-place
overflow_add-place c = place-fits c.args.place.hunk _ c.if-place-kept.false c.requires.lawful.count

pub index-requires : goal.index-requires
index-requires c = subst (λ (n : ℕ). c.args.place.line < n) c.len.ensures c.if-place-len.false

pub bounds-kept-place : goal.bounds-kept-place
bounds-kept-place c = c.if-place-kept.false
