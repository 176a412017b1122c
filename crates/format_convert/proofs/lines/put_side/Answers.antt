use Rattle.std.proofs.Common.{◌≡◌, ◌++◌, ℕ, List, length, sym, ap, subst, ◌∙◌, refl, arith}
use Rattle.std.specs.List.{flat_map}
use Rattle.std.proofs.lemmas.Grind.{flat_map-append}
use Rattle.std.proofs.lemmas.Result.{err_from_is_err_and}
use Rattle.hunk_core.specs.Turned.{LiesIn}
use Rattle.normal_form.specs.Canonical.{line_text}
use Rattle.format_convert.specs.Blocks.{behind}
use Rattle.format_convert.specs.Fronts.{front, line_on}
use Rattle.format_convert.specs.Walk.{IsFoundIn, edit_at, edits_left}
use Rattle.format_convert.proofs.FrontLemmas.{behind-near, front-cut, front-stop}
use Rattle.format_convert.proofs.Parts.{written-all, written-more, written-none, written-stop}
use Rattle.format_convert.proofs.lines.put_side.Goals as goal

pub loop-found-init : goal.loop-found-init
loop-found-init g c = record { written = written-none g.met.O.Sink.rest_none c.args.out.now _; near = omega (arith, c.requires.near) }

pub put_if-requires : goal.put_if-requires
put_if-requires g c =
    let f : IsFoundIn c.args.kept c.loop-found.at c.loop-found.gap c.in-Some.found = c.in-Some.ensures in
    subst (λ (t : List ℕ). LiesIn t c.in-Some.found.edit.span) (sym c.text-text.ensures) f.found.lies.lies

pub gap_behind-gap-requires : goal.gap_behind-gap-requires
gap_behind-gap-requires g c =
    let f : IsFoundIn c.args.kept c.loop-found.at c.loop-found.gap c.in-Some.found = c.in-Some.ensures in
    f.found.lies.near

pub loop-found-smaller : goal.loop-found-smaller
loop-found-smaller g c =
    let f : IsFoundIn c.args.kept c.loop-found.at c.loop-found.gap c.in-Some.found = c.in-Some.ensures in
    omega (arith, ap length f.found.left)

pub loop-found-preserved : goal.loop-found-preserved
loop-found-preserved g c =
    let f : IsFoundIn c.args.kept c.loop-found.at c.loop-found.gap c.in-Some.found = c.in-Some.ensures in
    let k = c.args.kept in
    let text = c.args.kept.set.now.text in
    let side = c.args.side in
    let edit = c.in-Some.found.edit in
    let es = edits_left k c.in-Some.found.behind in
    let own = flat_map (line_text side) (line_on side (edit_at c.text-text.result.now edit)) in
    let more = flat_map (line_text side) (front side c.gap_behind-gap.result es) in
    let cut : flat_map (line_text side) (front side c.loop-found.gap (edits_left k c.loop-found.at)) ≡ own ++ more =
    ap (flat_map (line_text side)) (front-cut side c.loop-found.gap (edits_left k c.loop-found.at) (edit_at text edit) es c.gap_behind-gap.result f.found.left f.here (c.gap_behind-gap.ensures text))
    ∙ flat_map-append (line_text side) (line_on side (edit_at text edit)) (front side c.gap_behind-gap.result es)
    ∙ ap (λ (t : List ℕ). flat_map (line_text side) (line_on side (edit_at t edit)) ++ more) (sym c.text-text.ensures) in
    record {
      written = written-more g.met.O.Sink.rest_both c.loop-found.invariant.written own more cut c.in_ok-put_if.field-0 c.in_ok-put_if.ensures;
      near = omega (arith, f.found.lies.near, c.gap_behind-gap.ensures text, behind-near (edit_at text edit));
    }

pub returns-in_err-put_if : goal.returns-in_err-put_if
returns-in_err-put_if g c =
    let p = err_from_is_err_and c.from_residual.result c.from_residual.ensures.1 in
    let f : IsFoundIn c.args.kept c.loop-found.at c.loop-found.gap c.in-Some.found = c.in-Some.ensures in
    let k = c.args.kept in
    let text = c.args.kept.set.now.text in
    let side = c.args.side in
    let edit = c.in-Some.found.edit in
    let es = edits_left k c.in-Some.found.behind in
    let own = flat_map (line_text side) (line_on side (edit_at c.text-text.result.now edit)) in
    let next = behind (edit_at text edit) in
    let more = flat_map (line_text side) (front side next es) in
    let cut : flat_map (line_text side) (front side c.loop-found.gap (edits_left k c.loop-found.at)) ≡ own ++ more =
    ap (flat_map (line_text side)) (front-cut side c.loop-found.gap (edits_left k c.loop-found.at) (edit_at text edit) es next f.found.left f.here refl)
    ∙ flat_map-append (line_text side) (line_on side (edit_at text edit)) (front side next es)
    ∙ ap (λ (t : List ℕ). flat_map (line_text side) (line_on side (edit_at t edit)) ++ more) (sym c.text-text.ensures) in
    rw p.1 (written-stop g.met.O.Sink.rest_both c.loop-found.invariant.written own more cut c.in_err-put_if.field-0.0 p.0 c.in_err-put_if.ensures)

pub returns : goal.returns
returns g c =
    written-all _ c.loop-found.invariant.written (ap (flat_map (line_text c.args.side)) (front-stop c.args.side c.loop-found.gap (edits_left c.args.kept c.loop-found.at) c.in_default.ensures))

pub edit_in-requires : goal.edit_in-requires
edit_in-requires g c = c.requires.kept
