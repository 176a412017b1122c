use Rattle.std.proofs.Common.{◌++◌, ℕ, List, [], cond, length, sym, ap, subst, ◌∙◌, refl, arith}
use Rattle.std.specs.Prelude.{nat_lt}
use Rattle.std.proofs.lemmas.Result.{err_from_is_err_and}
use Rattle.hunk_core.specs.declared.Side.TheVariants.{Reversed}
use Rattle.hunk_core.specs.PlainHunk.{bytes_at}
use Rattle.hunk_core.specs.Turned.{LiesIn}
use Rattle.format_convert.specs.Blocks.{behind}
use Rattle.format_convert.specs.Commands.{ed_line, ed_lines}
use Rattle.format_convert.specs.Fronts.{front}
use Rattle.format_convert.specs.Walk.{IsFoundIn, edit_at, edits_left}
use Rattle.format_convert.proofs.EdLemmas.{Cut, cut-at, lines-none, one-left}
use Rattle.format_convert.proofs.FrontLemmas.{behind-near, front-cut, front-stop}
use Rattle.format_convert.proofs.Parts.{written-all, written-more, written-none, written-stop}
use Rattle.format_convert.proofs.ed.put_added.Goals as goal

pub loop-found-init : goal.loop-found-init
loop-found-init g c = record { written = written-none g.met.O.Sink.rest_none c.args.out.now _; left = c.requires.block.adds; near = omega (arith, c.requires.block.near) }

pub left_behind-left-requires : goal.left_behind-left-requires
left_behind-left-requires g c = λ adds.
    let f : IsFoundIn c.args.kept c.loop-found.at c.loop-found.gap c.in-Some.found = c.in-Some.ensures in
    let e = edit_at c.args.kept.set.now.text c.in-Some.found.edit in
    one-left e.adds e.line _ (front Reversed (behind e) (edits_left c.args.kept c.in-Some.found.behind)) c.loop-found.left
    (front-cut Reversed c.loop-found.gap (edits_left c.args.kept c.loop-found.at) e (edits_left c.args.kept c.in-Some.found.behind) (behind e) f.found.left f.here refl) c.loop-found.invariant.left adds

pub put_if_added-requires : goal.put_if_added-requires
put_if_added-requires g c =
    let f : IsFoundIn c.args.kept c.loop-found.at c.loop-found.gap c.in-Some.found = c.in-Some.ensures in
    subst (λ (t : List ℕ). LiesIn t c.in-Some.found.edit.span) (sym c.text-text.ensures) f.found.lies.lies

pub gap_behind-gap-requires : goal.gap_behind-gap-requires
gap_behind-gap-requires g c =
    let f : IsFoundIn c.args.kept c.loop-found.at c.loop-found.gap c.in-Some.found = c.in-Some.ensures in
    f.found.lies.near

pub loop-found-smaller : goal.loop-found-smaller
loop-found-smaller g c =
    let f : IsFoundIn c.args.kept c.loop-found.at c.loop-found.gap c.in-Some.found = c.in-Some.ensures in
    omega (arith, ap length f.found.left)

pub loop-found-preserved : goal.loop-found-preserved
loop-found-preserved g c =
    let f : IsFoundIn c.args.kept c.loop-found.at c.loop-found.gap c.in-Some.found = c.in-Some.ensures in
    let k = c.args.kept in
    let text = c.args.kept.set.now.text in
    let edit = c.in-Some.found.edit in
    let es = edits_left k c.in-Some.found.behind in
    let more = front Reversed c.gap_behind-gap.result es in
    let all = front Reversed c.loop-found.gap (edits_left k c.loop-found.at) in
    let e : Cut c.in-Some.found.edit.adds (bytes_at text edit.span) all more c.left_behind-left.result =
    cut-at edit.adds (bytes_at text edit.span) all more c.loop-found.left c.left_behind-left.result
    (front-cut Reversed c.loop-found.gap (edits_left k c.loop-found.at) (edit_at text edit) es c.gap_behind-gap.result f.found.left f.here (c.gap_behind-gap.ensures text))
    c.loop-found.invariant.left c.left_behind-left.ensures in
    let own = cond edit.adds (ed_line (bytes_at c.text-text.result.now edit.span) (nat_lt 0 c.left_behind-left.result)) [] in
    record {
      written = written-more g.met.O.Sink.rest_both c.loop-found.invariant.written own (ed_lines more)
          (e.text ∙ ap (λ (t : List ℕ). cond edit.adds (ed_line (bytes_at t edit.span) (nat_lt 0 c.left_behind-left.result)) [] ++ ed_lines more) (sym c.text-text.ensures))
          c.in_ok-put_if_added.field-0 c.in_ok-put_if_added.ensures;
      left = e.left;
      near = omega (arith, f.found.lies.near, c.gap_behind-gap.ensures text, behind-near (edit_at text edit));
    }

pub returns-in_err-put_if_added : goal.returns-in_err-put_if_added
returns-in_err-put_if_added g c =
    let p = err_from_is_err_and c.from_residual.result c.from_residual.ensures.1 in
    let f : IsFoundIn c.args.kept c.loop-found.at c.loop-found.gap c.in-Some.found = c.in-Some.ensures in
    let k = c.args.kept in
    let text = c.args.kept.set.now.text in
    let edit = c.in-Some.found.edit in
    let es = edits_left k c.in-Some.found.behind in
    let next = behind (edit_at text edit) in
    let more = front Reversed next es in
    let all = front Reversed c.loop-found.gap (edits_left k c.loop-found.at) in
    let e : Cut c.in-Some.found.edit.adds (bytes_at text edit.span) all more c.left_behind-left.result =
    cut-at edit.adds (bytes_at text edit.span) all more c.loop-found.left c.left_behind-left.result
    (front-cut Reversed c.loop-found.gap (edits_left k c.loop-found.at) (edit_at text edit) es next f.found.left f.here refl)
    c.loop-found.invariant.left c.left_behind-left.ensures in
    let own = cond edit.adds (ed_line (bytes_at c.text-text.result.now edit.span) (nat_lt 0 c.left_behind-left.result)) [] in
    rw p.1 (written-stop g.met.O.Sink.rest_both c.loop-found.invariant.written own (ed_lines more)
    (e.text ∙ ap (λ (t : List ℕ). cond edit.adds (ed_line (bytes_at t edit.span) (nat_lt 0 c.left_behind-left.result)) [] ++ ed_lines more) (sym c.text-text.ensures))
    c.in_err-put_if_added.field-0.0 p.0 c.in_err-put_if_added.ensures)

pub returns : goal.returns
returns g c =
    written-all _ c.loop-found.invariant.written (ap ed_lines (front-stop Reversed c.loop-found.gap (edits_left c.args.kept c.loop-found.at) c.in_default.ensures) ∙ lines-none)

pub edit_in-requires : goal.edit_in-requires
edit_in-requires g c = c.requires.kept
