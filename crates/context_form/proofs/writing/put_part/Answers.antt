use Rattle.std.proofs.Common.{◌≡◌, ◌<◌, ◌≤◌, ◌+◌, ◌++◌, [], List, ℕ, drop, length, subst, sym, ap, ◌∙◌, append_assoc, arith, rules}
use Rattle.std.proofs.lemmas.Result.{err_from_is_err_and}
use Rattle.std.proofs.lemmas.List.{drop_all, append-nil}
use Rattle.hunk_core.specs.PlainHunk.{body_of}
use Rattle.hunk_core.specs.Turned.{LiesIn}
use Rattle.outside.proofs.SinkSteps.{HasPut, has-none, has-put, has-more, puts-more, puts-stop, puts-done}
use Rattle.context_form.specs.Canonical.{mixed, mixed_behind, part_text}
use Rattle.context_form.proofs.MixedLemmas.{taken_body, piece_of, mixed-taken, part-step, part-nil}
use Rattle.context_form.proofs.writing.put_part.Goals as goal

pub loop-i-init : goal.loop-i-init
loop-i-init g c =
    let body = body_of c.args.text.now c.args.hunk.now.body.items in
    record {
      done = [];
      put = has-none g.met.O.Sink.rest_none c.args.out.now;
      whole = ap (λ b. part_text c.args.part b (taken_body c.args.text.now c.args.side c.args.hunk.now.body.items)) (c.is_mixed-changed.ensures c.args.text.now ∙ sym (mixed-taken c.args.side body));
    }

pub returns-in_err-put_if : goal.returns-in_err-put_if
returns-in_err-put_if g c =
    let p = err_from_is_err_and c.from_residual.result c.from_residual.ensures.1 in
    let items = c.args.hunk.now.body.items in
    let lt : c.loop-i.i < length items = search rules in
    let piece = piece_of c.args.text.now c.args.side c.args.part c.loop-i.changed c.index-line.result.now in
    let rest = part_text c.args.part (mixed_behind c.loop-i.changed c.index-line.result.now.mark (body_of c.args.text.now (drop (c.loop-i.i + 1) items))) (taken_body c.args.text.now c.args.side (drop (c.loop-i.i + 1) items)) in
    let e : (c.loop-i.invariant.done ++ piece) ++ rest ≡ part_text c.args.part (mixed (taken_body c.args.text.now c.args.side items)) (taken_body c.args.text.now c.args.side items) = append_assoc c.loop-i.invariant.done piece rest ∙ ap (λ bs. c.loop-i.invariant.done ++ bs) (sym (part-step c.args.text.now c.args.side c.args.part c.loop-i.changed items c.loop-i.i c.index-line.result.now lt c.index-line.ensures)) ∙ c.loop-i.invariant.whole in
    rw (p.1, ← e) (puts-stop c.in_err-put_if.field-0.0 p.0 rest (puts-more g.met.O.Sink.rest_both c.loop-i.invariant.put c.in_err-put_if.ensures))

pub loop-i-preserved : goal.loop-i-preserved
loop-i-preserved g c =
    let items = c.args.hunk.now.body.items in
    let lt : c.loop-i.i < length items = search rules in
    let piece = piece_of c.args.text.now c.args.side c.args.part c.loop-i.changed c.index-line.result.now in
    let rest = part_text c.args.part (mixed_behind c.loop-i.changed c.index-line.result.now.mark (body_of c.args.text.now (drop (c.loop-i.i + 1) items))) (taken_body c.args.text.now c.args.side (drop (c.loop-i.i + 1) items)) in
    let e : (c.loop-i.invariant.done ++ piece) ++ rest ≡ part_text c.args.part (mixed (taken_body c.args.text.now c.args.side items)) (taken_body c.args.text.now c.args.side items) = append_assoc c.loop-i.invariant.done piece rest ∙ ap (λ bs. c.loop-i.invariant.done ++ bs) (sym (part-step c.args.text.now c.args.side c.args.part c.loop-i.changed items c.loop-i.i c.index-line.result.now lt c.index-line.ensures)) ∙ c.loop-i.invariant.whole in
    record {
      done = c.loop-i.invariant.done ++ piece;
      put = has-more g.met.O.Sink.rest_both c.loop-i.invariant.put (has-put c.in_ok-put_if.field-0 c.in_ok-put_if.ensures);
      whole = ap (λ b. (c.loop-i.invariant.done ++ piece) ++ part_text c.args.part b (taken_body c.args.text.now c.args.side (drop (c.loop-i.i + 1) items))) (c.is_mixed_behind-changed.ensures c.args.text.now) ∙ e;
    }

pub put_if-requires : goal.put_if-requires
put_if-requires g c = subst (λ l. LiesIn c.args.text.now l.span) (sym c.index-line.ensures) (c.requires.within c.loop-i.i c.index-line.result.now (omega (arith, c.loop-i-test.true, c.len-i-end.ensures, c.args.hunk.now.body.ok.0)))

pub returns : goal.returns
returns g c =
    let items = c.args.hunk.now.body.items in
    let all : length items ≤ c.loop-i.i = search rules in
    let none : part_text c.args.part c.loop-i.changed (taken_body c.args.text.now c.args.side (drop c.loop-i.i items)) ≡ [] = ap (λ xs. part_text c.args.part c.loop-i.changed (taken_body c.args.text.now c.args.side xs)) (drop_all c.loop-i.i items all) ∙ part-nil c.args.part c.loop-i.changed in
    let e : c.loop-i.invariant.done ≡ part_text c.args.part (mixed (taken_body c.args.text.now c.args.side items)) (taken_body c.args.text.now c.args.side items) = sym (append-nil c.loop-i.invariant.done) ∙ ap (λ bs. c.loop-i.invariant.done ++ bs) (sym none) ∙ c.loop-i.invariant.whole in
    puts-done _ (subst (λ (bs : List ℕ). HasPut g.O.Sink.view g.O.Sink.same_rest c.args.out.now c.loop-i.out bs) e c.loop-i.invariant.put)
