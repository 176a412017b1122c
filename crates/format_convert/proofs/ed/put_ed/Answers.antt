use Rattle.std.proofs.Common.{◌≡◌, ◌+◌, ◌-◌, ◌<◌, ◌++◌, ℕ, List, drop, take, length, sym, ap, subst, ◌∙◌, arith}
use Rattle.std.proofs.lemmas.List.{take-append-drop}
use Rattle.std.proofs.lemmas.Grind.{flat_map-append}
use Rattle.std.proofs.lemmas.Result.{err_from_is_err_and}
use Rattle.outside.specs.Puts.{Puts}
use Rattle.outside.proofs.SinkSteps.{HasPut, has-more, has-none, has-put, puts-more, puts-stop}
use Rattle.format_convert.specs.Backward.{first_text, grown, text_behind, StandsBehind}
use Rattle.format_convert.specs.Blocks.{Edit, blocks_of, hunk_edits}
use Rattle.format_convert.specs.Commands.{ed_text}
use Rattle.format_convert.specs.Walk.{edits_if, edits_left, edits_of, left_hunks, pair_left, pairs}
use Rattle.format_convert.proofs.EdLemmas.{grown-is, text-ends, text-rest}
use Rattle.format_convert.proofs.FrontLemmas.{blocks-none}
use Rattle.format_convert.proofs.Steps.{edits-are, is-there, none-whole, whole-is}
use Rattle.format_convert.proofs.Bounds.{down-up, falls, some-left, under-end}
use Rattle.format_convert.proofs.ed.put_ed.Goals as goal

pub loop-hunk-init : goal.loop-hunk-init
loop-hunk-init g c =
    let k = c.args.kept in
    let none = ap (λ (es : List Edit). text_behind (blocks_of es)) (none-whole k c.requires (length k.hunks.now) (omega arith)) ∙ ap text_behind blocks-none in
    record {
      put = subst (λ (bs : List ℕ). HasPut g.O.Sink.view g.O.Sink.same_rest c.args.out.now c.args.out.now bs) (sym none) (has-none g.met.O.Sink.rest_none c.args.out.now);
      stands = c.hunk_start-front.ensures.left;
    }

pub loop-hunk-preserved : goal.loop-hunk-preserved
loop-hunk-preserved g c =
    let k = c.args.kept in
    let text = c.args.kept.set.now.text in
    let i = c.loop-hunk.hunk - 1 in
    let at : c.loop-hunk.hunk ≡ c.loop-hunk.hunk - 1 + 1 = omega (arith, c.loop-hunk-test.true) in
    let lt : c.loop-hunk.hunk - 1 < length c.args.kept.hunks.now = omega (arith, c.loop-hunk-test.true, c.loop-hunk.auto.hunk) in
    let h = is-there k.hunks.now i lt in
    let left = edits_of text (drop (i + 1) (pairs k)) in
    let whole = ap (λ (es : List Edit). text_behind (blocks_of es)) (whole-is k c.requires i h.0 lt h.1) ∙ grown-is (pair_left k i) left in
    let before = subst (λ (m : ℕ). HasPut g.O.Sink.view g.O.Sink.same_rest c.args.out.now c.loop-hunk.out (text_behind (blocks_of (edits_of text (drop m (pairs k)))))) at c.loop-hunk.invariant.put in
    record {
      put = subst (λ (bs : List ℕ). HasPut g.O.Sink.view g.O.Sink.same_rest c.args.out.now c.put_if_kept.new.out bs) (sym whole) (has-more g.met.O.Sink.rest_both before (has-put c.in_ok-front.front c.in_ok-front.ensures.put));
      stands = c.in_ok-front.ensures.place;
    }

pub returns-in_err-front : goal.returns-in_err-front
returns-in_err-front g c =
    let p = err_from_is_err_and c.from_residual.result c.from_residual.ensures.1 in
    let k = c.args.kept in
    let text = c.args.kept.set.now.text in
    let i = c.loop-hunk.hunk - 1 in
    let at : c.loop-hunk.hunk ≡ c.loop-hunk.hunk - 1 + 1 = omega (arith, c.loop-hunk-test.true) in
    let lt : c.loop-hunk.hunk - 1 < length c.args.kept.hunks.now = omega (arith, c.loop-hunk-test.true, c.loop-hunk.auto.hunk) in
    let h = is-there k.hunks.now i lt in
    let left = edits_of text (drop (i + 1) (pairs k)) in
    let es = edits_of text (take i (pairs k)) in
    let fs = edits_of text (drop i (pairs k)) in
    let all : hunk_edits (left_hunks k) ≡ es ++ fs = edits-are k ∙ ap (edits_of text) (sym (take-append-drop i (pairs k))) ∙ flat_map-append (edits_if text) (take i (pairs k)) (drop i (pairs k)) in
    let more = grown es fs ++ first_text (blocks_of (es ++ fs)) in
    let whole = ap (λ (xs : List Edit). text_behind (blocks_of xs)) (whole-is k c.requires i h.0 lt h.1) ∙ grown-is (pair_left k i) left in
    let before = subst (λ (m : ℕ). HasPut g.O.Sink.view g.O.Sink.same_rest c.args.out.now c.loop-hunk.out (text_behind (blocks_of (edits_of text (drop m (pairs k)))))) at c.loop-hunk.invariant.put in
    rw (p.1, ap (λ (xs : List Edit). ed_text (blocks_of xs)) all ∙ text-rest es fs ∙ ap (λ (t : List ℕ). t ++ more) whole)
    (puts-stop c.in_err-front.field-0.0 p.0 more (puts-more g.met.O.Sink.rest_both before c.in_err-front.ensures.put))

pub returns : goal.returns
returns g c =
    let k = c.args.kept in
    let text = c.args.kept.set.now.text in
    let zero : c.loop-hunk.hunk ≡ 0 = omega (arith, c.loop-hunk-test.false) in
    let here : edits_left c.args.kept c.loop-hunk.front ≡ edits_of c.args.kept.set.now.text (pairs c.args.kept) = c.loop-hunk.invariant.stands ∙ ap (λ (m : ℕ). edits_of text (drop m (pairs k))) zero in
    let before = subst (λ (m : ℕ). HasPut g.O.Sink.view g.O.Sink.same_rest c.args.out.now c.loop-hunk.out (text_behind (blocks_of (edits_of text (drop m (pairs k)))))) zero c.loop-hunk.invariant.put in
    let last = subst (λ (es : List Edit). Puts g.O.Sink.view g.O.Sink.same_rest c.loop-hunk.out c.put_next.new.out c.put_next.result (first_text (blocks_of es))) here c.put_next.ensures in
    rw (ap (λ (es : List Edit). ed_text (blocks_of es)) (edits-are k) ∙ sym (text-ends (blocks_of (edits_of text (pairs k)))))
    (puts-more g.met.O.Sink.rest_both before last)

pub put_if_kept-requires-clause-front : goal.put_if_kept-requires-clause-front
put_if_kept-requires-clause-front g c = subst (λ (n : ℕ). StandsBehind c.args.kept n c.loop-hunk.front) (down-up c.loop-hunk.hunk c.loop-hunk-test.true) c.loop-hunk.invariant.stands

pub put_if_kept-requires-clause-within : goal.put_if_kept-requires-clause-within
put_if_kept-requires-clause-within g c = under-end c.loop-hunk.hunk _ c.loop-hunk-test.true c.loop-hunk.auto.hunk

pub loop-hunk-smaller : goal.loop-hunk-smaller
loop-hunk-smaller g c = falls c.loop-hunk.hunk 0 c.loop-hunk-test.true

pub put_if_kept-requires-clause-kept : goal.put_if_kept-requires-clause-kept
put_if_kept-requires-clause-kept g c = c.requires

pub overflow_step-hunk : goal.overflow_step-hunk
overflow_step-hunk g c = some-left c.loop-hunk.hunk 0 c.loop-hunk-test.true
