use Rattle.std.proofs.Common.{◌≡◌, ◌+◌, ◌-◌, ◌<◌, ◌++◌, ℕ, List, [], Err, drop, take, length, sym, ap, subst, ◌∙◌, arith}
use Rattle.std.proofs.lemmas.List.{drop_all, take_all}
use Rattle.std.proofs.lemmas.Result.{err_from_is_err_and}
use Rattle.hunk_core.specs.declared.Hunk.{Hunk}
use Rattle.hunk_core.specs.declared.Side.TheVariants.{Forward}
use Rattle.hunk_core.specs.PlainHunk.{body_of, bytes_at, hunk_of}
use Rattle.hunk_core.specs.Sides.{is_on_side, taken_count}
use Rattle.hunk_core.specs.Turned.{base}
use Rattle.outside.specs.Puts.{Puts}
use Rattle.outside.proofs.SinkSteps.{HasPut, has-more, has-none, has-put, puts-done, puts-more, puts-stop}
use Rattle.hunk_core.proofs.TurnedLemmas.{turned-base}
use Rattle.format_convert.specs.Backward.{closing_if, grown}
use Rattle.format_convert.specs.Blocks.{Edit, body_edits}
use Rattle.format_convert.specs.Walk.{edits_of, pairs}
use Rattle.format_convert.specs.declared.place.EditCursor.{EditCursor}
use Rattle.format_convert.proofs.EdLemmas.{ahead, count-next, front-is, grown-more, grown-none, grown-rest, one-more, one-on, Back, back}
use Rattle.format_convert.proofs.Steps.{edits-none, hunk-ahead}
use Rattle.std.specs.Prelude.{vec_len}
use Rattle.format_convert.proofs.Bounds.{body-short, falls, le-same, line-place, some-left, taken-few, word-fits, body-long, down-up, from-end, lt-le, over-end, under-end, whole-next}
use Rattle.format_convert.proofs.ed.put_body.Goals as goal

pub loop-line-init : goal.loop-line-init
loop-line-init g c =
    let k = c.args.kept in
    let text = c.args.kept.set.now.text in
    let items = c.args.own.now.body.items in
    let left = edits_of text (drop (c.args.hunk + 1) (pairs k)) in
    let end : c.len-line.result ≡ length c.args.own.now.body.items = c.len-line.ensures ∙ body-long c.args.own.now in
    let next = c.base.result + c.from.result in
    let none : body_edits (c.base.result + c.from.result) (body_of text (drop c.len-line.result items)) ≡ [] =
    ap (λ ls. body_edits next (body_of text ls)) (drop_all c.len-line.result items (over-end _ _ end)) ∙ edits-none next in
    record {
      next = whole-next c.base.result c.from.result (base (hunk_of text c.args.own.now)) (taken_count Forward items) _ (c.base.ensures.is ∙ sym (turned-base text Forward c.args.own.now)) (c.from.ensures ∙ c.count.ensures) (ap (λ ls. taken_count Forward ls) (take_all c.len-line.result items (over-end _ _ end)));
      front = c.requires.front ∙ ap (λ es. es ++ left) (sym none);
      put = subst (λ (bs : List ℕ). HasPut g.O.Sink.view g.O.Sink.same_rest c.args.out.now c.args.out.now bs) (sym (ap (λ es. grown es left) none ∙ grown-none left)) (has-none g.met.O.Sink.rest_none c.args.out.now);
      within = le-same _ _ end;
    }

pub next_before-requires : goal.next_before-requires
next_before-requires g c = λ on-is.
    let items = c.args.own.now.body.items in
    let l = c.index.result.now in
    let i = c.loop-line.line - 1 in
    let own = base (hunk_of c.args.kept.set.now.text c.args.own.now) in
    let lt : c.loop-line.line - 1 < length c.args.own.now.body.items = under-end c.loop-line.line _ c.loop-line-test.true c.loop-line.invariant.within in
    one-on (is_on_side Forward l.mark) c.loop-line.next (own + taken_count Forward (take i items))
    (from-end c.loop-line.next own _ (taken_count Forward (take i items)) _ c.loop-line.invariant.next (count-next items c.loop-line.line i l (down-up c.loop-line.line c.loop-line-test.true) lt c.index.ensures)) on-is

pub loop-line-preserved : goal.loop-line-preserved
loop-line-preserved g c =
    let k = c.args.kept in
    let text = c.args.kept.set.now.text in
    let own = c.args.own.now in
    let items = c.args.own.now.body.items in
    let left = edits_of text (drop (c.args.hunk + 1) (pairs k)) in
    let l = c.index.result.now in
    let n = c.loop-line.line in
    let i = c.loop-line.line - 1 in
    let q = c.next_before.result in
    let next = c.loop-line.next in
    let at = down-up c.loop-line.line c.loop-line-test.true in
    let lt : c.loop-line.line - 1 < length c.args.own.now.body.items = under-end c.loop-line.line _ c.loop-line-test.true c.loop-line.invariant.within in
    let b : Back (base (hunk_of c.args.kept.set.now.text c.args.own.now)) c.args.own.now.body.items (c.loop-line.line - 1) c.index.result.now c.loop-line.next c.next_before.result =
    back (base (hunk_of text own)) items n i l next q at lt c.index.ensures c.loop-line.invariant.next c.next_before.ensures in
    let behind = ahead text items n i q next l left at lt c.index.ensures b.wide in
    let put = subst (λ (es : List Edit). HasPut g.O.Sink.view g.O.Sink.same_rest c.loop-line.out c.put_behind.new.out (closing_if l.mark next es)) c.loop-line.invariant.front (has-put c.in_ok-front.front c.in_ok-front.ensures.put) in
    record {
      next = b.stands;
      front = front-is k l.mark q (bytes_at text l.span) behind (body_edits q (body_of text (drop i items))) left c.loop-line.front _ c.in_ok-front.front c.in_ok-front.ensures.place (one-more text items n i q next l left at lt c.index.ensures b.wide) c.loop-line.invariant.front (hunk-ahead k c.requires.kept c.args.hunk own c.requires.within c.requires.own i q);
      put = subst (λ (bs : List ℕ). HasPut g.O.Sink.view g.O.Sink.same_rest c.args.out.now c.put_behind.new.out bs) (sym (grown-more text items n i q next l left at lt c.index.ensures b.wide))
          (has-more g.met.O.Sink.rest_both c.loop-line.invariant.put put);
      within = lt-le _ _ lt;
    }

pub returns-in_err-front-clause-put : goal.returns-in_err-front-clause-put
returns-in_err-front-clause-put g c =
    let p = err_from_is_err_and c.from_residual.result c.from_residual.ensures.1 in
    let k = c.args.kept in
    let text = c.args.kept.set.now.text in
    let items = c.args.own.now.body.items in
    let left = edits_of text (drop (c.args.hunk + 1) (pairs k)) in
    let l = c.index.result.now in
    let n = c.loop-line.line in
    let i = c.loop-line.line - 1 in
    let q = c.next_before.result in
    let next = c.loop-line.next in
    let own = base (hunk_of text c.args.own.now) in
    let at = down-up c.loop-line.line c.loop-line-test.true in
    let lt : c.loop-line.line - 1 < length c.args.own.now.body.items = under-end c.loop-line.line _ c.loop-line-test.true c.loop-line.invariant.within in
    let b : Back (base (hunk_of c.args.kept.set.now.text c.args.own.now)) c.args.own.now.body.items (c.loop-line.line - 1) c.index.result.now c.loop-line.next c.next_before.result =
    back own items n i l next q at lt c.index.ensures c.loop-line.invariant.next c.next_before.ensures in
    let more = grown (body_edits own (body_of text (take i items))) (body_edits q (body_of text (drop i items)) ++ left) in
    let whole = grown-rest text items i own q left b.stands ∙ ap (λ (t : List ℕ). t ++ more) (grown-more text items n i q next l left at lt c.index.ensures b.wide) in
    let put = subst (λ (es : List Edit). Puts {R = EditCursor} g.O.Sink.view g.O.Sink.same_rest c.loop-line.out c.put_behind.new.out (Err c.in_err-front.field-0.0) (closing_if l.mark next es)) c.loop-line.invariant.front c.in_err-front.ensures.put in
    rw (p.1, whole) (puts-stop c.in_err-front.field-0.0 p.0 more (puts-more g.met.O.Sink.rest_both c.loop-line.invariant.put put))

pub returns-clause-put : goal.returns-clause-put
returns-clause-put g c =
    let text = c.args.kept.set.now.text in
    let items = c.args.own.now.body.items in
    let left = edits_of text (drop (c.args.hunk + 1) (pairs c.args.kept)) in
    let zero : c.loop-line.line ≡ 0 = omega (arith, c.loop-line-test.false) in
    let stands : c.loop-line.next ≡ base (hunk_of c.args.kept.set.now.text c.args.own.now) = omega (arith, c.loop-line.invariant.next, ap (λ (k : ℕ). taken_count Forward (take k items)) zero) in
    puts-done _ (subst (λ (q : ℕ). HasPut g.O.Sink.view g.O.Sink.same_rest c.args.out.now c.loop-line.out (grown (body_edits q (body_of text items)) left)) stands
    (subst (λ (n : ℕ). HasPut g.O.Sink.view g.O.Sink.same_rest c.args.out.now c.loop-line.out (grown (body_edits c.loop-line.next (body_of text (drop n items))) left)) zero c.loop-line.invariant.put))

pub returns-clause-place : goal.returns-clause-place
returns-clause-place g c =
    let text = c.args.kept.set.now.text in
    let items = c.args.own.now.body.items in
    let left = edits_of text (drop (c.args.hunk + 1) (pairs c.args.kept)) in
    let zero : c.loop-line.line ≡ 0 = omega (arith, c.loop-line-test.false) in
    let stands : c.loop-line.next ≡ base (hunk_of c.args.kept.set.now.text c.args.own.now) = omega (arith, c.loop-line.invariant.next, ap (λ (k : ℕ). taken_count Forward (take k items)) zero) in
    c.loop-line.invariant.front
    ∙ ap (λ (n : ℕ). body_edits c.loop-line.next (body_of text (drop n items)) ++ left) zero
    ∙ ap (λ (q : ℕ). body_edits q (body_of text items) ++ left) stands

pub invariant_of-place : goal.invariant_of-place
invariant_of-place g c = record { near = line-place c.next_before.result c.loop-line.next _ c.base.result _ _ c.loop-line.line c.next_before.ensures c.loop-line.invariant.next (c.base.ensures.is ∙ sym (turned-base c.args.kept.set.now.text Forward c.args.own.now)) c.base.ensures.small (taken-few c.loop-line.line c.args.own.now.body.items) c.loop-line-test.true }

pub count-requires : goal.count-requires
count-requires g c = subst (λ (h : Hunk). vec_len h.body < 4294967296) (sym c.requires.own) (body-short c.args.kept c.requires.kept c.args.hunk c.args.own.now c.requires.within)

pub base-requires : goal.base-requires
base-requires g c = subst (λ (h : Hunk). vec_len h.body < 4294967296) (sym c.requires.own) (body-short c.args.kept c.requires.kept c.args.hunk c.args.own.now c.requires.within)

pub loop-line-smaller : goal.loop-line-smaller
loop-line-smaller g c = falls c.loop-line.line 0 c.loop-line-test.true

pub overflow_step-line : goal.overflow_step-line
overflow_step-line g c = some-left c.loop-line.line 0 c.loop-line-test.true

pub overflow_add-next : goal.overflow_add-next
overflow_add-next g c = word-fits c.base.result c.count.result c.from.result c.base.ensures.small c.count.type_inv c.from.ensures
