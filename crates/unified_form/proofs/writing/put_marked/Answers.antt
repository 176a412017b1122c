use Rattle.std.proofs.Common.{◌≡◌, ◌-◌, ◌∷◌, List, ℕ, subst, sym, arith, slice_range, ap, ◌∙◌}
use Rattle.std.proofs.lemmas.Result.{err_from_is_err_and}
use Rattle.hunk_core.specs.PlainHunk.{bytes_at}
use Rattle.outside.specs.Puts.{Puts}
use Rattle.outside.proofs.SinkSteps.{has-put, puts-more, puts-stop}
use Rattle.unified_form.proofs.WritingLemmas.{with-byte}
use Rattle.unified_form.proofs.writing.put_marked.Goals as goal

pub returns-then-stands_before : goal.returns-then-stands_before
returns-then-stands_before g c =
    let s = c.stands_before.ensures c.if-stands_before.true in
    let text = c.args.text.now in
    let from = c.args.line.span.start in
    let end = c.args.line.span.end in
    let before : from - 1 ≡ s.0 = omega (arith, s.1) in
    let e : slice_range text (from - 1) end ≡ c.byte_of-byte.result ∷ slice_range text from end =
    ap (λ n. slice_range text n end) before ∙ with-byte text s.0 end c.byte_of-byte.result (omega (arith, s.1, c.requires.0)) c.requires.1 s.2 ∙ ap (λ n. c.byte_of-byte.result ∷ slice_range text n end) (sym s.1) in
    let puts : Puts g.O.Sink.view g.O.Sink.same_rest c.args.out.now c.put_all.new.out c.put_all.result (slice_range text (from - 1) end) =
    record { call = c.put_all.ensures.call; rest = c.put_all.ensures.rest; received = c.put_all.ensures.received; failed = c.put_all.ensures.failed } in
    rw (← c.byte_of-byte.ensures) (subst (λ (bs : List ℕ). Puts g.O.Sink.view g.O.Sink.same_rest c.args.out.now c.put_all.new.out c.put_all.result bs) e puts)

pub returns-in_err-put_all : goal.returns-in_err-put_all
returns-in_err-put_all g c =
    let p = err_from_is_err_and c.from_residual.result c.from_residual.ensures.1 in
    let ens = c.in_err-put_all.ensures in
    rw (p.1, ← c.byte_of-byte.ensures) (puts-stop c.in_err-put_all.field-0.0 p.0 (bytes_at c.args.text.now c.args.line.span) (record { call = ens.call; rest = ens.rest; received = ens.received; failed = ens.failed }))

pub returns : goal.returns
returns g c =
    let ens = c.in_ok-put_all.ensures in
    rw (← c.byte_of-byte.ensures) (puts-more g.met.O.Sink.rest_both
    (has-put c.in_ok-put_all.field-0 (record { call = ens.call; rest = ens.rest; received = ens.received; failed = ens.failed }))
    (record { call = c.put_all-3.ensures.call; rest = c.put_all-3.ensures.rest; received = c.put_all-3.ensures.received; failed = c.put_all-3.ensures.failed }))

pub overflow_sub-start : goal.overflow_sub-start
overflow_sub-start g c = omega (arith, (c.stands_before.ensures c.if-stands_before.true).1)

pub slice_bounds-put_all-end-3 : goal.slice_bounds-put_all-end-3
slice_bounds-put_all-end-3 g c = c.requires.1

pub slice_bounds-put_all-count-2 : goal.slice_bounds-put_all-count-2
slice_bounds-put_all-count-2 g c = c.requires.0

pub slice_bounds-put_all-start-2 : goal.slice_bounds-put_all-start-2
slice_bounds-put_all-start-2 g c = omega (arith, c.requires.0, c.requires.1)

pub slice_bounds-put_all-end : goal.slice_bounds-put_all-end
slice_bounds-put_all-end g c = c.requires.1

pub slice_bounds-put_all-count : goal.slice_bounds-put_all-count
slice_bounds-put_all-count g c = omega (arith, c.requires.0)

pub slice_bounds-put_all-start : goal.slice_bounds-put_all-start
slice_bounds-put_all-start g c = omega (arith, c.requires.0, c.requires.1)
