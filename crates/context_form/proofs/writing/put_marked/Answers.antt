use Rattle.std.proofs.Common.{◌≡◌, ◌-◌, ◌∷◌, List, ℕ, subst, sym, arith, slice_range, ap, ◌∙◌}
use Rattle.std.proofs.lemmas.Result.{err_from_is_err_and}
use Rattle.hunk_core.specs.PlainHunk.{bytes_at}
use Rattle.outside.specs.Puts.{Puts}
use Rattle.outside.proofs.SinkSteps.{has-put, puts-more, puts-stop}
use Rattle.context_form.proofs.SliceLemmas.{with-two}
use Rattle.context_form.proofs.writing.put_marked.Goals as goal

pub returns-then-stands_before : goal.returns-then-stands_before
returns-then-stands_before g c =
    let s = c.stands_before.ensures c.if-stands_before.true in
    let text = c.args.text.now in
    let from = c.args.span.start in
    let end = c.args.span.end in
    let before : from - 2 ≡ s.0 = omega (arith, s.1) in
    let e : slice_range text (from - 2) end ≡ c.args.byte ∷ 32 ∷ slice_range text from end =
    ap (λ n. slice_range text n end) before ∙ with-two text s.0 end c.args.byte 32 (omega (arith, s.1, c.requires.0)) c.requires.1 s.2 s.3 ∙ ap (λ n. c.args.byte ∷ 32 ∷ slice_range text n end) (sym s.1) in
    let puts : Puts g.O.Sink.view g.O.Sink.same_rest c.args.out.now c.put_all.new.out c.put_all.result (slice_range text (from - 2) end) =
    record { call = c.put_all.ensures.call; rest = c.put_all.ensures.rest; received = c.put_all.ensures.received; failed = c.put_all.ensures.failed } in
    subst (λ (bs : List ℕ). Puts g.O.Sink.view g.O.Sink.same_rest c.args.out.now c.put_all.new.out c.put_all.result bs) e puts

pub returns-in_err-put_all : goal.returns-in_err-put_all
returns-in_err-put_all g c =
    let p = err_from_is_err_and c.from_residual.result c.from_residual.ensures.1 in
    let ens = c.in_err-put_all.ensures in
    rw p.1 (puts-stop c.in_err-put_all.field-0.0 p.0 (bytes_at c.args.text.now c.args.span) (record { call = ens.call; rest = ens.rest; received = ens.received; failed = ens.failed }))

pub returns : goal.returns
returns g c =
    let ens = c.in_ok-put_all.ensures in
    puts-more g.met.O.Sink.rest_both
    (has-put c.in_ok-put_all.field-0 (record { call = ens.call; rest = ens.rest; received = ens.received; failed = ens.failed }))
    (record { call = c.put_all-3.ensures.call; rest = c.put_all-3.ensures.rest; received = c.put_all-3.ensures.received; failed = c.put_all-3.ensures.failed })

pub overflow_sub-start : goal.overflow_sub-start
overflow_sub-start g c = let s = c.stands_before.ensures c.if-stands_before.true in omega (arith, s.1)
