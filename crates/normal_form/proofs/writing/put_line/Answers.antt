use Rattle.std.proofs.Common.{◌≡◌, ◌∷◌, ◌++◌, [], List, ℕ, Bool, cond, true, false, subst, sym, ap, ◌∙◌}
use Rattle.std.proofs.lemmas.Result.{err_from_is_err_and}
use Rattle.std.proofs.lemmas.List.{append-nil}
use Rattle.hunk_core.specs.PlainHunk.{bytes_at}
use Rattle.hunk_core.specs.LineTests.{ends_line}
use Rattle.outside.specs.Puts.{Puts}
use Rattle.hunk_core.specs.Writing.{no_newline}
use Rattle.outside.proofs.SinkSteps.{HasPut, has-put, has-more, puts-more, puts-stop, puts-done}
use Rattle.normal_form.specs.Stretches.{marks}
use Rattle.normal_form.specs.Canonical.{line_text}
use Rattle.normal_form.proofs.writing.put_line.Goals as goal

pub returns-in_err-put_all : goal.returns-in_err-put_all
returns-in_err-put_all g c =
    let p = err_from_is_err_and c.from_residual.result c.from_residual.ensures.1 in
    let ens = c.in_err-put_all.ensures in
    rw (p.1, ← c.marks_of.ensures) (puts-stop c.in_err-put_all.field-0.0 p.0 _ (record { call = ens.call; rest = ens.rest; received = ens.received; failed = ens.failed }))

pub returns-in_err-put_all-2 : goal.returns-in_err-put_all-2
returns-in_err-put_all-2 g c =
    let p = err_from_is_err_and c.from_residual-in_err-put_all-2.result c.from_residual-in_err-put_all-2.ensures.1 in
    let first = c.in_ok-put_all.ensures in
    let ens = c.in_err-put_all-2.ensures in
    rw (p.1, ← c.marks_of.ensures) (puts-more g.met.O.Sink.rest_both
    (has-put c.in_ok-put_all.field-0 (record { call = first.call; rest = first.rest; received = first.received; failed = first.failed }))
    (puts-stop c.in_err-put_all-2.field-0.0 p.0 _ (record { call = ens.call; rest = ens.rest; received = ens.received; failed = ens.failed })))

pub returns-then-has_feed : goal.returns-then-has_feed
returns-then-has_feed g c =
    let first = c.in_ok-put_all.ensures in
    let ens = c.in_ok-put_all-2.ensures in
    let line = bytes_at c.args.text.now c.args.span in
    let ends : ends_line line ≡ true = sym c.has_feed.ensures ∙ c.if-has_feed.true in
    let e : marks c.args.side ++ line ≡ line_text c.args.side line = ap (λ bs. marks c.args.side ++ bs) (sym (append-nil line) ∙ ap (λ (b : Bool). line ++ cond b [] (10 ∷ no_newline)) (sym ends)) in
    puts-done _ (subst (λ (bs : List ℕ). HasPut g.O.Sink.view g.O.Sink.same_rest c.args.out.now c.put_all-2.new.out bs) e (rw (← c.marks_of.ensures) (has-more g.met.O.Sink.rest_both
    (has-put c.in_ok-put_all.field-0 (record { call = first.call; rest = first.rest; received = first.received; failed = first.failed }))
    (has-put c.in_ok-put_all-2.field-0 (record { call = ens.call; rest = ens.rest; received = ens.received; failed = ens.failed })))))

pub returns : goal.returns
returns g c =
    let first = c.in_ok-put_all.ensures in
    let ens = c.in_ok-put_all-2.ensures in
    let last = c.put_all-3.ensures in
    let line = bytes_at c.args.text.now c.args.span in
    let bare : ends_line line ≡ false = sym c.has_feed.ensures ∙ c.if-has_feed.false in
    let e : marks c.args.side ++ (line ++ 10 ∷ no_newline) ≡ line_text c.args.side line = ap (λ (b : Bool). marks c.args.side ++ (line ++ cond b [] (10 ∷ no_newline))) (sym bare) in
    subst (λ (bs : List ℕ). Puts g.O.Sink.view g.O.Sink.same_rest c.args.out.now c.put_all-3.new.out c.put_all-3.result bs) e (rw (← c.marks_of.ensures) (puts-more g.met.O.Sink.rest_both
    (has-put c.in_ok-put_all.field-0 (record { call = first.call; rest = first.rest; received = first.received; failed = first.failed }))
    (puts-more {b = 10 ∷ no_newline} g.met.O.Sink.rest_both
    (has-put c.in_ok-put_all-2.field-0 (record { call = ens.call; rest = ens.rest; received = ens.received; failed = ens.failed }))
    (record { call = last.call; rest = last.rest; received = last.received; failed = last.failed }))))
