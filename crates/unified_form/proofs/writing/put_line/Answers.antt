use Rattle.std.proofs.Common.{◌≡◌, ◌∷◌, List, ℕ, true, false, subst, sym, ◌∙◌}
use Rattle.std.proofs.lemmas.Result.{err_from_is_err_and}
use Rattle.std.proofs.lemmas.List.{append-nil}
use Rattle.hunk_core.specs.PlainHunk.{Marked, marked_of}
use Rattle.hunk_core.specs.Turned.{taken_line}
use Rattle.outside.specs.Puts.{Puts}
use Rattle.hunk_core.specs.Writing.{no_newline}
use Rattle.outside.proofs.SinkSteps.{HasPut, has-put, puts-more, puts-stop, puts-done}
use Rattle.unified_form.specs.Grammar.{mark_byte}
use Rattle.unified_form.specs.Canonical.{line_text}
use Rattle.unified_form.proofs.WritingLemmas.{line-written}
use Rattle.unified_form.proofs.writing.put_line.Goals as goal

pub returns-in_err-put_marked : goal.returns-in_err-put_marked
returns-in_err-put_marked g c =
    let p = err_from_is_err_and c.from_residual.result c.from_residual.ensures.1 in
    rw p.1 (puts-stop c.in_err-put_marked.field-0.0 p.0 _ c.in_err-put_marked.ensures)

pub returns-then-has_feed : goal.returns-then-has_feed
returns-then-has_feed g c =
    let m : Marked = taken_line c.args.side (marked_of c.args.text.now c.args.line) in
    let e : mark_byte m.mark ∷ m.line ≡ line_text m = sym (append-nil (mark_byte m.mark ∷ m.line)) ∙ line-written m true (sym c.has_feed.ensures ∙ c.if-has_feed.true) in
    puts-done _ (subst (λ (bs : List ℕ). HasPut g.O.Sink.view g.O.Sink.same_rest c.args.out.now c.put_marked.new.out bs) e (has-put c.in_ok-put_marked.field-0 c.in_ok-put_marked.ensures))

pub returns : goal.returns
returns g c =
    let m : Marked = taken_line c.args.side (marked_of c.args.text.now c.args.line) in
    let ens = c.put_all.ensures in
    subst (λ (bs : List ℕ). Puts g.O.Sink.view g.O.Sink.same_rest c.args.out.now c.put_all.new.out c.put_all.result bs) (line-written m false (sym c.has_feed.ensures ∙ c.if-has_feed.false))
    (puts-more {b = 10 ∷ no_newline} g.met.O.Sink.rest_both (has-put c.in_ok-put_marked.field-0 c.in_ok-put_marked.ensures) (record { call = ens.call; rest = ens.rest; received = ens.received; failed = ens.failed }))
