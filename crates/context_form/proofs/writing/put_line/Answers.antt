use Rattle.std.proofs.Common.{◌≡◌, ◌∷◌, ◌++◌, [], List, ℕ, Bool, cond, true, false, subst, sym, ap, ◌∙◌}
use Rattle.std.proofs.lemmas.Result.{err_from_is_err_and}
use Rattle.std.proofs.lemmas.List.{append-nil}
use Rattle.hunk_core.specs.PlainHunk.{bytes_at, marked_of}
use Rattle.hunk_core.specs.Turned.{taken_mark, taken_line}
use Rattle.hunk_core.specs.LineTests.{ends_line}
use Rattle.outside.specs.Puts.{Puts}
use Rattle.hunk_core.specs.Writing.{no_newline}
use Rattle.outside.proofs.SinkSteps.{HasPut, has-put, puts-more, puts-stop, puts-done}
use Rattle.context_form.specs.Grammar.{mark_byte}
use Rattle.context_form.specs.Canonical.{line_text}
use Rattle.context_form.proofs.writing.put_line.Goals as goal

pub returns-in_err-put_marked : goal.returns-in_err-put_marked
returns-in_err-put_marked g c =
    let p = err_from_is_err_and c.from_residual.result c.from_residual.ensures.1 in
    let line = bytes_at c.args.text.now c.args.line.span in
    let is : c.byte_of-byte.result ≡ mark_byte c.args.changed (taken_mark c.args.side c.args.line.mark) = c.byte_of-byte.ensures ∙ ap (mark_byte c.args.changed) c.mark_from.ensures in
    let e : (c.byte_of-byte.result ∷ 32 ∷ line) ++ cond (ends_line line) [] (10 ∷ no_newline) ≡ line_text c.args.changed (taken_line c.args.side (marked_of c.args.text.now c.args.line)) = ap (λ b. (b ∷ 32 ∷ line) ++ cond (ends_line line) [] (10 ∷ no_newline)) is in
    subst (λ (bs : List ℕ). Puts g.O.Sink.view g.O.Sink.same_rest c.args.out.now c.put_marked.new.out c.from_residual.result bs) e (rw p.1 (puts-stop c.in_err-put_marked.field-0.0 p.0 (cond (ends_line line) [] (10 ∷ no_newline)) c.in_err-put_marked.ensures))

pub returns-then-has_feed : goal.returns-then-has_feed
returns-then-has_feed g c =
    let line = bytes_at c.args.text.now c.args.line.span in
    let ends : ends_line line ≡ true = sym c.has_feed.ensures ∙ c.if-has_feed.true in
    let is : c.byte_of-byte.result ≡ mark_byte c.args.changed (taken_mark c.args.side c.args.line.mark) = c.byte_of-byte.ensures ∙ ap (mark_byte c.args.changed) c.mark_from.ensures in
    let e : c.byte_of-byte.result ∷ 32 ∷ line ≡ line_text c.args.changed (taken_line c.args.side (marked_of c.args.text.now c.args.line)) = ap (λ b. b ∷ 32 ∷ line) is ∙ ap (λ (bs : List ℕ). mark_byte c.args.changed (taken_mark c.args.side c.args.line.mark) ∷ 32 ∷ bs) (sym (append-nil line) ∙ ap (λ (b : Bool). line ++ cond b [] (10 ∷ no_newline)) (sym ends)) in
    puts-done _ (subst (λ (bs : List ℕ). HasPut g.O.Sink.view g.O.Sink.same_rest c.args.out.now c.put_marked.new.out bs) e (has-put c.in_ok-put_marked.field-0 c.in_ok-put_marked.ensures))

pub returns : goal.returns
returns g c =
    let ens = c.put_all.ensures in
    let line = bytes_at c.args.text.now c.args.line.span in
    let bare : ends_line line ≡ false = sym c.has_feed.ensures ∙ c.if-has_feed.false in
    let is : c.byte_of-byte.result ≡ mark_byte c.args.changed (taken_mark c.args.side c.args.line.mark) = c.byte_of-byte.ensures ∙ ap (mark_byte c.args.changed) c.mark_from.ensures in
    let e : (c.byte_of-byte.result ∷ 32 ∷ line) ++ (10 ∷ no_newline) ≡ line_text c.args.changed (taken_line c.args.side (marked_of c.args.text.now c.args.line)) = ap (λ b. (b ∷ 32 ∷ line) ++ (10 ∷ no_newline)) is ∙ ap (λ (b : Bool). mark_byte c.args.changed (taken_mark c.args.side c.args.line.mark) ∷ 32 ∷ (line ++ cond b [] (10 ∷ no_newline))) (sym bare) in
    subst (λ (bs : List ℕ). Puts g.O.Sink.view g.O.Sink.same_rest c.args.out.now c.put_all.new.out c.put_all.result bs) e
    (puts-more {b = 10 ∷ no_newline} g.met.O.Sink.rest_both (has-put c.in_ok-put_marked.field-0 c.in_ok-put_marked.ensures) (record { call = ens.call; rest = ens.rest; received = ens.received; failed = ens.failed }))
