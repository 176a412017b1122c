use Rattle.std.proofs.Common.{ℕ, List, [], sym, ap, subst, ◌∙◌, cond, ◌≡◌, Bool, Err, true, false}
use Rattle.hunk_core.specs.declared.Mark.{Mark}
use Rattle.hunk_core.specs.Turned.{is_keep}
use Rattle.outside.specs.Puts.{Puts}
use Rattle.outside.proofs.SinkSteps.{HasPut, has-none, puts-done, has-put, puts-stop}
use Rattle.format_convert.specs.Backward.{closing_if, closing, first_text}
use Rattle.format_convert.specs.Blocks.{blocks_of}
use Rattle.format_convert.specs.Fronts.{begins_at}
use Rattle.format_convert.specs.Walk.{IsFoundIn, edit_at, edits_left}
use Rattle.std.proofs.lemmas.List.{append-nil}
use Rattle.std.proofs.lemmas.Result.{err_from_is_err_and}
use Rattle.outside.proofs.Exits.{if_ok_none}
use Rattle.format_convert.specs.declared.place.EditCursor.{EditCursor}
use Rattle.format_convert.proofs.EdLemmas.{not-keep}
use Rattle.format_convert.proofs.FrontLemmas.{begins-some}
use Rattle.format_convert.proofs.ed.put_behind.Goals as goal

pub returns-then-is_some : goal.returns-then-is_some
returns-then-is_some g c =
    let k = c.args.kept in
    let es = edits_left c.args.kept c.args.front in
    let changes : is_keep c.args.mark ≡ false = not-keep c.args.mark c.in-Drop.is in
    let begins = begins-some c.edit_in.result c.args.next es (IsFoundIn k c.args.front c.args.next) (λ f is. (edit_at k.set.now.text f.edit, edits_left k f.behind, is.found.left, is.here)) c.edit_in.ensures in
    let here : begins_at c.args.next (edits_left c.args.kept c.args.front) ≡ true = sym (c.is_some.ensures ∙ begins) ∙ c.if-is_some.true in
    record {
      put = puts-done c.args.place (subst (λ (bs : List ℕ). HasPut g.O.Sink.view g.O.Sink.same_rest c.args.out.now c.args.out.now bs)
          (ap (λ (b : Bool). cond b [] (first_text (blocks_of es))) (sym here) ∙ ap (λ (b : Bool). cond b [] (closing c.args.next es)) (sym changes))
          (has-none g.met.O.Sink.rest_none c.args.out.now));
      place = ap (λ (b : Bool). cond b c.args.front c.args.place) (sym changes);
    }

pub returns-in_err-put_next-in-Drop : goal.returns-in_err-put_next-in-Drop
returns-in_err-put_next-in-Drop g c =
    let k = c.args.kept in
    let es = edits_left c.args.kept c.args.front in
    let p = err_from_is_err_and c.from_residual.result c.from_residual.ensures.1 in
    let changes : is_keep c.args.mark ≡ false = not-keep c.args.mark c.in-Drop.is in
    let begins = begins-some c.edit_in.result c.args.next es (IsFoundIn k c.args.front c.args.next) (λ f is. (edit_at k.set.now.text f.edit, edits_left k f.behind, is.found.left, is.here)) c.edit_in.ensures in
    let away : begins_at c.args.next (edits_left c.args.kept c.args.front) ≡ false = sym (c.is_some.ensures ∙ begins) ∙ c.if-is_some.false in
    record {
      put = rw p.1 (subst (λ (bs : List ℕ). Puts {R = EditCursor} g.O.Sink.view g.O.Sink.same_rest c.args.out.now c.put_next.new.out (Err p.0) bs)
          (append-nil (first_text (blocks_of es)) ∙ ap (λ (b : Bool). cond b [] (first_text (blocks_of es))) (sym away) ∙ ap (λ (b : Bool). cond b [] (closing c.args.next es)) (sym changes))
          (puts-stop c.in_err-put_next-in-Drop.field-0.0 p.0 [] c.in_err-put_next-in-Drop.ensures));
      place = if_ok_none _ _ c.from_residual.result c.from_residual.ensures.1;
    }

pub returns-in_ok-put_next-in-Drop : goal.returns-in_ok-put_next-in-Drop
returns-in_ok-put_next-in-Drop g c =
    let k = c.args.kept in
    let es = edits_left c.args.kept c.args.front in
    let changes : is_keep c.args.mark ≡ false = not-keep c.args.mark c.in-Drop.is in
    let begins = begins-some c.edit_in.result c.args.next es (IsFoundIn k c.args.front c.args.next) (λ f is. (edit_at k.set.now.text f.edit, edits_left k f.behind, is.found.left, is.here)) c.edit_in.ensures in
    let away : begins_at c.args.next (edits_left c.args.kept c.args.front) ≡ false = sym (c.is_some.ensures ∙ begins) ∙ c.if-is_some.false in
    record {
      put = puts-done c.args.place (subst (λ (bs : List ℕ). HasPut g.O.Sink.view g.O.Sink.same_rest c.args.out.now c.put_next.new.out bs)
          (ap (λ (b : Bool). cond b [] (first_text (blocks_of es))) (sym away) ∙ ap (λ (b : Bool). cond b [] (closing c.args.next es)) (sym changes))
          (has-put c.in_ok-put_next-in-Drop.field-0 c.in_ok-put_next-in-Drop.ensures));
      place = ap (λ (b : Bool). cond b c.args.front c.args.place) (sym changes);
    }

pub returns-in-Keep-clause-put : goal.returns-in-Keep-clause-put
returns-in-Keep-clause-put g c = puts-done _ (subst (λ (bs : List ℕ). HasPut g.O.Sink.view g.O.Sink.same_rest c.args.out.now c.args.out.now bs)
    (sym (ap (λ (m : Mark). closing_if m c.args.next (edits_left c.args.kept c.args.front)) c.in-Keep.is))
    (has-none g.met.O.Sink.rest_none c.args.out.now))

pub returns-in-Keep-clause-place : goal.returns-in-Keep-clause-place
returns-in-Keep-clause-place g c = ap (λ (m : Mark). cond (is_keep m) c.args.front c.args.place) (sym c.in-Keep.is)
