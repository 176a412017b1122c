use Rattle.std.proofs.Common.{◌≡◌, ◌++◌, ℕ, List, [], Bool, cond, true, sym, ap, subst, ◌∙◌, false}
use Rattle.std.specs.Prelude.{codes}
use Rattle.outside.specs.Puts.{Puts}
use Rattle.ed_form.specs.Texts.{is_dot}
use Rattle.format_convert.proofs.ed.put_text_line.Goals as goal

pub returns-then-is_dot : goal.returns-then-is_dot
returns-then-is_dot g c =
    let dot : is_dot c.args.line.now ≡ true = sym c.is_dot.ensures ∙ c.if-is_dot.true in
    let line = c.args.line.now in
    subst (λ (bs : List ℕ). Puts g.O.Sink.view g.O.Sink.same_rest c.args.out.now c.put_both.new.out c.put_both.result bs)
    (ap (λ (x : List ℕ). codes "..\n.\ns/.//\n" ++ x) c.append_if.ensures
    ∙ ap (λ (b : Bool). cond b (codes "..\n.\ns/.//\n" ++ cond c.args.goes_on (codes "a\n") []) (line ++ cond c.args.goes_on [] (codes ".\n"))) (sym dot))
    c.put_both.ensures

pub returns-else-is_dot : goal.returns-else-is_dot
returns-else-is_dot g c =
    let dot : is_dot c.args.line.now ≡ false = sym c.is_dot.ensures ∙ c.if-is_dot.false in
    let line = c.args.line.now in
    subst (λ (bs : List ℕ). Puts g.O.Sink.view g.O.Sink.same_rest c.args.out.now c.put_both-else-is_dot.new.out c.put_both-else-is_dot.result bs)
    (ap (λ (x : List ℕ). line ++ x) c.dot_unless.ensures
    ∙ ap (λ (b : Bool). cond b (codes "..\n.\ns/.//\n" ++ cond c.args.goes_on (codes "a\n") []) (line ++ cond c.args.goes_on [] (codes ".\n"))) (sym dot))
    c.put_both-else-is_dot.ensures
