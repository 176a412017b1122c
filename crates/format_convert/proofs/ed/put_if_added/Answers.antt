use Rattle.std.proofs.Common.{ℕ, List, [], Bool, cond, sym, ap, subst, ◌∙◌}
use Rattle.outside.specs.Puts.{Puts}
use Rattle.outside.proofs.SinkSteps.{HasPut, has-none, puts-done}
use Rattle.hunk_core.specs.PlainHunk.{bytes_at}
use Rattle.format_convert.specs.Commands.{ed_line}
use Rattle.format_convert.proofs.ed.put_if_added.Goals as goal

pub returns-else-edit : goal.returns-else-edit
returns-else-edit g c = puts-done _ (subst (λ (bs : List ℕ). HasPut g.O.Sink.view g.O.Sink.same_rest c.args.out.now c.args.out.now bs)
    (ap (λ (b : Bool). cond b (ed_line (bytes_at c.args.text.now c.args.edit.span) c.args.goes_on) []) (sym c.if-edit.false))
    (has-none g.met.O.Sink.rest_none c.args.out.now))

pub returns-then-edit : goal.returns-then-edit
returns-then-edit g c = subst (λ (bs : List ℕ). Puts g.O.Sink.view g.O.Sink.same_rest c.args.out.now c.put_text_line.new.out c.put_text_line.result bs)
    (ap (λ (line : List ℕ). ed_line line c.args.goes_on) c.line_at.ensures ∙ ap (λ (b : Bool). cond b (ed_line (bytes_at c.args.text.now c.args.edit.span) c.args.goes_on) []) (sym c.if-edit.true))
    c.put_text_line.ensures
