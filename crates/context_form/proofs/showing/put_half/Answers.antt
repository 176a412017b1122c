use Rattle.std.proofs.Common.{Bool, cond, ℕ, List, [], sym, ap, subst, ◌∙◌}
use Rattle.hunk_core.specs.PlainHunk.{Marked, body_of}
use Rattle.outside.specs.Puts.{Puts}
use Rattle.outside.proofs.SinkSteps.{HasPut, has-none, puts-done}
use Rattle.context_form.specs.Canonical.{mixed, part_text}
use Rattle.context_form.proofs.ShownAgain.{taken-same}
use Rattle.context_form.proofs.showing.put_half.Goals as goal

pub returns-then-is_left_out : goal.returns-then-is_left_out
returns-then-is_left_out g c =
    let body = body_of c.args.text.now c.args.hunk.now.body.items in
    puts-done _ (subst (λ (bs : List ℕ). HasPut g.O.Sink.view g.O.Sink.same_rest c.args.out.now c.args.out.now bs)
    (ap (λ (b : Bool). cond b [] (part_text c.args.part (mixed body) body)) (sym c.if-is_left_out.true ∙ c.is_left_out.ensures c.args.text.now))
    (has-none g.met.O.Sink.rest_none c.args.out.now))

pub returns : goal.returns
returns g c =
    let body = body_of c.args.text.now c.args.hunk.now.body.items in
    subst (λ (bs : List ℕ). Puts g.O.Sink.view g.O.Sink.same_rest c.args.out.now c.put_part.new.out c.put_part.result bs)
    (ap (λ (ms : List Marked). part_text c.args.part (mixed ms) ms) (taken-same body)
    ∙ ap (λ (b : Bool). cond b [] (part_text c.args.part (mixed body) body)) (sym c.if-is_left_out.false ∙ c.is_left_out.ensures c.args.text.now))
    c.put_part.ensures

pub put_part-requires : goal.put_part-requires
put_part-requires g c = c.requires
