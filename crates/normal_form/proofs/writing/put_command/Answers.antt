use Rattle.std.proofs.Common.{◌≡◌, ◌++◌, ◌∷◌, [], List, ℕ, length, subst, ap, ◌∙◌, arith, length-append}
use Rattle.outside.specs.Puts.{Puts}
use Rattle.hunk_core.specs.Letters.{letter}
use Rattle.hunk_core.specs.Spans.{span_text}
use Rattle.normal_form.specs.Canonical.{command_text}
use Rattle.normal_form.proofs.WritingLemmas.{pieces-text}
use Rattle.normal_form.proofs.writing.put_command.Goals as goal

pub add_span-requires : goal.add_span-requires
add_span-requires g c = omega (arith, ap length c.new-gathered.ensures)

pub add_piece-requires : goal.add_piece-requires
add_piece-requires g c = omega (arith, ap length c.new-gathered.ensures, c.add_span.ensures.few)

pub add_span-requires-2 : goal.add_span-requires-2
add_span-requires-2 g c = omega (arith, ap length c.new-gathered.ensures, c.add_span.ensures.few, simp length-append at (ap length c.add_piece.ensures))

pub add_piece-requires-2 : goal.add_piece-requires-2
add_piece-requires-2 g c = omega (arith, ap length c.new-gathered.ensures, c.add_span.ensures.few, simp length-append at (ap length c.add_piece.ensures), c.add_span-2.ensures.few)

pub returns : goal.returns
returns g c =
    let ens = c.put_all.ensures in
    let text : c.as_slice.result.now ≡ span_text c.args.starts.0 c.args.counts.0 ++ (c.letter_of.result ∷ (span_text c.args.starts.1 c.args.counts.1 ++ 10 ∷ [])) =
    c.as_slice.ensures.value ∙ pieces-text _ _ _ _ _ _ _ _ c.new-gathered.ensures c.add_span.ensures.text c.add_piece.ensures c.add_span-2.ensures.text c.add_piece-2.ensures in
    let e : c.as_slice.result.now ≡ command_text c.args.starts.0 c.args.counts.0 c.args.starts.1 c.args.counts.1 =
    text ∙ ap (λ l. span_text c.args.starts.0 c.args.counts.0 ++ (l ∷ (span_text c.args.starts.1 c.args.counts.1 ++ 10 ∷ []))) (c.letter_of.ensures ∙ ap letter c.action_for.ensures) in
    subst (λ (bs : List ℕ). Puts g.O.Sink.view g.O.Sink.same_rest c.args.out.now c.put_all.new.out c.put_all.result bs) e (record { call = ens.call; rest = ens.rest; received = ens.received; failed = ens.failed })
