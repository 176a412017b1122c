use Rattle.std.proofs.Common.{◌∙◌, subst}
use Rattle.outside.specs.SinkView.{sink_passes_none}
use Rattle.cli_filter.specs.Styling.{PutsText}
use Rattle.cli_filter.proofs.Styled.{part-none}
use Rattle.cli_filter.proofs.styling.put_restyled.Goals as goal

pub returns-in-Ok : goal.returns-in-Ok
returns-in-Ok g c =
    subst (λ w. PutsText g.O.Sink.view g.O.Sink.same_rest c.args.out.now c.put_text.new.out c.put_text.result w) (c.deref.ensures.value ∙ c.in-Ok.ensures) c.put_text.ensures

pub returns-in-Err : goal.returns-in-Err
returns-in-Err g c = record {
  passes = sink_passes_none (g.O.Sink.view c.args.out.now);
  rest = g.met.O.Sink.rest_none c.args.out.now;
  received = tt;
  failed = part-none (g.O.Sink.view c.args.out.now) _;
  cause = tt;
}
