use Rattle.std.proofs.Common.{inr, List, ℕ, refl, subst, ◌∙◌, inl}
use Rattle.outside.specs.SinkView.{Receives, ReceivesPart, sink_passes_none}
use Rattle.cli_gen.proofs.Lines.{line_told}
use Rattle.cli_gen.proofs.carrying.tell.Goals as goal

pub returns-in-Ok-put_summary : goal.returns-in-Ok-put_summary
returns-in-Ok-put_summary g c = record {
  tells = record {
    tree = c.total_size.ensures.untouched;
    sink = c.in-Ok-put_summary.ensures.writes.call.passes;
    same = refl;
    written = λ f told. subst (λ (l : List ℕ). Receives (g.O.Sink.view c.args.out.now) (g.O.Sink.view c.put_summary.new.out) l)
        (line_told c.from.result c.from-2.result c.count_placed.result c.count_moved.result c.in-Ok.bytes c.from-3.result c.args.job.files c.args.hunks c.args.verdicts.now f c.args.applied.is_bad c.from.ensures c.from-2.ensures c.count_placed.ensures c.count_moved.ensures
        (c.in-Ok.ensures.size f c.args.job.files told c.requires.places) (c.from-3.ensures ∙ c.status.ensures))
        c.in-Ok-put_summary.ensures.writes.received;
    failed = tt;
  };
  rest = c.put_summary.ensures.rest;
}

pub returns-in-Err : goal.returns-in-Err
returns-in-Err g c = record {
  tells = record {
    tree = c.total_size.ensures.untouched;
    sink = c.in-Err.ensures.writes.call.passes;
    same = tt;
    written = tt;
    failed = inr (record {
      is = refl;
      cause = c.in-Err.ensures.writes.call.cause refl;
      part = λ f told. subst (λ (l : List ℕ). ReceivesPart (g.O.Sink.view c.args.out.now) (g.O.Sink.view c.put_summary.new.out) l)
          (line_told c.from.result c.from-2.result c.count_placed.result c.count_moved.result c.in-Ok.bytes c.from-3.result c.args.job.files c.args.hunks c.args.verdicts.now f c.args.applied.is_bad c.from.ensures c.from-2.ensures c.count_placed.ensures c.count_moved.ensures
          (c.in-Ok.ensures.size f c.args.job.files told c.requires.places) (c.from-3.ensures ∙ c.status.ensures))
          c.in-Err.ensures.writes.failed;
    });
  };
  rest = c.put_summary.ensures.rest;
}

pub returns-in_default : goal.returns-in_default
returns-in_default g c = record {
  tells = record {
    tree = c.total_size.ensures.untouched;
    sink = sink_passes_none (g.O.Sink.view c.args.out.now);
    same = tt;
    written = tt;
    failed = inl (record { is = refl; cause = c.in_default.ensures.cause refl; out = refl });
  };
  rest = g.met.O.Sink.rest_none c.args.out.now;
}
