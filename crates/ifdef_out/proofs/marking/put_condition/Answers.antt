use Rattle.std.proofs.Common.{ℕ, List, ◌∷◌, true, refl, subst}
use Rattle.std.proofs.lemmas.Bool.{false≢true}
use Rattle.outside.specs.SinkView.{sink_passes_both, Receives, ReceivesPart}
use Rattle.outside.proofs.Exits.{if_ok_none}
use Rattle.hunk_apply.specs.Written.{join_behind}
use Rattle.hunk_apply.proofs.FaultLemmas.{on-err}
use Rattle.ifdef_out.proofs.MarkLemmas.{still, condition, part-word, part-name, part-feed, wrote-all}
use Rattle.ifdef_out.proofs.marking.put_condition.Goals as goal

pub returns-in_err-put_line : goal.returns-in_err-put_line
returns-in_err-put_line g c = record {
  call = record { passes = c.in_err-put_line.ensures.call.passes; cause = λ err. c.in_err-put_line.ensures.call.cause (refl {a = true}) };
  rest = c.in_err-put_line.ensures.rest;
  written = if_ok_none _ _ c.from_residual.result c.from_residual.ensures.1;
  part =
      let view = g.O.Sink.view in
      on-err _ ((more : List (List ℕ)) → ReceivesPart (view c.args.out.now) (view c.put_line.new.out) (join_behind c.args.tail.is_open (condition c.args.word.now c.args.name.now ∷ more)))
      (part-word (view c.args.out.now) (view c.put_line.new.out) c.args.tail c.args.word.now c.args.name.now c.in_err-put_line.ensures.failed);
}

pub returns-in_err-put_all : goal.returns-in_err-put_all
returns-in_err-put_all g c = record {
  call =
      record {
        passes = sink_passes_both c.in_ok-put_line.ensures.call.passes c.in_err-put_all.ensures.call.passes;
        cause = λ err small. still c.in_ok-put_line.ensures.call.passes.counts (c.in_err-put_all.ensures.call.cause (refl {a = true}) small);
      };
  rest = g.met.O.Sink.rest_both _ _ _ c.in_ok-put_line.ensures.rest c.in_err-put_all.ensures.rest;
  written = if_ok_none _ _ c.from_residual-in_err-put_all.result c.from_residual-in_err-put_all.ensures.1;
  part =
      let view = g.O.Sink.view in
      on-err _ ((more : List (List ℕ)) → ReceivesPart (view c.args.out.now) (view c.put_all.new.out) (join_behind c.args.tail.is_open (condition c.args.word.now c.args.name.now ∷ more)))
      (part-name (view c.args.out.now) (view c.put_line.new.out) c.args.tail c.args.word.now c.args.name.now (view c.put_all.new.out) c.in_ok-put_line.ensures.received
      (subst (ReceivesPart (view c.put_line.new.out) (view c.put_all.new.out)) c.as_bytes.ensures.value c.in_err-put_all.ensures.failed));
}

pub returns-in_err-put_all-2 : goal.returns-in_err-put_all-2
returns-in_err-put_all-2 g c = record {
  call =
      record {
        passes = sink_passes_both (sink_passes_both c.in_ok-put_line.ensures.call.passes c.in_ok-put_all.ensures.call.passes) c.in_err-put_all-2.ensures.call.passes;
        cause = λ err small. still c.in_ok-put_line.ensures.call.passes.counts (still c.in_ok-put_all.ensures.call.passes.counts (c.in_err-put_all-2.ensures.call.cause (refl {a = true}) small));
      };
  rest = g.met.O.Sink.rest_both _ _ _ (g.met.O.Sink.rest_both _ _ _ c.in_ok-put_line.ensures.rest c.in_ok-put_all.ensures.rest) c.in_err-put_all-2.ensures.rest;
  written = if_ok_none _ _ c.from_residual-in_err-put_all-2.result c.from_residual-in_err-put_all-2.ensures.1;
  part =
      let view = g.O.Sink.view in
      on-err _ ((more : List (List ℕ)) → ReceivesPart (view c.args.out.now) (view c.put_all-2.new.out) (join_behind c.args.tail.is_open (condition c.args.word.now c.args.name.now ∷ more)))
      (part-feed (view c.args.out.now) (view c.put_line.new.out) c.args.tail c.args.word.now c.args.name.now (view c.put_all.new.out) c.in_ok-put_line.ensures.received (view c.put_all-2.new.out)
      (subst (Receives (view c.put_line.new.out) (view c.put_all.new.out)) c.as_bytes.ensures.value c.in_ok-put_all.ensures.received)
      c.in_err-put_all-2.ensures.failed);
}

pub returns : goal.returns
returns g c = record {
  call =
      record {
        passes = sink_passes_both (sink_passes_both c.in_ok-put_line.ensures.call.passes c.in_ok-put_all.ensures.call.passes) c.in_ok-put_all-2.ensures.call.passes;
        cause = λ err. absurd (false≢true err);
      };
  rest = g.met.O.Sink.rest_both _ _ _ (g.met.O.Sink.rest_both _ _ _ c.in_ok-put_line.ensures.rest c.in_ok-put_all.ensures.rest) c.in_ok-put_all-2.ensures.rest;
  written =
      let view = g.O.Sink.view in
      wrote-all (view c.args.out.now) (view c.put_line.new.out) c.args.tail c.args.word.now c.args.name.now (view c.put_all.new.out) c.in_ok-put_line.ensures.received (view c.put_all-2.new.out)
      (subst (Receives (view c.put_line.new.out) (view c.put_all.new.out)) c.as_bytes.ensures.value c.in_ok-put_all.ensures.received)
      _ refl refl c.in_ok-put_all-2.ensures.received;
  part = tt;
}
