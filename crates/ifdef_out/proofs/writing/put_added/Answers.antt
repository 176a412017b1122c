use Rattle.std.proofs.Common.{◌≡◌, ◌++◌, ℕ, List, [], length, true, refl, sym, ap, ◌∙◌, arith, append_assoc}
use Rattle.std.proofs.lemmas.Bool.{false≢true}
use Rattle.std.specs.Prelude.{option_map}
use Rattle.outside.specs.SinkView.{sink_passes_none, sink_passes_both, ReceivesPart}
use Rattle.outside.proofs.Exits.{if_ok_none}
use Rattle.hunk_core.specs.PlainHunk.{bytes_at}
use Rattle.hunk_apply.specs.Splice.{Edit, added_line}
use Rattle.hunk_apply.specs.Written.{join_behind}
use Rattle.hunk_apply.proofs.FaultLemmas.{on-err}
use Rattle.hunk_apply.proofs.WrittenLemmas.{wrote-none, wrote-both, wrote-same, part-after, part-same}
use Rattle.ifdef_out.specs.Chain.{next_gap, block_added}
use Rattle.ifdef_out.specs.Places.{IsFound, edits_left, edit_at}
use Rattle.ifdef_out.proofs.ChainLemmas.{added-none, added-stop, added-next}
use Rattle.ifdef_out.proofs.MarkLemmas.{still}
use Rattle.ifdef_out.proofs.writing.put_added.Goals as goal

pub loop-found-init : goal.loop-found-init
loop-found-init g c = record {
  sink = sink_passes_none _;
  rest = g.met.O.Sink.rest_none _;
  written = λ more. wrote-none (g.O.Sink.view c.args.out.now) c.args.tail (block_added c.args.first (edits_left c.args.edits c.args.place) ++ more);
}

pub put_edit-requires : goal.put_edit-requires
put_edit-requires g c = let f : IsFound c.args.edits c.loop-found.at c.in-Some.found = c.in-Some.ensures in f.lies

pub gap_behind-next-requires : goal.gap_behind-next-requires
gap_behind-next-requires g c =
    let f : IsFound c.args.edits c.loop-found.at c.in-Some.found = c.in-Some.ensures in
    omega (arith, f.lies.near, c.if-found-next.false)

pub loop-found-smaller : goal.loop-found-smaller
loop-found-smaller g c =
    let f : IsFound c.args.edits c.loop-found.at c.in-Some.found = c.in-Some.ensures in
    omega (arith, ap length f.left)

pub loop-found-preserved : goal.loop-found-preserved
loop-found-preserved g c =
    let view = g.O.Sink.view in
    let f : IsFound c.args.edits c.loop-found.at c.in-Some.found = c.in-Some.ensures in
    let text = c.args.edits.text.now in
    let q = c.loop-found.next in
    let left = edits_left c.args.edits c.loop-found.at in
    let es = edits_left c.args.edits c.in-Some.found.behind in
    let own = added_line (option_map (bytes_at text) c.in-Some.found.edit.added) in
    let all = block_added c.args.first (edits_left c.args.edits c.args.place) in
    let next : block_added q left ≡ own ++ block_added c.gap_behind-next.result es = added-next q left (edit_at text c.in-Some.found.edit) es c.gap_behind-next.result f.left c.if-found-next.false (c.gap_behind-next.ensures text) in
    record {
      sink = sink_passes_both c.loop-found.invariant.sink c.in_ok-now.ensures.call.passes;
      rest = g.met.O.Sink.rest_both _ _ _ c.loop-found.invariant.rest c.in_ok-now.ensures.rest;
      written = λ more.
          let after : List (List ℕ) = block_added c.gap_behind-next.result es ++ more in
          wrote-both (view c.args.out.now) (view c.loop-found.out) (view c.put_edit.new.out) c.args.tail c.loop-found.now c.in_ok-now.now (all ++ more) (block_added q left ++ more) after
          (c.loop-found.invariant.written more)
          (wrote-same (view c.loop-found.out) (view c.put_edit.new.out) c.loop-found.now c.in_ok-now.now (own ++ after) (block_added q left ++ more) after after
          (sym (ap (λ ls. ls ++ more) next ∙ append_assoc own (block_added c.gap_behind-next.result es) more)) refl
          (c.in_ok-now.ensures.written after));
    }

pub returns-in_err-now : goal.returns-in_err-now
returns-in_err-now g c = record {
  call =
      record {
        passes = sink_passes_both c.loop-found.invariant.sink c.in_err-now.ensures.call.passes;
        cause = λ err small. still c.loop-found.invariant.sink.counts (c.in_err-now.ensures.call.cause (refl {a = true}) small);
      };
  rest = g.met.O.Sink.rest_both _ _ _ c.loop-found.invariant.rest c.in_err-now.ensures.rest;
  written = if_ok_none _ _ c.from_residual.result c.from_residual.ensures.1;
  part =
      let view = g.O.Sink.view in
      let f : IsFound c.args.edits c.loop-found.at c.in-Some.found = c.in-Some.ensures in
      let text = c.args.edits.text.now in
      let q = c.loop-found.next in
      let left = edits_left c.args.edits c.loop-found.at in
      let es = edits_left c.args.edits c.in-Some.found.behind in
      let e : Edit = edit_at c.args.edits.text.now c.in-Some.found.edit in
      let own = added_line (option_map (bytes_at text) c.in-Some.found.edit.added) in
      let all = block_added c.args.first (edits_left c.args.edits c.args.place) in
      let to : ℕ = next_gap q e.added in
      let next : block_added q left ≡ own ++ block_added to es = added-next q left e es to f.left c.if-found-next.false refl in
      on-err _ ((more : List (List ℕ)) → ReceivesPart (view c.args.out.now) (view c.put_edit.new.out) (join_behind c.args.tail.is_open (all ++ more)))
      (λ more.
      let after : List (List ℕ) = block_added to es ++ more in
      part-after (view c.args.out.now) (view c.loop-found.out) (view c.put_edit.new.out) c.args.tail c.loop-found.now (all ++ more) (block_added q left ++ more)
      (c.loop-found.invariant.written more)
      (part-same (view c.loop-found.out) (view c.put_edit.new.out) c.loop-found.now.is_open (own ++ after) (block_added q left ++ more)
      (sym (ap (λ ls. ls ++ more) next ∙ append_assoc own (block_added to es) more))
      (c.in_err-now.ensures.part after)));
}

pub returns-then-found-next : goal.returns-then-found-next
returns-then-found-next g c = record {
  call = record { passes = c.loop-found.invariant.sink; cause = λ err. absurd (false≢true err) };
  rest = c.loop-found.invariant.rest;
  written = λ more.
      let view = g.O.Sink.view in
      let f : IsFound c.args.edits c.loop-found.at c.in-Some.found = c.in-Some.ensures in
      let q = c.loop-found.next in
      let left = edits_left c.args.edits c.loop-found.at in
      let all = block_added c.args.first (edits_left c.args.edits c.args.place) in
      let none : block_added q left ≡ [] = ap (block_added q) f.left ∙ added-stop q (edit_at c.args.edits.text.now c.in-Some.found.edit) (edits_left c.args.edits c.in-Some.found.behind) c.if-found-next.true in
      wrote-same (view c.args.out.now) (view c.loop-found.out) c.args.tail c.loop-found.now (all ++ more) (all ++ more) (block_added q left ++ more) more refl (ap (λ ls. ls ++ more) none)
      (c.loop-found.invariant.written more);
  part = tt;
}

pub returns : goal.returns
returns g c = record {
  call = record { passes = c.loop-found.invariant.sink; cause = λ err. absurd (false≢true err) };
  rest = c.loop-found.invariant.rest;
  written = λ more.
      let view = g.O.Sink.view in
      let q = c.loop-found.next in
      let left = edits_left c.args.edits c.loop-found.at in
      let all = block_added c.args.first (edits_left c.args.edits c.args.place) in
      let over : edits_left c.args.edits c.loop-found.at ≡ [] = c.in_default.ensures in
      let none : block_added q left ≡ [] = ap (block_added q) over ∙ added-none q in
      wrote-same (view c.args.out.now) (view c.loop-found.out) c.args.tail c.loop-found.now (all ++ more) (all ++ more) (block_added q left ++ more) more refl (ap (λ ls. ls ++ more) none)
      (c.loop-found.invariant.written more);
  part = tt;
}
