use Rattle.std.proofs.Common.{◌≡◌, ◌<◌, ℕ, List, get_or, length, false, Some, Ok, refl, subst, arith}
use Rattle.std.specs.Prelude.{slice_get}
use Rattle.std.proofs.lemmas.Option.{slice_get-get_or, slice_get_read}
use Rattle.line_list.specs.declared.Span.{Span}
use Rattle.outside.specs.Files.{is_temp}
use Rattle.filter_whole_text.specs.Parting.{PutsParts}
use Rattle.filter_whole_text.proofs.Parting.{puts-none, parts-end, turn-within, goes-on, stops, each-at}
use Rattle.filter_whole_text.proofs.splitting.put_parts.Goals as goal

pub loop-index-init : goal.loop-index-init
loop-index-init g c = record {
  puts = puts-none tt (g.T.Tree.view c.args.tree.now) (g.O.Sink.view c.args.out.now) c.requires.quiet;
  rest = g.met.O.Sink.rest_none _;
}

pub bytes_of-bytes-requires : goal.bytes_of-bytes-requires
bytes_of-bytes-requires g c =
    let spans = c.args.parts.now in
    let i = c.loop-index.index in
    let span : Span = get_or spans i (record { start = 0; end = 0 }) in
    let within = turn-within 0 spans (length c.args.text.now) i span c.requires.turn (slice_get-get_or spans i (record { start = 0; end = 0 }) c.loop-index-test.true) in
    record { order = within.0; within = within.1 }

pub put_part-requires : goal.put_part-requires
put_part-requires g c =
    let names = c.args.names.now in
    let i = c.loop-index.index in
    let name : List ℕ = c.index-names-index.result in
    let lt : i < length names = omega (arith, c.requires.names, c.loop-index-test.true) in
    record { quiet = c.loop-index.invariant.puts.quiet; lasting = each-at (λ (n : List ℕ). is_temp n ≡ false) names i name c.requires.lasting (slice_get_read names (length names) i name refl lt c.index-names-index.is) }

pub loop-index-preserved : goal.loop-index-preserved
loop-index-preserved g c =
    let text = c.args.text.now in
    let names = c.args.names.now in
    let spans = c.args.parts.now in
    let i = c.loop-index.index in
    let name : List ℕ = c.index-names-index.result in
    let span : Span = get_or spans i (record { start = 0; end = 0 }) in
    let lt : i < length names = omega (arith, c.requires.names, c.loop-index-test.true) in
    let named : slice_get names i ≡ Some name = slice_get_read names (length names) i name refl lt c.index-names-index.is in
    let lasting : is_temp name ≡ false = each-at (λ (n : List ℕ). is_temp n ≡ false) names i name c.requires.lasting named in
    record {
      puts = goes-on text names spans i name span c.bytes_of-bytes.result.now named (slice_get-get_or spans i (record { start = 0; end = 0 }) c.loop-index-test.true) c.bytes_of-bytes.ensures lasting
          c.loop-index.invariant.puts (g.T.Tree.view c.put_part.new.tree) (g.O.Sink.view c.put_part.new.out) c.in_ok-put_part.field-0 tt c.in_ok-put_part.ensures.puts;
      rest = g.met.O.Sink.rest_both _ _ _ c.loop-index.invariant.rest c.in_ok-put_part.ensures.rest;
    }

pub returns-in_err-put_part : goal.returns-in_err-put_part
returns-in_err-put_part g c =
    let text = c.args.text.now in
    let names = c.args.names.now in
    let spans = c.args.parts.now in
    let i = c.loop-index.index in
    let name : List ℕ = c.index-names-index.result in
    let span : Span = get_or spans i (record { start = 0; end = 0 }) in
    let lt : i < length names = omega (arith, c.requires.names, c.loop-index-test.true) in
    let named : slice_get names i ≡ Some name = slice_get_read names (length names) i name refl lt c.index-names-index.is in
    let lasting : is_temp name ≡ false = each-at (λ (n : List ℕ). is_temp n ≡ false) names i name c.requires.lasting named in
    record {
      puts = stops text names spans i name span c.bytes_of-bytes.result.now named (slice_get-get_or spans i (record { start = 0; end = 0 }) c.loop-index-test.true) c.bytes_of-bytes.ensures lasting
          c.loop-index.invariant.puts (g.T.Tree.view c.put_part.new.tree) (g.O.Sink.view c.put_part.new.out) c.in_err-put_part.field-0.0 c.from_residual.result c.from_residual.ensures.1 c.in_err-put_part.ensures.puts;
      rest = g.met.O.Sink.rest_both _ _ _ c.loop-index.invariant.rest c.in_err-put_part.ensures.rest;
    }

pub returns : goal.returns
returns g c = record {
  puts = subst (λ parts. PutsParts parts (g.T.Tree.view c.args.tree.now) (g.T.Tree.view c.loop-index.tree) (g.O.Sink.view c.args.out.now) (g.O.Sink.view c.loop-index.out) (Ok tt))
      (parts-end c.args.text.now c.args.names.now c.args.parts.now c.loop-index.index c.loop-index-test.false) c.loop-index.invariant.puts;
  rest = c.loop-index.invariant.rest;
}
