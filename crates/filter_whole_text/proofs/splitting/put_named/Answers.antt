use Rattle.std.proofs.Common.{◌≡◌, ◌∙◌, All, List, ℕ, length, false, sym, subst, ap}
use Rattle.hunk_core.specs.Pieces.{AreInTurn}
use Rattle.outside.specs.Files.{is_temp}
use Rattle.cli_tool_words.specs.PlainJobs.{plain_split_job}
use Rattle.split_recount.specs.Parts.{rows_of}
use Rattle.filter_whole_text.specs.PartNames.{part_names}
use Rattle.filter_whole_text.specs.Parting.{PutsParts, named_parts}
use Rattle.filter_whole_text.proofs.PartNames.{names-count, names-lasting}
use Rattle.filter_whole_text.proofs.Parting.{puts-starved}
use Rattle.filter_whole_text.proofs.splitting.put_named.Goals as goal

pub put_parts-requires-clause-turn : goal.put_parts-requires-clause-turn
put_parts-requires-clause-turn g c = subst (λ (l : List ℕ). AreInTurn 0 c.args.parts.now (length l)) (sym c.text.ensures) c.requires.turn

pub put_parts-requires-clause-names : goal.put_parts-requires-clause-names
put_parts-requires-clause-names g c =
    let all : c.deref.result.now ≡ part_names (plain_split_job c.args.job.now) (rows_of c.args.set.now) c.args.parts.now = c.deref.ensures.value ∙ c.in-Ok.ensures in
    ap (λ (l : List (List ℕ)). length l) all ∙ names-count (plain_split_job c.args.job.now) (rows_of c.args.set.now) c.args.parts.now

pub put_parts-requires-clause-lasting : goal.put_parts-requires-clause-lasting
put_parts-requires-clause-lasting g c =
    let all : c.deref.result.now ≡ part_names (plain_split_job c.args.job.now) (rows_of c.args.set.now) c.args.parts.now = c.deref.ensures.value ∙ c.in-Ok.ensures in
    subst (λ (l : List (List ℕ)). All (λ name. is_temp name ≡ false) l) (sym all) (names-lasting (plain_split_job c.args.job.now) (rows_of c.args.set.now) c.args.parts.now)

pub returns-in-Ok : goal.returns-in-Ok
returns-in-Ok g c = record {
  puts = let v = c.args.set.now in
      let all : c.deref.result.now ≡ part_names (plain_split_job c.args.job.now) (rows_of v) c.args.parts.now = c.deref.ensures.value ∙ c.in-Ok.ensures in
      let t = g.T.Tree.view c.args.tree.now in
      let u = g.T.Tree.view c.put_parts.new.tree in
      let a = g.O.Sink.view c.args.out.now in
      let b = g.O.Sink.view c.put_parts.new.out in
      subst (λ (l : List ℕ). PutsParts (named_parts l (part_names (plain_split_job c.args.job.now) (rows_of v) c.args.parts.now) c.args.parts.now) t u a b c.put_parts.result) c.text.ensures
      (subst (λ (names : List (List ℕ)). PutsParts (named_parts c.text.result.now names c.args.parts.now) t u a b c.put_parts.result) all c.put_parts.ensures.puts);
  rest = c.put_parts.ensures.rest;
}

pub returns-in-Err : goal.returns-in-Err
returns-in-Err g c = record {
  puts = puts-starved _ (g.T.Tree.view c.args.tree.now) (g.O.Sink.view c.args.out.now) c.requires.quiet;
  rest = g.met.O.Sink.rest_none c.args.out.now;
}
