use Rattle.std.proofs.Common.{◌≡◌, ◌∙◌, List, length, sym, subst}
use Rattle.line_list.specs.declared.Span.{Span}
use Rattle.hunk_core.specs.Pieces.{AreInTurn}
use Rattle.cli_tool_words.specs.PlainJobs.{plain_split_job}
use Rattle.split_recount.specs.Parts.{parts, rows_of}
use Rattle.split_recount.proofs.PartsInTurn.{join-back}
use Rattle.filter_whole_text.specs.PartNames.{part_names}
use Rattle.filter_whole_text.specs.Parting.{PutsParts, named_parts}
use Rattle.filter_whole_text.proofs.Parting.{puts-starved}
use Rattle.filter_whole_text.proofs.splitting.put_set.Goals as goal

pub put_named-requires-clause-turn : goal.put_named-requires-clause-turn
put_named-requires-clause-turn g c =
    let v = c.args.set.now in
    let every = c.args.job.now.every in
    let all : c.deref.result.now ≡ parts every v = c.deref.ensures.value ∙ c.in-Ok.ensures in
    subst (λ (l : List Span). AreInTurn 0 l (length v.text)) (sym all) (join-back every v c.requires.whole).0

pub returns-in-Ok : goal.returns-in-Ok
returns-in-Ok g c = record {
  puts = let v = c.args.set.now in
      let j = plain_split_job c.args.job.now in
      let all : c.deref.result.now ≡ parts j.every v = c.deref.ensures.value ∙ c.in-Ok.ensures in
      subst (λ (l : List Span). PutsParts (named_parts v.text (part_names j (rows_of v) l) l) (g.T.Tree.view c.args.tree.now) (g.T.Tree.view c.put_named.new.tree) (g.O.Sink.view c.args.out.now) (g.O.Sink.view c.put_named.new.out) c.put_named.result) all c.put_named.ensures.puts;
  rest = c.put_named.ensures.rest;
}

pub returns-in-Err : goal.returns-in-Err
returns-in-Err g c = record {
  puts = puts-starved _ (g.T.Tree.view c.args.tree.now) (g.O.Sink.view c.args.out.now) c.requires.quiet;
  rest = g.met.O.Sink.rest_none c.args.out.now;
}
