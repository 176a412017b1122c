use Rattle.std.proofs.Common.{map, string_bytes}
use Rattle.std.proofs.lemmas.Result.{IfErr-weaker}
use Rattle.patch_options.specs.Simple.{plain_table, rows_in}
use Rattle.cli_tool_words.proofs.Reading.{is_free, words_passed, table_refused, jobs_are, jobs_lawful}
use Rattle.cli_tool_words.proofs.words.read_whole.Goals as goal

pub matched_by-requires : goal.matched_by-requires
matched_by-requires c = is_free c.args.tool c.name.result.now (plain_table c.table.result.now) (map string_bytes c.args.words.now) c.name.ensures c.table.ensures

pub returns-in_err-matches-clause-refused : goal.returns-in_err-matches-clause-refused
returns-in_err-matches-clause-refused c =
    words_passed c.args.tool c.name.result.now (plain_table c.table.result.now) (map string_bytes c.args.words.now) c.name.ensures c.table.ensures
    c.in_err-matches.field-0.0 c.from_residual.result c.in_err-matches.ensures.refused c.from_residual.ensures.1

pub returns : goal.returns
returns c = record {
  job = (
      jobs_are c.args.tool c.name.result.now (plain_table c.table.result.now) (map string_bytes c.args.words.now) c.name.ensures c.table.ensures
      (rows_in c.in_ok-matches.matches) c.in_ok-matches.ensures.rows c.job_of.result c.in_ok-matches.ensures.taken c.job_of.ensures.job c.job_of.ensures.lawful);
  lawful = jobs_lawful c.args.tool (rows_in c.in_ok-matches.matches) c.job_of.result c.job_of.ensures.job c.job_of.ensures.lawful;
  refused = (
      IfErr-weaker c.job_of.result _ _ (table_refused c.args.tool c.name.result.now (plain_table c.table.result.now) (map string_bytes c.args.words.now) c.name.ensures c.table.ensures
      (rows_in c.in_ok-matches.matches) c.in_ok-matches.ensures.rows) c.job_of.ensures.refused);
}
