use Rattle.std.proofs.Common.{◌∙◌, ap}
use Rattle.patch_options.specs.Simple.{rows_in}
use Rattle.cli_tool_words.specs.PlainJobs.PlainToolJob.{list_job}
use Rattle.cli_tool_words.specs.Showing.{shown_of}
use Rattle.cli_tool_words.proofs.listing.list_of.Goals as goal

pub returns-in-Err : goal.returns-in-Err
returns-in-Err c = record {
  job = tt;
  lawful = tt;
  refused = c.in-Err.ensures.refused;
}

pub returns-in-Ok-clause-job : goal.returns-in-Ok-clause-job
returns-in-Ok-clause-job c = λ i. list_job (record {
  input = c.in-Ok.ensures.input i;
  select = c.in-Ok.ensures.select i;
  shown = (c.in-Ok.ensures.shown ∙ ap (shown_of (rows_in c.args.matches.now)) c.is_empty_absent.ensures) i;
  number_files = c.in-Ok.ensures.numbered i;
})

pub returns-in-Ok-clause-lawful : goal.returns-in-Ok-clause-lawful
returns-in-Ok-clause-lawful c = c.in-Ok.ensures.lawful

pub returns-in-Ok-clause-refused : goal.returns-in-Ok-clause-refused
returns-in-Ok-clause-refused c = tt
