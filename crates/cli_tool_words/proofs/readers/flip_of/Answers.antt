use Rattle.std.proofs.Common.{ap}
use Rattle.clap.proofs.TakesLemmas.{passed_up}
use Rattle.outside.proofs.Exits.{if_ok_none}
use Rattle.patch_options.specs.declared.options.Input.{Input}
use Rattle.cli_tool_words.specs.PlainJobs.PlainToolJob.{flip_job}
use Rattle.cli_tool_words.proofs.readers.flip_of.Goals as goal

pub returns-in_err-read_operand : goal.returns-in_err-read_operand
returns-in_err-read_operand c = record {
  job = if_ok_none _ _ c.from_residual.result c.from_residual.ensures.1;
  lawful = if_ok_none _ _ c.from_residual.result c.from_residual.ensures.1;
  refused = passed_up c.from_residual.result c.in_err-read_operand.field-0.0 _ c.from_residual.ensures.1 c.in_err-read_operand.ensures.refused;
}

pub returns : goal.returns
returns c = record { job = ap (λ (i : Input). flip_job i) c.in_ok-read_operand.ensures.input; lawful = c.in_ok-read_operand.ensures.lawful; refused = tt }
