use Rattle.std.proofs.Common.{◌∙◌, ap, option_map, option_and_then}
use Rattle.outside.specs.Names.{given_form}
use Rattle.patch_options.specs.Simple.{rows_in}
use Rattle.patch_options.specs.Table.{text_of, is_no_file, reject_of}
use Rattle.patch_options.proofs.Refusing.{output_refused, reject_refused, prefix_refused, base_prefix_refused, outputs_lawful}
use Rattle.patch_options.proofs.names.read_outputs.Goals as goal

pub returns-in-Err-clause-refused : goal.returns-in-Err-clause-refused
returns-in-Err-clause-refused c = output_refused (rows_in c.args.matches.now) c.in-Err.fault (text_of c.value_of.result) c.value_of.ensures c.in-Err.ensures.refused

pub returns-in-Err-read_reject-clause-refused : goal.returns-in-Err-read_reject-clause-refused
returns-in-Err-read_reject-clause-refused c =
    reject_refused (rows_in c.args.matches.now) c.in-Err-read_reject.fault (text_of c.value_of-2.result) c.value_of-2.ensures c.in-Err-read_reject.ensures.refused

pub returns-in-Err-read_prefix-clause-refused : goal.returns-in-Err-read_prefix-clause-refused
returns-in-Err-read_prefix-clause-refused c =
    prefix_refused (rows_in c.args.matches.now) c.in-Err-read_prefix.fault (text_of c.value_of-3.result) c.value_of-3.ensures c.in-Err-read_prefix.ensures.refused

pub returns-in-Err-read_base_prefix-clause-refused : goal.returns-in-Err-read_base_prefix-clause-refused
returns-in-Err-read_base_prefix-clause-refused c =
    base_prefix_refused (rows_in c.args.matches.now) c.in-Err-read_base_prefix.fault (text_of c.value_of-4.result) c.value_of-4.ensures c.in-Err-read_base_prefix.ensures.refused

pub returns-in-Ok-read_base_prefix-clause-outputs : goal.returns-in-Ok-read_base_prefix-clause-outputs
returns-in-Ok-read_base_prefix-clause-outputs c = record {
  output = c.in-Ok.ensures.name ∙ ap (option_map given_form) c.value_of.ensures;
  reject = c.in-Ok-read_reject.ensures.name ∙ ap (λ v. option_and_then reject_of v) c.value_of-2.ensures;
  no_rejects = c.is_no_file.ensures ∙ ap is_no_file c.value_of-in-Ok-read_base_prefix.ensures;
  prefix = c.in-Ok-read_prefix.ensures.prefix ∙ c.value_of-3.ensures;
  base_prefix = c.in-Ok-read_base_prefix.ensures.prefix ∙ c.value_of-4.ensures;
}

pub returns-in-Ok-read_base_prefix-clause-lawful : goal.returns-in-Ok-read_base_prefix-clause-lawful
returns-in-Ok-read_base_prefix-clause-lawful c =
    outputs_lawful (rows_in c.args.matches.now) c.value_of.ensures c.in-Ok.ensures.lawful c.value_of-2.ensures c.in-Ok-read_reject.ensures.lawful c.value_of-3.ensures c.in-Ok-read_prefix.ensures.lawful c.value_of-4.ensures c.in-Ok-read_base_prefix.ensures.lawful
