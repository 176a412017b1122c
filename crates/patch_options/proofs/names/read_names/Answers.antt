use Rattle.std.proofs.Common.{◌∙◌, ap, codes, option_map, option_and_then}
use Rattle.outside.specs.Names.{given_form}
use Rattle.patch_options.specs.Simple.{rows_in}
use Rattle.patch_options.specs.Table.{value_of, text_of, input_of, first_given, directory_of}
use Rattle.patch_options.proofs.Refusing.{input_refused, directory_refused, file_refused, outputs_refused, names_lawful}
use Rattle.patch_options.proofs.names.read_names.Goals as goal

pub returns-in-Err-clause-refused : goal.returns-in-Err-clause-refused
returns-in-Err-clause-refused c = input_refused (rows_in c.args.matches.now) c.in-Err.fault c.value_of.ensures c.value_of-2.ensures c.in-Err.ensures.refused

pub returns-in-Err-read_directory-clause-refused : goal.returns-in-Err-read_directory-clause-refused
returns-in-Err-read_directory-clause-refused c = directory_refused (rows_in c.args.matches.now) c.in-Err-read_directory.fault c.value_of-3.ensures c.in-Err-read_directory.ensures.refused

pub returns-in-Err-read_lasting_name-clause-refused : goal.returns-in-Err-read_lasting_name-clause-refused
returns-in-Err-read_lasting_name-clause-refused c = file_refused (rows_in c.args.matches.now) c.in-Err-read_lasting_name.fault c.value_of-4.ensures c.in-Err-read_lasting_name.ensures.refused

pub returns-in-Err-read_outputs-clause-refused : goal.returns-in-Err-read_outputs-clause-refused
returns-in-Err-read_outputs-clause-refused c = outputs_refused (rows_in c.args.matches.now) c.in-Err-read_outputs.fault c.in-Err-read_outputs.ensures.refused

pub returns-in-Ok-read_outputs-clause-names : goal.returns-in-Ok-read_outputs-clause-names
returns-in-Ok-read_outputs-clause-names c = record {
  input = c.in-Ok.ensures.input ∙ (ap (λ i. input_of (first_given i (text_of c.value_of-2.result))) c.value_of.ensures ∙ ap (λ o. input_of (first_given (value_of (rows_in c.args.matches.now) (codes "input")) o)) c.value_of-2.ensures);
  dir = c.in-Ok-read_directory.ensures.name ∙ ap (λ v. option_and_then directory_of v) c.value_of-3.ensures;
  file = c.in-Ok-read_lasting_name.ensures.name ∙ ap (option_map given_form) c.value_of-4.ensures;
  outputs = c.in-Ok-read_outputs.ensures.outputs;
}

pub returns-in-Ok-read_outputs-clause-lawful : goal.returns-in-Ok-read_outputs-clause-lawful
returns-in-Ok-read_outputs-clause-lawful c =
    names_lawful (rows_in c.args.matches.now) c.value_of.ensures c.value_of-2.ensures c.in-Ok.ensures.lawful c.value_of-3.ensures c.in-Ok-read_directory.ensures.lawful c.value_of-4.ensures c.in-Ok-read_lasting_name.ensures.lawful c.in-Ok-read_outputs.ensures.lawful
