-- The names that were read are those that the words give.
use Rattle.std.specs.Prelude.{◌≡◌, List, codes, option_map, option_and_then, string_bytes}
use Rattle.clap.specs.Words.{Row}
use Rattle.outside.specs.Names.{given_form}
use Rattle.patch_options.specs.Table.{value_of, input_of, first_given, directory_of, reject_of, is_no_file}
use Rattle.patch_options.specs.declared.names.Names.{Names}
use Rattle.patch_options.specs.declared.names.Outputs.{Outputs}

pub record HasOutputs (rows : List Row) (o : Outputs) : Type 0 where
  pub output : o.output ≡ option_map given_form (value_of rows (codes "output"))
  pub reject : o.reject ≡ option_and_then reject_of (value_of rows (codes "reject-file"))
  pub no_rejects : o.no_rejects ≡ is_no_file (value_of rows (codes "reject-file"))
  pub prefix : option_map string_bytes o.prefix ≡ value_of rows (codes "prefix")
  pub base_prefix : option_map string_bytes o.base_prefix ≡ value_of rows (codes "basename-prefix")

pub record HasNames (rows : List Row) (n : Names) : Type 0 where
  pub input : n.input ≡ input_of (first_given (value_of rows (codes "input")) (value_of rows (codes "patchfile")))
  pub dir : n.dir ≡ option_and_then directory_of (value_of rows (codes "directory"))
  pub file : n.file ≡ option_map given_form (value_of rows (codes "file"))
  pub outputs : HasOutputs rows n.outputs
