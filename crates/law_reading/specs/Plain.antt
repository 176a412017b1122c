-- Options that take each file patch for the file that its header names.
use Rattle.std.specs.Prelude.{◌≡◌, false, None, Some}
use Rattle.patch_options.specs.PlainJob.{PlainOptions}

-- no name is stripped, given or formed otherwise, and nothing is turned round
pub record TakesNames (o : PlainOptions) : Type 0 where
  pub only : o.only ≡ None
  pub strip : o.strip ≡ Some 0
  pub file : o.file ≡ None
  pub dir : o.dir ≡ None
  pub output : o.output ≡ None
  pub reject : o.reject ≡ None
  pub prefix : o.prefix ≡ None
  pub base_prefix : o.base_prefix ≡ None
  pub suffix : o.suffix ≡ None
  pub reverse : o.reverse ≡ false
