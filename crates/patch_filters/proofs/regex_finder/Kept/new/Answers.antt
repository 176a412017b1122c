use Rattle.std.proofs.Common.{◌∙◌}
use Rattle.patch_filters.proofs.Refusals.{handed-on, no-room, taken}
use Rattle.patch_filters.proofs.regex_finder.Kept.new.Goals as goal

pub invariant_of-result : goal.invariant_of-result
invariant_of-result c = record { as_written = rw (c.in-Ok.ensures.pattern, c.as_str.ensures) c.in_ok-regex.ensures.as_written }

pub returns-in-Ok-clause-source : goal.returns-in-Ok-clause-source
returns-in-Ok-clause-source c = c.as_str.ensures ∙ c.in_ok-regex.ensures.source

pub returns-in-Ok-clause-refused : goal.returns-in-Ok-clause-refused
returns-in-Ok-clause-refused c = λ is. taken _ _ is

pub returns-in-Err-clause-refused : goal.returns-in-Err-clause-refused
returns-in-Err-clause-refused c = λ is. no-room is

pub returns-in_err-regex-clause-refused : goal.returns-in_err-regex-clause-refused
returns-in_err-regex-clause-refused c = handed-on c.from_residual.result c.in_err-regex.field-0.0 c.from_residual.ensures.1 c.in_err-regex.ensures.refused
