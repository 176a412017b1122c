use Rattle.std.proofs.Common.{ap, subst, sym, ◌∙◌}
use Rattle.regex.specs.Bytes.{regex_pattern, regex_source}
use Rattle.regex.specs.declared.bytes.regex.Regex.{Regex}
use Rattle.patch_filters.specs.RegexFound.{IsAsWritten}
use Rattle.patch_filters.proofs.AsWritten.{as-written}
use Rattle.patch_filters.proofs.Refusals.{no-room, other-cause, taken}
use Rattle.patch_filters.proofs.regex_finder.read.Goals as goal

pub returns-in-Ok-new-clause-as_written : goal.returns-in-Ok-new-clause-as_written
returns-in-Ok-new-clause-as_written c =
    subst (λ (r : Regex). IsAsWritten (regex_source r) (regex_pattern r)) (sym (c.leak.ensures.value ∙ c.in-Ok-new.ensures.ok))
    (as-written c.in-Ok.regex c.in-Ok.ensures.config c.in-Ok.ensures.read)

pub returns-in-Ok-new-clause-source : goal.returns-in-Ok-new-clause-source
returns-in-Ok-new-clause-source c = ap regex_source (c.leak.ensures.value ∙ c.in-Ok-new.ensures.ok) ∙ c.in-Ok.ensures.source

pub returns-in-Ok-new-clause-refused : goal.returns-in-Ok-new-clause-refused
returns-in-Ok-new-clause-refused c = λ is. taken _ _ is

pub returns-in-Ok-clause-refused : goal.returns-in-Ok-clause-refused
returns-in-Ok-clause-refused c = λ is. no-room is

pub returns-clause-refused : goal.returns-clause-refused
returns-clause-refused c = λ is. record { error = c.in-Err.error; no_memory = other-cause c.fault_of.result c.in-Err.error c.fault_of.ensures.1 is; grammar = c.in-Err.ensures.refused; kind = c.in-Err.ensures.kind }
