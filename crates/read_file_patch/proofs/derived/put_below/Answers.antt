use Rattle.std.proofs.Common.{ap, ◌∙◌}
use Rattle.outside.specs.Files.{temp_of}
use Rattle.read_file_patch.proofs.derived.put_below.Goals as goal

pub returns-clause-name : goal.returns-clause-name
returns-clause-name c = c.in_ok-name.ensures

pub returns-clause-temp : goal.returns-clause-temp
returns-clause-temp c = c.in_ok-temporary.ensures.text ∙ ap temp_of c.in_ok-name.ensures

pub returns-clause-temporary : goal.returns-clause-temporary
returns-clause-temporary c = c.in_ok-temporary.ensures.temp

pub returns-clause-shown : goal.returns-clause-shown
returns-clause-shown c = c.shown_from-shown_from.ensures
