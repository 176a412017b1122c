use Rattle.std.proofs.Common.{◌+◌, sym, ◌∙◌}
use Rattle.std.proofs.lemmas.List.{take_rest}
use Rattle.read_file_patch.proofs.Stripping.{last-found, last-missing}
use Rattle.read_file_patch.proofs.strip.last_component.Goals as goal

pub returns-in-Some : goal.returns-in-Some
returns-in-Some c = take_rest c.args.text.now (c.in-Some.at + 1) ∙ sym (last-found c.args.text.now c.in-Some.at c.in-Some.ensures.0 c.in-Some.ensures.1)

pub returns-in-None : goal.returns-in-None
returns-in-None c = sym (last-missing c.args.text.now c.in-None.ensures)
