use Rattle.std.proofs.Common.{refl, sym}
use Rattle.cli_tool_words.proofs.selecting.read_operand.Goals as goal

pub returns-in-Some : goal.returns-in-Some
returns-in-Some c = rw (sym c.in-Some.ensures) c.input_of.ensures

pub returns-in-None : goal.returns-in-None
returns-in-None c = rw (sym c.in-None.ensures) (record { input = refl; lawful = refl; refused = tt })
