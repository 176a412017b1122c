use Rattle.std.proofs.Common.{refl, inr, sym}
use Rattle.cli_tool_words.proofs.splitting.split_input.Goals as goal

pub returns-in-Some : goal.returns-in-Some
returns-in-Some c = rw (sym c.in-Some.ensures) c.split_file.ensures

pub returns-in-None : goal.returns-in-None
returns-in-None c = rw (sym c.in-None.ensures) (record { name = tt; lawful = tt; refused = inr (refl, refl) })
