use Rattle.reject_text.proofs.Nets.{nets-in-words}
use Rattle.reject_text.proofs.moving.nets_laws.Goals as goal

pub returns : goal.returns
returns c = nets-in-words
