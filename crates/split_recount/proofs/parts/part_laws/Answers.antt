use Rattle.split_recount.proofs.PartsInTurn.{join-back, begin-at-patches}
use Rattle.split_recount.proofs.OwnNames.{have-own-names}
use Rattle.split_recount.proofs.NamesAgain.{are-as-many, begin-at-names-again}
use Rattle.split_recount.proofs.parts.part_laws.Goals as goal

pub returns : goal.returns
returns c = record {
  join = join-back;
  begin = begin-at-patches;
  names = have-own-names;
  many = are-as-many;
  again = begin-at-names-again;
}
