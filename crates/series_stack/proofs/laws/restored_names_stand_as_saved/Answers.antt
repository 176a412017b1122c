use Rattle.series_stack.proofs.Meaning.{restored-at}
use Rattle.series_stack.proofs.laws.restored_names_stand_as_saved.Goals as goal

pub returns : goal.returns
returns c = λ es f q lasting. restored-at es f q lasting
