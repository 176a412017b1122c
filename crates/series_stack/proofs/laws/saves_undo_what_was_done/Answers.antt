use Rattle.series_stack.proofs.Undoing.{undone, still_beside}
use Rattle.series_stack.proofs.laws.saves_undo_what_was_done.Goals as goal

pub returns : goal.returns
returns c = record {
  undone = λ names f g same. undone names f g same;
  stopped = λ names f g h k same left. still_beside names f g h k same left;
}
