-- How the made files are put, one after another.
use Rattle.std.specs.Prelude.{List, Result, IsErr, OnOk}
use Rattle.outside.specs.TreeView.{TreeView, Passes, Rises}
use Rattle.outside.specs.Calls.{Becomes}
use Rattle.outside.specs.Quiet.{Effect, IsQuiet, TellsEither, TellsPrefix, LeavesEitherSince, LeavesPrefix, after, after_all}
use Rattle.apply_task.specs.Making.{IsTidy}

-- one effect over a quiet tree
pub record PutsOne {R E : Type 0} (e : Effect) (t u : TreeView) (result : Result R E) : Type 0 where
  pub tree : Passes t u
  pub cause : IsErr result → Rises t u
  pub quiet : OnOk result (IsQuiet u)
  pub done : OnOk result (Becomes t u (after e))
  pub tidy : OnOk result (IsTidy t u)
  pub tells : TellsEither t u (after e)
  pub leaves : LeavesEitherSince t u (after e)

-- these effects over a quiet tree: whole on `Ok`, and else a first part of them
pub record PutsAll {R E : Type 0} (es : List Effect) (t u : TreeView) (result : Result R E) : Type 0 where
  pub tree : Passes t u
  pub cause : IsErr result → Rises t u
  pub quiet : OnOk result (IsQuiet u)
  pub done : OnOk result (Becomes t u (after_all es))
  pub tidy : OnOk result (IsTidy t u)
  pub tells : TellsPrefix t u es
  pub leaves : LeavesPrefix t u es
