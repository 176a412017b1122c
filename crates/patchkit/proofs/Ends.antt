-- How an answer is passed on, and its line written.
use Rattle.std.proofs.Common.{◌≡◌, ℕ, List, Bool, Option, None, sym, subst}
use Rattle.outside.specs.FinderView.{FinderView}
use Rattle.outside.specs.SinkView.{SinkView}
use Rattle.outside.specs.SourceView.{SourceView}
use Rattle.outside.specs.TreeView.{TreeView}
use Rattle.patch_run.specs.Applied.{Receipt}
use Rattle.cli_run_answers.specs.declared.why.Why.{Why}
use Rattle.cli_stack.specs.InTurn.{Runs}
use Rattle.patchkit.specs.Runs.{Devices, RunsFilter}

-- what a filter does, by the names of its answer
pub runs_as : {T C F I O : Type 0} {tree : T → TreeView} {finder : F → FinderView} {input : I → SourceView} {out : O → SinkView} {words : List (List ℕ)} {d e : Devices T C F I O} {why : Why} (y : Why) (given : Option Receipt) → y ≡ why → given ≡ None
    → RunsFilter tree finder input out words d e why None → RunsFilter tree finder input out words d e y given
runs_as {tree = tree} {finder = finder} {input = input} {out = out} {words = words} {d = d} {e = e} {why = why} y given is none runs =
    subst (λ (x : Why). RunsFilter tree finder input out words d e x given) (sym is) (subst (λ (x : Option Receipt). RunsFilter tree finder input out words d e why x) (sym none) runs)

-- what a stack's commands do, by the name of its answer
pub ends_as : {D : Type 0} (all : Bool) (R : D → D → Why → Type 0) (d e : D) (y why : Why) → y ≡ why → Runs all R d e why → Runs all R d e y
ends_as all R d e y why is run = subst (λ (x : Why). Runs all R d e x) (sym is) run
