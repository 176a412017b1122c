use Rattle.std.proofs.Common.{◌≡◌, ℕ, List, Some, IfOk, IfErr, subst}
use Rattle.std.specs.FinMap.{get}
use Rattle.outside.specs.Files.{Files}
use Rattle.cli_run_answers.specs.declared.fault.InputFault.{InputFault}
use Rattle.cli_run_answers.specs.Input.{HasFileCause}
use Rattle.cli_run_answers.proofs.Answering.{Text}
use Rattle.cli_run_answers.proofs.file.read_below.Goals as goal

pub returns : goal.returns
returns g c =
    let t = g.T.Tree.view c.args.tree.now in
    let u = g.T.Tree.view c.read_file.new.tree in
    let r = c.read_file.result in
    record {
      untouched = c.read_file.ensures.untouched;
      short = c.read_file.ensures.short;
      text = subst (λ (n : List ℕ). IfOk r (λ (text : Text). (f : Files) → t.told ≡ Some f → get f n ≡ Some text.items)) c.in_ok-placed.ensures c.read_file.ensures.text;
      cause = subst (λ (n : List ℕ). IfErr r (λ (e : InputFault). HasFileCause e t u n)) c.in_ok-placed.ensures c.read_file.ensures.cause;
    }
