use Rattle.std.proofs.Common.{◌≡◌, ℕ, List, Some, None, ◌∙◌, ap}
use Rattle.std.proofs.lemmas.Result.{IfOk-weaker}
use Rattle.outside.specs.Names.{placed}
use Rattle.cli_tool_words.specs.PlainJobs.{plain_split_job}
use Rattle.filter_whole_text.specs.PartNames.{own_name}
use Rattle.filter_whole_text.proofs.NameLoops.{own-is}
use Rattle.filter_whole_text.proofs.naming.own_name.Goals as goal

pub returns-in-Some : goal.returns-in-Some
returns-in-Some c =
    let j = plain_split_job c.args.job.now in
    IfOk-weaker c.below.result (λ name. name ≡ placed c.in-Some.directory c.in_ok-name.name) (λ name. name ≡ own_name j c.args.marked c.args.number c.args.stem.now)
    (λ name is. is ∙ ap (λ (l : List ℕ). placed c.in-Some.directory l) c.in_ok-name.ensures ∙ own-is j c.args.marked c.args.number c.args.stem.now (Some c.in-Some.directory) c.in-Some.is)
    c.below.ensures.text

pub returns-in-None : goal.returns-in-None
returns-in-None c = c.in_ok-name.ensures ∙ own-is (plain_split_job c.args.job.now) c.args.marked c.args.number c.args.stem.now None c.in-None.is
