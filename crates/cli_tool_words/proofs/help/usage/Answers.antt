use Rattle.std.proofs.lemmas.Result.{IfOk-weaker}
use Rattle.cli_tool_words.proofs.help.usage.Goals as goal

pub returns : goal.returns
returns c =
    IfOk-weaker c.usage_of.result _ _ (λ text h. record { front = c.front.result.now; groups = c.table.result.now; behind = _; all = c.table.ensures; is = h }) c.usage_of.ensures
