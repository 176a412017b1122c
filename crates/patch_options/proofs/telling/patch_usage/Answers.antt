use Rattle.std.proofs.lemmas.Result.{IfOk-weaker}
use Rattle.patch_options.proofs.telling.patch_usage.Goals as goal

pub returns : goal.returns
returns c =
    IfOk-weaker c.usage_of.result _ _ (λ text h. record { front = _; groups = c.patch_table.result.now; behind = _; all = c.patch_table.ensures; is = h }) c.usage_of.ensures
