use Rattle.split_recount.proofs.Bounds.{one-fits}
use Rattle.split_recount.proofs.body.one_more.Goals as goal

pub overflow_add-result-in-Some-Keep : goal.overflow_add-result-in-Some-Keep
overflow_add-result-in-Some-Keep c = one-fits _ c.requires.new

pub overflow_add-result-in-Some-Drop : goal.overflow_add-result-in-Some-Drop
overflow_add-result-in-Some-Drop c = one-fits _ c.requires.old

pub overflow_add-result-in-Some-Add : goal.overflow_add-result-in-Some-Add
overflow_add-result-in-Some-Add c = one-fits _ c.requires.new

pub overflow_add-result : goal.overflow_add-result
overflow_add-result c = one-fits _ c.requires.old
