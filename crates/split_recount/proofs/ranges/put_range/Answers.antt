use Rattle.std.proofs.lemmas.Result.{IfOk-from_err, on_ok_weaker}
use Rattle.split_recount.proofs.Put.{put-one, put-two}
use Rattle.split_recount.proofs.ranges.put_range.Goals as goal

pub returns-then-range-eq1 : goal.returns-then-range-eq1
returns-then-range-eq1 c = put-one c.args.out.now.items c.put_count.new.out.items c.args.range.start c.args.range.count c.if-range-eq1.true c.in_ok-put_count.ensures

pub returns-in_err-push : goal.returns-in_err-push
returns-in_err-push c = IfOk-from_err c.from_residual-in_err-push.result _ c.from_residual-in_err-push.ensures.0

pub returns : goal.returns
returns c =
    on_ok_weaker c.put_count-2.result (put-two c.args.out.now.items c.put_count.new.out.items c.push.new.self.items c.put_count-2.new.out.items c.args.range.start c.args.range.count c.if-range-eq1.false c.in_ok-put_count.ensures c.in_ok-push.ensures.items)
    c.put_count-2.ensures
