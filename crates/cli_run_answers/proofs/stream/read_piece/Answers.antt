use Rattle.std.proofs.Common.{rules, ◌≤◌, ◌<◌, length, take, arith}
use Rattle.std.proofs.lemmas.Grind.{common_steps}
use Rattle.cli_run_answers.proofs.Taking.{takes-front, end-found}
use Rattle.cli_run_answers.proofs.stream.read_piece.Goals as goal

pub returns-clause-bytes : goal.returns-clause-bytes
returns-clause-bytes g c =
    let le : c.in_ok-count.count ≤ length c.read.new.buf = search rules in
    takes-front _ _ c.in_ok-count.count c.read.new.buf _ c.read.ensures.call.passes le c.in_ok-count.ensures.bytes c.in_ok-count.ensures.left

pub returns-clause-end : goal.returns-clause-end
returns-clause-end g c = λ none.
    let some : 0 < length (take c.min-room.result c.args.piece.now) = grind (arith, common_steps, c.requires.some, c.requires.more, c.min-room.ensures) in
    let end = c.in_ok-count.ensures.end none some in
    end-found _ _ c.in_ok-count.count c.read.ensures.call.passes end c.in_ok-count.ensures.left
