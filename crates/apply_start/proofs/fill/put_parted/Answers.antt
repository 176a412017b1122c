use Rattle.std.proofs.Common.{List, ℕ, sym, ◌∙◌, ap}
use Rattle.hunk_apply.specs.Change.{change_verdicts}
use Rattle.read_file_patch.specs.PlainPatch.{change_of}
use Rattle.apply_task.specs.TaskView.{plain_task}
use Rattle.apply_start.proofs.Barring.{verdicts_free}
use Rattle.apply_start.proofs.fill.put_parted.Goals as goal

pub put_ifdef-requires-clause-placed : goal.put_ifdef-requires-clause-placed
put_ifdef-requires-clause-placed g c lines told =
    let o = c.args.task.now.options.now in
    (o.fuzz, (o.loose, c.requires.placed lines told ∙ verdicts_free (plain_task c.args.task.now).options c.args.side (plain_task c.args.task.now).item.patch lines (c.requires.open lines told) ∙ ap (λ (text : List ℕ). change_verdicts lines o.fuzz o.loose c.args.side (change_of text c.args.task.now.patch.now.change)) (sym c.text.ensures)))

pub returns-in-Ok-clause-keeps : goal.returns-in-Ok-clause-keeps
returns-in-Ok-clause-keeps g c = c.put_ifdef.ensures.keeps

pub returns-in-Ok-clause-sink : goal.returns-in-Ok-clause-sink
returns-in-Ok-clause-sink g c = c.put_ifdef.ensures.sink

pub returns-in-Ok-clause-rest : goal.returns-in-Ok-clause-rest
returns-in-Ok-clause-rest g c = c.put_ifdef.ensures.rest

pub returns-in-Err-Line-clause-keeps : goal.returns-in-Err-Line-clause-keeps
returns-in-Err-Line-clause-keeps g c = c.put_ifdef.ensures.keeps

pub returns-in-Err-Line-clause-sink : goal.returns-in-Err-Line-clause-sink
returns-in-Err-Line-clause-sink g c = c.put_ifdef.ensures.sink

pub returns-in-Err-Line-clause-rest : goal.returns-in-Err-Line-clause-rest
returns-in-Err-Line-clause-rest g c = c.put_ifdef.ensures.rest

pub returns-in-Err-Write-clause-keeps : goal.returns-in-Err-Write-clause-keeps
returns-in-Err-Write-clause-keeps g c = c.put_ifdef.ensures.keeps

pub returns-in-Err-Write-clause-sink : goal.returns-in-Err-Write-clause-sink
returns-in-Err-Write-clause-sink g c = c.put_ifdef.ensures.sink

pub returns-in-Err-Write-clause-rest : goal.returns-in-Err-Write-clause-rest
returns-in-Err-Write-clause-rest g c = c.put_ifdef.ensures.rest

pub returns-in-Err-Line-clause-received : goal.returns-in-Err-Line-clause-received
returns-in-Err-Line-clause-received g c = tt

pub returns-in-Err-Write-clause-received : goal.returns-in-Err-Write-clause-received
returns-in-Err-Write-clause-received g c = tt

pub put_ifdef-requires-clause-tried : goal.put_ifdef-requires-clause-tried
put_ifdef-requires-clause-tried g c = c.requires.tried

pub put_ifdef-requires-clause-rows : goal.put_ifdef-requires-clause-rows
put_ifdef-requires-clause-rows g c = c.requires.rows

pub put_ifdef-requires-clause-name : goal.put_ifdef-requires-clause-name
put_ifdef-requires-clause-name g c = c.requires.define
