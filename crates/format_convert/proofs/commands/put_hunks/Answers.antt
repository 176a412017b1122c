use Rattle.std.proofs.Common.{ℕ, List, [], sym, ap, subst}
use Rattle.hunk_core.specs.declared.Form.{Form}
use Rattle.outside.specs.Puts.{Puts}
use Rattle.outside.proofs.SinkSteps.{HasPut, has-none, puts-done}
use Rattle.read_file_patch.specs.PlainPatch.{hunks}
use Rattle.format_convert.specs.Commands.{command_text}
use Rattle.format_convert.specs.Walk.{left_hunks}
use Rattle.format_convert.proofs.commands.put_hunks.Goals as goal

pub returns-in-Unified : goal.returns-in-Unified
returns-in-Unified g c = puts-done _ (subst (λ (bs : List ℕ). HasPut g.O.Sink.view g.O.Sink.same_rest c.args.out.now c.args.out.now bs) (ap (λ (f : Form). command_text f (hunks (left_hunks c.args.kept))) (sym c.in-Unified.is)) (has-none g.met.O.Sink.rest_none c.args.out.now))

pub returns-in-Context : goal.returns-in-Context
returns-in-Context g c = puts-done _ (subst (λ (bs : List ℕ). HasPut g.O.Sink.view g.O.Sink.same_rest c.args.out.now c.args.out.now bs) (ap (λ (f : Form). command_text f (hunks (left_hunks c.args.kept))) (sym c.in-Context.is)) (has-none g.met.O.Sink.rest_none c.args.out.now))

pub returns-in-Normal : goal.returns-in-Normal
returns-in-Normal g c = subst (λ (bs : List ℕ). Puts g.O.Sink.view g.O.Sink.same_rest c.args.out.now c.put_normal.new.out c.put_normal.result bs) (ap (λ (f : Form). command_text f (hunks (left_hunks c.args.kept))) (sym c.in-Normal.is)) c.put_normal.ensures

pub returns-in-Ed : goal.returns-in-Ed
returns-in-Ed g c = subst (λ (bs : List ℕ). Puts g.O.Sink.view g.O.Sink.same_rest c.args.out.now c.put_ed.new.out c.put_ed.result bs) (ap (λ (f : Form). command_text f (hunks (left_hunks c.args.kept))) (sym c.in-Ed.is)) c.put_ed.ensures
