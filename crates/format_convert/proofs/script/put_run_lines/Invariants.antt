use Rattle.std.proofs.Common.{◌≡◌, ◌≤◌, length}
use Rattle.ed_form.specs.PlainEdit.{edits_of}
use Rattle.format_convert.specs.Commands.{ed_lines}
use Rattle.format_convert.specs.Runs.{run_adds}
use Rattle.format_convert.proofs.Parts.{Written}
use Rattle.format_convert.proofs.script.put_run_lines.Given as goal

abbrev pub invariant-loop-i : goal.invariant-loop-i
invariant-loop-i g l = record {
  put : Written g.O.Sink.view g.O.Sink.same_rest l.fn.out l.out (ed_lines (run_adds (edits_of l.text l.script.edits.items) l.fn.run.from l.end)) (ed_lines (run_adds (edits_of l.text l.script.edits.items) l.fn.run.from l.i));
  from : l.fn.run.from ≤ l.i;
  left : l.left ≡ length (run_adds (edits_of l.text l.script.edits.items) l.fn.run.from l.i);
}
