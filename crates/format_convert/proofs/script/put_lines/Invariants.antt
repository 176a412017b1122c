use Rattle.std.proofs.Common.{drop}
use Rattle.ed_form.specs.PlainEdit.{lines_of}
use Rattle.format_convert.specs.Runs.{text_lines}
use Rattle.format_convert.proofs.Parts.{Written}
use Rattle.format_convert.proofs.script.put_lines.Given as goal

abbrev pub invariant-loop-i : goal.invariant-loop-i
invariant-loop-i g l = Written g.O.Sink.view g.O.Sink.same_rest l.fn.out l.out (text_lines l.behind (lines_of l.text l.edit.added.items)) (text_lines l.behind (lines_of l.text (drop l.i l.edit.added.items)))
