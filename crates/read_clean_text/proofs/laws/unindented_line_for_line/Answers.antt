use Rattle.line_list.specs.Lines.{lines}
use Rattle.read_clean_text.proofs.IndentLines.{indent-blank, unindented-lines}
use Rattle.read_clean_text.proofs.laws.unindented_line_for_line.Goals as goal

pub returns : goal.returns
returns c = record { lines = unindented-lines; blanks = λ text. indent-blank (lines text) }
