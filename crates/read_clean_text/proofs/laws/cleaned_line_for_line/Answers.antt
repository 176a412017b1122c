use Rattle.read_clean_text.proofs.LineForLine.{line-for-line}
use Rattle.read_clean_text.proofs.laws.cleaned_line_for_line.Goals as goal

pub returns : goal.returns
returns c = line-for-line
