use Rattle.std.proofs.Common.{subst, drop}
use Rattle.line_list.specs.Lines.{lines}
use Rattle.hunk_core.specs.Reading.{Gives}
use Rattle.hunk_core.specs.Pieces.{read_of}
use Rattle.normal_form.proofs.Pieces.{is_found, reading_again}
use Rattle.normal_form.proofs.hunks.read_hunks.Goals as goal

pub returns-clause-found : goal.returns-clause-found
returns-clause-found c = is_found (read_of c.args.text.now) c.args.line (lines (drop c.args.at c.args.text.now)) c.read_whole.result c.requires.opens c.read_whole.ensures.exact

pub returns-clause-only : goal.returns-clause-only
returns-clause-only c = λ hs next rest p. subst (λ f. Gives (read_of c.args.text.now) c.read_whole.result f) (reading_again c.args.line (lines (drop c.args.at c.args.text.now)) hs next rest p) c.read_whole.ensures.exact
