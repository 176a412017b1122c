use Rattle.std.proofs.Common.{subst, drop}
use Rattle.line_list.specs.Lines.{lines}
use Rattle.hunk_core.specs.Reading.{Gives}
use Rattle.ed_form.specs.Scripts.{read_of}
use Rattle.ed_form.proofs.Pieces.{is_found, reading_again}
use Rattle.ed_form.proofs.Lawful.{is_within, is_piece, is_lawful}
use Rattle.ed_form.proofs.script.read_script.Goals as goal

pub returns-clause-within : goal.returns-clause-within
returns-clause-within c = is_within c.args.text.now c.args.at c.args.line c.read_all.result c.requires.opens c.read_all.ensures.within c.read_all.ensures.exact

pub returns-clause-piece : goal.returns-clause-piece
returns-clause-piece c = is_piece c.args.text.now c.args.at c.args.line c.read_all.result c.read_all.ensures.start c.read_all.ensures.within c.read_all.ensures.exact

pub returns-clause-lawful : goal.returns-clause-lawful
returns-clause-lawful c = is_lawful c.args.text.now c.args.at c.args.line c.read_all.result c.requires.opens c.requires.short c.read_all.ensures.few c.read_all.ensures.lies c.read_all.ensures.exact

pub returns-clause-found : goal.returns-clause-found
returns-clause-found c = is_found (read_of c.args.text.now) c.args.line (lines (drop c.args.at c.args.text.now)) c.read_all.result c.read_all.ensures.exact

pub returns-clause-only : goal.returns-clause-only
returns-clause-only c = λ es next rest p. subst (λ f. Gives (read_of c.args.text.now) c.read_all.result f) (reading_again c.args.line (lines (drop c.args.at c.args.text.now)) es next rest p) c.read_all.ensures.exact
