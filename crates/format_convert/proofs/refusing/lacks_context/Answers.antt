use Rattle.std.proofs.Common.{Bool, ◌&&◌, not, ap, sym, ◌∙◌}
use Rattle.read_file_patch.specs.declared.Change.{Change}
use Rattle.read_file_patch.specs.PlainPatch.{change_of}
use Rattle.format_convert.specs.Refusals.{change_lacks, shows_context}
use Rattle.format_convert.proofs.refusing.lacks_context.Goals as goal

pub returns-then-is_normal : goal.returns-then-is_normal
returns-then-is_normal c = λ text.
    c.shows_context.ensures ∙ ap (λ (b : Bool). b && shows_context c.args.form) (sym c.if-is_normal.true ∙ c.is_normal.ensures)
    ∙ sym (ap (λ (ch : Change). change_lacks c.args.form c.args.patch.now.header.form (change_of text ch)) c.in-Hunks.is)

pub returns-else-is_normal : goal.returns-else-is_normal
returns-else-is_normal c = λ text.
    c.if-is_normal.false ∙ ap (λ (b : Bool). b && shows_context c.args.form) (sym c.if-is_normal.false ∙ c.is_normal.ensures)
    ∙ sym (ap (λ (ch : Change). change_lacks c.args.form c.args.patch.now.header.form (change_of text ch)) c.in-Hunks.is)

pub returns-in-Script : goal.returns-in-Script
returns-in-Script c = λ text. ap not c.is_ed.ensures ∙ sym (ap (λ (ch : Change). change_lacks c.args.form c.args.patch.now.header.form (change_of text ch)) c.in-Script.is)
