use Rattle.std.proofs.Common.{◌∙◌, ap, sym, not, codes}
use Rattle.patch_options.specs.Simple.{rows_in}
use Rattle.patch_options.specs.Table.{is_used}
use Rattle.patch_options.proofs.Jobs.{if_true, if_false}
use Rattle.patch_options.proofs.table.mismatch_backup.Goals as goal

pub returns-then-is_used : goal.returns-then-is_used
returns-then-is_used c = c.is_used-then-is_used.ensures ∙ sym (if_true (is_used (rows_in c.args.matches.now) (codes "posix")) (is_used (rows_in c.args.matches.now) (codes "backup-if-mismatch")) (not (is_used (rows_in c.args.matches.now) (codes "no-backup-if-mismatch"))) (sym c.is_used.ensures ∙ c.if-is_used.true))

pub returns-else-is_used : goal.returns-else-is_used
returns-else-is_used c = ap not c.is_used-else-is_used.ensures ∙ sym (if_false (is_used (rows_in c.args.matches.now) (codes "posix")) (is_used (rows_in c.args.matches.now) (codes "backup-if-mismatch")) (not (is_used (rows_in c.args.matches.now) (codes "no-backup-if-mismatch"))) (sym c.is_used.ensures ∙ c.if-is_used.false))
