use Rattle.std.proofs.Common.{ℕ, sym, ap, ◌∙◌}
use Rattle.hunk_core.specs.declared.Side.TheVariants.{Forward}
use Rattle.hunk_core.proofs.TurnedLemmas.{turned-count}
use Rattle.unified_form.specs.declared.hunk_scan.OldRange.{OldRange}
use Rattle.read_patch_text.proofs.digest.old_range.Goals as goal

abbrev range_of : ℕ → ℕ → OldRange
range_of start count = record { start = start; count = count }

pub returns : goal.returns
returns c = λ text. ap (range_of c.args.hunk.now.old_start) (c.count.ensures ∙ sym (turned-count text Forward c.args.hunk.now))
