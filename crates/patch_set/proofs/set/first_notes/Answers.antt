use Rattle.std.proofs.Common.{replicate, ap, ◌∙◌}
use Rattle.hunk_core.specs.declared.Verdict.TheVariants.{Untried}
use Rattle.outside.proofs.Exits.{if_ok_none}
use Rattle.patch_set.proofs.set.first_notes.Goals as goal

pub returns-clause-first : goal.returns-clause-first
returns-clause-first c = record {
  skipped = c.in_ok-skipped.ensures;
  verdicts = c.in_ok-verdicts.ensures ∙ ap (λ n. replicate n Untried) c.hunks_in.ensures;
  rows = c.in_ok-rows.ensures;
  marks = c.in_ok-marks.ensures.blank;
}

pub returns-clause-asked : goal.returns-clause-asked
returns-clause-asked c = c.in_ok-marks.ensures.asked

pub returns-in_err-skipped : goal.returns-in_err-skipped
returns-in_err-skipped c = record {
  first = if_ok_none _ _ c.from_residual.result c.from_residual.ensures.1;
  asked = if_ok_none _ _ c.from_residual.result c.from_residual.ensures.1;
}

pub returns-in_err-verdicts : goal.returns-in_err-verdicts
returns-in_err-verdicts c = record {
  first = if_ok_none _ _ c.from_residual-in_err-verdicts.result c.from_residual-in_err-verdicts.ensures.1;
  asked = if_ok_none _ _ c.from_residual-in_err-verdicts.result c.from_residual-in_err-verdicts.ensures.1;
}

pub returns-in_err-rows : goal.returns-in_err-rows
returns-in_err-rows c = record {
  first = if_ok_none _ _ c.from_residual-in_err-rows.result c.from_residual-in_err-rows.ensures.1;
  asked = if_ok_none _ _ c.from_residual-in_err-rows.result c.from_residual-in_err-rows.ensures.1;
}

pub returns-in_err-marks : goal.returns-in_err-marks
returns-in_err-marks c = record {
  first = if_ok_none _ _ c.from_residual-in_err-marks.result c.from_residual-in_err-marks.ensures.1;
  asked = if_ok_none _ _ c.from_residual-in_err-marks.result c.from_residual-in_err-marks.ensures.1;
}

pub hunks_in-requires : goal.hunks_in-requires
hunks_in-requires c = c.requires.hunks

pub skipped_changes-requires : goal.skipped_changes-requires
skipped_changes-requires c = c.requires.regions
