use Rattle.packed_pages.proofs.walking.find_record.Goals as goal

pub keep-requires-clause-marks : goal.keep-requires-clause-marks
keep-requires-clause-marks c = c.loop-now.invariant.marks

pub returns-in-Err-clause-marks : goal.returns-in-Err-clause-marks
returns-in-Err-clause-marks c = c.loop-now.invariant.marks

pub returns-in-Ok-clause-marks : goal.returns-in-Ok-clause-marks
returns-in-Ok-clause-marks c = c.loop-now.invariant.marks
