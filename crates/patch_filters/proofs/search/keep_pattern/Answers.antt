use Rattle.patch_filters.proofs.search.keep_pattern.Goals as goal

pub returns-in-Err-Refused-clause-cause : goal.returns-in-Err-Refused-clause-cause
returns-in-Err-Refused-clause-cause g c = (rw c.in-Err-Refused.field-0-is at c.in-Err-Refused.ensures.set).0
