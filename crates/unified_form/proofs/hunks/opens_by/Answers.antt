use Rattle.unified_form.proofs.hunks.opens_by.Goals as goal

pub returns-in-None-clause-feeds : goal.returns-in-None-clause-feeds
returns-in-None-clause-feeds c = c.next_line_by.ensures.feeds

pub returns-in-Some-clause-feeds : goal.returns-in-Some-clause-feeds
returns-in-Some-clause-feeds c = c.next_line_by.ensures.feeds
