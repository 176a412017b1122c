use Rattle.ed_form.proofs.added.read_added.Goals as goal

pub returns-in-Add-clause-place : goal.returns-in-Add-clause-place
returns-in-Add-clause-place c = c.read_text.ensures.place

pub returns-in-Add-clause-few : goal.returns-in-Add-clause-few
returns-in-Add-clause-few c = c.read_text.ensures.few

pub returns-in-Add-clause-lies : goal.returns-in-Add-clause-lies
returns-in-Add-clause-lies c = c.read_text.ensures.lies
