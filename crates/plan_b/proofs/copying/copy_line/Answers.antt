use Rattle.plan_b.proofs.copying.copy_line.Goals as goal

pub put_record-requires-clause-ready : goal.put_record-requires-clause-ready
put_record-requires-clause-ready g c = c.requires.ready
