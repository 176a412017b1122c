use Rattle.packed_pages.proofs.copying.copy_line.Goals as goal

pub put_record-requires-clause-ready : goal.put_record-requires-clause-ready
put_record-requires-clause-ready g c = c.requires.ready

pub put_record-requires-clause-layout : goal.put_record-requires-clause-layout
put_record-requires-clause-layout g c = c.requires.layout
