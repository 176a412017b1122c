use Rattle.unified_form.proofs.showing.put_piece.Goals as goal

pub returns : goal.returns
returns g c = record { call = c.put_all.ensures.call; rest = c.put_all.ensures.rest; received = c.put_all.ensures.received; failed = c.put_all.ensures.failed }
