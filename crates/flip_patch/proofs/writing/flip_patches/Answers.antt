use Rattle.flip_patch.proofs.writing.flip_patches.Goals as goal

pub returns-in-Some-clause-rest : goal.returns-in-Some-clause-rest
returns-in-Some-clause-rest g c = g.met.O.Sink.rest_none c.args.out.now

pub returns-clause-rest : goal.returns-clause-rest
returns-clause-rest g c = c.put_all_patches.ensures.rest
