use Rattle.patch_run.proofs.plans.apply.Goals as goal

pub returns-in-Whole-clause-finishes : goal.returns-in-Whole-clause-finishes
returns-in-Whole-clause-finishes g c = c.apply_whole.ensures.finishes (g.C.Scratch.view c.args.scratch)

pub returns-in-Whole-clause-verdicts : goal.returns-in-Whole-clause-verdicts
returns-in-Whole-clause-verdicts g c = c.apply_whole.ensures.verdicts (g.C.Scratch.view c.args.scratch)

pub returns-in-Whole-clause-noted : goal.returns-in-Whole-clause-noted
returns-in-Whole-clause-noted g c = c.apply_whole.ensures.noted (g.C.Scratch.view c.args.scratch)
