use Rattle.filter_style.proofs.hunks.put_hunk_line.Goals as goal

pub returns-in-Context : goal.returns-in-Context
returns-in-Context c = rw c.in-Context.is (c.put_context_line.ensures c.args.clean)
