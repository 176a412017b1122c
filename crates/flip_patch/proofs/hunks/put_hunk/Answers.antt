use Rattle.std.proofs.Common.{ℕ, List, ap, sym, subst}
use Rattle.hunk_core.specs.declared.Form.{Form}
use Rattle.hunk_core.specs.PlainHunk.{hunk_of}
use Rattle.hunk_core.specs.Turned.{swapped}
use Rattle.outside.proofs.SinkSteps.{HasPut, has-none, puts-done}
use Rattle.flip_patch.specs.Flipped.{hunk_text}
use Rattle.flip_patch.proofs.hunks.put_hunk.Goals as goal

pub returns-in-Context : goal.returns-in-Context
returns-in-Context g c = rw c.in-Context.is c.put_hunk-in-Context.ensures.put

pub returns-in-Ed : goal.returns-in-Ed
returns-in-Ed g c = puts-done _ (subst (λ (bs : List ℕ). HasPut g.O.Sink.view g.O.Sink.same_rest c.args.out.now c.args.out.now bs) (sym (ap (λ (f : Form). hunk_text f (swapped (hunk_of c.args.text.now c.args.hunk.now))) c.in-Ed.is)) (has-none g.met.O.Sink.rest_none c.args.out.now))

pub returns-in-Normal : goal.returns-in-Normal
returns-in-Normal g c = rw c.in-Normal.is c.put_hunk-in-Normal.ensures.put

pub returns-in-Unified : goal.returns-in-Unified
returns-in-Unified g c = rw c.in-Unified.is c.put_hunk.ensures.put

pub put_hunk-requires-in-Normal-clause-lawful : goal.put_hunk-requires-in-Normal-clause-lawful
put_hunk-requires-in-Normal-clause-lawful g c = c.requires.lawful

pub put_hunk-requires-in-Context : goal.put_hunk-requires-in-Context
put_hunk-requires-in-Context g c = c.requires.lawful

pub put_hunk-requires : goal.put_hunk-requires
put_hunk-requires g c = c.requires.lawful
