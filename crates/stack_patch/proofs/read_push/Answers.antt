use Rattle.stack_patch.proofs.Refusing.{cause_of, file_none, none_of, pushed}
use Rattle.stack_patch.proofs.read_push.Goals as goal

pub returns-in-Err-clause-none : goal.returns-in-Err-clause-none
returns-in-Err-clause-none g c = file_none c.in-Err.fault (g.T.Tree.view c.args.tree.now) (g.T.Tree.view c.read_file.new.tree) c.args.name.now c.in-Err.ensures.cause

pub returns-in-Ok : goal.returns-in-Ok
returns-in-Ok g c = record {
  untouched = c.in-Ok.ensures.untouched;
  push = pushed (g.T.Tree.view c.args.tree.now) c.args.name.now c.in-Ok.text.items c.read_text.result c.in-Ok.ensures.text c.read_text.ensures.read c.read_text.ensures.patch;
  fresh = c.read_text.ensures.fresh;
  whole = c.read_text.ensures.whole;
  cause = cause_of (g.T.Tree.view c.args.tree.now) (g.T.Tree.view c.read_file.new.tree) c.args.name.now c.in-Ok.text.items c.in-Ok.ensures.text c.read_text.result c.read_text.ensures.cause;
  some = c.read_text.ensures.some;
  none = none_of (g.T.Tree.view c.args.tree.now) (g.T.Tree.view c.read_file.new.tree) c.args.name.now c.in-Ok.text.items c.in-Ok.ensures.text c.read_text.result c.read_text.ensures.none;
}

pub returns-in-Err-clause-cause : goal.returns-in-Err-clause-cause
returns-in-Err-clause-cause g c = c.in-Err.ensures.cause

pub returns-in-Err-clause-untouched : goal.returns-in-Err-clause-untouched
returns-in-Err-clause-untouched g c = c.in-Err.ensures.untouched

pub read_text-requires : goal.read_text-requires
read_text-requires g c = c.requires
