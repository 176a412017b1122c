use Rattle.outside.specs.Calls.{untouched_both}
use Rattle.stack_state.specs.Causes.{HasReadCause}
use Rattle.std.proofs.lemmas.Result.{IfErr-weaker}
use Rattle.std.specs.FinMap.{get}
use Rattle.stack_state.proofs.Held.{held_long, held_there, none_there, read_first, told_first}
use Rattle.std.proofs.Common.{option_map, refl, sym, vec_items, ◌∙◌, ◌≡◌}
use Rattle.stack_state.proofs.whole.read_whole.Goals as goal

pub returns-in-Ok-Some : goal.returns-in-Ok-Some
returns-in-Ok-Some g c = record {
  untouched = untouched_both c.size.ensures.untouched c.read_file.ensures.untouched;
  bytes = told_first c.read_file.result (g.T.Tree.view c.args.tree.now) (g.T.Tree.view c.size.new.self) (λ held f. get f c.args.name.now ≡ option_map vec_items held) c.in-Ok-Some.ensures.untouched c.read_file.ensures.bytes;
  cause = (
      let u = g.T.Tree.view c.args.tree.now in
      let v = g.T.Tree.view c.size.new.self in
      let w = g.T.Tree.view c.read_file.new.tree in
      IfErr-weaker c.read_file.result (λ e. HasReadCause e v w) (λ e. HasReadCause e u w) (λ e h. read_first e u v w c.in-Ok-Some.ensures.untouched h) c.read_file.ensures.cause);
}

pub returns-in-Err-clause-cause : goal.returns-in-Err-clause-cause
returns-in-Err-clause-cause g c = c.in-Err.ensures.call.cause refl

pub read_file-requires-clause-long : goal.read_file-requires-clause-long
read_file-requires-clause-long g c = λ f told.
    let size = c.in-Ok-Some in
    held_long (get f c.args.name.now) size.size (sym size.field-0-is ∙ size.ensures.size f (sym size.ensures.untouched.told ∙ told))

pub returns-in-Ok-None-clause-bytes : goal.returns-in-Ok-None-clause-bytes
returns-in-Ok-None-clause-bytes g c = λ f told.
    let size = c.in-Ok-None in
    none_there (get f c.args.name.now) (sym size.field-0-is ∙ size.ensures.size f told)

pub read_file-requires-clause-there : goal.read_file-requires-clause-there
read_file-requires-clause-there g c = λ f told.
    let size = c.in-Ok-Some in
    held_there (get f c.args.name.now) size.size (sym size.field-0-is ∙ size.ensures.size f (sym size.ensures.untouched.told ∙ told))

pub returns-in-Ok-None-clause-untouched : goal.returns-in-Ok-None-clause-untouched
returns-in-Ok-None-clause-untouched g c = c.size.ensures.untouched

pub returns-in-Err-clause-untouched : goal.returns-in-Err-clause-untouched
returns-in-Err-clause-untouched g c = c.in-Err.ensures.untouched
