use Rattle.std.proofs.Common.{Option, sym, ◌∙◌, ap}
use Rattle.std.specs.Prelude.{unwrap_or}
use Rattle.std.specs.Option.{option_copied}
use Rattle.read_file_patch.specs.declared.derived.Target.{Target}
use Rattle.apply_task.specs.Contexts.{target_at}
use Rattle.apply_task.specs.Ready.{moved_in}
use Rattle.apply_task.proofs.names.own_written.Goals as goal

pub returns-in-Some : goal.returns-in-Some
returns-in-Some c = record {
  target = (
      let other = target_at c.args.task.now.patch.now.targets.items c.args.place in
      sym (ap (λ (o : Option Target). unwrap_or o other) (sym (c.written_at.ensures.target c.args.task.now.set.now.text c.args.task.now.set.now.skipped (moved_in c.args.task.now.set.now.patches)) ∙ ap option_copied c.in-Some.is)));
  named = c.written_at.ensures.named c.requires.task.fit.named c.in-Some.target.now (ap option_copied c.in-Some.is);
}

pub returns-in-None-clause-target : goal.returns-in-None-clause-target
returns-in-None-clause-target c =
    let other = target_at c.args.task.now.patch.now.targets.items c.args.place in
    c.chosen.ensures.target
    ∙ sym (ap (λ (o : Option Target). unwrap_or o other) (sym (c.written_at.ensures.target c.args.task.now.set.now.text c.args.task.now.set.now.skipped (moved_in c.args.task.now.set.now.patches)) ∙ ap option_copied c.in-None.is))
