use Rattle.std.proofs.Common.{◌++◌, Ok, Err, refl, ◌∙◌, ap}
use Rattle.apply_task.specs.TargetEffects.{backup_effects, moving_effects, moved_effects}
use Rattle.apply_task.proofs.Making.{makes_both, makes_stops, makes_fault, makes_value, holds_kept, there_kept, goes_both, goes_value, goes_fault}
use Rattle.apply_task.proofs.Placing.{name_beside, temp_beside, moving_same, moved_count, four_most}
use Rattle.apply_task.proofs.Tidy.{there_holds, moved_tidy, makes_tidy}
use Rattle.outside.proofs.Exits.{if_ok_none, on_ok_none}
use Rattle.apply_task.proofs.moved.write_moved.Goals as goal

pub move_in-requires-clause-there : goal.move_in-requires-clause-there
move_in-requires-clause-there g c =
    let target = c.args.target.now in
    let first = c.in_ok-put_backup.ensures in
    there_kept target.temp first.goes.passes (first.keeps target.temp (temp_beside c.args.due target target c.requires.named c.requires.named (λ due. (c.requires.apart due).0))) c.requires.there

pub move_in-requires-clause-source_there : goal.move_in-requires-clause-source_there
move_in-requires-clause-source_there g c =
    let source = c.args.source.now in
    let first = c.in_ok-put_backup.ensures in
    there_kept source.name first.goes.passes (first.keeps source.name (name_beside c.args.due c.args.target.now source.name c.requires.named c.requires.source.lasting.own (λ due. (c.requires.apart due).1))) c.requires.source_there

pub returns-in_err-put_backup : goal.returns-in_err-put_backup
returns-in_err-put_backup g c = record {
  makes = λ output holds.
      let target = c.args.target.now in
      makes_stops c.in_err-put_backup.field-0.0 c.from_residual.result (λ f. moving_effects c.args.source_due f c.args.source.now target output) _ c.from_residual.ensures.1
      (c.in_err-put_backup.ensures.makes target.temp) (λ f told. refl);
  goes = goes_fault c.in_err-put_backup.field-0.0 c.from_residual.result c.from_residual.ensures.1 c.in_err-put_backup.ensures.goes;
  gone = on_ok_none _ _ c.from_residual.result c.from_residual.ensures.1;
  tidy = on_ok_none _ _ c.from_residual.result c.from_residual.ensures.1;
  wrote = if_ok_none _ _ c.from_residual.result c.from_residual.ensures.1;
  count = if_ok_none _ _ c.from_residual.result c.from_residual.ensures.1;
  few = if_ok_none _ _ c.from_residual.result c.from_residual.ensures.1;
}

pub returns-in_err-move_in : goal.returns-in_err-move_in
returns-in_err-move_in g c = record {
  makes = λ output holds.
      let target = c.args.target.now in
      let source = c.args.source.now in
      let named = c.requires.named in
      let first = c.in_ok-put_backup.ensures in
      let second = c.in_err-move_in.ensures in
      makes_fault c.in_err-move_in.field-0.0 c.from_residual-in_err-move_in.result c.from_residual-in_err-move_in.ensures.1
      (makes_both tt (Err c.in_err-move_in.field-0.0) (λ f. moved_effects c.args.due c.args.source_due f source target output) first.goes.passes second.goes.passes (first.makes target.temp)
      (second.makes output (holds_kept target.temp first.goes.passes (first.keeps target.temp (temp_beside c.args.due target target named named (λ due. (c.requires.apart due).0))) output holds))
      (λ f h told now made. ap (λ l. backup_effects c.args.due f target ++ l)
      (moving_same c.args.source_due source target output f h (first.keeps source.name (name_beside c.args.due target source.name named c.requires.source.lasting.own (λ due. (c.requires.apart due).1)) f h told now))));
  goes = goes_fault c.in_err-move_in.field-0.0 c.from_residual-in_err-move_in.result c.from_residual-in_err-move_in.ensures.1 (goes_both c.in_ok-put_backup.field-0 (Err c.in_err-move_in.field-0.0) c.in_ok-put_backup.ensures.goes c.in_err-move_in.ensures.goes);
  gone = on_ok_none _ _ c.from_residual-in_err-move_in.result c.from_residual-in_err-move_in.ensures.1;
  tidy = on_ok_none _ _ c.from_residual-in_err-move_in.result c.from_residual-in_err-move_in.ensures.1;
  wrote = if_ok_none _ _ c.from_residual-in_err-move_in.result c.from_residual-in_err-move_in.ensures.1;
  count = if_ok_none _ _ c.from_residual-in_err-move_in.result c.from_residual-in_err-move_in.ensures.1;
  few = if_ok_none _ _ c.from_residual-in_err-move_in.result c.from_residual-in_err-move_in.ensures.1;
}

pub returns : goal.returns
returns g c = record {
  makes = λ output holds.
      let target = c.args.target.now in
      let source = c.args.source.now in
      let named = c.requires.named in
      let first = c.in_ok-put_backup.ensures in
      let second = c.in_ok-move_in.ensures in
      makes_value tt c.with_backups.result
      (makes_both tt (Ok tt) (λ f. moved_effects c.args.due c.args.source_due f source target output) first.goes.passes second.goes.passes (first.makes target.temp)
      (second.makes output (holds_kept target.temp first.goes.passes (first.keeps target.temp (temp_beside c.args.due target target named named (λ due. (c.requires.apart due).0))) output holds))
      (λ f h told now made. ap (λ l. backup_effects c.args.due f target ++ l)
      (moving_same c.args.source_due source target output f h (first.keeps source.name (name_beside c.args.due target source.name named c.requires.source.lasting.own (λ due. (c.requires.apart due).1)) f h told now))));
  count = λ f output told. c.with_backups.ensures.effects ∙ moved_count c.args.due c.args.source_due f c.args.source.now c.args.target.now output;
  tidy = λ f h told now.
      let target = c.args.target.now in
      let source = c.args.source.now in
      let held = there_holds (g.T.Tree.view c.args.tree.now) target.temp f told (c.requires.there f told) in
      makes_tidy c.with_backups.result target.temp (λ k. moved_effects c.args.due c.args.source_due k source target held.0) (λ k was. let output = held.0 in let holds = held.1 in let target = c.args.target.now in let source = c.args.source.now in let named = c.requires.named in let first = c.in_ok-put_backup.ensures in let second = c.in_ok-move_in.ensures in makes_value tt c.with_backups.result (makes_both tt (Ok tt) (λ f. moved_effects c.args.due c.args.source_due f source target output) first.goes.passes second.goes.passes (first.makes target.temp) (second.makes output (holds_kept target.temp first.goes.passes (first.keeps target.temp (temp_beside c.args.due target target named named (λ due. (c.requires.apart due).0))) output holds)) (λ f h told now made. ap (λ l. backup_effects c.args.due f target ++ l) (moving_same c.args.source_due source target output f h (first.keeps source.name (name_beside c.args.due target source.name named c.requires.source.lasting.own (λ due. (c.requires.apart due).1)) f h told now))))) c.in_ok-move_in.ensures.gone
      (λ k. moved_tidy c.args.due c.args.source_due k source target held.0 c.requires.source.lasting c.requires.named.lasting) f h told now;
  goes = goes_value c.in_ok-move_in.field-0 c.with_backups.result (goes_both c.in_ok-put_backup.field-0 (Ok c.in_ok-move_in.field-0) c.in_ok-put_backup.ensures.goes c.in_ok-move_in.ensures.goes);
  gone = c.in_ok-move_in.ensures.gone;
  wrote = c.with_backups.ensures.wrote;
  few = four_most c.args.due c.args.source_due c.with_backups.result.effects c.with_backups.ensures.effects;
}

pub put_backup-requires-clause-named : goal.put_backup-requires-clause-named
put_backup-requires-clause-named g c = c.requires.named

pub put_backup-requires-clause-quiet : goal.put_backup-requires-clause-quiet
put_backup-requires-clause-quiet g c = c.requires.quiet

pub move_in-requires-clause-named : goal.move_in-requires-clause-named
move_in-requires-clause-named g c = c.requires.named

pub move_in-requires-clause-source : goal.move_in-requires-clause-source
move_in-requires-clause-source g c = c.requires.source

pub move_in-requires-clause-moved : goal.move_in-requires-clause-moved
move_in-requires-clause-moved g c = c.requires.moved

pub move_in-requires-clause-temp : goal.move_in-requires-clause-temp
move_in-requires-clause-temp g c = c.requires.temp

pub move_in-requires-clause-source_apart : goal.move_in-requires-clause-source_apart
move_in-requires-clause-source_apart g c = c.requires.source_apart

pub move_in-requires-clause-quiet : goal.move_in-requires-clause-quiet
move_in-requires-clause-quiet g c = c.in_ok-put_backup.ensures.goes.quiet
