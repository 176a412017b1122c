use Rattle.std.proofs.Common.{◌++◌, ◌||◌, Ok, Err, not, is_some, refl, ◌∙◌, ap}
use Rattle.outside.proofs.Views.{told_on}
use Rattle.apply_task.specs.TargetEffects.{backup_effects, target_effects}
use Rattle.apply_task.proofs.Making.{makes_both, makes_stops, makes_fault, makes_value, holds_kept, there_kept, goes_both, goes_value, goes_fault}
use Rattle.apply_task.proofs.Placing.{name_beside, temp_beside, target_same, written_count, two_most}
use Rattle.apply_task.proofs.Tidy.{there_holds, placed_tidy, makes_tidy}
use Rattle.outside.proofs.Exits.{if_ok_none, on_ok_none}
use Rattle.apply_task.proofs.placed.write_placed.Goals as goal

pub put_target-requires-clause-there : goal.put_target-requires-clause-there
put_target-requires-clause-there g c =
    let target = c.args.target.now in
    let named = c.requires.named in
    let first = c.in_ok-put_backup.ensures in
    there_kept target.temp first.goes.passes (first.keeps target.temp (temp_beside c.args.due target target named named c.requires.apart)) c.requires.there

pub returns-in_err-put_backup : goal.returns-in_err-put_backup
returns-in_err-put_backup g c = record {
  makes = λ output holds. makes_stops c.in_err-put_backup.field-0.0 c.from_residual.result (λ f. target_effects c.args.removal f c.args.target.now output) _ c.from_residual.ensures.1 (c.in_err-put_backup.ensures.makes c.args.target.now.temp) (λ f told. refl);
  goes = goes_fault c.in_err-put_backup.field-0.0 c.from_residual.result c.from_residual.ensures.1 c.in_err-put_backup.ensures.goes;
  gone = on_ok_none _ _ c.from_residual.result c.from_residual.ensures.1;
  tidy = on_ok_none _ _ c.from_residual.result c.from_residual.ensures.1;
  wrote = if_ok_none _ _ c.from_residual.result c.from_residual.ensures.1;
  count = if_ok_none _ _ c.from_residual.result c.from_residual.ensures.1;
  few = if_ok_none _ _ c.from_residual.result c.from_residual.ensures.1;
}

pub returns-in_err-wrote : goal.returns-in_err-wrote
returns-in_err-wrote g c = record {
  makes = λ output holds.
      let target = c.args.target.now in
      let named = c.requires.named in
      let first = c.in_ok-put_backup.ensures in
      let second = c.in_err-wrote.ensures in
      makes_fault c.in_err-wrote.field-0.0 c.from_residual-in_err-wrote.result c.from_residual-in_err-wrote.ensures.1
      (makes_both tt (Err c.in_err-wrote.field-0.0) (λ f. backup_effects c.args.due f target ++ target_effects c.args.removal f target output) first.goes.passes second.goes.passes (first.makes target.temp)
      (second.makes output (holds_kept target.temp first.goes.passes (first.keeps target.temp (temp_beside c.args.due target target named named c.requires.apart)) output holds))
      (λ f h told now made. ap (λ l. backup_effects c.args.due f target ++ l) (target_same c.args.removal target output f h (first.keeps target.name (name_beside c.args.due target target.name named named.lasting.own c.requires.apart) f h told now))));
  goes = goes_fault c.in_err-wrote.field-0.0 c.from_residual-in_err-wrote.result c.from_residual-in_err-wrote.ensures.1 (goes_both c.in_ok-put_backup.field-0 (Err c.in_err-wrote.field-0.0) c.in_ok-put_backup.ensures.goes c.in_err-wrote.ensures.goes);
  gone = on_ok_none _ _ c.from_residual-in_err-wrote.result c.from_residual-in_err-wrote.ensures.1;
  tidy = on_ok_none _ _ c.from_residual-in_err-wrote.result c.from_residual-in_err-wrote.ensures.1;
  wrote = if_ok_none _ _ c.from_residual-in_err-wrote.result c.from_residual-in_err-wrote.ensures.1;
  count = if_ok_none _ _ c.from_residual-in_err-wrote.result c.from_residual-in_err-wrote.ensures.1;
  few = if_ok_none _ _ c.from_residual-in_err-wrote.result c.from_residual-in_err-wrote.ensures.1;
}

pub returns : goal.returns
returns g c = record {
  makes = λ output holds.
      let target = c.args.target.now in
      let named = c.requires.named in
      let first = c.in_ok-put_backup.ensures in
      let second = c.in_ok-wrote.ensures in
      makes_value c.in_ok-wrote.wrote c.with_backup.result
      (makes_both tt (Ok c.in_ok-wrote.wrote) (λ f. backup_effects c.args.due f target ++ target_effects c.args.removal f target output) first.goes.passes second.goes.passes (first.makes target.temp)
      (second.makes output (holds_kept target.temp first.goes.passes (first.keeps target.temp (temp_beside c.args.due target target named named c.requires.apart)) output holds))
      (λ f h told now made. ap (λ l. backup_effects c.args.due f target ++ l) (target_same c.args.removal target output f h (first.keeps target.name (name_beside c.args.due target target.name named named.lasting.own c.requires.apart) f h told now))));
  wrote = λ f told.
      let target = c.args.target.now in
      let named = c.requires.named in
      let first = c.in_ok-put_backup.ensures in
      let mid = told_on f first.goes.passes told in
      c.with_backup.ensures.wrote ∙ c.in_ok-wrote.ensures.wrote mid.0 mid.1 ∙ ap (λ o. not c.args.removal || is_some o) (first.keeps target.name (name_beside c.args.due target target.name named named.lasting.own c.requires.apart) f mid.0 told mid.1);
  count = λ f output told.
      let target = c.args.target.now in
      let named = c.requires.named in
      let first = c.in_ok-put_backup.ensures in
      let mid = told_on f first.goes.passes told in
      c.with_backup.ensures.effects
      ∙ written_count c.args.due c.args.removal c.in_ok-wrote.wrote c.args.target.now output f (c.in_ok-wrote.ensures.wrote mid.0 mid.1 ∙ ap (λ o. not c.args.removal || is_some o) (first.keeps target.name (name_beside c.args.due target target.name named named.lasting.own c.requires.apart) f mid.0 told mid.1));
  tidy = λ f h told now.
      let target = c.args.target.now in
      let held = there_holds (g.T.Tree.view c.args.tree.now) target.temp f told (c.requires.there f told) in
      makes_tidy c.with_backup.result target.temp (λ k. backup_effects c.args.due k target ++ target_effects c.args.removal k target held.0) (λ k was. let output = held.0 in let holds = held.1 in let target = c.args.target.now in let named = c.requires.named in let first = c.in_ok-put_backup.ensures in let second = c.in_ok-wrote.ensures in makes_value c.in_ok-wrote.wrote c.with_backup.result (makes_both tt (Ok c.in_ok-wrote.wrote) (λ f. backup_effects c.args.due f target ++ target_effects c.args.removal f target output) first.goes.passes second.goes.passes (first.makes target.temp) (second.makes output (holds_kept target.temp first.goes.passes (first.keeps target.temp (temp_beside c.args.due target target named named c.requires.apart)) output holds)) (λ f h told now made. ap (λ l. backup_effects c.args.due f target ++ l) (target_same c.args.removal target output f h (first.keeps target.name (name_beside c.args.due target target.name named named.lasting.own c.requires.apart) f h told now))))) c.in_ok-wrote.ensures.gone
      (λ k. placed_tidy c.args.due c.args.removal k target held.0 c.requires.named.lasting.backup c.requires.named.lasting.own) f h told now;
  goes = goes_value c.in_ok-wrote.wrote c.with_backup.result (goes_both c.in_ok-put_backup.field-0 (Ok c.in_ok-wrote.wrote) c.in_ok-put_backup.ensures.goes c.in_ok-wrote.ensures.goes);
  gone = c.in_ok-wrote.ensures.gone;
  few = two_most c.args.due c.in_ok-wrote.wrote c.with_backup.result.effects c.with_backup.ensures.effects;
}

pub put_backup-requires-clause-named : goal.put_backup-requires-clause-named
put_backup-requires-clause-named g c = c.requires.named

pub put_backup-requires-clause-quiet : goal.put_backup-requires-clause-quiet
put_backup-requires-clause-quiet g c = c.requires.quiet

pub put_target-requires-clause-named : goal.put_target-requires-clause-named
put_target-requires-clause-named g c = c.requires.named

pub put_target-requires-clause-temp : goal.put_target-requires-clause-temp
put_target-requires-clause-temp g c = c.requires.temp

pub put_target-requires-clause-quiet : goal.put_target-requires-clause-quiet
put_target-requires-clause-quiet g c = c.in_ok-put_backup.ensures.goes.quiet
