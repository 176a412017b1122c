use Rattle.std.proofs.Common.{Ok, Err, arith, refl}
use Rattle.outside.specs.Files.{bytes_at}
use Rattle.outside.proofs.Exits.{if_ok_none, on_ok_none}
use Rattle.apply_task.specs.TargetEffects.{backup_effects}
use Rattle.apply_task.proofs.Making.{makes_both, makes_stops, makes_fault, makes_value, gone_kept, goes_both, goes_value, goes_fault}
use Rattle.apply_task.proofs.Placing.{backup_same, temp_beside}
use Rattle.apply_task.proofs.Tidy.{makes_tidy, put_if_tidy}
use Rattle.apply_task.proofs.placed.keep_old.Goals as goal

pub returns-in_err-forget : goal.returns-in_err-forget
returns-in_err-forget g c = record {
  makes = makes_stops c.in_err-forget.field-0.0 c.from_residual.result (λ f. backup_effects c.args.kept f c.args.target.now) _ c.from_residual.ensures.1 c.in_err-forget.ensures.makes (λ f told. refl);
  goes = goes_fault c.in_err-forget.field-0.0 c.from_residual.result c.from_residual.ensures.1 c.in_err-forget.ensures.goes;
  gone = on_ok_none _ _ c.from_residual.result c.from_residual.ensures.1;
  tidy = on_ok_none _ _ c.from_residual.result c.from_residual.ensures.1;
  wrote = if_ok_none _ _ c.from_residual.result c.from_residual.ensures.1;
  count = if_ok_none _ _ c.from_residual.result c.from_residual.ensures.1;
}

pub returns-in_err-put_backup : goal.returns-in_err-put_backup
returns-in_err-put_backup g c = record {
  makes = (
      let target = c.args.target.now in
      let first = c.in_ok-forget.ensures in
      let second = c.in_err-put_backup.ensures in
      makes_fault c.in_err-put_backup.field-0.0 c.from_residual-in_err-put_backup.result c.from_residual-in_err-put_backup.ensures.1
      (makes_both tt (Err c.in_err-put_backup.field-0.0) (λ f. backup_effects c.args.kept f target) first.goes.passes second.goes.passes first.makes (second.makes target.temp)
      (λ f h told now made. backup_same c.args.kept target f h (first.name f h told now))));
  goes = goes_fault c.in_err-put_backup.field-0.0 c.from_residual-in_err-put_backup.result c.from_residual-in_err-put_backup.ensures.1 (goes_both c.in_ok-forget.field-0 (Err c.in_err-put_backup.field-0.0) c.in_ok-forget.ensures.goes c.in_err-put_backup.ensures.goes);
  gone = on_ok_none _ _ c.from_residual-in_err-put_backup.result c.from_residual-in_err-put_backup.ensures.1;
  tidy = on_ok_none _ _ c.from_residual-in_err-put_backup.result c.from_residual-in_err-put_backup.ensures.1;
  wrote = if_ok_none _ _ c.from_residual-in_err-put_backup.result c.from_residual-in_err-put_backup.ensures.1;
  count = if_ok_none _ _ c.from_residual-in_err-put_backup.result c.from_residual-in_err-put_backup.ensures.1;
}

pub returns : goal.returns
returns g c =
    let target = c.args.target.now in
    let named = c.requires.named in
    let first = c.in_ok-forget.ensures in
    let second = c.in_ok-put_backup.ensures in
    let made = makes_value c.in_ok-put_backup.field-0 c.with_backup.result
    (makes_both tt (Ok c.in_ok-put_backup.field-0) (λ f. backup_effects c.args.kept f target) first.goes.passes second.goes.passes first.makes (second.makes target.temp)
    (λ f h told now made. backup_same c.args.kept target f h (first.name f h told now))) in
    let gone = gone_kept target.temp second.goes.passes (second.keeps target.temp (temp_beside c.args.kept target target named named c.requires.apart)) first.gone in
    record {
      makes = made;
      goes = goes_value c.in_ok-put_backup.field-0 c.with_backup.result (goes_both c.in_ok-forget.field-0 (Ok c.in_ok-put_backup.field-0) first.goes second.goes);
      gone = gone;
      tidy = makes_tidy c.with_backup.result target.temp (λ f. backup_effects c.args.kept f target) (λ f told. made) gone (λ f. put_if_tidy c.args.kept target.backup (bytes_at f target.name) named.lasting.backup);
      wrote = c.with_backup.ensures.wrote;
      count = omega (arith, c.with_backup.ensures.effects);
    }

pub forget-requires-clause-named : goal.forget-requires-clause-named
forget-requires-clause-named g c = c.requires.named

pub forget-requires-clause-temp : goal.forget-requires-clause-temp
forget-requires-clause-temp g c = c.requires.temp

pub forget-requires-clause-quiet : goal.forget-requires-clause-quiet
forget-requires-clause-quiet g c = c.requires.quiet

pub forget-requires-clause-there : goal.forget-requires-clause-there
forget-requires-clause-there g c = c.requires.there

pub put_backup-requires-clause-named : goal.put_backup-requires-clause-named
put_backup-requires-clause-named g c = c.requires.named

pub put_backup-requires-clause-quiet : goal.put_backup-requires-clause-quiet
put_backup-requires-clause-quiet g c = c.in_ok-forget.ensures.goes.quiet
