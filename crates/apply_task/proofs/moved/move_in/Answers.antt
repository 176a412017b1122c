use Rattle.std.proofs.Common.{◌++◌, ◌∷◌, [], false, refl}
use Rattle.outside.specs.Quiet.Effect.{Remove}
use Rattle.apply_task.specs.TargetEffects.{target_effects, moving_effects}
use Rattle.apply_task.proofs.Making.{makes_both, makes_stops, holds_kept, there_kept, goes_both, goes_fault}
use Rattle.apply_task.proofs.Placing.{name_beside, temp_beside}
use Rattle.outside.proofs.Exits.{on_ok_none}
use Rattle.apply_task.proofs.moved.move_in.Goals as goal

pub supersede-requires-clause-there : goal.supersede-requires-clause-there
supersede-requires-clause-there g c =
    let target = c.args.target.now in
    let first = c.in_ok-put_backup.ensures in
    there_kept target.temp first.goes.passes (first.keeps target.temp (temp_beside c.args.source_due c.args.source.now target c.requires.source c.requires.named (λ due. (c.requires.source_apart due).0))) c.requires.there

pub supersede-requires-clause-source_there : goal.supersede-requires-clause-source_there
supersede-requires-clause-source_there g c =
    let source = c.args.source.now in
    let first = c.in_ok-put_backup.ensures in
    there_kept source.name first.goes.passes (first.keeps source.name (name_beside c.args.source_due source source.name c.requires.source c.requires.source.lasting.own (λ due. (c.requires.source_apart due).1))) c.requires.source_there

pub returns-in_err-put_backup : goal.returns-in_err-put_backup
returns-in_err-put_backup g c = record {
  makes = λ output holds.
      let target = c.args.target.now in
      makes_stops c.in_err-put_backup.field-0.0 c.from_residual.result (λ f. target_effects false f target output ++ Remove c.args.source.now.name ∷ []) _ c.from_residual.ensures.1
      (c.in_err-put_backup.ensures.makes target.temp) (λ f told. refl);
  goes = goes_fault c.in_err-put_backup.field-0.0 c.from_residual.result c.from_residual.ensures.1 c.in_err-put_backup.ensures.goes;
  gone = on_ok_none _ _ c.from_residual.result c.from_residual.ensures.1;
}

pub returns : goal.returns
returns g c = record {
  makes = λ output holds.
      let target = c.args.target.now in
      let source = c.args.source.now in
      let first = c.in_ok-put_backup.ensures in
      let beside = temp_beside c.args.source_due source target c.requires.source c.requires.named (λ due. (c.requires.source_apart due).0) in
      makes_both tt c.supersede.result (λ f. moving_effects c.args.source_due f source target output) first.goes.passes c.supersede.ensures.goes.passes (first.makes target.temp)
      (c.supersede.ensures.makes output (holds_kept target.temp first.goes.passes (first.keeps target.temp beside) output holds)) (λ f h told now made. refl);
  goes = goes_both c.in_ok-put_backup.field-0 c.supersede.result c.in_ok-put_backup.ensures.goes c.supersede.ensures.goes;
  gone = c.supersede.ensures.gone;
}

pub put_backup-requires-clause-named : goal.put_backup-requires-clause-named
put_backup-requires-clause-named g c = c.requires.source

pub put_backup-requires-clause-quiet : goal.put_backup-requires-clause-quiet
put_backup-requires-clause-quiet g c = c.requires.quiet

pub supersede-requires-clause-named : goal.supersede-requires-clause-named
supersede-requires-clause-named g c = c.requires.named

pub supersede-requires-clause-source : goal.supersede-requires-clause-source
supersede-requires-clause-source g c = c.requires.source

pub supersede-requires-clause-moved : goal.supersede-requires-clause-moved
supersede-requires-clause-moved g c = c.requires.moved

pub supersede-requires-clause-temp : goal.supersede-requires-clause-temp
supersede-requires-clause-temp g c = c.requires.temp

pub supersede-requires-clause-quiet : goal.supersede-requires-clause-quiet
supersede-requires-clause-quiet g c = c.in_ok-put_backup.ensures.goes.quiet
