use Rattle.std.proofs.Common.{true, sym, refl}
use Rattle.outside.proofs.Names.{apart}
use Rattle.apply_task.proofs.Making.{makes_fault, makes_value, gone_kept, goes_value, goes_fault}
use Rattle.outside.proofs.Exits.{if_ok_none, on_ok_none}
use Rattle.apply_task.proofs.placed.remove.Goals as goal

pub returns-in_err-take_away : goal.returns-in_err-take_away
returns-in_err-take_away g c = record {
  makes = makes_fault c.in_err-take_away.field-0.0 c.from_residual.result c.from_residual.ensures.1 (c.in_err-take_away.ensures.makes c.args.target.now.temp);
  goes = goes_fault c.in_err-take_away.field-0.0 c.from_residual.result c.from_residual.ensures.1 c.in_err-take_away.ensures.goes;
  gone = on_ok_none _ _ c.from_residual.result c.from_residual.ensures.1;
  wrote = if_ok_none _ _ c.from_residual.result c.from_residual.ensures.1;
}

pub returns : goal.returns
returns g c = record {
  makes = makes_value c.in_ok-take_away.field-0 true (c.in_ok-take_away.ensures.makes c.args.target.now.temp);
  gone = (
      let target = c.args.target.now in
      let named = c.requires.named in
      let away = c.in_ok-take_away.ensures in
      gone_kept target.temp away.goes.passes (away.keeps target.temp (λ eq. apart target.name target.temp named.lasting.own named.temps.own (sym eq))) c.requires.gone);
  goes = goes_value c.in_ok-take_away.field-0 true c.in_ok-take_away.ensures.goes;
  wrote = refl;
}

pub take_away-requires-clause-named : goal.take_away-requires-clause-named
take_away-requires-clause-named g c = c.requires.named

pub take_away-requires-clause-quiet : goal.take_away-requires-clause-quiet
take_away-requires-clause-quiet g c = c.requires.quiet

pub take_away-requires-clause-there : goal.take_away-requires-clause-there
take_away-requires-clause-there g c = c.requires.there
