use Rattle.std.proofs.Common.{[], ◌∷◌, refl, sym}
use Rattle.outside.specs.Quiet.Effect.{Remove}
use Rattle.outside.proofs.Names.{apart}
use Rattle.apply_task.proofs.Making.{makes_both, makes_stops, gone_behind, there_kept, goes_both, goes_fault}
use Rattle.outside.proofs.Exits.{on_ok_none}
use Rattle.apply_task.proofs.moved.supersede.Goals as goal

pub take_away-requires-clause-there : goal.take_away-requires-clause-there
take_away-requires-clause-there g c =
    let target = c.args.target.now in
    let source = c.args.source.now in
    let first = c.in_ok-swap_in.ensures in
    there_kept source.name first.goes.passes (first.keeps source.name (λ eq. c.requires.moved (sym eq)) (apart source.name target.temp c.requires.source.lasting.own c.requires.named.temps.own)) c.requires.source_there

pub returns-in_err-swap_in : goal.returns-in_err-swap_in
returns-in_err-swap_in g c = record {
  makes = λ output holds. makes_stops c.in_err-swap_in.field-0.0 c.from_residual.result (λ f. Remove c.args.source.now.name ∷ []) _ c.from_residual.ensures.1 (c.in_err-swap_in.ensures.makes output holds) (λ f told. refl);
  goes = goes_fault c.in_err-swap_in.field-0.0 c.from_residual.result c.from_residual.ensures.1 c.in_err-swap_in.ensures.goes;
  gone = on_ok_none _ _ c.from_residual.result c.from_residual.ensures.1;
}

pub returns : goal.returns
returns g c = record {
  makes = λ output holds.
      let first = c.in_ok-swap_in.ensures in
      makes_both c.in_ok-swap_in.field-0 c.take_away.result _ first.goes.passes c.take_away.ensures.goes.passes (first.makes output holds) (c.take_away.ensures.makes c.args.target.now.temp) (λ f h told now made. refl);
  gone = (
      let target = c.args.target.now in
      let source = c.args.source.now in
      gone_behind c.take_away.result source.name target.temp c.take_away.ensures.keeps c.take_away.ensures.goes.passes
      (λ eq. apart source.name target.temp c.requires.source.lasting.own c.requires.named.temps.own (sym eq)) c.in_ok-swap_in.ensures.gone);
  goes = goes_both c.in_ok-swap_in.field-0 c.take_away.result c.in_ok-swap_in.ensures.goes c.take_away.ensures.goes;
}

pub swap_in-requires-clause-named : goal.swap_in-requires-clause-named
swap_in-requires-clause-named g c = c.requires.named

pub swap_in-requires-clause-temp : goal.swap_in-requires-clause-temp
swap_in-requires-clause-temp g c = c.requires.temp

pub swap_in-requires-clause-quiet : goal.swap_in-requires-clause-quiet
swap_in-requires-clause-quiet g c = c.requires.quiet

pub swap_in-requires-clause-there : goal.swap_in-requires-clause-there
swap_in-requires-clause-there g c = c.requires.there

pub take_away-requires-clause-named : goal.take_away-requires-clause-named
take_away-requires-clause-named g c = c.requires.source

pub take_away-requires-clause-quiet : goal.take_away-requires-clause-quiet
take_away-requires-clause-quiet g c = c.in_ok-swap_in.ensures.goes.quiet
