use Rattle.std.proofs.Common.{Bool, [], ◌∷◌, cond, ap, inr, refl}
use Rattle.outside.specs.Quiet.Effect.{Remove}
use Rattle.series_stack.specs.Saves.Entry.{Missing}
use Rattle.series_stack.proofs.Steps.{effect_whole, effect_part}
use Rattle.series_stack.proofs.files.remove_there.Goals as goal

pub returns-in-Ok-clause-makes : goal.returns-in-Ok-clause-makes
returns-in-Ok-clause-makes g c =
    let name = c.args.name.now in
    effect_whole (Missing name) (Remove name) c.requires.quiet (λ f told. ap (λ (t : Bool). cond t (Remove name ∷ []) []) (c.requires.there f told)) c.in-Ok.field-0 tt c.in-Ok.ensures.makes c.in-Ok.ensures.ok

pub returns-in-Err : goal.returns-in-Err
returns-in-Err g c = record {
  makes = (
      let name = c.args.name.now in
      effect_part (Missing name) (Remove name) c.requires.quiet (λ f told. ap (λ (t : Bool). cond t (Remove name ∷ []) []) (c.requires.there f told)) c.in-Err.field-0 _ c.in-Err.ensures.makes);
  cause = inr (refl, c.in-Err.ensures.run.cause refl);
}
