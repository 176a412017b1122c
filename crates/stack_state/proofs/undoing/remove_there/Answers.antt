use Rattle.std.proofs.Common.{[], refl}
use Rattle.outside.specs.Quiet.Effect.{Remove}
use Rattle.stack_state.specs.Undoing.{taken_away}
use Rattle.stack_state.proofs.Stepping.{effect_made, effect_failed, steps_is, temps-gone}
use Rattle.stack_state.proofs.Restoring.{taken-there}
use Rattle.stack_state.proofs.undoing.remove_there.Goals as goal

pub returns-in-Ok : goal.returns-in-Ok
returns-in-Ok g c s =
    let name = c.args.name.now in
    steps_is _ (taken_away name) (λ f. []) (λ f told. taken-there name f (c.requires.there f told)) (λ f told. refl)
    (effect_made s c.in-Ok.field-0 tt (Remove name) c.requires.quiet c.in-Ok.ensures.makes c.in-Ok.ensures.ok (λ f. temps-gone name f c.requires.lasting))

pub returns-in-Err : goal.returns-in-Err
returns-in-Err g c s =
    let name = c.args.name.now in
    steps_is _ (taken_away name) (λ f. []) (λ f told. taken-there name f (c.requires.there f told)) (λ f told. refl)
    (effect_failed s c.in-Err.field-0 (Remove name) c.requires.quiet c.in-Err.ensures.makes)

pub remove_name-requires-clause-lasting : goal.remove_name-requires-clause-lasting
remove_name-requires-clause-lasting g c = c.requires.lasting

pub remove_name-requires-clause-quiet : goal.remove_name-requires-clause-quiet
remove_name-requires-clause-quiet g c = c.requires.quiet

pub remove_name-requires-clause-there : goal.remove_name-requires-clause-there
remove_name-requires-clause-there g c = c.requires.there
