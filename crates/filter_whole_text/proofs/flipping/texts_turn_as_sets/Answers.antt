use Rattle.std.proofs.Common.{refl}
use Rattle.patch_set.specs.SetView.{plain_patches}
use Rattle.flip_patch.specs.Refusals.{refused}
use Rattle.filter_whole_text.proofs.TurnedText.{by-set}
use Rattle.filter_whole_text.proofs.flipping.texts_turn_as_sets.Goals as goal

pub returns : goal.returns
returns c text v free read = by-set text v free read (refused (plain_patches v)) refl
