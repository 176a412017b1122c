use Rattle.std.proofs.Common.{◌∙◌, ap}
use Rattle.outside.specs.Files.{is_temp}
use Rattle.series_stack.proofs.Entries.{lawful}
use Rattle.series_stack.proofs.files.saved_name.Goals as goal

pub returns-in-Ok : goal.returns-in-Ok
returns-in-Ok c = record {
  name = c.in-Ok.ensures.text ∙ (lawful c.args.text.now c.requires).normal;
  lasting = (
      let is = lawful c.args.text.now c.requires in
      ap is_temp (c.in-Ok.ensures.text ∙ is.normal) ∙ is.lasting);
}
