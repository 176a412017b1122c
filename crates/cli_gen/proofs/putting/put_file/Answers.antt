use Rattle.std.proofs.Common.{ap, ◌∙◌}
use Rattle.outside.specs.Files.{is_temp}
use Rattle.outside.proofs.Names.{temp_of_is_temp}
use Rattle.cli_gen.proofs.PutSteps.{put_one}
use Rattle.cli_gen.proofs.putting.put_file.Goals as goal

pub put_whole-requires-clause-temporary : goal.put_whole-requires-clause-temporary
put_whole-requires-clause-temporary g c = ap is_temp c.requires.temp ∙ temp_of_is_temp c.args.place.now.name

pub returns : goal.returns
returns g c = put_one c.args.place.now.name c.args.place.now.temp c.args.bytes.now c.requires.temp c.requires.lasting c.put_whole.result c.put_whole.ensures.run c.put_whole.ensures.makes c.put_whole.ensures.ok
