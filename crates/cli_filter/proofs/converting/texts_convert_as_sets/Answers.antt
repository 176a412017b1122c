use Rattle.std.proofs.Common.{refl, Ok}
use Rattle.cli_filter.proofs.InForm.{by-read}
use Rattle.cli_filter.proofs.converting.texts_convert_as_sets.Goals as goal

pub returns : goal.returns
returns c form j s text v free read = by-read form j (Ok (text, s)) s v (record { text = text; is = refl; free = free; read = read })
