use Rattle.std.proofs.Common.{◌∙◌, map, string_bytes, ap}
use Rattle.std.proofs.lemmas.Result.{IfErr-weaker, IfOk-weaker}
use Rattle.patch_options.specs.Whole.{whole_words}
use Rattle.cli_tool_words.proofs.Reading.{job_whole, refused_whole}
use Rattle.cli_tool_words.proofs.words.read_by.Goals as goal

pub returns-in-Ok-clause-job : goal.returns-in-Ok-clause-job
returns-in-Ok-clause-job c =
    let words = map string_bytes c.args.words.now in
    let whole = ap (map string_bytes) c.deref.ensures.value ∙ (c.in-Ok.ensures ∙ ap (λ table. whole_words table words) c.table.ensures) in
    IfOk-weaker c.read_whole.result _ _ (λ job is. job_whole c.args.tool words (map string_bytes c.deref.result.now) whole ∙ is) c.read_whole.ensures.job

pub returns-in-Ok-clause-lawful : goal.returns-in-Ok-clause-lawful
returns-in-Ok-clause-lawful c = c.read_whole.ensures.lawful

pub returns-in-Ok-clause-refused : goal.returns-in-Ok-clause-refused
returns-in-Ok-clause-refused c =
    let words = map string_bytes c.args.words.now in
    let whole = ap (map string_bytes) c.deref.ensures.value ∙ (c.in-Ok.ensures ∙ ap (λ table. whole_words table words) c.table.ensures) in
    IfErr-weaker c.read_whole.result _ _ (refused_whole c.args.tool words (map string_bytes c.deref.result.now) whole) c.read_whole.ensures.refused
