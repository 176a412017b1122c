use Rattle.std.proofs.Common.{map, string_bytes}
use Rattle.patch_options.specs.PlainJob.{plain_options}
use Rattle.patch_options.specs.Simple.{plain_table, rows_in}
use Rattle.patch_options.proofs.Jobs.{words_refused, table_refused, job_is, lawful_job}
use Rattle.patch_options.proofs.Matching.{is_free, are_taken, rows_are, why_refused}
use Rattle.patch_options.proofs.words.read_whole.Goals as goal

pub matched_by-requires : goal.matched_by-requires
matched_by-requires c = is_free (plain_table c.patch_table.result.now) c.patch_table.ensures

pub returns-in-Err-clause-refused : goal.returns-in-Err-clause-refused
returns-in-Err-clause-refused c =
    let words = map string_bytes c.args.words.now in
    words_refused words c.in-Err.fault (why_refused (plain_table c.patch_table.result.now) c.patch_table.ensures words c.in-Err.fault c.in-Err.ensures.refused)

pub returns-in-Err-read-clause-refused : goal.returns-in-Err-read-clause-refused
returns-in-Err-read-clause-refused c =
    let words = map string_bytes c.args.words.now in
    let rows = rows_in c.in-Ok.matches in
    let table = plain_table c.patch_table.result.now in
    let taken = are_taken table c.patch_table.ensures words c.in-Ok.ensures.taken in
    table_refused words rows c.in-Err-read.fault taken (rows_are table c.patch_table.ensures words rows c.in-Ok.ensures.rows) c.in-Err-read.ensures.refused

pub returns-in-Ok-read-clause-job : goal.returns-in-Ok-read-clause-job
returns-in-Ok-read-clause-job c =
    let words = map string_bytes c.args.words.now in
    let rows = rows_in c.in-Ok.matches in
    let table = plain_table c.patch_table.result.now in
    job_is words rows (plain_options c.in-Ok-read.options) (are_taken table c.patch_table.ensures words c.in-Ok.ensures.taken) (rows_are table c.patch_table.ensures words rows c.in-Ok.ensures.rows)
    c.in-Ok-read.ensures.command c.in-Ok-read.ensures.options

pub returns-in-Ok-read-clause-lawful : goal.returns-in-Ok-read-clause-lawful
returns-in-Ok-read-clause-lawful c = lawful_job (rows_in c.in-Ok.matches) (plain_options c.in-Ok-read.options) c.in-Ok-read.ensures.command c.in-Ok-read.ensures.options
