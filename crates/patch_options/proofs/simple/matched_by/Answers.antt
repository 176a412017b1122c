use Rattle.std.proofs.Common.{map, string_bytes}
use Rattle.clap.specs.Words.{app_of}
use Rattle.patch_options.specs.Simple.{plain_table, simple_command}
use Rattle.patch_options.proofs.ByTable.{rows_are, are_taken, why_is}
use Rattle.patch_options.proofs.simple.matched_by.Goals as goal

pub returns-in-Ok-try_get_matches_from-clause-taken : goal.returns-in-Ok-try_get_matches_from-clause-taken
returns-in-Ok-try_get_matches_from-clause-taken c =
    are_taken (app_of c.in-Ok.command) (simple_command c.args.name.now (plain_table c.args.table.now)) (map string_bytes c.args.words.now) c.in-Ok.ensures c.requires c.in-Ok-try_get_matches_from.ensures.kinds

pub returns-in-Ok-try_get_matches_from-clause-rows : goal.returns-in-Ok-try_get_matches_from-clause-rows
returns-in-Ok-try_get_matches_from-clause-rows c =
    rows_are (app_of c.in-Ok.command) (simple_command c.args.name.now (plain_table c.args.table.now)) (map string_bytes c.args.words.now) c.in-Ok.ensures c.requires c.in-Ok-try_get_matches_from.matches c.in-Ok-try_get_matches_from.ensures.matches

pub returns-in-Err-try_get_matches_from-clause-refused : goal.returns-in-Err-try_get_matches_from-clause-refused
returns-in-Err-try_get_matches_from-clause-refused c =
    why_is (app_of c.in-Ok.command) (simple_command c.args.name.now (plain_table c.args.table.now)) (map string_bytes c.args.words.now) c.in-Ok.ensures c.requires c.in-Err-try_get_matches_from.error c.why_refused.result c.in-Err-try_get_matches_from.ensures.kinds c.why_refused.ensures
