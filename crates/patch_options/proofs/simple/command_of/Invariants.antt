use Rattle.std.proofs.Common.{◌≡◌, drop}
use Rattle.clap.specs.Words.{app_of}
use Rattle.patch_options.specs.Simple.{plain_table, simple_command}
use Rattle.patch_options.proofs.ByTable.{with_groups}
use Rattle.patch_options.proofs.simple.command_of.Given as goal

-- the command so far, with the groups that are left, is the whole one
abbrev pub invariant-loop-group : goal.invariant-loop-group
invariant-loop-group l = simple_command l.name (plain_table l.table) ≡ with_groups (app_of l.command) (drop l.group-index l.table)
