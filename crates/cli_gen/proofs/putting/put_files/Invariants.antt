use Rattle.std.proofs.Common.{map, Ok}
use Rattle.std.specs.List.{range_with_len}
use Rattle.outside.specs.declared.Failed.{Failed}
use Rattle.cli_tool_words.specs.PlainJobs.{plain_gen_job}
use Rattle.cli_gen.specs.Command.{file_put}
use Rattle.cli_gen.specs.Putting.{PutsAll}
use Rattle.cli_gen.proofs.putting.put_files.Given as goal

abbrev pub invariant-loop-done : goal.invariant-loop-done
invariant-loop-done g l = PutsAll {R = Unit {0}} {E = Failed} (map (file_put (plain_gen_job l.fn.job)) (range_with_len 1 l.done)) (g.T.Tree.view l.fn.tree) (g.T.Tree.view l.tree) (Ok tt)
