use Rattle.cli_tool_words.specs.PlainJobs.{plain_grep_job}
use Rattle.patch_filters.specs.Grepped.{test_of, text_if_found}
use Rattle.patch_filters.proofs.Finding.{HasFound}
use Rattle.outside.proofs.Loops.{up_to}
use Rattle.patch_filters.proofs.grep.put_grepped.Given as goal

abbrev pub invariant-loop-patch : goal.invariant-loop-patch
invariant-loop-patch g l = HasFound g.O.Sink.view g.O.Sink.same_rest (g.F.Finder.view l.fn.finder) (g.F.Finder.view l.finder) l.fn.out l.out (up_to (text_if_found (test_of (g.F.Finder.view l.fn.finder)) (plain_grep_job l.job) l.set.text) l.set.patches l.patch)
