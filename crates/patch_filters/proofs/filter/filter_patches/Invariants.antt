use Rattle.std.specs.List.{zip}
use Rattle.outside.proofs.SinkSteps.{HasPut}
use Rattle.outside.proofs.Loops.{up_to}
use Rattle.cli_tool_words.specs.PlainJobs.{plain_filter_job}
use Rattle.filter_choice.specs.Selected.{numbered}
use Rattle.patch_filters.specs.Digested.{digest_if_taken}
use Rattle.patch_filters.proofs.filter.filter_patches.Given as goal

abbrev pub invariant-loop-patch : goal.invariant-loop-patch
invariant-loop-patch g l = HasPut g.O.Sink.view g.O.Sink.same_rest l.fn.out l.out (up_to (digest_if_taken (plain_filter_job l.job) l.digest.text) (numbered (zip l.digest.patches l.digest.olds)) l.patch)
