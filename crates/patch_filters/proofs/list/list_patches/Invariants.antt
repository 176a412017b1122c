use Rattle.outside.proofs.SinkSteps.{HasPut}
use Rattle.filter_choice.specs.Outlined.{outlined}
use Rattle.filter_choice.specs.Selected.{numbered}
use Rattle.cli_tool_words.specs.PlainJobs.{plain_list_job}
use Rattle.patch_filters.specs.Listed.{line_if_selected}
use Rattle.outside.proofs.Loops.{up_to}
use Rattle.patch_filters.proofs.list.list_patches.Given as goal

abbrev pub invariant-loop-patch : goal.invariant-loop-patch
invariant-loop-patch g l = HasPut g.O.Sink.view g.O.Sink.same_rest l.fn.out l.out (up_to (line_if_selected (plain_list_job l.job)) (numbered (outlined l.outline)) l.patch)
