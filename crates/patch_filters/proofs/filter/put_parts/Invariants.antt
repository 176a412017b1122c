use Rattle.std.specs.List.{zip}
use Rattle.outside.proofs.SinkSteps.{HasPut}
use Rattle.outside.proofs.Loops.{up_to}
use Rattle.cli_tool_words.specs.PlainJobs.{plain_filter_job}
use Rattle.patch_filters.specs.Digested.{digest_kept}
use Rattle.patch_filters.specs.Filtered.{pieces, text_if}
use Rattle.patch_filters.proofs.filter.put_parts.Given as goal

abbrev pub invariant-loop-hunk : goal.invariant-loop-hunk
invariant-loop-hunk g l = HasPut g.O.Sink.view g.O.Sink.same_rest l.initial.out l.out (up_to text_if (zip (digest_kept (plain_filter_job l.job) l.text l.patch l.olds) (pieces l.text l.patch)) l.hunk)
