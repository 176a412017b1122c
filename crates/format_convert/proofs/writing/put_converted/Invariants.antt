use Rattle.std.proofs.Common.{drop}
use Rattle.std.specs.List.{flat_map}
use Rattle.cli_tool_words.specs.PlainJobs.{plain_filter_job}
use Rattle.format_convert.proofs.Parts.{Written}
use Rattle.format_convert.specs.Converted.{converted, rows, written_if}
use Rattle.format_convert.proofs.writing.put_converted.Given as goal

abbrev pub invariant-loop-patch : goal.invariant-loop-patch
invariant-loop-patch g l = Written g.O.Sink.view g.O.Sink.same_rest l.fn.out l.out (converted l.form (plain_filter_job l.job) l.set) (flat_map (written_if l.form (plain_filter_job l.job) l.set.text) (drop l.patch (rows l.set)))
