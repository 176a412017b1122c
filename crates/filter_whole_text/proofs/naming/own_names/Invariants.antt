use Rattle.cli_tool_words.specs.PlainJobs.{plain_split_job}
use Rattle.filter_whole_text.proofs.NameLoops.{Named}
use Rattle.filter_whole_text.proofs.naming.own_names.Given as goal

abbrev pub invariant-loop-index : goal.invariant-loop-index
invariant-loop-index l = Named (plain_split_job l.job) l.stems l.index l.earlier l.all.items
