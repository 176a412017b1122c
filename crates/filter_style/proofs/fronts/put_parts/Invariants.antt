use Rattle.std.proofs.Common.{◌-◌, length}
use Rattle.cli_tool_words.specs.PlainJobs.{plain_style}
use Rattle.filter_style.proofs.Lined.{HasFront}
use Rattle.filter_style.proofs.fronts.put_parts.Given as goal

abbrev pub invariant-lines : goal.invariant-lines
invariant-lines l = HasFront (plain_style l.style) l.form l.parts l.text l.fn.out.items l.out.items l.place l.at

abbrev pub decreases-lines : goal.decreases-lines
decreases-lines l = length l.text - l.at
