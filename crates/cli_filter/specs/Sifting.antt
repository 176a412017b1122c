-- What `grepdiff` promises: that it is the definition's, and what each answer says of the devices.
use Rattle.std.specs.Prelude.{◌≡◌, false, Result}
use Rattle.outside.specs.FinderView.{FinderView}
use Rattle.outside.specs.TreeView.{TreeView}
use Rattle.outside.specs.SourceView.{SourceView}
use Rattle.outside.specs.SinkView.{SinkView}
use Rattle.cli_tool_words.specs.PlainJobs.{PlainGrepJob}
use Rattle.filter_whole_text.specs.Sifting.{HasTextCause, Sifts}
use Rattle.filter_whole_text.specs.declared.fault.FilterFault.{FilterFault}
use Rattle.cli_filter.specs.Outcomes.{IsGrepped}

-- `grepdiff` reads and writes, by what its finder takes and where it finds it, and leaves the tree as it is
abbrev pub Greps : FinderView → PlainGrepJob → TreeView → TreeView → SourceView → SourceView → SinkView → SinkView → Result (Unit {0}) FilterFault → Type 0
Greps finder j t u a b c d result = Sifts j.input j.select (HasTextCause j.select.skip_binary) (finder.takes j.pattern ≡ false) (IsGrepped finder.takes finder.hit j) t u a b c d result
