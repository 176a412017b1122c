-- The devices of a filter, and what must be told of them.
use Rattle.std.specs.Prelude.{◌≡◌, ℕ, List, Some, Result}
use Rattle.outside.specs.Files.{Files}
use Rattle.outside.specs.TreeView.{TreeView}
use Rattle.outside.specs.FinderView.{FinderView}
use Rattle.outside.specs.SourceView.{SourceView}
use Rattle.outside.specs.SinkView.{SinkView}
use Rattle.patch_options.specs.declared.options.WordFault.{WordFault}
use Rattle.cli_tool_words.specs.PlainJobs.{PlainToolJob}
use Rattle.cli_filter.specs.Jobs.{AsksFor, NamesFile, ReadsSource}

-- what the devices of a filter are seen as at one moment
pub record World : Type 1 where
  pub tree : TreeView
  pub finder : FinderView
  pub source : SourceView
  pub out : SinkView

abbrev pub world : TreeView → FinderView → SourceView → SinkView → World
world tree finder source out = record { tree = tree; finder = finder; source = source; out = out }

-- the tree tells these files where one of them is read, and standard input what it has left where that is read
pub record Tells (job : Result PlainToolJob WordFault) (w : World) (f : Files) (left : List ℕ) : Type 0 where
  pub files : AsksFor job NamesFile → w.tree.told ≡ Some f
  pub source : ReadsSource job → w.source.told ≡ Some left
