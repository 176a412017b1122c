-- The devices of a tool that reads no standard input.
use Rattle.outside.specs.Faults.{HasRisen}
use Rattle.outside.specs.TreeView.{TreeView}
use Rattle.outside.specs.ScratchView.{ScratchView}
use Rattle.outside.specs.SinkView.{SinkView}

-- what the devices are seen as at one moment
pub record World : Type 1 where
  pub tree : TreeView
  pub scratch : ScratchView
  pub out : SinkView

abbrev pub world : TreeView → ScratchView → SinkView → World
world tree scratch out = record { tree = tree; scratch = scratch; out = out }

-- no count of faults rose, nor stands at its greatest value
pub record NoneFailed (u w : World) : Type 0 where
  pub tree : HasRisen u.tree.faults w.tree.faults → ⊥
  pub scratch : HasRisen u.scratch.faults w.scratch.faults → ⊥
  pub out : HasRisen u.out.faults w.out.faults → ⊥
