-- What devices tell that tell nothing but their counts, as real ones do.
use Rattle.std.specs.Prelude.{ℕ, None, true}
use Rattle.outside.specs.TreeView.{TreeView}
use Rattle.outside.specs.SinkView.{SinkView}
use Rattle.outside.specs.SourceView.{SourceView}
use Rattle.outside.specs.ScratchView.{ScratchView}

abbrev pub silent_tree : ℕ → TreeView
silent_tree faults = record { told = None; faults = faults; moment = 0; left_at = λ _ _. ⊥; is_sealed = λ _. true }

abbrev pub silent_sink : ℕ → SinkView
silent_sink faults = record { told = None; faults = faults }

abbrev pub silent_source : ℕ → SourceView
silent_source faults = record { told = None; faults = faults }

abbrev pub silent_scratch : ℕ → ℕ → ScratchView
silent_scratch faults reads = record { told = None; faults = faults; reads = reads }
