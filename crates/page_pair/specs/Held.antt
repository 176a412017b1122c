-- What a plan over a scratch holds before it takes a file, and why it doesn't fetch a line.
use Rattle.std.specs.Prelude.{◌≡◌, ◌≢◌, None, ℕ, [], false, Some}
use Rattle.outside.specs.Faults.{HasRisen}
use Rattle.outside.specs.ScratchView.{ScratchView}
use Rattle.line_store.specs.declared.fault.LineFault.{LineFault}
use Rattle.line_store.specs.declared.fault.LineFault.TheVariants.{Scratch, Disagree}
use Rattle.line_store.specs.Store.{Seen}

-- why a page was not fetched
abbrev pub HasPageCause : LineFault → ScratchView → ScratchView → Type 0
HasPageCause Scratch v w = HasRisen v.faults w.faults
HasPageCause (Disagree want got) v w = (want ≢ got) × (v.told ≡ None)

-- a plan that stands for no lines, over a scratch
abbrev pub bare : ℕ → ScratchView → Seen
bare size v = record { told = Some []; count = 0; held = λ h. None; faults = v.faults; scratch = v.told; size = size; needs_memory = false }
