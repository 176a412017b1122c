-- Records of lines on a page.
use Rattle.std.specs.Prelude.{◌≡◌, ℕ, ◌+◌, ◌-◌, List, [], ◌∷◌, ◌++◌, length, take, drop, replicate, max}
use Rattle.std.specs.Int.{w32, to_le_bytes, from_le_bytes}
use Rattle.outside.specs.Faults.{HasRisen}
use Rattle.outside.specs.ScratchView.{ScratchView}
use Rattle.line_store.specs.declared.fault.OpenFault.{OpenFault}
use Rattle.line_store.specs.declared.fault.OpenFault.TheVariants.{Tree, Scratch, LongLine, FileTooLong, Disagree, Memory}

-- the length of the longest line
abbrev pub longest : List (List ℕ) → ℕ
longest [] = 0
longest (line ∷ more) = max (length line) (longest more)

-- bytes with zero bytes behind them, up to a size
abbrev pub padded : ℕ → List ℕ → List ℕ
padded size bytes = bytes ++ replicate (size - length bytes) 0

-- a record: the line's length as 4 bytes, the lowest first, the line, and zero bytes up to the width
unfoldable pub record_of : ℕ → List ℕ → List ℕ
record_of width line = padded width (to_le_bytes w32 (length line) ++ line)

-- the length that the record at a place states
unfoldable pub stated : List ℕ → ℕ → ℕ
stated bytes at = from_le_bytes w32 (take 4 (drop at bytes))

-- the line that the record at a place holds
unfoldable pub line_in : List ℕ → ℕ → List ℕ
line_in bytes at = take (stated bytes at) (drop (at + 4) bytes)

-- bytes hold a piece at a place, and before it what the old ones hold
pub record Extends (old new : List ℕ) (at : ℕ) (piece : List ℕ) : Type 0 where
  pub is : take (at + length piece) new ≡ take at old ++ piece

-- why records were not written
abbrev pub IsWriteFault : OpenFault → ScratchView → ScratchView → Type 0
IsWriteFault Tree v w = ⊥
IsWriteFault Scratch v w = HasRisen v.faults w.faults
IsWriteFault (LongLine line length) v w = ⊥
IsWriteFault (FileTooLong length) v w = ⊥
IsWriteFault (Disagree want got) v w = ⊥
IsWriteFault Memory v w = ⊥
