-- What is known of a file that is read in pieces.
use Rattle.std.specs.Prelude.{◌≡◌, ◌≢◌, ℕ, ◌+◌, ◌-◌, ◌<◌, ◌≤◌, List, [], ◌∷◌, ◌++◌, length, drop, slice_range, slice_index_or, Bool, true, false, Option, None, Some}
use Rattle.std.specs.Option.{option_map}
use Rattle.line_list.specs.Lines.{lines}
use Rattle.outside.specs.Files.{bytes_at}
use Rattle.outside.specs.Faults.{HasRisen}
use Rattle.outside.specs.ScratchView.{ScratchView}
use Rattle.outside.specs.TreeView as tree
use Rattle.line_store.specs.declared.fault.OpenFault.{OpenFault}
use Rattle.line_store.specs.declared.fault.OpenFault.TheVariants.{Tree, Scratch, LongLine, FileTooLong, Disagree, Memory}
use Rattle.line_store.specs.Taking.{refusal}
use Rattle.page_pair.specs.Records.{longest}

-- the bytes of a file, where they are told
abbrev pub told_file : tree.TreeView → List ℕ → Option (List ℕ)
told_file t name = option_map (λ f. bytes_at f name) t.told

-- the file has so many bytes, where that is told
abbrev pub HasLength : Option (List ℕ) → ℕ → Type 0
HasLength file n = (text : List ℕ) → file ≡ Some text → length text ≡ n

-- why a file was not read
abbrev pub IsReadFault : OpenFault → tree.TreeView → tree.TreeView → Type 0
IsReadFault Tree t u = tree.Rises t u
IsReadFault Scratch t u = ⊥
IsReadFault (LongLine line length) t u = ⊥
IsReadFault (FileTooLong length) t u = ⊥
IsReadFault (Disagree want got) t u = (want ≢ got) × (t.told ≡ None)
IsReadFault Memory t u = ⊥

-- why a file was not measured: it was not read, or has a line that is too long
abbrev pub IsMeasureFault : OpenFault → ℕ → tree.TreeView → tree.TreeView → List ℕ → Type 0
IsMeasureFault Tree size t u name = tree.Rises t u
IsMeasureFault Scratch size t u name = ⊥
IsMeasureFault (LongLine line length) size t u name = (size - 4 < length) × ((text : List ℕ) → told_file t name ≡ Some text → refusal size text ≡ Some (LongLine line length))
IsMeasureFault (FileTooLong length) size t u name = ⊥
IsMeasureFault (Disagree want got) size t u name = (want ≢ got) × (t.told ≡ None)
IsMeasureFault Memory size t u name = ⊥

-- a piece stands at a place in a text, the last piece up to its end
pub record IsPart (text piece : List ℕ) (at : ℕ) (is_last : Bool) : Type 0 where
  pub is : drop at text ≡ piece ++ drop (at + length piece) text
  pub within : at + length piece ≤ length text
  pub last : is_last ≡ true → at + length piece ≡ length text

-- no byte is a line feed
pub record HasNoFeed (bytes : List ℕ) : Type 0 where
  pub each : (i : ℕ) → i < length bytes → slice_index_or bytes i 0 ≢ 10

-- a whole line of a piece, whatever follows the piece; nothing follows the last one
pub record IsWhole (piece : List ℕ) (is_last : Bool) (at end : ℕ) : Type 0 where
  pub low : at < end
  pub high : end ≤ length piece
  pub first : (rest : List ℕ) → (is_last ≡ true → rest ≡ []) → lines (drop at piece ++ rest) ≡ slice_range piece at end ∷ lines (drop end piece ++ rest)

-- no whole line of a piece is left
pub record IsNoneWhole (piece : List ℕ) (is_last : Bool) (at : ℕ) : Type 0 where
  pub last : is_last ≡ true → at ≡ length piece
  pub open_ : HasNoFeed (drop at piece)

-- the end of the whole line at a place of a piece, if one is left
abbrev pub FindsWhole : List ℕ → Bool → ℕ → Option ℕ → Type 0
FindsWhole piece is_last at None = IsNoneWhole piece is_last at
FindsWhole piece is_last at (Some end) = IsWhole piece is_last at end

-- so many lines stand before a place of a text, the longest of them of so many bytes
pub record IsMeasured (text : List ℕ) (at count most : ℕ) : Type 0 where
  pub front : List (List ℕ)
  pub split : lines text ≡ front ++ lines (drop at text)
  pub counted : length front ≡ count
  pub widest : longest front ≡ most

-- a line without a line feed ends with the last piece
abbrev pub IsOpenEnd : ℕ → Bool → ℕ → Option ℕ → Type 0
IsOpenEnd n is_last at None = is_last ≡ true → n ≤ at
IsOpenEnd n is_last at (Some end) = (is_last ≡ true) × ((at < n) × (end ≡ n))

-- no line feed stands between two places of a text
pub record IsOpen (text : List ℕ) (at end : ℕ) : Type 0 where
  pub each : (i : ℕ) → i < end - at → slice_index_or (drop at text) i 0 ≢ 10

-- a line goes on up to a place at least, or ends there
abbrev pub GoesTo : List ℕ → ℕ → ℕ → Bool → Type 0
GoesTo text at end true = lines (drop at text) ≡ slice_range text at end ∷ lines (drop end text)
GoesTo text at end false = IsOpen text at end

-- why a file that was measured was not copied
abbrev pub IsTakeFault : OpenFault → ScratchView → ScratchView → tree.TreeView → tree.TreeView → Type 0
IsTakeFault Tree v w t u = tree.Rises t u
IsTakeFault Scratch v w t u = HasRisen v.faults w.faults
IsTakeFault (LongLine line length) v w t u = ⊥
IsTakeFault (FileTooLong length) v w t u = ⊥
IsTakeFault (Disagree want got) v w t u = (want ≢ got) × (t.told ≡ None)
IsTakeFault Memory v w t u = ⊥
