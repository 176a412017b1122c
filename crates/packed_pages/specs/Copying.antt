-- The lines of a file copied piece by piece.
use Rattle.std.specs.Prelude.{◌≡◌, ◌≢◌, ◌⊎◌, ℕ, ◌+◌, ◌<◌, List, ◌++◌, length, drop, Bool, Option, Some}
use Rattle.outside.specs.Faults.{HasRisen}
use Rattle.outside.specs.ScratchView.{ScratchView}
use Rattle.line_list.specs.Lines.{lines}
use Rattle.line_store.specs.declared.fault.OpenFault.{OpenFault}
use Rattle.line_store.specs.declared.fault.OpenFault.TheVariants.{Tree, Scratch, LongLine, FileTooLong, Disagree, Memory}
use Rattle.page_pair.specs.Records.{longest}
use Rattle.page_pair.specs.Reading.{IsPart}
use Rattle.page_pair.specs.Room.{no_room, room_with, room_from, page_count, HasRoom}
use Rattle.packed_pages.specs.declared.layout.Layout.{Layout}
use Rattle.packed_pages.specs.declared.filling.Filling.{Filling}
use Rattle.packed_pages.specs.Filling.{IsFilled, IsPacked}

-- whole lines of a piece were filled in, up to a place of it
pub record Copies (l : Layout) (told now : Option (List ℕ)) (page next : List ℕ) (f g : Filling) (piece : List ℕ) (is_last : Bool) (at : ℕ) : Type 0 where
  pub more : List (List ℕ)
  pub cut : (text : List ℕ) (start : ℕ) → IsPart text piece start is_last → lines (drop start text) ≡ more ++ lines (drop (start + at) text)
  pub room : room_from l.size f.room more ≡ g.room
  pub fill : (ls : List (List ℕ)) → IsFilled l told page f ls → IsFilled l now next g (ls ++ more)

-- why a line of so many bytes was not copied: the scratch failed, or the line was not there when the file was measured
abbrev pub IsLineFault : OpenFault → Layout → Filling → ScratchView → ScratchView → ℕ → Type 0
IsLineFault Tree l f v w n = ⊥
IsLineFault Scratch l f v w n = HasRisen v.faults w.faults
IsLineFault (LongLine line length) l f v w n = ⊥
IsLineFault (FileTooLong length) l f v w n = ⊥
IsLineFault (Disagree want got) l f v w n = (want ≢ got) × ((l.size < 4 + n) ⊎ (l.pages < (room_with l.size f.room (4 + n)).pages))
IsLineFault Memory l f v w n = ⊥

-- lines do not fit a layout: one is too long, or they want more pages
abbrev pub IsMisfit : Layout → List (List ℕ) → Type 0
IsMisfit l ls = (l.size < 4 + longest ls) ⊎ (l.pages < (room_from l.size no_room ls).pages)

-- why lines of a piece were not copied
abbrev pub IsCopyFault : OpenFault → Layout → Filling → ScratchView → ScratchView → List ℕ → Bool → Type 0
IsCopyFault Tree l f v w piece is_last = ⊥
IsCopyFault Scratch l f v w piece is_last = HasRisen v.faults w.faults
IsCopyFault (LongLine line length) l f v w piece is_last = ⊥
IsCopyFault (FileTooLong length) l f v w piece is_last = ⊥
IsCopyFault (Disagree want got) l f v w piece is_last = (want ≢ got) × ((text : List ℕ) (start : ℕ) → IsPart text piece start is_last → HasRoom l.size text start f.room → IsMisfit l (lines text))
IsCopyFault Memory l f v w piece is_last = ⊥

-- the lines before a place of a file are filled in
pub record IsCopied (l : Layout) (told : Option (List ℕ)) (page : List ℕ) (at : ℕ) (f : Filling) (file : Option (List ℕ)) : Type 0 where
  pub front : List (List ℕ)
  pub filled : IsFilled l told page f front
  pub split : (text : List ℕ) → file ≡ Some text → lines text ≡ front ++ lines (drop at text)

-- why the last page was not written: the scratch failed, or there are other lines or pages than were counted
abbrev pub IsEndFault : OpenFault → Layout → Filling → ScratchView → ScratchView → Type 0
IsEndFault Tree l f v w = ⊥
IsEndFault Scratch l f v w = HasRisen v.faults w.faults
IsEndFault (LongLine line length) l f v w = ⊥
IsEndFault (FileTooLong length) l f v w = ⊥
IsEndFault (Disagree want got) l f v w = (want ≢ got) × ((l.count ≢ f.count) ⊎ (l.pages ≢ page_count f.room))
IsEndFault Memory l f v w = ⊥

-- a scratch holds the packed pages of lines, which are those of a file
pub record IsWritten (l : Layout) (told file : Option (List ℕ)) : Type 0 where
  pub all : List (List ℕ)
  pub counted : length all ≡ l.count
  pub packed : IsPacked l told all
  pub lines_ : (text : List ℕ) → file ≡ Some text → lines text ≡ all
