-- The lines of a file copied piece by piece.
use Rattle.std.specs.Prelude.{◌≡◌, ◌≢◌, ℕ, ◌+◌, ◌*◌, ◌<◌, ◌≤◌, List, ◌++◌, length, drop, Bool, Option, Some, None}
use Rattle.outside.specs.Faults.{HasRisen}
use Rattle.outside.specs.ScratchView.{ScratchView}
use Rattle.outside.specs.TreeView as tree
use Rattle.line_list.specs.Lines.{lines}
use Rattle.line_store.specs.declared.fault.OpenFault.{OpenFault}
use Rattle.line_store.specs.declared.fault.OpenFault.TheVariants.{Tree, Scratch, LongLine, FileTooLong, Disagree, Memory}
use Rattle.plan_b.specs.declared.layout.Layout.{Layout}
use Rattle.plan_b.specs.declared.filling.Filling.{Filling}
use Rattle.page_pair.specs.Records.{longest}
use Rattle.plan_b.specs.Pages.{pages_of_width}
use Rattle.page_pair.specs.Reading.{IsPart}
use Rattle.plan_b.specs.Filling.{IsFilled}

-- whole lines of a piece were filled in, up to a place of it
pub record Copies (l : Layout) (told now : Option (List ℕ)) (page next : List ℕ) (f g : Filling) (piece : List ℕ) (is_last : Bool) (at : ℕ) : Type 0 where
  pub more : List (List ℕ)
  pub cut : (text : List ℕ) (start : ℕ) → IsPart text piece start is_last → lines (drop start text) ≡ more ++ lines (drop (start + at) text)
  pub fill : (ls : List (List ℕ)) → IsFilled l told page f ls → IsFilled l now next g (ls ++ more)

-- why a line of so many bytes was not copied: the scratch failed, or no record holds it
abbrev pub IsLineFault : OpenFault → Layout → ScratchView → ScratchView → ℕ → Type 0
IsLineFault Tree l v w n = ⊥
IsLineFault Scratch l v w n = HasRisen v.faults w.faults
IsLineFault (LongLine line length) l v w n = ⊥
IsLineFault (FileTooLong length) l v w n = ⊥
IsLineFault (Disagree want got) l v w n = (want ≢ got) × (l.width < 4 + n)
IsLineFault Memory l v w n = ⊥

-- why lines of a piece were not copied
abbrev pub IsCopyFault : OpenFault → Layout → ScratchView → ScratchView → List ℕ → Bool → Type 0
IsCopyFault Tree l v w piece is_last = ⊥
IsCopyFault Scratch l v w piece is_last = HasRisen v.faults w.faults
IsCopyFault (LongLine line length) l v w piece is_last = ⊥
IsCopyFault (FileTooLong length) l v w piece is_last = ⊥
IsCopyFault (Disagree want got) l v w piece is_last = (want ≢ got) × ((text : List ℕ) (start : ℕ) → IsPart text piece start is_last → l.width < 4 + longest (lines (drop start text)))
IsCopyFault Memory l v w piece is_last = ⊥

-- the lines before a place of a file are filled in
pub record IsCopied (l : Layout) (told : Option (List ℕ)) (page : List ℕ) (at : ℕ) (f : Filling) (file : Option (List ℕ)) : Type 0 where
  pub front : List (List ℕ)
  pub filled : IsFilled l told page f front
  pub split : (text : List ℕ) → file ≡ Some text → lines text ≡ front ++ lines (drop at text)

-- why the last page was not written: the scratch failed, or there are other lines than were counted
abbrev pub IsEndFault : OpenFault → Layout → Filling → ScratchView → ScratchView → Type 0
IsEndFault Tree l f v w = ⊥
IsEndFault Scratch l f v w = HasRisen v.faults w.faults
IsEndFault (LongLine line length) l f v w = ⊥
IsEndFault (FileTooLong length) l f v w = ⊥
IsEndFault (Disagree want got) l f v w = (want ≢ got) × (l.count ≢ f.pages * l.per_page + f.records)
IsEndFault Memory l f v w = ⊥

-- a scratch holds the pages of lines, which are those of a file
pub record IsWritten (l : Layout) (told file : Option (List ℕ)) : Type 0 where
  pub all : List (List ℕ)
  pub counted : length all ≡ l.count
  pub narrow : 4 + longest all ≤ l.width
  pub pages : (bytes : List ℕ) → told ≡ Some bytes → bytes ≡ pages_of_width l.size l.width all
  pub lines_ : (text : List ℕ) → file ≡ Some text → lines text ≡ all
