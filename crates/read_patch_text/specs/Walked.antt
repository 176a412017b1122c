-- File patches found one after the other in a text, and what is kept of them.
use Rattle.std.specs.Prelude.{◌≡◌, ℕ, ◌+◌, ◌≤◌, List, [], ◌∷◌, ◌++◌, All, length, map, sum_by, Some, Ok}
use Rattle.hunk_core.specs.declared.BadKind.{BadKind}
use Rattle.unified_form.specs.declared.hunk_scan.OldRange.{OldRange}
use Rattle.read_header_record.specs.declared.Header.{Header}
use Rattle.patch_header.specs.declared.read_options.ReadOptions.{ReadOptions}
use Rattle.patch_header.specs.Steps.{IsFirstOpening, IsEnd}
use Rattle.read_file_patch.specs.declared.FilePatch.{FilePatch}
use Rattle.read_file_patch.specs.PlainPatch.{PlainPatch, patch_of, row_count}
use Rattle.read_file_patch.specs.Absent.{IsLawfulPatch}
use Rattle.read_patch_text.specs.Patches.{patch_at, next_patch, patches_of}
use Rattle.read_patch_text.specs.Reading.{IsProgress, ahead_of}
use Rattle.read_patch_text.specs.Regions.{region_of, regions_at, regions_of}
use Rattle.read_patch_text.specs.Spans.{LieInTurn}
use Rattle.read_patch_text.specs.Texts.{ComesFault}
use Rattle.read_patch_text.specs.Outlines.{outline}
use Rattle.read_patch_text.specs.Digests.{AreDigests, digest, ranges_in}
use Rattle.read_patch_text.specs.declared.patches.Progress.{Progress}

-- what is had of file patches of a text that is read in these ways: up to a place whose line has this number, and with so many hunks
abbrev pub Keeping : Type 0 → Type 1
Keeping S = ReadOptions → List ℕ → List PlainPatch → ℕ → ℕ → ℕ → S → Type 0

-- the file patch with this header was read from here on up to the next place, and is kept behind those before it
pub record IsTaken {S : Type 0} (Has : Keeping S) (text : List ℕ) (header : Header) (here : Progress) (before after : S) (next : Progress) : Type 0 where
  pub patch : PlainPatch
  pub read : patch_at text header ≡ Ok (patch, ahead_of text next)
  pub has : (ways : ReadOptions) (front : List PlainPatch) → IsFirstOpening ways text here.at here.number header → Has ways text front here.at here.number here.hunks before → Has ways text (front ++ patch ∷ []) next.at next.number next.hunks after

-- the same of the file patch that comes next
pub record IsNext {S : Type 0} (Has : Keeping S) (ways : ReadOptions) (text : List ℕ) (here : Progress) (before after : S) (next : Progress) : Type 0 where
  pub patch : PlainPatch
  pub read : next_patch ways text here.at here.number ≡ Ok (Some (patch, ahead_of text next))
  pub has : (front : List PlainPatch) → Has ways text front here.at here.number here.hunks before → Has ways text (front ++ patch ∷ []) next.at next.number next.hunks after

-- all file patches of a text were read, and are kept; behind them stands none
pub record AreTaken {S : Type 0} (Has : Keeping S) (ways : ReadOptions) (text : List ℕ) (before after : S) (end : Progress) : Type 0 where
  pub patches : List PlainPatch
  pub read : patches_of ways text ≡ Ok patches
  pub has : Has ways text [] 0 1 0 before → Has ways text patches end.at end.number end.hunks after
  pub ends : IsEnd ways text end.at
  pub progress : IsProgress text end

-- some file patches were read, and were kept so; what comes next is at fault
pub record IsStopped {S : Type 0} (Has : Keeping S) (ways : ReadOptions) (text : List ℕ) (before : S) (line : ℕ) (kind : BadKind) : Type 0 where
  pub patches : List PlainPatch
  pub here : Progress
  pub then : S
  pub has : Has ways text [] 0 1 0 before → Has ways text patches here.at here.number here.hunks then
  pub comes : ComesFault ways text here.at here.number line kind

-- ---- what is kept

-- file patches with their hunks
pub record HasWhole (ways : ReadOptions) (text : List ℕ) (front : List PlainPatch) (at number hunks : ℕ) (items : List FilePatch) : Type 0 where
  pub are : front ≡ map (patch_of text) items
  pub lawful : All (IsLawfulPatch text) items
  pub turn : LieInTurn ways text 0 1 0 items at number
  pub rows : sum_by (λ p. row_count p.change) items ≡ hunks
  pub count : length items ≤ at

-- those without their hunks
pub record HasOutlines (text : List ℕ) (front : List PlainPatch) (at : ℕ) (items : List FilePatch) : Type 0 where
  pub are : map (patch_of text) items ≡ map outline front
  pub lawful : All (IsLawfulPatch text) items
  pub count : length items ≤ at

-- the regions of the first file patches of a text, and those that come from a place on
pub record AreRegions (ways : ReadOptions) (text : List ℕ) (items : List FilePatch) (at number : ℕ) : Type 0 where
  pub most : ℕ
  pub enough : length text ≤ at + most
  pub same : map region_of items ++ regions_at most ways text at number ≡ regions_of ways text

-- those with the old lines of each hunk
pub record HasDigests (ways : ReadOptions) (text : List ℕ) (front : List PlainPatch) (at number : ℕ) (items : List FilePatch) (olds : List (List OldRange)) : Type 0 where
  pub are : map (patch_of text) items ≡ map digest front
  pub ranges : olds ≡ map ranges_in front
  pub digests : AreDigests text items olds
  pub regions : AreRegions ways text items at number
  pub count : length items ≤ at
