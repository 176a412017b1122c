-- Which file patches stand in lines, one behind the other, wherever the lines stand.
use Rattle.std.specs.Prelude.{◌≡◌, List, [], ◌∷◌, ◌++◌, ℕ, length, Some}
use Rattle.patch_header.specs.GitHeaders.{git_header}
use Rattle.patch_header.specs.Openings.{stop_at}
use Rattle.patch_header.specs.Steps.{AreQuiet}
use Rattle.patch_header.specs.declared.openings.Stop.{Stop}
use Rattle.patch_header.specs.declared.openings.Stop.TheVariants.{Opening, Binary, Bare}
use Rattle.patch_header.specs.declared.read_options.ReadOptions.{ReadOptions}
use Rattle.read_file_patch.specs.PlainPatch.{PlainChange, PlainPatch, hunks}
use Rattle.read_patch_text.specs.Texts.{IsPiece}
use Rattle.law_reading.specs.Said.{header_said}

-- what stands at the first of these lines, which others follow, is all of them, and this change by the grammar of its form; a bare git header has no hunk
abbrev pub Spell : Stop → List (List ℕ) → List (List ℕ) → PlainChange → Type 0
Spell (Opening form) body others change = IsPiece form 0 (body ++ others) change (length body) others
Spell Bare body others change = (body ≡ git_header (body ++ others)) × (change ≡ hunks [])
Spell Binary body others change = ⊥

-- these lines, which others follow, are one file patch up to their end: its region, and then its hunks, its script or a bare git header
pub record IsFilePatch (ways : ReadOptions) (own others : List (List ℕ)) (p : PlainPatch) : Type 0 where
  pub region : List (List ℕ)
  pub body : List (List ℕ)
  pub stop : Stop
  pub parts : own ≡ region ++ body
  pub quiet : AreQuiet ways region (body ++ others)
  pub stands : stop_at ways (body ++ others) ≡ Some stop
  pub says : header_said ways region body stop ≡ Some p.header
  pub spelled : Spell stop body others p.change

-- these lines are these file patches, one behind the other, and nothing stands behind the last
abbrev pub AreFilePatches : ReadOptions → List (List ℕ) → List PlainPatch → Type 0
AreFilePatches ways ls [] = AreQuiet ways ls []
AreFilePatches ways ls (p ∷ ps) = (own : List (List ℕ)) × (others : List (List ℕ)) × (ls ≡ own ++ others) × IsFilePatch ways own others p × AreFilePatches ways others ps
