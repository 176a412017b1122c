-- Where the file patches of a text lie, and what is known of them.
use Rattle.std.specs.Prelude.{◌≡◌, ℕ, ◌+◌, ◌<◌, ◌≤◌, false, List, [], ◌∷◌, length, map}
use Rattle.patch_header.specs.declared.read_options.ReadOptions.{ReadOptions}
use Rattle.patch_header.specs.Steps.{IsFirstOpening, IsEnd, HasPieces}
use Rattle.read_file_patch.specs.declared.FilePatch.{FilePatch}
use Rattle.read_file_patch.specs.PlainPatch.{change_of, row_count}
use Rattle.read_file_patch.specs.Absent.{IsLawfulPatch}
use Rattle.read_patch_text.specs.Regions.{hunk_ends}
use Rattle.read_patch_text.specs.Texts.{GoesUpTo}
use Rattle.read_patch_text.specs.Changes.{AreCut, SpellChange}

-- what is known of a file patch whose span starts at this place, and behind so many hunks; the line behind it has the number `next`
pub record IsPatch (text : List ℕ) (start before : ℕ) (p : FilePatch) (next : ℕ) : Type 0 where
  pub lawful : IsLawfulPatch text p
  pub begins : p.span.start ≡ start
  -- the lines in front of the opening are in the span, and the pieces of the hunks, or a bare git header, make up the rest
  pub region : start ≤ p.header.at
  pub goes : GoesUpTo text p.header (change_of text p.change) p.span.end next
  pub cut : AreCut p.header p.hunk_spans.items p.span.end
  pub ends : map (λ s. s.end) p.hunk_spans.items ≡ hunk_ends text p.header p.span.end
  pub each : length p.hunk_spans.items ≡ row_count p.change
  pub pieces : SpellChange text p.header.form p.hunk_spans.items (change_of text p.change)
  pub some : p.header.at < p.span.end
  pub rows : p.header.bare ≡ false → 0 < row_count p.change
  pub high : p.span.end ≤ length text
  -- its names lie in the text, and its numbers are those of lines up to the opening
  pub names : HasPieces text p.header
  pub opening : p.header.opening ≤ p.header.at + 1
  pub names_line : p.header.names_line ≤ p.header.opening
  pub first : p.first_verdict ≡ before
  pub targets : p.targets.items ≡ []

-- from a place on, whose line has this number, up to an end: each file patch opens where the first opening or bare git header behind the one before stands
abbrev pub LieInTurn : ReadOptions → List ℕ → ℕ → ℕ → ℕ → List FilePatch → ℕ → ℕ → Type 0
LieInTurn ways text start number before [] end next = (start ≡ end) × (number ≡ next)
LieInTurn ways text start number before (p ∷ ps) end next = (line : ℕ) × IsFirstOpening ways text start number p.header × IsPatch text start before p line
    × LieInTurn ways text p.span.end line (before + row_count p.change) ps end next

-- the file patches of a whole text, with no opening, no bare git header and no binary line behind the last
pub record ArePatches (ways : ReadOptions) (text : List ℕ) (ps : List FilePatch) : Type 0 where
  pub end : ℕ
  pub next : ℕ
  pub turn : LieInTurn ways text 0 1 0 ps end next
  pub ends : IsEnd ways text end
