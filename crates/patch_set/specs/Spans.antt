-- Where the file patches of a set lie in its text.
use Rattle.std.specs.Prelude.{◌≡◌, ℕ, ◌+◌, ◌<◌, ◌≤◌, List, [], ◌∷◌, length}
use Rattle.read_file_patch.specs.declared.FilePatch.{FilePatch}
use Rattle.read_file_patch.specs.PlainPatch.{change_of, row_count}
use Rattle.read_patch_text.specs.Changes.{AreCut, SpellChange}

-- a file patch whose span starts at this place, behind so many hunks
pub record IsPlaced (text : List ℕ) (start before : ℕ) (p : FilePatch) : Type 0 where
  pub begins : p.span.start ≡ start
  -- the lines in front of the opening are in the span, and the pieces of the hunks, or a bare git header, make up the rest
  pub region : start ≤ p.header.at
  pub cut : AreCut p.header p.hunk_spans.items p.span.end
  pub each : length p.hunk_spans.items ≡ row_count p.change
  pub pieces : SpellChange text p.header.form p.hunk_spans.items (change_of text p.change)
  pub some : p.header.at < p.span.end
  pub high : p.span.end ≤ length text
  pub number : p.header.opening ≤ p.header.at + 1
  pub first : p.first_verdict ≡ before

-- one file patch behind the other
abbrev pub ArePlaced : List ℕ → ℕ → ℕ → List FilePatch → Type 0
ArePlaced text start before [] = Unit {0}
ArePlaced text start before (p ∷ ps) = IsPlaced text start before p × ArePlaced text p.span.end (before + row_count p.change) ps
