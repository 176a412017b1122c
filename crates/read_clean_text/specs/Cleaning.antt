-- What steps of the cleaning say to each other.
use Rattle.std.specs.Prelude.{◌≡◌, ℕ, ◌≤◌, List, length, drop, map, slice_get}
use Rattle.read_file_patch.specs.declared.FilePatch.{FilePatch}
use Rattle.read_patch_text.specs.Regions.{region_of}
use Rattle.read_clean_text.specs.Cleaned.{region_at}

-- the search for the file patch in which a place stands, begun at one of them, ends at another, or behind all: those that were passed don't count from there on
pub record IsFoundFrom (ps : List FilePatch) (first next at : ℕ) : Type 0 where
  pub within : next ≤ length ps
  pub is : slice_get (map region_of ps) next ≡ region_at (drop first (map region_of ps)) at
  pub behind : (place : ℕ) → at ≤ place → region_at (drop next (map region_of ps)) place ≡ region_at (drop first (map region_of ps)) place
