-- How far a search for an opening has come.
use Rattle.std.specs.Prelude.{◌≡◌, ℕ, ◌+◌, ◌≤◌, ◌^◌, true, List, length}
use Rattle.patch_header.specs.Region.{rows, seen_in, AllLieIn}
use Rattle.patch_header.specs.Said.{trail_in, TrailsWithin}
use Rattle.patch_header.specs.Steps.{IsRegion}
use Rattle.patch_header.specs.declared.read_options.ReadOptions.{ReadOptions}
use Rattle.patch_header.specs.declared.search.Search.{Search}

-- nothing stands at the lines up to here, and the last of each kind among them are known
pub record HasPassed (ways : ReadOptions) (text : List ℕ) (at line : ℕ) (here : Search) : Type 0 where
  pub region : List (List ℕ)
  pub is_region : IsRegion ways text at region here.at
  pub number : here.number ≡ line + length region
  pub seen : here.seen ≡ seen_in (rows line at region)
  pub trail : ways.git ≡ true → here.trail ≡ trail_in (rows line at region)
  pub low : at ≤ here.at
  pub count : here.number + at ≤ line + here.at

-- a place where the next line can be read, with a number that doesn't run over
pub record IsLawful (text : List ℕ) (here : Search) : Type 0 where
  pub within : here.at ≤ length text
  pub small : here.number ≤ 2 ^ 32 + here.at
  pub lies : AllLieIn text here.seen
  pub trails : TrailsWithin text here.trail
