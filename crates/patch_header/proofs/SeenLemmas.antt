-- The last line of each kind, with one line more.
use Rattle.std.proofs.Common.{◌≡◌, Option, None, Some, List, [], ◌∷◌, ◌++◌, refl}
use Rattle.std.specs.Prelude.{IfSome, codes}
use Rattle.patch_header.specs.Region.{Row, tail_of, later, seen_in}
use Rattle.patch_header.specs.declared.region.Tail.{Tail}
use Rattle.patch_header.specs.declared.region.LastHeaderLines.{LastHeaderLines}
use Rattle.patch_header.proofs.GitLemmas.{tail-push}

pub later-lies : (P : Tail → Type 0) (last new found : Option Tail) → found ≡ later last new → IfSome last P → IfSome new P → IfSome found P
later-lies P last None found is old fresh = rw is old
later-lies P last (Some t) found is old fresh = rw is fresh

abbrev pub seen_with : LastHeaderLines → Row → LastHeaderLines
seen_with seen r = record {
  minus = later seen.minus (tail_of (codes "--- ") r);
  plus = later seen.plus (tail_of (codes "+++ ") r);
  stars = later seen.stars (tail_of (codes "*** ") r);
  index = later seen.index (tail_of (codes "Index:") r);
  prereq = later seen.prereq (tail_of (codes "Prereq:") r);
  git = later seen.git (tail_of (codes "diff --git ") r);
}

-- what was made field by field
pub seen-made : (seen : LastHeaderLines) (r : Row) (made : LastHeaderLines) → made.minus ≡ later seen.minus (tail_of (codes "--- ") r) → made.plus ≡ later seen.plus (tail_of (codes "+++ ") r) → made.stars ≡ later seen.stars (tail_of (codes "*** ") r) → made.index ≡ later seen.index (tail_of (codes "Index:") r)
    → made.prereq ≡ later seen.prereq (tail_of (codes "Prereq:") r) → made.git ≡ later seen.git (tail_of (codes "diff --git ") r) → made ≡ seen_with seen r
seen-made seen r made a b c d e f = λ i. record { minus = a i; plus = b i; stars = c i; index = d i; prereq = e i; git = f i }

pub seen-push : (seen : LastHeaderLines) (rs : List Row) (r : Row) → seen ≡ seen_in rs → seen_with seen r ≡ seen_in (rs ++ r ∷ [])
seen-push seen rs r is =
    rw (is, tail-push (codes "--- ") rs r, tail-push (codes "+++ ") rs r, tail-push (codes "*** ") rs r, tail-push (codes "Index:") rs r, tail-push (codes "Prereq:") rs r, tail-push (codes "diff --git ") rs r) refl
