-- The lines in front of a file patch, and the last of each kind among them.
use Rattle.std.specs.Prelude.{ℕ, ◌+◌, ◌≤◌, List, [], ◌∷◌, length, reverse, Option, None, Some, is_some, IfSome, codes, if◌then◌else◌}
use Rattle.hunk_core.specs.declared.Form.{Form}
use Rattle.hunk_core.specs.declared.Form.TheVariants.{Unified, Context, Normal, Ed}
use Rattle.hunk_core.specs.LineTests.{after}
use Rattle.patch_header.specs.Content.{content}
use Rattle.patch_header.specs.declared.region.Tail.{Tail}
use Rattle.patch_header.specs.declared.region.LastHeaderLines.{LastHeaderLines}

-- a line of a text: its number, the place where it begins, and its bytes
pub record Row : Type 0 where
  pub number : ℕ
  pub start : ℕ
  pub line : List ℕ

abbrev pub row : ℕ → ℕ → List ℕ → Row
row number start line = record { number = number; start = start; line = line }

-- lines that stand one after another, where the first has this number and begins at this place
abbrev pub rows : ℕ → ℕ → List (List ℕ) → List Row
rows number start [] = []
rows number start (line ∷ more) = row number start line ∷ rows (number + 1) (start + length line) more

-- what stands in a line behind these bytes, where it begins with them; without the line feed
abbrev pub tail_of : List ℕ → Row → Option Tail
tail_of mark r = if is_some (after mark (content r.line)) then Some (record { number = r.number; start = r.start + length mark; end = r.start + length (content r.line) }) else None

-- the first that is there
abbrev pub first_some : {A B : Type 0} → (A → Option B) → List A → Option B
first_some f [] = None
first_some f (x ∷ xs) = if is_some (f x) then f x else first_some f xs

-- the last line that begins with these bytes, behind them
abbrev pub last_tail : List ℕ → List Row → Option Tail
last_tail mark rs = first_some (tail_of mark) (reverse rs)

-- a new one, or else the last one
abbrev pub later : {A : Type 0} → Option A → Option A → Option A
later last new = if is_some new then new else last

-- the last line of each kind. Each line `*** ` of the region counts. Where one form is asked for the lines of others are of
-- the region of the next file patch
abbrev pub seen_in : List Row → LastHeaderLines
seen_in rs = record {
  minus = last_tail (codes "--- ") rs;
  plus = last_tail (codes "+++ ") rs;
  stars = last_tail (codes "*** ") rs;
  index = last_tail (codes "Index:") rs;
  prereq = last_tail (codes "Prereq:") rs;
  git = last_tail (codes "diff --git ") rs;
}

-- the last line of the old name: '--- ' in the unified form, '*** ' in the context form
abbrev pub old_tail : Form → LastHeaderLines → Option Tail
old_tail Unified s = s.minus
old_tail Context s = s.stars
old_tail Normal s = None
old_tail Ed s = None

-- the last line of the new name: '+++ ' in the unified form, '--- ' in the context form
abbrev pub new_tail : Form → LastHeaderLines → Option Tail
new_tail Unified s = s.plus
new_tail Context s = s.minus
new_tail Normal s = None
new_tail Ed s = None

-- a tail lies in the text
pub record LiesIn (text : List ℕ) (t : Tail) : Type 0 where
  pub low : t.start ≤ t.end
  pub high : t.end ≤ length text

pub record AllLieIn (text : List ℕ) (s : LastHeaderLines) : Type 0 where
  pub minus : IfSome s.minus (LiesIn text)
  pub plus : IfSome s.plus (LiesIn text)
  pub stars : IfSome s.stars (LiesIn text)
  pub index : IfSome s.index (LiesIn text)
  pub prereq : IfSome s.prereq (LiesIn text)
  pub git : IfSome s.git (LiesIn text)
