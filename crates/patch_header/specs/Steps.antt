-- What comes next in a patch text: a file patch with its header, a binary line, or the end.
use Rattle.std.specs.Prelude.{◌≡◌, ℕ, ◌+◌, ◌<◌, ◌≤◌, true, false, List, [], ◌∷◌, ◌++◌, length, drop, sum_by, Option, None, Some, is_some, IfSome, codes, if◌then◌else◌}
use Rattle.line_list.specs.declared.Span.{Span}
use Rattle.line_list.specs.Lines.{lines}
use Rattle.hunk_core.specs.declared.Form.{Form}
use Rattle.hunk_core.specs.declared.Form.TheVariants.{Unified}
use Rattle.stamp.specs.declared.Stamp.TheVariants.{Unknown}
use Rattle.patch_header.specs.Content.{has_dot}
use Rattle.patch_header.specs.Openings.{admits, begins, stop_at}
use Rattle.patch_header.specs.Region.{Row, rows, last_tail, seen_in, old_tail, new_tail}
use Rattle.patch_header.specs.GitHeaders.{action_of, begins_bare}
use Rattle.patch_header.specs.GitRows.{lines_of, from_in, to_in, whole_in, old_mode_in, new_mode_in, old_half, new_half, git_rest, extended_rows, led_by, led_directly, seen_by}
use Rattle.patch_header.specs.Values.{name_in, index_in, word_in, stamp_in, IsPieceOf}
use Rattle.patch_header.specs.declared.openings.Stop.{Stop}
use Rattle.patch_header.specs.declared.openings.Stop.TheVariants as stops
use Rattle.patch_header.specs.declared.region.Tail.{Tail}
use Rattle.patch_header.specs.declared.region.LastHeaderLines.{LastHeaderLines}
use Rattle.read_header_record.specs.declared.Header.{Header}
use Rattle.patch_header.specs.declared.read_options.ReadOptions.{ReadOptions}
use Rattle.read_header_record.specs.declared.Action.TheVariants.{Plain}
use Rattle.patch_header.specs.declared.search.HeaderStep.{HeaderStep}
use Rattle.patch_header.specs.declared.search.HeaderStep.TheVariants.{Found, Binary, End}

-- nothing stands at any of these lines, which others follow
abbrev pub AreQuiet : ReadOptions → List (List ℕ) → List (List ℕ) → Type 0
AreQuiet ways [] rest = Unit {0}
AreQuiet ways (line ∷ more) rest = (stop_at ways (line ∷ (more ++ rest)) ≡ None) × AreQuiet ways more rest

-- from a place up to another go these lines, and nothing stands at any of them
pub record IsRegion (ways : ReadOptions) (text : List ℕ) (at : ℕ) (region : List (List ℕ)) (place : ℕ) : Type 0 where
  pub parts : lines (drop at text) ≡ region ++ lines (drop place text)
  pub ends : place ≡ at + sum_by length region
  pub quiet : AreQuiet ways region (lines (drop place text))

-- the line of the old name, or the opening where there is none
abbrev pub names_line : Option Tail → Option Span → ℕ → ℕ
names_line None name opening = opening
names_line (Some t) None opening = opening
names_line (Some t) (Some s) opening = t.number

-- what the header of an opening says, by the lines in front of it, and by the extended lines of the git header that leads it
abbrev pub header_with : List ℕ → Form → ℕ → ℕ → LastHeaderLines → List Row → Header
header_with text form at opening seen gs = record {
  form = form;
  at = at;
  opening = opening;
  names_line = names_line (old_tail form seen) (name_in text (old_tail form seen)) opening;
  old_name = name_in text (old_tail form seen);
  new_name = name_in text (new_tail form seen);
  index = index_in text seen.index;
  prereq = word_in text seen.prereq;
  old_stamp = stamp_in text (old_tail form seen);
  new_stamp = stamp_in text (new_tail form seen);
  action = action_of (lines_of gs);
  bare = false;
  from = from_in gs;
  to = to_in gs;
  old_mode = whole_in (old_mode_in gs);
  new_mode = whole_in (new_mode_in gs);
}

-- what a bare git header at a place says, whose git line has this number; `Index:` and `Prereq:` come from the lines in front of it
abbrev pub bare_with : List ℕ → ℕ → ℕ → List Row → Header
bare_with text at number rs = record {
  form = Unified;
  at = at;
  opening = number;
  names_line = number;
  old_name = old_half text (git_rest number at (lines (drop at text)));
  new_name = new_half text (git_rest number at (lines (drop at text)));
  index = index_in text (last_tail (codes "Index:") rs);
  prereq = word_in text (last_tail (codes "Prereq:") rs);
  old_stamp = Unknown;
  new_stamp = Unknown;
  action = action_of (lines_of (extended_rows number at (lines (drop at text))));
  bare = true;
  from = from_in (extended_rows number at (lines (drop at text)));
  to = to_in (extended_rows number at (lines (drop at text)));
  old_mode = whole_in (old_mode_in (extended_rows number at (lines (drop at text))));
  new_mode = whole_in (new_mode_in (extended_rows number at (lines (drop at text))));
}

-- what counts of the lines in front of an opening
abbrev pub seen_for : ReadOptions → Form → List ℕ → List Row → LastHeaderLines
seen_for ways form text rs = seen_by text (led_directly ways form rs) (seen_in rs)

-- the header of what stands at a place behind these lines; a binary line has none
abbrev pub header_at : ReadOptions → List ℕ → ℕ → ℕ → List Row → Stop → Option Header
header_at ways text place number rs (stops.Opening form) = Some (header_with text form place number (seen_for ways form text rs) (led_by ways form rs))
header_at ways text place number rs stops.Bare = Some (bare_with text place number rs)
header_at ways text place number rs stops.Binary = None

-- the first that stands at a line from a place on is an opening or a bare git header, and says this
pub record IsFirstOpening (ways : ReadOptions) (text : List ℕ) (at line : ℕ) (h : Header) : Type 0 where
  pub region : List (List ℕ)
  pub place : ℕ
  pub stop : Stop
  pub is_region : IsRegion ways text at region place
  pub stands : stop_at ways (lines (drop place text)) ≡ Some stop
  pub says : header_at ways text place (line + length region) (rows line at region) stop ≡ Some h

-- the first that stands at a line from a place on is a binary line with this number
pub record IsFirstBinary (ways : ReadOptions) (text : List ℕ) (at line number : ℕ) : Type 0 where
  pub region : List (List ℕ)
  pub place : ℕ
  pub is_region : IsRegion ways text at region place
  pub stands : stop_at ways (lines (drop place text)) ≡ Some stops.Binary
  pub counted : number ≡ line + length region

-- nothing stands at any line from a place on
abbrev pub IsEnd : ReadOptions → List ℕ → ℕ → Type 0
IsEnd ways text at = AreQuiet ways (lines (drop at text)) []

-- what comes next from a place on, whose line has this number
abbrev pub Comes : ReadOptions → List ℕ → ℕ → ℕ → HeaderStep → Type 0
Comes ways text at line (Found h) = IsFirstOpening ways text at line h
Comes ways text at line (Binary number) = IsFirstBinary ways text at line number
Comes ways text at line End = IsEnd ways text at

-- the lines in front of the first at which something stands, or all
unfoldable pub region_of : ReadOptions → List (List ℕ) → List (List ℕ)
region_of ways [] = []
region_of ways (line ∷ rest) = if is_some (stop_at ways (line ∷ rest)) then [] else line ∷ region_of ways rest

-- the first that stands at one of these lines
unfoldable pub first_stop : ReadOptions → List (List ℕ) → Option Stop
first_stop ways [] = None
first_stop ways (line ∷ rest) = if is_some (stop_at ways (line ∷ rest)) then stop_at ways (line ∷ rest) else first_stop ways rest

-- a header is a file patch, and no header a binary line with this number
abbrev pub found_or : ℕ → Option Header → HeaderStep
found_or number None = Binary number
found_or number (Some h) = Found h

-- what comes next, behind these lines
abbrev pub step_behind : ReadOptions → List ℕ → ℕ → ℕ → List (List ℕ) → Option Stop → HeaderStep
step_behind ways text at line region None = End
step_behind ways text at line region (Some stop) = found_or (line + length region) (header_at ways text (at + sum_by length region) (line + length region) (rows line at region) stop)

-- the same as a function
abbrev pub next_step : ReadOptions → List ℕ → ℕ → ℕ → HeaderStep
next_step ways text at line = step_behind ways text at line (region_of ways (lines (drop at text))) (first_stop ways (lines (drop at text)))

-- each name and each mode of a header is a piece of the text
pub record HasPieces (text : List ℕ) (h : Header) : Type 0 where
  pub old_name : IfSome h.old_name (IsPieceOf text)
  pub new_name : IfSome h.new_name (IsPieceOf text)
  pub index : IfSome h.index (IsPieceOf text)
  pub prereq : IfSome h.prereq (IsPieceOf text)
  pub from : IfSome h.from (IsPieceOf text)
  pub to : IfSome h.to (IsPieceOf text)
  pub old_mode : IfSome h.old_mode (IsPieceOf text)
  pub new_mode : IfSome h.new_mode (IsPieceOf text)

-- an opening of its form, which is admitted, stands at its place
pub record IsOpeningAt (ways : ReadOptions) (text : List ℕ) (h : Header) : Type 0 where
  pub admitted : admits ways.only h.form ≡ true
  pub begins : begins ways.only h.form (lines (drop h.at text)) ≡ true

-- git headers are read, and a bare one begins at its place
pub record IsBareAt (ways : ReadOptions) (text : List ℕ) (h : Header) : Type 0 where
  pub git : ways.git ≡ true
  pub form : h.form ≡ Unified
  pub begins : begins_bare (lines (drop h.at text)) ≡ true

-- nothing is said that a git header would say
pub record IsUnled (h : Header) : Type 0 where
  pub bare : h.bare ≡ false
  pub action : h.action ≡ Plain
  pub from : h.from ≡ None
  pub to : h.to ≡ None
  pub old_mode : h.old_mode ≡ None
  pub new_mode : h.new_mode ≡ None

-- where a header lies, and what stands there
pub record LiesBehind (ways : ReadOptions) (text : List ℕ) (at line : ℕ) (h : Header) : Type 0 where
  pub low : at ≤ h.at
  pub high : h.at < length text
  pub numbers : h.opening + at ≤ line + h.at
  pub opening : h.bare ≡ false → IsOpeningAt ways text h
  pub git : h.bare ≡ true → IsBareAt ways text h
  pub plain : ways.git ≡ false → IsUnled h
  pub pieces : HasPieces text h

-- what follows for the caller
abbrev pub Lies : ReadOptions → List ℕ → ℕ → ℕ → HeaderStep → Type 0
Lies ways text at line (Found h) = LiesBehind ways text at line h
Lies ways text at line (Binary number) = Unit {0}
Lies ways text at line End = Unit {0}

-- no line from the opening on is '.'
abbrev pub KnowsNoDot : List ℕ → HeaderStep → Type 0
KnowsNoDot text (Found h) = has_dot (lines (drop h.at text)) ≡ false
KnowsNoDot text (Binary number) = Unit {0}
KnowsNoDot text End = Unit {0}
