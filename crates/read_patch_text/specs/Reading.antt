-- What is known while a text is read: how far it is read, and the header that comes next.
use Rattle.std.specs.Prelude.{◌≡◌, ℕ, ◌+◌, ◌<◌, ◌≤◌, true, false, List, length, drop}
use Rattle.line_list.specs.Lines.{lines}
use Rattle.hunk_core.specs.Reading.{Ahead, ahead}
use Rattle.patch_header.specs.Content.{has_dot}
use Rattle.patch_header.specs.Steps.{HasPieces}
use Rattle.read_header_record.specs.declared.Header.{Header}
use Rattle.read_patch_text.specs.Patches.{begins_change}
use Rattle.read_patch_text.specs.declared.patches.Progress.{Progress}

-- what stands ahead of a place
abbrev pub ahead_of : List ℕ → Progress → Ahead
ahead_of text here = ahead here.number (lines (drop here.at text))

-- a place in a text with a number that isn't above it, behind as many hunks at most
pub record IsProgress (text : List ℕ) (here : Progress) : Type 0 where
  pub within : here.at ≤ length text
  pub numbers : here.number ≤ here.at + 1
  pub few : here.hunks ≤ here.at
  pub known : here.dotless ≡ true → has_dot (lines (drop here.at text)) ≡ false

-- an opening or a bare git header from a place on, whose line has this number, and the names in front of it
pub record IsHeaderFrom (text : List ℕ) (at line : ℕ) (h : Header) : Type 0 where
  pub low : at ≤ h.at
  pub high : h.at < length text
  pub numbers : h.opening + at ≤ line + h.at
  pub names_line : h.names_line ≤ h.opening
  pub begins : h.bare ≡ false → begins_change h.form (lines (drop h.at text)) ≡ true
  pub pieces : HasPieces text h
