-- A text whose last line has its line feed.
use Rattle.std.specs.Prelude.{◌≡◌, ℕ, List, ◌++◌, false}
use Rattle.line_list.specs.Lines.{lines}
use Rattle.line_list.specs.Join.{feed_if, ends_open}

-- the text, with a line feed added where its last line lacks one
unfoldable pub completed : List ℕ → List ℕ
completed text = text ++ feed_if (ends_open (lines text))

-- no line lacks its line feed
abbrev pub IsComplete : List ℕ → Type 0
IsComplete text = ends_open (lines text) ≡ false
