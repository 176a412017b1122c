-- What comes of the change of a file patch, hunks or a script.
use Rattle.std.specs.Prelude.{ℕ, List, [], ◌∷◌, map, length, Bool}
use Rattle.line_list.specs.Join.{join}
use Rattle.hunk_core.specs.declared.Side.{Side}
use Rattle.hunk_core.specs.declared.Verdict.{Verdict}
use Rattle.hunk_core.specs.Turned.{turned}
use Rattle.hunk_place.specs.Verdicts.{verdicts, at_start}
use Rattle.read_file_patch.specs.PlainPatch.{PlainChange, hunks, script}
use Rattle.hunk_apply.specs.Applied.{applied}
use Rattle.hunk_apply.specs.Script.{script_lines, script_verdict}

-- the text of a file with a change applied that is taken from a side (POSIX patch, Patch Application); a script is the same from both
abbrev pub change_output : List (List ℕ) → ℕ → Bool → Side → PlainChange → List ℕ
change_output lines fuzz loose side (hunks hs) = applied lines fuzz loose (map (turned side) hs)
change_output lines fuzz loose side (script es) = join (script_lines lines es)

-- a verdict for each hunk, and one for a script
abbrev pub change_verdicts : List (List ℕ) → ℕ → Bool → Side → PlainChange → List Verdict
change_verdicts lines fuzz loose side (hunks hs) = verdicts lines fuzz loose at_start (map (turned side) hs)
change_verdicts lines fuzz loose side (script es) = script_verdict (length lines) es ∷ []
