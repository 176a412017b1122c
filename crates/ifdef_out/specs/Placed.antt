-- The edits of a change whose hunks have these verdicts.
use Rattle.std.specs.Prelude.{◌≡◌, ℕ, ◌+◌, List, [], ◌∷◌, ◌++◌, map, reverse, flat_map, Bool}
use Rattle.hunk_core.specs.declared.Side.{Side}
use Rattle.hunk_core.specs.declared.Verdict.{Verdict}
use Rattle.hunk_core.specs.declared.Verdict.TheVariants.{Untried, Ignored, Nowhere, At}
use Rattle.hunk_core.specs.PlainHunk.{PlainHunk}
use Rattle.hunk_core.specs.Turned.{turned}
use Rattle.hunk_place.specs.Order.{from_to}
use Rattle.ed_form.specs.PlainEdit.{PlainEdit}
use Rattle.read_file_patch.specs.PlainPatch.{PlainChange, hunks, script}
use Rattle.hunk_apply.specs.Change.{change_verdicts}
use Rattle.hunk_apply.specs.Splice.{Edit, add, drop_line, body_edits}

-- the edits of a hunk, if it was placed
abbrev pub verdict_edits : Verdict → PlainHunk → List Edit
verdict_edits Untried h = []
verdict_edits Ignored h = []
verdict_edits Nowhere h = []
verdict_edits (At line fuzz offset) h = body_edits line h.body

-- the edits of the hunks that were placed, in their order
unfoldable pub placed_edits : List Verdict → List PlainHunk → List Edit
placed_edits [] hs = []
placed_edits (v ∷ vs) [] = []
placed_edits (v ∷ vs) (h ∷ hs) = verdict_edits v h ++ placed_edits vs hs

-- the edits of a command of a script: its lines are dropped, and its text is added in the gap behind them
abbrev pub command_edits : PlainEdit → List Edit
command_edits e = map drop_line (from_to e.first e.last) ++ map (add (e.last + 1)) e.added

-- those of all commands, from the last one, which stands first in the file
abbrev pub script_edits : List PlainEdit → List Edit
script_edits es = flat_map command_edits (reverse es)

-- the edits of a script with this verdict
abbrev pub carried_edits : Verdict → List PlainEdit → List Edit
carried_edits Untried es = []
carried_edits Ignored es = []
carried_edits Nowhere es = []
carried_edits (At line fuzz offset) es = script_edits es

-- the edits of a change that is taken from a side; a script is the same from both
abbrev pub change_edits : List Verdict → Side → PlainChange → List Edit
change_edits vs side (hunks hs) = placed_edits vs (map (turned side) hs)
change_edits [] side (script es) = []
change_edits (v ∷ vs) side (script es) = carried_edits v es

-- the verdicts are those of placing the change in these lines
abbrev pub ArePlaced : List (List ℕ) → List Verdict → Side → PlainChange → Type 0
ArePlaced lines vs side change = (fuzz : ℕ) × ((loose : Bool) × (vs ≡ change_verdicts lines fuzz loose side change))
