-- The hunks of a change as they are taken from a side.
use Rattle.std.proofs.Common.{◌≡◌, ℕ, List, [], ◌∷◌, map, Bool, refl, sym, ap, ◌∙◌}
use Rattle.line_list.specs.Join.{join}
use Rattle.hunk_core.specs.declared.Side.{Side}
use Rattle.hunk_core.specs.declared.Hunk.{Hunk}
use Rattle.hunk_core.specs.PlainHunk.{PlainHunk, hunks_of}
use Rattle.hunk_core.specs.Turned.{turned}
use Rattle.hunk_place.specs.Taken.{taken}
use Rattle.hunk_place.specs.Verdicts.{verdicts, at_start}
use Rattle.ed_form.specs.PlainEdit.{PlainEdit}
use Rattle.read_file_patch.specs.PlainPatch.{PlainChange, hunks, script}
use Rattle.hunk_apply.specs.Applied.{taken_all, applied}
use Rattle.hunk_apply.specs.Script.{script_lines}
use Rattle.hunk_apply.specs.Change.{change_output, change_verdicts}

pub taken-is : (text : List ℕ) (side : Side) (hs : List Hunk) → taken_all text side hs ≡ map (turned side) (hunks_of text hs)
taken-is text side [] = refl
taken-is text side (h ∷ hs) = ap (λ (r : List PlainHunk). taken text side h ∷ r) (taken-is text side hs)

pub hunks-verdicts : (lines : List (List ℕ)) (fuzz : ℕ) (loose : Bool) (text : List ℕ) (side : Side) (hs : List Hunk) (c : PlainChange) → c ≡ hunks (hunks_of text hs) → verdicts lines fuzz loose at_start (taken_all text side hs) ≡ change_verdicts lines fuzz loose side c
hunks-verdicts lines fuzz loose text side hs c is = ap (verdicts lines fuzz loose at_start) (taken-is text side hs) ∙ ap (change_verdicts lines fuzz loose side) (sym is)

pub hunks-output : (lines : List (List ℕ)) (fuzz : ℕ) (loose : Bool) (text : List ℕ) (side : Side) (hs : List Hunk) (c : PlainChange) → c ≡ hunks (hunks_of text hs) → applied lines fuzz loose (taken_all text side hs) ≡ change_output lines fuzz loose side c
hunks-output lines fuzz loose text side hs c is = ap (applied lines fuzz loose) (taken-is text side hs) ∙ ap (change_output lines fuzz loose side) (sym is)

pub script-output : (lines : List (List ℕ)) (fuzz : ℕ) (loose : Bool) (side : Side) (es : List PlainEdit) (c : PlainChange) → c ≡ script es → join (script_lines lines es) ≡ change_output lines fuzz loose side c
script-output lines fuzz loose side es c is = ap (change_output lines fuzz loose side) (sym is)
