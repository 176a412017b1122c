use Rattle.std.proofs.Common.{◌≡◌, ℕ, List, drop}
use Rattle.std.specs.List.{list_any}
use Rattle.ed_form.specs.PlainEdit.{edits_of}
use Rattle.format_convert.specs.Blocks.{is_change}
use Rattle.format_convert.proofs.script.changes.Given as goal

abbrev pub invariant-loop-i : goal.invariant-loop-i
invariant-loop-i l = (text : List ℕ) → list_any is_change (edits_of text l.script.edits.items) ≡ list_any is_change (edits_of text (drop l.i l.script.edits.items))
