use Rattle.std.proofs.Common.{◌≡◌, ℕ, List, drop}
use Rattle.hunk_core.specs.PlainHunk.{body_of}
use Rattle.context_form.specs.Canonical.{stretch_has}
use Rattle.context_form.proofs.writing.stretch_has.Given as goal

abbrev pub invariant-loop-i : goal.invariant-loop-i
invariant-loop-i l = (text : List ℕ) → stretch_has l.side (body_of text (drop l.i l.hunk.body.items)) ≡ stretch_has l.side (body_of text (drop l.from l.hunk.body.items))
