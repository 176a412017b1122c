use Rattle.std.proofs.Common.{◌++◌, ℕ, List, take}
use Rattle.hunk_core.specs.PlainHunk.{body_of}
use Rattle.format_convert.specs.Fitting.{own_lines}
use Rattle.format_convert.specs.Seeing.{Sees}
use Rattle.format_convert.proofs.fitting.seen_hunk.Given as goal

abbrev pub invariant-loop-i : goal.invariant-loop-i
invariant-loop-i l = (before : List (List ℕ)) → Sees l.fn.seen before → Sees l.seen (before ++ own_lines l.side (body_of l.text (take l.i l.hunk.body.items)))
