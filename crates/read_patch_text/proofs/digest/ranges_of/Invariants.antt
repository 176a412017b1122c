use Rattle.std.proofs.Common.{◌≡◌, ℕ, List, map, take}
use Rattle.hunk_core.specs.PlainHunk.{hunks_of}
use Rattle.unified_form.specs.Skimmed.{old_range}
use Rattle.read_patch_text.proofs.digest.ranges_of.Given as goal

abbrev pub invariant-loop-k : goal.invariant-loop-k
invariant-loop-k l = (text : List ℕ) → l.olds.items ≡ take l.k (map old_range (hunks_of text l.hunks))
