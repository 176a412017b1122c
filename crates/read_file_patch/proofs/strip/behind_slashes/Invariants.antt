use Rattle.std.proofs.Common.{◌≡◌, ◌-◌}
use Rattle.read_file_patch.specs.Stripped.{behind_slashes}
use Rattle.read_file_patch.proofs.strip.behind_slashes.Given as goal

-- what is left stands for the text, and what is still to be stripped for the count
abbrev pub invariant-loop : goal.invariant-loop
invariant-loop l = behind_slashes l.count l.text ≡ behind_slashes (l.count - l.counter) l.left
