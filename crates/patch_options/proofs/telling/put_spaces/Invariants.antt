use Rattle.std.proofs.Common.{◌≡◌, ◌++◌, ◌-◌, replicate, string_bytes}
use Rattle.patch_options.proofs.telling.put_spaces.Given as goal

-- the text so far, with the spaces that are left
abbrev pub invariant-loop : goal.invariant-loop
invariant-loop l = string_bytes l.text ++ replicate (l.count - l.counter) 32 ≡ string_bytes l.fn.text ++ replicate l.count 32
