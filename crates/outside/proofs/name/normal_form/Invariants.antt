use Rattle.std.proofs.Common.{◌≡◌, take, length, filter, string_bytes}
use Rattle.std.specs.List.{join_with_byte}
use Rattle.outside.specs.Names.{is_kept, components}
use Rattle.outside.proofs.name.normal_form.Given as goal

-- the components so far are joined
abbrev pub invariant-loop-component : goal.invariant-loop-component
invariant-loop-component l = string_bytes l.kept ≡ join_with_byte 47 (filter is_kept (take (length l.yielded) (components l.text)))
