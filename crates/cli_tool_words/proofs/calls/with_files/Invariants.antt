use Rattle.std.proofs.Common.{◌≡◌, ◌∷◌, [], ◌++◌, drop, map, string_bytes}
use Rattle.cli_tool_words.proofs.calls.with_files.Given as goal

-- the calls so far, with those of the FILEs that are left
abbrev pub invariant-loop-file : goal.invariant-loop-file
invariant-loop-file l =
    map (λ c. map string_bytes c.items) l.calls.items ++ map (λ f. map string_bytes l.others ++ f ∷ []) (map string_bytes (drop l.file-index l.files))
    ≡ map (λ f. map string_bytes l.others ++ f ∷ []) (map string_bytes l.files)
