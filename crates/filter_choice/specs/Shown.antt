-- The name of a file patch as it is shown (manual page of `lsdiff`).
use Rattle.std.specs.Prelude.{ℕ, List, ◌++◌}
use Rattle.read_file_patch.specs.Stripped.{shortened}

-- behind a prefix, without the front that has so many slashes
abbrev pub shown_name : List ℕ → ℕ → List ℕ → List ℕ
shown_name prefix strip name = prefix ++ shortened strip name
