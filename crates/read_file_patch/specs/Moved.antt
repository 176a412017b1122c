-- The two names of a file that is renamed or copied, by the lines of a git header (git-diff(1), "Generating patch text with -p").
use Rattle.std.specs.Prelude.{ℕ, ◌-◌, List, [], ◌∷◌, if◌then◌else◌, bytes_eq, Option, None, Some, option_map, option_and_then}
use Rattle.read_file_patch.specs.Candidates.{candidate}

-- these lines write names without the `a/` and `b/` of header lines, so one slash less is stripped, and none where none is; without a number the last component is left
abbrev pub moved_strip : Option ℕ → Option ℕ
moved_strip strip = option_map (λ n. n - 1) strip

-- the name of one such line, where there is one and that is a name
abbrev pub moved_name : Option ℕ → Option (List ℕ) → Option (List ℕ)
moved_name strip text = option_and_then (candidate (moved_strip strip)) text

-- both, where they differ
abbrev pub differing : List ℕ → List ℕ → List (List ℕ)
differing source destination = if bytes_eq source destination then [] else source ∷ destination ∷ []

-- both, where both are there and differ
abbrev pub two_names : Option (List ℕ) → Option (List ℕ) → List (List ℕ)
two_names None destination = []
two_names (Some source) None = []
two_names (Some source) (Some destination) = differing source destination

-- the name that a file is renamed or copied from, and the name to; none where one is no name or both are the same
abbrev pub moved_names : Option ℕ → Option (List ℕ) → Option (List ℕ) → List (List ℕ)
moved_names strip source destination = two_names (moved_name strip source) (moved_name strip destination)
