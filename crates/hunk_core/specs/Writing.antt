-- What is written behind a line without a line feed.
use Rattle.std.specs.Prelude.{List, ℕ, [], ◌∷◌, ◌++◌, codes}

-- the line after one that has no line feed
abbrev pub no_newline : List ℕ
no_newline = 92 ∷ 32 ∷ (codes "No newline at end of file" ++ 10 ∷ [])
