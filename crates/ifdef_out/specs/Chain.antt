-- The block that edits begin with: they change what stands in gap q and at line q, and so on without a kept line between.
use Rattle.std.specs.Prelude.{ℕ, ◌+◌, ◌≤◌, List, [], ◌∷◌, ◌++◌, Bool, true, false, ◌==◌, if◌then◌else◌, Option, None, Some}
use Rattle.hunk_apply.specs.Splice.{Edit, added_line}

-- the gap behind an edit in gap q or of line q
abbrev pub next_gap : ℕ → Option (List ℕ) → ℕ
next_gap q None = q + 1
next_gap q (Some line) = q

-- the first line behind the block
unfoldable pub block_end : ℕ → List Edit → ℕ
block_end q [] = q
block_end q (e ∷ es) = if e.at == q then block_end (next_gap q e.added) es else q

-- the lines that it adds
unfoldable pub block_added : ℕ → List Edit → List (List ℕ)
block_added q [] = []
block_added q (e ∷ es) = if e.at == q then added_line e.added ++ block_added (next_gap q e.added) es else []

-- the edits behind it
unfoldable pub behind_block : ℕ → List Edit → List Edit
behind_block q [] = []
behind_block q (e ∷ es) = if e.at == q then behind_block (next_gap q e.added) es else e ∷ es

abbrev pub is_some_line : List (List ℕ) → Bool
is_some_line [] = false
is_some_line (line ∷ more) = true

-- the last gap, or line, that an edit of n lines may name
abbrev pub last_at : ℕ → Option (List ℕ) → ℕ
last_at n None = n
last_at n (Some line) = n + 1

-- the edits stand in the order of n lines, from line q on
abbrev pub AreInOrder : ℕ → ℕ → List Edit → Type 0
AreInOrder n q [] = Unit {0}
AreInOrder n q (e ∷ es) = (q ≤ e.at) × (e.at ≤ last_at n e.added) × AreInOrder n (next_gap e.at e.added) es
