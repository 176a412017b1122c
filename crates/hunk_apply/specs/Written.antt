-- What was written of the lines that are to be written.
use Rattle.std.specs.Prelude.{◌≡◌, ℕ, ◌-◌, List, [], ◌∷◌, ◌++◌, Bool, true, false, ◌&&◌, Some}
use Rattle.std.specs.List.{slice_range}
use Rattle.outside.specs.SinkView.{SinkView, Receives, ReceivesPart}
use Rattle.line_store.specs.Store.{Seen}
use Rattle.hunk_apply.specs.declared.put.Tail.{Tail}
use Rattle.line_list.specs.Join.{join, feed_if}

-- there is no byte
abbrev pub is_nothing : List ℕ → Bool
is_nothing [] = true
is_nothing (b ∷ bs) = false

-- the lines from `from` up to, not including, `to`
abbrev pub lines_between : List (List ℕ) → ℕ → ℕ → List (List ℕ)
lines_between lines from to = slice_range lines (from - 1) (to - 1)

-- lines behind a text whose last line is open, or isn't
unfoldable pub join_behind : Bool → List (List ℕ) → List ℕ
join_behind is_open [] = []
join_behind is_open (line ∷ more) = feed_if is_open ++ join (line ∷ more)

-- the sink received a first piece of these lines, and of them others are left
pub record Wrote (old new : SinkView) (was now : Tail) (lines left : List (List ℕ)) : Type 0 where
  pub piece : List ℕ
  pub is : join_behind was.is_open lines ≡ piece ++ join_behind now.is_open left
  pub received : Receives old new piece
  pub nothing : now.is_empty ≡ (was.is_empty && is_nothing piece)

-- what is said of the lines of a store, where it tells them
abbrev pub WhereTold : Seen → (List (List ℕ) → Type 0) → Type 0
WhereTold seen P = (lines : List (List ℕ)) → seen.told ≡ Some lines → P lines

-- the sink received these lines, whatever others are written behind them
abbrev pub WroteFront : SinkView → SinkView → Tail → Tail → List (List ℕ) → Type 0
WroteFront old new was now front = (more : List (List ℕ)) → Wrote old new was now (front ++ more) more

-- the sink received a first part of these lines and of any that were to follow, or its content isn't told any more
abbrev pub BrokeOff : SinkView → SinkView → Tail → List (List ℕ) → Type 0
BrokeOff old new was front = (more : List (List ℕ)) → ReceivesPart old new (join_behind was.is_open (front ++ more))
