-- What makes a fault the first one.
use Rattle.std.specs.Prelude.{ℕ, List, [], ◌++◌}
use Rattle.std.specs.List.{AllByRecursion}
use Rattle.line_list.specs.Lines.{IsLine}
use Rattle.hunk_core.specs.PlainHunk.{PlainHunk}
use Rattle.normal_form.specs.Grammar.{IsPiece}

-- hunks begin with these lines: with other whole lines behind them they are a piece
pub record CanGoOn (number : ℕ) (front : List (List ℕ)) : Type 0 where
  pub others : List (List ℕ)
  pub are_lines : AllByRecursion IsLine others
  pub hs : List PlainHunk
  pub next : ℕ
  pub whole : IsPiece number (front ++ others) hs next []
