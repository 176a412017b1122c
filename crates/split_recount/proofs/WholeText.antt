-- A text that is rewritten once its last line has its line feed.
use Rattle.std.proofs.Common.{◌≡◌, ℕ, true, false, List, [], ◌∷◌, ◌++◌, sym, ◌∙◌}
use Rattle.std.proofs.lemmas.List.{append-nil}
use Rattle.line_list.specs.Lines.{lines}
use Rattle.line_list.specs.Join.{ends_open}
use Rattle.line_list.specs.Completed.{completed}

pub complete-already : (text : List ℕ) → false ≡ ends_open (lines text) → completed text ≡ text
unfolding completed
complete-already text e = rw (sym e) (append-nil text)

pub complete-by : (text whole given : List ℕ) → true ≡ ends_open (lines text) → given ≡ whole → whole ≡ text ++ 10 ∷ [] → completed text ≡ given
unfolding completed
complete-by text whole given e f g = rw (sym e) (sym (f ∙ g))
