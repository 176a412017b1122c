-- A word looked for line by line.
use Rattle.std.proofs.Common.{◌≡◌, ◌+◌, ◌<◌, ◌||◌, ℕ, List, [], length, take, get_or, true, false, arith, sym, ◌∙◌, ap}
use Rattle.std.specs.List.{list_any}
use Rattle.std.proofs.lemmas.List.{take_all}
use Rattle.std.proofs.lemmas.List.Folds.{list_any_at, list_any_more}
use Rattle.line_store.specs.Store.{line_at}
use Rattle.apply_start.specs.Start.{has_word, line_has_word}

line-behind : (word : List ℕ) (ls : List (List ℕ)) (k : ℕ) → line_has_word word (line_at ls (k + 1)) ≡ line_has_word word (get_or ls k [])
line-behind word ls k = ap (λ n. line_has_word word (get_or ls n [])) (omega arith)

pub found-here : (word : List ℕ) (ls : List (List ℕ)) (k : ℕ) → k < length ls → line_has_word word (line_at ls (k + 1)) ≡ true → has_word word ls ≡ true
found-here word ls k low is = list_any_at (line_has_word word) ls k [] low (sym (line-behind word ls k) ∙ is)

pub none-more : (word : List ℕ) (ls : List (List ℕ)) (k : ℕ) → k < length ls → list_any (line_has_word word) (take k ls) ≡ false → line_has_word word (line_at ls (k + 1)) ≡ false → list_any (line_has_word word) (take (k + 1) ls) ≡ false
none-more word ls k low none is =
    list_any_more (line_has_word word) ls k [] low
    ∙ ap (λ b. b || line_has_word word (get_or ls k [])) none
    ∙ sym (line-behind word ls k) ∙ is

pub none-whole : (word : List ℕ) (ls : List (List ℕ)) (k : ℕ) → length ls ≡ k → list_any (line_has_word word) (take k ls) ≡ false → has_word word ls ≡ false
none-whole word ls k all none = sym (ap (list_any (line_has_word word)) (take_all k ls (omega (arith, all)))) ∙ none
