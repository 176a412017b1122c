-- The best of the names that need the fewest new directories is the best by new directories first.
use Rattle.std.proofs.Common.{◌≡◌, ℕ, ◌<◌, ◌≤◌, ⊎_elim, List, [], length, Bool, true, false, ltb, Option, None, Some, refl, sym, ◌∙◌, arith}
use Rattle.std.proofs.lemmas.Bool.{false≢true, le-ltb, lt-ltb, cases_lt, not_from_true, not_from_false}
use Rattle.std.proofs.lemmas.List.Folds.{list_any_none, list_any_at}
use Rattle.std.proofs.lemmas.List.Elements.{All-from_get_or}
use Rattle.outside.specs.Files.{Files}
use Rattle.name_choice.specs.Better.{smaller_then, is_better, best_among, name_at, IsBest}
use Rattle.name_choice.specs.Choice.{new_directories, needs_fewest}
use Rattle.name_choice.proofs.Best.{lex-true, lex-false, smaller-order, better-order, walk, walked, IsFirstBest, Stands, best-from, none-from}

-- fewer new directories, or as many and better
abbrev pub nearer : (List ℕ → ℕ) → List ℕ → List ℕ → Bool
nearer directories a b = smaller_then directories is_better a b

module _ (files : Files) (names : List (List ℕ)) where
  fewest-at : (n : List ℕ) → needs_fewest files names n ≡ true → (j : ℕ) → j < length names → new_directories files n ≤ new_directories files (name_at names j)
  fewest-at n is j lt = ⊎_elim
      (λ less. absurd (false≢true (sym (not_from_true _ (list_any_at (λ m. ltb (new_directories files m) (new_directories files n)) names j [] lt (lt-ltb _ _ less))) ∙ is)))
      (λ le. le)
      (cases_lt (new_directories files (name_at names j)) (new_directories files n))

  fewest-from : (n : List ℕ) → ((j : ℕ) → j < length names → new_directories files n ≤ new_directories files (name_at names j)) → needs_fewest files names n ≡ true
  fewest-from n each = not_from_false _ (list_any_none (λ m. ltb (new_directories files m) (new_directories files n)) names
      (All-from_get_or (λ m. ltb (new_directories files m) (new_directories files n) ≡ false) names [] (λ j lt. le-ltb _ _ (each j lt))))

  nearest : (k : ℕ) → IsFirstBest (λ n. true) (nearer (new_directories files)) names (length names) k → IsBest (needs_fewest files names) names k
  nearest k s = record {
    within = s.within;
    admitted = fewest-from (name_at names k) (λ j lt. ⊎_elim
        (λ less. omega (arith, less))
        (λ p. omega (arith, p.0))
        (lex-false (new_directories files (name_at names j)) (new_directories files (name_at names k)) (is_better (name_at names j) (name_at names k)) (s.unbeaten j lt refl)));
    unbeaten = λ j lt adm. ⊎_elim
        (λ less. absurd (let le = fewest-at (name_at names j) adm k s.within in omega (arith, less, le)))
        (λ p. p.1)
        (lex-false (new_directories files (name_at names j)) (new_directories files (name_at names k)) (is_better (name_at names j) (name_at names k)) (s.unbeaten j lt refl));
    first = λ j lt adm. ⊎_elim
        (λ less. absurd (let le = fewest-at (name_at names j) adm k s.within in omega (arith, less, le)))
        (λ p. p.1)
        (lex-true (new_directories files (name_at names k)) (new_directories files (name_at names j)) (is_better (name_at names k) (name_at names j)) (s.first j lt refl));
  }

-- the walk by new directories first ends at the best of those that need the fewest
pub fewest-walked : (files : Files) (names : List (List ℕ)) → walk (λ n. true) (nearer (new_directories files)) names (length names) ≡ best_among (needs_fewest files names) names
fewest-walked files names = by (walk (λ n. true) (nearer (new_directories files)) names (length names))
    (walked (λ n. true) (nearer (new_directories files)) names (smaller-order (new_directories files) is_better better-order) (length names))
  where
    by : (p : Option ℕ) → Stands (λ n. true) (nearer (new_directories files)) names (length names) p → p ≡ best_among (needs_fewest files names) names
    by None s = sym (none-from (needs_fewest files names) names (λ j lt. absurd (false≢true (sym (s j lt)))))
    by (Some k) s = sym (best-from (needs_fewest files names) names k (nearest files names k s))
