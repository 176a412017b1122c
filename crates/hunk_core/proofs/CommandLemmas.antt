-- Commands that were read, and commands that are written.
use Rattle.std.proofs.Common.{◌≡◌, ℕ, eqb, List, [], ◌∷◌, Some, refl, ap, ◌∙◌, inl, inr, ◌≢◌, true, subst, ◌+◌, ◌-◌, Bool, false, cond, ltb, ◌++◌}
use Rattle.std.proofs.lemmas.Bool.{eqb-true}
use Rattle.line_list.proofs.Choices.{chosen, some_is}
use Rattle.hunk_core.specs.declared.command.Action.{Action}
use Rattle.hunk_core.specs.declared.command.Action.TheVariants.{Add, Change, Delete}
use Rattle.hunk_core.specs.Letters.{action_at, letter}
use Rattle.num_text.proofs.RangeGrammar.{StopsRange}
use Rattle.num_text.specs.Numbers.{is_digit, AllDigits, decimal}
use Rattle.line_list.proofs.WholeLines.{NoFeed, no-feed-both}
use Rattle.num_text.proofs.Decimal.{decimal-numeral}
use Rattle.hunk_core.specs.Spans.{span_text}

pub action-takes : (bytes : List ℕ) (x : Action × List ℕ) → action_at bytes ≡ Some x → bytes ≡ letter x.0 ∷ x.1
unfolding action_at
action-takes [] x e = absurd cc
action-takes (b ∷ bytes) x e =
    elim (chosen (eqb b 97) _ _ (Some x) e) [
      | inl one ↦ is b 97 (Add, bytes) (eqb-true b 97 one.0) one.1 refl
      | inr e1 ↦ elim (chosen (eqb b 99) _ _ (Some x) e1.1) [
        | inl two ↦ is b 99 (Change, bytes) (eqb-true b 99 two.0) two.1 refl
        | inr e2 ↦ elim (chosen (eqb b 100) _ _ (Some x) e2.1) [
          | inl three ↦ is b 100 (Delete, bytes) (eqb-true b 100 three.0) three.1 refl
          | inr other ↦ absurd cc
        ]
      ]
    ]
  where
    is : (c n : ℕ) (y : Action × List ℕ) → c ≡ n → Some y ≡ Some x → n ∷ y.1 ≡ letter y.0 ∷ y.1 → c ∷ y.1 ≡ letter x.0 ∷ x.1
    is c n y same h l = let found : y ≡ x = some_is y x (Some y) refl h in ap (λ k. k ∷ y.1) same ∙ l ∙ ap (λ (z : Action × List ℕ). letter z.0 ∷ z.1) found

pub action-again : (action : Action) (rest : List ℕ) → action_at (letter action ∷ rest) ≡ Some (action, rest)
unfolding action_at
action-again Add rest = refl
action-again Change rest = refl
action-again Delete rest = refl

pub stops-letter : (action : Action) (rest : List ℕ) → StopsRange (letter action ∷ rest)
stops-letter Add rest = record { digit = refl; comma = λ n. refl }
stops-letter Change rest = record { digit = refl; comma = λ n. refl }
stops-letter Delete rest = record { digit = refl; comma = λ n. refl }

pub letter-clean : (action : Action) → letter action ≢ 10
letter-clean Add = λ e. cc
letter-clean Change = λ e. cc
letter-clean Delete = λ e. cc

pub no-feed : (ds : List ℕ) → AllDigits ds → NoFeed ds
no-feed [] h = tt
no-feed (d ∷ ds) h = (not_feed d h.0, no-feed ds h.1)
  where
    not_feed : (b : ℕ) → is_digit b ≡ true → b ≢ 10
    not_feed b is e = let ten : is_digit 10 ≡ true = subst (λ (x : ℕ). is_digit x ≡ true) e is in cc

pub span-clean : (start count : ℕ) → NoFeed (span_text start count)
span-clean start count = by (ltb 1 count)
  where
    digits : (n : ℕ) → NoFeed (decimal n)
    digits n = no-feed (decimal n) (decimal-numeral n).digits

    by : (b : Bool) → NoFeed (cond b (decimal start ++ 44 ∷ decimal (start + count - 1)) (decimal start))
    by true = no-feed-both (decimal start) (44 ∷ decimal (start + count - 1)) (digits start) ((λ e. cc), digits (start + count - 1))
    by false = digits start
