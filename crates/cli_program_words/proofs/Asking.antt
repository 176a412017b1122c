-- A walk over words up to the one that asks, or to `--`.
use Rattle.std.proofs.Common.{◌≡◌, ◌∙◌, ◌&&◌, ◌||◌, ◌<◌, ◌≤◌, ◌+◌, not, ℕ, Bool, true, false, List, ap, bytes_eq, codes, drop, get_or, length, map, refl, sym}
use Rattle.std.proofs.lemmas.List.{at_drop_more, at_drop_all}
use Rattle.clap.specs.Words.{Text}
use Rattle.cli_program_words.specs.Told.{asks, is_asking}

module _ {S : Type 0} (text : S → Text) (tool : Text) (words : List S) (n : ℕ) (so_far : asks tool (map text words) ≡ asks tool (map text (drop n words))) where
  module _ (word : S) (w : Text) (within : n < length words) (is : w ≡ text (get_or words n word)) where
    abbrev behind : Bool
    behind = asks tool (map text (drop (n + 1) words))

    here : asks tool (map text words) ≡ (is_asking tool w || (not (bytes_eq w (codes "--")) && behind))
    here = so_far ∙ (at_drop_more (λ l. asks tool (map text l)) words n word within ∙ ap (λ t. is_asking tool t || (not (bytes_eq t (codes "--")) && behind)) (sym is))

    pub found : true ≡ is_asking tool w → true ≡ asks tool (map text words)
    found asked = sym (here ∙ ap (λ b. b || (not (bytes_eq w (codes "--")) && behind)) (sym asked))

    passed : false ≡ is_asking tool w → asks tool (map text words) ≡ (not (bytes_eq w (codes "--")) && behind)
    passed none = here ∙ ap (λ b. b || (not (bytes_eq w (codes "--")) && behind)) (sym none)

    pub ended : false ≡ is_asking tool w → true ≡ bytes_eq w (codes "--") → false ≡ asks tool (map text words)
    ended none last = sym (passed none ∙ ap (λ b. not b && behind) (sym last))

    pub goes_on : false ≡ is_asking tool w → false ≡ bytes_eq w (codes "--") → asks tool (map text words) ≡ asks tool (map text (drop (n + 1) words))
    goes_on none more = passed none ∙ ap (λ b. not b && behind) (sym more)

  pub none_asks : length words ≤ n → false ≡ asks tool (map text words)
  none_asks end = sym (so_far ∙ at_drop_all (λ l. asks tool (map text l)) words n end)
