use Rattle.std.proofs.Common.{◌≡◌, ◌<◌, ◌-◌, ℕ, Option, None, Some, List, [], ◌∷◌, ◌++◌, length, refl, ap, ◌∙◌, arith}
use Rattle.std.specs.Prelude.{IsSome, slice_index_or}
use Rattle.std.specs.Option.{option_to_list}
use Rattle.read_file_patch.specs.Candidates.{header_candidate}
use Rattle.patch_set.proofs.skipped.candidate.Goals as goal

-- the last one of at most one name
last : (name : Option (List ℕ)) (xs : List (List ℕ)) (len : ℕ) (r : Option (List ℕ)) → xs ≡ option_to_list name ++ [] → len ≡ length xs
    → ((d : List ℕ) → 0 < len → r ≡ Some (slice_index_or xs (len - 1) d)) → (IsSome r → 0 < len) → r ≡ name
last None xs len None is fits value some = refl
last None xs len (Some x) is fits value some = absurd (omega (arith, some refl, fits, ap length is))
last (Some name) xs len r is fits value some =
    value [] (omega (arith, fits, ap length is))
    ∙ ap (λ (l : List (List ℕ)). Some (slice_index_or l (len - 1) [])) is
    ∙ ap (λ n. Some (slice_index_or (name ∷ []) (n - 1) [])) (fits ∙ ap length is)

pub returns : goal.returns
returns c = last (header_candidate (Some 0) c.args.text.now) _ _ c.pop.result c.in_ok-found.ensures c.in_ok-found.found.ok.0 c.pop.ensures.value c.pop.ensures.variant.0
