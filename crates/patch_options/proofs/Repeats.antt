-- Words that are given again.
use Rattle.std.proofs.Common.{◌≡◌, ◌∙◌, ◌||◌, ◌<◌, ◌++◌, ◌+◌, ℕ, Bool, true, false, List, [], ◌∷◌, Option, Some, None, ap, arith, bytes_eq, find, if◌then◌else◌, min, nat_lt, refl, slice_get, sym, option_and_then, unwrap_or}
use Rattle.std.specs.Option.{option_map_or}
use Rattle.std.proofs.lemmas.Bool.{true≢false, lt-ltb}
use Rattle.std.proofs.lemmas.Slice.Eq.{bytes_eq-Decides}
use Rattle.clap.specs.Matches.{count_text}
use Rattle.clap.specs.Walk.{reading_by, at_row, count_of, first_as_count, first_of, has_row, more_values, new_count, with_values, without}
use Rattle.clap.specs.Words.{Row, Text}
use Rattle.clap.specs.declared.parser.matches.ValueSource.TheVariants.{CommandLine}
use Rattle.patch_options.specs.Repeats.{HasOne, built_rule, with_switch, with_value}
use Rattle.patch_options.specs.Simple.{a_word}
use Rattle.patch_options.specs.Table.{is_used, uses, value_of}
use Rattle.patch_options.specs.declared.simple.WordForm.TheVariants.{Switch, Value}

same_name : (name : Text) → bytes_eq name name ≡ true
same_name name = (bytes_eq-Decides name name).1 refl

-- ---- a name that has no row yet

put_behind : (id : Text) (change : Row → List Row) (missing rows : List Row) → has_row id rows ≡ false → at_row id change missing rows ≡ rows ++ missing
put_behind id change missing [] h = refl
put_behind id change missing (r ∷ rs) h = go (bytes_eq r.id id) refl (put_behind id change missing rs)
  where
    go : (b : Bool) → bytes_eq r.id id ≡ b → (has_row id rs ≡ false → at_row id change missing rs ≡ rs ++ missing) → at_row id change missing (r ∷ rs) ≡ r ∷ (rs ++ missing)
    go true is more = absurd (true≢false (sym (ap (λ b. b || has_row id rs) is) ∙ h))
    go false is more =
        ap (λ b. if b then change r ++ rs else r ∷ at_row id change missing rs) is ∙ ap (λ l. r ∷ l) (more (sym (ap (λ b. b || has_row id rs) is) ∙ h))

taken_again : (id : Text) (new : Row) (rows : List Row) → bytes_eq new.id id ≡ true → has_row id rows ≡ false → without id (rows ++ new ∷ []) ≡ rows
taken_again id new [] same h = ap (λ b. if b then [] else new ∷ []) same
taken_again id new (r ∷ rs) same h = go (bytes_eq r.id id) refl (taken_again id new rs same)
  where
    go : (b : Bool) → bytes_eq r.id id ≡ b → (has_row id rs ≡ false → without id (rs ++ new ∷ []) ≡ rs) → without id (r ∷ (rs ++ new ∷ [])) ≡ r ∷ rs
    go true is more = absurd (true≢false (sym (ap (λ b. b || has_row id rs) is) ∙ h))
    go false is more =
        ap (λ b. if b then [] ++ (rs ++ new ∷ []) else r ∷ without id (rs ++ new ∷ [])) is ∙ ap (λ l. r ∷ l) (more (sym (ap (λ b. b || has_row id rs) is) ∙ h))

found_last : (id : Text) (new : Row) (rows : List Row) → bytes_eq new.id id ≡ true → has_row id rows ≡ false → find (λ r. bytes_eq r.id id) (rows ++ new ∷ []) ≡ Some new
found_last id new [] same h = ap (λ b. if b then Some new else None) same
found_last id new (r ∷ rs) same h = go (bytes_eq r.id id) refl (found_last id new rs same)
  where
    go : (b : Bool) → bytes_eq r.id id ≡ b → (has_row id rs ≡ false → find (λ x. bytes_eq x.id id) (rs ++ new ∷ []) ≡ Some new) → find (λ x. bytes_eq x.id id) (r ∷ (rs ++ new ∷ [])) ≡ Some new
    go true is more = absurd (true≢false (sym (ap (λ b. b || has_row id rs) is) ∙ h))
    go false is more = ap (λ b. if b then Some r else find (λ x. bytes_eq x.id id) (rs ++ new ∷ [])) is ∙ more (sym (ap (λ b. b || has_row id rs) is) ∙ h)

some_times : (n : ℕ) → 0 < min (n + 1) 255
some_times n = omega arith

-- ---- one use more

module _ (place : ℕ) (letter : Option ℕ) (name : Text) (rows : List Row) (one : HasOne name rows) where
  abbrev pub value_row : Text → Row
  value_row value = record { id = name; values = value ∷ []; count = None; source = Some CommandLine; reading = reading_by (built_rule place (a_word Value letter name)) }

  value_behind : (value : Text) → with_value place (a_word Value letter name) value rows ≡ without name rows ++ value_row value ∷ []
  value_behind value = put_behind name (more_values CommandLine (value ∷ [])) (value_row value ∷ []) (without name rows) one

  value_without : (value : Text) → without name (with_value place (a_word Value letter name) value rows) ≡ without name rows
  value_without value = ap (without name) (value_behind value) ∙ taken_again name (value_row value) (without name rows) (same_name name) one

  pub value_again : (first last : Text) → with_value place (a_word Value letter name) last (with_value place (a_word Value letter name) first rows) ≡ with_value place (a_word Value letter name) last rows
  value_again first last = ap (λ rs. with_values name (reading_by (built_rule place (a_word Value letter name))) CommandLine (last ∷ []) rs) (value_without first)

  pub value_last : (value : Text) → value_of (with_value place (a_word Value letter name) value rows) name ≡ Some value
  unfolding value_of
  value_last value = ap (first_of name) (value_behind value) ∙ ap (λ (o : Option Row). option_and_then (λ r. slice_get r.values 0) o) (found_last name (value_row value) (without name rows) (same_name name) one)

  pub value_one : (value : Text) → HasOne name (with_value place (a_word Value letter name) value rows)
  value_one value = ap (has_row name) (value_without value) ∙ one

  abbrev pub switch_row : ℕ → Row
  switch_row n = record { id = name; values = count_text n ∷ []; count = Some n; source = Some CommandLine; reading = reading_by (built_rule place (a_word Switch letter name)) }

  switch_behind : with_switch place (a_word Switch letter name) rows ≡ without name rows ++ switch_row (min (count_of name rows + 1) 255) ∷ []
  switch_behind = put_behind name (new_count CommandLine (min (count_of name rows + 1) 255)) (switch_row (min (count_of name rows + 1) 255) ∷ []) (without name rows) one

  pub switch_used : is_used (with_switch place (a_word Switch letter name) rows) name ≡ true
  unfolding uses
  switch_used =
      let n = min (count_of name rows + 1) 255 in
      let is : count_of name (with_switch place (a_word Switch letter name) rows) ≡ n =
      ap (count_of name) switch_behind ∙ ap (λ (o : Option Row). option_map_or (λ r. unwrap_or r.count (first_as_count r.values)) o 0) (found_last name (switch_row n) (without name rows) (same_name name) one) in
      ap (nat_lt 0) is ∙ lt-ltb 0 n (some_times (count_of name rows))
