-- Ranges read with the commands of `diff` are those of a range line.
use Rattle.std.proofs.Common.{◌≡◌, ℕ, ◌^◌, min, Bool, true, false, cond, eqb, List, [], ◌∷◌, Option, None, Some, refl}
use Rattle.std.specs.Prelude.{option_map, if◌then◌else◌}
use Rattle.num_text.specs.Numbers.{number_at}
use Rattle.num_text.specs.declared.range.NumberRange.{NumberRange}
use Rattle.num_text.specs.NumberRanges.{one, with_second, behind_first, from_first, range_at as number_range_at}
use Rattle.hunk_core.specs.LineTests.{after}
use Rattle.unified_form.specs.declared.range.Ranges.{Ranges}
use Rattle.unified_form.specs.Ranges.{capped, size_at, count_at, range_at, range_line}
use Rattle.hunk_core.specs.OptionSteps.{◌>>=◌}
use Rattle.split_recount.specs.RangeLines.{range_parts}

-- a range of numbers as a start and a count
abbrev pub counted : Option (NumberRange × List ℕ) → Option ((ℕ × ℕ) × List ℕ)
counted None = None
counted (Some x) = Some ((x.0.first, if x.0.is_single then 1 else x.0.last), x.1)

second : (n : ℕ) (found : Option (ℕ × List ℕ)) → ((found >>= capped) >>= λ count. Some ((min n (2 ^ 32), count.0), count.1)) ≡ counted (with_second n found)
second n None = refl
second n (Some m) = refl

behind : (n : ℕ) (rest : List ℕ) → (count_at rest >>= λ count. Some ((min n (2 ^ 32), count.0), count.1)) ≡ counted (behind_first n rest)
unfolding count_at
behind n [] = refl
behind n (b ∷ bytes) = by (eqb b 44)
  where
    by : (v : Bool) → (cond v (size_at bytes) (Some (1, b ∷ bytes)) >>= λ count. Some ((min n (2 ^ 32), count.0), count.1)) ≡ counted (cond v (with_second n (number_at bytes)) (Some (one n, b ∷ bytes)))
    by true = second n (number_at bytes)
    by false = refl

whole : (found : Option (ℕ × List ℕ)) → ((found >>= capped) >>= λ start. count_at start.1 >>= λ count. Some ((start.0, count.0), count.1)) ≡ counted (from_first found)
whole None = refl
whole (Some n) = behind n.0 n.1

pub ranges_alike : (bytes : List ℕ) → range_at bytes ≡ counted (number_range_at bytes)
unfolding range_at number_range_at
ranges_alike bytes = whole (number_at bytes)

-- ---- the whole line

abbrev two : (ℕ × ℕ) → (ℕ × ℕ) → Ranges
two old new = record { old_start = old.0; old_count = old.1; new_start = new.0; new_count = new.1 }

abbrev first_of : Option (Ranges × List ℕ) → Option Ranges
first_of found = option_map (λ p. p.0) found

-- from the bytes behind the new range on, with what stands there and without
abbrev ends : Ranges → List ℕ → Option (Ranges × List ℕ)
ends r bytes = after (32 ∷ 64 ∷ 64 ∷ []) bytes >>= λ rest. Some (r, rest)

abbrev short_ends : Ranges → List ℕ → Option Ranges
short_ends r bytes = after (32 ∷ 64 ∷ 64 ∷ []) bytes >>= λ rest. Some r

by-end : (r : Ranges) (found : Option (List ℕ)) → first_of (found >>= λ rest. Some (r, rest)) ≡ (found >>= λ rest. Some r)
by-end r None = refl
by-end r (Some rest) = refl

by-new : (old : ℕ × ℕ) (found : Option ((ℕ × ℕ) × List ℕ)) → first_of (found >>= λ new. ends (two old new.0) new.1) ≡ (found >>= λ new. short_ends (two old new.0) new.1)
by-new old None = refl
by-new old (Some new) = by-end (two old new.0) (after (32 ∷ 64 ∷ 64 ∷ []) new.1)

by-plus : (old : ℕ × ℕ) (found : Option (List ℕ)) → first_of (found >>= λ bytes. range_at bytes >>= λ new. ends (two old new.0) new.1) ≡ (found >>= λ bytes. range_at bytes >>= λ new. short_ends (two old new.0) new.1)
by-plus old None = refl
by-plus old (Some bytes) = by-new old (range_at bytes)

by-old : (found : Option ((ℕ × ℕ) × List ℕ)) → first_of (found >>= λ old. after (32 ∷ 43 ∷ []) old.1 >>= λ bytes. range_at bytes >>= λ new. ends (two old.0 new.0) new.1)
    ≡ (found >>= λ old. after (32 ∷ 43 ∷ []) old.1 >>= λ bytes. range_at bytes >>= λ new. short_ends (two old.0 new.0) new.1)
by-old None = refl
by-old (Some old) = by-plus old.0 (after (32 ∷ 43 ∷ []) old.1)

by-front : (found : Option (List ℕ)) → first_of (found >>= λ front. range_at front >>= λ old. after (32 ∷ 43 ∷ []) old.1 >>= λ bytes. range_at bytes >>= λ new. ends (two old.0 new.0) new.1)
    ≡ (found >>= λ front. range_at front >>= λ old. after (32 ∷ 43 ∷ []) old.1 >>= λ bytes. range_at bytes >>= λ new. short_ends (two old.0 new.0) new.1)
by-front None = refl
by-front (Some front) = by-old (range_at front)

pub parts-read : (line : List ℕ) → option_map (λ p. p.0) (range_parts line) ≡ range_line line
unfolding range_parts range_line
parts-read line = by-front (after (64 ∷ 64 ∷ 32 ∷ 45 ∷ []) line)
