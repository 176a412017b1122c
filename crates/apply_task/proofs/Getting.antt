-- A target got by its place.
use Rattle.std.proofs.Common.{◌≡◌, ◌<◌, ◌≤◌, ℕ, List, length, get_or, Bor, Option, None, Some, refl, sym}
use Rattle.std.specs.List.{slice_get, HoldsAt}
use Rattle.std.specs.Option.{IfSome, MatchOption, option_copied}
use Rattle.std.proofs.lemmas.Option.{slice_get_past, slice_get_read}
use Rattle.read_file_patch.specs.declared.derived.Target.{Target}

pub got : (r : Option (Bor Target)) (xs : List Target) (i : ℕ) → IfSome r (λ x. x.now ≡ get_or xs i x.now) → MatchOption r (length xs ≤ i) (λ x. (i < length xs) × HoldsAt (λ y. x.now ≡ y) xs i) → option_copied r ≡ slice_get xs i
got None xs i here h = sym (slice_get_past xs i h)
got (Some x) xs i here h = sym (slice_get_read xs (length xs) i x.now refl h.0 here)
