-- Two openings of one form look alike to the lines in front of them.
use Rattle.std.proofs.Common.{◌≡◌, inl, inr, ◌≤◌, ℕ, true, false, List, [], ◌∷◌, ◌++◌, Option, None, Some, refl, sym, ◌∙◌, arith}
use Rattle.std.specs.Prelude.{is_some, replicate}
use Rattle.std.proofs.lemmas.Bool.{false_from_ne_true}
use Rattle.hunk_core.specs.declared.Form.{Form}
use Rattle.hunk_core.specs.declared.Form.TheVariants.{Unified, Context, Normal, Ed}
use Rattle.hunk_core.specs.LineTests.{after}
use Rattle.hunk_core.proofs.TextLemmas.{has_some, after-takes}
use Rattle.context_form.specs.Openings.{is_stars, has_number, opens_old}
use Rattle.normal_form.specs.Hunks.{is_marked}
use Rattle.patch_header.specs.GitHeaders.{is_range_like}
use Rattle.patch_header.specs.Openings.{begins}
use Rattle.patch_header.proofs.Fronts.{front, and_left, or_cases, after-front, unified-range, ranged-front, unified-front, context-front, range-front, normal-range, ed-range}
use Rattle.law_reading.proofs.Quiet.{LookAlike}
use Rattle.law_reading.proofs.Solid.{digit-low, form-front, front-solid, solid-shows, solid-alike}
use Rattle.patch_header.specs.GitRows.{is_unified}

no-number : (o : Option (List ℕ)) → (is_some o ≡ true → ⊥) → has_number o ≡ false
no-number None h = refl
no-number (Some x) h = absurd (h refl)

marked-none : (only : Option Form) (f : Form) (line : List ℕ) (more : List (List ℕ)) → begins only f (line ∷ more) ≡ true → is_marked line ≡ false
marked-none only f line more h =
    let o = form-front only f line more h in
    false_from_ne_true (is_marked line) (λ m. elim (or_cases (is_some (after (60 ∷ 32 ∷ []) line)) (is_some (after (62 ∷ 32 ∷ []) line)) m) [
      | inl a ↦ o.no_old (after-front 60 (32 ∷ []) line a)
      | inr a ↦ o.no_new (after-front 62 (32 ∷ []) line a)
    ])

not-old : (line : List ℕ) → (front line ≡ 42 → ⊥) → opens_old line ≡ false
not-old line h = no-number (after (42 ∷ 42 ∷ 42 ∷ 32 ∷ []) line) (λ a. h (after-front 42 (42 ∷ 42 ∷ 32 ∷ []) line a))

stars-old : (line rest : List ℕ) → line ≡ replicate 15 42 ++ rest → opens_old line ≡ false
unfolding after
stars-old line rest e = rw e refl

ranged-none : (only : Option Form) (f : Form) (line : List ℕ) (more : List (List ℕ)) → begins only f (line ∷ more) ≡ true → opens_old line ≡ false
ranged-none only Unified line more h = let is : front line ≡ 64 = unified-front line h in not-old line (λ k. omega (arith, is, k))
ranged-none only Context line more h =
    let some = has_some (after (replicate 15 42) line) (and_left (is_stars line) _ h) in
    stars-old line some.0 (after-takes (replicate 15 42) line some.0 some.1)
ranged-none only Normal line more h = let low : 48 ≤ front line = (digit-low (front line) (range-front line (normal-range line (and_left _ _ h)))).0 in not-old line (λ k. omega (arith, low, k))
ranged-none only Ed line more h = let low : 48 ≤ front line = (digit-low (front line) (range-front line (ed-range line (and_left _ _ h)))).0 in not-old line (λ k. omega (arith, low, k))

range-is : (only : Option Form) (f : Form) (line : List ℕ) (more : List (List ℕ)) → begins only f (line ∷ more) ≡ true → is_range_like line ≡ is_unified f
range-is only Unified line more h = unified-range line h
range-is only Context line more h = false_from_ne_true (is_range_like line) (λ k. let a : front line ≡ 64 = ranged-front line k in let b : front line ≡ 42 = context-front line (and_left (is_stars line) _ h) in omega (arith, a, b))
range-is only Normal line more h = false_from_ne_true (is_range_like line) (λ k. let a : front line ≡ 64 = ranged-front line k in let b : front line ≤ 57 = (digit-low (front line) (range-front line (normal-range line (and_left _ _ h)))).1 in omega (arith, a, b))
range-is only Ed line more h = false_from_ne_true (is_range_like line) (λ k. let a : front line ≡ 64 = ranged-front line k in let b : front line ≤ 57 = (digit-low (front line) (range-front line (ed-range line (and_left _ _ h)))).1 in omega (arith, a, b))

none-begins : (only : Option Form) (f : Form) → begins only f [] ≡ true → ⊥
none-begins only Unified h = absurd cc
none-begins only Context h = absurd cc
none-begins only Normal h = absurd cc
none-begins only Ed h = absurd cc

pub form-alike : (only : Option Form) (f : Form) (rest other : List (List ℕ)) → begins only f rest ≡ true → begins only f other ≡ true → LookAlike rest other
form-alike only f [] other h k = absurd (none-begins only f h)
form-alike only f (line ∷ more) [] h k = absurd (none-begins only f k)
form-alike only f (line ∷ more) (next ∷ others) h k = solid-alike (line ∷ more) (next ∷ others)
    (marked-none only f line more h ∙ sym (marked-none only f next others k))
    (ranged-none only f line more h ∙ sym (ranged-none only f next others k))
    (range-is only f line more h ∙ sym (range-is only f next others k))
    (solid-shows line more (front-solid line (form-front only f line more h)))
    (solid-shows next others (front-solid next (form-front only f next others k)))
