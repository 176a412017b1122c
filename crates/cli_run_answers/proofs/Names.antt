-- What a name holds after a first part of the effects.
use Rattle.std.proofs.Common.{◌≡◌, ◌⊎◌, inl, inr, ⊎_elim, ℕ, zero, suc, List, [], ◌∷◌, take, false, Option, refl, sym, ◌∙◌, ap, subst, arith}
use Rattle.std.specs.List.{Any}
use Rattle.std.specs.FinMap.{get, insert, remove}
use Rattle.outside.specs.Files.{Files, is_temp}
use Rattle.outside.specs.Quiet.{Effect, after, after_all}
use Rattle.outside.specs.Quiet.Effect.{Put, Remove}
use Rattle.outside.proofs.Names.{equal_or_not, get-put, get-put_other, get-gone, get-gone_other}
use Rattle.outside.proofs.Effects.{insert-after_put}
use Rattle.cli_run_answers.specs.Moments.{Makes, IsAfterPrefix, HoldsOldOrNew}

-- one effect makes something of its own name alone
after-one : (e : Effect) (f : Files) (q : List ℕ) → is_temp q ≡ false → (get (after e f) q ≡ get f q) ⊎ Makes e q (get (after e f) q)
after-one (Put n b) f q lasting =
    let put : get (after (Put n b) f) q ≡ get (insert f n b) q = (insert-after_put n b f).at q lasting in
    ⊎_elim
    (λ (eq : q ≡ n). inr (sym eq, put ∙ ap (λ (x : List ℕ). get (insert f n b) x) eq ∙ get-put f n b))
    (λ ne. inl (put ∙ get-put_other f n b q ne))
    (equal_or_not q n)
after-one (Remove n) f q lasting = ⊎_elim
    (λ (eq : q ≡ n). inr (sym eq, ap (λ (x : List ℕ). get (remove f n) x) eq ∙ get-gone f n))
    (λ ne. inl (get-gone_other f n q ne))
    (equal_or_not q n)

abbrev IsOldOrNew : List Effect → Option (List ℕ) → List ℕ → Option (List ℕ) → Type 0
IsOldOrNew es old q held = (held ≡ old) ⊎ Any (λ e. Makes e q held) es

any_later : (P : Effect → Type 0) (e : Effect) (es : List Effect) → Any P es → Any P (e ∷ es)
any_later P e es (k, x, lt, at, holds) = (suc k, x, omega (arith, lt), at, holds)

after-part : (k : ℕ) (es : List Effect) (f : Files) (q : List ℕ) → is_temp q ≡ false → IsOldOrNew es (get f q) q (get (after_all (take k es) f) q)
after-part zero es f q lasting = inl refl
after-part (suc k) [] f q lasting = inl refl
after-part (suc k) (e ∷ es) f q lasting =
    let held = get (after_all (take k es) (after e f)) q in
    ⊎_elim
    (λ same. ⊎_elim
    (λ before. inl (same ∙ before))
    (λ made. inr (zero, e, omega arith, refl, subst (λ (x : Option (List ℕ)). Makes e q x) (sym same) made))
    (after-one e f q lasting))
    (λ later. inr (any_later (λ x. Makes x q held) e es later))
    (after-part k es (after e f) q lasting)

pub old_or_new : (es : List Effect) (f c : Files) → IsAfterPrefix es f c → (q : List ℕ) → is_temp q ≡ false → HoldsOldOrNew es f c q
old_or_new es f c (k, le, same) q lasting = subst (λ (x : Option (List ℕ)). IsOldOrNew es (get f q) q x) (sym (same.at q lasting)) (after-part k es f q lasting)
