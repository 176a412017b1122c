-- Steps of reading that did not fail, and one thing read after the other.
use Rattle.std.proofs.Common.{◌≡◌, Bool, true, false, cond, List, [], ◌∷◌, ◌++◌, Result, Ok, Err, refl, ap, append_assoc}
use Rattle.hunk_core.specs.Reading.{◌>>=◌, Fault, Ahead}

-- the value of a step that did not fail
pub bind_ok : {A B : Type 0} (r : Result A Fault) (f : A → Result B Fault) (y : B) → (r >>= f) ≡ Ok y → (x : A) × (r ≡ Ok x) × (f x ≡ Ok y)
bind_ok (Ok x) f y e = (x, refl, e)
bind_ok (Err d) f y e = absurd cc

-- a test that must be passed
pub guard_ok : {A : Type 0} (b : Bool) (d : Fault) (x y : A) → cond b (Err d) (Ok x) ≡ Ok y → (b ≡ false) × (x ≡ y)
guard_ok true d x y e = absurd cc
guard_ok false d x y e = (refl, cc)

pub must_ok : {A : Type 0} (b : Bool) (d : Fault) (x y : A) → cond b (Ok x) (Err d) ≡ Ok y → (b ≡ true) × (x ≡ y)
must_ok true d x y e = (refl, cc)
must_ok false d x y e = absurd cc

abbrev pub done : {A : Type 0} → A → Result A Fault
done x = Ok x

pub ok_is : {A : Type 0} (x y : A) → done x ≡ done y → x ≡ y
ok_is x y e = cc

-- what was read before, and what is still read
abbrev pub with_front : {X : Type 0} → List X → Result (List X × Ahead) Fault → Result (List X × Ahead) Fault
with_front front read = read >>= λ x. Ok (front ++ x.0, x.1)

pub front_none : {X : Type 0} (read : Result (List X × Ahead) Fault) → with_front [] read ≡ read
front_none (Ok x) = refl
front_none (Err f) = refl

pub regroup : {X : Type 0} (front : List X) (n : X) (read : Result (List X × Ahead) Fault) → with_front front (read >>= λ x. Ok (n ∷ x.0, x.1)) ≡ with_front (front ++ n ∷ []) read
regroup front n (Ok x) = ap (λ ns. Ok (ns, x.1)) (simp append_assoc)
regroup front n (Err f) = refl
