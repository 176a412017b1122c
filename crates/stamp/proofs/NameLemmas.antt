-- Three letters among names.
use Rattle.std.proofs.Common.{◌≡◌, ℕ, zero, suc, ◌<◌, List, [], ◌∷◌, length, get_or, Some, refl, arith}
use Rattle.std.specs.Str.{bytes_eq}
use Rattle.std.proofs.lemmas.List.Quantifiers.{position-Some}
use Rattle.std.proofs.lemmas.Slice.Eq.{bytes_eq-Decides}
use Rattle.stamp.specs.Forms.{weekdays, months}
use Rattle.stamp.specs.Reading.{place_among}

-- what is found at a place is the name that stands there
pub place-some : (names : List (List ℕ)) (name : List ℕ) (k : ℕ) → place_among names name ≡ Some k → (k < length names) × (get_or names k [] ≡ name)
unfolding place_among
place-some names name k e =
    let p = position-Some (λ each. bytes_eq each name) names k [] e in
    (p.0, (bytes_eq-Decides (get_or names k []) name).0 p.1)

-- a name's letters, which are found at its place
pub record Letters (names : List (List ℕ)) (k : ℕ) : Type 0 where
  pub a : ℕ
  pub b : ℕ
  pub c : ℕ
  pub is : get_or names k [] ≡ a ∷ b ∷ c ∷ []
  pub place : place_among names (a ∷ b ∷ c ∷ []) ≡ Some k
  pub letter : 57 < a

pub weekday-letters : (k : ℕ) → k < 7 → Letters weekdays k
unfolding place_among
weekday-letters zero lt = record { a = 77; b = 111; c = 110; is = refl; place = refl; letter = omega arith }
weekday-letters (suc zero) lt = record { a = 84; b = 117; c = 101; is = refl; place = refl; letter = omega arith }
weekday-letters (suc (suc zero)) lt = record { a = 87; b = 101; c = 100; is = refl; place = refl; letter = omega arith }
weekday-letters (suc (suc (suc zero))) lt = record { a = 84; b = 104; c = 117; is = refl; place = refl; letter = omega arith }
weekday-letters (suc (suc (suc (suc zero)))) lt = record { a = 70; b = 114; c = 105; is = refl; place = refl; letter = omega arith }
weekday-letters (suc (suc (suc (suc (suc zero))))) lt = record { a = 83; b = 97; c = 116; is = refl; place = refl; letter = omega arith }
weekday-letters (suc (suc (suc (suc (suc (suc zero)))))) lt = record { a = 83; b = 117; c = 110; is = refl; place = refl; letter = omega arith }
weekday-letters (suc (suc (suc (suc (suc (suc (suc k))))))) lt = absurd (omega arith)

pub month-letters : (k : ℕ) → k < 12 → Letters months k
unfolding place_among
month-letters zero lt = record { a = 74; b = 97; c = 110; is = refl; place = refl; letter = omega arith }
month-letters (suc zero) lt = record { a = 70; b = 101; c = 98; is = refl; place = refl; letter = omega arith }
month-letters (suc (suc zero)) lt = record { a = 77; b = 97; c = 114; is = refl; place = refl; letter = omega arith }
month-letters (suc (suc (suc zero))) lt = record { a = 65; b = 112; c = 114; is = refl; place = refl; letter = omega arith }
month-letters (suc (suc (suc (suc zero)))) lt = record { a = 77; b = 97; c = 121; is = refl; place = refl; letter = omega arith }
month-letters (suc (suc (suc (suc (suc zero))))) lt = record { a = 74; b = 117; c = 110; is = refl; place = refl; letter = omega arith }
month-letters (suc (suc (suc (suc (suc (suc zero)))))) lt = record { a = 74; b = 117; c = 108; is = refl; place = refl; letter = omega arith }
month-letters (suc (suc (suc (suc (suc (suc (suc zero))))))) lt = record { a = 65; b = 117; c = 103; is = refl; place = refl; letter = omega arith }
month-letters (suc (suc (suc (suc (suc (suc (suc (suc zero)))))))) lt = record { a = 83; b = 101; c = 112; is = refl; place = refl; letter = omega arith }
month-letters (suc (suc (suc (suc (suc (suc (suc (suc (suc zero))))))))) lt = record { a = 79; b = 99; c = 116; is = refl; place = refl; letter = omega arith }
month-letters (suc (suc (suc (suc (suc (suc (suc (suc (suc (suc zero)))))))))) lt = record { a = 78; b = 111; c = 118; is = refl; place = refl; letter = omega arith }
month-letters (suc (suc (suc (suc (suc (suc (suc (suc (suc (suc (suc zero))))))))))) lt = record { a = 68; b = 101; c = 99; is = refl; place = refl; letter = omega arith }
month-letters (suc (suc (suc (suc (suc (suc (suc (suc (suc (suc (suc (suc k)))))))))))) lt = absurd (omega arith)
