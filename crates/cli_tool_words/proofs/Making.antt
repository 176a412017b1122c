-- Numbers and words that are given, by the values that they have.
use Rattle.std.proofs.Common.{◌≡◌, ◌∙◌, ◌+◌, ◌<◌, ◌≤◌, ℕ, Bool, List, [], ◌∷◌, ◌++◌, Option, Some, None, IfSome, ap, get_or, length, map, sym, take, unwrap_or}
use Rattle.std.proofs.lemmas.List.{map_more, map_push, take_all}
use Rattle.cli_tool_words.specs.Asked.{is_made, is_size}

pub made_is : {seed files lines : ℕ} {s f l : Option ℕ} {is : Bool} → Some seed ≡ s → Some files ≡ f → Some lines ≡ l → is_size files lines ≡ is → is_made s f l ≡ is
made_is seed-is files-is lines-is size = rw (sym seed-is, sym files-is, sym lines-is) size

-- a value, or another one where none is given
pub given_or : {X : Type 0} (r o : Option X) (d : X) → r ≡ o → IfSome r (λ x. x ≡ unwrap_or o d)
given_or None o d is = tt
given_or (Some x) o d is = ap (λ v. unwrap_or v d) is

-- ---- what is made of the elements of a list, one by one

module _ {A B C : Type 0} (f : A → C) (g : B → C) where
  pub one_mapped : (xs new : List A) (x : A) (ys : List B) (n : ℕ) (d : B) → new ≡ xs ++ x ∷ [] → map f xs ≡ map g (take n ys) → n < length ys → f x ≡ g (get_or ys n d) → map f new ≡ map g (take (n + 1) ys)
  one_mapped xs new x ys n d new-is so_far within is =
      ap (map f) new-is ∙ (map_push f xs x ∙ (ap (λ l. l ++ f x ∷ []) so_far ∙ (ap (λ c. map g (take n ys) ++ c ∷ []) is ∙ sym (map_more g ys n d within))))

  pub all_mapped : (xs : List A) (ys : List B) (n : ℕ) → length ys ≤ n → map f xs ≡ map g (take n ys) → map f xs ≡ map g ys
  all_mapped xs ys n end so_far = so_far ∙ ap (map g) (take_all n ys end)
