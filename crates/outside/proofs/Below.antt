-- What stands below a directory, and where a name's ending stands.
use Rattle.std.proofs.Common.{◌≡◌, ◌↔◌, ℕ, zero, suc, ◌-◌, ◌<◌, ◌≤◌, List, [], ◌∷◌, ◌++◌, length, take, drop, codes, Bool, true, false, nat_eq, flat_map, refl, sym, ◌∙◌, ap, subst, arith, append_assoc, length-append, length-drop, length-take-le}
use Rattle.std.proofs.lemmas.List.{take-append-drop, take-append-le, take_all}
use Rattle.std.proofs.lemmas.List.Prefix.{end_rest}
use Rattle.std.specs.Cmp.Lexicographic.{same_text, pointwise}
use Rattle.std.proofs.lemmas.Cmp.{nat_list_eq_equiv}
use Rattle.std.specs.List.{starts_with, ends_with, join_with_byte}
use Rattle.outside.specs.Files.{is_temp}
use Rattle.outside.specs.Names.{is_slash, components, is_empty, last_of, last_component, directory_text, StandsBelow}
use Rattle.outside.proofs.Components.{Each, Free, slash_free, components_some, components_front, joined, components_behind, last_behind, ends_in_last}

-- ---- endings
ends_so : (q s : List ℕ) → ends_with nat_eq q s ≡ true → (front : List ℕ) × (q ≡ front ++ s)
ends_so q s is =
    let n = length q - length s in
    (take n q, sym (take-append-drop n q) ∙ ap (λ (l : List ℕ). take n q ++ l) (sym (same_text s (drop n q) (sym is))))

so_ends : (q s front : List ℕ) → q ≡ front ++ s → ends_with nat_eq q s ≡ true
so_ends q s front is = subst (λ (l : List ℕ). pointwise nat_eq s l ≡ true) (sym (end_rest q s front is)) (nat_list_eq_equiv.refl s)

both_ways : (a b : Bool) → (a ≡ true → b ≡ true) → (b ≡ true → a ≡ true) → a ≡ b
both_ways true b to from = sym (to refl)
both_ways false true to from = from refl
both_ways false false to from = refl

-- a text ends in what has no slash where its last component does
pub ends_last : (q s : List ℕ) → Free is_slash s → ends_with nat_eq q s ≡ ends_with nat_eq (last_component q) s
ends_last q s free = both_ways (ends_with nat_eq q s) (ends_with nat_eq (last_component q) s)
    (λ is. let x = ends_so q s is in
    so_ends (last_component q) s (last_component x.0)
    (ap (λ (l : List ℕ). last_component l) x.1 ∙ ap (λ (l : List (List ℕ)). last_of l) (components_behind x.0 s free) ∙ last_behind (components x.0) s))
    (λ is. let x = ends_so (last_component q) s is in
    let y = ends_in_last q in
    so_ends q s (y.0 ++ x.0) (y.1 ∙ ap (λ (l : List ℕ). y.0 ++ l) x.1 ∙ sym (append_assoc y.0 x.0 s)))

pub temp_last : (q : List ℕ) → is_temp q ≡ ends_with nat_eq (last_component q) (codes ".ptmp")
unfolding is_temp
temp_last q = ends_last q (codes ".ptmp") refl

pub temp_behind : (q : List ℕ) → is_temp (q ++ codes ".ptmp") ≡ true
unfolding is_temp
temp_behind q = so_ends (q ++ codes ".ptmp") (codes ".ptmp") q refl

-- ---- directories
abbrev pub front_of : List (List ℕ) → List ℕ
front_of cs = flat_map (λ c. c ++ 47 ∷ []) cs

front_more : (c : List ℕ) (cs : List (List ℕ)) (q : List ℕ) → front_of (c ∷ cs) ++ q ≡ c ++ 47 ∷ (front_of cs ++ q)
front_more c cs q = ap (λ (l : List ℕ). l ++ q) (append_assoc c (47 ∷ []) (front_of cs)) ∙ append_assoc c (47 ∷ front_of cs) q

components_below : (cs : List (List ℕ)) (q : List ℕ) → Each (Free is_slash) cs → components (front_of cs ++ q) ≡ cs ++ components q
components_below [] q each = refl
components_below (c ∷ cs) q each =
    ap (λ (l : List ℕ). components l) (front_more c cs q)
    ∙ components_front c (front_of cs ++ q) each.0
    ∙ ap (λ (l : List (List ℕ)). c ∷ l) (components_below cs q each.1)

join_below : (cs ds : List (List ℕ)) → is_empty ds ≡ false → join_with_byte 47 (cs ++ ds) ≡ front_of cs ++ join_with_byte 47 ds
join_below [] ds some = refl
join_below (c ∷ []) [] some = cc
join_below (c ∷ []) (d ∷ ds) some = sym (front_more c [] (join_with_byte 47 (d ∷ ds)))
join_below (c ∷ e ∷ cs) ds some = ap (λ (l : List ℕ). c ++ 47 ∷ l) (join_below (e ∷ cs) ds some) ∙ sym (front_more c (e ∷ cs) (join_with_byte 47 ds))

each_take : {X : Type 0} (P : X → Type 0) (n : ℕ) (xs : List X) → Each P xs → Each P (take n xs)
each_take P zero xs each = tt
each_take P (suc n) [] each = tt
each_take P (suc n) (x ∷ xs) each = (each.0, each_take P n xs each.1)

some_length : (cs : List (List ℕ)) → is_empty cs ≡ false → 0 < length cs
some_length [] some = cc
some_length (c ∷ cs) some = omega arith

length_some : (cs : List (List ℕ)) → 0 < length cs → is_empty cs ≡ false
length_some [] some = absurd (omega (arith, some))
length_some (c ∷ cs) some = refl

starts_so : (q s : List ℕ) → starts_with nat_eq q s ≡ true → (rest : List ℕ) × (q ≡ s ++ rest)
starts_so q s is =
    (drop (length s) q, sym (take-append-drop (length s) q) ∙ ap (λ (l : List ℕ). l ++ drop (length s) q) (sym (same_text s (take (length s) q) (sym is))))

so_starts : (q s rest : List ℕ) → q ≡ s ++ rest → starts_with nat_eq q s ≡ true
so_starts q s rest is = subst (λ (l : List ℕ). pointwise nat_eq s l ≡ true)
    (sym (ap (λ (l : List ℕ). take (length s) l) is ∙ take-append-le (length s) s rest (omega arith) ∙ take_all (length s) s (omega arith))) (nat_list_eq_equiv.refl s)

module _ (name file : List ℕ) (parts : ℕ) (within : parts ≤ length (components name)) where
  pub below_stands : starts_with nat_eq file (directory_text parts name) ≡ true → StandsBelow file parts name
  below_stands is =
      let x = starts_so file (directory_text parts name) is in
      let firsts : List (List ℕ) = take parts (components name) in
      let split : components file ≡ firsts ++ components x.0 = ap (λ (l : List ℕ). components l) x.1 ∙ components_below firsts x.0 (each_take (Free is_slash) parts (components name) (slash_free name)) in
      let long : length firsts ≡ parts = length-take-le parts (components name) within in
      record {
        same = ap (λ (l : List (List ℕ)). take parts l) split ∙ take-append-le parts firsts (components x.0) (omega (arith, long)) ∙ take_all parts firsts (omega (arith, long));
        more = omega (arith, ap length split, length-append firsts (components x.0), long, some_length (components x.0) (components_some x.0));
      }

  pub stands_below : StandsBelow file parts name → starts_with nat_eq file (directory_text parts name) ≡ true
  stands_below is = so_starts file (directory_text parts name) (join_with_byte 47 (drop parts (components file)))
      (sym (joined file)
      ∙ ap (λ (l : List (List ℕ)). join_with_byte 47 l) (sym (take-append-drop parts (components file)))
      ∙ join_below (take parts (components file)) (drop parts (components file)) (length_some (drop parts (components file)) (omega (arith, is.more, length-drop parts (components file))))
      ∙ ap (λ (l : List (List ℕ)). front_of l ++ join_with_byte 47 (drop parts (components file))) is.same)

  pub below : (starts_with nat_eq file (directory_text parts name) ≡ true) ↔ StandsBelow file parts name
  below = (below_stands, stands_below)
