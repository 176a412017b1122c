-- A text and its components.
use Rattle.std.proofs.Common.{◌≡◌, ℕ, List, [], ◌∷◌, ◌++◌, Bool, true, false, cond, ◌||◌, refl, sym, ◌∙◌, ap, append_assoc}
use Rattle.std.proofs.lemmas.List.{append-nil}
use Rattle.std.proofs.lemmas.List.Elements.{All-from_recursion}
use Rattle.std.proofs.lemmas.List.Splits.{slice_split_none, slice_split_at, join_with_byte-slice_split}
use Rattle.std.specs.List.{All, onto_first, list_any, join_with_byte}
use Rattle.outside.specs.Names.{is_slash, components, is_empty, last_of, last_component}

-- each has it
abbrev pub Each : {X : Type 0} → (X → Type 0) → List X → Type 0
Each P [] = Unit {0}
Each P (x ∷ xs) = P x × Each P xs

pub neither : (a b : Bool) → (a || b) ≡ false → (a ≡ false) × (b ≡ false)
neither true b is = cc
neither false b is = (refl, is)

pub either_free : (a b : Bool) → a ≡ false → b ≡ false → (a || b) ≡ false
either_free true b x y = x
either_free false b x y = y

-- no element passes the test
abbrev pub Free : (ℕ → Bool) → List ℕ → Type 0
Free p c = list_any p c ≡ false

free_each : (p : ℕ → Bool) (c : List ℕ) → Free p c → Each (λ x. p x ≡ false) c
free_each p [] is = tt
free_each p (x ∷ xs) is = let both = neither (p x) (list_any p xs) is in (both.0, free_each p xs both.1)

free_all : (p : ℕ → Bool) (c : List ℕ) → Free p c → All (λ x. p x ≡ false) c
free_all p c is = All-from_recursion (λ x. p x ≡ false) c (free_each p c is)

-- ---- the components of a text
first_free : (p : ℕ → Bool) (x : ℕ) (cs : List (List ℕ)) → p x ≡ false → Each (Free p) cs → Each (Free p) (onto_first x cs)
first_free p x [] is each = (either_free (p x) false is refl, tt)
first_free p x (c ∷ cs) is each = (either_free (p x) (list_any p c) is each.0, each.1)

-- a test that no element of the text passes is passed by none of a component
pub components_free : (p : ℕ → Bool) (q : List ℕ) → Free p q → Each (Free p) (components q)
components_free p [] is = (refl, tt)
components_free p (x ∷ xs) is =
    let both = neither (p x) (list_any p xs) is in
    let rest = components_free p xs both.1 in
    elim (is_slash x) as (λ b. Each (Free p) (cond b ([] ∷ components xs) (onto_first x (components xs)))) [
      | true ↦ (refl, rest)
      | false ↦ first_free p x (components xs) both.0 rest
    ]

-- no component has a slash
pub slash_free : (q : List ℕ) → Each (Free is_slash) (components q)
slash_free [] = (refl, tt)
slash_free (x ∷ xs) = elim (is_slash x) as (λ b. is_slash x ≡ b → Each (Free is_slash) (cond b ([] ∷ components xs) (onto_first x (components xs)))) [
  | true ↦ λ is. (refl, slash_free xs)
  | false ↦ λ is. first_free is_slash x (components xs) is (slash_free xs)
] refl

first_some : (x : ℕ) (cs : List (List ℕ)) → is_empty (onto_first x cs) ≡ false
first_some x [] = refl
first_some x (c ∷ cs) = refl

-- there is one at least
pub components_some : (q : List ℕ) → is_empty (components q) ≡ false
components_some [] = refl
components_some (x ∷ xs) = elim (is_slash x) as (λ b. is_empty (cond b ([] ∷ components xs) (onto_first x (components xs))) ≡ false) [
  | true ↦ refl
  | false ↦ first_some x (components xs)
]

pub components_front : (c q : List ℕ) → Free is_slash c → components (c ++ 47 ∷ q) ≡ c ∷ components q
components_front c q free = slice_split_at is_slash c 47 q (free_all is_slash c free) refl

pub components_one : (c : List ℕ) → Free is_slash c → components c ≡ c ∷ []
components_one c free = slice_split_none is_slash c (free_all is_slash c free)

-- components that are joined are found again
pub components_joined : (cs : List (List ℕ)) → is_empty cs ≡ false → Each (Free is_slash) cs → components (join_with_byte 47 cs) ≡ cs
components_joined [] some each = cc
components_joined (c ∷ []) some each = components_one c each.0
components_joined (c ∷ d ∷ cs) some each = components_front c (join_with_byte 47 (d ∷ cs)) each.0 ∙ ap (λ (l : List (List ℕ)). c ∷ l) (components_joined (d ∷ cs) refl each.1)

pub joined : (q : List ℕ) → join_with_byte 47 (components q) ≡ q
joined q = join_with_byte-slice_split 47 q

pub append_free : (p : ℕ → Bool) (c d : List ℕ) → Free p c → Free p d → Free p (c ++ d)
append_free p [] d x y = y
append_free p (e ∷ c) d x y = let both = neither (p e) (list_any p c) x in either_free (p e) (list_any p (c ++ d)) both.0 (append_free p c d both.1 y)

pub join_free : (p : ℕ → Bool) (cs : List (List ℕ)) → p 47 ≡ false → Each (Free p) cs → Free p (join_with_byte 47 cs)
join_free p [] is each = refl
join_free p (c ∷ []) is each = each.0
join_free p (c ∷ d ∷ cs) is each = append_free p c (47 ∷ join_with_byte 47 (d ∷ cs)) each.0 (either_free (p 47) (list_any p (join_with_byte 47 (d ∷ cs))) is (join_free p (d ∷ cs) is each.1))

-- ---- the last component
unfoldable pub onto_last : List (List ℕ) → List ℕ → List (List ℕ)
onto_last [] s = s ∷ []
onto_last (c ∷ []) s = (c ++ s) ∷ []
onto_last (c ∷ d ∷ cs) s = c ∷ onto_last (d ∷ cs) s

first_last : (x : ℕ) (cs : List (List ℕ)) (s : List ℕ) → is_empty cs ≡ false → onto_first x (onto_last cs s) ≡ onto_last (onto_first x cs) s
unfolding onto_last
first_last x [] s some = cc
first_last x (c ∷ []) s some = refl
first_last x (c ∷ d ∷ cs) s some = refl

none_last : (cs : List (List ℕ)) (s : List ℕ) → is_empty cs ≡ false → [] ∷ onto_last cs s ≡ onto_last ([] ∷ cs) s
unfolding onto_last
none_last [] s some = cc
none_last (c ∷ cs) s some = refl

-- what has no slash goes on from the last component
pub components_behind : (q s : List ℕ) → Free is_slash s → components (q ++ s) ≡ onto_last (components q) s
unfolding onto_last
components_behind [] s free = components_one s free
components_behind (x ∷ xs) s free = elim (is_slash x) as (λ b. cond b ([] ∷ components (xs ++ s)) (onto_first x (components (xs ++ s))) ≡ onto_last (cond b ([] ∷ components xs) (onto_first x (components xs))) s) [
  | true ↦ ap (λ (l : List (List ℕ)). [] ∷ l) (components_behind xs s free) ∙ none_last (components xs) s (components_some xs)
  | false ↦ ap (λ (l : List (List ℕ)). onto_first x l) (components_behind xs s free) ∙ first_last x (components xs) s (components_some xs)
]

pub last_behind : (cs : List (List ℕ)) (s : List ℕ) → last_of (onto_last cs s) ≡ last_of cs ++ s
unfolding onto_last
last_behind [] s = refl
last_behind (c ∷ []) s = refl
last_behind (c ∷ d ∷ []) s = refl
last_behind (c ∷ d ∷ e ∷ cs) s = last_behind (d ∷ e ∷ cs) s

join_last : (cs : List (List ℕ)) → (front : List ℕ) × (join_with_byte 47 cs ≡ front ++ last_of cs)
join_last [] = ([], refl)
join_last (c ∷ []) = ([], refl)
join_last (c ∷ d ∷ cs) = let rest = join_last (d ∷ cs) in (c ++ 47 ∷ rest.0, ap (λ (l : List ℕ). c ++ 47 ∷ l) rest.1 ∙ sym (append_assoc c (47 ∷ rest.0) (last_of (d ∷ cs))))

-- a text ends in its last component
pub ends_in_last : (q : List ℕ) → (front : List ℕ) × (q ≡ front ++ last_component q)
ends_in_last q = let last = join_last (components q) in (last.0, sym (joined q) ∙ last.1)

pub each_last : (P : List ℕ → Type 0) (cs : List (List ℕ)) (s : List ℕ) → ((c : List ℕ) → P c → P (c ++ s)) → is_empty cs ≡ false → Each P cs → Each P (onto_last cs s)
unfolding onto_last
each_last P [] s more some each = cc
each_last P (c ∷ []) s more some each = (more c each.0, tt)
each_last P (c ∷ d ∷ cs) s more some each = (each.0, each_last P (d ∷ cs) s more refl each.1)

-- ---- two texts in a row
unfoldable pub glue : List (List ℕ) → List (List ℕ) → List (List ℕ)
glue [] ds = ds
glue (c ∷ []) [] = c ∷ []
glue (c ∷ []) (d ∷ ds) = (c ++ d) ∷ ds
glue (c ∷ e ∷ cs) ds = c ∷ glue (e ∷ cs) ds

glue_none : (ds : List (List ℕ)) → is_empty ds ≡ false → ds ≡ glue ([] ∷ []) ds
unfolding glue
glue_none [] some = cc
glue_none (d ∷ ds) some = refl

glue_more : (cs ds : List (List ℕ)) → is_empty cs ≡ false → [] ∷ glue cs ds ≡ glue ([] ∷ cs) ds
unfolding glue
glue_more [] ds some = cc
glue_more (c ∷ cs) ds some = refl

glue_first : (x : ℕ) (cs ds : List (List ℕ)) → is_empty cs ≡ false → onto_first x (glue cs ds) ≡ glue (onto_first x cs) ds
unfolding glue
glue_first x [] ds some = cc
glue_first x (c ∷ []) [] some = refl
glue_first x (c ∷ []) (d ∷ ds) some = refl
glue_first x (c ∷ e ∷ cs) ds some = refl

-- the last component of the first text and the first of the second become one
pub components_ahead : (q r : List ℕ) → components (q ++ r) ≡ glue (components q) (components r)
components_ahead [] r = glue_none (components r) (components_some r)
components_ahead (x ∷ xs) r = elim (is_slash x) as (λ b. cond b ([] ∷ components (xs ++ r)) (onto_first x (components (xs ++ r))) ≡ glue (cond b ([] ∷ components xs) (onto_first x (components xs))) (components r)) [
  | true ↦ ap (λ (l : List (List ℕ)). [] ∷ l) (components_ahead xs r) ∙ glue_more (components xs) (components r) (components_some xs)
  | false ↦ ap (λ (l : List (List ℕ)). onto_first x l) (components_ahead xs r) ∙ glue_first x (components xs) (components r) (components_some xs)
]

glue_slash : (cs ds : List (List ℕ)) → is_empty cs ≡ false → glue cs ([] ∷ ds) ≡ cs ++ ds
unfolding glue
glue_slash [] ds some = cc
glue_slash (c ∷ []) ds some = ap (λ (l : List ℕ). l ∷ ds) (append-nil c)
glue_slash (c ∷ e ∷ cs) ds some = ap (λ (l : List (List ℕ)). c ∷ l) (glue_slash (e ∷ cs) ds refl)

pub components_slash : (q r : List ℕ) → components (q ++ 47 ∷ r) ≡ components q ++ components r
components_slash q r = components_ahead q (47 ∷ r) ∙ glue_slash (components q) (components r) (components_some q)

pub each_append : {X : Type 0} (P : X → Type 0) (xs ys : List X) → Each P xs → Each P ys → Each P (xs ++ ys)
each_append P [] ys a b = b
each_append P (x ∷ xs) ys a b = (a.0, each_append P xs ys a.1 b)

-- what holds of each component of a text holds of each where another text takes the place of its end
pub each_ahead : (P : List ℕ → Type 0) (fs ds : List (List ℕ)) (x : List ℕ) → ((c d : List ℕ) → P d → P (c ++ d)) → is_empty ds ≡ false → Each P (glue fs (x ∷ [])) → Each P ds → Each P (glue fs ds)
unfolding glue
each_ahead P [] ds x ahead some a b = b
each_ahead P (c ∷ []) [] x ahead some a b = cc
each_ahead P (c ∷ []) (d ∷ ds) x ahead some a b = (ahead c d b.0, b.1)
each_ahead P (c ∷ e ∷ cs) ds x ahead some a b = (a.0, each_ahead P (e ∷ cs) ds x ahead some a.1 b)

pub front_free : (p : ℕ → Bool) (c d : List ℕ) → Free p (c ++ d) → Free p c
front_free p [] d is = refl
front_free p (e ∷ c) d is = let both = neither (p e) (list_any p (c ++ d)) is in either_free (p e) (list_any p c) both.0 (front_free p c d both.1)
