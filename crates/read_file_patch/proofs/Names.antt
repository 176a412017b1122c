-- Names and their numbers.
use Rattle.std.proofs.Common.{◌≡◌, ℕ, ◌+◌, ◌<◌, Bool, true, false, ◌||◌, List, [], ◌∷◌, ◌++◌, map, length, get_or, None, Some, refl, sym, ap, subst, ◌∙◌, arith}
use Rattle.std.specs.Prelude.{bytes_eq, nat_lt}
use Rattle.std.specs.List.{position, position_or_len, list_any}
use Rattle.std.proofs.lemmas.Bool.{lt-ltb, le-ltb}
use Rattle.std.proofs.lemmas.List.{map-append}
use Rattle.std.proofs.lemmas.List.Folds.{list_any-append}
use Rattle.std.proofs.lemmas.List.Sums.{passes_at_first}
use Rattle.std.proofs.lemmas.Slice.Eq.{bytes_eq-Decides}
use Rattle.read_file_patch.specs.Numbered.{number_in, is_among, with_name, joined_by, distinct, numbered}

-- ---- the first place that passes a test

module _ {X : Type 0} (p : X → Bool) where
  pub place-here : (x : X) (xs : List X) → p x ≡ true → position_or_len p (x ∷ xs) ≡ 0
  place-here x xs h = rw h refl

  pub place-next : (x : X) (xs : List X) → p x ≡ false → position_or_len p (x ∷ xs) ≡ 1 + position_or_len p xs
  place-next x xs h = rw h refl

  pub any-next : (x : X) (xs : List X) → p x ≡ false → list_any p (x ∷ xs) ≡ list_any p xs
  any-next x xs h = rw h refl

  pub any-here : (x : X) (xs : List X) → p x ≡ true → list_any p (x ∷ xs) ≡ true
  any-here x xs h = rw h refl

  pub place-less : (xs : List X) → list_any p xs ≡ true → position_or_len p xs < length xs
  place-less [] h = absurd cc
  place-less (x ∷ xs) h = by (p x) refl (place-less xs)
    where
      by : (v : Bool) → p x ≡ v → (list_any p xs ≡ true → position_or_len p xs < length xs) → position_or_len p (x ∷ xs) < length (x ∷ xs)
      by true e more = omega (arith, place-here x xs e)
      by false e more = omega (arith, place-next x xs e, more (sym (any-next x xs e) ∙ h))

  pub place-end : (xs : List X) → list_any p xs ≡ false → position_or_len p xs ≡ length xs
  place-end [] h = refl
  place-end (x ∷ xs) h = by (p x) refl (place-end xs)
    where
      by : (v : Bool) → p x ≡ v → (list_any p xs ≡ false → position_or_len p xs ≡ length xs) → position_or_len p (x ∷ xs) ≡ length (x ∷ xs)
      by true e more = absurd (let both = sym (any-here x xs e) ∙ h in cc)
      by false e more = omega (arith, place-next x xs e, more (sym (any-next x xs e) ∙ h))

  -- it stays where the list grows
  pub place-kept : (xs ys : List X) → list_any p xs ≡ true → position_or_len p (xs ++ ys) ≡ position_or_len p xs
  place-kept [] ys h = absurd cc
  place-kept (x ∷ xs) ys h = by (p x) refl (place-kept xs ys)
    where
      by : (v : Bool) → p x ≡ v → (list_any p xs ≡ true → position_or_len p (xs ++ ys) ≡ position_or_len p xs) → position_or_len p (x ∷ (xs ++ ys)) ≡ position_or_len p (x ∷ xs)
      by true e more = place-here x (xs ++ ys) e ∙ sym (place-here x xs e)
      by false e more = place-next x (xs ++ ys) e ∙ ap (λ n. 1 + n) (more (sym (any-next x xs e) ∙ h)) ∙ sym (place-next x xs e)

  pub place-new : (xs : List X) (y : X) → list_any p xs ≡ false → p y ≡ true → position_or_len p (xs ++ y ∷ []) ≡ length xs
  place-new [] y h is = place-here y [] is
  place-new (x ∷ xs) y h is = by (p x) refl (place-new xs y)
    where
      by : (v : Bool) → p x ≡ v → (list_any p xs ≡ false → p y ≡ true → position_or_len p (xs ++ y ∷ []) ≡ length xs) → position_or_len p (x ∷ (xs ++ y ∷ [])) ≡ length (x ∷ xs)
      by true e more = absurd (let both = sym (any-here x xs e) ∙ h in cc)
      by false e more = place-next x (xs ++ y ∷ []) e ∙ ap (λ n. 1 + n) (more (sym (any-next x xs e) ∙ h) is) ∙ omega arith

  pub place-some : (xs : List X) → list_any p xs ≡ true → position p xs ≡ Some (position_or_len p xs)
  place-some xs h = let less : nat_lt (position_or_len p xs) (length xs) ≡ true = lt-ltb _ _ (place-less xs h) in rw less refl

  pub place-none : (xs : List X) → list_any p xs ≡ false → position p xs ≡ None
  place-none xs h =
      let past : nat_lt (position_or_len p xs) (length xs) ≡ false = le-ltb (position_or_len p xs) (length xs) (omega (arith, place-end xs h)) in
      rw past refl

-- ---- names among names

pub same-is : (name : List ℕ) → bytes_eq name name ≡ true
same-is name = (bytes_eq-Decides name name).1 refl

pub are-same : (one other : List ℕ) → bytes_eq one other ≡ true → one ≡ other
are-same one other h = (bytes_eq-Decides one other).0 h

pub numbers-below : (names : List (List ℕ)) (name : List ℕ) → is_among names name ≡ true → number_in names name < length names
numbers-below names name h = place-less (bytes_eq name) names h

found-at : (names : List (List ℕ)) (name : List ℕ) (n : ℕ) → number_in names name ≡ n → n < length names → name ≡ get_or names n []
found-at names name n is lt =
    are-same name (get_or names n []) (subst (λ k. bytes_eq name (get_or names k []) ≡ true) is (passes_at_first (bytes_eq name) names [] (omega (arith, is, lt))))

pub numbers-apart : (names : List (List ℕ)) (one other : List ℕ) → is_among names one ≡ true → number_in names one ≡ number_in names other → one ≡ other
numbers-apart names one other h same =
    let less = numbers-below names one h in
    found-at names one (number_in names one) refl less ∙ sym (found-at names other (number_in names one) (sym same) less)

pub with-there : (names : List (List ℕ)) (name : List ℕ) → is_among names name ≡ true → with_name names name ≡ names
with-there names name h = rw h refl

pub with-new : (names : List (List ℕ)) (name : List ℕ) → is_among names name ≡ false → with_name names name ≡ names ++ name ∷ []
with-new names name h = rw h refl

-- a name that is there stays, with its number
record Stays (names later : List (List ℕ)) (name : List ℕ) : Type 0 where
  pub among : is_among later name ≡ true
  pub number : number_in later name ≡ number_in names name

one-stays : (names : List (List ℕ)) (other name : List ℕ) → is_among names name ≡ true → Stays names (with_name names other) name
one-stays names other name h = by (is_among names other) refl
  where
    by : (v : Bool) → is_among names other ≡ v → Stays names (with_name names other) name
    by true e = subst (λ l. Stays names l name) (sym (with-there names other e)) (record { among = h; number = refl })
    by false e = subst (λ l. Stays names l name) (sym (with-new names other e)) (record {
      among = list_any-append (bytes_eq name) names (other ∷ []) ∙ ap (λ b. b || list_any (bytes_eq name) (other ∷ [])) h;
      number = place-kept (bytes_eq name) names (other ∷ []) h;
    })

joined-nil : (names : List (List ℕ)) → joined_by names [] ≡ names
unfolding joined_by
joined-nil names = refl

joined-more : (names : List (List ℕ)) (other : List ℕ) (others : List (List ℕ)) → joined_by names (other ∷ others) ≡ joined_by (with_name names other) others
unfolding joined_by
joined-more names other others = refl

all-stay : (names others : List (List ℕ)) (name : List ℕ) → is_among names name ≡ true → Stays names (joined_by names others) name
all-stay names [] name h = subst (λ l. Stays names l name) (sym (joined-nil names)) (record { among = h; number = refl })
all-stay names (other ∷ others) name h =
    let one = one-stays names other name h in
    let more = all-stay (with_name names other) others name one.among in
    subst (λ l. Stays names l name) (sym (joined-more names other others)) (record { among = more.among; number = more.number ∙ one.number })

pub numbers-stay : (names others : List (List ℕ)) (name : List ℕ) → is_among names name ≡ true → number_in (joined_by names others) name ≡ number_in names name
numbers-stay names others name h = (all-stay names others name h).number

pub numbers-next : (names : List (List ℕ)) (name : List ℕ) → is_among names name ≡ false → number_in (with_name names name) name ≡ length names
numbers-next names name h = ap (λ l. number_in l name) (with-new names name h) ∙ place-new (bytes_eq name) names name h (same-is name)

pub with-among : (names : List (List ℕ)) (name : List ℕ) → is_among (with_name names name) name ≡ true
with-among names name = by (is_among names name) refl
  where
    by : (v : Bool) → is_among names name ≡ v → is_among (with_name names name) name ≡ true
    by true e = ap (λ l. is_among l name) (with-there names name e) ∙ e
    by false e =
        ap (λ l. is_among l name) (with-new names name e) ∙ list_any-append (bytes_eq name) names (name ∷ [])
        ∙ ap (λ b. b || list_any (bytes_eq name) (name ∷ [])) e ∙ any-here (bytes_eq name) name [] (same-is name)

pub all-join : (names others : List (List ℕ)) (name : List ℕ) → is_among others name ≡ true → is_among (joined_by names others) name ≡ true
all-join names [] name h = absurd cc
all-join names (other ∷ others) name h =
    ap (λ l. is_among l name) (joined-more names other others) ∙ by (bytes_eq name other) refl (all-join (with_name names other) others name)
  where
    by : (v : Bool) → bytes_eq name other ≡ v → (is_among others name ≡ true → is_among (joined_by (with_name names other) others) name ≡ true) → is_among (joined_by (with_name names other) others) name ≡ true
    by true e more = (all-stay (with_name names other) others name (ap (λ l. is_among (with_name names other) l) (are-same name other e) ∙ with-among names other)).among
    by false e more = more (sym (any-next (bytes_eq name) other others e) ∙ h)

-- ---- names one after another

joined-push : (names others : List (List ℕ)) (name : List ℕ) → joined_by names (others ++ name ∷ []) ≡ with_name (joined_by names others) name
joined-push names [] name =
    joined-more names name [] ∙ joined-nil (with_name names name) ∙ ap (λ l. with_name l name) (sym (joined-nil names))
joined-push names (other ∷ others) name =
    joined-more names other (others ++ name ∷ []) ∙ joined-push (with_name names other) others name ∙ ap (λ l. with_name l name) (sym (joined-more names other others))

pub distinct-push : (names : List (List ℕ)) (name : List ℕ) → distinct (names ++ name ∷ []) ≡ with_name (distinct names) name
distinct-push names name = joined-push [] names name

-- names that are there keep their numbers
kept-numbers : (there : List (List ℕ)) (name : List ℕ) (names : List (List ℕ)) → ((y : List ℕ) → is_among names y ≡ true → is_among there y ≡ true)
    → map (number_in (with_name there name)) names ≡ map (number_in there) names
kept-numbers there name [] all = refl
kept-numbers there name (y ∷ names) all =
    let first = (one-stays there name y (all y (any-here (bytes_eq y) y names (same-is y)))).number in
    let rest = kept-numbers there name names (λ z h. all z (later z (bytes_eq z y) refl h)) in
    ap (λ n. n ∷ map (number_in (with_name there name)) names) first ∙ ap (λ l. number_in there y ∷ l) rest
  where
    later : (z : List ℕ) (v : Bool) → bytes_eq z y ≡ v → is_among names z ≡ true → is_among (y ∷ names) z ≡ true
    later z true e h = any-here (bytes_eq z) y names e
    later z false e h = any-next (bytes_eq z) y names e ∙ h

pub numbered-push : (names : List (List ℕ)) (name : List ℕ) → numbered (names ++ name ∷ []) ≡ numbered names ++ number_in (distinct (names ++ name ∷ [])) name ∷ []
numbered-push names name =
    let now = distinct (names ++ name ∷ []) in
    map-append (number_in now) names (name ∷ [])
    ∙ ap (λ l. l ++ number_in now name ∷ [])
    (ap (λ d. map (number_in d) names) (distinct-push names name) ∙ kept-numbers (distinct names) name names (λ y h. all-join [] names y h))
