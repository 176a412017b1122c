-- Names that an operator gives: their normal forms, and what stands before, behind and above them.
use Rattle.std.proofs.Common.{◌≡◌, ◌⊎◌, inl, inr, ℕ, List, [], ◌∷◌, ◌++◌, length, codes, Bool, true, false, cond, not, ◌||◌, ◌==◌, filter, Option, Some, None, refl, sym, ◌∙◌, ap, subst}
use Rattle.std.specs.List.{list_any, join_with_byte}
use Rattle.std.specs.Str.{IsUtf8}
use Rattle.std.specs.Str.Lossy.{utf8_valid_len}
use Rattle.outside.specs.declared.name.NameRule.{NameRule}
use Rattle.outside.specs.declared.name.NameRule.TheVariants.{NotUtf8, Control, Empty}
use Rattle.outside.specs.Names.{is_slash, is_control, is_absolute, is_empty, is_kept, components, kept, normal_form, given_form, broken_given, IsName, IsPatchName, IsEnding, IsFront}
use Rattle.outside.proofs.Components.{Each, Free, append_free, components_free, slash_free, components_some, components_joined, joined, join_free, components_behind, onto_last, each_last, components_ahead, components_slash, each_append, glue, each_ahead, front_free, either_free}
use Rattle.outside.proofs.Lawful.{utf8_whole, each_filter, filter_kept, filter_whole, begins, kept_behind, kept_ahead, kept_any, obeys as patch_obeys}

-- that no rule is broken, rule by rule
pub record Obeys (text : List ℕ) : Type 0 where
  pub utf8 : (utf8_valid_len text == length text) ≡ true
  pub control : Free is_control text
  pub empty : is_empty (kept text) ≡ false

-- the first of the three that holds
chosen : Bool → Bool → Bool → Option NameRule
chosen a b c = cond (not a) (Some NotUtf8) (cond b (Some Control) (cond c (Some Empty) None))

chosen_none : (a b c : Bool) → chosen a b c ≡ None → (a ≡ true) × (b ≡ false) × (c ≡ false)
unfolding chosen
chosen_none false b c is = cc
chosen_none true true c is = cc
chosen_none true false true is = cc
chosen_none true false false is = (refl, refl, refl)

none_chosen : (a b c : Bool) → a ≡ true → b ≡ false → c ≡ false → chosen a b c ≡ None
unfolding chosen
none_chosen a b c p q r = simp (p, q, r)

pub obeys : (text : List ℕ) → broken_given text ≡ None → Obeys text
unfolding chosen
obeys text is =
    let x = chosen_none (utf8_valid_len text == length text) (list_any is_control text) (is_empty (kept text)) is in
    record { utf8 = x.0; control = x.1; empty = x.2 }

pub obeyed : (text : List ℕ) → Obeys text → broken_given text ≡ None
unfolding chosen
obeyed text is = none_chosen (utf8_valid_len text == length text) (list_any is_control text) (is_empty (kept text)) is.utf8 is.control is.empty

-- ---- the components of a name: all are kept but an empty one in front, which another follows

abbrev pub Kept : List (List ℕ) → Type 0
Kept cs = Each (λ c. is_kept c ≡ true) cs

abbrev pub Fits : List (List ℕ) → Type 0
Fits [] = ⊥
Fits (c ∷ cs) = Kept cs × ((is_kept c ≡ true) ⊎ ((c ≡ []) × (is_empty cs ≡ false)))

kept_fits : (cs : List (List ℕ)) → is_empty cs ≡ false → Kept cs → Fits cs
kept_fits [] some each = cc
kept_fits (c ∷ cs) some each = (each.1, inl each.0)

rooted_fits : (cs : List (List ℕ)) → is_empty cs ≡ false → Kept cs → Fits ([] ∷ cs)
rooted_fits cs some each = (each, inr (refl, some))

kept_of : (text : List ℕ) → Kept (kept text)
kept_of text = filter_kept is_kept (components text)

kept_free : (text : List ℕ) → Each (Free is_slash) (kept text)
kept_free text = each_filter is_kept (Free is_slash) (components text) (slash_free text)

kept_joined : (text : List ℕ) → is_empty (kept text) ≡ false → components (normal_form text) ≡ kept text
kept_joined text some = components_joined (kept text) some (kept_free text)

given_fits : (text : List ℕ) → is_empty (kept text) ≡ false → Fits (components (given_form text))
given_fits text some = by (is_absolute text) refl
  where
    by : (b : Bool) → is_absolute text ≡ b → Fits (components (cond b (47 ∷ normal_form text) (normal_form text)))
    by true is = subst (λ (l : List (List ℕ)). Fits ([] ∷ l)) (sym (kept_joined text some)) (rooted_fits (kept text) some (kept_of text))
    by false is = subst Fits (sym (kept_joined text some)) (kept_fits (kept text) some (kept_of text))

pub name_fits : (n : List ℕ) → IsName n → Fits (components n)
name_fits n name = subst (λ (l : List ℕ). Fits (components l)) name.normal (given_fits n (obeys n name.lawful).empty)

-- ---- a text whose components are those of names is a name

some_kept : (cs : List (List ℕ)) → is_empty cs ≡ false → Kept cs → is_empty (filter is_kept cs) ≡ false
some_kept cs some each = ap is_empty (filter_whole is_kept cs each) ∙ some

is_made : (text : List ℕ) → (cs : List (List ℕ)) → components text ≡ cs → Each (Free is_slash) cs → Fits cs → (is_empty (kept text) ≡ false) × (given_form text ≡ text)
is_made text [] is free fits = absurd fits
is_made text (c ∷ cs) is free (each, inl keeps) =
    let whole : filter is_kept (c ∷ cs) ≡ c ∷ cs = filter_whole is_kept (c ∷ cs) (keeps, each) in
    let own : text ≡ join_with_byte 47 (c ∷ cs) = sym (joined text) ∙ ap (λ (l : List (List ℕ)). join_with_byte 47 l) is in
    let relative : is_absolute text ≡ false = ap is_absolute own ∙ begins (c ∷ cs) free (keeps, each) in
    let same : normal_form text ≡ text = ap (λ (l : List (List ℕ)). join_with_byte 47 (filter is_kept l)) is ∙ ap (λ (l : List (List ℕ)). join_with_byte 47 l) whole ∙ sym own in
    (ap (λ (l : List (List ℕ)). is_empty (filter is_kept l)) is ∙ ap is_empty whole, ap (λ b. cond b (47 ∷ normal_form text) (normal_form text)) relative ∙ same)
is_made text (c ∷ cs) is free (each, inr rooted) =
    let behind : components text ≡ [] ∷ cs = is ∙ ap (λ (d : List ℕ). d ∷ cs) rooted.0 in
    let whole : filter is_kept cs ≡ cs = filter_whole is_kept cs each in
    let own : text ≡ 47 ∷ join_with_byte 47 cs = sym (joined text) ∙ ap (λ (l : List (List ℕ)). join_with_byte 47 l) behind ∙ root cs rooted.1 in
    let absolute : is_absolute text ≡ true = ap is_absolute own in
    let same : normal_form text ≡ join_with_byte 47 cs = ap (λ (l : List (List ℕ)). join_with_byte 47 (filter is_kept l)) behind ∙ ap (λ (l : List (List ℕ)). join_with_byte 47 l) whole in
    (ap (λ (l : List (List ℕ)). is_empty (filter is_kept l)) behind ∙ some_kept cs rooted.1 each, ap (λ b. cond b (47 ∷ normal_form text) (normal_form text)) absolute ∙ ap (λ (l : List ℕ). 47 ∷ l) same ∙ sym own)
  where
    root : (ds : List (List ℕ)) → is_empty ds ≡ false → join_with_byte 47 ([] ∷ ds) ≡ 47 ∷ join_with_byte 47 ds
    root [] some = cc
    root (d ∷ ds) some = refl

pub made : (text : List ℕ) → IsUtf8 text → Free is_control text → Fits (components text) → IsName text
made text utf8 control fits =
    let is = is_made text (components text) refl (slash_free text) fits in
    record { lawful = obeyed text (record { utf8 = utf8_whole text utf8; control = control; empty = is.0 }); normal = is.1 }

-- ---- the normal form of a text that an operator may give

given_free : (text : List ℕ) → Free is_control text → Free is_control (given_form text)
given_free text free = by (is_absolute text)
  where
    normal : Free is_control (normal_form text)
    normal = join_free is_control (kept text) refl (each_filter is_kept (Free is_control) (components text) (components_free is_control text free))

    by : (b : Bool) → Free is_control (cond b (47 ∷ normal_form text) (normal_form text))
    by true = either_free (is_control 47) (list_any is_control (normal_form text)) refl normal
    by false = normal

pub given_name : (text : List ℕ) → Free is_control text → is_empty (kept text) ≡ false → IsUtf8 (given_form text) → IsName (given_form text)
given_name text free some utf8 = made (given_form text) utf8 (given_free text free) (given_fits text some)

-- ---- behind and below

last_some : (c : List ℕ) (cs : List (List ℕ)) (e : List ℕ) → is_empty (onto_last (c ∷ cs) e) ≡ false
unfolding onto_last
last_some c [] e = refl
last_some c (d ∷ cs) e = refl

behind_fits : (cs : List (List ℕ)) (e : List ℕ) → Fits cs → Fits (onto_last cs e)
unfolding onto_last
behind_fits [] e fits = absurd fits
behind_fits (c ∷ []) e (each, inl keeps) = (tt, inl (kept_behind c e keeps))
behind_fits (c ∷ []) e (each, inr rooted) = cc (rooted.1)
behind_fits (c ∷ d ∷ cs) e (each, inl keeps) = (each_last (λ x. is_kept x ≡ true) (d ∷ cs) e (λ x h. kept_behind x e h) refl each, inl keeps)
behind_fits (c ∷ d ∷ cs) e (each, inr rooted) = (each_last (λ x. is_kept x ≡ true) (d ∷ cs) e (λ x h. kept_behind x e h) refl each, inr (rooted.0, last_some d cs e))

-- with an ending it is a name
pub name_behind : (n e : List ℕ) → IsName n → IsEnding e → IsUtf8 (n ++ e) → IsName (n ++ e)
name_behind n e name ending utf8 = made (n ++ e) utf8 (append_free is_control n e (obeys n name.lawful).control ending.no_control)
    (subst Fits (sym (components_behind n e ending.no_slash)) (behind_fits (components n) e (name_fits n name)))

-- a name that isn't absolute has no empty component
relative_kept : (n : List ℕ) → IsName n → is_absolute n ≡ false → Kept (components n)
relative_kept n name relative =
    let same : normal_form n ≡ n = ap (λ b. cond b (47 ∷ normal_form n) (normal_form n)) (sym relative) ∙ name.normal in
    subst Kept (sym (kept_joined n (obeys n name.lawful).empty) ∙ ap components same) (kept_of n)

some_append : (cs ds : List (List ℕ)) → is_empty cs ≡ false → is_empty (cs ++ ds) ≡ false
some_append [] ds some = cc
some_append (c ∷ cs) ds some = refl

below_fits : (cs ds : List (List ℕ)) → Fits cs → Kept ds → Fits (cs ++ ds)
below_fits [] ds fits each = absurd fits
below_fits (c ∷ cs) ds (own, inl keeps) each = (each_append (λ x. is_kept x ≡ true) cs ds own each, inl keeps)
below_fits (c ∷ cs) ds (own, inr rooted) each = (each_append (λ x. is_kept x ≡ true) cs ds own each, inr (rooted.0, some_append cs ds rooted.1))

-- below a directory it is a name, where it isn't absolute
pub name_below : (d n : List ℕ) → IsName d → IsName n → is_absolute n ≡ false → IsUtf8 (d ++ 47 ∷ n) → IsName (d ++ 47 ∷ n)
name_below d n directory name relative utf8 =
    made (d ++ 47 ∷ n) utf8 (append_free is_control d (47 ∷ n) (obeys d directory.lawful).control (obeys n name.lawful).control)
    (subst Fits (sym (components_slash d n)) (below_fits (components d) (components n) (name_fits d directory) (relative_kept n name relative)))

-- ---- ahead

-- a component is kept
abbrev HasKept : List (List ℕ) → Type 0
HasKept cs = list_any is_kept cs ≡ true

either_true : (a b : Bool) → b ≡ true → (a || b) ≡ true
either_true true b is = refl
either_true false b is = is

fits_kept : (cs : List (List ℕ)) → Fits cs → HasKept cs
fits_kept [] fits = absurd fits
fits_kept (c ∷ cs) (each, inl keeps) = ap (λ b. b || list_any is_kept cs) keeps
fits_kept (c ∷ []) (each, inr rooted) = cc (rooted.1)
fits_kept (c ∷ d ∷ cs) (each, inr rooted) = either_true (is_kept c) (is_kept d || list_any is_kept cs) (ap (λ b. b || list_any is_kept cs) each.0)

ahead_kept : (fs ds : List (List ℕ)) → Fits ds → HasKept (glue fs ds)
unfolding glue
ahead_kept [] ds fits = fits_kept ds fits
ahead_kept (c ∷ []) [] fits = absurd fits
ahead_kept (c ∷ []) (d ∷ ds) (each, inl keeps) = ap (λ b. b || list_any is_kept ds) (kept_ahead c d keeps)
ahead_kept (c ∷ []) (d ∷ []) (each, inr rooted) = cc (rooted.1)
ahead_kept (c ∷ []) (d ∷ e ∷ ds) (each, inr rooted) = either_true (is_kept (c ++ d)) (is_kept e || list_any is_kept ds) (ap (λ b. b || list_any is_kept ds) each.0)
ahead_kept (c ∷ e ∷ cs) ds fits = either_true (is_kept c) (list_any is_kept (glue (e ∷ cs) ds)) (ahead_kept (e ∷ cs) ds fits)

-- the normal form with a front is a name
pub name_ahead : (f n : List ℕ) → IsFront f → IsName n → IsUtf8 (given_form (f ++ n)) → IsName (given_form (f ++ n))
name_ahead f n front name utf8 = given_name (f ++ n)
    (append_free is_control f n (front_free is_control f (codes "x") (obeys (f ++ codes "x") front.lawful).control) (obeys n name.lawful).control)
    (kept_any (components (f ++ n)) ∙ ap not (ap (λ (l : List (List ℕ)). list_any is_kept l) (components_ahead f n) ∙ ahead_kept (components f) (components n) (name_fits n name))) utf8

glue_some : (fs ds : List (List ℕ)) → is_empty ds ≡ false → is_empty (glue fs ds) ≡ false
unfolding glue
glue_some [] ds some = some
glue_some (c ∷ []) [] some = cc
glue_some (c ∷ []) (d ∷ ds) some = refl
glue_some (c ∷ e ∷ cs) ds some = refl

kept_rest : (fs ds : List (List ℕ)) → is_empty ds ≡ false → Kept (glue fs (codes "x" ∷ [])) → Kept ds → Kept (glue fs ds)
kept_rest fs ds some own each = each_ahead (λ c. is_kept c ≡ true) fs ds (codes "x") kept_ahead some own each

kept_glue : (fs ds : List (List ℕ)) → is_empty ds ≡ false → Fits (glue fs (codes "x" ∷ [])) → Kept ds → Fits (glue fs ds)
unfolding glue
kept_glue [] ds some fits each = kept_fits ds some each
kept_glue (c ∷ []) [] some fits each = cc
kept_glue (c ∷ []) (d ∷ ds) some fits each = (each.1, inl (kept_ahead c d each.0))
kept_glue (c ∷ e ∷ cs) ds some (own, inl keeps) each = (kept_rest (e ∷ cs) ds some own each, inl keeps)
kept_glue (c ∷ e ∷ cs) ds some (own, inr rooted) each = (kept_rest (e ∷ cs) ds some own each, inr (rooted.0, glue_some (e ∷ cs) ds some))

-- a front changes nothing in a name that isn't absolute
pub front_stays : (f n : List ℕ) → IsFront f → IsName n → is_absolute n ≡ false → given_form (f ++ n) ≡ f ++ n
front_stays f n front name relative =
    let parts = subst Fits (components_ahead f (codes "x")) (name_fits (f ++ codes "x") front) in
    let fits = subst Fits (sym (components_ahead f n)) (kept_glue (components f) (components n) (components_some n) parts (relative_kept n name relative)) in
    (is_made (f ++ n) (components (f ++ n)) refl (slash_free (f ++ n)) fits).1

-- ---- names that a patch gives

pub patch_relative : (n : List ℕ) → IsPatchName n → is_absolute n ≡ false
patch_relative n name = (patch_obeys n name.lawful).absolute

-- one that a patch may give is one that an operator may give
pub patch_name : (n : List ℕ) → IsPatchName n → IsName n
patch_name n name =
    let rules = patch_obeys n name.lawful in
    record {
      lawful = obeyed n (record { utf8 = rules.utf8; control = rules.control; empty = rules.empty });
      normal = ap (λ b. cond b (47 ∷ normal_form n) (normal_form n)) rules.absolute ∙ name.normal;
    }

-- what a slash is put before
pub rooted : (text kept whole : List ℕ) → kept ≡ normal_form text → is_absolute text ≡ true → whole ≡ 47 ∷ kept → whole ≡ given_form text
rooted text kept whole has absolute is = is ∙ ap (λ (l : List ℕ). 47 ∷ l) has ∙ ap (λ b. cond b (47 ∷ normal_form text) (normal_form text)) (sym absolute)

-- ---- each rule, where those before it are kept
pub given_utf8 : (text : List ℕ) → (utf8_valid_len text == length text) ≡ false → Some NotUtf8 ≡ broken_given text
given_utf8 text a = rw a refl

pub given_control : (text : List ℕ) → IsUtf8 text → list_any is_control text ≡ true → Some Control ≡ broken_given text
given_control text utf8 b = let a = utf8_whole text utf8 in rw (a, b) refl

pub given_empty : (text : List ℕ) → IsUtf8 text → list_any is_control text ≡ false → list_any is_kept (components text) ≡ false → Some Empty ≡ broken_given text
given_empty text utf8 b c = let a = utf8_whole text utf8 in let d = kept_any (components text) in rw (a, b, d, c) refl

pub given_none : (text : List ℕ) → IsUtf8 text → list_any is_control text ≡ false → list_any is_kept (components text) ≡ true → None ≡ broken_given text
given_none text utf8 b c = let a = utf8_whole text utf8 in let d = kept_any (components text) in rw (a, b, d, c) refl
