-- Room for a name more, and a mark more.
use Rattle.std.proofs.Common.{◌≡◌, ℕ, List, Bool, true, false, ◌||◌, cond, Option, None, Some, is_some, unwrap_or, refl, sym, ◌∙◌, ap, string_bytes}
use Rattle.std.specs.Prelude.{String, bytes_eq}
use Rattle.std.specs.String.{string_cmp}
use Rattle.std.specs.BTreeMap.{BTreeMap, get_by_text, UpdatesBy}
use Rattle.std.proofs.lemmas.Bool.{false≢true, false_from_ne_true}
use Rattle.std.proofs.lemmas.Slice.Eq.{bytes_eq-Decides}
use Rattle.std.proofs.lemmas.Map.Text.{btree_map_updates_text}

turned : (a b : List ℕ) → bytes_eq a b ≡ bytes_eq b a
turned a b = by (bytes_eq a b) refl
  where
    by : (x : Bool) → bytes_eq a b ≡ x → bytes_eq a b ≡ bytes_eq b a
    by true is = is ∙ sym ((bytes_eq-Decides b a).1 (sym ((bytes_eq-Decides a b).0 is)))
    by false is = is ∙ sym (false_from_ne_true (bytes_eq b a) (λ t. false≢true (sym is ∙ (bytes_eq-Decides a b).1 (sym ((bytes_eq-Decides b a).0 t)))))

-- room changes no mark
pub roomy : {Y : Type 0} (m n : BTreeMap (String Y) Bool) (k : String Y) (q : List ℕ) → get_by_text m (string_bytes k) ≡ None → UpdatesBy string_cmp (string_cmp k) m n (Some false)
    → unwrap_or (get_by_text n q) false ≡ unwrap_or (get_by_text m q) false
roomy m n k q none updates = ap (λ (o : Option Bool). unwrap_or o false) (btree_map_updates_text (string_bytes k) m n (Some false) updates q) ∙ by (bytes_eq (string_bytes k) q) refl
  where
    by : (x : Bool) → bytes_eq (string_bytes k) q ≡ x → unwrap_or (cond x (Some false) (get_by_text m q)) false ≡ unwrap_or (get_by_text m q) false
    by true is = sym (ap (λ (o : Option Bool). unwrap_or o false) (ap (λ (t : List ℕ). get_by_text m t) (sym ((bytes_eq-Decides (string_bytes k) q).0 is)) ∙ none))
    by false is = refl

-- a name that has room needs no more
pub enough : {Y : Type 0} (m : BTreeMap (String Y) Bool) (name q : List ℕ) → is_some (get_by_text m name) ≡ true → is_some (get_by_text m q) ≡ (bytes_eq q name || is_some (get_by_text m q))
enough m name q has = by (bytes_eq q name) refl
  where
    by : (x : Bool) → bytes_eq q name ≡ x → is_some (get_by_text m q) ≡ (x || is_some (get_by_text m q))
    by true is = ap (λ (t : List ℕ). is_some (get_by_text m t)) ((bytes_eq-Decides q name).0 is) ∙ has
    by false is = refl

some_if : (b x : Bool) (was : Option Bool) → is_some (cond b (Some x) was) ≡ (b || is_some was)
some_if true x was = refl
some_if false x was = refl

-- what has room, once there is room for this name
pub roomier : (name q : List ℕ) (was now : Option Bool) → now ≡ cond (bytes_eq name q) (Some false) was → is_some now ≡ (bytes_eq q name || is_some was)
roomier name q was now is =
    ap (λ (o : Option Bool). is_some o) is
    ∙ some_if (bytes_eq name q) false was
    ∙ ap (λ b. b || is_some was) (turned name q)

-- a mark changes no room
pub same_room : {Y : Type 0} (m n : BTreeMap (String Y) Bool) (name q : List ℕ) → is_some (get_by_text m name) ≡ true → get_by_text n q ≡ cond (bytes_eq name q) (Some true) (get_by_text m q)
    → is_some (get_by_text n q) ≡ is_some (get_by_text m q)
same_room m n name q has is =
    ap (λ (o : Option Bool). is_some o) is
    ∙ some_if (bytes_eq name q) true (get_by_text m q)
    ∙ ap (λ b. b || is_some (get_by_text m q)) (turned name q)
    ∙ sym (enough m name q has)

marked_if : (b : Bool) (was : Option Bool) → unwrap_or (cond b (Some true) was) false ≡ (b || unwrap_or was false)
marked_if true was = refl
marked_if false was = refl

-- what is found at a name, once there is a mark at this one
pub marked : (name q : List ℕ) (was now : Option Bool) → now ≡ cond (bytes_eq name q) (Some true) was → unwrap_or now false ≡ (bytes_eq q name || unwrap_or was false)
marked name q was now is =
    ap (λ (o : Option Bool). unwrap_or o false) is
    ∙ marked_if (bytes_eq name q) was
    ∙ ap (λ b. b || unwrap_or was false) (turned name q)
