-- The map that has the numbers of texts.
use Rattle.std.proofs.Common.{◌≡◌, ℕ, zero, suc, ◌+◌, ◌<◌, ◌≤◌, Bool, true, false, ◌||◌, cond, eqb, List, [], ◌∷◌, ◌++◌, map, length, Option, None, Some, refl, sym, ap, subst, ◌∙◌, arith, string_bytes, eq-eqb, Ordering}
use Rattle.std.specs.Prelude.{String, bytes_eq, is_some, if◌then◌else◌}
use Rattle.std.specs.List.{All, position, find, list_any, range_with_len}
use Rattle.std.specs.Option.{option_map_or}
use Rattle.std.specs.Ordering.{is_eq, nat_cmp}
use Rattle.std.specs.declared.cmp.Ordering.TheVariants.{Less, Equal, Greater}
use Rattle.std.specs.Cmp.Lexicographic.{slice_cmp}
use Rattle.std.specs.String.{string_cmp}
use Rattle.std.specs.BTreeMap.{BTreeMap, get_by_text, insert_entry, is_at, UpdatesBy}
use Rattle.std.specs.Map.{lookup, values_of}
use Rattle.std.proofs.lemmas.Bool.{false_from_ne_true, true_from_ne_false, eqb-true}
use Rattle.std.proofs.lemmas.List.Elements.{All-head, All-tail, All-nil}
use Rattle.std.proofs.lemmas.List.FromFn.{map-range_with_len_more, length-map-range_with_len}
use Rattle.std.proofs.lemmas.List.Folds.{list_any-append}
use Rattle.std.proofs.lemmas.Map.{NonePasses, none_passes_from_lookup}
use Rattle.std.proofs.lemmas.Map.Text.{btree_map_updates_text}
use Rattle.std.proofs.lemmas.Map.Views.{All-values-insert_entry}
use Rattle.read_file_patch.specs.Numbered.{number_in, is_among, with_name, text_numbered, texts, AreNumbered}
use Rattle.read_file_patch.proofs.Names.{same-is, are-same, place-some, place-none, place-kept, place-new, with-new, with-there, with-among, any-next}

-- ---- an entry more

module _ {K : Type 0} (cmp : K → K → Ordering) where
  -- the entries with other numbers are found as before
  find-other : (k : K) (v n : ℕ) (es : List (K × ℕ)) → eqb v n ≡ false → NonePasses (is_at (cmp k)) es
      → find (λ (e : K × ℕ). eqb e.1 n) (insert_entry cmp es k v) ≡ find (λ (e : K × ℕ). eqb e.1 n) es
  find-other k v n [] ne none = rw ne refl
  find-other k v n (e ∷ es) ne none = by (cmp k e.0) refl (find-other k v n es ne none.1)
    where
      test : K × ℕ → Bool
      test x = eqb x.1 n

      by : (o : Ordering) → cmp k e.0 ≡ o → find test (insert_entry cmp es k v) ≡ find test es → find test (insert_entry cmp (e ∷ es) k v) ≡ find test (e ∷ es)
      by Less is more = rw is (rw ne refl)
      by Equal is more = absurd (let x : is_eq Equal ≡ false = subst (λ o. is_eq o ≡ false) is none.0 in cc)
      by Greater is more = rw is (ap (λ o. cond (eqb e.1 n) (Some e) o) more)

  -- and that with the new one is the new entry
  find-new : (k : K) (v : ℕ) (es : List (K × ℕ)) → All (λ x. x < v) (values_of es) → NonePasses (is_at (cmp k)) es
      → find (λ (e : K × ℕ). eqb e.1 v) (insert_entry cmp es k v) ≡ Some (k, v)
  find-new k v [] below none = let same : eqb v v ≡ true = eq-eqb v v refl in rw same refl
  find-new k v (e ∷ es) below none =
      by (cmp k e.0) refl (find-new k v es (All-tail (λ x. x < v) e.1 (values_of es) below) none.1)
    where
      test : K × ℕ → Bool
      test x = eqb x.1 v

      other : eqb e.1 v ≡ false
      other = false_from_ne_true (eqb e.1 v) (λ t. omega (arith, eqb-true e.1 v t, All-head (λ x. x < v) e.1 (values_of es) below))

      same : eqb v v ≡ true
      same = eq-eqb v v refl

      by : (o : Ordering) → cmp k e.0 ≡ o → find test (insert_entry cmp es k v) ≡ Some (k, v) → find test (insert_entry cmp (e ∷ es) k v) ≡ Some (k, v)
      by Less is more = rw is (rw same refl)
      by Equal is more = absurd (let x : is_eq Equal ≡ false = subst (λ o. is_eq o ≡ false) is none.0 in cc)
      by Greater is more = rw is (rw other more)

-- ---- the texts of a map

pub no-texts : {Y : Type 0} (m : BTreeMap (String Y) ℕ) → m.entries ≡ [] → texts m ≡ []
unfolding texts
no-texts m none = ap (λ es. map (text_numbered es) (range_with_len 0 (length es))) none

count-texts : {Y : Type 0} (m : BTreeMap (String Y) ℕ) → length (texts m) ≡ length m.entries
unfolding texts
count-texts m = length-map-range_with_len (text_numbered m.entries) 0 (length m.entries)

pub none-numbered : {Y : Type 0} (m : BTreeMap (String Y) ℕ) → m.entries ≡ [] → AreNumbered m
none-numbered m none = record {
  places = λ q. ap (λ es. lookup (is_at (λ k. slice_cmp nat_cmp q (string_bytes k))) es) none ∙ ap (λ (l : List (List ℕ)). position (bytes_eq q) l) (sym (no-texts m none));
  below = subst (λ es. All (λ n. n < length es) (values_of es)) (sym none) (All-nil (λ n. n < 0));
}

module _ {Y : Type 0} (m n : BTreeMap (String Y) ℕ) (same : n.entries ≡ m.entries) where
  pub same-texts : texts n ≡ texts m
  unfolding texts
  same-texts = ap (λ es. map (text_numbered es) (range_with_len 0 (length es))) same

  pub same-numbered : AreNumbered m → AreNumbered n
  same-numbered a = record {
    places = λ q. ap (λ es. lookup (is_at (λ k. slice_cmp nat_cmp q (string_bytes k))) es) same ∙ a.places q ∙ ap (λ (l : List (List ℕ)). position (bytes_eq q) l) (sym same-texts);
    below = subst (λ es. All (λ x. x < length es) (values_of es)) (sym same) a.below;
  }

-- what is known of a text that a map has, and of one that it lacks
module _ {Y : Type 0} (m : BTreeMap (String Y) ℕ) (a : AreNumbered m) (q : List ℕ) where
  lacks : get_by_text m q ≡ None → is_among (texts m) q ≡ false
  lacks absent = false_from_ne_true (is_among (texts m) q) (λ t. let e = sym (place-some (bytes_eq q) (texts m) t) ∙ sym (a.places q) ∙ absent in cc)

  has : (i : ℕ) → get_by_text m q ≡ Some i → is_among (texts m) q ≡ true
  has i found = true_from_ne_false (is_among (texts m) q) (λ f. let e = sym (place-none (bytes_eq q) (texts m) f) ∙ sym (a.places q) ∙ found in cc)

  pub found-texts : (i : ℕ) → get_by_text m q ≡ Some i → texts m ≡ with_name (texts m) q
  found-texts i found = sym (with-there (texts m) q (has i found))

  pub found-number : (i : ℕ) → get_by_text m q ≡ Some i → i ≡ number_in (texts m) q
  found-number i found =
      let e : ◌≡◌ {A = Option ℕ} (Some i) (Some (number_in (texts m) q)) = sym found ∙ a.places q ∙ place-some (bytes_eq q) (texts m) (has i found) in cc

-- a text more
module _ {Y : Type 0} (m n : BTreeMap (String Y) ℕ) (k : String Y) (a : AreNumbered m) (absent : get_by_text m (string_bytes k) ≡ None)
    (is : n.entries ≡ insert_entry string_cmp m.entries k (length m.entries)) (long : length n.entries ≡ length m.entries + 1)
    (updates : UpdatesBy string_cmp (string_cmp k) m n (Some (length m.entries))) where
  free : NonePasses (is_at (string_cmp k)) m.entries
  free = none_passes_from_lookup (is_at (string_cmp k)) m.entries absent

  text-other : (i : ℕ) → i < length m.entries → text_numbered n.entries i ≡ text_numbered m.entries i
  text-other i lt =
      let ne : eqb (length m.entries) i ≡ false = false_from_ne_true (eqb (length m.entries) i) (λ t. omega (arith, lt, eqb-true (length m.entries) i t)) in
      ap (λ es. text_numbered es i) is ∙ ap (λ o. option_map_or (λ e. string_bytes e.0) o []) (find-other string_cmp k (length m.entries) i m.entries ne free)

  text-new : text_numbered n.entries (length m.entries) ≡ string_bytes k
  text-new = ap (λ es. text_numbered es (length m.entries)) is ∙ ap (λ o. option_map_or (λ e. string_bytes e.0) o []) (find-new string_cmp k (length m.entries) m.entries a.below free)

  texts-other : (from few : ℕ) → from + few ≤ length m.entries → map (text_numbered n.entries) (range_with_len from few) ≡ map (text_numbered m.entries) (range_with_len from few)
  texts-other from zero within = refl
  texts-other from (suc few) within =
      let rest = texts-other (from + 1) few (omega (arith, within)) in
      ap (λ x. x ∷ map (text_numbered n.entries) (range_with_len (from + 1) few)) (text-other from (omega (arith, within)))
      ∙ ap (λ l. text_numbered m.entries from ∷ l) rest

  texts-more : texts n ≡ texts m ++ string_bytes k ∷ []
  unfolding texts
  texts-more =
      let old = map (text_numbered m.entries) (range_with_len 0 (length m.entries)) in
      ap (λ c. map (text_numbered n.entries) (range_with_len 0 c)) long
      ∙ map-range_with_len_more (text_numbered n.entries) 0 (length m.entries) (length m.entries) (omega arith)
      ∙ ap (λ l. l ++ text_numbered n.entries (length m.entries) ∷ []) (texts-other 0 (length m.entries) (omega arith))
      ∙ ap (λ (t : List ℕ). old ++ t ∷ []) text-new

  unknown : is_among (texts m) (string_bytes k) ≡ false
  unknown = lacks m a (string_bytes k) absent

  pub more-texts : texts n ≡ with_name (texts m) (string_bytes k)
  more-texts = texts-more ∙ sym (with-new (texts m) (string_bytes k) unknown)

  pub more-number : length m.entries ≡ number_in (texts n) (string_bytes k)
  more-number = sym (ap (λ l. number_in l (string_bytes k)) texts-more ∙ place-new (bytes_eq (string_bytes k)) (texts m) (string_bytes k) unknown (same-is (string_bytes k)) ∙ count-texts m)

  -- what a text's number is now
  updated : (q : List ℕ) → get_by_text n q ≡ cond (bytes_eq (string_bytes k) q) (Some (length m.entries)) (get_by_text m q)
  updated q = btree_map_updates_text (string_bytes k) m n (Some (length m.entries)) updates q

  new-place : position (bytes_eq (string_bytes k)) (texts n) ≡ Some (length m.entries)
  new-place =
      let among : is_among (texts n) (string_bytes k) ≡ true = ap (λ l. is_among l (string_bytes k)) more-texts ∙ with-among (texts m) (string_bytes k) in
      place-some (bytes_eq (string_bytes k)) (texts n) among ∙ ap (λ c. Some c) (sym more-number)

  old-place : (q : List ℕ) → bytes_eq (string_bytes k) q ≡ false → position (bytes_eq q) (texts m) ≡ position (bytes_eq q) (texts n)
  old-place q e = by (is_among (texts m) q) refl ∙ ap (λ (l : List (List ℕ)). position (bytes_eq q) l) (sym texts-more)
    where
      other : bytes_eq q (string_bytes k) ≡ false
      other = false_from_ne_true (bytes_eq q (string_bytes k)) (λ t.
          let x = sym (ap (λ r. bytes_eq (string_bytes k) r) (are-same q (string_bytes k) t) ∙ same-is (string_bytes k)) ∙ e in cc)

      missing : is_among (texts m) q ≡ false → is_among (texts m ++ string_bytes k ∷ []) q ≡ false
      missing f = list_any-append (bytes_eq q) (texts m) (string_bytes k ∷ []) ∙ ap (λ b. b || list_any (bytes_eq q) (string_bytes k ∷ [])) f ∙ any-next (bytes_eq q) (string_bytes k) [] other

      kept : is_among (texts m) q ≡ true → is_among (texts m ++ string_bytes k ∷ []) q ≡ true
      kept t = list_any-append (bytes_eq q) (texts m) (string_bytes k ∷ []) ∙ ap (λ b. b || list_any (bytes_eq q) (string_bytes k ∷ [])) t

      by : (v : Bool) → is_among (texts m) q ≡ v → position (bytes_eq q) (texts m) ≡ position (bytes_eq q) (texts m ++ string_bytes k ∷ [])
      by true t = place-some (bytes_eq q) (texts m) t ∙ ap (λ c. Some c) (sym (place-kept (bytes_eq q) (texts m) (string_bytes k ∷ []) t))
          ∙ sym (place-some (bytes_eq q) (texts m ++ string_bytes k ∷ []) (kept t))
      by false f = place-none (bytes_eq q) (texts m) f ∙ sym (place-none (bytes_eq q) (texts m ++ string_bytes k ∷ []) (missing f))

  all-places : (q : List ℕ) → get_by_text n q ≡ position (bytes_eq q) (texts n)
  all-places q = by (bytes_eq (string_bytes k) q) refl
    where
      by : (v : Bool) → bytes_eq (string_bytes k) q ≡ v → get_by_text n q ≡ position (bytes_eq q) (texts n)
      by true e = updated q ∙ ap (λ b. cond b (Some (length m.entries)) (get_by_text m q)) e ∙ sym new-place ∙ ap (λ r. position (bytes_eq r) (texts n)) (are-same (string_bytes k) q e)
      by false e = updated q ∙ ap (λ b. cond b (Some (length m.entries)) (get_by_text m q)) e ∙ a.places q ∙ old-place q e

  pub more-numbered : AreNumbered n
  more-numbered = record {
    places = all-places;
    below = subst (λ es. All (λ x. x < length n.entries) (values_of es)) (sym is)
        (All-values-insert_entry string_cmp k (length m.entries) (λ x. x < length n.entries) m.entries (λ i d lt. omega (arith, a.below i d lt, long)) (omega (arith, long)));
  }

-- a map that has got a text's number
pub record Adds {Y : Type 0} (m n : BTreeMap (String Y) ℕ) (name : List ℕ) (v : ℕ) : Type 0 where
  pub numbered : AreNumbered n
  pub names : texts n ≡ with_name (texts m) name
  pub number : v ≡ number_in (texts n) name

pub adds : {Y : Type 0} (m n : BTreeMap (String Y) ℕ) (k : String Y) (name : List ℕ) (v : ℕ) (old : Option ℕ) → AreNumbered m → get_by_text m name ≡ None → string_bytes k ≡ name → v ≡ length m.entries
    → n.entries ≡ insert_entry string_cmp m.entries k v → old ≡ get_by_text m (string_bytes k) → length n.entries ≡ length m.entries + (if is_some old then 0 else 1)
    → UpdatesBy string_cmp (string_cmp k) m n (Some v) → Adds m n name v
adds m n k name v old a absent text count entries was len updates =
    let missing : get_by_text m (string_bytes k) ≡ None = ap (λ t. get_by_text m t) text ∙ absent in
    let more : length n.entries ≡ length m.entries + 1 = len ∙ ap (λ o. length m.entries + (if is_some o then 0 else 1)) (was ∙ missing) in
    let is : n.entries ≡ insert_entry string_cmp m.entries k (length m.entries) = entries ∙ ap (λ w. insert_entry string_cmp m.entries k w) count in
    let changed : UpdatesBy string_cmp (string_cmp k) m n (Some (length m.entries)) = subst (λ w. UpdatesBy string_cmp (string_cmp k) m n (Some w)) count updates in
    record {
      numbered = more-numbered m n k a missing is more changed;
      names = more-texts m n k a missing is more changed ∙ ap (λ t. with_name (texts m) t) text;
      number = count ∙ more-number m n k a missing is more changed ∙ ap (λ t. number_in (texts n) t) text;
    }
