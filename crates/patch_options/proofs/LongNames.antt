-- Words with whole names.
use Rattle.std.proofs.Common.{◌≡◌, ◌≢◌, ◌⊎◌, ◌∙◌, ◌==◌, ◌&&◌, ◌||◌, ◌+◌, ◌-◌, ◌++◌, ◌<◌, ◌≤◌, ℕ, zero, suc, Bool, true, false, not, List, [], ◌∷◌, Option, Some, None, ap, arith, bytes_eq, codes, cond, drop, flat_map, get_or, if◌then◌else◌, length, map, refl, sym, take, inl, inr, option_and_then, unwrap_or}
use Rattle.std.specs.Borrow.{Bor}
use Rattle.std.specs.List.{filter, list_any, position, position_or_len}
use Rattle.std.proofs.lemmas.Bool.{true≢false}
use Rattle.std.proofs.lemmas.List.{length-drop, take_all, at_drop_more, at_drop_all, append_assoc, append-nil}
use Rattle.std.proofs.lemmas.Bool.Decides.{nat_tests}
use Rattle.std.proofs.lemmas.Grind.{common_steps}
use Rattle.std.proofs.lemmas.Option.{none-some, same_Some}
use Rattle.std.proofs.lemmas.List.Concat.{flat_map-cons}
use Rattle.std.proofs.lemmas.List.Quantifiers.{position-Some}
use Rattle.std.proofs.lemmas.List.Sums.{fails_before_first}
use Rattle.clap.specs.Words.{Text}
use Rattle.clap.proofs.CutLemmas.{Lacks}
use Rattle.clap.proofs.LexerLemmas.{name_and_value-at, name_and_value-without}
use Rattle.clap.specs.Lexer.{long_of, long_of_rest, name_and_value, strip_byte}
use Rattle.patch_options.specs.Forms.{is_front}
use Rattle.patch_options.specs.Simple.{PlainWord, plain_word, plain_table}
use Rattle.patch_options.specs.Table.{text_of}
use Rattle.patch_options.specs.Whole.{AreWhole, HasWhole, long_name, long_names, sole, spelled, whole_by, whole_in, whole_name, whole_word, whole_words}
use Rattle.patch_options.specs.declared.simple.Group.{Group}
use Rattle.patch_options.specs.declared.simple.Word.{Word}

-- ---- the only element that passes a test

module _ {X Y : Type 0} (p : Y → Bool) (f : X → Y) where
  passed : (x : X) (xs : List X) → p (f x) ≡ true → filter p (map f (x ∷ xs)) ≡ f x ∷ filter p (map f xs)
  passed x xs is = ap (λ b. cond b (f x ∷ filter p (map f xs)) (filter p (map f xs))) is

  failed : (x : X) (xs : List X) → p (f x) ≡ false → filter p (map f (x ∷ xs)) ≡ filter p (map f xs)
  failed x xs none = ap (λ b. cond b (f x ∷ filter p (map f xs)) (filter p (map f xs))) none

  -- none passes
  none_passes : (xs : List X) (d : X) → ((k : ℕ) → k < length xs → p (f (get_or xs k d)) ≡ false) → filter p (map f xs) ≡ []
  none_passes [] d h = refl
  none_passes (x ∷ xs) d h = failed x xs (h 0 (omega arith)) ∙ none_passes xs d (λ k lt. h (suc k) (omega (arith, lt)))

  none_any : (xs : List X) → list_any (λ x. p (f x)) xs ≡ false → filter p (map f xs) ≡ []
  none_any [] h = refl
  none_any (x ∷ xs) h = go (p (f x)) refl (none_any xs)
    where
      go : (b : Bool) → p (f x) ≡ b → (list_any (λ x. p (f x)) xs ≡ false → filter p (map f xs) ≡ []) → filter p (map f (x ∷ xs)) ≡ []
      go true is more = absurd (true≢false (sym (ap (λ b. b || list_any (λ x. p (f x)) xs) is) ∙ h))
      go false is more = failed x xs is ∙ more (sym (ap (λ b. b || list_any (λ x. p (f x)) xs) is) ∙ h)

  -- what stands in front fails, and then one passes
  from_first : (xs : List X) (n : ℕ) (d : X) → n < length xs → p (f (get_or xs n d)) ≡ true → ((k : ℕ) → k < n → p (f (get_or xs k d)) ≡ false)
      → filter p (map f xs) ≡ f (get_or xs n d) ∷ filter p (map f (drop (n + 1) xs))
  from_first [] n d within is before = absurd (omega (arith, within))
  from_first (x ∷ xs) zero d within is before = passed x xs is
  from_first (x ∷ xs) (suc n) d within is before =
      let same : suc (n + 1) ≡ suc n + 1 = omega arith in
      failed x xs (before 0 (omega arith)) ∙ (from_first xs n d (omega (arith, within)) is (λ k lt. before (suc k) (omega (arith, lt)))
      ∙ ap (λ m. f (get_or xs n d) ∷ filter p (map f (drop m (x ∷ xs)))) same)

module _ (p : Text → Bool) where
  abbrev pub passing : List (Bor Text) → List Text
  passing names = filter p (map (λ n. n.now) names)

  abbrev pub is_one : List (Bor Text) → Bool
  is_one names = list_any (λ n. p n.now) names

  sole_more : (text : Text) (names : List (Bor Text)) → is_one names ≡ true → sole (text ∷ passing names) ≡ None
  sole_more text [] h = cc
  sole_more text (x ∷ xs) h = go (p x.now) refl (sole_more text xs)
    where
      go : (b : Bool) → p x.now ≡ b → (is_one xs ≡ true → sole (text ∷ passing xs) ≡ None) → sole (text ∷ passing (x ∷ xs)) ≡ None
      go true is more = ap (λ l. sole (text ∷ l)) (passed p (λ n. n.now) x xs is)
      go false is more = ap (λ l. sole (text ∷ l)) (failed p (λ n. n.now) x xs is) ∙ more (sym (ap (λ b. b || is_one xs) is) ∙ h)

  pub no_first : (names : List (Bor Text)) → None ≡ position (λ n. p n.now) names → None ≡ sole (passing names)
  no_first names none =
      let past : length names ≤ position_or_len (λ n. p n.now) names = grind (arith, common_steps) in
      let d : Bor Text = record { ref_ptr = (0, 0); now = [] } in
      sym (ap sole (none_passes p (λ n. n.now) names d (λ k lt. fails_before_first (λ n. p n.now) names k d (omega (arith, lt, past)))))

  module _ (names : List (Bor Text)) (n : ℕ) (d : Bor Text) (is : Some n ≡ position (λ n. p n.now) names) where
    from_here : passing names ≡ (get_or names n d).now ∷ passing (drop (n + 1) names)
    from_here = let at = position-Some (λ n. p n.now) names n d (sym is) in from_first p (λ n. n.now) names n d at.0 at.1 at.2

    behind_is : take (length names - (n + 1)) (drop (n + 1) names) ≡ drop (n + 1) names
    behind_is = take_all (length names - (n + 1)) (drop (n + 1) names) (omega (arith, length-drop (n + 1) names))

    pub one_first : is_one (take (length names - (n + 1)) (drop (n + 1) names)) ≡ false → Some (get_or names n d).now ≡ sole (passing names)
    one_first none = sym (ap sole (from_here ∙ ap (λ l. (get_or names n d).now ∷ l) (none_any p (λ n. n.now) (drop (n + 1) names) (ap is_one (sym behind_is) ∙ none))))

    pub more_first : is_one (take (length names - (n + 1)) (drop (n + 1) names)) ≡ true → None ≡ sole (passing names)
    more_first more = sym (ap sole from_here ∙ sole_more (get_or names n d).now (drop (n + 1) names) (ap is_one (sym behind_is) ∙ more))

-- ---- the long names of a table

abbrev pub word_names : Word → List Text
word_names w = long_name (plain_word w)

abbrev pub group_names : Group → List Text
group_names g = flat_map word_names g.words.now

then_others : (words others : List Word) → flat_map word_names words ++ flat_map long_name (map plain_word others) ≡ flat_map long_name (map plain_word (words ++ others))
then_others [] others = refl
then_others (w ∷ ws) others =
    ap (λ l. l ++ flat_map long_name (map plain_word others)) (flat_map-cons word_names w ws)
    ∙ (append_assoc (word_names w) (flat_map word_names ws) (flat_map long_name (map plain_word others))
    ∙ (ap (λ l. word_names w ++ l) (then_others ws others) ∙ sym (flat_map-cons long_name (plain_word w) (map plain_word (ws ++ others)))))

pub by_groups : (groups : List Group) → flat_map group_names groups ≡ flat_map long_name (plain_table groups)
by_groups [] = refl
by_groups (g ∷ gs) =
    flat_map-cons group_names g gs
    ∙ (ap (λ l. group_names g ++ l) (by_groups gs)
    ∙ (then_others g.words.now (flat_map (λ h. h.words.now) gs)
    ∙ ap (λ ws. flat_map long_name (map plain_word ws)) (sym (flat_map-cons (λ h. h.words.now) g gs))))

names_begin : (groups : List Group) → codes "help" ∷ codes "version" ∷ flat_map group_names groups ≡ long_names (plain_table groups)
unfolding long_names
names_begin groups = ap (λ l. codes "help" ∷ codes "version" ∷ l) (by_groups groups)

pub names_pushed : (groups : List Group) (none one two : List (Bor Text)) (help version : Bor Text) → none ≡ [] → one ≡ none ++ help ∷ [] → two ≡ one ++ version ∷ []
    → help.now ≡ codes "help" → version.now ≡ codes "version" → map (λ n. n.now) two ++ flat_map group_names groups ≡ long_names (plain_table groups)
names_pushed groups none one two help version none-is one-is two-is help-is version-is =
    ap (λ l. map (λ n. n.now) l ++ flat_map group_names groups) (two-is ∙ ap (λ l. l ++ version ∷ []) (one-is ∙ ap (λ l. l ++ help ∷ []) none-is))
    ∙ (ap (λ t. t ∷ version.now ∷ flat_map group_names groups) help-is ∙ (ap (λ t. codes "help" ∷ t ∷ flat_map group_names groups) version-is ∙ names_begin groups))

-- ---- word by word

-- words that are left, with whole names as long as there was no `--`
abbrev pub left_in : Bool → List Text → List Text → List Text
left_in true names words = whole_in names words
left_in false names words = words

abbrev pub next_in : Bool → List Text → Text → Text
next_in is_open names word = if is_open then whole_word names word else word

one_left : (names : List Text) (word : Text) (words : List Text) (was is_end : Bool) → bytes_eq word (codes "--") ≡ is_end
    → left_in was names (word ∷ words) ≡ next_in (was && not is_end) names word ∷ left_in (was && not is_end) names words
one_left names word words true true is = ap (λ (b : Bool). if b then word ∷ words else whole_word names word ∷ whole_in names words) is
one_left names word words true false is = ap (λ (b : Bool). if b then word ∷ words else whole_word names word ∷ whole_in names words) is
one_left names word words false is_end is = refl

module _ {S : Type 0} (text : S → Text) (names : List Text) (words : List S) (n : ℕ) where
  pub word_left : (word : S) (done new whole : List Text) (next : Text) (was now : Bool) → n < length words
      → now ≡ (was && not (bytes_eq (text (get_or words n word)) (codes "--"))) → next ≡ next_in now names (text (get_or words n word)) → new ≡ done ++ next ∷ []
      → done ++ left_in was names (map text (drop n words)) ≡ whole → new ++ left_in now names (map text (drop (n + 1) words)) ≡ whole
  word_left word done new whole next was now within now-is next-is new-is so_far =
      let w = text (get_or words n word) in
      let rest = map text (drop (n + 1) words) in
      ap (λ l. l ++ left_in now names rest) new-is
      ∙ (append_assoc done (next ∷ []) (left_in now names rest)
      ∙ (ap (λ x. done ++ (x ∷ left_in now names rest)) next-is
      ∙ (ap (λ (b : Bool). done ++ (next_in b names w ∷ left_in b names rest)) now-is
      ∙ (ap (λ l. done ++ l) (sym (one_left names w rest was (bytes_eq w (codes "--")) refl))
      ∙ (sym (at_drop_more (λ l. done ++ left_in was names (map text l)) words n word within) ∙ so_far)))))

  pub none_left : (done whole : List Text) (was : Bool) → length words ≤ n → done ++ left_in was names (map text (drop n words)) ≡ whole → done ≡ whole
  none_left done whole was end so_far = sym (ended was) ∙ so_far
    where
      ended : (b : Bool) → done ++ left_in b names (map text (drop n words)) ≡ done
      ended true = at_drop_all (λ l. done ++ whole_in names (map text l)) words n end ∙ append-nil done
      ended false = at_drop_all (λ l. done ++ map text l) words n end ∙ append-nil done

-- ---- the name that stands for a text

pub name_or : (o : Option (Bor Text)) (d r : Bor Text) → r ≡ unwrap_or o d → unwrap_or (text_of o) d.now ≡ r.now
name_or None d r is = ap (λ t. t.now) (sym is)
name_or (Some name) d r is = ap (λ t. t.now) (sym is)

-- ---- words that are whole

whole_is : (names : List Text) (text : Text) → list_any (λ name. bytes_eq name text) names ≡ true → whole_name names text ≡ text
unfolding whole_name
whole_is names text is = ap (λ (b : Bool). if b || bytes_eq text (codes "strip") then text else unwrap_or (sole (filter (is_front text) names)) text) is

lacks_more : (x : ℕ) (xs : Text) → x ≢ 61 → Lacks 61 xs → Lacks 61 (x ∷ xs)
lacks_more x xs other lacks zero within = other
lacks_more x xs other lacks (suc i) within = lacks i (omega (arith, within))

-- a text has no `=`, or the first one stands behind what has none
cut_at : (text : Text) → Lacks 61 text ⊎ ((front : Text) × (behind : Text) × Lacks 61 front × (text ≡ front ++ 61 ∷ behind))
cut_at [] = inl (λ i within. absurd (omega (arith, within)))
cut_at (x ∷ xs) = go (x == 61) refl (cut_at xs)
  where
    go : (b : Bool) → (x == 61) ≡ b → Lacks 61 xs ⊎ ((front : Text) × (behind : Text) × Lacks 61 front × (xs ≡ front ++ 61 ∷ behind))
        → Lacks 61 (x ∷ xs) ⊎ ((front : Text) × (behind : Text) × Lacks 61 front × (x ∷ xs ≡ front ++ 61 ∷ behind))
    go true is more =
        let same : x ≡ 61 = grind (arith, nat_tests) in
        inr ([], xs, (λ i within. absurd (omega (arith, within))), ap (λ b. b ∷ xs) same)
    go false is (inl lacks) =
        let other : x ≢ 61 = grind (arith, nat_tests) in
        inl (lacks_more x xs other lacks)
    go false is (inr cut) =
        let other : x ≢ 61 = grind (arith, nat_tests) in
        inr (x ∷ cut.0, cut.1, lacks_more x cut.0 other cut.2, ap (λ l. x ∷ l) cut.3)

parts_spelled : (rest : Text) → spelled (name_and_value rest).0 (name_and_value rest).1 ≡ codes "--" ++ rest
parts_spelled rest = go (cut_at rest)
  where
    go : Lacks 61 rest ⊎ ((front : Text) × (behind : Text) × Lacks 61 front × (rest ≡ front ++ 61 ∷ behind)) → spelled (name_and_value rest).0 (name_and_value rest).1 ≡ codes "--" ++ rest
    go (inl lacks) = ap (λ (parts : Text × Option Text). spelled parts.0 parts.1) (name_and_value-without rest lacks)
    go (inr cut) =
        ap (λ (parts : Text × Option Text). spelled parts.0 parts.1) (ap name_and_value cut.3 ∙ name_and_value-at cut.0 cut.1 cut.2)
        ∙ ap (λ l. codes "--" ++ l) (sym cut.3)

behind_byte : (c : ℕ) (word rest : Text) → strip_byte c word ≡ Some rest → word ≡ c ∷ rest
behind_byte c [] rest is = cc
behind_byte c (x ∷ xs) rest is = go (x == c) refl
  where
    go : (b : Bool) → (x == c) ≡ b → x ∷ xs ≡ c ∷ rest
    go true same =
        let byte : x ≡ c = grind (arith, nat_tests) in
        let left : xs ≡ rest = same_Some xs rest (ap (λ (b : Bool). if b then Some xs else None) (sym same) ∙ is) in
        ap (λ b. b ∷ xs) byte ∙ ap (λ l. c ∷ l) left
    go false other = absurd (none-some rest (ap (λ (b : Bool). if b then Some xs else None) (sym other) ∙ is))

rest_spelled : (rest : Text) (parts : Text × Option Text) → long_of_rest rest ≡ Some parts → spelled parts.0 parts.1 ≡ codes "--" ++ rest
rest_spelled [] parts is = cc
rest_spelled (x ∷ xs) parts is = ap (λ (p : Text × Option Text). spelled p.0 p.1) (sym (same_Some (name_and_value (x ∷ xs)) parts is)) ∙ parts_spelled (x ∷ xs)

long_spelled : (word : Text) (parts : Text × Option Text) → long_of word ≡ Some parts → spelled parts.0 parts.1 ≡ word
long_spelled word parts is = one (strip_byte 45 word) refl is
  where
    two : (first : Text) → word ≡ 45 ∷ first → (o : Option Text) → strip_byte 45 first ≡ o → option_and_then long_of_rest o ≡ Some parts → spelled parts.0 parts.1 ≡ word
    two first word-is None cut long = cc
    two first word-is (Some rest) cut long = rest_spelled rest parts long ∙ (ap (λ l. 45 ∷ l) (sym (behind_byte 45 first rest cut)) ∙ sym word-is)

    one : (o : Option Text) → strip_byte 45 word ≡ o → option_and_then long_of_rest (option_and_then (strip_byte 45) o) ≡ Some parts → spelled parts.0 parts.1 ≡ word
    one None cut long = cc
    one (Some first) cut long = two first (behind_byte 45 word first cut) (strip_byte 45 first) refl long

word_stays : (names : List Text) (word : Text) → HasWhole names (long_of word) → whole_word names word ≡ word
unfolding whole_word
word_stays names word whole = go (long_of word) refl whole
  where
    go : (o : Option (Text × Option Text)) → long_of word ≡ o → HasWhole names o → whole_by names word o ≡ word
    go None is h = refl
    go (Some parts) is h = ap (λ name. spelled name parts.1) (whole_is names parts.0 h) ∙ long_spelled word parts is

pub stays : (names : List Text) (words : List Text) → AreWhole names words → whole_in names words ≡ words
stays names [] whole = refl
stays names (w ∷ ws) whole = go (bytes_eq w (codes "--")) whole (stays names ws)
  where
    go : (b : Bool) → (b ≡ false → HasWhole names (long_of w) × AreWhole names ws) → (AreWhole names ws → whole_in names ws ≡ ws)
        → (if b then w ∷ ws else whole_word names w ∷ whole_in names ws) ≡ w ∷ ws
    go true h more = refl
    go false h more = ap (λ l. l ∷ whole_in names ws) (word_stays names w (h refl).0) ∙ ap (λ l. w ∷ l) (more (h refl).1)

pub words_stay : (table : List PlainWord) (words : List Text) → AreWhole (long_names table) words → whole_words table words ≡ words
unfolding whole_words
words_stay table words whole = stays (long_names table) words whole
