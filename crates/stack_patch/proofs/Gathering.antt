-- What is gathered of the file patches of a set are the names that its patch saves.
use Rattle.std.proofs.Common.{◌≡◌, ℕ, suc, append_assoc, List, [], ◌∷◌, ◌++◌, map, length, Bool, true, false, ◌||◌, Option, None, Some, refl, sym, ◌∙◌, ap, subst, arith, if◌then◌else◌}
use Rattle.std.specs.Prelude.{bytes_eq}
use Rattle.std.specs.List.{AllByRecursion, fold, find, list_any}
use Rattle.std.specs.Option.{option_or, option_map_or, option_to_list}
use Rattle.std.proofs.lemmas.Bool.{lt-ltb, le-ltb}
use Rattle.std.proofs.lemmas.List.{append-nil, map-append}
use Rattle.std.proofs.lemmas.List.Concat.{flat_map-append}
use Rattle.std.proofs.lemmas.List.Folds.{find-append, list_any-append}
use Rattle.outside.proofs.Components.{neither}
use Rattle.read_file_patch.specs.declared.FilePatch.{FilePatch}
use Rattle.read_file_patch.specs.PlainPatch.{PlainPatch, header_of, patch_of}
use Rattle.read_file_patch.specs.declared.derived.Target.{Target}
use Rattle.read_file_patch.specs.Numbered.{is_among, with_name, joined_by, distinct, number_in}
use Rattle.read_file_patch.proofs.Names.{all-join, numbers-below, numbers-next, numbers-stay, same-is, with-among, with-new, with-there}
use Rattle.series_stack.specs.Saves.{is_of_stack}
use Rattle.patch_set.specs.Named.{names_of, patch_names, known_names, target_in, targets_of}
use Rattle.patch_set.specs.SetView.{SetView, IsRead, plain_patches}
use Rattle.patch_set.proofs.Joined.{joined-first, joined-nil}
use Rattle.series_stack.specs.Commands.{own_line}
use Rattle.series_stack.specs.Commands.{Target as Saves}
use Rattle.series_stack.specs.Commands as stack
use Rattle.stack_patch.specs.Reading.{push_options, is_meant_for, line_of, target_for, targets_for}
use Rattle.stack_patch.specs.Gathering.{Gathered, nothing, own_here, with_names, with_target, with_patch}

-- ---- names that join

joined-append : (names one two : List (List ℕ)) → joined_by names (one ++ two) ≡ joined_by (joined_by names one) two
joined-append names [] two = ap (λ (l : List (List ℕ)). joined_by l two) (sym (joined-nil names))
joined-append names (n ∷ one) two = joined-first names n (one ++ two) ∙ joined-append (with_name names n) one two ∙ ap (λ (l : List (List ℕ)). joined_by l two) (sym (joined-first names n one))

not_both : (v : Bool) → v ≡ true → v ≡ false → ⊥
not_both true is not = absurd (cc)
not_both false is not = absurd (cc)

-- a name that isn't there with another one wasn't before
before : (names : List (List ℕ)) (other name : List ℕ) → is_among (with_name names other) name ≡ false → is_among names name ≡ false
before names other name none = by (is_among names other) refl
  where
    by : (v : Bool) → is_among names other ≡ v → is_among names name ≡ false
    by true is = ap (λ (l : List (List ℕ)). is_among l name) (sym (with-there names other is)) ∙ none
    by false is = (neither (is_among names name) (is_among (other ∷ []) name) (sym (list_any-append (bytes_eq name) names (other ∷ [])) ∙ ap (λ (l : List (List ℕ)). is_among l name) (sym (with-new names other is)) ∙ none)).0

not_among : (names : List (List ℕ)) (name : List ℕ) → is_among (distinct names) name ≡ false → is_among names name ≡ false
not_among names name none = by (is_among names name) refl
  where
    by : (v : Bool) → is_among names name ≡ v → v ≡ false
    by true is = absurd (not_both (is_among (distinct names) name) (all-join [] names name is) none)
    by false is = refl

-- ---- the opening line of a name

meant_none : (name : List ℕ) (front : List PlainPatch) → is_among (patch_names push_options front) name ≡ false → find (is_meant_for push_options name) front ≡ None
meant_none name [] none = refl
meant_none name (p ∷ front) none =
    let both = neither (is_among (names_of push_options p.header) name) (is_among (patch_names push_options front) name)
    (sym (list_any-append (bytes_eq name) (names_of push_options p.header) (patch_names push_options front)) ∙ none) in
    ap (λ (v : Bool). if v then Some p else find (is_meant_for push_options name) front) both.0 ∙ meant_none name front both.1

opened_by : (name : List ℕ) (front rest : List PlainPatch) (p : PlainPatch) → is_among (patch_names push_options front) name ≡ false → is_among (names_of push_options p.header) name ≡ true
    → line_of push_options name (front ++ p ∷ rest) ≡ p.header.opening
opened_by name front rest p none some =
    ap (λ (o : Option PlainPatch). option_map_or (λ q. q.header.opening) o 0)
    (find-append (is_meant_for push_options name) front (p ∷ rest)
    ∙ ap (λ (o : Option PlainPatch). option_or o (find (is_meant_for push_options name) (p ∷ rest))) (meant_none name front none)
    ∙ ap (λ (v : Bool). if v then Some p else find (is_meant_for push_options name) rest) some)

-- ---- the first line of the stack's own

own-push : (ts : List Saves) (t : Saves) → own_line (ts ++ t ∷ []) ≡ option_or (own_line ts) (if is_of_stack t.name || is_of_stack t.reject then Some t.line else None)
unfolding own_line
own-push [] t = refl
own-push (s ∷ ts) t = by (is_of_stack s.name || is_of_stack s.reject) (own-push ts t)
  where
    by : (v : Bool) → own_line (ts ++ t ∷ []) ≡ option_or (own_line ts) (if is_of_stack t.name || is_of_stack t.reject then Some t.line else None)
        → (if v then Some s.line else own_line (ts ++ t ∷ [])) ≡ option_or (if v then Some s.line else own_line ts) (if is_of_stack t.name || is_of_stack t.reject then Some t.line else None)
    by true more = refl
    by false more = more

abbrev gathering : List (List ℕ) → Option ℕ → ℕ → Gathered
gathering names own count = record { names = names; own = own; count = count }

module _ (ps : List PlainPatch) where
  abbrev known : List (List ℕ)
  known = known_names push_options ps

  abbrev to : List ℕ → Saves
  to name = target_for push_options ps name

  -- what is gathered once these distinct names were met
  abbrev met : List (List ℕ) → Gathered
  met names = gathering (stack.names_of (map to names)) (own_line (map to names)) (length names)

  more_names : (names : List (List ℕ)) (n : List ℕ) → stack.names_of (map to (names ++ n ∷ [])) ≡ stack.names_of (map to names) ++ (to n).name ∷ (to n).reject ∷ []
  more_names names n =
      ap (λ (ts : List Saves). stack.names_of ts) (map-append to names (n ∷ []))
      ∙ flat_map-append (λ (t : Saves). t.name ∷ t.reject ∷ []) (map to names) (to n ∷ [])

  more_own : (line : ℕ) (names : List (List ℕ)) (n : List ℕ) → line_of push_options n ps ≡ line
      → own_line (map to (names ++ n ∷ [])) ≡ option_or (own_line (map to names)) (own_here line (target_in push_options known n))
  more_own line names n is =
      ap own_line (map-append to names (n ∷ []))
      ∙ own-push (map to names) (to n)
      ∙ ap (λ (m : ℕ). option_or (own_line (map to names)) (own_here m (target_in push_options known n))) is

  more_count : (names : List (List ℕ)) (n : List ℕ) → length (names ++ n ∷ []) ≡ suc (length names)
  more_count [] n = refl
  more_count (m ∷ names) n = ap suc (more_count names n)

  met-more : (line : ℕ) (names : List (List ℕ)) (n : List ℕ) → line_of push_options n ps ≡ line → with_names line (met names) (target_in push_options known n) ≡ met (names ++ n ∷ [])
  met-more line names n is =
      ap (λ (l : List (List ℕ)). gathering l (option_or (own_line (map to names)) (own_here line (target_in push_options known n))) (suc (length names))) (sym (more_names names n))
      ∙ ap (λ (o : Option ℕ). gathering (stack.names_of (map to (names ++ n ∷ []))) o (suc (length names))) (sym (more_own line names n is))
      ∙ ap (λ (k : ℕ). gathering (stack.names_of (map to (names ++ n ∷ []))) (own_line (map to (names ++ n ∷ []))) k) (sym (more_count names n))

  -- a name that was met, and a new one
  met-again : (line : ℕ) (seen others : List (List ℕ)) (n : List ℕ) → known ≡ joined_by seen others → is_among seen n ≡ true → with_target line (met seen) (target_in push_options known n) ≡ met seen
  met-again line seen others n is among =
      let number : number_in known n ≡ number_in seen n = ap (λ (l : List (List ℕ)). number_in l n) is ∙ numbers-stay seen others n among in
      let below = numbers-below seen n among in
      ap (λ (v : Bool). if v then met seen else with_names line (met seen) (target_in push_options known n)) (lt-ltb (number_in known n) (length seen) (omega (arith, number, below)))

  met-new : (line : ℕ) (seen others : List (List ℕ)) (n : List ℕ) → known ≡ joined_by (with_name seen n) others → is_among seen n ≡ false → line_of push_options n ps ≡ line
      → with_target line (met seen) (target_in push_options known n) ≡ met (with_name seen n)
  met-new line seen others n is none at =
      let number : number_in known n ≡ length seen =
      ap (λ (l : List (List ℕ)). number_in l n) is ∙ numbers-stay (with_name seen n) others n (with-among seen n) ∙ numbers-next seen n none in
      ap (λ (v : Bool). if v then met seen else with_names line (met seen) (target_in push_options known n)) (le-ltb (number_in known n) (length seen) (omega (arith, number)))
      ∙ met-more line seen n at
      ∙ ap (λ (l : List (List ℕ)). met l) (sym (with-new seen n none))

  -- the targets of one file patch
  abbrev AreOpened : ℕ → List (List ℕ) → List (List ℕ) → Type 0
  AreOpened line seen ns = AllByRecursion (λ n. is_among seen n ≡ false → line_of push_options n ps ≡ line) ns

  opened_on : (line : ℕ) (seen : List (List ℕ)) (other : List ℕ) (ns : List (List ℕ)) → AreOpened line seen ns → AreOpened line (with_name seen other) ns
  opened_on line seen other [] all = tt
  opened_on line seen other (n ∷ ns) all = (λ none. all.0 (before seen other n none), opened_on line seen other ns all.1)

  of-patch : (line : ℕ) (ns rest seen : List (List ℕ)) → known ≡ joined_by seen (ns ++ rest) → AreOpened line seen ns
      → fold (with_target line) (met seen) (map (target_in push_options known) ns) ≡ met (joined_by seen ns)
  of-patch line [] rest seen is all = ap (λ (l : List (List ℕ)). met l) (sym (joined-nil seen))
  of-patch line (n ∷ ns) rest seen is all =
      let more : known ≡ joined_by (with_name seen n) (ns ++ rest) = is ∙ joined-first seen n (ns ++ rest) in
      ap (λ (g : Gathered). fold (with_target line) g (map (target_in push_options known) ns)) (one more (is_among seen n) refl)
      ∙ of-patch line ns rest (with_name seen n) more (opened_on line seen n ns all.1)
      ∙ ap (λ (l : List (List ℕ)). met l) (sym (joined-first seen n ns))
    where
      one : known ≡ joined_by (with_name seen n) (ns ++ rest) → (v : Bool) → is_among seen n ≡ v → with_target line (met seen) (target_in push_options known n) ≡ met (with_name seen n)
      one more true among = met-again line seen (n ∷ (ns ++ rest)) n is among ∙ ap (λ (l : List (List ℕ)). met l) (sym (with-there seen n among))
      one more false none = met-new line seen (ns ++ rest) n more none (all.0 none)

  -- ---- all file patches

  abbrev step : Gathered → PlainPatch → Gathered
  step g p = fold (with_target p.header.opening) g (targets_of push_options known p.header)

  names-known : patch_names push_options ps ++ option_to_list push_options.output ≡ patch_names push_options ps
  unfolding push_options
  names-known = append-nil (patch_names push_options ps)

  names_both : (front rest : List PlainPatch) → patch_names push_options (front ++ rest) ≡ patch_names push_options front ++ patch_names push_options rest
  names_both front rest = flat_map-append (λ (p : PlainPatch). names_of push_options p.header) front rest

  all_opened : (front rest : List PlainPatch) (p : PlainPatch) → ps ≡ front ++ p ∷ rest → (ns : List (List ℕ)) → AllByRecursion (λ n. is_among (names_of push_options p.header) n ≡ true) ns
      → AreOpened p.header.opening (distinct (patch_names push_options front)) ns
  all_opened front rest p is [] among = tt
  all_opened front rest p is (n ∷ ns) among = (
    λ none. ap (λ (l : List PlainPatch). line_of push_options n l) is ∙ opened_by n front rest p (not_among (patch_names push_options front) n none) among.0,
    all_opened front rest p is ns among.1,
  )

  are_among : (front ns : List (List ℕ)) → AllByRecursion (λ n. is_among (front ++ ns) n ≡ true) ns
  are_among front [] = tt
  are_among front (n ∷ ns) = (
    list_any-append (bytes_eq n) front (n ∷ ns) ∙ ap (λ (v : Bool). list_any (bytes_eq n) front || (v || list_any (bytes_eq n) ns)) (same-is n) ∙ or_true (list_any (bytes_eq n) front),
    subst (λ (l : List (List ℕ)). AllByRecursion (λ m. is_among l m ≡ true) ns) (append_assoc front (n ∷ []) ns) (are_among (front ++ n ∷ []) ns),
  )
    where
      or_true : (b : Bool) → (b || true) ≡ true
      or_true true = refl
      or_true false = refl

  of-patches : (front rest : List PlainPatch) → ps ≡ front ++ rest → fold step (met (distinct (patch_names push_options front))) rest ≡ met known
  of-patches front [] is =
      ap (λ (l : List (List ℕ)). met (distinct l)) (ap (λ (l : List PlainPatch). patch_names push_options l) (sym (append-nil front) ∙ sym is) ∙ sym names-known)
  of-patches front (p ∷ rest) is =
      let seen : List (List ℕ) = distinct (patch_names push_options front) in
      let own : List (List ℕ) = names_of push_options p.header in
      let all : known ≡ joined_by seen (own ++ patch_names push_options rest) =
      ap (λ (l : List (List ℕ)). distinct l) (names-known ∙ ap (λ (l : List PlainPatch). patch_names push_options l) is ∙ names_both front (p ∷ rest))
      ∙ joined-append [] (patch_names push_options front) (own ++ patch_names push_options rest) in
      let now : joined_by seen own ≡ distinct (patch_names push_options (front ++ p ∷ [])) =
      sym (joined-append [] (patch_names push_options front) own)
      ∙ ap (λ (l : List (List ℕ)). distinct (patch_names push_options front ++ l)) (sym (append-nil own))
      ∙ ap (λ (l : List (List ℕ)). distinct l) (sym (names_both front (p ∷ []))) in
      ap (λ (g : Gathered). fold step g rest)
      (of-patch p.header.opening own (patch_names push_options rest) seen all (all_opened front rest p is own (are_among [] own))
      ∙ ap (λ (l : List (List ℕ)). met l) now)
      ∙ of-patches (front ++ p ∷ []) rest (is ∙ sym (append_assoc front (p ∷ []) rest))

  pub gathers : fold step nothing ps ≡ met known
  unfolding joined_by own_line
  gathers = of-patches [] ps refl

-- ---- the set

module _ (text : List ℕ) (names : List (List ℕ)) where
  by_names : (ps : List FilePatch) (g : Gathered) → map (λ p. p.targets.items) ps ≡ map (λ p. targets_of push_options names (header_of text p.header)) ps
      → fold with_patch g ps ≡ fold (λ (x : Gathered) (p : PlainPatch). fold (with_target p.header.opening) x (targets_of push_options names p.header)) g (map (patch_of text) ps)
  by_names [] g is = refl
  by_names (p ∷ ps) g is =
      let first : p.targets.items ≡ targets_of push_options names (header_of text p.header) = cc in
      let rest : map (λ p. p.targets.items) ps ≡ map (λ p. targets_of push_options names (header_of text p.header)) ps = cc in
      ap (λ (ts : List Target). fold with_patch (fold (with_target p.header.opening) g ts) ps) first
      ∙ by_names ps (fold (with_target p.header.opening) g (targets_of push_options names (header_of text p.header))) rest

pub saves : (given : List ℕ) (v : SetView) → IsRead push_options given v
    → fold with_patch nothing v.patches ≡ gathering (stack.names_of (targets_for push_options (plain_patches v))) (own_line (targets_for push_options (plain_patches v))) (length (known_names push_options (plain_patches v)))
saves given v is = by_names v.text (known_names push_options (plain_patches v)) v.patches nothing is.names.targets ∙ gathers (plain_patches v)
