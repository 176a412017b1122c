-- The names of a stack's patch are lawful, are no temporaries', and are all that it changes.
use Rattle.std.proofs.Common.{◌≡◌, ℕ, List, [], ◌∷◌, ◌++◌, map, length, codes, Bool, true, false, ◌||◌, bytes_eq, Option, None, Some, refl, sym, ◌∙◌, ap, subst, append_assoc, if◌then◌else◌}
use Rattle.std.specs.Prelude.{option_map, option_and_then, is_none, ◌==◌}
use Rattle.std.specs.List.{AllByRecursion, list_any, flat_map, find}
use Rattle.std.specs.Option.{option_to_list}
use Rattle.std.specs.Str.{IsUtf8}
use Rattle.std.specs.Str.Lossy.{utf8_valid_len}
use Rattle.std.proofs.lemmas.Bool.{eqb-true}
use Rattle.std.proofs.lemmas.Str.{IsUtf8-append}
use Rattle.std.proofs.lemmas.List.Folds.{list_any-append}
use Rattle.std.proofs.Math.Bool.{or-true}
use Rattle.outside.specs.declared.name.NameRule.{NameRule}
use Rattle.outside.specs.Names.{broken_rule, normal_form, IsPatchName, IsEnding}
use Rattle.outside.proofs.Components.{neither}
use Rattle.outside.proofs.Lawful.{obeys, patch_normal, patch_behind}
use Rattle.read_file_patch.specs.Actions.{is_moved}
use Rattle.read_file_patch.specs.PlainPatch.{PlainHeader, PlainPatch}
use Rattle.read_header_record.specs.Quoted.{name_of}
use Rattle.read_file_patch.specs.Stripped.{stripped}
use Rattle.read_file_patch.specs.Candidates.{lawful_name, left_if_file, left_name, candidate, header_candidate, header_names, index_names, index_beside, candidates}
use Rattle.read_file_patch.specs.Moved.{moved_strip, moved_name, differing, two_names, moved_names}
use Rattle.read_file_patch.specs.Numbered.{is_among, with_name, joined_by, distinct}
use Rattle.read_file_patch.proofs.Names.{same-is, are-same, all-join}
use Rattle.series_stack.specs.Undoing.{is_one_of}
use Rattle.series_stack.specs.Commands.{Target, names_of}
use Rattle.patch_set.specs.Named.{own_names}
use Rattle.patch_set.specs.Named as named
use Rattle.stack_patch.specs.Reading.{push_options}
use Rattle.stack_patch.proofs.Utf8.{whole_valid, normal_valid, rej_valid}

-- ---- lists of which each element is so

abbrev pub Each : {X : Type 0} → (X → Type 0) → List X → Type 0
Each P xs = AllByRecursion P xs

module _ {X : Type 0} (P : X → Type 0) where
  pub each_both : (xs ys : List X) → Each P xs → Each P ys → Each P (xs ++ ys)
  each_both [] ys a b = b
  each_both (x ∷ xs) ys a b = (a.0, each_both xs ys a.1 b)

  pub each_front : (xs ys : List X) → Each P (xs ++ ys) → Each P xs
  each_front [] ys a = tt
  each_front (x ∷ xs) ys a = (a.0, each_front xs ys a.1)

  pub each_behind : (xs ys : List X) → Each P (xs ++ ys) → Each P ys
  each_behind [] ys a = a
  each_behind (x ∷ xs) ys a = each_behind xs ys a.1

  pub each_by : (Q : X → Type 0) → ((x : X) → P x → Q x) → (xs : List X) → Each P xs → Each Q xs
  each_by Q by [] a = tt
  each_by Q by (x ∷ xs) a = (by x a.0, each_by Q by xs a.1)

  -- the elements of many lists
  pub each_flat : {Y : Type 0} (g : Y → List X) (ys : List Y) → Each (λ y. Each P (g y)) ys → Each P (flat_map g ys)
  each_flat g [] a = tt
  each_flat g (y ∷ ys) a = each_both (g y) (flat_map g ys) a.0 (each_flat g ys a.1)

  pub flat_each : {Y : Type 0} (g : Y → List X) (ys : List Y) → Each P (flat_map g ys) → Each (λ y. Each P (g y)) ys
  flat_each g [] a = tt
  flat_each g (y ∷ ys) a = (each_front (g y) (flat_map g ys) a, flat_each g ys (each_behind (g y) (flat_map g ys) a))

-- ---- distinct names

with_each : (P : List ℕ → Type 0) (known : List (List ℕ)) (name : List ℕ) → Each P known → P name → Each P (with_name known name)
with_each P known name each is = elim (is_among known name) as (λ b. Each P (if b then known else known ++ name ∷ [])) [
  | true ↦ each
  | false ↦ each_both P known (name ∷ []) each (is, tt)
]

joined_each : (P : List ℕ → Type 0) (known others : List (List ℕ)) → Each P known → Each P others → Each P (joined_by known others)
unfolding joined_by
joined_each P known [] a b = a
joined_each P known (name ∷ others) a b = joined_each P (with_name known name) others (with_each P known name a b.0) b.1

pub distinct_each : (P : List ℕ → Type 0) (names : List (List ℕ)) → Each P names → Each P (distinct names)
distinct_each P names each = joined_each P [] names tt each

among_behind : (front names : List (List ℕ)) → Each (λ n. is_among (front ++ names) n ≡ true) names
among_behind front [] = tt
among_behind front (name ∷ names) = (
  list_any-append (bytes_eq name) front (name ∷ names) ∙ ap (λ b. list_any (bytes_eq name) front || (b || list_any (bytes_eq name) names)) (same-is name) ∙ or-true (list_any (bytes_eq name) front),
  subst (λ (l : List (List ℕ)). Each (λ n. is_among l n ≡ true) names) (append_assoc front (name ∷ []) names) (among_behind (front ++ name ∷ []) names),
)

-- each of them is among the distinct ones
pub among_distinct : (names : List (List ℕ)) → Each (λ n. is_among (distinct names) n ≡ true) names
among_distinct names = each_by (λ n. is_among names n ≡ true) (λ n. is_among (distinct names) n ≡ true) (λ n is. all-join [] names n is) names (among_behind [] names)

-- ---- what a header gives are names

utf8_of : (text : List ℕ) → broken_rule text ≡ None → IsUtf8 text
utf8_of text is = whole_valid text (eqb-true (utf8_valid_len text) (length text) (obeys text is).utf8)

abbrev Named : Option (List ℕ) → Type 0
Named None = Unit {0}
Named (Some name) = IsPatchName name

lawful_named : (text : List ℕ) → Named (lawful_name text)
lawful_named text = by (broken_rule text) refl
  where
    by : (o : Option NameRule) → broken_rule text ≡ o → Named (if is_none o then Some (normal_form text) else None)
    by None is = patch_normal text (obeys text is) (normal_valid text (utf8_of text is))
    by (Some rule) is = tt

then_named : (f : List ℕ → Option (List ℕ)) → ((text : List ℕ) → Named (f text)) → (o : Option (List ℕ)) → Named (option_and_then f o)
then_named f is None = tt
then_named f is (Some text) = is text

left_named : (strip : Option ℕ) (name : List ℕ) → Named (left_name strip name)
left_named strip name = then_named lawful_name lawful_named (stripped strip name)

candidate_named : (strip : Option ℕ) (text : List ℕ) → Named (candidate strip text)
candidate_named strip text = then_named (left_name strip) (left_named strip) (name_of text)

file_named : (strip : Option ℕ) (name : List ℕ) → Named (left_if_file strip name)
file_named strip name = elim (bytes_eq name (codes "/dev/null")) as (λ b. Named (if b then None else left_name strip name)) [
  | true ↦ tt
  | false ↦ left_named strip name
]

header_named : (strip : Option ℕ) (text : List ℕ) → Named (header_candidate strip text)
header_named strip text = then_named (left_if_file strip) (file_named strip) (name_of text)

each_named : (o : Option (List ℕ)) → Named o → Each IsPatchName (option_to_list o)
each_named None is = tt
each_named (Some name) is = (is, tt)

headers_named : (strip : Option ℕ) (o : Option (List ℕ)) → Each IsPatchName (header_names strip o)
headers_named strip o = each_named _ (then_named (header_candidate strip) (header_named strip) o)

index_named : (strip : Option ℕ) (o : Option (List ℕ)) → Each IsPatchName (index_names strip o)
index_named strip o = each_named _ (then_named (candidate strip) (candidate_named strip) o)

pub candidates_named : (strip : Option ℕ) (old new index : Option (List ℕ)) (posix : Bool) → Each IsPatchName (candidates strip old new index posix)
candidates_named strip old new index posix =
    each_both IsPatchName (header_names strip old ++ header_names strip new) (index_names strip (index_beside posix old new index))
    (each_both IsPatchName (header_names strip old) (header_names strip new) (headers_named strip old) (headers_named strip new))
    (index_named strip (index_beside posix old new index))

two_named : (a b : Option (List ℕ)) → Named a → Named b → Each IsPatchName (two_names a b)
two_named None b p q = tt
two_named (Some x) None p q = tt
two_named (Some x) (Some y) p q = elim (bytes_eq x y) as (λ t. Each IsPatchName (if t then [] else x ∷ y ∷ [])) [
  | true ↦ tt
  | false ↦ (p, (q, tt))
]

pub moved_named : (strip : Option ℕ) (from to : Option (List ℕ)) → Each IsPatchName (moved_names strip from to)
moved_named strip from to =
    two_named (moved_name strip from) (moved_name strip to)
    (then_named (candidate (moved_strip strip)) (candidate_named (moved_strip strip)) from)
    (then_named (candidate (moved_strip strip)) (candidate_named (moved_strip strip)) to)

pub header_each : (h : PlainHeader) → Each IsPatchName (named.names_of push_options h)
unfolding push_options
header_each h = elim (is_moved h.action) as (λ b. Each IsPatchName (if b then moved_names (Some 1) h.from h.to else candidates (Some 1) h.old_name h.new_name h.index false)) [
  | true ↦ moved_named (Some 1) h.from h.to
  | false ↦ candidates_named (Some 1) h.old_name h.new_name h.index false
]

-- ---- the name of a reject file

rej_ending : IsEnding (codes ".rej")
rej_ending = record { no_slash = refl; no_control = refl }

pub reject_named : (name : List ℕ) → IsPatchName name → IsPatchName (name ++ codes ".rej")
reject_named name is = patch_behind name (codes ".rej") is rej_ending (IsUtf8-append name (codes ".rej") (utf8_of name is.lawful) rej_valid)

-- ---- the names of targets

module _ (tf : List ℕ → Target) (owns : (n : List ℕ) → (tf n).name ≡ n) (rejects : (n : List ℕ) → (tf n).reject ≡ n ++ codes ".rej") where
  abbrev all_names : List (List ℕ) → List (List ℕ)
  all_names known = names_of (map tf known)

  -- this name and that of its reject file are among them
  abbrev AreAmong : List (List ℕ) → List ℕ → Type 0
  AreAmong known name = (is_one_of (all_names known) name ≡ true) × (is_one_of (all_names known) (name ++ codes ".rej") ≡ true)

  here : (n : List ℕ) (known : List (List ℕ)) → AreAmong (n ∷ known) n
  here n known = (
    ap (λ (x : List ℕ). bytes_eq x n || (bytes_eq (tf n).reject n || is_one_of (all_names known) n)) (owns n) ∙ ap (λ b. b || (bytes_eq (tf n).reject n || is_one_of (all_names known) n)) (same-is n),
    ap (λ (x : List ℕ). bytes_eq (tf n).name (n ++ codes ".rej") || (bytes_eq x (n ++ codes ".rej") || is_one_of (all_names known) (n ++ codes ".rej"))) (rejects n)
        ∙ ap (λ b. bytes_eq (tf n).name (n ++ codes ".rej") || (b || is_one_of (all_names known) (n ++ codes ".rej"))) (same-is (n ++ codes ".rej"))
        ∙ or-true (bytes_eq (tf n).name (n ++ codes ".rej")),
  )

  later : (n q : List ℕ) (known : List (List ℕ)) → is_one_of (all_names known) q ≡ true → is_one_of (all_names (n ∷ known)) q ≡ true
  later n q known is =
      ap (λ b. bytes_eq (tf n).name q || (bytes_eq (tf n).reject q || b)) is
      ∙ ap (λ b. bytes_eq (tf n).name q || b) (or-true (bytes_eq (tf n).reject q))
      ∙ or-true (bytes_eq (tf n).name q)

  pub are_among : (known : List (List ℕ)) (name : List ℕ) → is_among known name ≡ true → AreAmong known name
  are_among [] name is = absurd cc
  are_among (n ∷ known) name is = by (bytes_eq name n) refl (are_among known name)
    where
      by : (b : Bool) → bytes_eq name n ≡ b → (is_among known name ≡ true → AreAmong known name) → AreAmong (n ∷ known) name
      by true same behind = subst (λ (x : List ℕ). AreAmong (n ∷ known) x) (sym (are-same name n same)) (here n known)
      by false other behind =
          let rest = behind (sym (ap (λ b. b || is_among known name) other) ∙ is) in
          (later n name known rest.0, later n (name ++ codes ".rej") known rest.1)

  -- what holds of these names and of their reject files holds of all
  pub each_target : (P : List ℕ → Type 0) (known : List (List ℕ)) → Each (λ n. P n × P (n ++ codes ".rej")) known → Each P (all_names known)
  each_target P [] each = tt
  each_target P (n ∷ known) each = (subst P (sym (owns n)) each.0.0, (subst P (sym (rejects n)) each.0.1, each_target P known each.1))
