-- Lawful texts of patches, their normal forms, and what may stand before and behind a name that a patch gives.
use Rattle.std.proofs.Common.{◌≡◌, ℕ, ◌+◌, ◌<◌, List, [], ◌∷◌, ◌++◌, length, take, get_or, codes, Bool, true, false, cond, not, ◌&&◌, ◌||◌, ◌==◌, nat_eq, bytes_eq, filter, Option, Some, None, Result, Ok, Err, ◌↔◌, refl, sym, ◌∙◌, ap, subst, arith, append_assoc, eq-eqb, ne_eqb}
use Rattle.std.proofs.lemmas.List.{append-nil}
use Rattle.std.proofs.lemmas.Bool.{false≢true}
use Rattle.std.proofs.lemmas.Bool.Decides.{nat_tests}
use Rattle.std.proofs.lemmas.List.Elements.{filter_more}
use Rattle.std.proofs.lemmas.Str.{utf8_valid_len-IsUtf8, utf8_valid_len-IsValidUpTo}
use Rattle.std.specs.List.{list_any, join_with_byte}
use Rattle.std.specs.Str.{IsUtf8, IsValidUpTo}
use Rattle.std.specs.Str.Lossy.{utf8_valid_len}
use Rattle.outside.specs.declared.name.NameRule.{NameRule}
use Rattle.outside.specs.declared.name.NameRule.TheVariants.{NotUtf8, Control, Absolute, Parent, Empty}
use Rattle.outside.specs.declared.name.NameFault.{NameFault}
use Rattle.outside.specs.declared.name.NameFault.TheVariants.{Refused, Memory}
use Rattle.std.specs.Result.{IsErrAnd}
use Rattle.outside.specs.Names.{is_slash, is_control, is_absolute, is_empty, is_kept, components, kept, normal_form, broken_rule, with_component, IsPatchName, IsEnding}
use Rattle.outside.proofs.Components.{Each, Free, neither, either_free, append_free, components_free, slash_free, components_some, components_joined, joined, join_free, components_behind, each_last, components_ahead, components_slash, each_append, each_ahead, front_free}

abbrev pub is_parent : List ℕ → Bool
is_parent c = bytes_eq (codes "..") c

-- that no rule is broken, rule by rule
pub record Obeys (text : List ℕ) : Type 0 where
  pub utf8 : (utf8_valid_len text == length text) ≡ true
  pub control : Free is_control text
  pub absolute : is_absolute text ≡ false
  pub parent : list_any is_parent (components text) ≡ false
  pub empty : is_empty (kept text) ≡ false

-- the first of the five that holds
chosen : Bool → Bool → Bool → Bool → Bool → Option NameRule
chosen a b c d e = cond (not a) (Some NotUtf8) (cond b (Some Control) (cond c (Some Absolute) (cond d (Some Parent) (cond e (Some Empty) None))))

chosen_none : (a b c d e : Bool) → chosen a b c d e ≡ None → (a ≡ true) × (b ≡ false) × (c ≡ false) × (d ≡ false) × (e ≡ false)
unfolding chosen
chosen_none false b c d e is = cc
chosen_none true true c d e is = cc
chosen_none true false true d e is = cc
chosen_none true false false true e is = cc
chosen_none true false false false true is = cc
chosen_none true false false false false is = (refl, refl, refl, refl, refl)

none_chosen : (a b c d e : Bool) → a ≡ true → b ≡ false → c ≡ false → d ≡ false → e ≡ false → chosen a b c d e ≡ None
unfolding chosen
none_chosen a b c d e p q r s t = simp (p, q, r, s, t)

pub obeys : (text : List ℕ) → broken_rule text ≡ None → Obeys text
unfolding chosen
obeys text is =
    let x = chosen_none (utf8_valid_len text == length text) (list_any is_control text) (is_absolute text) (list_any is_parent (components text)) (is_empty (kept text)) is in
    record { utf8 = x.0; control = x.1; absolute = x.2; parent = x.3; empty = x.4 }

pub obeyed : (text : List ℕ) → Obeys text → broken_rule text ≡ None
unfolding chosen
obeyed text is = none_chosen (utf8_valid_len text == length text) (list_any is_control text) (is_absolute text) (list_any is_parent (components text)) (is_empty (kept text)) is.utf8 is.control is.absolute is.parent is.empty

pub utf8_whole : (text : List ℕ) → IsUtf8 text → (utf8_valid_len text == length text) ≡ true
utf8_whole text is = eq-eqb (utf8_valid_len text) (length text) (utf8_valid_len-IsUtf8 text is)

-- ---- what a filter keeps
pub each_filter : {X : Type 0} (p : X → Bool) (P : X → Type 0) (xs : List X) → Each P xs → Each P (filter p xs)
each_filter p P [] each = tt
each_filter p P (x ∷ xs) each = elim (p x) as (λ b. Each P (cond b (x ∷ filter p xs) (filter p xs))) [
  | true ↦ (each.0, each_filter p P xs each.1)
  | false ↦ each_filter p P xs each.1
]

pub filter_kept : {X : Type 0} (p : X → Bool) (xs : List X) → Each (λ x. p x ≡ true) (filter p xs)
filter_kept p [] = tt
filter_kept p (x ∷ xs) = elim (p x) as (λ b. p x ≡ b → Each (λ y. p y ≡ true) (cond b (x ∷ filter p xs) (filter p xs))) [
  | true ↦ λ is. (is, filter_kept p xs)
  | false ↦ λ is. filter_kept p xs
] refl

pub filter_whole : {X : Type 0} (p : X → Bool) (xs : List X) → Each (λ x. p x ≡ true) xs → filter p xs ≡ xs
filter_whole {X = X} p [] each = refl
filter_whole {X = X} p (x ∷ xs) each = rw each.0 (ap (λ (l : List X). x ∷ l) (filter_whole p xs each.1))

pub any_each : {X : Type 0} (p : X → Bool) (xs : List X) → list_any p xs ≡ false → Each (λ x. p x ≡ false) xs
any_each p [] is = tt
any_each p (x ∷ xs) is = let both = neither (p x) (list_any p xs) is in (both.0, any_each p xs both.1)

pub each_any : {X : Type 0} (p : X → Bool) (xs : List X) → Each (λ x. p x ≡ false) xs → list_any p xs ≡ false
each_any p [] each = refl
each_any p (x ∷ xs) each = either_free (p x) (list_any p xs) each.0 (each_any p xs each.1)

-- ---- the normal form of a lawful text
pub begins : (cs : List (List ℕ)) → Each (Free is_slash) cs → Each (λ c. is_kept c ≡ true) cs → is_absolute (join_with_byte 47 cs) ≡ false
begins [] free keeps = refl
begins ([] ∷ cs) free keeps = cc (keeps.0)
begins ((b ∷ bs) ∷ []) free keeps = (neither (is_slash b) (list_any is_slash bs) free.0).0
begins ((b ∷ bs) ∷ d ∷ cs) free keeps = (neither (is_slash b) (list_any is_slash bs) free.0).0

module _ (text : List ℕ) (is : Obeys text) where
  kept_free : Each (Free is_slash) (kept text)
  kept_free = each_filter is_kept (Free is_slash) (components text) (slash_free text)

  pub normal_components : components (normal_form text) ≡ kept text
  normal_components = components_joined (kept text) is.empty kept_free

  pub normal_kept : kept (normal_form text) ≡ kept text
  normal_kept = ap (λ (l : List (List ℕ)). filter is_kept l) normal_components ∙ filter_whole is_kept (kept text) (filter_kept is_kept (components text))

  pub patch_normal : IsUtf8 (normal_form text) → IsPatchName (normal_form text)
  patch_normal utf8 = record {
    lawful = obeyed (normal_form text) (record {
      utf8 = utf8_whole (normal_form text) utf8;
      control = join_free is_control (kept text) refl (each_filter is_kept (Free is_control) (components text) (components_free is_control text is.control));
      absolute = begins (kept text) kept_free (filter_kept is_kept (components text));
      parent = ap (λ (l : List (List ℕ)). list_any is_parent l) normal_components ∙ each_any is_parent (kept text) (each_filter is_kept (λ c. is_parent c ≡ false) (components text) (any_each is_parent (components text) is.parent));
      empty = ap (λ (l : List (List ℕ)). is_empty l) normal_kept ∙ is.empty;
    });
    normal = ap (λ (l : List (List ℕ)). join_with_byte 47 l) normal_kept;
  }

-- ---- what stands behind a name
not_kept : (c : List ℕ) → is_kept (c ++ []) ≡ true → is_kept c ≡ true
not_kept c is = subst (λ (l : List ℕ). is_kept l ≡ true) (append-nil c) is

pub kept_behind : (c s : List ℕ) → is_kept c ≡ true → is_kept (c ++ s) ≡ true
kept_behind [] s is = cc (is)
kept_behind (b ∷ []) [] is = is
kept_behind (b ∷ []) (x ∷ s) is = elim (nat_eq b 46) as (λ t. not (false || (t && false)) ≡ true) [ true ↦ refl | false ↦ refl ]
kept_behind (b ∷ c ∷ cs) s is = elim (nat_eq b 46) as (λ t. not (false || (t && false)) ≡ true) [ true ↦ refl | false ↦ refl ]

is_other : (b : ℕ) → nat_eq b 46 ≡ false → nat_eq 46 b ≡ false
is_other b is = grind (arith, nat_tests)

one_other : (b : ℕ) → is_kept (b ∷ []) ≡ true → nat_eq b 46 ≡ false
one_other b = elim (nat_eq b 46) as (λ t. not (false || (t && true)) ≡ true → t ≡ false) [ true ↦ λ is. sym is | false ↦ λ is. refl ]

two : (x y z : Bool) → (x && (y && true)) ≡ false → (x && (y && z)) ≡ false
two true true z is = cc
two true false z is = refl
two false y z is = refl

parent_behind : (c s : List ℕ) → is_kept c ≡ true → is_parent c ≡ false → is_parent (c ++ s) ≡ false
parent_behind [] s keeps is = cc (keeps)
parent_behind (b ∷ []) [] keeps is = is
parent_behind (b ∷ []) (x ∷ s) keeps is = ap (λ t. t && (nat_eq 46 x && bytes_eq [] s)) (is_other b (one_other b keeps))
parent_behind (b ∷ d ∷ []) s keeps is = two (nat_eq 46 b) (nat_eq 46 d) (bytes_eq [] s) is
parent_behind (b ∷ d ∷ e ∷ cs) s keeps is = is

absolute_behind : (n s : List ℕ) → Obeys n → is_absolute (n ++ s) ≡ false
absolute_behind [] s is = cc (is.empty)
absolute_behind (b ∷ n) s is = is.absolute

-- a component of a name
abbrev IsPart : List ℕ → Type 0
IsPart c = (is_kept c ≡ true) × (is_parent c ≡ false)

each_part : (cs : List (List ℕ)) → Each (λ c. is_kept c ≡ true) cs → Each (λ c. is_parent c ≡ false) cs → Each IsPart cs
each_part [] keeps is = tt
each_part (c ∷ cs) keeps is = ((keeps.0, is.0), each_part cs keeps.1 is.1)

part_kept : (cs : List (List ℕ)) → Each IsPart cs → Each (λ c. is_kept c ≡ true) cs
part_kept [] each = tt
part_kept (c ∷ cs) each = (each.0.0, part_kept cs each.1)

part_parent : (cs : List (List ℕ)) → Each IsPart cs → Each (λ c. is_parent c ≡ false) cs
part_parent [] each = tt
part_parent (c ∷ cs) each = (each.0.1, part_parent cs each.1)

-- all components of a name are kept
pub patch_components : (n : List ℕ) → IsPatchName n → components n ≡ kept n
patch_components n is = ap (λ (l : List ℕ). components l) (sym is.normal) ∙ normal_components n (obeys n is.lawful)

-- a text whose components are those of names is a name
module _ (text : List ℕ) (utf8 : IsUtf8 text) (control : Free is_control text) (absolute : is_absolute text ≡ false) (each : Each IsPart (components text)) where
  all_kept : kept text ≡ components text
  all_kept = filter_whole is_kept (components text) (part_kept (components text) each)

  pub patch_made : IsPatchName text
  patch_made = record {
    lawful = obeyed text (record {
      utf8 = utf8_whole text utf8;
      control = control;
      absolute = absolute;
      parent = each_any is_parent (components text) (part_parent (components text) each);
      empty = ap (λ (l : List (List ℕ)). is_empty l) all_kept ∙ components_some text;
    });
    normal = ap (λ (l : List (List ℕ)). join_with_byte 47 l) all_kept ∙ joined text;
  }

patch_parts : (n : List ℕ) → IsPatchName n → Each IsPart (components n)
patch_parts n name = each_part (components n)
    (subst (λ (l : List (List ℕ)). Each (λ c. is_kept c ≡ true) l) (sym (patch_components n name)) (filter_kept is_kept (components n)))
    (any_each is_parent (components n) (obeys n name.lawful).parent)

-- with an ending it is a name
pub patch_behind : (n e : List ℕ) → IsPatchName n → IsEnding e → IsUtf8 (n ++ e) → IsPatchName (n ++ e)
patch_behind n e name ending utf8 =
    let rules : Obeys n = obeys n name.lawful in
    patch_made (n ++ e) utf8 (append_free is_control n e rules.control ending.no_control) (absolute_behind n e rules)
    (subst (λ (l : List (List ℕ)). Each IsPart l) (sym (components_behind n e ending.no_slash))
    (each_last IsPart (components n) e (λ c part. (kept_behind c e part.0, parent_behind c e part.0 part.1)) (components_some n) (patch_parts n name)))

-- below a directory it is a name
pub patch_below : (d n : List ℕ) → IsPatchName d → IsPatchName n → IsUtf8 (d ++ 47 ∷ n) → IsPatchName (d ++ 47 ∷ n)
patch_below d n directory name utf8 =
    let rules : Obeys d = obeys d directory.lawful in
    patch_made (d ++ 47 ∷ n) utf8 (append_free is_control d (47 ∷ n) rules.control (obeys n name.lawful).control) (absolute_behind d (47 ∷ n) rules)
    (subst (λ (l : List (List ℕ)). Each IsPart l) (sym (components_slash d n))
    (each_append IsPart (components d) (components n) (patch_parts d directory) (patch_parts n name)))

-- ---- what stands before a name
pub kept_ahead : (c d : List ℕ) → is_kept d ≡ true → is_kept (c ++ d) ≡ true
kept_ahead [] d is = is
kept_ahead (b ∷ []) [] is = cc (is)
kept_ahead (b ∷ []) (x ∷ d) is = elim (nat_eq b 46) as (λ t. not (false || (t && false)) ≡ true) [ true ↦ refl | false ↦ refl ]
kept_ahead (b ∷ e ∷ c) d is = elim (nat_eq b 46) as (λ t. not (false || (t && false)) ≡ true) [ true ↦ refl | false ↦ refl ]

never : (x y : Bool) → (x && (y && false)) ≡ false
never true true = refl
never true false = refl
never false y = refl

second : (x y : Bool) → y ≡ false → (x && (y && true)) ≡ false
second true y is = simp is
second false y is = refl

parent_ahead : (c d : List ℕ) → is_kept d ≡ true → is_parent d ≡ false → is_parent (c ++ d) ≡ false
parent_ahead [] d keeps is = is
parent_ahead (b ∷ []) [] keeps is = cc (keeps)
parent_ahead (b ∷ []) (x ∷ []) keeps is = second (nat_eq 46 b) (nat_eq 46 x) (is_other x (one_other x keeps))
parent_ahead (b ∷ []) (x ∷ y ∷ d) keeps is = never (nat_eq 46 b) (nat_eq 46 x)
parent_ahead (b ∷ e ∷ []) [] keeps is = cc (keeps)
parent_ahead (b ∷ e ∷ []) (x ∷ d) keeps is = never (nat_eq 46 b) (nat_eq 46 e)
parent_ahead (b ∷ e ∷ f ∷ c) d keeps is = never (nat_eq 46 b) (nat_eq 46 e)

absolute_ahead : (f x n : List ℕ) → is_absolute (f ++ x) ≡ false → Obeys n → is_absolute (f ++ n) ≡ false
absolute_ahead [] x n is name = name.absolute
absolute_ahead (b ∷ f) x n is name = is

-- with a fitting front it is a name
pub patch_ahead : (f n : List ℕ) → IsPatchName (f ++ codes "x") → IsPatchName n → IsUtf8 (f ++ n) → IsPatchName (f ++ n)
patch_ahead f n front name utf8 =
    let rules : Obeys (f ++ codes "x") = obeys (f ++ codes "x") front.lawful in
    patch_made (f ++ n) utf8 (append_free is_control f n (front_free is_control f (codes "x") rules.control) (obeys n name.lawful).control)
    (absolute_ahead f (codes "x") n rules.absolute (obeys n name.lawful))
    (subst (λ (l : List (List ℕ)). Each IsPart l) (sym (components_ahead f n))
    (each_ahead IsPart (components f) (components n) (codes "x") (λ c d part. (kept_ahead c d part.0, parent_ahead c d part.0 part.1)) (components_some n)
    (subst (λ (l : List (List ℕ)). Each IsPart l) (components_ahead f (codes "x")) (patch_parts (f ++ codes "x") front)) (patch_parts n name)))

-- ---- one component
pub empty_component : (c : List ℕ) (b : Bool) → b ≡ true → b ≡ (length c == 0) → not b ≡ is_kept c
empty_component [] true is e = refl
empty_component (x ∷ xs) true is e = absurd (false≢true (sym (ne_eqb (length (x ∷ xs)) 0 (λ z. omega (arith, z))) ∙ sym e))
empty_component c false is e = cc

pub some_component : (c : List ℕ) → (length c == 0) ≡ false → not (bytes_eq c (codes ".")) ≡ is_kept c
some_component [] e = cc
some_component (x ∷ xs) e = refl

-- ---- what is refused
pub refused_rule : {X : Type 0} (r : NameRule) (o : Option NameRule) → Some r ≡ o → (rule : NameRule) → (◌≡◌ {A = Result X NameFault} (Err (Refused r)) (Err (Refused rule))) ↔ (o ≡ Some rule)
refused_rule r o e rule = (λ is. cc, λ is. cc)

pub refused_none : {X : Type 0} (x : X) (o : Option NameRule) → o ≡ None → (rule : NameRule) → (◌≡◌ {A = Result X NameFault} (Ok x) (Err (Refused rule))) ↔ (o ≡ Some rule)
refused_none x o e rule = (λ is. absurd cc, λ is. absurd cc)

pub refused_memory : {X : Type 0} (r : Result X NameFault) (o : Option NameRule) → o ≡ None → IsErrAnd r (λ e. e ≡ Memory) → (rule : NameRule) → (r ≡ Err (Refused rule)) ↔ (o ≡ Some rule)
refused_memory (Ok x) o e is rule = absurd is
refused_memory (Err y) o e is rule = (λ same. absurd cc, λ same. absurd cc)

-- ---- each rule, where those before it are kept
pub not_utf8 : (text : List ℕ) (n : ℕ) → IsValidUpTo text n → (utf8_valid_len text == length text) ≡ false
not_utf8 text n is = ap (λ m. m == length text) (utf8_valid_len-IsValidUpTo text n is) ∙ ne_eqb n (length text) (λ e. omega (arith, e, is.short))

pub rule_utf8 : (text : List ℕ) → (utf8_valid_len text == length text) ≡ false → Some NotUtf8 ≡ broken_rule text
rule_utf8 text a = rw a refl

pub kept_any : (cs : List (List ℕ)) → is_empty (filter is_kept cs) ≡ not (list_any is_kept cs)
kept_any [] = refl
kept_any (c ∷ cs) = elim (is_kept c) as (λ b. is_empty (cond b (c ∷ filter is_kept cs) (filter is_kept cs)) ≡ not (b || list_any is_kept cs)) [
  | true ↦ refl
  | false ↦ kept_any cs
]

pub rule_control : (text : List ℕ) → IsUtf8 text → list_any is_control text ≡ true → Some Control ≡ broken_rule text
rule_control text utf8 b = let a = utf8_whole text utf8 in rw (a, b) refl

pub rule_absolute : (text : List ℕ) → IsUtf8 text → list_any is_control text ≡ false → is_absolute text ≡ true → Some Absolute ≡ broken_rule text
rule_absolute text utf8 b c = let a = utf8_whole text utf8 in rw (a, b, c) refl

pub rule_parent : (text : List ℕ) → IsUtf8 text → list_any is_control text ≡ false → is_absolute text ≡ false → list_any is_parent (components text) ≡ true → Some Parent ≡ broken_rule text
rule_parent text utf8 b c d = let a = utf8_whole text utf8 in rw (a, b, c, d) refl

pub rule_empty : (text : List ℕ) → IsUtf8 text → list_any is_control text ≡ false → is_absolute text ≡ false → list_any is_parent (components text) ≡ false → list_any is_kept (components text) ≡ false → Some Empty ≡ broken_rule text
rule_empty text utf8 b c d e = let a = utf8_whole text utf8 in let f = kept_any (components text) in rw (a, b, c, d, f, e) refl

pub rule_none : (text : List ℕ) → IsUtf8 text → list_any is_control text ≡ false → is_absolute text ≡ false → list_any is_parent (components text) ≡ false → list_any is_kept (components text) ≡ true → None ≡ broken_rule text
rule_none text utf8 b c d e = let a = utf8_whole text utf8 in let f = kept_any (components text) in rw (a, b, c, d, f, e) refl

-- ---- the normal form, component by component
join_push : (cs : List (List ℕ)) (c : List ℕ) → is_empty cs ≡ false → join_with_byte 47 (cs ++ c ∷ []) ≡ join_with_byte 47 cs ++ 47 ∷ c
join_push [] c some = cc
join_push (d ∷ []) c some = refl
join_push (d ∷ e ∷ ds) c some = ap (λ (l : List ℕ). d ++ 47 ∷ l) (join_push (e ∷ ds) c refl) ∙ sym (append_assoc d (47 ∷ join_with_byte 47 (e ∷ ds)) (47 ∷ c))

with_joined : (cs : List (List ℕ)) (c : List ℕ) → Each (λ d. is_kept d ≡ true) cs → with_component (join_with_byte 47 cs) c ≡ join_with_byte 47 (cs ++ c ∷ [])
with_joined [] c each = refl
with_joined ([] ∷ ds) c each = cc (each.0)
with_joined ((b ∷ bs) ∷ []) c each = refl
with_joined ((b ∷ bs) ∷ e ∷ ds) c each = sym (join_push ((b ∷ bs) ∷ e ∷ ds) c refl)

module _ (q : List ℕ) (n m : ℕ) (c old : List ℕ) (within : n < length (components q)) (at : c ≡ get_or (components q) n c) (next : m ≡ n + 1) (so_far : old ≡ join_with_byte 47 (filter is_kept (take n (components q)))) where
  more : (b : Bool) → is_kept c ≡ b → filter is_kept (take m (components q)) ≡ filter is_kept (take n (components q)) ++ cond b (c ∷ []) []
  more b is =
      ap (λ k. filter is_kept (take k (components q))) next
      ∙ filter_more is_kept (components q) n c within
      ∙ ap (λ (d : List ℕ). filter is_kept (take n (components q)) ++ cond (is_kept d) (d ∷ []) []) (sym at)
      ∙ ap (λ t. filter is_kept (take n (components q)) ++ cond t (c ∷ []) []) is

  pub normal_more : (new : List ℕ) → is_kept c ≡ true → new ≡ with_component old c → new ≡ join_with_byte 47 (filter is_kept (take m (components q)))
  normal_more new is adds =
      adds
      ∙ ap (λ (l : List ℕ). with_component l c) so_far
      ∙ with_joined (filter is_kept (take n (components q))) c (filter_kept is_kept (take n (components q)))
      ∙ ap (λ (l : List (List ℕ)). join_with_byte 47 l) (sym (more true is))

  pub normal_skip : is_kept c ≡ false → old ≡ join_with_byte 47 (filter is_kept (take m (components q)))
  normal_skip is =
      so_far
      ∙ ap (λ (l : List (List ℕ)). join_with_byte 47 l) (sym (more false is ∙ append-nil (filter is_kept (take n (components q)))))
