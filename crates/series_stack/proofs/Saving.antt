-- Whether a name may be saved, and a save that is read entry by entry.
use Rattle.std.proofs.Common.{◌≡◌, ◌≢◌, ℕ, suc, List, [], ◌∷◌, length, Bool, true, false, not, ◌==◌, ◌&&◌, bytes_eq, is_some, IsSome, Option, Some, None, inl, inr, refl, sym, ◌∙◌, ap, subst, arith}
use Rattle.std.specs.Prelude.{option_map, IsSomeAnd}
use Rattle.std.proofs.lemmas.Bool.{eqb-true, false≢true}
use Rattle.outside.specs.declared.name.NameRule.{NameRule}
use Rattle.outside.specs.Names.{broken_rule, normal_form}
use Rattle.outside.specs.Files.{is_temp}
use Rattle.series_stack.specs.Saves.{Entry, is_saved, is_of_stack, first_entry, if_saved, and_more, entries_of, name_of}
use Rattle.series_stack.specs.Found.{entry_with}
use Rattle.series_stack.specs.Causes.{IsBadOr}
use Rattle.series_stack.specs.declared.fault.StackFault.{StackFault}
use Rattle.series_stack.specs.declared.fault.StateFile.{StateFile}
use Rattle.series_stack.proofs.Fronts.{same_bytes}
use Rattle.series_stack.proofs.Entries.{entries-nil, entries-cons}

pub unlawful : (text : List ℕ) (rule : NameRule) → broken_rule text ≡ Some rule → is_saved text ≡ false
unlawful text rule is = rw is refl

pub saved-is : (name text : List ℕ) → broken_rule text ≡ None → name ≡ normal_form text → is_saved text ≡ (bytes_eq name text && (not (is_temp name) && not (is_of_stack text)))
saved-is name text lawful is = (rw lawful refl) ∙ by (bytes_eq (normal_form text) text) refl ∙ ap (λ (n : List ℕ). bytes_eq n text && (not (is_temp n) && not (is_of_stack text))) (sym is)
  where
    by : (v : Bool) → bytes_eq (normal_form text) text ≡ v
        → (bytes_eq (normal_form text) text && (not (is_temp text) && not (is_of_stack text))) ≡ (bytes_eq (normal_form text) text && (not (is_temp (normal_form text)) && not (is_of_stack text)))
    by true same = ap (λ (n : List ℕ). bytes_eq (normal_form text) text && (not (is_temp n) && not (is_of_stack text))) (sym (same_bytes (normal_form text) text same))
    by false differs = rw differs refl

-- ---- entry by entry
entries-front : (text : List ℕ) → text ≢ [] → entries_of text ≡ and_more entries_of (if_saved (first_entry text))
entries-front [] some = absurd (some refl)
entries-front (b ∷ bs) some = entries-cons b bs

some_more : (e : Entry) (o : Option (List Entry)) → is_some (option_map (λ es. e ∷ es) o) ≡ is_some o
some_more e None = refl
some_more e (Some es) = refl

-- a text whose first entry may be saved is a save where the rest is one
pub front-same : (text : List ℕ) → text ≢ [] → (x : Entry × List ℕ) → if_saved (first_entry text) ≡ Some x → is_some (entries_of text) ≡ is_some (entries_of x.1)
front-same text some x first = ap is_some (entries-front text some ∙ ap (λ o. and_more entries_of o) first) ∙ some_more x.0 (entries_of x.1)

pub front-none : (text : List ℕ) → text ≢ [] → if_saved (first_entry text) ≡ None → entries_of text ≡ None
front-none text some first = entries-front text some ∙ ap (λ o. and_more entries_of o) first

pub is_some-none : {A : Type 0} (o : Option A) → is_some o ≡ false → o ≡ None
is_some-none None is = refl
is_some-none (Some a) is = absurd cc

-- what is read of a save: the entry at the front, and the entries behind it
pub record Ahead (text : List ℕ) (left : List Entry) : Type 0 where
  pub entry : Entry
  pub rest : List ℕ
  pub more : List Entry
  pub first : if_saved (first_entry text) ≡ Some (entry, rest)
  pub behind : entries_of rest ≡ Some more
  pub all : left ≡ entry ∷ more

ahead-by : (text : List ℕ) (left : List Entry) (o : Option (Entry × List ℕ)) → if_saved (first_entry text) ≡ o → and_more entries_of o ≡ Some left → Ahead text left
ahead-by text left None first e = absurd cc
ahead-by text left (Some x) first e = by (entries_of x.1) refl e
  where
    by : (r : Option (List Entry)) → entries_of x.1 ≡ r → option_map (λ es. x.0 ∷ es) r ≡ Some left → Ahead text left
    by None is h = absurd cc
    by (Some es) is h = record { entry = x.0; rest = x.1; more = es; first = first; behind = is; all = (let same : x.0 ∷ es ≡ left = cc in sym same) }

pub ahead : (text : List ℕ) (left : List Entry) → text ≢ [] → entries_of text ≡ Some left → Ahead text left
ahead text left some e = ahead-by text left (if_saved (first_entry text)) refl (sym (entries-front text some) ∙ e)

pub none_left : (left : List Entry) → entries_of [] ≡ Some left → left ≡ []
none_left left e = (let h : ◌≡◌ {A = Option (List Entry)} (Some []) (Some left) = sym entries-nil ∙ e in let same : [] ≡ left = cc in sym same)

-- ---- an entry as it was found
pub name-with : (name : List ℕ) (o : Option (List ℕ)) → name_of (entry_with name o) ≡ name
name-with name None = refl
name-with name (Some bytes) = refl

pub saved-some : (o : Option (Entry × List ℕ)) (x : Entry × List ℕ) → Some x ≡ o → is_saved (name_of x.0) ≡ true → if_saved o ≡ Some x
saved-some o x is saved = ap (λ p. if_saved p) (sym is) ∙ rw saved refl

pub saved-none : (o : Option (Entry × List ℕ)) (x : Entry × List ℕ) → Some x ≡ o → is_saved (name_of x.0) ≡ false → if_saved o ≡ None
saved-none o x is saved = ap (λ p. if_saved p) (sym is) ∙ rw saved refl

pub is-some_and : {A : Type 0} (P : A → Type 0) (o : Option A) (x : A) → o ≡ Some x → P x → IsSomeAnd o P
is-some_and P o x is p = subst (λ q. IsSomeAnd q P) (sym is) p

pub some_and : {A : Type 0} (P : A → Type 0) (o : Option A) → IsSomeAnd o P → (x : A) × (o ≡ Some x) × P x
some_and P None is = absurd is
some_and P (Some x) is = (x, refl, is)

-- ---- whether something is left
pub some_left : (l : List ℕ) → (length l == 0) ≡ false → l ≢ []
some_left [] is e = absurd cc
some_left (b ∷ bs) is e = absurd cc

pub nothing_left : (l : List ℕ) → (length l == 0) ≡ true → l ≡ []
nothing_left [] is = refl
nothing_left (b ∷ bs) is = absurd (let no : suc (length bs) ≡ 0 = eqb-true (suc (length bs)) 0 is in let bad : ⊥ = omega (arith, no) in bad)

pub some_is : {A : Type 0} (o : Option A) → is_some o ≡ true → IsSome o
some_is None is = absurd cc
some_is (Some a) is = refl

pub saved-end : (text rest : List ℕ) → is_some (entries_of text) ≡ is_some (entries_of rest) → (length rest == 0) ≡ true → IsSome (entries_of text)
saved-end text rest same end = some_is (entries_of text) (same ∙ ap (λ (l : List ℕ). is_some (entries_of l)) (nothing_left rest end) ∙ ap is_some entries-nil)

-- ---- whether a name may be saved, test by test
pub not-same : (same x : Bool) → true ≡ not same → false ≡ (same && x)
not-same true x e = absurd (false≢true (sym e))
not-same false x e = refl

pub not-lasting : (same temp x : Bool) → true ≡ temp → false ≡ (same && (not temp && x))
not-lasting same true x e = by same
  where
    by : (v : Bool) → false ≡ (v && false)
    by true = refl
    by false = refl
not-lasting same false x e = absurd (false≢true (sym e))

pub is-apart : (same temp x r : Bool) → false ≡ not same → false ≡ temp → r ≡ x → not r ≡ (same && (not temp && not x))
is-apart true false x r e f is = ap not is
is-apart true true x r e f is = absurd (false≢true f)
is-apart false temp x r e f is = absurd (false≢true e)

-- what is bad of a part is bad of the whole
pub bad_then : {A B : Type 0} {file : StateFile} (e : StackFault) → (A → B) → IsBadOr e file A → IsBadOr e file B
bad_then e f (inl memory) = inl memory
bad_then e f (inr bad) = inr (bad.0, f bad.1)
