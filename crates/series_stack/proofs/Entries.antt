-- The entries of a save, one behind the other.
use Rattle.std.proofs.Common.{◌≡◌, ℕ, zero, suc, ◌<◌, ◌≤◌, ◌^◌, List, [], ◌∷◌, ◌++◌, codes, length, take, drop, get_or, Bool, true, false, not, ◌&&◌, ◌||◌, cond, ◌==◌, bytes_eq, Option, Some, None, refl, sym, ◌∙◌, ap, subst, arith, append_assoc, length-append, drop-cons}
use Rattle.std.specs.Prelude.{option_map, is_none}
use Rattle.std.specs.List.{AllByRecursion, list_any}
use Rattle.std.proofs.lemmas.List.{take-append-drop, length-take-le}
use Rattle.std.proofs.lemmas.Bool.{eqb-true, false≢true}
use Rattle.std.proofs.lemmas.Option.{same_Some}
use Rattle.std.proofs.lemmas.Bool.Decides.{nat_tests}
use Rattle.std.proofs.Math.Seq.{take-append_seam}
use Rattle.outside.specs.Names.{is_control, broken_rule, normal_form}
use Rattle.outside.specs.Files.{is_temp}
use Rattle.outside.proofs.Lawful.{obeys}
use Rattle.num_text.specs.Numbers.{decimal}
use Rattle.series_stack.specs.Texts.{behind, cut, first_number}
use Rattle.series_stack.specs.Saves.{Entry, name_of, entry_text, save_text, is_saved, is_of_stack, IsShort, IsSaved, missing, held_file, behind_number, held, held_or_none, missing_or, first_entry, if_saved, and_more, entries_within, entries_of}
use Rattle.series_stack.specs.Saves.Entry.{Missing, Held}
use Rattle.series_stack.proofs.Fronts.{behind-sound, behind-again, cut-sound, cut-again, FreeOfFeeds, number-sound, number-behind, same_bytes}

-- ---- one entry that is read
-- it stands at the front
pub record Stands (text : List ℕ) (x : Entry × List ℕ) : Type 0 where
  pub parts : text ≡ entry_text x.0 ++ x.1
  pub short : IsShort x.0

missing-sound : (text rest : List ℕ) → text ≡ codes "none " ++ rest → (o : Option (List ℕ × List ℕ)) → cut rest ≡ o → (x : Entry × List ℕ) → missing o ≡ Some x → Stands text x
missing-sound text rest front None c x e = absurd cc
missing-sound text rest front (Some y) c x e =
    let found : Entry × List ℕ = (Missing y.0, y.1) in
    let same : found ≡ x = cc in
    subst (λ (z : Entry × List ℕ). Stands text z) same record {
      parts = front
          ∙ ap (λ (l : List ℕ). codes "none " ++ l) (cut-sound rest y c ∙ append-behind y.0 y.1)
          ∙ sym (append_assoc (codes "none ") (y.0 ++ 10 ∷ []) y.1);
      short = tt;
    }
  where
    append-behind : (a b : List ℕ) → a ++ 10 ∷ b ≡ (a ++ 10 ∷ []) ++ b
    append-behind a b = sym (append_assoc a (10 ∷ []) b)

-- behind the length stands the name's line with what is behind it
file-text : (n : ℕ) (name bytes more : List ℕ) → n ≡ length bytes → codes "file " ++ (decimal n ++ 32 ∷ (name ++ 10 ∷ (bytes ++ 10 ∷ more))) ≡ entry_text (Held name bytes) ++ more
file-text n name bytes more is =
    ap (λ (k : ℕ). codes "file " ++ (decimal k ++ 32 ∷ (name ++ 10 ∷ (bytes ++ 10 ∷ more)))) is
    ∙ sym (append_assoc (codes "file ") (decimal (length bytes) ++ 32 ∷ (name ++ 10 ∷ (bytes ++ 10 ∷ []))) more
    ∙ ap (λ (l : List ℕ). codes "file " ++ l)
    (append_assoc (decimal (length bytes)) (32 ∷ (name ++ 10 ∷ (bytes ++ 10 ∷ []))) more
    ∙ ap (λ (l : List ℕ). decimal (length bytes) ++ 32 ∷ l)
    (append_assoc name (10 ∷ (bytes ++ 10 ∷ [])) more
    ∙ ap (λ (l : List ℕ). name ++ 10 ∷ l) (append_assoc bytes (10 ∷ []) more))))

fed-within : (n : ℕ) (m : List ℕ) → get_or m n 0 ≡ 10 → n < length m
fed-within n [] e = absurd (let no : zero ≡ 10 = e in let bad : ⊥ = omega (arith, no) in bad)
fed-within zero (b ∷ bs) e = omega arith
fed-within (suc n) (b ∷ bs) e = let h : n < length bs = fed-within n bs e in omega (arith, h)

-- so many bytes, and a line feed behind them
fed : (count : ℕ) (l : List ℕ) → get_or l count 0 ≡ 10 → (count < length l) × (l ≡ take count l ++ 10 ∷ drop (suc count) l)
fed count l is =
    let lt : count < length l = fed-within count l is in
    (lt, sym (take-append-drop count l) ∙ ap (λ (m : List ℕ). take count l ++ m) (drop-cons l count 0 lt ∙ ap (λ (b : ℕ). b ∷ drop (suc count) l) is))

held-sound : (text : List ℕ) (count : ℕ) (line : List ℕ) → text ≡ codes "file " ++ (decimal count ++ 32 ∷ line) → count < 2 ^ 32 → (o : Option (List ℕ × List ℕ)) → cut line ≡ o → (x : Entry × List ℕ) → held_file count o ≡ Some x → Stands text x
held-sound text count line front small None c x e = absurd cc
held-sound text count line front small (Some y) c x e = by (get_or y.1 count 0 == 10) refl e
  where
    by : (v : Bool) → (get_or y.1 count 0 == 10) ≡ v → cond v (Some (Held y.0 (take count y.1), drop (suc count) y.1)) None ≡ Some x → Stands text x
    by true is h =
        let ends = fed count y.1 (eqb-true (get_or y.1 count 0) 10 is) in
        let long : count ≡ length (take count y.1) = sym (length-take-le count y.1 (let le : count ≤ length y.1 = omega (arith, ends.0) in le)) in
        let found : Entry × List ℕ = (Held y.0 (take count y.1), drop (suc count) y.1) in
        let same : found ≡ x = cc in
        subst (λ (z : Entry × List ℕ). Stands text z) same record {
          parts = front
              ∙ ap (λ (l : List ℕ). codes "file " ++ (decimal count ++ 32 ∷ l)) (cut-sound line y c ∙ ap (λ (l : List ℕ). y.0 ++ 10 ∷ l) ends.1)
              ∙ file-text count y.0 (take count y.1) (drop (suc count) y.1) long;
          short = subst (λ (k : ℕ). k < 2 ^ 32) long small;
        }
    by false is h = absurd cc

number_behind-sound : (text : List ℕ) (count : ℕ) (rest : List ℕ) → text ≡ codes "file " ++ (decimal count ++ rest) → count < 2 ^ 32 → (x : Entry × List ℕ) → behind_number count rest ≡ Some x → Stands text x
number_behind-sound text count [] front small x e = absurd cc
number_behind-sound text count (b ∷ bs) front small x e = by (b == 32) refl e
  where
    by : (v : Bool) → (b == 32) ≡ v → cond v (held_file count (cut bs)) None ≡ Some x → Stands text x
    by true is h = held-sound text count bs (front ∙ ap (λ (k : ℕ). codes "file " ++ (decimal count ++ k ∷ bs)) (eqb-true b 32 is)) small (cut bs) refl x h
    by false is h = absurd cc

file-sound : (text rest : List ℕ) → text ≡ codes "file " ++ rest → (o : Option (ℕ × List ℕ)) → first_number rest ≡ o → (x : Entry × List ℕ) → held o ≡ Some x → Stands text x
file-sound text rest front None n x e = absurd cc
file-sound text rest front (Some y) n x e =
    let s = number-sound rest y n in
    number_behind-sound text y.0 y.1 (front ∙ ap (λ (l : List ℕ). codes "file " ++ l) s.0) s.1 x e

file_or-sound : (text : List ℕ) (o : Option (List ℕ)) → behind (codes "file ") text ≡ o → (x : Entry × List ℕ) → held_or_none o ≡ Some x → Stands text x
file_or-sound text None f x e = absurd cc
file_or-sound text (Some rest) f x e = file-sound text rest (behind-sound (codes "file ") text rest f) (first_number rest) refl x e

first_or-sound : (text : List ℕ) (o : Option (List ℕ)) → behind (codes "none ") text ≡ o → (x : Entry × List ℕ) → missing_or o (behind (codes "file ") text) ≡ Some x → Stands text x
first_or-sound text None n x e = file_or-sound text (behind (codes "file ") text) refl x e
first_or-sound text (Some rest) n x e = missing-sound text rest (behind-sound (codes "none ") text rest n) (cut rest) refl x e

pub first-sound : (text : List ℕ) (x : Entry × List ℕ) → first_entry text ≡ Some x → Stands text x
unfolding first_entry
first-sound text x e = first_or-sound text (behind (codes "none ") text) refl x e

-- ---- one entry that was written
-- a name that may be saved has no line feed
no_feed : (c : ℕ) → is_control c ≡ false → (c == 10) ≡ false
no_feed c is = grind (arith, nat_tests)

free-by : (b : ℕ) (bs : List ℕ) → (list_any is_control bs ≡ false → FreeOfFeeds bs) → (v : Bool) → is_control b ≡ v → (v || list_any is_control bs) ≡ false → FreeOfFeeds (b ∷ bs)
free-by b bs tail true is h = absurd cc
free-by b bs tail false is h = (no_feed b is, tail h)

each_free : (l : List ℕ) → list_any is_control l ≡ false → FreeOfFeeds l
each_free [] e = tt
each_free (b ∷ bs) e = free-by b bs (λ h. each_free bs h) (is_control b) refl e

pub record Lawful (name : List ℕ) : Type 0 where
  pub obeys : broken_rule name ≡ None
  pub normal : normal_form name ≡ name
  pub lasting : is_temp name ≡ false
  pub apart : is_of_stack name ≡ false

all-four : (a b c d : Bool) → (a && (b && (not c && not d))) ≡ true → (a ≡ true) × ((b ≡ true) × ((c ≡ false) × (d ≡ false)))
all-four true true false false h = (refl, (refl, (refl, refl)))
all-four true true false true h = absurd (false≢true h)
all-four true true true d h = absurd (false≢true h)
all-four true false c d h = absurd (false≢true h)
all-four false b c d h = absurd (false≢true h)

none-broken : {A : Type 0} (o : Option A) → is_none o ≡ true → o ≡ None
none-broken None e = refl
none-broken (Some a) e = absurd (false≢true e)

pub lawful : (name : List ℕ) → is_saved name ≡ true → Lawful name
lawful name e =
    let p = all-four (is_none (broken_rule name)) (bytes_eq (normal_form name) name) (is_temp name) (is_of_stack name) e in
    record { obeys = none-broken (broken_rule name) p.0; normal = same_bytes (normal_form name) name p.1.0; lasting = p.1.1.0; apart = p.1.1.1 }

name-free : (name : List ℕ) → is_saved name ≡ true → FreeOfFeeds name
name-free name is = each_free name (obeys name (lawful name is).obeys).control

missing-again : (name more : List ℕ) → is_saved name ≡ true → first_entry (entry_text (Missing name) ++ more) ≡ Some (Missing name, more)
unfolding first_entry
missing-again name more is =
    ap (λ (l : List ℕ). first_entry l) (append_assoc (codes "none ") (name ++ 10 ∷ []) more ∙ ap (λ (l : List ℕ). codes "none " ++ l) (append_assoc name (10 ∷ []) more))
    ∙ ap (λ o. missing_or o (behind (codes "file ") (codes "none " ++ (name ++ 10 ∷ more)))) (behind-again (codes "none ") (name ++ 10 ∷ more))
    ∙ ap (λ o. missing o) (cut-again name more (name-free name is))

at-seam : (a : List ℕ) (b : ℕ) (c : List ℕ) → get_or (a ++ b ∷ c) (length a) 0 ≡ b
at-seam [] b c = refl
at-seam (x ∷ a) b c = at-seam a b c

past-seam : (a : List ℕ) (b : ℕ) (c : List ℕ) → drop (suc (length a)) (a ++ b ∷ c) ≡ c
past-seam [] b c = refl
past-seam (x ∷ a) b c = past-seam a b c

file-again : (name bytes more : List ℕ) → is_saved name ≡ true → held_file (length bytes) (cut (name ++ 10 ∷ (bytes ++ 10 ∷ more))) ≡ Some (Held name bytes, more)
file-again name bytes more is =
    let feed : get_or (bytes ++ 10 ∷ more) (length bytes) 0 ≡ 10 = at-seam bytes 10 more in
    let tail : drop (suc (length bytes)) (bytes ++ 10 ∷ more) ≡ more = past-seam bytes 10 more in
    ap (λ o. held_file (length bytes) o) (cut-again name (bytes ++ 10 ∷ more) (name-free name is))
    ∙ rw (feed, take-append_seam bytes (10 ∷ more), tail) refl

held-again : (name bytes more : List ℕ) → is_saved name ≡ true → length bytes < 2 ^ 32 → first_entry (entry_text (Held name bytes) ++ more) ≡ Some (Held name bytes, more)
unfolding first_entry
held-again name bytes more is small =
    let line : List ℕ = name ++ 10 ∷ (bytes ++ 10 ∷ more) in
    ap (λ (l : List ℕ). first_entry l) (sym (file-text (length bytes) name bytes more refl))
    ∙ ap (λ o. held_or_none o) (behind-again (codes "file ") (decimal (length bytes) ++ 32 ∷ line))
    ∙ ap (λ o. held o) (number-behind (length bytes) (32 ∷ line) small refl)
    ∙ file-again name bytes more is

first-again : (e : Entry) (more : List ℕ) → IsSaved e → if_saved (first_entry (entry_text e ++ more)) ≡ Some (e, more)
first-again (Missing name) more s = ap (λ o. if_saved o) (missing-again name more s.name) ∙ rw s.name refl
first-again (Held name bytes) more s = ap (λ o. if_saved o) (held-again name bytes more s.name s.short) ∙ rw s.name refl

-- ---- all of them
some-where : {A : Type 0} (v : Bool) (y x : A) → cond v (Some y) None ≡ Some x → (v ≡ true) × (y ≡ x)
some-where true y x h = (refl, same_Some y x h)
some-where false y x h = absurd cc

saved-sound : (o : Option (Entry × List ℕ)) (x : Entry × List ℕ) → if_saved o ≡ Some x → (o ≡ Some x) × (is_saved (name_of x.0) ≡ true)
saved-sound None x e = absurd cc
saved-sound (Some y) x e =
    let p = some-where (is_saved (name_of y.0)) y x e in
    (ap Some p.1, ap (λ (z : Entry × List ℕ). is_saved (name_of z.0)) (sym p.1) ∙ p.0)

some_text : (e : Entry) → 0 < length (entry_text e)
some_text (Missing name) = omega arith
some_text (Held name bytes) = omega arith

-- what is left is shorter
pub shorter : (text : List ℕ) (x : Entry × List ℕ) → if_saved (first_entry text) ≡ Some x → length x.1 < length text
shorter text x e =
    let parts = (first-sound text x (saved-sound (first_entry text) x e).0).parts in
    omega (arith, ap (λ (l : List ℕ). length l) parts, length-append (entry_text x.0) x.1, some_text x.0)

more-same : (f g : List ℕ → Option (List Entry)) (o : Option (Entry × List ℕ)) → ((x : Entry × List ℕ) → o ≡ Some x → f x.1 ≡ g x.1) → and_more f o ≡ and_more g o
more-same f g None same = refl
more-same f g (Some x) same = ap (λ r. option_map (λ es. x.0 ∷ es) r) (same x refl)

within-nil : (n : ℕ) → entries_within n [] ≡ Some []
unfolding entries_within
within-nil zero = refl
within-nil (suc n) = refl

within-cons : (n b : ℕ) (bs : List ℕ) → entries_within (suc n) (b ∷ bs) ≡ and_more (entries_within n) (if_saved (first_entry (b ∷ bs)))
unfolding entries_within
within-cons n b bs = refl

within-zero : (b : ℕ) (bs : List ℕ) → entries_within zero (b ∷ bs) ≡ None
unfolding entries_within
within-zero b bs = refl

enough : (m n : ℕ) (text : List ℕ) → length text ≤ m → length text ≤ n → entries_within m text ≡ entries_within n text
enough m n [] lm ln = within-nil m ∙ sym (within-nil n)
enough zero n (b ∷ bs) lm ln = absurd (let no : ⊥ = omega (arith, lm) in no)
enough (suc m) zero (b ∷ bs) lm ln = absurd (let no : ⊥ = omega (arith, ln) in no)
enough (suc m) (suc n) (b ∷ bs) lm ln =
    within-cons m b bs
    ∙ more-same (entries_within m) (entries_within n) (if_saved (first_entry (b ∷ bs)))
    (λ x e. let lt = shorter (b ∷ bs) x e in enough m n x.1 (omega (arith, lt, lm)) (omega (arith, lt, ln)))
    ∙ sym (within-cons n b bs)

pub entries-nil : entries_of [] ≡ Some []
unfolding entries_of
entries-nil = within-nil 0

-- the entry at the front, and those behind it
pub entries-cons : (b : ℕ) (bs : List ℕ) → entries_of (b ∷ bs) ≡ and_more entries_of (if_saved (first_entry (b ∷ bs)))
unfolding entries_of
entries-cons b bs =
    within-cons (length bs) b bs
    ∙ more-same (entries_within (length bs)) entries_of (if_saved (first_entry (b ∷ bs)))
    (λ x e. let lt = shorter (b ∷ bs) x e in enough (length bs) (length x.1) x.1 (omega (arith, lt)) (omega arith))

entries-front : (e : Entry) (more : List ℕ) → entries_of (entry_text e ++ more) ≡ and_more entries_of (if_saved (first_entry (entry_text e ++ more)))
entries-front (Missing name) more = entries-cons 110 _
entries-front (Held name bytes) more = entries-cons 102 _

pub entries-again : (es : List Entry) → AllByRecursion IsSaved es → entries_of (save_text es) ≡ Some es
entries-again [] all = entries-nil
entries-again (e ∷ es) all =
    entries-front e (save_text es)
    ∙ ap (λ o. and_more entries_of o) (first-again e (save_text es) all.0)
    ∙ ap (λ o. option_map (λ ds. e ∷ ds) o) (entries-again es all.1)

-- a text of entries that may be saved
pub record IsTextOf (bytes : List ℕ) (es : List Entry) : Type 0 where
  pub text : bytes ≡ save_text es
  pub saved : AllByRecursion IsSaved es

more-sound : (text : List ℕ) (f : List ℕ → Option (List Entry)) (o : Option (Entry × List ℕ)) → if_saved (first_entry text) ≡ o
    → ((x : Entry × List ℕ) (ds : List Entry) → o ≡ Some x → f x.1 ≡ Some ds → IsTextOf x.1 ds) → (es : List Entry) → and_more f o ≡ Some es → IsTextOf text es
more-sound text f None first tail es e = absurd cc
more-sound text f (Some x) first tail es e = by (f x.1) refl e
  where
    by : (r : Option (List Entry)) → f x.1 ≡ r → option_map (λ ds. x.0 ∷ ds) r ≡ Some es → IsTextOf text es
    by None is h = absurd cc
    by (Some ds) is h =
        let same : x.0 ∷ ds ≡ es = cc in
        let rest = tail x ds refl is in
        let s = saved-sound (first_entry text) x first in
        let at = first-sound text x s.0 in
        subst (λ (l : List Entry). IsTextOf text l) same record {
          text = at.parts ∙ ap (λ (l : List ℕ). entry_text x.0 ++ l) rest.text;
          saved = (record { name = s.1; short = at.short }, rest.saved);
        }

within-sound : (n : ℕ) (text : List ℕ) (es : List Entry) → entries_within n text ≡ Some es → IsTextOf text es
within-sound n [] es e =
    let same : [] ≡ es = (let h : ◌≡◌ {A = Option (List Entry)} (Some []) (Some es) = sym (within-nil n) ∙ e in cc) in
    subst (λ (l : List Entry). IsTextOf [] l) same record { text = refl; saved = tt }
within-sound zero (b ∷ bs) es e = absurd (let h : ◌≡◌ {A = Option (List Entry)} None (Some es) = sym (within-zero b bs) ∙ e in cc)
within-sound (suc n) (b ∷ bs) es e =
    more-sound (b ∷ bs) (entries_within n) (if_saved (first_entry (b ∷ bs))) refl (λ x ds is h. within-sound n x.1 ds h) es (sym (within-cons n b bs) ∙ e)

pub entries-sound : (text : List ℕ) (es : List Entry) → entries_of text ≡ Some es → IsTextOf text es
unfolding entries_of
entries-sound text es e = within-sound (length text) text es e

-- ---- the entry at the front, by its word
pub first-missing : (text rest : List ℕ) → Some rest ≡ behind (codes "none ") text → first_entry text ≡ missing (cut rest)
unfolding first_entry
first-missing text rest is = ap (λ o. missing_or o (behind (codes "file ") text)) (sym is)

pub first-file : (text : List ℕ) → ◌≡◌ {A = Option (List ℕ)} None (behind (codes "none ") text) → first_entry text ≡ held_or_none (behind (codes "file ") text)
unfolding first_entry
first-file text is = ap (λ o. missing_or o (behind (codes "file ") text)) (sym is)
