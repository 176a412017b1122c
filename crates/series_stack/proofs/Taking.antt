-- A save that is taken name by name.
use Rattle.std.proofs.Common.{◌≡◌, ℕ, suc, get_or, ◌<◌, ◌≤◌, ◌^◌, List, [], ◌∷◌, ◌++◌, length, take, drop, drop-cons, min, map, Bool, true, false, cond, ltb, Option, Some, None, is_some, IsSome, unwrap_or, Result, Ok, Err, IfErr, OnOk, codes, append_assoc, refl, sym, ◌∙◌, ap, subst, arith}
use Rattle.std.specs.Prelude.{option_map}
use Rattle.std.specs.Result.{IsErrAnd}
use Rattle.std.proofs.lemmas.Bool.{ltb-true, lt-ltb}
use Rattle.std.proofs.lemmas.Grind.{flat_map-append}
use Rattle.std.proofs.lemmas.List.{length-take, append-nil, map-append, take-append-drop, take_all}
use Rattle.std.proofs.lemmas.Option.{same_Some}
use Rattle.std.specs.List.{AllByRecursion}
use Rattle.std.specs.FinMap.{get}
use Rattle.num_text.specs.Numbers.{decimal}
use Rattle.outside.specs.Files.{Files, bytes_at}
use Rattle.outside.specs.TreeView.{TreeView}
use Rattle.outside.specs.Calls.{IsUntouched, untouched_none, untouched_both}
use Rattle.outside.proofs.Views.{rises_then}
use Rattle.series_stack.specs.declared.fault.StackFault.{StackFault}
use Rattle.series_stack.specs.declared.fault.StackFault.TheVariants.{BadState, FileTooLong, Tree, Disagree, Memory}
use Rattle.series_stack.specs.Saves.{Entry, IsSaved, IsShort, name_of, entry_text, save_text, entries_of}
use Rattle.series_stack.specs.Saves.Entry.{Missing, Held}
use Rattle.series_stack.specs.Found.{entry_with}
use Rattle.series_stack.specs.Undoing.{entries_at}
use Rattle.series_stack.specs.Taking.{too_long, AreSaved, HasEntryMore, HasEntryCause, HasTakeCause}
use Rattle.series_stack.proofs.Entries.{entries-again}
use Rattle.series_stack.proofs.Saving.{name-with}

-- ---- files that are too long
held_more : (bytes : List ℕ) (es ds : List Entry) → (too_long es ≡ None → too_long (es ++ ds) ≡ too_long ds) → (v : Bool) → cond v (too_long es) (Some (length bytes)) ≡ None → cond v (too_long (es ++ ds)) (Some (length bytes)) ≡ too_long ds
held_more bytes es ds more true short = more short
held_more bytes es ds more false short = absurd cc

pub too_long-more : (es ds : List Entry) → too_long es ≡ None → too_long (es ++ ds) ≡ too_long ds
unfolding too_long
too_long-more [] ds short = refl
too_long-more (Missing name ∷ es) ds short = too_long-more es ds short
too_long-more (Held name bytes ∷ es) ds short = held_more bytes es ds (too_long-more es ds) (ltb (length bytes) (2 ^ 32)) short

one_short : (name : List ℕ) (o : Option (List ℕ)) → length (unwrap_or o []) < 2 ^ 32 → too_long (entry_with name o ∷ []) ≡ None
unfolding too_long
one_short name None small = refl
one_short name (Some bytes) small = (let lt : ltb (length bytes) (2 ^ 32) ≡ true = lt-ltb (length bytes) (2 ^ 32) small in rw lt refl)

not_below : (n m : ℕ) → m ≤ n → ltb n m ≡ false
not_below n m le = by (ltb n m) refl
  where
    by : (v : Bool) → ltb n m ≡ v → v ≡ false
    by true is = (let lt = ltb-true n m is in let bad : ⊥ = omega (arith, lt, le) in absurd bad)
    by false is = refl

one_long : (name : List ℕ) (o : Option (List ℕ)) (size : ℕ) (ds : List Entry) → option_map length o ≡ Some size → 2 ^ 32 ≤ size → too_long (entry_with name o ∷ ds) ≡ Some size
unfolding too_long
one_long name None size ds is large = absurd cc
one_long name (Some bytes) size ds is large =
    let same : length bytes ≡ size = same_Some _ _ is in
    let no_less : ltb (length bytes) (2 ^ 32) ≡ false = not_below (length bytes) (2 ^ 32) (omega (arith, same, large)) in
    rw no_less (ap (λ (n : ℕ). Some n) same)

-- ---- entries that may be saved
held_short : (bytes : List ℕ) (es : List Entry) → (too_long es ≡ None → AllByRecursion IsShort es) → (v : Bool) → ltb (length bytes) (2 ^ 32) ≡ v → cond v (too_long es) (Some (length bytes)) ≡ None → (length bytes < 2 ^ 32) × AllByRecursion IsShort es
held_short bytes es more true small short = (ltb-true (length bytes) (2 ^ 32) small, more short)
held_short bytes es more false small short = absurd cc

pub short-all : (es : List Entry) → too_long es ≡ None → AllByRecursion IsShort es
unfolding too_long
short-all [] short = tt
short-all (Missing name ∷ es) short = (tt, short-all es short)
short-all (Held name bytes ∷ es) short = held_short bytes es (short-all es) (ltb (length bytes) (2 ^ 32)) refl short

saved-all : (es : List Entry) → AllByRecursion IsShort es → AreSaved (map name_of es) → AllByRecursion IsSaved es
saved-all [] short saved = tt
saved-all (e ∷ es) short saved = (record { name = saved.0; short = short.0 }, saved-all es short.1 saved.1)

pub names-entries : (f : Files) (names : List (List ℕ)) → map name_of (entries_at f names) ≡ names
names-entries f [] = refl
names-entries f (n ∷ names) = ap (λ (x : List ℕ). x ∷ map name_of (entries_at f names)) (name-with n (get f n)) ∙ ap (λ (l : List (List ℕ)). n ∷ l) (names-entries f names)

entries-read : (es : List Entry) (names : List (List ℕ)) → map name_of es ≡ names → AllByRecursion IsShort es → AreSaved names → entries_of (save_text es) ≡ Some es
entries-read es names named short saved = entries-again es (saved-all es short (subst AreSaved (sym named) saved))

pub save-read : (f : Files) (names : List (List ℕ)) → AreSaved names → too_long (entries_at f names) ≡ None → entries_of (save_text (entries_at f names)) ≡ Some (entries_at f names)
save-read f names saved short = entries-read (entries_at f names) names (names-entries f names) (short-all (entries_at f names) short) saved

-- a file's entry from its head and its bytes
pub entry_joined : (old name bytes : List ℕ) (size : ℕ) → length bytes ≡ size → (old ++ (codes "file " ++ (decimal size ++ 32 ∷ (name ++ 10 ∷ [])))) ++ (bytes ++ 10 ∷ []) ≡ old ++ entry_text (Held name bytes)
entry_joined old name bytes size is =
    subst (λ (n : ℕ). (old ++ (codes "file " ++ (decimal n ++ 32 ∷ (name ++ 10 ∷ [])))) ++ (bytes ++ 10 ∷ []) ≡ old ++ entry_text (Held name bytes)) is (simp append_assoc)

pub held_form : {R E : Type 0} (r : Result R E) (old head new name : List ℕ) (size : ℕ) → size < 2 ^ 32 → head ≡ old ++ (codes "file " ++ (decimal size ++ 32 ∷ (name ++ 10 ∷ [])))
    → OnOk r ((bytes : List ℕ) × ((length bytes ≡ size) × (new ≡ head ++ (bytes ++ 10 ∷ [])))) → OnOk r (HasEntryMore old new name)
held_form (Err e) old head new name size small is added = tt
held_form (Ok x) old head new name size small is (bytes, (long, whole)) = record {
  entry = Held name bytes;
  named = refl;
  short = (let short : length bytes < 2 ^ 32 = omega (arith, long, small) in short);
  text = whole ∙ ap (λ (l : List ℕ). l ++ (bytes ++ 10 ∷ [])) is ∙ entry_joined old name bytes size long;
}

-- ---- the save so far
pub record HasTaken (u v : TreeView) (done : List (List ℕ)) (bytes : List ℕ) : Type 0 where
  pub untouched : IsUntouched u v
  pub save : (f : Files) → u.told ≡ Some f → bytes ≡ save_text (entries_at f done)
  pub short : (f : Files) → u.told ≡ Some f → too_long (entries_at f done) ≡ None
  pub entries : List Entry
  pub named : map name_of entries ≡ done
  pub small : AllByRecursion IsShort entries
  pub text : bytes ≡ save_text entries

pub nothing_taken : (u : TreeView) (text : List ℕ) → text ≡ [] → HasTaken u u [] text
unfolding too_long
nothing_taken u text none = record { untouched = untouched_none u; save = λ f told. none; short = λ f told. refl; entries = []; named = refl; small = tt; text = none }

entries-push : (f : Files) (done : List (List ℕ)) (name : List ℕ) → entries_at f (done ++ name ∷ []) ≡ entries_at f done ++ entry_with name (get f name) ∷ []
entries-push f done name = map-append (λ n. entry_with n (get f n)) done (name ∷ [])

save-push : (es : List Entry) (e : Entry) → save_text (es ++ e ∷ []) ≡ save_text es ++ entry_text e
save-push es e = flat_map-append entry_text es (e ∷ []) ∙ ap (λ (l : List ℕ). save_text es ++ l) (append-nil (entry_text e))

all-push : (es : List Entry) (e : Entry) → AllByRecursion IsShort es → IsShort e → AllByRecursion IsShort (es ++ e ∷ [])
all-push [] e all one = (one, tt)
all-push (x ∷ es) e all one = (all.0, all-push es e all.1 one)

pub taken_more : {u v : TreeView} {done : List (List ℕ)} {text : List ℕ} → HasTaken u v done text → (w : TreeView) (name new : List ℕ) → IsUntouched v w
    → ((f : Files) → v.told ≡ Some f → new ≡ text ++ entry_text (entry_with name (get f name)))
    → ((f : Files) → v.told ≡ Some f → length (bytes_at f name) < 2 ^ 32)
    → HasEntryMore text new name
    → HasTaken u w (done ++ name ∷ []) new
taken_more {done = done} {text = text} taken w name new same entry small more = record {
  untouched = untouched_both taken.untouched same;
  save = λ f told.
      entry f (taken.untouched.told ∙ told)
      ∙ ap (λ (l : List ℕ). l ++ entry_text (entry_with name (get f name))) (taken.save f told)
      ∙ sym (save-push (entries_at f done) (entry_with name (get f name)))
      ∙ ap save_text (sym (entries-push f done name));
  short = λ f told.
      ap too_long (entries-push f done name)
      ∙ too_long-more (entries_at f done) (entry_with name (get f name) ∷ []) (taken.short f told)
      ∙ one_short name (get f name) (small f (taken.untouched.told ∙ told));
  entries = taken.entries ++ more.entry ∷ [];
  named = map-append name_of taken.entries (more.entry ∷ []) ∙ ap (λ (l : List (List ℕ)). l ++ name_of more.entry ∷ []) taken.named ∙ ap (λ (n : List ℕ). done ++ n ∷ []) more.named;
  small = all-push taken.entries more.entry taken.small more.short;
  text = more.text ∙ ap (λ (l : List ℕ). l ++ entry_text more.entry) taken.text ∙ sym (save-push taken.entries more.entry);
}

pub taken_is_save : {u v : TreeView} {names : List (List ℕ)} {text : List ℕ} → HasTaken u v names text → AreSaved names → IsSome (entries_of text)
taken_is_save {names = names} taken saved = ap is_some (ap entries_of taken.text ∙ entries-read taken.entries names taken.named taken.small saved)

pub take_fails : {u v : TreeView} {done : List (List ℕ)} {text : List ℕ} → HasTaken u v done text → (w : TreeView) (names more : List (List ℕ)) (name : List ℕ) → names ≡ done ++ name ∷ more → (e : StackFault) → HasEntryCause e v w name → HasTakeCause e u w names
take_fails taken w names more name is (BadState file) cause = cause
take_fails {done = done} taken w names more name is (FileTooLong size) cause = (
  cause.0,
  λ f told.
      ap (λ (l : List (List ℕ)). too_long (entries_at f l)) is
      ∙ ap too_long (map-append (λ n. entry_with n (get f n)) done (name ∷ more))
      ∙ too_long-more (entries_at f done) (entries_at f (name ∷ more)) (taken.short f told)
      ∙ one_long name (get f name) size (entries_at f more) (cause.1 f (taken.untouched.told ∙ told)) cause.0,
)
take_fails {u = u} {v = v} taken w names more name is Tree cause = rises_then u v w taken.untouched.passes cause
take_fails taken w names more name is (Disagree want got) cause = (cause.0, sym taken.untouched.told ∙ cause.1)
take_fails taken w names more name is Memory cause = cause

-- the names ahead of a place
pub ahead_of : (names : List (List ℕ)) (i : ℕ) (d : List ℕ) → i < length names → names ≡ take i names ++ get_or names i d ∷ drop (suc i) names
ahead_of names i d lt = sym (take-append-drop i names) ∙ ap (λ (l : List (List ℕ)). take i names ++ l) (drop-cons names i d lt)

pub if_err : {R E : Type 0} (P : E → Type 0) (r : Result R E) (e : E) → r ≡ Err e → P e → IfErr r P
if_err {R = R} {E = E} P r e is holds = subst (λ (q : Result R E). IfErr q P) (sym is) (let h : IfErr {T = R} (Err e) P = holds in h)

-- ---- a file of which fewer bytes come than its size says isn't told
pub fewer_untold : (u : TreeView) (name buf new : List ℕ) (n : ℕ) → n < length new → length new ≡ length buf
    → ((f : Files) → u.told ≡ Some f → length buf ≡ length (bytes_at f name))
    → ((f : Files) → u.told ≡ Some f → take n new ≡ take (length buf) (drop 0 (bytes_at f name)))
    → u.told ≡ None
fewer_untold u name buf new n fewer same long came = elim u.told as (λ o. u.told ≡ o → u.told ≡ None) [
  | None ↦ λ none. none
  | Some f ↦ λ some.
      let all = long f some in
      let count : min n (length new) ≡ min (length buf) (length (bytes_at f name)) = sym (length-take n new) ∙ ap length (came f some) ∙ length-take (length buf) (bytes_at f name) in
      absurd (omega (arith, all, count, fewer, same))
] refl

pub whole-came : (old new bytes : List ℕ) (n : ℕ) → length new ≡ length old → length old ≤ n → length old ≡ length bytes → take n new ≡ take (length old) (drop 0 bytes) → new ≡ bytes
whole-came old new bytes n same enough long came = sym (take_all n new (omega (arith, same, enough))) ∙ came ∙ take_all (length old) bytes (omega (arith, long))

-- ---- texts that are added piece by piece
pub line-added : (old name piece a b : List ℕ) → piece ≡ name → a ≡ old ++ piece → b ≡ a ++ 10 ∷ [] → b ≡ old ++ (name ++ 10 ∷ [])
line-added old name piece a b is first second =
    second ∙ ap (λ (l : List ℕ). l ++ 10 ∷ []) (first ∙ ap (λ (l : List ℕ). old ++ l) is) ∙ append_assoc old name (10 ∷ [])

pub missing-added : (old name piece a b d : List ℕ) → a ≡ old ++ codes "none " → piece ≡ name → b ≡ a ++ piece → d ≡ b ++ 10 ∷ [] → d ≡ old ++ entry_text (Missing name)
missing-added old name piece a b d word is first second =
    line-added a name piece b d is first second ∙ ap (λ (l : List ℕ). l ++ (name ++ 10 ∷ [])) word ∙ append_assoc old (codes "none ") (name ++ 10 ∷ [])

pub head-added : (old name : List ℕ) (n : ℕ) (digits a b d e : List ℕ) → a ≡ old ++ codes "file " → digits ≡ decimal n → b ≡ a ++ digits → d ≡ b ++ 32 ∷ [] → e ≡ d ++ (name ++ 10 ∷ []) → e ≡ old ++ (codes "file " ++ (decimal n ++ 32 ∷ (name ++ 10 ∷ [])))
head-added old name n digits a b d e word is first second third =
    let line : List ℕ = name ++ 10 ∷ [] in
    third
    ∙ ap (λ (l : List ℕ). l ++ line) second
    ∙ append_assoc b (32 ∷ []) line
    ∙ ap (λ (l : List ℕ). l ++ 32 ∷ line) (first ∙ ap (λ (l : List ℕ). a ++ l) is)
    ∙ append_assoc a (decimal n) (32 ∷ line)
    ∙ ap (λ (l : List ℕ). l ++ (decimal n ++ 32 ∷ line)) word
    ∙ append_assoc old (codes "file ") (decimal n ++ 32 ∷ line)

-- ---- what a name stands for, by the size that a tree tells
pub held_there : (o : Option (List ℕ)) (n : ℕ) → Some n ≡ option_map length o → o ≡ Some (unwrap_or o [])
held_there None n e = absurd cc
held_there (Some bytes) n e = refl

pub held_long : (o : Option (List ℕ)) (n : ℕ) → Some n ≡ option_map length o → n ≡ length (unwrap_or o [])
held_long None n e = absurd cc
held_long (Some bytes) n e = same_Some _ _ e

pub none_there : (o : Option (List ℕ)) → None ≡ option_map length o → None ≡ o
none_there None e = refl
none_there (Some bytes) e = absurd cc

pub none_short : (o : Option (List ℕ)) → None ≡ option_map length o → length (unwrap_or o []) < 2 ^ 32
none_short None e = omega arith
none_short (Some bytes) e = absurd cc

-- ---- a fault that is passed on
pub fault_kept : {R E : Type 0} (P : E → Type 0) (r : Result R E) (e : E) → IsErrAnd r (λ d. d ≡ e) → P e → IfErr r P
fault_kept P (Ok x) e is h = tt
fault_kept P (Err d) e is h = subst P (sym is) h

pub on_ok_all : {R E P : Type 0} (r : Result R E) → P → OnOk r P
on_ok_all (Ok x) p = p
on_ok_all (Err e) p = tt

pub cause_first : (u v w : TreeView) (name : List ℕ) (e : StackFault) → IsUntouched u v → HasEntryCause e v w name → HasEntryCause e u w name
cause_first u v w name (BadState file) same cause = cause
cause_first u v w name (FileTooLong size) same cause = (cause.0, λ f told. cause.1 f (same.told ∙ told))
cause_first u v w name Tree same cause = rises_then u v w same.passes cause
cause_first u v w name (Disagree want got) same cause = (cause.0, sym same.told ∙ cause.1)
cause_first u v w name Memory same cause = cause
