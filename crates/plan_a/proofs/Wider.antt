-- What a buffer refuses, as a larger one sees it.
use Rattle.std.proofs.Common.{◌≡◌, ◌∙◌, Result, Ok, Err, OnOk, OnErr, IfErr, unwrap_or, ℕ, ◌-◌, ◌<◌, ◌≤◌, ◌^◌, ◌&&◌, Bool, true, false, if◌then◌else◌, List, [], ◌∷◌, length, Option, None, Some, option_map, find, refl, sym, ap, subst, arith}
use Rattle.std.specs.Prelude.{nat_le, nat_lt, is_none, is_some}
use Rattle.std.specs.List.{range_with_len}
use Rattle.std.specs.FinMap.{get}
use Rattle.std.proofs.Math.Bool.{and-false}
use Rattle.std.proofs.lemmas.Bool.{false≢true}
use Rattle.std.proofs.lemmas.Bool.Decides.{nat_tests}
use Rattle.std.proofs.lemmas.Option.{none-some, same_Some}
use Rattle.std.proofs.Math.Nat.{min-le_left}
use Rattle.line_list.specs.Lines.{lines}
use Rattle.outside.specs.Files.{Files, bytes_at}
use Rattle.outside.specs.TreeView.{TreeView, Passes}
use Rattle.outside.specs.Calls.{IsUntouched}
use Rattle.line_store.specs.Store.{Seen, line_at}
use Rattle.line_store.specs.Taking.{is_long, first_long, refusal, HasOpenCause, IsRefused, IsEmpty, KeepsAtLong, TakesFile}
use Rattle.line_store.specs.declared.fault.OpenFault.{OpenFault}
use Rattle.line_store.specs.declared.fault.OpenFault.TheVariants.{Tree, Scratch, LongLine, FileTooLong, Disagree, Memory}
use Rattle.line_store.proofs.StoreLemmas.{kept-at-long}
use Rattle.plan_a.specs.Auto.{page_size, goes_to_pages, is_within, auto_seen}
use Rattle.plan_a.proofs.Faults.{open-cause-more}

-- ---- a search by a stricter test

some-step : (a b : Bool) (j k : ℕ) (o r : Option ℕ) → (b ≡ true → a ≡ true) → (j ≡ k → b ≡ true) → (o ≡ Some k → r ≡ Some k) → (if a then Some j else o) ≡ Some k → (if b then Some j else r) ≡ Some k
some-step true true j k o r less is rest e = e
some-step true false j k o r less is rest e = absurd (false≢true (is (same_Some j k e)))
some-step false true j k o r less is rest e = absurd (false≢true (less refl))
some-step false false j k o r less is rest e = rest e

find-some : (p q : ℕ → Bool) (ks : List ℕ) (k : ℕ) → ((j : ℕ) → q j ≡ true → p j ≡ true) → q k ≡ true → find p ks ≡ Some k → find q ks ≡ Some k
find-some p q [] k less is e = absurd (none-some k e)
find-some p q (j ∷ ks) k less is e = some-step (p j) (q j) j k (find p ks) (find q ks) (less j) (λ same. ap q same ∙ is) (find-some p q ks k less is) e

none-step : (a b : Bool) (j : ℕ) (o r : Option ℕ) → (b ≡ true → a ≡ true) → (o ≡ None → r ≡ None) → (if a then Some j else o) ≡ None → (if b then Some j else r) ≡ None
none-step true b j o r less rest e = absurd (none-some j (sym e))
none-step false true j o r less rest e = absurd (false≢true (less refl))
none-step false false j o r less rest e = rest e

find-none : (p q : ℕ → Bool) (ks : List ℕ) → ((j : ℕ) → q j ≡ true → p j ≡ true) → find p ks ≡ None → find q ks ≡ None
find-none p q [] less e = refl
find-none p q (j ∷ ks) less e = none-step (p j) (q j) j (find p ks) (find q ks) (less j) (find-none p q ks less) e

-- ---- the first line that is too long

longer : (small large : ℕ) (ls : List (List ℕ)) → small ≤ large → (j : ℕ) → is_long large ls j ≡ true → is_long small ls j ≡ true
longer small large ls le j h = grind (arith, nat_tests)

long-some : (small large : ℕ) (ls : List (List ℕ)) (k : ℕ) → small ≤ large → is_long large ls k ≡ true → first_long small ls ≡ Some k → first_long large ls ≡ Some k
unfolding first_long
long-some small large ls k le is e = find-some (is_long small ls) (is_long large ls) (range_with_len 1 (length ls)) k (longer small large ls le) is e

long-none : (small large : ℕ) (ls : List (List ℕ)) → small ≤ large → first_long small ls ≡ None → first_long large ls ≡ None
unfolding first_long
long-none small large ls le e = find-none (is_long small ls) (is_long large ls) (range_with_len 1 (length ls)) (longer small large ls le) e

-- ---- why a file is not taken

refused-step : (b : Bool) (x y : OpenFault) (f : ℕ → OpenFault) (o r : Option ℕ) → ((k : ℕ) → o ≡ Some k → f k ≡ y → r ≡ Some k) → (if b then Some x else option_map f o) ≡ Some y → (if b then Some x else option_map f r) ≡ Some y
refused-step true x y f o r go h = h
refused-step false x y f None r go h = absurd (none-some y h)
refused-step false x y f (Some k) r go h = ap (option_map f) (go k refl (same_Some (f k) y h)) ∙ h

admitted-step : (b : Bool) (x : OpenFault) (f : ℕ → OpenFault) (o r : Option ℕ) → (o ≡ None → r ≡ None) → (if b then Some x else option_map f o) ≡ None → (if b then Some x else option_map f r) ≡ None
admitted-step true x f o r go h = h
admitted-step false x f None r go h = ap (option_map f) (go refl)
admitted-step false x f (Some k) r go h = absurd (none-some (f k) (sym h))

pub admitted-wider : (small large : ℕ) (file : List ℕ) → small ≤ large → refusal small file ≡ None → refusal large file ≡ None
admitted-wider small large file le h =
    admitted-step (nat_le (2 ^ 40) (length file)) (FileTooLong (length file)) (λ k. LongLine k (length (line_at (lines file) k))) (first_long small (lines file)) (first_long large (lines file))
    (long-none small large (lines file) le) h

-- the number and the length of a line
abbrev long_length : OpenFault → ℕ
long_length Tree = 0
long_length Scratch = 0
long_length (LongLine line length) = length
long_length (FileTooLong length) = 0
long_length (Disagree want got) = 0
long_length Memory = 0

pub refused-wider : (small large line n : ℕ) (file : List ℕ) → small ≤ large → large - 4 < n → refusal small file ≡ Some (LongLine line n) → refusal large file ≡ Some (LongLine line n)
refused-wider small large line n file le long h =
    refused-step (nat_le (2 ^ 40) (length file)) (FileTooLong (length file)) (LongLine line n) (λ k. LongLine k (length (line_at (lines file) k))) (first_long small (lines file)) (first_long large (lines file))
    (λ k first same.
    let size : length (line_at (lines file) k) ≡ n = ap long_length same in
    let is : is_long large (lines file) k ≡ true = grind (arith, nat_tests) in
    long-some small large (lines file) k le is first)
    h

pub too-long-wider : (small large n : ℕ) (file : List ℕ) → small ≤ large → refusal small file ≡ Some (FileTooLong n) → refusal large file ≡ Some (FileTooLong n)
too-long-wider small large n file le h =
    refused-step (nat_le (2 ^ 40) (length file)) (FileTooLong (length file)) (FileTooLong n) (λ k. LongLine k (length (line_at (lines file) k))) (first_long small (lines file)) (first_long large (lines file))
    (λ k first same. absurd (cc)) h

-- ---- the fault of a plan with pages

-- no line is told that the larger buffer admits
beyond : (size line n : ℕ) → is_within size (LongLine line n) ≡ false → size - 4 < n
beyond size line n h = grind (arith, nat_tests)

-- the pages refuse a file for a line that the other plan admits
pub refused-within : (e : OpenFault) (size : ℕ) (before after : Seen) (t u : TreeView) (name : List ℕ) → is_within size e ≡ true → HasOpenCause e before after t u name → IsRefused before t name e
refused-within Tree size before after t u name is h = absurd (false≢true is)
refused-within Scratch size before after t u name is h = absurd (false≢true is)
refused-within (LongLine line length) size before after t u name is h = h.1
refused-within (FileTooLong length) size before after t u name is h = h.1
refused-within (Disagree want got) size before after t u name is h = absurd (false≢true is)
refused-within Memory size before after t u name is h = absurd (false≢true is)

-- then the scratch is as it was
pub kept-within : (e : OpenFault) (size : ℕ) (before after : Option (List ℕ)) → is_within size e ≡ true → KeepsAtLong e before after → after ≡ before
kept-within Tree size before after is h = absurd (false≢true is)
kept-within Scratch size before after is h = absurd (false≢true is)
kept-within (LongLine line length) size before after is h = h
kept-within (FileTooLong length) size before after is h = absurd (false≢true is)
kept-within (Disagree want got) size before after is h = absurd (false≢true is)
kept-within Memory size before after is h = absurd (false≢true is)

-- any other fault of the pages is that of both plans
pub pages-cause : (e : OpenFault) (b : Bool) (small now big after : Seen) (t u : TreeView) (name : List ℕ) → big.size ≤ small.size → is_within small.size e ≡ false → HasOpenCause e big after t u name → HasOpenCause e (auto_seen b small big) (auto_seen false now after) t u name
pages-cause Tree b small now big after t u name le not h = h
pages-cause Scratch b small now big after t u name le not h = h
pages-cause (LongLine line length) b small now big after t u name le not h =
    let long : small.size - 4 < length = beyond small.size line length not in
    (long, λ f told. refused-wider big.size small.size line length (bytes_at f name) le long (h.1 f told))
pages-cause (FileTooLong length) b small now big after t u name le not h = (h.0, λ f told. too-long-wider big.size small.size length (bytes_at f name) le (h.1 f told))
pages-cause (Disagree want got) b small now big after t u name le not h = h
pages-cause Memory b small now big after t u name le not h = refl

-- a fault of the plan in memory is that of both plans
pub memory-cause : (e : OpenFault) (b : Bool) (small now small' big after : Seen) (t u : TreeView) (name : List ℕ) → now.size ≡ small.size → now.faults ≡ 0 → small'.faults ≡ 0 → is_some now.scratch ≡ true → HasOpenCause e now small' t u name → HasOpenCause e (auto_seen b small big) (auto_seen false small' after) t u name
memory-cause Tree b small now small' big after t u name size none none' some h = h
memory-cause Scratch b small now small' big after t u name size none none' some h = absurd (omega (arith, h (omega (arith, none'))))
memory-cause (LongLine line length) b small now small' big after t u name size none none' some h = (subst (λ n. n - 4 < length) size h.0, λ f told. subst (λ n. refusal n (bytes_at f name) ≡ Some (LongLine line length)) size (h.1 f told))
memory-cause (FileTooLong length) b small now small' big after t u name size none none' some h = (h.0, λ f told. subst (λ n. refusal n (bytes_at f name) ≡ Some (FileTooLong length)) size (h.1 f told))
memory-cause (Disagree want got) b small now small' big after t u name size none none' some h = (h.0, λ is. h.1 some)
memory-cause Memory b small now small' big after t u name size none none' some h = refl

-- ---- which plan a file goes to

pub goes-not-small : (size : ℕ) (file : List ℕ) → length file ≤ 16777216 → goes_to_pages size file ≡ false
goes-not-small size file le = let t : nat_lt 16777216 (length file) ≡ false = grind (arith, nat_tests) in rw t refl

pub goes-not-long : (size page : ℕ) (file : List ℕ) (e : OpenFault) → page ≡ page_size size → refusal page file ≡ Some e → goes_to_pages size file ≡ false
goes-not-long size page file e is h =
    ap (λ r. nat_lt 16777216 (length file) && is_none r) (subst (λ n. refusal n file ≡ Some e) is h) ∙ and-false (nat_lt 16777216 (length file))

pub goes-there : (size page : ℕ) (file : List ℕ) → 16777216 < length file → page ≡ page_size size → refusal page file ≡ None → goes_to_pages size file ≡ true
goes-there size page file lt is h =
    let t : nat_lt 16777216 (length file) ≡ true = grind (arith, nat_tests) in
    ap (λ r. nat_lt 16777216 (length file) && is_none r) (subst (λ n. refusal n file ≡ None) is h) ∙ ap (λ b. b && true) t

-- ---- a call of one of the two plans is a call of both

size-bytes : (o : Option (List ℕ)) → unwrap_or (option_map length o) 0 ≡ length (unwrap_or o [])
size-bytes None = refl
size-bytes (Some bytes) = refl

-- the size that a tree tells is that of the bytes
pub told-size : (s : Option ℕ) (n : ℕ) (t : TreeView) (name : List ℕ) → ((f : Files) → t.told ≡ Some f → s ≡ option_map length (get f name)) → n ≡ unwrap_or s 0 → (f : Files) → t.told ≡ Some f → length (bytes_at f name) ≡ n
told-size s n t name size is f told = sym (is ∙ ap (λ o. unwrap_or o 0) (size f told) ∙ size-bytes (get f name))

pub kept-all : (r : Result (Unit {0}) OpenFault) (before after : Option (List ℕ)) → after ≡ before → IfErr r (λ e. KeepsAtLong e before after)
kept-all (Ok x) before after same = tt
kept-all (Err e) before after same = kept-at-long e before after same

pub memory-causes : (r : Result (Unit {0}) OpenFault) (b : Bool) (small now small' big after : Seen) (t u v : TreeView) (name : List ℕ) → now.size ≡ small.size → now.faults ≡ 0 → small'.faults ≡ 0 → is_some now.scratch ≡ true → IsUntouched t u → Passes t u
    → IfErr r (λ e. HasOpenCause e now small' u v name) → IfErr r (λ e. HasOpenCause e (auto_seen b small big) (auto_seen false small' after) t v name)
memory-causes (Ok x) b small now small' big after t u v name size none none' some un p h = tt
memory-causes (Err e) b small now small' big after t u v name size none none' some un p h =
    open-cause-more e (auto_seen b small big) (auto_seen false small' after) t u v name un p (memory-cause e b small now small' big after u v name size none none' some h)

pub memory-empty : (r : Result (Unit {0}) OpenFault) (small big : Seen) → OnErr r (IsEmpty small) → OnErr r (IsEmpty (auto_seen false small big))
memory-empty (Ok x) small big h = tt
memory-empty (Err e) small big h = record { told = h.told; count = h.count }

pub memory-taken : (r : Result (Unit {0}) OpenFault) (b : Bool) (small now small' big after : Seen) (t u : TreeView) (name : List ℕ) → now.size ≡ small.size → is_some now.scratch ≡ true → IsUntouched t u
    → OnOk r (TakesFile now small' u name) → OnOk r (TakesFile (auto_seen b small big) (auto_seen false small' after) t name)
memory-taken (Ok x) b small now small' big after t u name size some un h = λ f told.
    let k = h f (un.told ∙ told) in
    record { admitted = subst (λ n. refusal n (bytes_at f name) ≡ None) size k.admitted; count = k.count; told = λ is. k.told some }
memory-taken (Err e) b small now small' big after t u name size some un h = tt

pub memory-scratch : (r : Result (Unit {0}) OpenFault) (scratch_after : ℕ → List ℕ → Option (List ℕ) → Option (List ℕ)) (size : ℕ) (before after : Option (List ℕ)) (t : TreeView) (name : List ℕ) → after ≡ before
    → ((f : Files) → t.told ≡ Some f → goes_to_pages size (bytes_at f name) ≡ false)
    → OnOk r ((f : Files) → t.told ≡ Some f → after ≡ (if goes_to_pages size (bytes_at f name) then scratch_after (page_size size) (bytes_at f name) before else before))
memory-scratch (Ok x) scratch_after size before after t name same not = λ f told. same ∙ sym (ap (λ b. if b then scratch_after (page_size size) (bytes_at f name) before else before) (not f told))
memory-scratch (Err e) scratch_after size before after t name same not = tt

pub page-le : (size page : ℕ) → page ≡ page_size size → page ≤ size
page-le size page is = subst (λ n. n ≤ size) (sym is) (min-le_left size 1048576)

pub pages-taken : (b : Bool) (small now big after : Seen) (t u : TreeView) (name : List ℕ) → big.size ≡ page_size small.size → IsUntouched t u → TakesFile big after u name → TakesFile (auto_seen b small big) (auto_seen true now after) t name
pages-taken b small now big after t u name is un h = λ f told.
    let k = h f (un.told ∙ told) in
    record { admitted = admitted-wider big.size small.size (bytes_at f name) (page-le small.size big.size is) k.admitted; count = k.count; told = k.told }

pub pages-scratch : (scratch_after : ℕ → List ℕ → Option (List ℕ) → Option (List ℕ)) (size page : ℕ) (file : List ℕ) (before after : Option (List ℕ)) → 16777216 < length file → page ≡ page_size size → refusal page file ≡ None → after ≡ scratch_after page file before
    → after ≡ (if goes_to_pages size file then scratch_after (page_size size) file before else before)
pages-scratch scratch_after size page file before after lt is admitted h =
    h ∙ ap (λ n. scratch_after n file before) is ∙ sym (ap (λ b. if b then scratch_after (page_size size) file before else before) (goes-there size page file lt is admitted))
