-- A piece that was read: how far it goes, what it holds, and why one isn't read.
use Rattle.std.proofs.Common.{◌≡◌, ℕ, ◌+◌, ◌-◌, ◌^◌, ◌≤◌, ◌<◌, true, eqb, eq-eqb, List, [], length, take, drop, min, Option, None, Some, Result, Ok, Err, IfOk, IfErr, IsErr, refl, sym, ap, subst, ◌∙◌, arith, inl, inr, length-drop}
use Rattle.std.specs.List.{refill, length_refill}
use Rattle.std.specs.FinMap.{get}
use Rattle.std.specs.Option.{option_map, unwrap_or}
use Rattle.std.specs.Result.{IsErrAnd}
use Rattle.std.proofs.lemmas.Bool.{false≢true, cases_lt}
use Rattle.std.proofs.lemmas.List.{length-take, length-take-le, take-append-le, take-take}
use Rattle.outside.specs.Files.{Files, bytes_at}
use Rattle.outside.specs.TreeView.{TreeView, Rises}
use Rattle.line_store.specs.declared.fault.OpenFault.{OpenFault}
use Rattle.line_store.specs.declared.fault.OpenFault.TheVariants.{Tree}
use Rattle.line_store.specs.declared.Half.TheVariants.{First}
use Rattle.page_pair.specs.Pair.{Pair, IsPair, with_page}
use Rattle.page_pair.specs.Reading.{HasLength, IsReadFault}

-- ---- how far a piece goes
module _ (n size long at : ℕ) (count : n ≡ min size (long - at)) (within : at < long) where
  pub ends-within : at + n ≤ long
  ends-within = omega (arith, count, within)

  pub ends-ahead : 512 ≤ size → at < at + n
  ends-ahead some = omega (arith, count, within, some)

  pub end-fits : long < 2 ^ 40 → at + n < 2 ^ 64
  end-fits few = omega (arith, ends-within, few)

  pub piece-whole : (page : List ℕ) (wide : ℕ) → length page ≡ wide → wide ≡ size → n ≡ length (take n page)
  piece-whole page wide len same = sym (length-take-le n page (omega (arith, count, len, same)))

  pub piece-few : (page : List ℕ) → long < 2 ^ 40 → at + length (take n page) ≤ 2 ^ 40
  piece-few page few = omega (arith, length-take n page, ends-within, few)

  pub now-within : (page : List ℕ) (now : ℕ) → now ≤ at + length (take n page) → now ≤ long
  now-within page now le = omega (arith, length-take n page, ends-within, le)

  pub feed-within : (page : List ℕ) (k : ℕ) → k < length (take n page) → at + k + 1 ≤ long
  feed-within page k high = omega (arith, length-take n page, ends-within, high)

  -- one without a whole line, which isn't the last, is as large as a page
  pub piece-full : (page : List ℕ) (now wide : ℕ) → 512 ≤ size → wide ≡ size → n ≡ length (take n page) → now ≡ at → (eqb (at + n) long ≡ true → now - at ≡ length (take n page)) → at + wide ≤ at + n
  piece-full page now wide some same whole none last = elim (cases_lt n size) [
    | inl lt ↦
        let end : at + n ≡ long = omega (arith, count, within, lt) in
        let left : now - at ≡ length (take n page) = last (eq-eqb _ _ end) in
        absurd (let no : ⊥ = omega (arith, left, whole, none, ends-ahead some) in no)
    | inr ge ↦ omega (arith, ge, same)
  ]

pub low-size : (size : ℕ) → size ≤ 1048576 → size - 4 ≤ 2 ^ 30
low-size size le = omega (arith, le)

pub below : (a b : ℕ) → a < b → a ≤ b
below a b lt = omega (arith, lt)

pub ahead : (a b : ℕ) → a ≤ b → (b ≡ a → ⊥) → a < b
ahead a b le ne = elim (cases_lt a b) [
  | inl lt ↦ lt
  | inr ge ↦ absurd (ne (omega (arith, le, ge)))
]

pub level : (a b : ℕ) → a ≤ b → b ≤ a → a ≡ b
level a b le ge = omega (arith, le, ge)

pub under : (a b c : ℕ) → a < b → b ≤ c → a < c
under a b c lt le = omega (arith, lt, le)

pub behind : (a k : ℕ) → a < a + k + 1
behind a k = omega arith

pub small-fits : (a long : ℕ) → a ≤ long → long < 2 ^ 40 → a < 2 ^ 64
small-fits a long le few = omega (arith, le, few)

pub less-fits : (a long : ℕ) → a + 1 ≤ long → long < 2 ^ 40 → a < 2 ^ 64
less-fits a long le few = omega (arith, le, few)

pub reaches : (a b : ℕ) → a ≡ b → b ≤ a
reaches a b same = omega (arith, same)

-- where a walk over a piece stands
module _ (now start at : ℕ) (place : now ≡ start + at) where
  pub walked : at ≡ now - start
  walked = omega (arith, place)

  pub walked-on : start ≤ now
  walked-on = omega (arith, place)

  pub walked-within : (n : ℕ) → at ≤ n → now ≤ start + n
  walked-within n le = omega (arith, place, le)

-- ---- what it holds
pub refilled : (p : Pair) (bytes : List ℕ) → IsPair p → IsPair (with_page p First bytes)
refilled p bytes is = record { sized = is.sized; first = sym (length_refill p.size p.first bytes (sym is.first)); second = is.second }

pub piece-bytes : (size n : ℕ) (first buf part : List ℕ) → length buf ≡ size → n ≤ size → take n buf ≡ take size part → take n (refill size first buf) ≡ take n part
piece-bytes size n first buf part len le read =
    take-take n size _ le
    ∙ take-append-le n buf (drop (length buf) first) (omega (arith, len, le))
    ∙ sym (take-take n n buf (omega arith)) ∙ ap (λ (l : List ℕ). take n l) read ∙ take-take n size part le

pub read-there : (o : Option Files) (name text buf : List ℕ) (n k at : ℕ) → option_map (λ f. bytes_at f name) o ≡ Some text → ((f : Files) → o ≡ Some f → take n buf ≡ take k (drop at (bytes_at f name))) → take n buf ≡ take k (drop at text)
read-there None name text buf n k at told read = absurd (cc)
read-there (Some f) name text buf n k at told read = (let same : bytes_at f name ≡ text = cc in read f refl ∙ ap (λ (t : List ℕ). take k (drop at t)) same)

-- a file that is told is never read short
pub unread : (o : Option Files) (name buf : List ℕ) (n size at long want : ℕ) → want ≡ min size (long - at) → (n ≡ want → ⊥) → length buf ≡ size → n ≤ size → HasLength (option_map (λ f. bytes_at f name) o) long
    → ((f : Files) → o ≡ Some f → take n buf ≡ take size (drop at (bytes_at f name))) → o ≡ None
unread None name buf n size at long want is ne len le stated read = refl
unread (Some f) name buf n size at long want is ne len le stated read =
    let whole : length (bytes_at f name) ≡ long = stated (bytes_at f name) refl in
    let got : length (take n buf) ≡ n = length-take-le n buf (omega (arith, len, le)) in
    let part : length (take size (drop at (bytes_at f name))) ≡ min size (length (drop at (bytes_at f name))) = length-take size (drop at (bytes_at f name)) in
    let left : length (drop at (bytes_at f name)) ≡ length (bytes_at f name) - at = length-drop at (bytes_at f name) in
    let same : length (take n buf) ≡ length (take size (drop at (bytes_at f name))) = ap (λ (l : List ℕ). length l) (read f refl) in
    absurd (ne (omega (arith, whole, got, part, left, same, is)))

-- ---- faults
pub err-as : {R E : Type 0} (P : E → Type 0) (x : E) (r : Result R E) → IsErrAnd r (λ e. e ≡ x) → P x → IfErr r P
err-as P x (Ok v) is held = absurd is
err-as P x (Err e) is held = subst P (sym is) held

pub tree-fault : {R : Type 0} (t u : TreeView) (r : Result R OpenFault) → IsErrAnd r (λ e. e ≡ Tree) → Rises t u → IfErr r (λ e. IsReadFault e t u)
tree-fault t u r is rises = err-as (λ e. IsReadFault e t u) Tree r is rises

pub refused-none : {R E : Type 0} (P : R → Type 0) (r : Result R E) → IsErr r → IfOk r P
refused-none P (Ok x) is = absurd (false≢true is)
refused-none P (Err e) is = tt

size-by : (held : Option (List ℕ)) → length (unwrap_or held []) ≡ unwrap_or (option_map length held) 0
size-by None = refl
size-by (Some bytes) = refl

pub size-there : (o : Option Files) (name text : List ℕ) (size : Option ℕ) → option_map (λ f. bytes_at f name) o ≡ Some text → ((f : Files) → o ≡ Some f → size ≡ option_map length (get f name)) → length text ≡ unwrap_or size 0
size-there None name text size told read = absurd (cc)
size-there (Some f) name text size told read = (let same : bytes_at f name ≡ text = cc in ap (λ (t : List ℕ). length t) (sym same) ∙ size-by (get f name) ∙ ap (λ (s : Option ℕ). unwrap_or s 0) (sym (read f refl)))
