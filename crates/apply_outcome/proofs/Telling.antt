-- What is said once the hunks were tried.
use Rattle.std.proofs.Common.{◌≡◌, ◌<◌, ◌≤◌, ◌^◌, ◌+◌, ℕ, List, [], ◌∷◌, ◌++◌, Bool, true, Result, Ok, Err, Some, Option, Bor, length, take, drop, get_or, append_assoc, refl, sym, ap, subst, ◌∙◌, arith, to_z, of_z, w64}
use Rattle.std.specs.Prelude.{ℤ, pos, negsuc, ◌+ℤ◌, ◌-ℤ◌, ◌≤ℤ◌, if◌then◌else◌, slice_get}
use Rattle.std.proofs.lemmas.Int.{to_z-of_z, ints}
use Rattle.std.specs.List.{All}
use Rattle.std.specs.Option.{option_copied}
use Rattle.std.proofs.lemmas.List.{append-nil, drop_more, drop_all, take_more, length-take-le}
use mir.Val.{SFits}
use Rattle.outside.specs.SinkView.{SinkView, SinkPasses, IsSinkCall, Writes, sink_passes_both}
use Rattle.outside.proofs.Writing.{writes_is}
use Rattle.hunk_core.specs.declared.Verdict.{Verdict}
use Rattle.outside.specs.Puts.{Puts}
use Rattle.outside.proofs.SinkSteps.{HasPut, GoesOn, has-more, puts-more, puts-stop, puts-done}
use Rattle.reject_text.specs.Starts.{Row, net}
use Rattle.hunk_apply.specs.Session.{IsTried}
use Rattle.patch_options.specs.PlainJob.{PlainOptions}
use Rattle.say_text.specs.Messages.{silenced, placed_text}
use Rattle.apply_outcome.specs.HunksSaid.{hunk_said, hunks_said, script_said}

-- ---- one hunk, or a script

-- a line that is told of behind hunks with this net
pub line-fits : (line : ℕ) → line ≤ 2 ^ 41 → SFits w64 (pos line)
line-fits line small = omega (arith, ints)

pub moved-fits : (line : ℕ) (net : ℤ) → line ≤ 2 ^ 41 → negsuc (2 ^ 40) ≤ℤ net → net ≤ℤ pos (2 ^ 40) → SFits w64 (to_z w64 line +ℤ to_z w64 (of_z w64 net))
moved-fits line net small low high = omega (arith, ints)

pub moved-line : (line : ℕ) (net : ℤ) → line ≤ 2 ^ 41 → negsuc (2 ^ 40) ≤ℤ net → net ≤ℤ pos (2 ^ 40) → to_z w64 (of_z w64 (to_z w64 line +ℤ to_z w64 (of_z w64 net))) ≡ pos line +ℤ net
moved-line line net small low high = omega (arith, ints)

pub placed-passed : (o : PlainOptions) (number : ℕ) (x y : ℤ) (fuzz : ℕ) (offset : ℤ) → SFits w64 offset → x ≡ y → silenced o (placed_text o.verbose number x fuzz (to_z w64 (of_z w64 offset))) ≡ silenced o (placed_text o.verbose number y fuzz offset)
placed-passed o number x y fuzz offset fits is =
    ap (λ (z : ℤ). silenced o (placed_text o.verbose number x fuzz z)) (to_z-of_z w64 offset fits)
    ∙ ap (λ (z : ℤ). silenced o (placed_text o.verbose number z fuzz offset)) is

pub script-by : (o : PlainOptions) (address : ℕ) (vs : List Verdict) (v : Verdict) → slice_get vs 0 ≡ Some v → script_said o address (v ∷ []) ≡ script_said o address vs
script-by o address [] v is = absurd (cc)
script-by o address (x ∷ vs) v is = let e : x ≡ v = cc in same x v e
  where
    one : (x : Verdict) → script_said o address (x ∷ []) ≡ script_said o address (x ∷ vs)
    one x = grind arith

    same : (x v : Verdict) → x ≡ v → script_said o address (v ∷ []) ≡ script_said o address (x ∷ vs)
    same x v e = ap (λ (y : Verdict). script_said o address (y ∷ [])) (sym e) ∙ one x

pub first-is : (vs : List Verdict) (r : Option (Bor Verdict)) (b : Bor Verdict) (v : Verdict) → option_copied r ≡ slice_get vs 0 → r ≡ Some b → b.now ≡ v → slice_get vs 0 ≡ Some v
first-is vs r b v first some is = sym first ∙ ap (λ (x : Option (Bor Verdict)). option_copied x) some ∙ ap (λ (x : Verdict). Some x) is

pub first-tried : (vs : List Verdict) (v : Verdict) → slice_get vs 0 ≡ Some v → All IsTried vs → IsTried v
first-tried [] v is all = absurd (cc)
first-tried (x ∷ vs) v is all = let e : x ≡ v = cc in subst IsTried e (all 0 x (omega arith))

-- ---- hunk by hunk

-- what was said so far, before what is left to say of a whole
pub record HasSaid {O : Type 0} (view : O → SinkView) (same_rest : O → O → Type 0) (old new : O) (left whole : List ℕ) : Type 0 where
  pub said : List ℕ
  pub put : HasPut view same_rest old new said
  pub all : said ++ left ≡ whole

pub puts-of : {O R E : Type 0} {view : O → SinkView} {same : O → O → Type 0} {old new : O} {r : Result R E} {p : List ℕ} → Writes (view old) (view new) r p → same old new → Puts view same old new r p
puts-of w rest = record { call = w.call; rest = rest; received = w.received; failed = w.failed }

pub writes-of : {O R E : Type 0} {view : O → SinkView} {same : O → O → Type 0} {old new : O} {r : Result R E} {p : List ℕ} → Puts view same old new r p → Writes (view old) (view new) r p
writes-of p = record { call = p.call; received = p.received; failed = p.failed }

all-of : (said left piece more whole : List ℕ) → left ≡ piece ++ more → said ++ left ≡ whole → (said ++ piece) ++ more ≡ whole
all-of said left piece more whole is all = append_assoc said piece more ∙ ap (λ (l : List ℕ). said ++ l) (sym is) ∙ all

pub said-more : {O : Type 0} {view : O → SinkView} {same : O → O → Type 0} {old mid new : O} {left whole : List ℕ} (piece more : List ℕ) → GoesOn same → HasSaid view same old mid left whole → left ≡ piece ++ more → HasPut view same mid new piece → HasSaid view same old new more whole
said-more {left = left} {whole = whole} piece more on so is put = record { said = so.said ++ piece; put = has-more on so.put put; all = all-of so.said left piece more whole is so.all }

pub said-stop : {O R S E F : Type 0} {view : O → SinkView} {same : O → O → Type 0} {old mid new : O} {left whole : List ℕ} (e : E) (f : F) (piece more : List ℕ) → GoesOn same → HasSaid view same old mid left whole → left ≡ piece ++ more → Puts {R = R} view same mid new (Err e) piece → Puts {R = S} view same old new (Err f) whole
said-stop {S = S} {view = view} {same = same} {old = old} {new = new} {left = left} {whole = whole} e f piece more on so is p =
    subst (λ (l : List ℕ). Puts {R = S} view same old new (Err f) l) (all-of so.said left piece more whole is so.all) (puts-stop e f more (puts-more on so.put p))

pub said-all : {O R E : Type 0} {view : O → SinkView} {same : O → O → Type 0} {old new : O} {whole : List ℕ} (x : R) → HasSaid view same old new [] whole → Puts {E = E} view same old new (Ok x) whole
said-all {view = view} {same = same} {old = old} {new = new} x so = puts-done x (subst (λ (l : List ℕ). HasPut view same old new l) (sym (append-nil so.said) ∙ so.all) so.put)

pub said-step : (o : PlainOptions) (end : Option Bool) (rows : List Row) (i : ℕ) (row : Row) → i < length rows → drop i rows ≡ row ∷ drop (i + 1) rows
    → hunks_said o end (take i rows) (drop i rows) ≡ hunk_said o end (i + 1) (net (take i rows)) row.0 row.1 ++ hunks_said o end (take (i + 1) rows) (drop (i + 1) rows)
unfolding hunks_said
said-step o end rows i row lt here =
    ap (hunks_said o end (take i rows)) here
    ∙ ap (λ n. hunk_said o end (n + 1) (net (take i rows)) row.0 row.1 ++ hunks_said o end (take i rows ++ row ∷ []) (drop (i + 1) rows)) (length-take-le i rows (omega arith))
    ∙ ap (λ (before : List Row). hunk_said o end (i + 1) (net (take i rows)) row.0 row.1 ++ hunks_said o end before (drop (i + 1) rows)) (sym (taken_one rows i row lt here))
  where
    same : (x y : Row) (xs : List Row) → x ∷ xs ≡ y ∷ xs → y ≡ x
    same x y xs e = cc

    taken_one : (rows : List Row) (i : ℕ) (row : Row) → i < length rows → drop i rows ≡ row ∷ drop (i + 1) rows → take (i + 1) rows ≡ take i rows ++ row ∷ []
    taken_one rows i row lt here = let e : row ∷ drop (i + 1) rows ≡ get_or rows i row ∷ drop (i + 1) rows = sym here ∙ drop_more rows i row lt in
        take_more rows i row lt ∙ ap (λ (r : Row). take i rows ++ r ∷ []) (same row (get_or rows i row) (drop (i + 1) rows) e)

pub said-end : (o : PlainOptions) (end : Option Bool) (rows : List Row) (i : ℕ) → length rows ≤ i → hunks_said o end (take i rows) (drop i rows) ≡ []
unfolding hunks_said
said-end o first rows i end = ap (hunks_said o first (take i rows)) (drop_all i rows end)

-- where a test holds the text that stands on it is the whole
pub where_true : {R E : Type 0} {a b : SinkView} (r : Result R E) (test : Bool) (p : List ℕ) → test ≡ true → Writes a b r p → Writes a b r (if test then p else [])
where_true r test p is w = writes_is r (if test then p else []) w (rw is refl)

-- calls go on from calls
pub call_then : {R E : Type 0} {u v w : SinkView} → SinkPasses u v → (r : Result R E) → IsSinkCall v w r → IsSinkCall u w r
call_then passes r call = record { passes = sink_passes_both passes call.passes; cause = λ err small. omega (arith, call.cause err small, passes.counts) }

pub call_fault : {R S E F : Type 0} {u w : SinkView} (e : E) (r : Result S F) → IsSinkCall {R = R} u w (Err e) → IsSinkCall u w r
call_fault e r call = record { passes = call.passes; cause = λ err. call.cause refl }

-- ---- lines that hunks add

module _ (n g : ℤ) (part len all : ℕ) (sum : all ≡ part + len) (few : all < 2 ^ 32) (high : n ≤ℤ pos part) (low : (pos 0 -ℤ pos part) ≤ℤ n) (most : g ≤ℤ pos len) (least : (pos 0 -ℤ pos len) ≤ℤ g) where
  pub grown-is : to_z w64 (of_z w64 (n +ℤ to_z w64 (of_z w64 g))) ≡ n +ℤ g
  grown-is = omega (arith, ints)

  pub grown-fits : SFits w64 (n +ℤ to_z w64 (of_z w64 g))
  grown-fits = omega (arith, ints)

  over : (n +ℤ g) ≤ℤ pos all
  over = omega (arith, ints)

  under : (pos 0 -ℤ pos all) ≤ℤ (n +ℤ g)
  under = omega (arith, ints)

  pub grown-high : to_z w64 (of_z w64 (n +ℤ to_z w64 (of_z w64 g))) ≤ℤ pos all
  grown-high = subst (λ m. m ≤ℤ pos all) (sym grown-is) over

  pub grown-low : (pos 0 -ℤ pos all) ≤ℤ to_z w64 (of_z w64 (n +ℤ to_z w64 (of_z w64 g)))
  grown-low = subst (λ m. (pos 0 -ℤ pos all) ≤ℤ m) (sym grown-is) under

pub few-high : (n : ℤ) (part : ℕ) → part < 2 ^ 32 → n ≤ℤ pos part → n ≤ℤ pos (2 ^ 40)
few-high n part few high = omega (arith, ints)

pub few-low : (n : ℤ) (part : ℕ) → part < 2 ^ 32 → (pos 0 -ℤ pos part) ≤ℤ n → negsuc (2 ^ 40) ≤ℤ n
few-low n part few low = omega (arith, ints)

pub part-few : (part len all whole : ℕ) → all ≡ part + len → all ≤ whole → whole < 2 ^ 32 → len < 2 ^ 32
part-few part len all whole sum most few = omega arith

pub all-few : (all whole : ℕ) → all ≤ whole → whole < 2 ^ 32 → all < 2 ^ 32
all-few all whole most few = omega arith
