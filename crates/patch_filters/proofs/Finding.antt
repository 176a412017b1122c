-- Calls that ask a finder and write to a sink, one after the other.
use Rattle.std.proofs.Common.{◌≡◌, ℕ, ◌+◌, ◌<◌, Bool, true, false, List, [], ◌++◌, length, drop, Some, Result, Ok, Err, IsErrAnd, IfErr, OnErr, refl, sym, ap, subst, ◌∙◌, append_assoc, arith}
use Rattle.std.specs.Prelude.{slice_get, if◌then◌else◌}
use Rattle.std.proofs.lemmas.Bool.{false≢true}
use Rattle.std.specs.List.{flat_map}
use Rattle.std.proofs.lemmas.List.{take_all}
use Rattle.outside.specs.FinderView.{FinderView, FinderPasses}
use Rattle.outside.specs.SinkView.{SinkView, SinkPasses, sink_passes_both, ReceivesPart}
use Rattle.outside.proofs.Writing.{part_longer, part_after, received_both, received_none, received_part}
use Rattle.outside.specs.Puts.{Puts}
use Rattle.outside.proofs.SinkSteps.{HasPut, GoesOn, has-more, has-none}
use Rattle.patch_filters.specs.declared.fault.GrepFault.{GrepFault}
use Rattle.patch_filters.specs.declared.fault.GrepFault.TheVariants.{Pattern, Write, Memory}
use Rattle.read_file_patch.specs.declared.FilePatch.{FilePatch}
use Rattle.cli_tool_words.specs.PlainJobs.{PlainGrepJob}
use Rattle.cli_tool_words.specs.declared.jobs.GrepOut.{GrepOut}
use Rattle.patch_filters.specs.Grepped.{IsAsked, IsFindFault, IsPatternFault, HasGrepCause, Finds, found_text, test_by, test_of}
use Rattle.patch_filters.proofs.Searching.{asked-none, asked-both, same-test}
use Rattle.outside.proofs.Loops.{up_to, one-more, both}

-- what was asked and received so far, before a further call
pub record HasFound {O : Type 0} (view : O → SinkView) (same : O → O → Type 0) (asked answered : FinderView) (old new : O) (bytes : List ℕ) : Type 0 where
  pub finder : IsAsked asked answered
  pub put : HasPut view same old new bytes

fault-more : (e : GrepFault) (u v w : SinkView) → SinkPasses u v → IsFindFault e v w → IsFindFault e u w
fault-more Pattern u v w pass cause = cause
fault-more Write u v w pass cause = λ small. omega (arith, cause small, pass.counts)
fault-more Memory u v w pass cause = tt

-- a text for one element more of a list, behind what stands in front of them all
longer : {A : Type 0} (f : A → List ℕ) (xs : List A) (front : List ℕ) (i : ℕ) (x : A) → i < length xs → slice_get xs i ≡ Some x → (front ++ up_to f xs i) ++ f x ≡ front ++ up_to f xs (i + 1)
longer f xs front i x lt is = append_assoc front (up_to f xs i) (f x) ∙ ap (λ t. front ++ t) (one-more f xs i x lt is)

module _ {O : Type 0} {view : O → SinkView} {same : O → O → Type 0} where
  pub found-none : ((x : O) → same x x) → (v : FinderView) (old : O) → HasFound view same v v old old []
  found-none stays v old = record { finder = asked-none v; put = has-none stays old }

  pub has-found : {a n : FinderView} {old new : O} {bytes : List ℕ} {R : Type 0} (x : R) → Finds view same a n old new (Ok x) bytes → HasFound view same a n old new bytes
  has-found x p = record { finder = p.finder; put = record { passes = p.passes; rest = p.rest; received = p.received } }

  -- the finder was asked, and nothing was written
  pub found-asked : {a m n : FinderView} {old new : O} {bytes : List ℕ} → HasFound view same a m old new bytes → IsAsked m n → HasFound view same a n old new bytes
  found-asked p more = record { finder = asked-both p.finder more; put = p.put }

  pub finds-done : {a n : FinderView} {old new : O} {bytes : List ℕ} {R : Type 0} (x : R) → HasFound view same a n old new bytes → Finds view same a n old new (Ok x) bytes
  finds-done x p = record { finder = p.finder; passes = p.put.passes; rest = p.put.rest; received = p.put.received; failed = tt; cause = tt }

  -- memory ran out, with nothing more written
  pub finds-memory : {a n : FinderView} {old new : O} {bytes : List ℕ} {R : Type 0} (rest : List ℕ) → HasFound view same a n old new bytes → Finds {R = R} view same a n old new (Err Memory) (bytes ++ rest)
  finds-memory {old = old} {new = new} {bytes = bytes} rest p = record {
    finder = p.finder;
    passes = p.put.passes;
    rest = p.put.rest;
    received = tt;
    failed = part_longer (view old) (view new) bytes rest (received_part (view old) (view new) bytes p.put.received);
    cause = tt;
  }

  -- a call that writes alone
  pub finds-put : {a n : FinderView} {old new : O} {bytes : List ℕ} {R : Type 0} (x : R) → IsAsked a n → HasPut view same old new bytes → Finds view same a n old new (Ok x) bytes
  finds-put x asked p = finds-done x (record { finder = asked; put = p })

  pub finds-write : {a n : FinderView} {old new : O} {bytes : List ℕ} {R S E : Type 0} (e : E) → IsAsked a n → Puts {R = S} view same old new (Err e) bytes → Finds {R = R} view same a n old new (Err Write) bytes
  finds-write e asked p = record { finder = asked; passes = p.call.passes; rest = p.rest; received = tt; failed = p.failed; cause = p.call.cause refl }

  -- a call that failed, of a whole that would have gone on
  pub finds-stop : {a n : FinderView} {old new : O} {bytes : List ℕ} {R S : Type 0} (e : GrepFault) (rest : List ℕ) → Finds {R = R} view same a n old new (Err e) bytes → Finds {R = S} view same a n old new (Err e) (bytes ++ rest)
  finds-stop {old = old} {new = new} {bytes = bytes} e rest p = record {
    finder = p.finder;
    passes = p.passes;
    rest = p.rest;
    received = tt;
    failed = part_longer (view old) (view new) bytes rest p.failed;
    cause = p.cause;
  }

  -- a further call, whose answer is the whole's
  pub finds-more : {a m n : FinderView} {old mid new : O} {x y : List ℕ} {R : Type 0} (r : Result R GrepFault) → GoesOn same → HasFound view same a m old mid x → Finds view same m n mid new r y → Finds view same a n old new r (x ++ y)
  finds-more {old = old} {mid = mid} {new = new} {x = x} {y = y} (Ok z) on p q = record {
    finder = asked-both p.finder q.finder;
    passes = sink_passes_both p.put.passes q.passes;
    rest = on _ _ _ p.put.rest q.rest;
    received = received_both (view old) (view mid) (view new) x y p.put.received q.received;
    failed = tt;
    cause = tt;
  }
  finds-more {old = old} {mid = mid} {new = new} {x = x} {y = y} (Err e) on p q = record {
    finder = asked-both p.finder q.finder;
    passes = sink_passes_both p.put.passes q.passes;
    rest = on _ _ _ p.put.rest q.rest;
    received = tt;
    failed = part_after (view old) (view mid) (view new) x y p.put.received q.failed;
    cause = fault-more e (view old) (view mid) (view new) p.put.passes q.cause;
  }

  -- the exit of a `?`
  pub ends-in : {a n : FinderView} {old new : O} {bytes : List ℕ} {R : Type 0} (r : Result R GrepFault) (e : GrepFault) → IsErrAnd r (λ d. d ≡ e) → Finds {R = R} view same a n old new (Err e) bytes → Finds view same a n old new r bytes
  ends-in (Ok x) e is p = absurd is
  ends-in {a = a} {n = n} {old = old} {new = new} {bytes = bytes} {R = R} (Err d) e is p = subst (λ f. Finds {R = R} view same a n old new (Err f) bytes) (sym is) p

  -- what is written where a test holds, or doesn't, and for one kind of output
  pub if-set : {a n : FinderView} {old new : O} {R : Type 0} {r : Result R GrepFault} (b : Bool) (x : List ℕ) → b ≡ true → Finds view same a n old new r x → Finds view same a n old new r (if b then x else [])
  if-set true x is p = p
  if-set false x is p = absurd (false≢true is)

  pub if-unset : {a n : FinderView} {old new : O} {R : Type 0} {r : Result R GrepFault} (b : Bool) (x : List ℕ) → b ≡ false → Finds view same a n old new r [] → Finds view same a n old new r (if b then x else [])
  if-unset true x is p = absurd (false≢true (sym is))
  if-unset false x is p = p

  pub either-set : {a n : FinderView} {old new : O} {R : Type 0} {r : Result R GrepFault} (b : Bool) (x y : List ℕ) → b ≡ true → Finds view same a n old new r x → Finds view same a n old new r (if b then x else y)
  either-set true x y is p = p
  either-set false x y is p = absurd (false≢true is)

  pub either-unset : {a n : FinderView} {old new : O} {R : Type 0} {r : Result R GrepFault} (b : Bool) (x y : List ℕ) → b ≡ false → Finds view same a n old new r y → Finds view same a n old new r (if b then x else y)
  either-unset true x y is p = absurd (false≢true (sym is))
  either-unset false x y is p = p

  pub by-output : {a n : FinderView} {old new : O} {R : Type 0} {r : Result R GrepFault} (hit : List ℕ → Bool) (j : PlainGrepJob) (text : List ℕ) (q : FilePatch) (asked kind : GrepOut) → asked ≡ kind → Finds view same a n old new r (found_text hit kind j text q) → Finds view same a n old new r (found_text hit asked j text q)
  by-output {a = a} {n = n} {old = old} {new = new} {r = r} hit j text q asked kind is p = subst (λ o. Finds view same a n old new r (found_text hit o j text q)) (sym is) p

  -- what depends on the finder's test is the same before and after it was asked
  pub by-first : {a m n : FinderView} {mid new : O} {R : Type 0} {r : Result R GrepFault} (bytes : (List ℕ → Bool) → List ℕ) → IsAsked a m → Finds view same m n mid new r (bytes (test_of m)) → Finds view same m n mid new r (bytes (test_of a))
  by-first bytes asked p = subst (Finds view same _ _ _ _ _) (ap bytes (same-test asked)) p

  -- ---- a loop that writes a text for each element of a list, behind what was written in front of it

  module _ {A : Type 0} (f : A → List ℕ) (xs : List A) (on : GoesOn same) (front : List ℕ) where
    pub found-goes-on : {a m n : FinderView} {old mid new : O} (i : ℕ) (x : A) {R : Type 0} (r : R) → i < length xs → slice_get xs i ≡ Some x
        → HasFound view same a m old mid (front ++ up_to f xs i) → Finds view same m n mid new (Ok r) (f x) → HasFound view same a n old new (front ++ up_to f xs (i + 1))
    found-goes-on i x r lt is before step =
        let after = has-found r step in
        record { finder = asked-both before.finder after.finder; put = subst (HasPut view same _ _) (longer f xs front i x lt is) (has-more on before.put after.put) }

    pub found-stops : {a m n : FinderView} {old mid new : O} (i : ℕ) (x : A) {R S : Type 0} (e : GrepFault) → i < length xs → slice_get xs i ≡ Some x
        → HasFound view same a m old mid (front ++ up_to f xs i) → Finds {R = R} view same m n mid new (Err e) (f x) → Finds {R = S} view same a n old new (Err e) (front ++ flat_map f xs)
    found-stops i x {R = R} {S = S} e lt is before step =
        let rest = flat_map f (drop (i + 1) xs) in
        let whole : ((front ++ up_to f xs i) ++ f x) ++ rest ≡ front ++ flat_map f xs = ap (λ t. t ++ rest) (longer f xs front i x lt is) ∙ append_assoc front (up_to f xs (i + 1)) rest ∙ ap (λ t. front ++ t) (both f xs (i + 1)) in
        subst (Finds {R = S} view same _ _ _ _ (Err e)) whole (finds-stop e rest (finds-more {R = R} (Err e) on before step))

    pub found-ends : {a n : FinderView} {old new : O} (i : ℕ) {R : Type 0} (r : R) → i ≡ length xs → HasFound view same a n old new (front ++ up_to f xs i) → Finds view same a n old new (Ok r) (front ++ flat_map f xs)
    found-ends i r end before = subst (Finds view same _ _ _ _ (Ok r)) (ap (λ t. front ++ flat_map f t) (take_all i xs (omega (arith, end)))) (finds-done r before)

-- ---- the whole

-- once it keeps the pattern
pub test-is : {old new : FinderView} (pattern : List ℕ) → FinderPasses old new → new.kept ≡ Some pattern → test_of new ≡ old.hit pattern
test-is {old = old} {new = new} pattern passes kept = ap (λ k. test_by k new.hit) kept ∙ ap (λ hit. hit pattern) passes.hit

module _ {O : Type 0} (view : O → SinkView) (finder : FinderView) (pattern : List ℕ) {R : Type 0} where
  pub find-cause : (r : Result R GrepFault) (old new : O) → IfErr r (λ e. IsFindFault e (view old) (view new)) → IfErr r (λ e. HasGrepCause e view finder pattern old new)
  find-cause (Ok x) old new is = tt
  find-cause (Err Pattern) old new is = absurd is
  find-cause (Err Write) old new is = is
  find-cause (Err Memory) old new is = tt

  pub pattern-cause : (r : Result R GrepFault) (e : GrepFault) (old : O) → IsErrAnd r (λ d. d ≡ e) → IsPatternFault e finder pattern → IfErr r (λ e. HasGrepCause e view finder pattern old old)
  pattern-cause (Ok x) e old is cause = tt
  pattern-cause (Err d) e old is cause = by d (subst (λ f. IsPatternFault f finder pattern) (sym is) cause)
    where
      by : (d : GrepFault) → IsPatternFault d finder pattern → HasGrepCause d view finder pattern old old
      by Pattern cause = (cause, refl)
      by Write cause = absurd cause
      by Memory cause = tt

pub none-part : {R E : Type 0} (r : Result R E) (v : SinkView) (bytes : List ℕ) → OnErr r (ReceivesPart v v bytes)
none-part (Ok x) v bytes = tt
none-part (Err e) v bytes = part_longer v v [] bytes (received_part v v [] (received_none v))
