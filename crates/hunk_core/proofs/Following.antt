-- Reading one hunk after the other, as a loop does.
use Rattle.std.proofs.Common.{◌≡◌, ℕ, zero, suc, ◌-◌, ◌≤◌, ◌<◌, Bool, true, false, List, [], ◌∷◌, ◌++◌, drop, length, Result, Ok, Err, refl, sym, ap, subst, ◌∙◌, arith}
use Rattle.std.proofs.lemmas.List.{append-nil}
use Rattle.hunk_core.specs.declared.fault.FormFault.{FormFault}
use Rattle.hunk_core.specs.declared.fault.FormFault.TheVariants as errors
use Rattle.hunk_core.specs.PlainHunk.{PlainHunk}
use Rattle.line_list.specs.Lines.{lines}
use Rattle.hunk_core.specs.declared.fault.Place.{Place}
use Rattle.hunk_core.specs.Reading.{◌>>=◌, Fault, Fails, Ahead, ahead, ahead_of}
use Rattle.hunk_core.specs.Following.{hunks_by, reading_by, IsTaken, AreTaken}
use Rattle.hunk_core.proofs.ReadSteps.{with_front, front_none, regroup}

-- these hunks were read, and what is left gives the whole
pub record HunksSoFar (begins : List (List ℕ) → Bool) (hunk : ℕ → Ahead → Result (PlainHunk × Ahead) Fault) (front : List PlainHunk) (least : ℕ) (p : Ahead) (total : Result (List PlainHunk × Ahead) Fault) : Type 0 where
  pub most : ℕ
  pub enough : length p.rest ≤ most
  pub same : with_front front (hunks_by begins hunk most least p) ≡ total

module _ (begins : List (List ℕ) → Bool) (hunk : ℕ → Ahead → Result (PlainHunk × Ahead) Fault) where
  pub hunks_begin : (least : ℕ) (p : Ahead) → HunksSoFar begins hunk [] least p (hunks_by begins hunk (length p.rest) least p)
  hunks_begin least p = record { most = length p.rest; enough = omega arith; same = front_none (hunks_by begins hunk (length p.rest) least p) }

  -- the first of these hunks, and those behind it
  abbrev pub more_hunks : ℕ → PlainHunk × Ahead → Result (List PlainHunk × Ahead) Fault
  more_hunks most first = hunks_by begins hunk most first.0.old_start first.1 >>= λ others. Ok (first.0 ∷ others.0, others.1)

  pub hunks_step : (most least : ℕ) (p : Ahead) → begins p.rest ≡ true → hunks_by begins hunk (suc most) least p ≡ (hunk least p >>= more_hunks most)
  unfolding hunks_by
  hunks_step most least p opens = rw opens refl

  pub no_hunks : (most least : ℕ) (p : Ahead) → begins p.rest ≡ false → hunks_by begins hunk most least p ≡ Ok ([], p)
  unfolding hunks_by
  no_hunks zero least p none = refl
  no_hunks (suc most) least p none = rw none refl

  pub hunks_go_on : (front : List PlainHunk) (least : ℕ) (p : Ahead) (x : PlainHunk × Ahead) (total : Result (List PlainHunk × Ahead) Fault) → begins p.rest ≡ true → hunk least p ≡ Ok x → length x.1.rest < length p.rest
      → HunksSoFar begins hunk front least p total → HunksSoFar begins hunk (front ++ x.0 ∷ []) x.0.old_start x.1 total
  hunks_go_on front least p x total opens read fewer so_far =
      let most = so_far.most in
      let k : most ≡ suc (most - 1) = omega (arith, so_far.enough, fewer) in
      let one : with_front front (hunks_by begins hunk most least p) ≡ with_front (front ++ x.0 ∷ []) (hunks_by begins hunk (most - 1) x.0.old_start x.1) = ap (λ m. with_front front (hunks_by begins hunk m least p)) k ∙ rw (hunks_step (most - 1) least p opens, read) (regroup front x.0 (hunks_by begins hunk (most - 1) x.0.old_start x.1)) in
      record { most = most - 1; enough = omega (arith, so_far.enough, fewer); same = sym one ∙ so_far.same }

  pub hunks_fail : (e : FormFault) (front : List PlainHunk) (least : ℕ) (p : Ahead) (total : Result (List PlainHunk × Ahead) Fault) → begins p.rest ≡ true → 0 < length p.rest → Fails e (hunk least p) → HunksSoFar begins hunk front least p total → Fails e total
  hunks_fail errors.Memory front least p total opens some h so_far = tt
  hunks_fail (errors.Malformed line kind) front least p total opens some h so_far =
      let k : so_far.most ≡ suc (so_far.most - 1) = omega (arith, so_far.enough, some) in
      let one : with_front front (hunks_by begins hunk so_far.most least p) ≡ Err (record { line = line; kind = kind }) = ap (λ m. with_front front (hunks_by begins hunk m least p)) k ∙ rw (hunks_step (so_far.most - 1) least p opens, h) refl in
      sym so_far.same ∙ one

  pub hunks_done : (front : List PlainHunk) (least : ℕ) (p : Ahead) (total : Result (List PlainHunk × Ahead) Fault) → begins p.rest ≡ false → HunksSoFar begins hunk front least p total → total ≡ Ok (front, p)
  hunks_done front least p total none so_far = sym so_far.same ∙ rw (no_hunks so_far.most least p none) (ap (λ ns. Ok (ns, p)) (append-nil front))

-- ---- what is kept of them

-- what was read and kept so far, from a place on
pub record TakenSoFar {S : Type 0} (begins : List (List ℕ) → Bool) (hunk : ℕ → Ahead → Result (PlainHunk × Ahead) Fault) (Has : List ℕ → ℕ → List PlainHunk → ℕ → ℕ → S → Type 0) (text : List ℕ) (from : ℕ) (before now : S) (least : ℕ) (place : Place) (total : Result (List PlainHunk × Ahead) Fault) : Type 0 where
  pub hunks : List PlainHunk
  pub so_far : HunksSoFar begins hunk hunks least (ahead_of text place) total
  pub has : Has text from [] from 0 before → Has text from hunks place.at least now

module _ {S : Type 0} (begins : List (List ℕ) → Bool) (hunk : ℕ → Ahead → Result (PlainHunk × Ahead) Fault) (Has : List ℕ → ℕ → List PlainHunk → ℕ → ℕ → S → Type 0) (text : List ℕ) (from : ℕ) (before : S) where
  pub taken_begin : (number : ℕ) → TakenSoFar begins hunk Has text from before before 0 (record { at = from; number = number }) (reading_by begins hunk number (lines (drop from text)))
  taken_begin number = record { hunks = []; so_far = hunks_begin begins hunk 0 (ahead number (lines (drop from text))); has = λ h. h }

  pub taken_go_on : (now mid after : S) (least start : ℕ) (place next : Place) (total : Result (List PlainHunk × Ahead) Fault) → begins (lines (drop place.at text)) ≡ true
      → ((hs : List PlainHunk) → Has text from hs place.at least now → Has text from hs place.at least mid) → IsTaken hunk Has text least place mid after start next
      → TakenSoFar begins hunk Has text from before now least place total → TakenSoFar begins hunk Has text from before after start next total
  taken_go_on now mid after least start place next total opens same one so_far = record {
    hunks = so_far.hunks ++ one.first ∷ [];
    so_far = subst (λ n. HunksSoFar begins hunk (so_far.hunks ++ one.first ∷ []) n (ahead_of text next) total) one.starts (hunks_go_on begins hunk so_far.hunks least (ahead_of text place) (one.first, ahead_of text next) total opens one.read one.fewer so_far.so_far);
    has = λ h. one.has from so_far.hunks (same so_far.hunks (so_far.has h));
  }

  pub taken_fail : (e : FormFault) (now : S) (least : ℕ) (place : Place) (total : Result (List PlainHunk × Ahead) Fault) → begins (lines (drop place.at text)) ≡ true → 0 < length (lines (drop place.at text)) → Fails e (hunk least (ahead_of text place))
      → TakenSoFar begins hunk Has text from before now least place total → Fails e total
  taken_fail e now least place total opens some h so_far = hunks_fail begins hunk e so_far.hunks least (ahead_of text place) total opens some h so_far.so_far

  pub taken_done : (number : ℕ) (now after : S) (least : ℕ) (place : Place) → begins (lines (drop place.at text)) ≡ false
      → ((hs : List PlainHunk) → Has text from hs place.at least now → Has text from hs place.at least after)
      → TakenSoFar begins hunk Has text from before now least place (reading_by begins hunk number (lines (drop from text))) → AreTaken begins hunk Has text from number before after place
  taken_done number now after least place none same so_far = record {
    hunks = so_far.hunks;
    last = least;
    read = hunks_done begins hunk so_far.hunks least (ahead_of text place) _ none so_far.so_far;
    has = λ h. same so_far.hunks (so_far.has h);
  }
