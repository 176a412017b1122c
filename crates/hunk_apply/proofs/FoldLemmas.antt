-- One hunk more of the fold.
use Rattle.std.proofs.Common.{◌≡◌, ℕ, ◌+◌, ◌-◌, ◌<◌, ◌≤◌, List, [], ◌∷◌, ◌++◌, length, get_or, set, take, drop, Bool, true, false, cond, ◌&&◌, refl, sym, ap, subst, ◌∙◌, arith, append_assoc, Option, Some, None}
use Rattle.std.specs.Prelude.{◌==◌}
use Rattle.std.proofs.lemmas.List.{at_drop_more, drop_all, take_all, take_more_set, append-nil}
use Rattle.hunk_core.specs.declared.Side.{Side}
use Rattle.hunk_core.specs.declared.Hunk.{Hunk}
use Rattle.hunk_core.specs.declared.Verdict.{Verdict}
use Rattle.hunk_core.specs.PlainHunk.{PlainHunk, old_lines}
use Rattle.hunk_core.specs.Turned.{trailing}
use Rattle.hunk_place.specs.declared.PlaceState.{PlaceState}
use Rattle.hunk_place.specs.declared.Spot.{Spot}
use Rattle.hunk_place.specs.Taken.{taken}
use Rattle.hunk_place.specs.Verdicts.{verdicts, spots, spot, verdict_of, after_hunk, at_start, adds, drops}
use Rattle.hunk_apply.specs.Applied.{taken_all, applied}
use Rattle.line_list.specs.Join.{join}
use Rattle.hunk_apply.specs.Splice.{body_edits, hunk_edits, all_edits, spliced_from, AreFrom}
use Rattle.hunk_apply.proofs.SpliceLemmas.{sooner, from-append, spliced-whole}
use Rattle.hunk_apply.proofs.BodyLemmas.{edits-from}
use Rattle.hunk_apply.proofs.HunkLemmas.{trailing-old}
use Rattle.hunk_apply.proofs.PlaceLemmas.{spot-behind}

pub edits-cons : (place : Option Spot) (ss : List (Option Spot)) (c : PlainHunk) (cs : List PlainHunk) → all_edits (place ∷ ss) (c ∷ cs) ≡ hunk_edits place c ++ all_edits ss cs
unfolding all_edits
edits-cons place ss c cs = refl

pub verdicts-more : (lines : List (List ℕ)) (fuzz : ℕ) (loose : Bool) (text : List ℕ) (side : Side) (hunks : List Hunk) (j : ℕ) (h : Hunk) (state next : PlaceState) (v d : Verdict) (vs : List Verdict) → j < length hunks → h ≡ get_or hunks j h → length vs ≡ length hunks
    → v ≡ verdict_of (taken text side h) (spot lines fuzz loose (taken text side h) state) → next ≡ after_hunk (taken text side h) state (spot lines fuzz loose (taken text side h) state)
    → take j vs ++ verdicts lines fuzz loose state (taken_all text side (drop j hunks)) ≡ take (j + 1) (set vs j v) ++ verdicts lines fuzz loose next (taken_all text side (drop (j + 1) hunks))
unfolding verdicts
verdicts-more lines fuzz loose text side hunks j h state next v d vs lt is len ev en =
    let rest : List Verdict = verdicts lines fuzz loose next (taken_all text side (drop (j + 1) hunks)) in
    let open_ : verdicts lines fuzz loose state (taken_all text side (drop j hunks)) ≡ v ∷ verdicts lines fuzz loose next (taken_all text side (drop (j + 1) hunks)) =
    at_drop_more (λ hs. verdicts lines fuzz loose state (taken_all text side hs)) hunks j h lt
    ∙ ap (λ x. verdicts lines fuzz loose state (taken_all text side (x ∷ drop (j + 1) hunks))) (sym is)
    ∙ ap (λ s. verdict_of (taken text side h) (spot lines fuzz loose (taken text side h) state) ∷ verdicts lines fuzz loose s (taken_all text side (drop (j + 1) hunks))) (sym en)
    ∙ ap (λ x. x ∷ verdicts lines fuzz loose next (taken_all text side (drop (j + 1) hunks))) (sym ev) in
    let room : j < length vs = omega arith in
    ap (λ r. take j vs ++ r) open_
    ∙ sym (append_assoc (take j vs) (v ∷ []) (verdicts lines fuzz loose next (taken_all text side (drop (j + 1) hunks))))
    ∙ ap (λ r. r ++ verdicts lines fuzz loose next (taken_all text side (drop (j + 1) hunks))) (sym (take_more_set vs j v room))

pub edits-more : (lines : List (List ℕ)) (fuzz : ℕ) (loose : Bool) (text : List ℕ) (side : Side) (hunks : List Hunk) (j : ℕ) (h : Hunk) (state : PlaceState) → j < length hunks → h ≡ get_or hunks j h
    → all_edits (spots lines fuzz loose state (taken_all text side (drop j hunks))) (taken_all text side (drop j hunks))
    ≡ hunk_edits (spot lines fuzz loose (taken text side h) state) (taken text side h) ++ all_edits (spots lines fuzz loose (after_hunk (taken text side h) state (spot lines fuzz loose (taken text side h) state)) (taken_all text side (drop (j + 1) hunks))) (taken_all text side (drop (j + 1) hunks))
unfolding spots
edits-more lines fuzz loose text side hunks j h state lt is =
    at_drop_more (λ hs. all_edits (spots lines fuzz loose state (taken_all text side hs)) (taken_all text side hs)) hunks j h lt
    ∙ ap (λ x. all_edits (spots lines fuzz loose state (taken_all text side (x ∷ drop (j + 1) hunks))) (taken_all text side (x ∷ drop (j + 1) hunks))) (sym is)
    ∙ edits-cons (spot lines fuzz loose (taken text side h) state) (spots lines fuzz loose (after_hunk (taken text side h) state (spot lines fuzz loose (taken text side h) state)) (taken_all text side (drop (j + 1) hunks))) (taken text side h) (taken_all text side (drop (j + 1) hunks))

pub verdicts-end : (lines : List (List ℕ)) (fuzz : ℕ) (loose : Bool) (text : List ℕ) (side : Side) (hunks : List Hunk) (j : ℕ) (state : PlaceState) (vs : List Verdict) → length hunks ≤ j → length vs ≡ length hunks → take j vs ++ verdicts lines fuzz loose state (taken_all text side (drop j hunks)) ≡ vs
unfolding verdicts
verdicts-end lines fuzz loose text side hunks j state vs le len =
    ap (λ hs. take j vs ++ verdicts lines fuzz loose state (taken_all text side hs)) (drop_all j hunks le) ∙ append-nil (take j vs) ∙ take_all j vs (omega arith)

pub edits-end : (lines : List (List ℕ)) (fuzz : ℕ) (loose : Bool) (text : List ℕ) (side : Side) (hunks : List Hunk) (j : ℕ) (state : PlaceState) → length hunks ≤ j → all_edits (spots lines fuzz loose state (taken_all text side (drop j hunks))) (taken_all text side (drop j hunks)) ≡ []
unfolding spots all_edits
edits-end lines fuzz loose text side hunks j state le = ap (λ hs. all_edits (spots lines fuzz loose state (taken_all text side hs)) (taken_all text side hs)) (drop_all j hunks le)

pub applied-is : (lines : List (List ℕ)) (fuzz : ℕ) (loose : Bool) (hs : List PlainHunk) → join (spliced_from lines (all_edits (spots lines fuzz loose at_start hs) hs) 1) ≡ applied lines fuzz loose hs
unfolding applied
applied-is lines fuzz loose hs = ap join (sym (spliced-whole lines (all_edits (spots lines fuzz loose at_start hs) hs)))

-- what a hunk consumes lies behind what was consumed
pub consumes : (text : List ℕ) (side : Side) (h : Hunk) (state : PlaceState) (place : Option Spot) → ((s : Spot) → place ≡ Some s → state.consumed < s.line) → state.consumed ≤ (after_hunk (taken text side h) state place).consumed
consumes text side h state None behind = omega arith
consumes text side h state (Some s) behind =
    let lt : state.consumed < s.line = behind s refl in
    let old : trailing (taken text side h).body ≤ length (old_lines (taken text side h).body) = trailing-old text side h in
    by ((adds (taken text side h) == 0) && (drops (taken text side h) == 0)) (omega arith)
  where
    by : (b : Bool) → state.consumed ≤ (s.line - 1 + length (old_lines (taken text side h).body)) - trailing (taken text side h).body → state.consumed ≤ cond b state.consumed ((s.line - 1 + length (old_lines (taken text side h).body)) - trailing (taken text side h).body)
    by true le = omega arith
    by false le = le

hunk-from : (q : ℕ) (place : Option Spot) (h : PlainHunk) → ((s : Spot) → place ≡ Some s → q ≤ s.line) → AreFrom q (hunk_edits place h)
hunk-from q None h low = tt
hunk-from q (Some s) h low = sooner q s.line (body_edits s.line h.body) (low s refl) (edits-from s.line h.body)

pub spots-cons : (lines : List (List ℕ)) (fuzz : ℕ) (loose : Bool) (state : PlaceState) (h : PlainHunk) (hs : List PlainHunk) → spots lines fuzz loose state (h ∷ hs) ≡ spot lines fuzz loose h state ∷ spots lines fuzz loose (after_hunk h state (spot lines fuzz loose h state)) hs
unfolding spots
spots-cons lines fuzz loose state h hs = refl

pub edits-nil : (places : List (Option Spot)) → all_edits places [] ≡ []
unfolding all_edits
edits-nil [] = refl
edits-nil (p ∷ ps) = refl

-- the edits of the hunks that are to come lie behind what was consumed
pub edits-behind : (lines : List (List ℕ)) (fuzz : ℕ) (loose : Bool) (text : List ℕ) (side : Side) (hunks : List Hunk) (state : PlaceState) → AreFrom (state.consumed + 1) (all_edits (spots lines fuzz loose state (taken_all text side hunks)) (taken_all text side hunks))
edits-behind lines fuzz loose text side [] state = subst (AreFrom (state.consumed + 1)) (sym (edits-nil (spots lines fuzz loose state []))) tt
edits-behind lines fuzz loose text side (h ∷ hs) state =
    let c : PlainHunk = taken text side h in
    let place : Option Spot = spot lines fuzz loose (taken text side h) state in
    let next : PlaceState = after_hunk (taken text side h) state (spot lines fuzz loose (taken text side h) state) in
    let later : state.consumed ≤ next.consumed = consumes text side h state (spot lines fuzz loose (taken text side h) state) (λ s is. spot-behind lines fuzz loose (taken text side h) state s is) in
    subst (AreFrom (state.consumed + 1))
    (sym (ap (λ ps. all_edits ps (taken_all text side (h ∷ hs))) (spots-cons lines fuzz loose state (taken text side h) (taken_all text side hs)) ∙ edits-cons place (spots lines fuzz loose next (taken_all text side hs)) c (taken_all text side hs)))
    (from-append (state.consumed + 1) (hunk_edits place c) (all_edits (spots lines fuzz loose next (taken_all text side hs)) (taken_all text side hs))
    (hunk-from (state.consumed + 1) place c (λ s is. (let lt : state.consumed < s.line = spot-behind lines fuzz loose (taken text side h) state s is in omega arith)))
    (sooner (state.consumed + 1) (next.consumed + 1) (all_edits (spots lines fuzz loose next (taken_all text side hs)) (taken_all text side hs)) (omega arith) (edits-behind lines fuzz loose text side hs next)))
