-- The state behind a hunk.
use Rattle.std.proofs.Common.{◌≡◌, ℕ, ◌+◌, ◌-◌, ◌<◌, ◌≤◌, ◌^◌, List, [], ◌++◌, length, reverse, count_by, Bool, true, false, cond, ◌&&◌, refl, sym, ap, subst, ◌∙◌, arith, to_z, of_z, w64, Option, Some, None, SFits}
use Rattle.std.specs.Prelude.{ℤ, pos, negsuc, ◌+ℤ◌, ◌-ℤ◌, ◌≤ℤ◌, ◌==◌}
use Rattle.std.specs.List.{prefix_len}
use Rattle.std.proofs.lemmas.Int.{ints}
use Rattle.std.proofs.lemmas.Bool.Decides.{nat_tests}
use Rattle.hunk_core.specs.declared.Side.{Side}
use Rattle.hunk_core.specs.declared.Hunk.{Hunk}
use Rattle.hunk_core.specs.Sides.{taken_count}
use Rattle.hunk_core.specs.PlainHunk.{PlainHunk, old_lines}
use Rattle.hunk_core.specs.Turned.{trailing, base, is_add, is_drop, taken_mark}
use Rattle.hunk_core.specs.declared.Verdict.{Verdict}
use Rattle.hunk_core.specs.declared.Verdict.TheVariants.{At, Nowhere}
use Rattle.hunk_core.proofs.TurnedLemmas.{is_kept_line}
use Rattle.hunk_place.specs.declared.PlaceState.{PlaceState}
use Rattle.hunk_place.specs.declared.Spot.{Spot}
use Rattle.hunk_place.specs.Taken.{taken}
use Rattle.hunk_place.specs.Verdicts.{IsPlaced, adds, drops, verdict_of, after_hunk}
use Rattle.hunk_place.proofs.TakenLemmas.{taken-trailing}
use Rattle.outside.specs.SinkView.{SinkView}
use Rattle.hunk_apply.specs.declared.put.Tail.{Tail}
use Rattle.hunk_apply.specs.Splice.{Edit, body_edits, hunk_edits, spliced_from, AreFrom}
use Rattle.hunk_apply.specs.Moved.{moved_state}
use Rattle.hunk_apply.specs.Written.{Wrote}
use Rattle.hunk_apply.proofs.BodyLemmas.{post-old}
use Rattle.hunk_apply.proofs.HunkLemmas.{adds-are, drops-are, old-length, no-edits}
use Rattle.hunk_apply.proofs.WrittenLemmas.{wrote-none, wrote-same}

pub net-is : (n : ℤ) (a d : ℕ) → a < 2 ^ 32 → d < 2 ^ 32 → negsuc (2 ^ 33) ≤ℤ n → n ≤ℤ pos (2 ^ 33) → to_z w64 (of_z w64 (to_z w64 (of_z w64 n) +ℤ to_z w64 (of_z w64 (to_z w64 a -ℤ to_z w64 d)))) ≡ n +ℤ (pos a -ℤ pos d)
net-is n a d high_a high_d low high = omega (arith, ints)

pub difference-fits : (a d : ℕ) → a < 2 ^ 32 → d < 2 ^ 32 → SFits w64 (to_z w64 a -ℤ to_z w64 d)
difference-fits a d high_a high_d = omega (arith, ints)

pub net-fits : (n : ℤ) (a d : ℕ) → a < 2 ^ 32 → d < 2 ^ 32 → negsuc (2 ^ 33) ≤ℤ n → n ≤ℤ pos (2 ^ 33) → SFits w64 (to_z w64 (of_z w64 n) +ℤ to_z w64 (of_z w64 (to_z w64 a -ℤ to_z w64 d)))
net-fits n a d high_a high_d low high = omega (arith, ints)

moved-is : (c : PlainHunk) (s : PlaceState) (line : ℕ) (offset : ℤ) (k : ℕ) (o n : ℤ) → k ≡ cond ((adds c == 0) && (drops c == 0)) s.consumed ((line - 1 + length (old_lines c.body)) - trailing c.body) → o ≡ offset → n ≡ s.net +ℤ (pos (adds c) -ℤ pos (drops c))
    → let p : PlaceState = record { consumed = k; offset = o; net = n } in p ≡ moved_state c s line offset
moved-is c s line offset k o n ek eo en =
    ap (λ x. let p : PlaceState = record { consumed = x; offset = o; net = n } in p) ek
    ∙ ap (λ x. let p : PlaceState = record { consumed = cond ((adds c == 0) && (drops c == 0)) s.consumed ((line - 1 + length (old_lines c.body)) - trailing c.body); offset = x; net = n } in p) eo
    ∙ ap (λ x. let p : PlaceState = record { consumed = cond ((adds c == 0) && (drops c == 0)) s.consumed ((line - 1 + length (old_lines c.body)) - trailing c.body); offset = offset; net = x } in p) en

test-is : (text : List ℕ) (side : Side) (h : Hunk) (a d : ℕ) (b : Bool) → a ≡ count_by (λ l. is_add (taken_mark side l.mark)) h.body.items → d ≡ count_by (λ l. is_drop (taken_mark side l.mark)) h.body.items → b ≡ ((a == 0) && (d == 0)) → ((adds (taken text side h) == 0) && (drops (taken text side h) == 0)) ≡ b
test-is text side h a d b ea ed eb =
    ap (λ x. (x == 0) && (drops (taken text side h) == 0)) (adds-are text side h ∙ sym ea)
    ∙ ap (λ x. (a == 0) && (x == 0)) (drops-are text side h ∙ sym ed) ∙ sym eb

pub moved-none : (text : List ℕ) (side : Side) (h : Hunk) (s : PlaceState) (line : ℕ) (offset : ℤ) (a d : ℕ) (b : Bool) (o n : ℤ) → a ≡ count_by (λ l. is_add (taken_mark side l.mark)) h.body.items → d ≡ count_by (λ l. is_drop (taken_mark side l.mark)) h.body.items → b ≡ ((a == 0) && (d == 0)) → b ≡ true → o ≡ offset → n ≡ s.net +ℤ (pos a -ℤ pos d)
    → let p : PlaceState = record { consumed = s.consumed; offset = o; net = n } in p ≡ moved_state (taken text side h) s line offset
moved-none text side h s line offset a d b o n ea ed eb t eo en =
    moved-is (taken text side h) s line offset s.consumed o n
    (sym (ap (λ x. cond x s.consumed ((line - 1 + length (old_lines (taken text side h).body)) - trailing (taken text side h).body)) (test-is text side h a d b ea ed eb ∙ t))) eo
    (en ∙ ap (λ x. s.net +ℤ (pos x -ℤ pos d)) (ea ∙ sym (adds-are text side h)) ∙ ap (λ x. s.net +ℤ (pos (adds (taken text side h)) -ℤ pos x)) (ed ∙ sym (drops-are text side h)))

pub moved-some : (text : List ℕ) (side : Side) (h : Hunk) (s : PlaceState) (line : ℕ) (offset : ℤ) (a d k : ℕ) (b : Bool) (o n : ℤ) → a ≡ count_by (λ l. is_add (taken_mark side l.mark)) h.body.items → d ≡ count_by (λ l. is_drop (taken_mark side l.mark)) h.body.items → b ≡ ((a == 0) && (d == 0)) → b ≡ false
    → k ≡ line - 1 + taken_count side h.body.items - prefix_len is_kept_line (reverse h.body.items) → o ≡ offset → n ≡ s.net +ℤ (pos a -ℤ pos d)
    → let p : PlaceState = record { consumed = k; offset = o; net = n } in p ≡ moved_state (taken text side h) s line offset
moved-some text side h s line offset a d k b o n ea ed eb t ek eo en =
    moved-is (taken text side h) s line offset k o n
    (ek ∙ ap (λ x. line - 1 + x - prefix_len is_kept_line (reverse h.body.items)) (sym (old-length text side h)) ∙ ap (λ x. line - 1 + length (old_lines (taken text side h).body) - x) (sym (taken-trailing text side h))
    ∙ sym (ap (λ x. cond x s.consumed ((line - 1 + length (old_lines (taken text side h).body)) - trailing (taken text side h).body)) (test-is text side h a d b ea ed eb ∙ t))) eo
    (en ∙ ap (λ x. s.net +ℤ (pos x -ℤ pos d)) (ea ∙ sym (adds-are text side h)) ∙ ap (λ x. s.net +ℤ (pos (adds (taken text side h)) -ℤ pos x)) (ed ∙ sym (drops-are text side h)))

both-zero : (a d : ℕ) → ((a == 0) && (d == 0)) ≡ true → (a ≡ 0) × (d ≡ 0)
both-zero a d h = (grind (arith, nat_tests), grind (arith, nat_tests))

pub same-edits : (text : List ℕ) (side : Side) (h : Hunk) (at a d : ℕ) (b : Bool) → a ≡ count_by (λ l. is_add (taken_mark side l.mark)) h.body.items → d ≡ count_by (λ l. is_drop (taken_mark side l.mark)) h.body.items → b ≡ ((a == 0) && (d == 0)) → b ≡ true → body_edits at (taken text side h).body ≡ []
same-edits text side h at a d b ea ed eb t =
    let z : (adds (taken text side h) ≡ 0) × (drops (taken text side h) ≡ 0) = both-zero (adds (taken text side h)) (drops (taken text side h)) (test-is text side h a d b ea ed eb ∙ t) in
    no-edits (taken text side h).body at z.0 z.1

more-below : (n : ℤ) (a d len : ℕ) → a ≤ len → (n +ℤ (pos a -ℤ pos d)) ≤ℤ (n +ℤ pos len)
more-below n a d len few = omega (arith, ints)

more-above : (n : ℤ) (a d len : ℕ) → d ≤ len → (n -ℤ pos len) ≤ℤ (n +ℤ (pos a -ℤ pos d))
more-above n a d len few = omega (arith, ints)

pub net-below : (n : ℤ) (a d len : ℕ) → a < 2 ^ 32 → d < 2 ^ 32 → negsuc (2 ^ 33) ≤ℤ n → n ≤ℤ pos (2 ^ 33) → a ≤ len → to_z w64 (of_z w64 (to_z w64 (of_z w64 n) +ℤ to_z w64 (of_z w64 (to_z w64 a -ℤ to_z w64 d)))) ≤ℤ (n +ℤ pos len)
net-below n a d len high_a high_d low high few = subst (λ m. m ≤ℤ (n +ℤ pos len)) (sym (net-is n a d high_a high_d low high)) (more-below n a d len few)

pub net-above : (n : ℤ) (a d len : ℕ) → a < 2 ^ 32 → d < 2 ^ 32 → negsuc (2 ^ 33) ≤ℤ n → n ≤ℤ pos (2 ^ 33) → d ≤ len → (n -ℤ pos len) ≤ℤ to_z w64 (of_z w64 (to_z w64 (of_z w64 n) +ℤ to_z w64 (of_z w64 (to_z w64 a -ℤ to_z w64 d))))
net-above n a d len high_a high_d low high few = subst (λ m. (n -ℤ pos len) ≤ℤ m) (sym (net-is n a d high_a high_d low high)) (more-above n a d len few)

-- a hunk that changes nothing consumes nothing
pub consumed-none : (text : List ℕ) (side : Side) (h : Hunk) (s : PlaceState) (line : ℕ) (offset : ℤ) (a d : ℕ) (b : Bool) → a ≡ count_by (λ l. is_add (taken_mark side l.mark)) h.body.items → d ≡ count_by (λ l. is_drop (taken_mark side l.mark)) h.body.items → b ≡ ((a == 0) && (d == 0)) → b ≡ true → (moved_state (taken text side h) s line offset).consumed ≡ s.consumed
consumed-none text side h s line offset a d b ea ed eb t =
    ap (λ x. cond x s.consumed ((line - 1 + length (old_lines (taken text side h).body)) - trailing (taken text side h).body)) (test-is text side h a d b ea ed eb ∙ t)

-- another one consumes its old lines but for trailing context
pub consumed-some : (text : List ℕ) (side : Side) (h : Hunk) (s : PlaceState) (line : ℕ) (offset : ℤ) (a d : ℕ) (b : Bool) → a ≡ count_by (λ l. is_add (taken_mark side l.mark)) h.body.items → d ≡ count_by (λ l. is_drop (taken_mark side l.mark)) h.body.items → b ≡ ((a == 0) && (d == 0)) → b ≡ false → 1 ≤ line
    → (moved_state (taken text side h) s line offset).consumed + 1 ≡ line + taken_count side h.body.items - prefix_len is_kept_line (reverse h.body.items)
consumed-some text side h s line offset a d b ea ed eb t low =
    let n : length (old_lines (taken text side h).body) ≡ taken_count side h.body.items = old-length text side h in
    let m : trailing (taken text side h).body ≡ prefix_len is_kept_line (reverse h.body.items) = taken-trailing text side h in
    let old : prefix_len is_kept_line (reverse h.body.items) ≤ taken_count side h.body.items = post-old side h.body.items in
    ap (λ x. cond x s.consumed ((line - 1 + length (old_lines (taken text side h).body)) - trailing (taken text side h).body) + 1) (test-is text side h a d b ea ed eb ∙ t)
    ∙ (let sum : (line - 1 + length (old_lines (taken text side h).body)) - trailing (taken text side h).body + 1 ≡ line + taken_count side h.body.items - prefix_len is_kept_line (reverse h.body.items) = omega arith in sum)

-- where a verdict says that a hunk stands
pub placed-consumed : (h : PlainHunk) (state : PlaceState) (place : Option Spot) (line fuzz : ℕ) (offset : ℤ) → At line fuzz offset ≡ verdict_of h place → (after_hunk h state place).consumed ≡ (moved_state h state line offset).consumed
placed-consumed h state None line fuzz offset e = cc
placed-consumed h state (Some s) line fuzz offset e =
    let same : line ≡ s.line = cc in
    ap (λ n. cond ((adds h == 0) && (drops h == 0)) state.consumed ((n - 1 + length (old_lines h.body)) - trailing h.body)) (sym same)

pub placed-edits : (h : PlainHunk) (place : Option Spot) (line fuzz : ℕ) (offset : ℤ) → At line fuzz offset ≡ verdict_of h place → body_edits line h.body ≡ hunk_edits place h
placed-edits h None line fuzz offset e = cc
placed-edits h (Some s) line fuzz offset e = let same : line ≡ s.line = cc in ap (λ n. body_edits n h.body) same

pub placed-state : (h : PlainHunk) (state : PlaceState) (place : Option Spot) (line fuzz : ℕ) (offset : ℤ) → At line fuzz offset ≡ verdict_of h place → moved_state h state line offset ≡ after_hunk h state place
placed-state h state None line fuzz offset e = cc
placed-state h state (Some s) line fuzz offset e =
    let same : line ≡ s.line = cc in
    let far : offset ≡ pos s.line -ℤ pos (base h) = cc in
    ap (λ n. moved_state h state n offset) same ∙ ap (λ o. moved_state h state s.line o) far

pub placed-wrote : (u v : SinkView) (r t : Tail) (lines : List (List ℕ)) (later : List Edit) (h : PlainHunk) (state : PlaceState) (place : Option Spot) (line fuzz : ℕ) (offset : ℤ) → At line fuzz offset ≡ verdict_of h place → AreFrom ((after_hunk h state place).consumed + 1) later
    → (AreFrom ((moved_state h state line offset).consumed + 1) later → Wrote u v r t (spliced_from lines (body_edits line h.body ++ later) (state.consumed + 1)) (spliced_from lines later ((moved_state h state line offset).consumed + 1)))
    → Wrote u v r t (spliced_from lines (hunk_edits place h ++ later) (state.consumed + 1)) (spliced_from lines later ((after_hunk h state place).consumed + 1))
placed-wrote u v r t lines later h state place line fuzz offset e from w =
    let there : (after_hunk h state place).consumed ≡ (moved_state h state line offset).consumed = placed-consumed h state place line fuzz offset e in
    wrote-same u v r t (spliced_from lines (body_edits line h.body ++ later) (state.consumed + 1)) (spliced_from lines (hunk_edits place h ++ later) (state.consumed + 1))
    (spliced_from lines later ((moved_state h state line offset).consumed + 1)) (spliced_from lines later ((after_hunk h state place).consumed + 1))
    (ap (λ es. spliced_from lines (es ++ later) (state.consumed + 1)) (placed-edits h place line fuzz offset e)) (ap (λ n. spliced_from lines later (n + 1)) (sym there))
    (w (subst (λ n. AreFrom (n + 1) later) there from))

-- where a verdict says that a hunk stands nowhere
pub nowhere-state : (h : PlainHunk) (state : PlaceState) (place : Option Spot) → Nowhere ≡ verdict_of h place → state ≡ after_hunk h state place
nowhere-state h state None e = refl
nowhere-state h state (Some s) e = cc

pub nowhere-wrote : (v : SinkView) (t : Tail) (lines : List (List ℕ)) (later : List Edit) (h : PlainHunk) (state : PlaceState) (place : Option Spot) → Nowhere ≡ verdict_of h place
    → Wrote v v t t (spliced_from lines (hunk_edits place h ++ later) (state.consumed + 1)) (spliced_from lines later ((after_hunk h state place).consumed + 1))
nowhere-wrote v t lines later h state None e = wrote-none v t (spliced_from lines later (state.consumed + 1))
nowhere-wrote v t lines later h state (Some s) e = absurd (cc)

pub still-below : (n : ℤ) (len : ℕ) → n ≤ℤ (n +ℤ pos len)
still-below n len = omega (arith, ints)

pub still-above : (n : ℤ) (len : ℕ) → (n -ℤ pos len) ≤ℤ n
still-above n len = omega (arith, ints)

-- a hunk's offset is small, and is handed on as it is
pub placed-near : (count consumed n post line fuzz : ℕ) (offset : ℤ) (v : Verdict) → v ≡ At line fuzz offset → IsPlaced count consumed n post v → (negsuc (2 ^ 41) ≤ℤ offset) × (offset ≤ℤ pos (2 ^ 41))
placed-near count consumed n post line fuzz offset v e p =
    let q : IsPlaced count consumed n post (At line fuzz offset) = subst (IsPlaced count consumed n post) e p in
    (q.2, q.3)

pub offset-is : (o : ℤ) → negsuc (2 ^ 41) ≤ℤ o → o ≤ℤ pos (2 ^ 41) → to_z w64 (of_z w64 o) ≡ o
offset-is o low high = omega (arith, ints)

-- the last line that is consumed is one of the file's
pub kept-within : (last line old post count : ℕ) → last + post + 1 ≡ line + old → line + old ≤ count + 1 + post → last ≤ count
kept-within last line old post count exact room = omega arith

-- the net count moves by no more than the lines of a hunk, and all hunks have few
pub net-over : (all part len : ℕ) (n m : ℤ) → all ≡ part + len → (pos 0 -ℤ pos part) ≤ℤ n → (n -ℤ pos len) ≤ℤ m → (pos 0 -ℤ pos all) ≤ℤ m
net-over all part len n m sum over moved = omega (arith, ints)

pub net-under : (all part len : ℕ) (n m : ℤ) → all ≡ part + len → n ≤ℤ pos part → m ≤ℤ (n +ℤ pos len) → m ≤ℤ pos all
net-under all part len n m sum under moved = omega (arith, ints)

pub few-over : (all part : ℕ) (n : ℤ) → part ≤ all → all < 2 ^ 32 → (pos 0 -ℤ pos part) ≤ℤ n → negsuc (2 ^ 33) ≤ℤ n
few-over all part n le few over = omega (arith, ints)

pub few-under : (all part : ℕ) (n : ℤ) → part ≤ all → all < 2 ^ 32 → n ≤ℤ pos part → n ≤ℤ pos (2 ^ 33)
few-under all part n le few under = omega (arith, ints)
