-- A text rewritten line by line and hunk by hunk.
use Rattle.std.proofs.Common.{◌≡◌, ℕ, ◌+◌, ◌≤◌, Bool, true, false, cond, ◌||◌, List, [], ◌∷◌, ◌++◌, length, drop, slice_range, Result, Ok, Err, refl, sym, ap, subst, ◌∙◌, arith, append_assoc}
use Rattle.std.proofs.lemmas.List.{append-nil}
use Rattle.line_list.specs.Lines.{lines, IsLineAt}
use Rattle.hunk_core.specs.declared.BadKind.{BadKind}
use Rattle.hunk_core.specs.declared.fault.FormFault.{FormFault}
use Rattle.hunk_core.specs.declared.fault.FormFault.TheVariants as errors
use Rattle.hunk_core.specs.PlainHunk.{Marked}
use Rattle.hunk_core.specs.Reading.{Fault, fault, Fails}
use Rattle.unified_form.specs.declared.body.Left.{Left}
use Rattle.unified_form.specs.Ranges.{is_opening}
use Rattle.unified_form.specs.Grammar.{counts_of}
use Rattle.split_recount.specs.declared.body.Sides.{Sides}
use Rattle.split_recount.specs.declared.body.Body.{Body}
use Rattle.split_recount.specs.declared.recounting.Reached.{Reached}
use Rattle.std.specs.Prelude.{codes}
use Rattle.split_recount.specs.Bodies.{begins, ends_body, body_of, marked_lines}
use Rattle.split_recount.specs.RangeLines.{stated}
use Rattle.split_recount.specs.Recounted.{unplaced, true_line, at_line, sound_body, recounted_line, in_front, with_body, behind_line, none, recounting, recounted_lines, bytes_of}
use Rattle.split_recount.specs.Measured.{left_of, body_at, behind_body, IsMeasured}
use Rattle.split_recount.specs.Walking.{IsReached, ahead_of, behind, Steps}
use Rattle.split_recount.proofs.Ends.{body_none, body_ends, body_more}

-- ---- a range line

pub line-refused : (number : ℕ) (earlier : Left) (line : List ℕ) (body : List (List ℕ)) (kind : BadKind) → stated line ≡ Err kind → recounted_line number earlier line body ≡ Err (fault number kind)
unfolding recounted_line
line-refused number earlier line body kind e = rw e refl

pub body-refused : (number : ℕ) (earlier : Left) (line : List ℕ) (body : List (List ℕ)) (said : ℕ × List ℕ) (wrong : FormFault) → stated line ≡ Ok said → Fails wrong (sound_body number body) → Fails wrong (recounted_line number earlier line body)
unfolding recounted_line
body-refused number earlier line body said (errors.Malformed at kind) e f = rw (e, f) refl
body-refused number earlier line body said errors.Memory e f = tt

pub line-is : (number : ℕ) (earlier : Left) (line : List ℕ) (body : List (List ℕ)) (said : ℕ × List ℕ) (marked : List Marked) (true_one : Result (List ℕ) BadKind) → stated line ≡ Ok said → sound_body number body ≡ Ok marked → true_line earlier (unplaced said.0 marked) said.1 ≡ true_one
    → recounted_line number earlier line body ≡ at_line number true_one
unfolding recounted_line
line-is number earlier line body said marked true_one e f g = rw (e, f, g) refl

-- ---- lines that are kept

-- all of these lines in front of others
abbrev all_in_front : List (List ℕ) → Result (List (List ℕ)) Fault → Result (List (List ℕ)) Fault
all_in_front [] others = others
all_in_front (line ∷ ls) others = in_front line (all_in_front ls others)

behind-line : (out line : List ℕ) (others : Result (List (List ℕ)) Fault) → behind out (in_front line others) ≡ behind (out ++ line) others
behind-line out line (Ok ls) = ap (λ bs. Ok bs) (sym (append_assoc out line (bytes_of ls)))
behind-line out line (Err e) = refl

behind-lines : (out : List ℕ) (ls : List (List ℕ)) (others : Result (List (List ℕ)) Fault) → behind out (all_in_front ls others) ≡ behind (out ++ bytes_of ls) others
behind-lines out [] others = ap (λ bs. behind bs others) (sym (append-nil out))
behind-lines out (line ∷ ls) others = behind-line out line (all_in_front ls others) ∙ behind-lines (out ++ line) ls others ∙ ap (λ bs. behind bs others) (append_assoc out line (bytes_of ls))

-- ---- one line, and one body

other-line : (number : ℕ) (earlier : Left) (line : List ℕ) (rest : List (List ℕ)) → is_opening line ≡ false → recounting number earlier false (line ∷ rest) ≡ in_front line (recounting (number + 1) (behind_line earlier false line) false rest)
unfolding recounting
other-line number earlier line rest e = rw e refl

opened : (number : ℕ) (earlier : Left) (line : List ℕ) (rest : List (List ℕ)) (new : List ℕ) → is_opening line ≡ true → recounted_line number earlier line (body_of rest) ≡ Ok new
    → recounting number earlier false (line ∷ rest) ≡ in_front new (recounting (number + 1) (with_body earlier (counts_of (marked_lines (body_of rest)))) true rest)
unfolding recounting
opened number earlier line rest new e f = rw (e, f) refl

refused : (number : ℕ) (earlier : Left) (line : List ℕ) (rest : List (List ℕ)) (wrong : FormFault) → is_opening line ≡ true → Fails wrong (recounted_line number earlier line (body_of rest)) → Fails wrong (recounting number earlier false (line ∷ rest))
unfolding recounting
refused number earlier line rest (errors.Malformed at kind) e f = rw (e, f) refl
refused number earlier line rest errors.Memory e f = tt

no-lines : (number : ℕ) (earlier : Left) (in_body : Bool) → recounting number earlier in_body [] ≡ Ok []
unfolding recounting
no-lines number earlier in_body = refl

-- ---- the body behind a range line

body-goes : (number : ℕ) (earlier : Left) (line : List ℕ) (rest : List (List ℕ)) → is_opening line ≡ false → ends_body line rest ≡ false → recounting number earlier true (line ∷ rest) ≡ in_front line (recounting (number + 1) earlier true rest)
unfolding recounting
body-goes number earlier line rest e f = rw (e, f) refl

body-stops : (number : ℕ) (earlier : Left) (line : List ℕ) (rest : List (List ℕ)) → ends_body line rest ≡ true → recounting number earlier true (line ∷ rest) ≡ recounting number earlier false (line ∷ rest)
unfolding recounting
body-stops number earlier line rest e = rw e refl

first-false : (a b : Bool) → (a || b) ≡ false → a ≡ false
first-false true b e = absurd cc
first-false false b e = refl

pub goes-other : (line : List ℕ) (rest : List (List ℕ)) → ends_body line rest ≡ false → is_opening line ≡ false
unfolding ends_body
goes-other line rest e = first-false (is_opening line) _ (first-false _ _ (first-false _ _ (first-false _ _ e)))

-- a body in front of what stands behind it, out of bodies
abbrev kept : ℕ → Left → List (List ℕ) → List (List ℕ) → Result (List (List ℕ)) Fault
kept number earlier ls body = all_in_front body (recounting (number + length body) earlier false (drop (length body) ls))

all-kept : (number : ℕ) (earlier : Left) (ls : List (List ℕ)) → recounting number earlier true ls ≡ kept number earlier ls (body_of ls)
all-kept number earlier [] = no-lines number earlier true ∙ sym (ap (kept number earlier []) (body_none [] refl) ∙ no-lines (number + 0) earlier false)
all-kept number earlier (line ∷ rest) = by (ends_body line rest) refl (all-kept (number + 1) earlier rest)
  where
    by : (v : Bool) → ends_body line rest ≡ v → recounting (number + 1) earlier true rest ≡ kept (number + 1) earlier rest (body_of rest) → recounting number earlier true (line ∷ rest) ≡ kept number earlier (line ∷ rest) (body_of (line ∷ rest))
    by true e more =
        let same : number ≡ number + 0 = omega arith in
        body-stops number earlier line rest e ∙ ap (λ n. recounting n earlier false (line ∷ rest)) same ∙ sym (ap (kept number earlier (line ∷ rest)) (body_ends (line ∷ rest) line rest refl e))
    by false e more =
        let same : number + 1 + length (body_of rest) ≡ number + length (line ∷ body_of rest) = omega arith in
        body-goes number earlier line rest (goes-other line rest e) e ∙ ap (in_front line) more
        ∙ ap (λ n. in_front line (all_in_front (body_of rest) (recounting n earlier false (behind_body rest)))) same
        ∙ sym (ap (kept number earlier (line ∷ rest)) (body_more (line ∷ rest) line rest refl e))

-- ---- steps

-- no more lines count behind a line than before
no-more : (earlier : Left) (line : List ℕ) (at : ℕ) → earlier.old ≤ at → earlier.new ≤ at → ((behind_line earlier false line).old ≤ at) × ((behind_line earlier false line).new ≤ at)
no-more earlier line at e f = by (begins (codes "+++ ") line)
  where
    by : (v : Bool) → ((cond v none earlier).old ≤ at) × ((cond v none earlier).new ≤ at)
    by true = (omega arith, omega arith)
    by false = (e, f)

pub step-line : (text : List ℕ) (from : Reached) (end : ℕ) (earlier : Sides) (old : List ℕ) → IsReached text from → IsLineAt text from.at end → is_opening (slice_range text from.at end) ≡ false
    → left_of earlier ≡ behind_line (left_of from.earlier) false (slice_range text from.at end) → Steps text old (old ++ slice_range text from.at end) from (Ok (record { at = end; number = from.number + 1; earlier = earlier }))
step-line text from end earlier old is place other e =
    let line = slice_range text from.at end in
    let few = no-more (left_of from.earlier) line from.at is.old is.new in
    let to : Reached = record { at = end; number = from.number + 1; earlier = earlier } in
    let ahead : ahead_of text from ≡ in_front line (ahead_of text to) =
    ap (recounting from.number (left_of from.earlier) false) place.first ∙ other-line from.number (left_of from.earlier) line (lines (drop end text)) other
    ∙ ap (λ l. in_front line (recounting (from.number + 1) l false (lines (drop end text)))) (sym e) in (
      record {
        within = place.high;
        number = omega (arith, is.number, place.low);
        old = omega (arith, few.0, place.low, ap (λ (l : Left). l.old) e);
        new = omega (arith, few.1, place.low, ap (λ (l : Left). l.new) e);
      },
      place.low,
      ap (behind old) ahead ∙ behind-line old line (ahead_of text to),
    )

pub step-refused : (text : List ℕ) (from : Reached) (end : ℕ) (wrong : FormFault) → IsLineAt text from.at end → is_opening (slice_range text from.at end) ≡ true
    → Fails wrong (recounted_line from.number (left_of from.earlier) (slice_range text from.at end) (body_at text end)) → Fails wrong (ahead_of text from)
step-refused text from end wrong place opens f =
    subst (λ ls. Fails wrong (recounting from.number (left_of from.earlier) false ls)) (sym place.first) (refused from.number (left_of from.earlier) (slice_range text from.at end) (lines (drop end text)) wrong opens f)

pub step-hunk : (text : List ℕ) (from : Reached) (end : ℕ) (b : Body) (line old : List ℕ) → IsReached text from → IsLineAt text from.at end → is_opening (slice_range text from.at end) ≡ true → IsMeasured text end b
    → recounted_line from.number (left_of from.earlier) (slice_range text from.at end) (body_at text end) ≡ Ok line
    → Steps text old ((old ++ line) ++ slice_range text end b.end) from (Ok (record { at = b.end; number = from.number + 1 + b.lines; earlier = record { old = from.earlier.old + b.sides.old; new = from.earlier.new + b.sides.new } }))
step-hunk text from end b line old is place opens m e =
    let to : Reached = record { at = b.end; number = from.number + 1 + b.lines; earlier = record { old = from.earlier.old + b.sides.old; new = from.earlier.new + b.sides.new } } in
    let earlier : Left = with_body (left_of from.earlier) (counts_of (marked_lines (body_at text end))) in
    let counted : earlier ≡ left_of to.earlier = ap (with_body (left_of from.earlier)) m.sides in
    let body : recounting (from.number + 1) earlier true (lines (drop end text)) ≡ all_in_front (body_at text end) (ahead_of text to) =
    all-kept (from.number + 1) earlier (lines (drop end text)) ∙ ap (λ n. all_in_front (body_at text end) (recounting (from.number + 1 + n) earlier false (behind_body (lines (drop end text))))) m.lines
    ∙ ap (λ ls. all_in_front (body_at text end) (recounting to.number earlier false ls)) m.rest ∙ ap (λ l. all_in_front (body_at text end) (recounting to.number l false (lines (drop b.end text)))) counted in
    let ahead : ahead_of text from ≡ in_front line (all_in_front (body_at text end) (ahead_of text to)) =
    ap (recounting from.number (left_of from.earlier) false) place.first ∙ opened from.number (left_of from.earlier) (slice_range text from.at end) (lines (drop end text)) line opens e ∙ ap (in_front line) body in (
      record {
        within = m.high;
        number = omega (arith, is.number, place.low, m.few.lines);
        old = omega (arith, is.old, place.low, m.few.lines, m.few.old);
        new = omega (arith, is.new, place.low, m.few.lines, m.few.new);
      },
      omega (arith, place.low, m.few.lines),
      ap (behind old) ahead ∙ behind-line old line (all_in_front (body_at text end) (ahead_of text to)) ∙ behind-lines (old ++ line) (body_at text end) (ahead_of text to)
          ∙ ap (λ (bs : List ℕ). behind ((old ++ line) ++ bs) (ahead_of text to)) m.bytes,
    )

-- the same of what was written piece by piece
pub step-put : (text : List ℕ) (from : Reached) (end : ℕ) (b : Body) (line old middle new : List ℕ) → new ≡ middle ++ slice_range text end b.end → middle ≡ old ++ line
    → IsReached text from → IsLineAt text from.at end → is_opening (slice_range text from.at end) ≡ true → IsMeasured text end b
    → recounted_line from.number (left_of from.earlier) (slice_range text from.at end) (body_at text end) ≡ Ok line
    → Steps text old new from (Ok (record { at = b.end; number = from.number + 1 + b.lines; earlier = record { old = from.earlier.old + b.sides.old; new = from.earlier.new + b.sides.new } }))
step-put text from end b line old middle new p q is place opens m e = rw (p, q) (step-hunk text from end b line old is place opens m e)

-- ---- the whole text

-- so many bytes were written, and the rest gives the whole
pub record Rewrites (text out : List ℕ) (r : Reached) : Type 0 where
  pub is : IsReached text r
  pub same : recounted_lines (lines text) ≡ behind out (ahead_of text r)

pub rewrites_begin : (text : List ℕ) → Rewrites text [] (record { at = 0; number = 1; earlier = record { old = 0; new = 0 } })
rewrites_begin text = record { is = record { within = omega arith; number = omega arith; old = omega arith; new = omega arith }; same = refl }

pub rewrites_more : (text out new : List ℕ) (r next : Reached) → Rewrites text out r → Steps text out new r (Ok next) → Rewrites text new next
rewrites_more text out new r next so steps = record { is = steps.0; same = so.same ∙ steps.2 }

fails-behind : (out : List ℕ) (read : Result (List (List ℕ)) Fault) (wrong : FormFault) → Fails wrong read → Fails wrong (behind out read)
fails-behind out read (errors.Malformed line kind) e = rw e refl
fails-behind out read errors.Memory e = tt

pub rewrites_fail : (text out new : List ℕ) (r : Reached) (wrong : FormFault) → Rewrites text out r → Steps text out new r (Err wrong) → Fails wrong (recounted_lines (lines text))
rewrites_fail text out new r wrong so f = subst (Fails wrong) (sym so.same) (fails-behind out (ahead_of text r) wrong f)

pub rewrites_done : (text out : List ℕ) (r : Reached) → Rewrites text out r → lines (drop r.at text) ≡ [] → recounted_lines (lines text) ≡ Ok out
rewrites_done text out r so none =
    so.same ∙ ap (λ ls. behind out (recounting r.number (left_of r.earlier) false ls)) none ∙ ap (behind out) (no-lines r.number (left_of r.earlier) false) ∙ ap (λ bs. Ok bs) (append-nil out)
