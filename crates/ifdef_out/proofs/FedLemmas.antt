-- The lines of a completed text that was joined.
use Rattle.std.proofs.Common.{◌≡◌, inl, inr, ℕ, ◌<◌, List, [], ◌∷◌, ◌++◌, length, map, refl, sym, ap, subst, ◌∙◌, arith, append_assoc}
use Rattle.std.specs.List.{AllByRecursion}
use Rattle.std.proofs.lemmas.List.{append-nil, length-append}
use Rattle.std.proofs.lemmas.List.Concat.{flat_map-cons}
use Rattle.line_list.specs.Lines.{lines, IsLine, IsOpenLine, ArePieces}
use Rattle.line_list.specs.Join.{join, lacks_feed, feed_if}
use Rattle.line_list.specs.Completed.{completed}
use Rattle.line_list.proofs.JoinLemmas.{lacks-append, line-has, open-lacks, open-last, open-nothing, join-one}
use Rattle.line_list.proofs.Pieces.{joined, pieces-only}
use Rattle.line_list.proofs.WholeLines.{IsPieceLine}
use Rattle.ifdef_out.specs.Reading.{fed}

open-closed : (line : List ℕ) → IsOpenLine line → IsLine (line ++ 10 ∷ [])
open-closed [] h = absurd (omega (arith, h.0))
open-closed (b ∷ []) h = (h.1.0, refl)
open-closed (b ∷ c ∷ bs) h = (h.1.0, open-closed (c ∷ bs) (omega arith, h.1.1))

pub fed-whole : (line : List ℕ) → IsLine line → fed line ≡ line
fed-whole line h = ap (λ b. line ++ feed_if b) (line-has line h) ∙ append-nil line

fed-line : (line : List ℕ) → IsPieceLine line → IsLine (fed line)
fed-line line (inl h) = subst IsLine (sym (fed-whole line h)) h
fed-line line (inr h) = subst (λ b. IsLine (line ++ feed_if b)) (sym (open-lacks line h)) (open-closed line h)

some-line : (line : List ℕ) → IsLine line → 0 < length line
some-line [] h = absurd h
some-line (b ∷ bs) h = omega arith

some-piece : (line : List ℕ) → IsPieceLine line → 0 < length line
some-piece line (inl h) = some-line line h
some-piece line (inr h) = h.0

fed-pieces : (ls : List (List ℕ)) → AllByRecursion IsPieceLine ls → ArePieces (map fed ls)
fed-pieces [] h = tt
fed-pieces (l ∷ []) h = inl (fed-line l h.0)
fed-pieces (l ∷ next ∷ more) h = (fed-line l h.0, fed-pieces (next ∷ more) h.1)

join-cons : (line next : List ℕ) (more : List (List ℕ)) → join (line ∷ next ∷ more) ≡ fed line ++ join (next ∷ more)
unfolding join
join-cons line next more = refl

join-none : join [] ≡ []
unfolding join
join-none = refl

some-join : (line : List ℕ) (more : List (List ℕ)) → IsPieceLine line → 0 < length (join (line ∷ more))
some-join line [] h = omega (arith, ap length (join-one line), some-piece line h)
some-join line (next ∷ more) h = omega (arith, ap length (join-cons line next more), length-append (fed line) (join (next ∷ more)), length-append line (feed_if (lacks_feed line)), some-piece line h)

completed-some : (text : List ℕ) → 0 < length text → completed text ≡ fed text
unfolding completed
completed-some text some = ap (λ b. text ++ feed_if b) (open-last text some)

completed-none : completed [] ≡ []
unfolding completed
completed-none = ap feed_if (open-nothing [] refl)

fed-append : (a b : List ℕ) → 0 < length b → fed (a ++ b) ≡ a ++ fed b
fed-append a b some = append_assoc a b (feed_if (lacks_feed (a ++ b))) ∙ ap (λ v. a ++ (b ++ feed_if v)) (lacks-append a b some)

completed-joined : (ls : List (List ℕ)) → AllByRecursion IsPieceLine ls → completed (join ls) ≡ joined (map fed ls)
completed-joined [] h = ap completed join-none ∙ completed-none
completed-joined (line ∷ []) h =
    ap completed (join-one line) ∙ completed-some line (some-piece line h.0) ∙ sym (append-nil (fed line)) ∙ sym (flat_map-cons (λ (l : List ℕ). l) (fed line) [])
completed-joined (line ∷ next ∷ more) h =
    let some : 0 < length (join (next ∷ more)) = some-join next more h.1.0 in
    ap completed (join-cons line next more)
    ∙ completed-some (fed line ++ join (next ∷ more)) (omega (arith, length-append (fed line) (join (next ∷ more))))
    ∙ fed-append (fed line) (join (next ∷ more)) some
    ∙ ap (λ r. fed line ++ r) (sym (completed-some (join (next ∷ more)) some) ∙ completed-joined (next ∷ more) h.1)
    ∙ sym (flat_map-cons (λ (l : List ℕ). l) (fed line) (map fed (next ∷ more)))

-- the lines of the completed text are those that were joined, each with its line feed
pub lines-joined : (ls : List (List ℕ)) → AllByRecursion IsPieceLine ls → lines (completed (join ls)) ≡ map fed ls
lines-joined ls h = ap lines (completed-joined ls h) ∙ pieces-only (map fed ls) (fed-pieces ls h)
