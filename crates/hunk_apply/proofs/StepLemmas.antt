-- One line of a body, by its mark.
use Rattle.std.proofs.Common.{◌≡◌, ℕ, ◌+◌, ◌≤◌, List, ◌∷◌, ◌++◌, Bool, ◌&&◌, length, sym, ap, subst, ◌∙◌, arith}
use Rattle.outside.specs.SinkView.{SinkView, Receives, ReceivesPart}
use Rattle.hunk_core.specs.declared.Mark.{Mark}
use Rattle.hunk_core.specs.declared.Mark.TheVariants.{Keep, Drop, Add}
use Rattle.hunk_core.specs.declared.Side.{Side}
use Rattle.hunk_core.specs.Turned.{taken_mark}
use Rattle.hunk_apply.specs.declared.put.Tail.{Tail}
use Rattle.line_list.specs.Join.{lacks_feed, feed_if}
use Rattle.hunk_apply.specs.Splice.{Edit, marked_edits, spliced_from, AreFrom}
use Rattle.hunk_apply.specs.Written.{is_nothing, join_behind, Wrote}
use Rattle.hunk_apply.specs.Passage.{width}
use Rattle.hunk_apply.proofs.BodyLemmas.{marked-width}
use Rattle.hunk_apply.proofs.SpliceLemmas.{line-dropped, line-added}
use Rattle.hunk_apply.proofs.WrittenLemmas.{wrote-none, wrote-line, wrote-same, part-line, part-same}

-- the lines from a line of a body on
abbrev pub with_line : List (List ℕ) → Mark → ℕ → List ℕ → List Edit → List (List ℕ)
with_line lines k q line later = spliced_from lines (marked_edits k q line (λ _. later)) q

pub keep-wide : (side : Side) (k : Mark) (q : ℕ) → taken_mark side k ≡ Keep → q + 1 ≡ q + width side k
keep-wide side k q e = let w : width side k ≡ 1 = marked-width side k Keep e in ap (λ n. q + n) (sym w)

pub drop-wide : (side : Side) (k : Mark) (q : ℕ) → taken_mark side k ≡ Drop → q + 1 ≡ q + width side k
drop-wide side k q e = let w : width side k ≡ 1 = marked-width side k Drop e in ap (λ n. q + n) (sym w)

pub add-wide : (side : Side) (k : Mark) (q : ℕ) → taken_mark side k ≡ Add → q ≡ q + width side k
add-wide side k q e = let w : width side k ≡ 0 = marked-width side k Add e in omega arith

pub keep-step : (u v : SinkView) (r s : Tail) (lines : List (List ℕ)) (later : List Edit) (side : Side) (k : Mark) (q : ℕ) (line : List ℕ) → taken_mark side k ≡ Keep
    → Wrote u v r s (spliced_from lines later q) (spliced_from lines later (q + 1)) → Wrote u v r s (with_line lines (taken_mark side k) q line later) (spliced_from lines later (q + width side k))
keep-step u v r s lines later side k q line e w =
    wrote-same u v r s (spliced_from lines later q) (with_line lines (taken_mark side k) q line later) (spliced_from lines later (q + 1)) (spliced_from lines later (q + width side k))
    (ap (λ m. with_line lines m q line later) (sym e)) (ap (spliced_from lines later) (keep-wide side k q e)) w

pub keep-part : (u v : SinkView) (is_open : Bool) (lines : List (List ℕ)) (later : List Edit) (side : Side) (k : Mark) (q : ℕ) (line : List ℕ) → taken_mark side k ≡ Keep
    → ReceivesPart u v (join_behind is_open (spliced_from lines later q)) → ReceivesPart u v (join_behind is_open (with_line lines (taken_mark side k) q line later))
keep-part u v is_open lines later side k q line e h =
    part-same u v is_open (spliced_from lines later q) (with_line lines (taken_mark side k) q line later) (ap (λ m. with_line lines m q line later) (sym e)) h

pub drop-step : (v : SinkView) (r : Tail) (lines : List (List ℕ)) (later : List Edit) (side : Side) (k : Mark) (q : ℕ) (line : List ℕ) → taken_mark side k ≡ Drop
    → q + width side k ≤ length lines + 1 → AreFrom (q + width side k) later → Wrote v v r r (with_line lines (taken_mark side k) q line later) (spliced_from lines later (q + width side k))
drop-step v r lines later side k q line e high from =
    let w : q + 1 ≡ q + width side k = drop-wide side k q e in
    wrote-same v v r r (spliced_from lines later (q + 1)) (with_line lines (taken_mark side k) q line later) (spliced_from lines later (q + 1)) (spliced_from lines later (q + width side k))
    (sym (ap (λ m. with_line lines m q line later) e ∙ line-dropped lines later q (omega arith) (subst (λ n. AreFrom n later) (sym w) from)))
    (ap (spliced_from lines later) w) (wrote-none v r (spliced_from lines later (q + 1)))

added : (lines : List (List ℕ)) (later : List Edit) (side : Side) (k : Mark) (q : ℕ) (line : List ℕ) → taken_mark side k ≡ Add
    → q + width side k ≤ length lines + 1 → with_line lines (taken_mark side k) q line later ≡ line ∷ spliced_from lines later (q + width side k)
added lines later side k q line e high =
    let w : q ≡ q + width side k = add-wide side k q e in
    ap (λ m. with_line lines m q line later) e ∙ line-added lines later q line (omega arith) ∙ ap (λ n. line ∷ spliced_from lines later n) w

pub add-step : (u v : SinkView) (r s : Tail) (lines : List (List ℕ)) (later : List Edit) (side : Side) (k : Mark) (q : ℕ) (line : List ℕ) → taken_mark side k ≡ Add → q + width side k ≤ length lines + 1
    → Receives u v (feed_if r.is_open ++ line) → s.is_open ≡ lacks_feed line → s.is_empty ≡ (r.is_empty && is_nothing (feed_if r.is_open ++ line))
    → Wrote u v r s (with_line lines (taken_mark side k) q line later) (spliced_from lines later (q + width side k))
add-step u v r s lines later side k q line e high received end nothing =
    wrote-line u v r s line (with_line lines (taken_mark side k) q line later) (spliced_from lines later (q + width side k)) (added lines later side k q line e high) received end nothing

pub add-part : (u v : SinkView) (r : Tail) (lines : List (List ℕ)) (later : List Edit) (side : Side) (k : Mark) (q : ℕ) (line : List ℕ) → taken_mark side k ≡ Add → q + width side k ≤ length lines + 1
    → ReceivesPart u v (feed_if r.is_open ++ line) → ReceivesPart u v (join_behind r.is_open (with_line lines (taken_mark side k) q line later))
add-part u v r lines later side k q line e high h =
    part-line u v r line (with_line lines (taken_mark side k) q line later) (spliced_from lines later (q + width side k)) (added lines later side k q line e high) h
