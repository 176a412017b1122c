-- A hunk with moved starts, as it is taken from a side.
use Rattle.std.proofs.Common.{◌≡◌, ℕ, List, length, refl, sym, ap, ◌∙◌}
use Rattle.std.specs.Prelude.{ℤ}
use Rattle.std.proofs.Common.{to_z, of_z, w64}
use Rattle.std.proofs.lemmas.Int.{to_z-of_z}
use mir.Val.{SFits}
use Rattle.hunk_core.specs.declared.Side.{Side}
use Rattle.hunk_core.specs.declared.Side.TheVariants.{Forward, Reversed}
use Rattle.hunk_core.specs.declared.Hunk.{Hunk}
use Rattle.hunk_core.specs.Sides.{start_of, taken_count}
use Rattle.hunk_core.specs.PlainHunk.{hunk_of, old_lines, new_lines}
use Rattle.hunk_core.specs.Turned.{taken, turned, other_side}
use Rattle.hunk_core.proofs.TurnedLemmas.{turned-count, turned-other-count}
use Rattle.reject_text.specs.Starts.{moved, moved_start}

old-start : (text : List ℕ) (side : Side) (h : Hunk) → start_of side h ≡ (turned side (hunk_of text h)).old_start
old-start text Forward h = refl
old-start text Reversed h = refl

new-start : (text : List ℕ) (side : Side) (h : Hunk) → start_of (other_side side) h ≡ (turned side (hunk_of text h)).new_start
new-start text Forward h = refl
new-start text Reversed h = refl

-- a start that a call gives, its arguments being told by other calls
pub start-is : (net : ℤ) (s start c count r : ℕ) → SFits w64 net → r ≡ moved_start s (to_z w64 (of_z w64 net)) c → s ≡ start → c ≡ count → r ≡ moved_start start net count
start-is net s start c count r fits is same_start same_count =
    is ∙ ap (λ n. moved_start s n c) (to_z-of_z w64 net fits)
    ∙ ap (λ x. moved_start x net c) same_start
    ∙ ap (λ x. moved_start start net x) same_count

pub moved-is : (text : List ℕ) (side : Side) (h : Hunk) (net : ℤ) (a b : ℕ) → a ≡ moved_start (start_of side h) net (taken_count side h.body.items) → b ≡ moved_start (start_of (other_side side) h) net (taken_count (other_side side) h.body.items)
    → taken side a b (hunk_of text h) ≡ moved net (turned side (hunk_of text h))
moved-is text side h net a b first second =
    let t = turned side (hunk_of text h) in
    let old : a ≡ moved_start t.old_start net (length (old_lines t.body)) =
    first ∙ ap (λ s. moved_start s net (taken_count side h.body.items)) (old-start text side h)
    ∙ ap (λ n. moved_start t.old_start net n) (sym (turned-count text side h)) in
    let new : b ≡ moved_start t.new_start net (length (new_lines t.body)) =
    second ∙ ap (λ s. moved_start s net (taken_count (other_side side) h.body.items)) (new-start text side h)
    ∙ ap (λ n. moved_start t.new_start net n) (sym (turned-other-count text side h)) in
    ap (λ x. taken side x b (hunk_of text h)) old
    ∙ ap (λ x. taken side (moved_start t.old_start net (length (old_lines t.body))) x (hunk_of text h)) new
