-- The lines of a hunk sorted so that dropped ones stand in front of added ones.
use Rattle.std.proofs.Common.{◌≡◌, List, false, [], ◌∷◌, ◌++◌, true, refl, cond, ap, ◌∙◌, Bool, sym, subst, ℕ, append_assoc}
use Rattle.std.specs.List.{AllByRecursion}
use Rattle.hunk_core.specs.PlainHunk.{Marked}
use Rattle.hunk_core.specs.Turned.{is_drop}
use Rattle.hunk_core.specs.declared.Side.TheVariants.{Forward, Reversed}
use Rattle.context_form.specs.Merging.{part_of, DropsFirst, may_follow}
use Rattle.hunk_core.specs.Sides.{is_on_side}
use Rattle.hunk_core.specs.declared.Side.{Side}
use Rattle.hunk_core.specs.declared.Mark.{Mark}
use Rattle.std.proofs.lemmas.List.{append-nil}
use Rattle.hunk_core.specs.LineTests.{marked}
use Rattle.context_form.specs.Canonical.{drops_before}
use Rattle.hunk_core.specs.declared.Mark.TheVariants as its

abbrev pub AreAdded : List Marked → Type 0
AreAdded ms = AllByRecursion (λ m. m.mark ≡ its.Add) ms

-- what comes next is no dropped line
abbrev pub NotDropped : List Marked → Type 0
NotDropped [] = Unit {0}
NotDropped (m ∷ rest) = is_drop m.mark ≡ false

-- what the sorted body is
pub record Sorts (waiting body sorted : List Marked) : Type 0 where
  pub forward : part_of Forward sorted ≡ part_of Forward body
  pub reversed : part_of Reversed sorted ≡ waiting ++ part_of Reversed body
  pub drops : DropsFirst sorted

pub may-keep : (body : List Marked) → may_follow its.Keep body ≡ true
may-keep [] = refl
may-keep (m ∷ body) = refl

pub may-drop : (body : List Marked) → may_follow its.Drop body ≡ true
may-drop [] = refl
may-drop (m ∷ body) = refl

pub added-more : (waiting : List Marked) (m : Marked) → AreAdded waiting → m.mark ≡ its.Add → AreAdded (waiting ++ m ∷ [])
added-more [] m h e = (e, tt)
added-more (w ∷ waiting) m h e = (h.0, added-more waiting m h.1 e)

pub added-forward : (waiting : List Marked) → AreAdded waiting → part_of Forward waiting ≡ []
added-forward [] h = refl
added-forward (w ∷ waiting) h = let off : is_on_side Forward w.mark ≡ false = ap (is_on_side Forward) h.0 in ap (λ b. cond b (w ∷ part_of Forward waiting) (part_of Forward waiting)) off ∙ added-forward waiting h.1

pub added-reversed : (waiting : List Marked) → AreAdded waiting → part_of Reversed waiting ≡ waiting
added-reversed [] h = refl
added-reversed (w ∷ waiting) h = let on : is_on_side Reversed w.mark ≡ true = ap (is_on_side Reversed) h.0 in ap (λ b. cond b (w ∷ part_of Reversed waiting) (part_of Reversed waiting)) on ∙ ap (λ ms. w ∷ ms) (added-reversed waiting h.1)

pub part-both : (side : Side) (xs ys : List Marked) → part_of side (xs ++ ys) ≡ part_of side xs ++ part_of side ys
part-both side [] ys = refl
part-both side (x ∷ xs) ys = by (is_on_side side x.mark) (part-both side xs ys)
  where
    by : (b : Bool) → part_of side (xs ++ ys) ≡ part_of side xs ++ part_of side ys → cond b (x ∷ part_of side (xs ++ ys)) (part_of side (xs ++ ys)) ≡ cond b (x ∷ part_of side xs) (part_of side xs) ++ part_of side ys
    by true e = ap (λ ms. x ∷ ms) e
    by false e = e

pub wait-first : (waiting rest : List Marked) → AreAdded waiting → NotDropped rest → DropsFirst rest → DropsFirst (waiting ++ rest)
wait-first [] rest h n d = d
wait-first (w ∷ waiting) rest h n d = (by waiting h.1, wait-first waiting rest h.1 n d)
  where
    follow : (mark : Mark) (m : Marked) (ms : List Marked) → is_drop m.mark ≡ false → may_follow mark (m ∷ ms) ≡ true
    follow its.Keep m ms e = refl
    follow its.Drop m ms e = refl
    follow its.Add m ms e = rw e refl

    last : (ms : List Marked) → NotDropped ms → may_follow w.mark ms ≡ true
    last [] k = refl
    last (m ∷ ms) k = follow w.mark m ms k

    by : (ws : List Marked) → AreAdded ws → may_follow w.mark (ws ++ rest) ≡ true
    by [] k = last rest n
    by (x ∷ ws) k = follow w.mark x (ws ++ rest) (ap is_drop k.0)

pub sort-none : (waiting : List Marked) → AreAdded waiting → Sorts waiting [] waiting
sort-none waiting h = record { forward = added-forward waiting h; reversed = added-reversed waiting h ∙ sym (append-nil waiting); drops = subst DropsFirst (append-nil waiting) (wait-first waiting [] h tt tt) }

pub sort-keep : (waiting : List Marked) (line : List ℕ) (body sorted : List Marked) → AreAdded waiting → Sorts [] body sorted → Sorts waiting (marked its.Keep line ∷ body) (waiting ++ marked its.Keep line ∷ sorted)
sort-keep waiting line body sorted h s =
    let m = marked its.Keep line in
    record {
      forward = part-both Forward waiting (m ∷ sorted) ∙ ap (λ ms. ms ++ m ∷ part_of Forward sorted) (added-forward waiting h) ∙ ap (λ ms. m ∷ ms) s.forward;
      reversed = part-both Reversed waiting (m ∷ sorted) ∙ ap (λ ms. ms ++ m ∷ part_of Reversed sorted) (added-reversed waiting h) ∙ ap (λ ms. waiting ++ m ∷ ms) s.reversed;
      drops = wait-first waiting (m ∷ sorted) h refl (may-keep sorted, s.drops);
    }

pub sort-drop : (waiting : List Marked) (line : List ℕ) (body sorted : List Marked) → Sorts waiting body sorted → Sorts waiting (marked its.Drop line ∷ body) (marked its.Drop line ∷ sorted)
sort-drop waiting line body sorted s = record { forward = ap (λ ms. marked its.Drop line ∷ ms) s.forward; reversed = s.reversed; drops = (may-drop sorted, s.drops) }

pub sort-add : (waiting : List Marked) (line : List ℕ) (body sorted : List Marked) → Sorts (waiting ++ marked its.Add line ∷ []) body sorted → Sorts waiting (marked its.Add line ∷ body) sorted
sort-add waiting line body sorted s = record { forward = s.forward; reversed = s.reversed ∙ append_assoc waiting (marked its.Add line ∷ []) (part_of Reversed body); drops = s.drops }

pub sorts : (waiting body : List Marked) → AreAdded waiting → Sorts waiting body (drops_before waiting body)
unfolding drops_before
sorts waiting [] h = sort-none waiting h
sorts waiting (m ∷ body) h = by m.mark (λ ws k. sorts ws body k)
  where
    by : (mark : Mark) → ((ws : List Marked) → AreAdded ws → Sorts ws body (drops_before ws body)) → Sorts waiting (marked mark m.line ∷ body) (drops_before waiting (marked mark m.line ∷ body))
    by its.Keep more = sort-keep waiting m.line body (drops_before [] body) h (more [] tt)
    by its.Drop more = sort-drop waiting m.line body (drops_before waiting body) (more waiting h)
    by its.Add more = sort-add waiting m.line body (drops_before (waiting ++ marked its.Add m.line ∷ []) body) (more (waiting ++ marked its.Add m.line ∷ []) (added-more waiting (marked its.Add m.line) h refl))
