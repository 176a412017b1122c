-- Merging, one line after the other.
use Rattle.std.proofs.Common.{◌≡◌, ℕ, ◌+◌, ◌≤◌, ◌<◌, true, false, List, [], ◌∷◌, ◌++◌, length, get_or, drop, Option, None, Some, refl, sym, ap, ◌∙◌, append_assoc, arith}
use Rattle.std.proofs.Common.{inl, inr}
use Rattle.std.proofs.lemmas.Bool.{cases_lt}
use Rattle.std.proofs.lemmas.List.{drop_more, drop_all, map_push}
use Rattle.hunk_core.specs.declared.Mark.TheVariants.{Keep}
use Rattle.hunk_core.specs.declared.HunkLine.{HunkLine}
use Rattle.hunk_core.specs.PlainHunk.{Marked, marked_of, body_of}
use Rattle.hunk_core.specs.Turned.{is_keep}
use Rattle.context_form.specs.Merging.{before_kept, from_kept, agrees, rest_of, with_front, only_changes, merge}

pub front-step : (m : Marked) (part : List Marked) → is_keep m.mark ≡ false → before_kept (m ∷ part) ≡ m ∷ before_kept part
unfolding before_kept
front-step m part h = rw h refl

pub rest-step : (m : Marked) (part : List Marked) → is_keep m.mark ≡ false → from_kept (m ∷ part) ≡ from_kept part
unfolding from_kept
rest-step m part h = rw h refl

pub front-stop : (m : Marked) (part : List Marked) → is_keep m.mark ≡ true → before_kept (m ∷ part) ≡ []
unfolding before_kept
front-stop m part h = rw h refl

pub rest-stop : (m : Marked) (part : List Marked) → is_keep m.mark ≡ true → from_kept (m ∷ part) ≡ m ∷ part
unfolding from_kept
rest-stop m part h = rw h refl

pub front-none : before_kept [] ≡ []
unfolding before_kept
front-none = refl

pub rest-none : from_kept [] ≡ []
unfolding from_kept
rest-none = refl

-- what a read past the end gives
abbrev pub nothing : HunkLine
nothing = record { mark = Keep; span = record { start = 0; end = 0 } }

-- the line at a place, and what follows it
pub view-more : (text : List ℕ) (part : List HunkLine) (place : ℕ) → place < length part → body_of text (drop place part) ≡ marked_of text (get_or part place nothing) ∷ body_of text (drop (place + 1) part)
view-more text part place lt = ap (body_of text) (drop_more part place nothing lt)

pub view-end : (text : List ℕ) (part : List HunkLine) (place : ℕ) → length part ≤ place → body_of text (drop place part) ≡ []
view-end text part place le = ap (body_of text) (drop_all place part le)

pub taken-step : (text : List ℕ) (front part : List HunkLine) (place : ℕ) (total : List Marked) → place < length part → is_keep (get_or part place nothing).mark ≡ false → body_of text front ++ before_kept (body_of text (drop place part)) ≡ total
    → body_of text (front ++ get_or part place nothing ∷ []) ++ before_kept (body_of text (drop (place + 1) part)) ≡ total
taken-step text front part place total lt change so_far =
    let one = ap before_kept (view-more text part place lt) ∙ front-step (marked_of text (get_or part place nothing)) (body_of text (drop (place + 1) part)) change in
    rw (map_push (marked_of text) front (get_or part place nothing))
    (append_assoc (body_of text front) (marked_of text (get_or part place nothing) ∷ []) (before_kept (body_of text (drop (place + 1) part))) ∙ sym (ap (λ ms. body_of text front ++ ms) one) ∙ so_far)

pub left-step : (text : List ℕ) (part : List HunkLine) (place : ℕ) → place < length part → is_keep (get_or part place nothing).mark ≡ false → from_kept (body_of text (drop (place + 1) part)) ≡ from_kept (body_of text (drop place part))
left-step text part place lt change = sym (ap from_kept (view-more text part place lt) ∙ rest-step (marked_of text (get_or part place nothing)) (body_of text (drop (place + 1) part)) change)

-- at the end of the part, or at a kept line
pub stopped : (text : List ℕ) (part : List HunkLine) (place : ℕ) → (place < length part → is_keep (get_or part place nothing).mark ≡ true) → (before_kept (body_of text (drop place part)) ≡ []) × (from_kept (body_of text (drop place part)) ≡ body_of text (drop place part))
stopped text part place h =
    elim (cases_lt place (length part)) [
      | inl lt ↦ (
          let view = view-more text part place lt in
          let m = marked_of text (get_or part place nothing) in
          let more = body_of text (drop (place + 1) part) in
          (ap before_kept view ∙ front-stop m more (h lt), ap from_kept view ∙ rest-stop m more (h lt) ∙ sym view))
      | inr le ↦ (
          let view = view-end text part place le in
          (ap before_kept view ∙ front-none, ap from_kept view ∙ rest-none ∙ sym view))
    ]

-- ---- merging

abbrev Parts : Type 0
Parts = Option (List Marked)

pub front-front : (a b : List Marked) (o : Option (List Marked)) → with_front a (with_front b o) ≡ with_front (a ++ b) o
front-front a b None = refl
front-front a b (Some body) = ap (λ ms. Some ms) (sym (append_assoc a b body))

pub merge-change : (m : Marked) (olds news : List Marked) → is_keep m.mark ≡ false → merge (m ∷ olds) news ≡ with_front (m ∷ []) (merge olds news)
unfolding merge
merge-change m olds news h = rw h refl

pub merge-kept : (m : Marked) (olds news : List Marked) → is_keep m.mark ≡ true → agrees m (from_kept news) ≡ true → merge (m ∷ olds) news ≡ with_front (before_kept news ++ m ∷ []) (merge olds (rest_of (from_kept news)))
unfolding merge
merge-kept m olds news h a = rw (h, a) refl

pub merge-apart : (m : Marked) (olds news : List Marked) → is_keep m.mark ≡ true → agrees m (from_kept news) ≡ false → merge (m ∷ olds) news ≡ None
unfolding merge
merge-apart m olds news h a = rw (h, a) refl

pub merge-end : (news : List Marked) → merge [] news ≡ only_changes (before_kept news) (from_kept news)
unfolding merge
merge-end news = refl

-- ---- the loop over the old part

agrees-lines : (text : List ℕ) (m : Marked) (news : List HunkLine) (kept : ℕ) → agrees m (body_of text (drop kept news)) ≡ true → kept < length news
agrees-lines text m news kept a =
    elim (cases_lt kept (length news)) [
      | inl lt ↦ lt
      | inr le ↦ absurd (let none : agrees m [] ≡ true = ap (agrees m) (sym (view-end text news kept le)) ∙ a in cc)
    ]

pub agrees-within : (text : List ℕ) (m : Marked) (news : List HunkLine) (kept : ℕ) → agrees m (body_of text (drop kept news)) ≡ true → kept + 1 ≤ length news
agrees-within text m news kept a = omega (arith, agrees-lines text m news kept a)

pub kept-step : (text : List ℕ) (front mid olds news : List HunkLine) (i place kept : ℕ) (total : Option (List Marked)) → i < length olds → is_keep (get_or olds i nothing).mark ≡ true
    → agrees (marked_of text (get_or olds i nothing)) (body_of text (drop kept news)) ≡ true → body_of text (drop kept news) ≡ from_kept (body_of text (drop place news)) → body_of text mid ≡ body_of text front ++ before_kept (body_of text (drop place news))
    → with_front (body_of text front) (merge (body_of text (drop i olds)) (body_of text (drop place news))) ≡ total
    → with_front (body_of text (mid ++ get_or olds i nothing ∷ [])) (merge (body_of text (drop (i + 1) olds)) (body_of text (drop (kept + 1) news))) ≡ total
kept-step text front mid olds news i place kept total lt keeps a rest taken so_far =
    let m = marked_of text (get_or olds i nothing) in
    let n = body_of text (drop place news) in
    let f = body_of text front in
    let more = body_of text (drop (i + 1) olds) in
    let one : merge (body_of text (drop i olds)) n ≡ with_front (before_kept n ++ m ∷ []) (merge more (rest_of (from_kept n))) = ap (λ ms. merge ms n) (view-more text olds i lt) ∙ merge-kept m more n keeps (ap (agrees m) (sym rest) ∙ a) in
    let after : rest_of (from_kept n) ≡ body_of text (drop (kept + 1) news) = ap rest_of (sym rest ∙ view-more text news kept (agrees-lines text m news kept a)) in
    let body : body_of text (mid ++ get_or olds i nothing ∷ []) ≡ f ++ (before_kept n ++ m ∷ []) = map_push (marked_of text) mid (get_or olds i nothing) ∙ ap (λ ms. ms ++ m ∷ []) taken ∙ append_assoc f (before_kept n) (m ∷ []) in
    ap (λ ms. with_front ms (merge more (body_of text (drop (kept + 1) news)))) body
    ∙ ap (λ ms. with_front (f ++ (before_kept n ++ m ∷ [])) (merge more ms)) (sym after)
    ∙ sym (front-front f (before_kept n ++ m ∷ []) (merge more (rest_of (from_kept n))))
    ∙ ap (with_front f) (sym one)
    ∙ so_far

pub change-step : (text : List ℕ) (front olds news : List HunkLine) (i place : ℕ) (total : Option (List Marked)) → i < length olds → is_keep (get_or olds i nothing).mark ≡ false
    → with_front (body_of text front) (merge (body_of text (drop i olds)) (body_of text (drop place news))) ≡ total
    → with_front (body_of text (front ++ get_or olds i nothing ∷ [])) (merge (body_of text (drop (i + 1) olds)) (body_of text (drop place news))) ≡ total
change-step text front olds news i place total lt change so_far =
    let m = marked_of text (get_or olds i nothing) in
    let n = body_of text (drop place news) in
    let more = body_of text (drop (i + 1) olds) in
    let one : merge (body_of text (drop i olds)) n ≡ with_front (m ∷ []) (merge more n) = ap (λ ms. merge ms n) (view-more text olds i lt) ∙ merge-change m more n change in
    ap (λ ms. with_front ms (merge more n)) (map_push (marked_of text) front (get_or olds i nothing)) ∙ sym (front-front (body_of text front) (m ∷ []) (merge more n)) ∙ ap (with_front (body_of text front)) (sym one) ∙ so_far

pub apart-step : (text : List ℕ) (front olds news : List HunkLine) (i place kept : ℕ) (total : Option (List Marked)) → i < length olds → is_keep (get_or olds i nothing).mark ≡ true
    → agrees (marked_of text (get_or olds i nothing)) (body_of text (drop kept news)) ≡ false → body_of text (drop kept news) ≡ from_kept (body_of text (drop place news))
    → with_front (body_of text front) (merge (body_of text (drop i olds)) (body_of text (drop place news))) ≡ total → total ≡ None
apart-step text front olds news i place kept total lt keeps a rest so_far =
    let m = marked_of text (get_or olds i nothing) in
    let n = body_of text (drop place news) in
    let one : merge (body_of text (drop i olds)) n ≡ None = ap (λ ms. merge ms n) (view-more text olds i lt) ∙ merge-apart m (body_of text (drop (i + 1) olds)) n keeps (ap (agrees m) (sym rest) ∙ a) in
    sym so_far ∙ ap (with_front (body_of text front)) one

pub end-step : (text : List ℕ) (front mid olds news : List HunkLine) (i place end : ℕ) (total : Option (List Marked)) → length olds ≤ i → body_of text (drop end news) ≡ from_kept (body_of text (drop place news)) → body_of text mid ≡ body_of text front ++ before_kept (body_of text (drop place news))
    → with_front (body_of text front) (merge (body_of text (drop i olds)) (body_of text (drop place news))) ≡ total → total ≡ with_front (body_of text front) (only_changes (before_kept (body_of text (drop place news))) (body_of text (drop end news)))
end-step text front mid olds news i place end total le rest taken so_far =
    let n = body_of text (drop place news) in
    let one : merge (body_of text (drop i olds)) n ≡ only_changes (before_kept n) (body_of text (drop end news)) = ap (λ ms. merge ms n) (view-end text olds i le) ∙ merge-end n ∙ ap (only_changes (before_kept n)) (sym rest) in
    sym so_far ∙ ap (with_front (body_of text front)) one

pub end-some : (text : List ℕ) (front mid news : List HunkLine) (place end : ℕ) (total : Option (List Marked)) → end ≡ length news → body_of text mid ≡ body_of text front ++ before_kept (body_of text (drop place news))
    → total ≡ with_front (body_of text front) (only_changes (before_kept (body_of text (drop place news))) (body_of text (drop end news))) → total ≡ Some (body_of text mid)
end-some text front mid news place end total at_end taken h =
    h ∙ ap (λ ms. with_front (body_of text front) (only_changes (before_kept (body_of text (drop place news))) ms)) (view-end text news end (omega arith)) ∙ ap (λ ms. Some ms) (sym taken)

pub end-none : (text : List ℕ) (front news : List HunkLine) (place end : ℕ) (total : Option (List Marked)) → end < length news
    → total ≡ with_front (body_of text front) (only_changes (before_kept (body_of text (drop place news))) (body_of text (drop end news))) → total ≡ None
end-none text front news place end total lt h =
    h ∙ ap (λ ms. with_front (body_of text front) (only_changes (before_kept (body_of text (drop place news))) ms)) (view-more text news end lt)
