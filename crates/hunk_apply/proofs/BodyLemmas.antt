-- The edits of a body, line by line.
use Rattle.std.proofs.Common.{◌≡◌, ◌⊎◌, inl, inr, ℕ, zero, suc, ◌+◌, ◌-◌, ◌<◌, ◌≤◌, List, [], ◌∷◌, ◌++◌, length, get_or, take, drop, map, reverse, Bool, true, false, cond, refl, sym, ap, subst, ◌∙◌, arith}
use Rattle.std.proofs.lemmas.Bool.{cases_lt}
use Rattle.std.proofs.lemmas.List.{take_all, drop_all, at_drop_more, get_or-reverse, length-reverse}
use Rattle.std.proofs.lemmas.List.Sums.{count_by_more_yes, count_by_more_no, prefix_len_passes, prefix_len-le-length}
use Rattle.std.specs.List.{prefix_len}
use Rattle.hunk_core.specs.declared.Mark.{Mark}
use Rattle.hunk_core.specs.declared.Mark.TheVariants.{Keep, Drop, Add}
use Rattle.hunk_core.specs.declared.Side.{Side}
use Rattle.hunk_core.specs.declared.Side.TheVariants.{Forward, Reversed}
use Rattle.hunk_core.specs.declared.HunkLine.{HunkLine}
use Rattle.hunk_core.specs.declared.Hunk.{Hunk}
use Rattle.hunk_core.specs.Sides.{is_on_side, taken_count}
use Rattle.hunk_core.specs.PlainHunk.{Marked, marked_of, body_of, bytes_at}
use Rattle.hunk_core.specs.Turned.{swapped_line, is_keep, taken_mark}
use Rattle.hunk_core.proofs.TurnedLemmas.{is_kept_line}
use Rattle.hunk_place.specs.Taken.{taken}
use Rattle.hunk_apply.specs.Body.{side_marked, side_body}
use Rattle.hunk_apply.specs.Passage.{width}
use Rattle.hunk_apply.specs.Splice.{Edit, add, marked_edits, body_edits, AreFrom}
use Rattle.hunk_apply.proofs.SpliceLemmas.{sooner, from-append}

-- the body of a hunk as it is taken
both : (text : List ℕ) (ls : List HunkLine) → map swapped_line (body_of text ls) ≡ side_body text Reversed ls
both text [] = refl
both text (l ∷ ls) = ap (λ r. side_marked text Reversed l ∷ r) (both text ls)

pub body-is : (text : List ℕ) (side : Side) (h : Hunk) → (taken text side h).body ≡ side_body text side h.body.items
body-is text Forward h = refl
body-is text Reversed h = both text h.body.items

pub edits-none : (at : ℕ) → body_edits at [] ≡ []
unfolding body_edits
edits-none at = refl

pub edits-mark : (at : ℕ) (k : Mark) (line : List ℕ) (ms : List Marked) → let m : Marked = record { mark = k; line = line } in body_edits at (m ∷ ms) ≡ marked_edits k at line (λ next. body_edits next ms)
unfolding body_edits
edits-mark at k line ms = refl

pub on-side : (side : Side) (k : Mark) → is_on_side Forward (taken_mark side k) ≡ is_on_side side k
on-side Forward k = refl
on-side Reversed Keep = refl
on-side Reversed Drop = refl
on-side Reversed Add = refl

pub wider : (q w r : ℕ) → r ≡ w → q + w ≡ q + r
wider q w r e = omega arith

pub marked-width : (side : Side) (k t : Mark) → taken_mark side k ≡ t → width side k ≡ width Forward t
marked-width side k t e = ap (λ b. cond b 1 0) (sym (on-side side k)) ∙ ap (λ m. cond (is_on_side Forward m) 1 0) e

-- the edits of a body, its first line before the others
edits-cons : (at : ℕ) (k : Mark) (line : List ℕ) (ms : List Marked) (later : List Edit) → let m : Marked = record { mark = k; line = line } in body_edits at (m ∷ ms) ++ later ≡ marked_edits k at line (λ _. body_edits (at + cond (is_on_side Forward k) 1 0) ms ++ later)
edits-cons at Keep line ms later = ap (λ r. r ++ later) (edits-mark at Keep line ms)
edits-cons at Drop line ms later = ap (λ r. r ++ later) (edits-mark at Drop line ms)
edits-cons at Add line ms later = let z : at ≡ at + 0 = omega arith in ap (λ r. r ++ later) (edits-mark at Add line ms) ∙ ap (λ n. add at line ∷ body_edits n ms ++ later) z

pub edits-next : (text : List ℕ) (side : Side) (items : List HunkLine) (k q : ℕ) (l : HunkLine) (later : List Edit) → k < length items → l ≡ get_or items k l
    → body_edits q (side_body text side (drop k items)) ++ later ≡ marked_edits (taken_mark side l.mark) q (bytes_at text l.span) (λ _. body_edits (q + cond (is_on_side side l.mark) 1 0) (side_body text side (drop (k + 1) items)) ++ later)
edits-next text side items k q l later lt is =
    at_drop_more (λ ls. body_edits q (side_body text side ls) ++ later) items k l lt
    ∙ ap (λ x. body_edits q (side_body text side (x ∷ drop (k + 1) items)) ++ later) (sym is)
    ∙ edits-cons q (taken_mark side l.mark) (bytes_at text l.span) (side_body text side (drop (k + 1) items)) later
    ∙ ap (λ b. marked_edits (taken_mark side l.mark) q (bytes_at text l.span) (λ _. body_edits (q + cond b 1 0) (side_body text side (drop (k + 1) items)) ++ later)) (on-side side l.mark)

-- the edits of a body lie from its place on
pub edits-from : (at : ℕ) (ms : List Marked) → AreFrom at (body_edits at ms)
edits-from at [] = subst (AreFrom at) (sym (edits-none at)) tt
edits-from at (m ∷ ms) = by m.mark (edits-from at ms) (edits-from (at + 1) ms)
  where
    by : (k : Mark) → AreFrom at (body_edits at ms) → AreFrom (at + 1) (body_edits (at + 1) ms) → let y : Marked = record { mark = k; line = m.line } in AreFrom at (body_edits at (y ∷ ms))
    by Keep same next = subst (AreFrom at) (sym (edits-mark at Keep m.line ms)) (sooner at (at + 1) (body_edits (at + 1) ms) (omega arith) next)
    by Drop same next = subst (AreFrom at) (sym (edits-mark at Drop m.line ms)) (omega arith, sooner at (at + 1) (body_edits (at + 1) ms) (omega arith) next)
    by Add same next = subst (AreFrom at) (sym (edits-mark at Add m.line ms)) (omega arith, same)

pub count-more : (side : Side) (items : List HunkLine) (k : ℕ) (l : HunkLine) → k < length items → l ≡ get_or items k l → taken_count side (take (k + 1) items) ≡ taken_count side (take k items) + cond (is_on_side side l.mark) 1 0
count-more side items k l lt is = by (is_on_side side l.mark) refl
  where
    by : (b : Bool) → is_on_side side l.mark ≡ b → taken_count side (take (k + 1) items) ≡ taken_count side (take k items) + cond (is_on_side side l.mark) 1 0
    by true e =
        let h : is_on_side side (get_or items k l).mark ≡ true = ap (λ x. is_on_side side x.mark) (sym is) ∙ e in
        rw e (let c : taken_count side (take (k + 1) items) ≡ taken_count side (take k items) + 1 = count_by_more_yes (λ x. is_on_side side x.mark) items k l lt h in c)
    by false e =
        let h : is_on_side side (get_or items k l).mark ≡ false = ap (λ x. is_on_side side x.mark) (sym is) ∙ e in
        rw e (let c : taken_count side (take (k + 1) items) ≡ taken_count side (take k items) = count_by_more_no (λ x. is_on_side side x.mark) items k l lt h in omega arith)

pub is-kept : (items : List HunkLine) (j : ℕ) (d : HunkLine) → length items ≤ j + prefix_len is_kept_line (reverse items) → j < length items → is_keep (get_or items j d).mark ≡ true
is-kept items j d low lt =
    let r : ℕ = length items - 1 - j in
    let in_front : length items - 1 - j < prefix_len is_kept_line (reverse items) = omega arith in
    let here : is_keep (get_or (reverse items) (length items - 1 - j) d).mark ≡ true = prefix_len_passes is_kept_line (reverse items) (length items - 1 - j) d in_front in
    let back : length items - 1 - (length items - 1 - j) ≡ j = omega arith in
    let there : get_or (reverse items) (length items - 1 - j) d ≡ get_or items j d = get_or-reverse items (length items - 1 - j) d (omega arith) ∙ ap (λ k. get_or items k d) back in
    ap is_kept_line (sym there) ∙ here

kept-on : (side : Side) (k : Mark) → is_keep k ≡ true → is_on_side side k ≡ true
kept-on side Keep e = refl
kept-on side Drop e = cc
kept-on side Add e = cc

pub at-place : (items : List HunkLine) (k : ℕ) → k < length items → (l : HunkLine) × (l ≡ get_or items k l)
at-place [] k lt = absurd (omega arith)
at-place (x ∷ xs) zero lt = (x, refl)
at-place (x ∷ xs) (suc k) lt = at-place xs k (omega arith)

kept-edits : (text : List ℕ) (side : Side) (at : ℕ) (s : HunkLine) (ms : List Marked) → is_keep s.mark ≡ true → body_edits at (side_marked text side s ∷ ms) ≡ body_edits (at + 1) ms
kept-edits text side at s ms e = by side s.mark e
  where
    by : (side : Side) (k : Mark) → is_keep k ≡ true → let m : Marked = record { mark = taken_mark side k; line = (marked_of text s).line } in body_edits at (m ∷ ms) ≡ body_edits (at + 1) ms
    by Forward Keep e = edits-mark at Keep (marked_of text s).line ms
    by Reversed Keep e = edits-mark at Keep (marked_of text s).line ms
    by side Drop e = cc
    by side Add e = cc

-- trailing context has no edits
pub rest-edits : (text : List ℕ) (side : Side) (items : List HunkLine) (q e n : ℕ) → length items ≤ e + prefix_len is_kept_line (reverse items) → length items ≤ e + n → body_edits q (side_body text side (drop e items)) ≡ []
rest-edits text side items q e zero low high = ap (λ ls. body_edits q (side_body text side ls)) (drop_all e items (omega arith)) ∙ edits-none q
rest-edits text side items q e (suc n) low high = by (λ lt. rest-edits text side items (q + 1) (e + 1) n (omega arith) (omega arith)) (cases_lt e (length items))
  where
    by : (e < length items → body_edits (q + 1) (side_body text side (drop (e + 1) items)) ≡ []) → (e < length items) ⊎ (length items ≤ e) → body_edits q (side_body text side (drop e items)) ≡ []
    by again (inr le) = ap (λ ls. body_edits q (side_body text side ls)) (drop_all e items le) ∙ edits-none q
    by again (inl lt) =
        let p : (l : HunkLine) × (l ≡ get_or items e l) = at-place items e lt in
        let kept : is_keep p.0.mark ≡ true = ap is_kept_line p.1 ∙ is-kept items e p.0 low lt in
        at_drop_more (λ ls. body_edits q (side_body text side ls)) items e p.0 lt
        ∙ ap (λ x. body_edits q (side_body text side (x ∷ drop (e + 1) items))) (sym p.1)
        ∙ kept-edits text side q p.0 (side_body text side (drop (e + 1) items)) kept
        ∙ again lt

pub rest-count : (side : Side) (items : List HunkLine) (e n : ℕ) → length items ≤ e + prefix_len is_kept_line (reverse items) → e + n ≤ length items → taken_count side (take (e + n) items) ≡ taken_count side (take e items) + n
rest-count side items e zero low high = let z : e + 0 ≡ e = omega arith in ap (λ k. taken_count side (take k items)) z ∙ omega arith
rest-count side items e (suc n) low high =
    let z : e + suc n ≡ e + n + 1 = omega arith in
    let p : (l : HunkLine) × (l ≡ get_or items (e + n) l) = at-place items (e + n) (omega arith) in
    let kept : is_keep p.0.mark ≡ true = ap is_kept_line p.1 ∙ is-kept items (e + n) p.0 (omega arith) (omega arith) in
    let again : taken_count side (take (e + n) items) ≡ taken_count side (take e items) + n = rest-count side items e n low (omega arith) in
    let one : taken_count side (take (e + n + 1) items) ≡ taken_count side (take (e + n) items) + 1 = count-more side items (e + n) p.0 (omega arith) p.1 ∙ ap (λ b. taken_count side (take (e + n) items) + cond b 1 0) (kept-on side p.0.mark kept) in
    ap (λ k. taken_count side (take k items)) z ∙ one ∙ omega arith

pub count-grows : (side : Side) (items : List HunkLine) (a n : ℕ) → a + n ≤ length items → taken_count side (take a items) ≤ taken_count side (take (a + n) items)
count-grows side items a zero high = let z : a + 0 ≡ a = omega arith in let w : taken_count side (take (a + 0) items) ≡ taken_count side (take a items) = ap (λ k. taken_count side (take k items)) z in omega arith
count-grows side items a (suc n) high =
    let z : a + suc n ≡ a + n + 1 = omega arith in
    let w : taken_count side (take (a + suc n) items) ≡ taken_count side (take (a + n + 1) items) = ap (λ k. taken_count side (take k items)) z in
    let p : (l : HunkLine) × (l ≡ get_or items (a + n) l) = at-place items (a + n) (omega arith) in
    let again : taken_count side (take a items) ≤ taken_count side (take (a + n) items) = count-grows side items a n (omega arith) in
    let one : taken_count side (take (a + n + 1) items) ≡ taken_count side (take (a + n) items) + cond (is_on_side side p.0.mark) 1 0 = count-more side items (a + n) p.0 (omega arith) p.1 in
    omega arith

pub post-fits : (items : List HunkLine) → prefix_len is_kept_line (reverse items) ≤ length items
post-fits items = let a : prefix_len is_kept_line (reverse items) ≤ length (reverse items) = prefix_len-le-length is_kept_line (reverse items) in let b : length (reverse items) ≡ length items = length-reverse items in omega arith

-- the old lines but for trailing context
pub body-count : (side : Side) (items : List HunkLine) (e : ℕ) → e + prefix_len is_kept_line (reverse items) ≡ length items → taken_count side (take e items) + prefix_len is_kept_line (reverse items) ≡ taken_count side items
body-count side items e len =
    let whole : taken_count side (take (e + (length items - e)) items) ≡ taken_count side items = ap (taken_count side) (take_all (e + (length items - e)) items (omega arith)) in
    let rest : taken_count side (take (e + (length items - e)) items) ≡ taken_count side (take e items) + (length items - e) = rest-count side items e (length items - e) (omega arith) (omega arith) in
    omega arith

-- up to a line of the body there are no more old lines than in all but trailing context
pub count-within : (side : Side) (items : List HunkLine) (k : ℕ) → k + prefix_len is_kept_line (reverse items) ≤ length items → taken_count side (take k items) + prefix_len is_kept_line (reverse items) ≤ taken_count side items
count-within side items k le =
    let e : k + (length items - prefix_len is_kept_line (reverse items) - k) ≡ length items - prefix_len is_kept_line (reverse items) = omega arith in
    let grows : taken_count side (take k items) ≤ taken_count side (take (k + (length items - prefix_len is_kept_line (reverse items) - k)) items) = count-grows side items k (length items - prefix_len is_kept_line (reverse items) - k) (omega arith) in
    let same : taken_count side (take (k + (length items - prefix_len is_kept_line (reverse items) - k)) items) ≡ taken_count side (take (length items - prefix_len is_kept_line (reverse items)) items) = ap (λ n. taken_count side (take n items)) e in
    let whole : taken_count side (take (length items - prefix_len is_kept_line (reverse items)) items) + prefix_len is_kept_line (reverse items) ≡ taken_count side items = body-count side items (length items - prefix_len is_kept_line (reverse items)) (omega arith) in
    omega arith

-- trailing context is old
pub post-old : (side : Side) (items : List HunkLine) → prefix_len is_kept_line (reverse items) ≤ taken_count side items
post-old side items =
    let fits : prefix_len is_kept_line (reverse items) ≤ length items = post-fits items in
    let whole : taken_count side (take (length items - prefix_len is_kept_line (reverse items)) items) + prefix_len is_kept_line (reverse items) ≡ taken_count side items = body-count side items (length items - prefix_len is_kept_line (reverse items)) (omega arith) in
    omega arith

-- one line of a body more, before its trailing context
pub place-more : (side : Side) (items : List HunkLine) (k q at : ℕ) (l : HunkLine) → q ≡ at + taken_count side (take k items) → k < length items → l ≡ get_or items k l → q + width side l.mark ≡ at + taken_count side (take (k + 1) items)
place-more side items k q at l e lt is = let more : taken_count side (take (k + 1) items) ≡ taken_count side (take k items) + width side l.mark = count-more side items k l lt is in omega arith

pub place-within : (side : Side) (items : List HunkLine) (k q at : ℕ) (l : HunkLine) → q ≡ at + taken_count side (take k items) → k + 1 + prefix_len is_kept_line (reverse items) ≤ length items → l ≡ get_or items k l → q + width side l.mark ≤ at + taken_count side items - prefix_len is_kept_line (reverse items)
place-within side items k q at l e le is =
    let here : q + width side l.mark ≡ at + taken_count side (take (k + 1) items) = place-more side items k q at l e (omega arith) is in
    let within : taken_count side (take (k + 1) items) + prefix_len is_kept_line (reverse items) ≤ taken_count side items = count-within side items (k + 1) le in
    omega arith

-- the edits that are left of a body, and later ones
pub body-from : (q end : ℕ) (ms : List Marked) (later : List Edit) → q ≤ end → AreFrom end later → AreFrom q (body_edits q ms ++ later)
body-from q end ms later le from = from-append q (body_edits q ms) later (edits-from q ms) (sooner q end later le from)
