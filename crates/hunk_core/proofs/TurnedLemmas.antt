-- The numbers of a hunk as it is taken from a side.
use Rattle.std.proofs.Common.{◌≡◌, ℕ, ◌+◌, Bool, List, [], ◌∷◌, ◌++◌, length, map, reverse, refl, sym, ap, ◌∙◌}
use Rattle.std.specs.Prelude.{◌==◌, if◌then◌else◌}
use Rattle.std.specs.List.{prefix_len, AllByRecursion}
use Rattle.std.proofs.lemmas.List.{reverse-append, map-append}
use Rattle.hunk_core.specs.declared.Mark.{Mark}
use Rattle.hunk_core.specs.declared.Mark.TheVariants.{Keep, Drop, Add}
use Rattle.hunk_core.specs.declared.Side.{Side}
use Rattle.hunk_core.specs.declared.Side.TheVariants.{Forward, Reversed}
use Rattle.hunk_core.specs.declared.HunkLine.{HunkLine}
use Rattle.hunk_core.specs.declared.Hunk.{Hunk}
use Rattle.hunk_core.specs.Sides.{start_of, taken_count}
use Rattle.hunk_core.specs.PlainHunk.{Marked, PlainHunk, hunk_of, body_of, marked_of, old_lines, new_lines}
use Rattle.hunk_core.specs.Turned.{swapped_mark, swapped_line, taken_line, other_side, is_keep, turned, leading, trailing, base}
use Rattle.hunk_core.proofs.SideLemmas.{turned-lines, turned-others, lines-counted}
use Rattle.hunk_core.specs.Rules.{HasNoInnerFeed}

pub prefix_len-map : {A B : Type 0} (p : B → Bool) (f : A → B) (q : A → Bool) → ((x : A) → p (f x) ≡ q x) → (xs : List A) → prefix_len p (map f xs) ≡ prefix_len q xs
prefix_len-map p f q same [] = refl
prefix_len-map p f q same (x ∷ xs) = let again : prefix_len p (map f xs) ≡ prefix_len q xs = prefix_len-map p f q same xs in rw (same x, again) refl

pub reverse-map : {A B : Type 0} (f : A → B) (xs : List A) → reverse (map f xs) ≡ map f (reverse xs)
reverse-map f [] = refl
reverse-map f (x ∷ xs) =
    reverse-append (f x ∷ []) (map f xs) ∙ ap (λ ys. ys ++ (f x ∷ [])) (reverse-map f xs)
    ∙ sym (ap (map f) (reverse-append (x ∷ []) xs) ∙ map-append f (reverse xs) (x ∷ []))

pub keep-swapped : (m : Mark) → is_keep (swapped_mark m) ≡ is_keep m
keep-swapped Keep = refl
keep-swapped Drop = refl
keep-swapped Add = refl

abbrev pub is_kept : Marked → Bool
is_kept m = is_keep m.mark

abbrev pub is_kept_line : HunkLine → Bool
is_kept_line l = is_keep l.mark

pub kept : (text : List ℕ) (ls : List HunkLine) → prefix_len is_kept (body_of text ls) ≡ prefix_len is_kept_line ls
kept text ls = prefix_len-map is_kept (marked_of text) is_kept_line (λ l. refl) ls

pub kept-swapped : (body : List Marked) → prefix_len is_kept (map swapped_line body) ≡ prefix_len is_kept body
kept-swapped body = prefix_len-map is_kept swapped_line is_kept (λ m. keep-swapped m.mark) body

pub turned-leading : (text : List ℕ) (side : Side) (h : Hunk) → leading (turned side (hunk_of text h)).body ≡ prefix_len (λ l. is_keep l.mark) h.body.items
turned-leading text Forward h = kept text h.body.items
turned-leading text Reversed h = kept-swapped (body_of text h.body.items) ∙ kept text h.body.items

pub turned-trailing : (text : List ℕ) (side : Side) (h : Hunk) → trailing (turned side (hunk_of text h)).body ≡ prefix_len (λ l. is_keep l.mark) (reverse h.body.items)
turned-trailing text Forward h = ap (prefix_len is_kept) (reverse-map (marked_of text) h.body.items) ∙ kept text (reverse h.body.items)
turned-trailing text Reversed h =
    ap (prefix_len is_kept) (reverse-map swapped_line (body_of text h.body.items)) ∙ kept-swapped (reverse (body_of text h.body.items))
    ∙ ap (prefix_len is_kept) (reverse-map (marked_of text) h.body.items) ∙ kept text (reverse h.body.items)

turned-start : (text : List ℕ) (side : Side) (h : Hunk) → (turned side (hunk_of text h)).old_start ≡ start_of side h
turned-start text Forward h = refl
turned-start text Reversed h = refl

pub turned-count : (text : List ℕ) (side : Side) (h : Hunk) → length (old_lines (turned side (hunk_of text h)).body) ≡ taken_count side h.body.items
turned-count text side h = ap length (turned-lines text side h) ∙ lines-counted text side h.body.items

pub turned-other-count : (text : List ℕ) (side : Side) (h : Hunk) → length (new_lines (turned side (hunk_of text h)).body) ≡ taken_count (other_side side) h.body.items
turned-other-count text side h = ap length (turned-others text side h) ∙ lines-counted text (other_side side) h.body.items

pub turned-base : (text : List ℕ) (side : Side) (h : Hunk) → base (turned side (hunk_of text h)) ≡ (if taken_count side h.body.items == 0 then start_of side h + 1 else start_of side h)
turned-base text side h =
    ap (λ k. if k == 0 then (turned side (hunk_of text h)).old_start + 1 else (turned side (hunk_of text h)).old_start) (turned-count text side h)
    ∙ ap (λ s. if taken_count side h.body.items == 0 then s + 1 else s) (turned-start text side h)

same-body : (body : List Marked) → body ≡ map (taken_line Forward) body
same-body [] = refl
same-body (m ∷ body) = ap (λ ms. m ∷ ms) (same-body body)

swapped-body : (body : List Marked) → map swapped_line body ≡ map (taken_line Reversed) body
swapped-body [] = refl
swapped-body (m ∷ body) = ap (λ ms. swapped_line m ∷ ms) (swapped-body body)

-- the body of a hunk taken from a side, line by line
pub turned-body : (side : Side) (h : PlainHunk) → (turned side h).body ≡ map (taken_line side) h.body
turned-body Forward h = same-body h.body
turned-body Reversed h = swapped-body h.body

pub mark-twice : (m : Mark) → swapped_mark (swapped_mark m) ≡ m
mark-twice Keep = refl
mark-twice Drop = refl
mark-twice Add = refl

pub swapped-feeds : (body : List Marked) → AllByRecursion HasNoInnerFeed body → AllByRecursion HasNoInnerFeed (map swapped_line body)
swapped-feeds [] all = tt
swapped-feeds (m ∷ body) all = (all.0, swapped-feeds body all.1)
