-- A body is what its two sides merge to.
use Rattle.std.proofs.Common.{◌≡◌, ℕ, Bool, true, false, List, [], ◌∷◌, ◌++◌, Option, None, Some, refl, sym, ap, subst, ◌∙◌}
use Rattle.std.specs.Str.{bytes_eq}
use Rattle.std.proofs.lemmas.Slice.Eq.{bytes_eq-Decides}
use Rattle.hunk_core.specs.declared.Mark.{Mark}
use Rattle.hunk_core.specs.declared.Mark.TheVariants.{Keep, Drop, Add}
use Rattle.hunk_core.specs.PlainHunk.{Marked}
use Rattle.hunk_core.specs.declared.Side.TheVariants.{Forward, Reversed}
use Rattle.hunk_core.specs.Sides.{is_on_side}
use Rattle.hunk_core.specs.Turned.{is_keep}
use Rattle.hunk_core.specs.LineTests.{marked}
use Rattle.context_form.specs.Merging.{before_kept, from_kept, agrees, rest_of, with_front, only_changes, merge, part_of, may_follow, DropsFirst}
use Rattle.context_form.proofs.MergeIs.{AllOn, IsMerge}
use Rattle.context_form.proofs.MergeLemmas.{front-none, rest-none, front-step, rest-step, front-stop, rest-stop, front-front, merge-change, merge-kept, merge-apart, merge-end}

same-line : (line : List ℕ) → bytes_eq line line ≡ true
same-line line = (bytes_eq-Decides line line).1 refl

-- no old line is left, or the first is kept
abbrev KeptFirst : List Marked → Type 0
KeptFirst [] = Unit {0}
KeptFirst (m ∷ olds) = is_keep m.mark ≡ true

add-by : (mark : Mark) (line : List ℕ) (body : List Marked) → may_follow Add (marked mark line ∷ body) ≡ true → may_follow mark body ≡ true → (may_follow Add body ≡ true → KeptFirst (part_of Forward body)) → KeptFirst (part_of Forward (marked mark line ∷ body))
add-by Keep line body h k more = refl
add-by Drop line body h k more = absurd cc
add-by Add line body h k more = more k

after-add : (body : List Marked) → may_follow Add body ≡ true → DropsFirst body → KeptFirst (part_of Forward body)
after-add [] h order = tt
after-add (m ∷ body) h order = add-by m.mark m.line body h order.0 (λ k. after-add body k order.1)

only-more : (m : Marked) (changes rest : List Marked) → only_changes (m ∷ changes) rest ≡ with_front (m ∷ []) (only_changes changes rest)
only-more m changes [] = refl
only-more m changes (k ∷ rest) = refl

merge-add : (m : Marked) (olds news : List Marked) → is_keep m.mark ≡ false → KeptFirst olds → merge olds (m ∷ news) ≡ with_front (m ∷ []) (merge olds news)
merge-add m [] news h k =
    merge-end (m ∷ news) ∙ ap (λ ms. only_changes ms (from_kept (m ∷ news))) (front-step m news h) ∙ ap (only_changes (m ∷ before_kept news)) (rest-step m news h)
    ∙ only-more m (before_kept news) (from_kept news) ∙ ap (with_front (m ∷ [])) (sym (merge-end news))
merge-add m (a ∷ olds) news h k = by (agrees a (from_kept news)) refl
  where
    by : (v : Bool) → agrees a (from_kept news) ≡ v → merge (a ∷ olds) (m ∷ news) ≡ with_front (m ∷ []) (merge (a ∷ olds) news)
    by true e =
        merge-kept a olds (m ∷ news) k (ap (agrees a) (rest-step m news h) ∙ e)
        ∙ ap (λ ms. with_front (ms ++ a ∷ []) (merge olds (rest_of (from_kept (m ∷ news))))) (front-step m news h)
        ∙ ap (λ ms. with_front ((m ∷ before_kept news) ++ a ∷ []) (merge olds (rest_of ms))) (rest-step m news h)
        ∙ sym (front-front (m ∷ []) (before_kept news ++ a ∷ []) (merge olds (rest_of (from_kept news))))
        ∙ ap (with_front (m ∷ [])) (sym (merge-kept a olds news k e))
    by false e =
        merge-apart a olds (m ∷ news) k (ap (agrees a) (rest-step m news h) ∙ e) ∙ ap (with_front (m ∷ [])) (sym (merge-apart a olds news k e))

merge-both : (line : List ℕ) (olds news : List Marked) → merge (marked Keep line ∷ olds) (marked Keep line ∷ news) ≡ with_front (marked Keep line ∷ []) (merge olds news)
merge-both line olds news =
    let m = marked Keep line in
    merge-kept m olds (m ∷ news) refl (ap (agrees m) (rest-stop m news refl) ∙ same-line line)
    ∙ ap (λ ms. with_front (ms ++ m ∷ []) (merge olds (rest_of (from_kept (m ∷ news))))) (front-stop m news refl)
    ∙ ap (λ ms. with_front (m ∷ []) (merge olds (rest_of ms))) (rest-stop m news refl)

-- the two sides of a body merge to it
pub sides-merge : (body : List Marked) → DropsFirst body → merge (part_of Forward body) (part_of Reversed body) ≡ Some body
sides-merge [] order = merge-end [] ∙ ap (λ ms. only_changes ms (from_kept [])) front-none ∙ ap (only_changes []) rest-none
sides-merge (m ∷ body) order = by m.mark order.0 (sides-merge body order.1)
  where
    by : (mark : Mark) → may_follow mark body ≡ true → merge (part_of Forward body) (part_of Reversed body) ≡ Some body → merge (part_of Forward (marked mark m.line ∷ body)) (part_of Reversed (marked mark m.line ∷ body)) ≡ Some (marked mark m.line ∷ body)
    by Keep h e = merge-both m.line (part_of Forward body) (part_of Reversed body) ∙ ap (with_front (marked Keep m.line ∷ [])) e
    by Drop h e = merge-change (marked Drop m.line) (part_of Forward body) (part_of Reversed body) refl ∙ ap (with_front (marked Drop m.line ∷ [])) e
    by Add h e = merge-add (marked Add m.line) (part_of Forward body) (part_of Reversed body) refl (after-add body h order.1) ∙ ap (with_front (marked Add m.line ∷ [])) e

pub merge-again : (body olds news : List Marked) → IsMerge body olds news → merge olds news ≡ Some body
merge-again body olds news is = rw (← is.old_side, ← is.new_side) (sides-merge body is.order)

-- ---- and what they merge to has these sides

front-back : (o : Option (List Marked)) (front body : List Marked) → with_front front o ≡ Some body → (rest : List Marked) × (o ≡ Some rest) × (front ++ rest ≡ body)
front-back None front body e = absurd cc
front-back (Some rest) front body e = (rest, refl, cc)

add-front : (m : Marked) (body olds news : List Marked) → is_on_side Reversed m.mark ≡ true → is_keep m.mark ≡ false → KeptFirst olds → IsMerge body olds news → IsMerge (m ∷ body) olds (m ∷ news)
add-front m body olds news on kept first is = by m.mark on kept
  where
    follows : (b : List Marked) → KeptFirst (part_of Forward b) → may_follow Add b ≡ true
    follows [] k = refl
    follows (x ∷ b) k = follows_by x.mark k
      where
        follows_by : (mark : Mark) → KeptFirst (part_of Forward (marked mark x.line ∷ b)) → may_follow Add (marked mark x.line ∷ b) ≡ true
        follows_by Keep k = refl
        follows_by Drop k = absurd cc
        follows_by Add k = refl

    by : (mark : Mark) → is_on_side Reversed mark ≡ true → is_keep mark ≡ false → IsMerge (marked mark m.line ∷ body) olds (marked mark m.line ∷ news)
    by Keep o k = absurd cc
    by Drop o k = absurd cc
    by Add o k = record { old_side = is.old_side; new_side = ap (λ ms. marked Add m.line ∷ ms) is.new_side; order = (follows body (subst KeptFirst (sym is.old_side) first), is.order) }

drop-front : (m : Marked) (body olds news : List Marked) → is_on_side Forward m.mark ≡ true → is_keep m.mark ≡ false → IsMerge body olds news → IsMerge (m ∷ body) (m ∷ olds) news
drop-front m body olds news on kept is = by m.mark on kept
  where
    free : (b : List Marked) → may_follow Drop b ≡ true
    free [] = refl
    free (x ∷ b) = refl

    by : (mark : Mark) → is_on_side Forward mark ≡ true → is_keep mark ≡ false → IsMerge (marked mark m.line ∷ body) (marked mark m.line ∷ olds) news
    by Keep o k = absurd cc
    by Add o k = absurd cc
    by Drop o k = record { old_side = ap (λ ms. marked Drop m.line ∷ ms) is.old_side; new_side = is.new_side; order = (free body, is.order) }

keep-front : (line : List ℕ) (body olds news : List Marked) → IsMerge body olds news → IsMerge (marked Keep line ∷ body) (marked Keep line ∷ olds) (marked Keep line ∷ news)
keep-front line body olds news is = record { old_side = ap (λ ms. marked Keep line ∷ ms) is.old_side; new_side = ap (λ ms. marked Keep line ∷ ms) is.new_side; order = (free body, is.order) }
  where
    free : (b : List Marked) → may_follow Keep b ≡ true
    free [] = refl
    free (x ∷ b) = refl

no-some : (body : List Marked) (o : Option (List Marked)) → o ≡ None → o ≡ Some body → ⊥
no-some body o e f = cc

some-is : (a b : List Marked) (o : Option (List Marked)) → o ≡ Some a → o ≡ Some b → a ≡ b
some-is a b o e f = cc

ends-kept : (line : List ℕ) (news : List Marked) → merge [] (marked Keep line ∷ news) ≡ None
ends-kept line news =
    let m = marked Keep line in
    merge-end (m ∷ news) ∙ ap (λ ms. only_changes ms (from_kept (m ∷ news))) (front-stop m news refl) ∙ ap (only_changes []) (rest-stop m news refl)

takes-none : (news body : List Marked) → AllOn Reversed news → merge [] news ≡ Some body → IsMerge body [] news
takes-none [] body on e = subst (λ b. IsMerge b [] []) (some-is [] body (merge [] []) (sides-merge [] tt) e) (record { old_side = refl; new_side = refl; order = tt })
takes-none (n ∷ news) body on e = takes-none-by n.mark n.line news body on.0 e (λ b h. takes-none news b on.1 h)
  where
    takes-none-by : (mark : Mark) (line : List ℕ) (more b : List Marked) → is_on_side Reversed mark ≡ true → merge [] (marked mark line ∷ more) ≡ Some b → ((c : List Marked) → merge [] more ≡ Some c → IsMerge c [] more) → IsMerge b [] (marked mark line ∷ more)
    takes-none-by Keep line more b o h others = absurd (no-some b _ (ends-kept line more) h)
    takes-none-by Drop line more b o h others = absurd cc
    takes-none-by Add line more b o h others =
        let f = front-back (merge [] more) (marked Add line ∷ []) b (sym (merge-add (marked Add line) [] more refl tt) ∙ h) in
        subst (λ c. IsMerge c [] (marked Add line ∷ more)) f.2 (add-front (marked Add line) f.0 [] more refl refl tt (others f.0 f.1))

kept-by : (line : List ℕ) (olds : List Marked) (mark : Mark) (text : List ℕ) (more b : List Marked) → is_on_side Reversed mark ≡ true → merge (marked Keep line ∷ olds) (marked mark text ∷ more) ≡ Some b
    → ((c : List Marked) → merge olds more ≡ Some c → IsMerge c olds more) → ((c : List Marked) → merge (marked Keep line ∷ olds) more ≡ Some c → IsMerge c (marked Keep line ∷ olds) more)
    → IsMerge b (marked Keep line ∷ olds) (marked mark text ∷ more)
kept-by line olds Drop text more b o h below others = absurd cc
kept-by line olds Add text more b o h below others =
    let f = front-back (merge (marked Keep line ∷ olds) more) (marked Add text ∷ []) b (sym (merge-add (marked Add text) (marked Keep line ∷ olds) more refl refl) ∙ h) in
    subst (λ c. IsMerge c (marked Keep line ∷ olds) (marked Add text ∷ more)) f.2 (add-front (marked Add text) f.0 (marked Keep line ∷ olds) more refl refl refl (others f.0 f.1))
kept-by line olds Keep text more b o h below others = by (bytes_eq line text) refl
  where
    by : (v : Bool) → bytes_eq line text ≡ v → IsMerge b (marked Keep line ∷ olds) (marked Keep text ∷ more)
    by false e = absurd (no-some b _ (merge-apart (marked Keep line) olds (marked Keep text ∷ more) refl (ap (agrees (marked Keep line)) (rest-stop (marked Keep text) more refl) ∙ e)) h)
    by true e =
        let same : line ≡ text = (bytes_eq-Decides line text).0 e in
        let again : merge (marked Keep line ∷ olds) (marked Keep line ∷ more) ≡ Some b = ap (λ t. merge (marked Keep line ∷ olds) (marked Keep t ∷ more)) same ∙ h in
        let f = front-back (merge olds more) (marked Keep line ∷ []) b (sym (merge-both line olds more) ∙ again) in
        subst (λ t. IsMerge b (marked Keep line ∷ olds) (marked Keep t ∷ more)) same (subst (λ c. IsMerge c (marked Keep line ∷ olds) (marked Keep line ∷ more)) f.2 (keep-front line f.0 olds more (below f.0 f.1)))

takes-kept : (line : List ℕ) (olds news body : List Marked) → ((more c : List Marked) → AllOn Reversed more → merge olds more ≡ Some c → IsMerge c olds more) → AllOn Reversed news → merge (marked Keep line ∷ olds) news ≡ Some body → IsMerge body (marked Keep line ∷ olds) news
takes-kept line olds [] body below on e = absurd (no-some body _ (merge-apart (marked Keep line) olds [] refl (ap (agrees (marked Keep line)) rest-none)) e)
takes-kept line olds (n ∷ news) body below on e = kept-by line olds n.mark n.line news body on.0 e (λ c h. below news c on.1 h) (λ c h. takes-kept line olds news c below on.1 h)

old-by : (mark : Mark) (line : List ℕ) (olds news body : List Marked) → is_on_side Forward mark ≡ true → AllOn Reversed news → merge (marked mark line ∷ olds) news ≡ Some body → ((more c : List Marked) → AllOn Reversed more → merge olds more ≡ Some c → IsMerge c olds more) → IsMerge body (marked mark line ∷ olds) news
old-by Keep line olds news body o on e below = takes-kept line olds news body below on e
old-by Add line olds news body o on e below = absurd cc
old-by Drop line olds news body o on e below =
    let f = front-back (merge olds news) (marked Drop line ∷ []) body (sym (merge-change (marked Drop line) olds news refl) ∙ e) in
    subst (λ c. IsMerge c (marked Drop line ∷ olds) news) f.2 (drop-front (marked Drop line) f.0 olds news refl refl (below news f.0 on f.1))

pub merge-takes : (olds news body : List Marked) → AllOn Forward olds → AllOn Reversed news → merge olds news ≡ Some body → IsMerge body olds news
merge-takes [] news body o on e = takes-none news body on e
merge-takes (m ∷ olds) news body o on e = old-by m.mark m.line olds news body o.0 on e (λ more c onn h. merge-takes olds more c o.1 onn h)
