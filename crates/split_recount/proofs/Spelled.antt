-- A body without a misplaced backslash line is spelled by the unified grammar.
use Rattle.std.proofs.Common.{◌≡◌, ℕ, ◌+◌, Bool, true, false, cond, not, eqb, ◌&&◌, ◌↔◌, List, [], ◌∷◌, ◌++◌, Option, None, Some, refl, sym, ap, subst, ◌∙◌, inl, inr}
use Rattle.std.specs.Prelude.{option_map}
use Rattle.std.proofs.lemmas.Bool.{eqb-true, cases_Bool}
use Rattle.std.specs.List.{AllByRecursion, cons_option}
use Rattle.hunk_core.specs.declared.Mark.{Mark}
use Rattle.hunk_core.specs.declared.Mark.TheVariants.{Keep, Drop, Add}
use Rattle.hunk_core.specs.PlainHunk.{Marked}
use Rattle.hunk_core.specs.LineTests.{after, marked, is_backslash, unended}
use Rattle.hunk_core.proofs.TextLemmas.{backslash-words}
use Rattle.unified_form.specs.declared.body.Left.{Left}
use Rattle.unified_form.specs.Bodies.{mark_at, is_last_line}
use Rattle.unified_form.specs.Grammar.{mark_byte, LostBlank, one_more, counts_of, Shows, SpellsLine, SpellsBody}
use Rattle.split_recount.specs.Bodies.{is_body_line, ends_body, body_of, marked_lines, mark_in, may_stand, misplaced}
use Rattle.split_recount.specs.Measured.{with_mark}
use Rattle.split_recount.proofs.Measuring.{sides_of, sides-more}
use Rattle.split_recount.proofs.Ends.{body_none, body_ends, body_more, goes_body}

-- ---- lines of a body

abbrev IsBodyLine : List ℕ → Type 0
IsBodyLine line = is_body_line line ≡ true

pub all-body : (ls : List (List ℕ)) → AllByRecursion IsBodyLine (body_of ls)
all-body [] = subst (AllByRecursion IsBodyLine) (sym (body_none [] refl)) tt
all-body (line ∷ rest) = by (ends_body line rest) refl (all-body rest)
  where
    by : (v : Bool) → ends_body line rest ≡ v → AllByRecursion IsBodyLine (body_of rest) → AllByRecursion IsBodyLine (body_of (line ∷ rest))
    by true e more = subst (AllByRecursion IsBodyLine) (sym (body_ends (line ∷ rest) line rest refl e)) tt
    by false e more = subst (AllByRecursion IsBodyLine) (sym (body_more (line ∷ rest) line rest refl e)) (goes_body line rest e, more)

-- a line that isn't a backslash line has a mark, and shows what is behind it
shown : (line : List ℕ) → is_body_line line ≡ true → is_backslash line ≡ false → (m : Marked) × (mark_at line ≡ Some m) × Shows line m
shown [] body other = absurd cc
shown (b ∷ bytes) body other = keep (eqb b 32) refl
  where
    add : (v : Bool) → eqb b 32 ≡ false → eqb b 45 ≡ false → eqb b 43 ≡ v → (m : Marked) × (mark_at (b ∷ bytes) ≡ Some m) × Shows (b ∷ bytes) m
    add true e f g = (marked Add bytes, rw (e, f, g) refl, inl (ap (λ c. c ∷ bytes) (eqb-true b 43 g)))
    add false e f g = absurd (let no : is_body_line (b ∷ bytes) ≡ is_backslash (b ∷ bytes) = rw (e, f, g) refl in cc)

    drop : (v : Bool) → eqb b 32 ≡ false → eqb b 45 ≡ v → (m : Marked) × (mark_at (b ∷ bytes) ≡ Some m) × Shows (b ∷ bytes) m
    drop true e f = (marked Drop bytes, rw (e, f) refl, inl (ap (λ c. c ∷ bytes) (eqb-true b 45 f)))
    drop false e f = add (eqb b 43) e f refl

    keep : (v : Bool) → eqb b 32 ≡ v → (m : Marked) × (mark_at (b ∷ bytes) ≡ Some m) × Shows (b ∷ bytes) m
    keep true e = (marked Keep bytes, rw e refl, inl (ap (λ c. c ∷ bytes) (eqb-true b 32 e)))
    keep false e = drop (eqb b 45) e refl

-- a backslash line has none
unmarked : (line : List ℕ) → is_backslash line ≡ true → mark_at line ≡ None
unmarked line slash = let words = backslash-words line in let w = words.0 slash in ap mark_at w.1

-- ---- backslash lines

both : (a b : Bool) → (a && not b) ≡ false → a ≡ true → b ≡ true
both true true e f = refl
both true false e f = absurd cc
both false b e f = absurd cc

some-none : (number : ℕ) (v : Bool) (other : Option ℕ) → cond v (Some number) other ≡ None → (v ≡ false) × (other ≡ None)
some-none number true other e = absurd cc
some-none number false other e = (refl, e)

placed : (before : Option Mark) (number : ℕ) (line : List ℕ) (rest : List (List ℕ)) → misplaced before number (line ∷ rest) ≡ None
    → ((is_backslash line && not (may_stand before (counts_of (marked_lines rest)))) ≡ false) × (misplaced (mark_in line) (number + 1) rest ≡ None)
unfolding misplaced
placed before number line rest e = some-none number (is_backslash line && not (may_stand before (counts_of (marked_lines rest)))) (misplaced (mark_in line) (number + 1) rest) e

-- no backslash line stands first
abbrev NoneFirst : List (List ℕ) → Type 0
NoneFirst [] = Unit {0}
NoneFirst (line ∷ rest) = is_backslash line ≡ false

none-first : (number : ℕ) (ls : List (List ℕ)) → misplaced None number ls ≡ None → NoneFirst ls
none-first number [] e = tt
none-first number (line ∷ rest) e = by (is_backslash line) refl (placed None number line rest e).0
  where
    by : (v : Bool) → is_backslash line ≡ v → (is_backslash line && true) ≡ false → is_backslash line ≡ false
    by true is f = absurd (let no : (is_backslash line && true) ≡ true = rw is refl in cc)
    by false is f = is

-- ---- the body

-- marked lines that a body spells, as many on each side as it has
pub record IsSpelled (ls : List (List ℕ)) : Type 0 where
  pub body : List Marked
  pub spelled : SpellsBody ls body
  pub counts : counts_of body ≡ counts_of (marked_lines ls)

more-marked : (line : List ℕ) (m : Marked) (rest : List (List ℕ)) → mark_at line ≡ Some m → marked_lines (line ∷ rest) ≡ m ∷ marked_lines rest
more-marked line m rest e = ap (λ found. cons_option found (marked_lines rest)) e

none-more : (line : List ℕ) (rest : List (List ℕ)) → mark_at line ≡ None → marked_lines (line ∷ rest) ≡ marked_lines rest
none-more line rest e = ap (λ found. cons_option found (marked_lines rest)) e

-- a line without a backslash line behind it
plain-line : (line : List ℕ) (m : Marked) (rest : List (List ℕ)) → mark_at line ≡ Some m → Shows line m → IsSpelled rest → IsSpelled (line ∷ rest)
plain-line line m rest e shows more = record {
  body = m ∷ more.body;
  spelled = (line ∷ [], rest, refl, shows, more.spelled);
  counts = ap (one_more m.mark) more.counts ∙ sym (ap counts_of (more-marked line m rest e));
}

-- a line with one
ended-line : (line slash : List ℕ) (m : Marked) (rest : List (List ℕ)) → mark_at line ≡ Some m → Shows line m → is_backslash slash ≡ true → is_last_line m.mark (counts_of (marked_lines rest)) ≡ true → IsSpelled rest → IsSpelled (line ∷ slash ∷ rest)
ended-line line slash m rest e shows is last more =
    let fewer : marked_lines (line ∷ slash ∷ rest) ≡ m ∷ marked_lines rest = more-marked line m (slash ∷ rest) e ∙ ap (λ ms. m ∷ ms) (none-more slash rest (unmarked slash is)) in
    record {
      body = unended m ∷ more.body;
      spelled = (line ∷ slash ∷ [], rest, refl, (is, ap (is_last_line m.mark) more.counts ∙ last, m, shows, refl), more.spelled);
      counts = ap (one_more m.mark) more.counts ∙ sym (ap counts_of fewer);
    }

stands : (m : Marked) (line : List ℕ) (behind : Left) → mark_at line ≡ Some m → may_stand (mark_in line) behind ≡ true → is_last_line m.mark behind ≡ true
stands m line behind e may = sym (ap (λ found. may_stand (option_map (λ x. x.mark) found) behind) e) ∙ may

spelled-from : (before : Option Mark) (number : ℕ) (ls : List (List ℕ)) → AllByRecursion IsBodyLine ls → NoneFirst ls → misplaced before number ls ≡ None → IsSpelled ls
spelled-from before number [] all first e = record { body = []; spelled = refl; counts = refl }
spelled-from before number (line ∷ []) all first e = let m = shown line all.0 first in plain-line line m.0 [] m.1 m.2 (record { body = []; spelled = refl; counts = refl })
spelled-from before number (line ∷ next ∷ rest) all first e =
    let m = shown line all.0 first in
    let behind : misplaced (mark_in line) (number + 1) (next ∷ rest) ≡ None = (placed before number line (next ∷ rest) e).1 in
    let further = placed (mark_in line) (number + 1) next rest behind in
    elim (cases_Bool (is_backslash next)) [
      | inl slash ↦ (
          let none : mark_in next ≡ None = ap (option_map (λ x. x.mark)) (unmarked next slash) in
          let rests : misplaced None (number + 1 + 1) rest ≡ None = ap (λ found. misplaced found (number + 1 + 1) rest) (sym none) ∙ further.1 in
          ended-line line next m.0 rest m.1 m.2 slash (stands m.0 line (counts_of (marked_lines rest)) m.1 (both (is_backslash next) _ further.0 slash))
          (spelled-from None (number + 1 + 1) rest all.1.1 (none-first (number + 1 + 1) rest rests) rests))
      | inr other ↦ plain-line line m.0 (next ∷ rest) m.1 m.2 (spelled-from (mark_in line) (number + 1) (next ∷ rest) all.1 other behind)
    ]

pub body-spelled : (number : ℕ) (ls : List (List ℕ)) → misplaced None number (body_of ls) ≡ None → IsSpelled (body_of ls)
body-spelled number ls e = spelled-from None number (body_of ls) (all-body ls) (none-first number (body_of ls) e) e

-- ---- and the other way round

mark-found : (mark : Mark) (bytes : List ℕ) → mark_in (mark_byte mark ∷ bytes) ≡ Some mark
mark-found Keep bytes = refl
mark-found Drop bytes = refl
mark-found Add bytes = refl

not-slash : (mark : Mark) (bytes : List ℕ) → is_backslash (mark_byte mark ∷ bytes) ≡ false
unfolding after
not-slash Keep bytes = refl
not-slash Drop bytes = refl
not-slash Add bytes = refl

lost-shown : (line : List ℕ) → LostBlank line → (mark_in line ≡ Some Keep) × (is_backslash line ≡ false)
unfolding after
lost-shown [] e = absurd e
lost-shown (b ∷ bytes) (inl feed) = (rw feed refl, rw feed refl)
lost-shown (b ∷ bytes) (inr tab) = (rw tab refl, rw tab refl)

shows-mark : (line : List ℕ) (m : Marked) → Shows line m → (mark_in line ≡ Some m.mark) × (is_backslash line ≡ false)
shows-mark line m (inl e) = (ap mark_in e ∙ mark-found m.mark m.line, ap is_backslash e ∙ not-slash m.mark m.line)
shows-mark line m (inr h) = let found = lost-shown line h.0 in (found.0 ∙ ap (λ (x : Marked). Some x.mark) (sym h.1), found.1)

none-marked : (line : List ℕ) → is_backslash line ≡ true → mark_in line ≡ None
none-marked line slash = ap (option_map (λ x. x.mark)) (unmarked line slash)

-- what a body that is spelled has on each side, and no backslash line of it is misplaced
record IsInPlace (ls : List (List ℕ)) (body : List Marked) : Type 0 where
  counts : sides_of ls ≡ counts_of body
  none : (before : Option Mark) (number : ℕ) → misplaced before number ls ≡ None

unslashed : (before : Option Mark) (number : ℕ) (line : List ℕ) (rest : List (List ℕ)) → is_backslash line ≡ false → misplaced before number (line ∷ rest) ≡ misplaced (mark_in line) (number + 1) rest
unfolding misplaced
unslashed before number line rest e = rw e refl

lawful : (mark : Mark) (number : ℕ) (slash : List ℕ) (rest : List (List ℕ)) → is_backslash slash ≡ true → is_last_line mark (sides_of rest) ≡ true → misplaced (Some mark) number (slash ∷ rest) ≡ misplaced (mark_in slash) (number + 1) rest
unfolding misplaced
lawful mark number slash rest e f = rw (e, f) refl

one-line : (own rest : List (List ℕ)) (m : Marked) (body : List Marked) → SpellsLine own m body → IsInPlace rest body → IsInPlace (own ++ rest) (m ∷ body)
one-line [] rest m body h more = absurd h
one-line (line ∷ []) rest m body h more =
    let found = shows-mark line m h in
    record {
      counts = sides-more line rest ∙ ap (λ x. with_mark x (sides_of rest)) found.0 ∙ ap (one_more m.mark) more.counts;
      none = λ before number. unslashed before number line rest found.1 ∙ more.none (mark_in line) (number + 1);
    }
one-line (line ∷ slash ∷ []) rest m body h more =
    let full : Marked = h.2 in
    let found = shows-mark line full h.3 in
    let same : full.mark ≡ m.mark = ap (λ (x : Marked). x.mark) (sym h.4) in
    let marked_one : mark_in line ≡ Some m.mark = found.0 ∙ ap (λ x. Some x) same in
    let last : is_last_line m.mark (sides_of rest) ≡ true = ap (is_last_line m.mark) more.counts ∙ h.1 in
    record {
      counts = sides-more line (slash ∷ rest) ∙ ap (λ x. with_mark x (sides_of (slash ∷ rest))) marked_one ∙ ap (one_more m.mark) (sides-more slash rest ∙ ap (λ x. with_mark x (sides_of rest)) (none-marked slash h.0) ∙ more.counts);
      none = λ before number. unslashed before number line (slash ∷ rest) found.1 ∙ ap (λ x. misplaced x (number + 1) (slash ∷ rest)) marked_one ∙ lawful m.mark (number + 1) slash rest h.0 last ∙ more.none (mark_in slash) (number + 1 + 1);
    }
one-line (line ∷ slash ∷ other ∷ own) rest m body h more = absurd h

in-place : (ls : List (List ℕ)) (body : List Marked) → SpellsBody ls body → IsInPlace ls body
unfolding misplaced
in-place ls [] h = rw h (record { counts = refl; none = λ before number. refl })
in-place ls (m ∷ body) h = subst (λ piece. IsInPlace piece (m ∷ body)) (sym h.2) (one-line h.0 h.1 m body h.3 (in-place h.1 body h.4))

pub as-spelled : (number : ℕ) (ls : List (List ℕ)) → misplaced None number (body_of ls) ≡ None ↔ ((body : List Marked) × SpellsBody (body_of ls) body)
as-spelled number ls = (
  λ e. let is = body-spelled number ls e in (is.body, is.spelled),
  λ h. let is = in-place (body_of ls) h.0 h.1 in is.none None number,
)
