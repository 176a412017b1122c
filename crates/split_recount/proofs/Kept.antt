-- What a text with true counts keeps of the one that it was made from.
use Rattle.std.proofs.Common.{◌≡◌, ℕ, ◌+◌, ◌<◌, Bool, true, false, cond, not, eqb, ◌&&◌, ◌||◌, ◌⊎◌, List, [], ◌∷◌, ◌++◌, length, map, Option, None, Some, Result, Ok, Err, refl, sym, ap, subst, ◌∙◌, append_assoc, arith, inl, inr}
use Rattle.std.specs.Prelude.{filter, codes, IfOk}
use Rattle.std.specs.List.{AllByRecursion}
use Rattle.line_list.specs.Lines.{lines, IsLine}
use Rattle.line_list.specs.Completed.{completed, IsComplete}
use Rattle.line_list.specs.Join.{ends_open}
use Rattle.line_list.proofs.Pieces.{pieces-only, lines-pieces}
use Rattle.line_list.proofs.JoinLemmas.{completed-complete}
use Rattle.line_list.proofs.WholeLines.{whole-pieces}
use Rattle.num_text.specs.Numbers.{decimal, is_digit, AllDigits}
use Rattle.num_text.proofs.Decimal.{decimal-numeral}
use Rattle.hunk_core.specs.declared.BadKind.{BadKind}
use Rattle.hunk_core.specs.declared.fault.FormFault.{FormFault}
use Rattle.hunk_core.specs.PlainHunk.{Marked, PlainHunk}
use Rattle.hunk_core.specs.LineTests.{after}
use Rattle.hunk_core.specs.Reading.{Fault, Gives}
use Rattle.hunk_core.proofs.ReadSteps.{bind_ok}
use Rattle.line_list.proofs.Choices.{chosen}
use Rattle.unified_form.specs.declared.body.Left.{Left}
use Rattle.unified_form.specs.Ranges.{is_opening}
use Rattle.unified_form.specs.Canonical.{range_text}
use Rattle.unified_form.specs.Grammar.{counts_of, SpellsRange}
use Rattle.unified_form.proofs.Canonical.{range-spelled}
use Rattle.unified_form.proofs.Words.{opening-words}
use Rattle.hunk_core.specs.Rules.{is_too_large}
use Rattle.split_recount.specs.Bodies.{begins, begins_header, ends_body, body_of, marked_lines, misplaced}
use Rattle.split_recount.specs.RangeLines.{stated, line_with}
use Rattle.split_recount.specs.Recounted.{unplaced, line_at, new_start, true_line, at_line, unless_misplaced, sound_body, recounted_line, in_front, with_body, behind_line, none, recounting, recounted_lines, recounted, bytes_of}
use Rattle.split_recount.specs.TrueCounts.{is_other, Spells, AreTrue}
use Rattle.split_recount.proofs.Ends.{body_ends, body_more}
use Rattle.split_recount.proofs.Spelled.{IsSpelled, body-spelled}
use Rattle.split_recount.proofs.WholeLines.{said-line, written-line, all-whole, whole-ends}

-- ---- a range line

at-ok : {A : Type 0} (number : ℕ) (r : Result A BadKind) (x : A) → at_line number r ≡ Ok x → r ≡ Ok x
at-ok number (Ok y) x e = cc
at-ok number (Err kind) x e = absurd cc

unless-ok : (body marked : List Marked) (found : Option ℕ) → unless_misplaced body found ≡ Ok marked → (body ≡ marked) × (found ≡ None)
unless-ok body marked None e = (cc, refl)
unless-ok body marked (Some number) e = absurd cc

sound-ok : (number : ℕ) (body : List (List ℕ)) (marked : List Marked) → sound_body number body ≡ Ok marked → (marked_lines body ≡ marked) × (misplaced None (number + 1) body ≡ None)
sound-ok number body marked e =
    elim (chosen (eqb (length body) 0) _ _ (Ok marked) e) [
      | inl bad ↦ absurd (let is = bad.1 in cc)
      | inr good ↦ unless-ok (marked_lines body) marked _ good.1
    ]

line-ok : (h : PlainHunk) (rest : List ℕ) (found : Option ℕ) (new : List ℕ) → line_at h rest found ≡ Ok new → (start : ℕ) × (line_with h.old_start start (counts_of h.body) rest ≡ new)
line-ok h rest None new e = absurd cc
line-ok h rest (Some start) new e =
    elim (chosen (is_too_large h.old_start (counts_of h.body).old || is_too_large start (counts_of h.body).new) _ _ (Ok new) e) [
      | inl bad ↦ absurd (let is = bad.1 in cc)
      | inr good ↦ (start, let is = good.1 in cc)
    ]

-- a range line was written with the counts of this body
pub record IsTrue (line new : List ℕ) (body : List (List ℕ)) : Type 0 where
  pub opens : is_opening new ≡ true
  pub counts : Spells new body
  pub whole : IsLine line → IsLine new

digit-first : (ds more : List ℕ) → 0 < length ds → AllDigits ds → (d : ℕ) × (rest : List ℕ) × (ds ++ more ≡ d ∷ rest) × (is_digit d ≡ true)
digit-first [] more some all = absurd (omega arith)
digit-first (d ∷ ds) more some all = (d, ds ++ more, refl, all.0)

range-first : (start count : ℕ) (more : List ℕ) → (d : ℕ) × (rest : List ℕ) × (range_text start count ++ more ≡ d ∷ rest) × (is_digit d ≡ true)
range-first start count more = by (eqb count 1)
  where
    numeral : (behind : List ℕ) → (d : ℕ) × (rest : List ℕ) × (decimal start ++ behind ≡ d ∷ rest) × (is_digit d ≡ true)
    numeral behind = let is = decimal-numeral start in digit-first (decimal start) behind is.some is.digits

    by : (v : Bool) → (d : ℕ) × (rest : List ℕ) × (cond v (decimal start) (decimal start ++ 44 ∷ decimal count) ++ more ≡ d ∷ rest) × (is_digit d ≡ true)
    by true = numeral more
    by false = let f = numeral (44 ∷ decimal count ++ more) in (f.0, f.1, append_assoc (decimal start) (44 ∷ decimal count) more ∙ f.2, f.3)

written-opens : (old new : ℕ) (counts : Left) (rest : List ℕ) → is_opening (line_with old new counts rest) ≡ true
written-opens old new counts rest =
    let f = range-first old counts.old ((32 ∷ 43 ∷ []) ++ (range_text new counts.new ++ ((32 ∷ 64 ∷ 64 ∷ []) ++ rest))) in
    let words = opening-words (line_with old new counts rest) in
    words.1 (f.0, f.1, ap (λ (bs : List ℕ). 64 ∷ 64 ∷ 32 ∷ 45 ∷ bs) f.2, f.3)

written-counts : (old new : ℕ) (counts : Left) (body : List (List ℕ)) (rest : List ℕ) → counts_of (marked_lines body) ≡ counts → IsSpelled body → Spells (line_with old new counts rest) body
written-counts old new counts body rest e is =
    let same : counts ≡ counts_of is.body = sym (is.counts ∙ e) in (
      record { old_start = old; new_start = new; body = is.body },
      record {
        old = range_text old counts.old;
        new = range_text new counts.new;
        rest = rest;
        parts = refl;
        old_range = subst (SpellsRange (range_text old counts.old) old) (ap (λ (l : Left). l.old) same) (range-spelled old counts.old);
        new_range = subst (SpellsRange (range_text new counts.new) new) (ap (λ (l : Left). l.new) same) (range-spelled new counts.new);
      },
      is.spelled,
    )

line-true : (number : ℕ) (earlier : Left) (line : List ℕ) (rest : List (List ℕ)) (new : List ℕ) → recounted_line number earlier line (body_of rest) ≡ Ok new → IsTrue line new (body_of rest)
unfolding recounted_line
line-true number earlier line rest new e =
    let a = bind_ok (at_line number (stated line)) _ new e in
    let b = bind_ok (sound_body number (body_of rest)) _ new a.2 in
    let sound = sound-ok number (body_of rest) b.0 b.1 in
    let said : stated line ≡ Ok a.0 = at-ok number (stated line) a.0 a.1 in
    let told : true_line earlier (unplaced a.0.0 b.0) a.0.1 ≡ Ok new = at-ok number (true_line earlier (unplaced a.0.0 b.0) a.0.1) new b.2 in
    let h : PlainHunk = unplaced a.0.0 b.0 in
    let w = line-ok h a.0.1 (new_start earlier h) new told in
    record {
      opens = subst (λ l. is_opening l ≡ true) w.1 (written-opens h.old_start w.0 (counts_of b.0) a.0.1);
      counts = subst (λ l. Spells l (body_of rest)) w.1 (written-counts h.old_start w.0 (counts_of b.0) (body_of rest) a.0.1 (ap counts_of sound.0) (body-spelled (number + 1) rest sound.1));
      whole = λ is. subst IsLine w.1 (written-line h.old_start w.0 (counts_of b.0) a.0.1 (said-line line a.0 is said));
    }

-- ---- line by line

-- a line is kept, or a range line was written with the counts of the body behind it
abbrev IsLineOf : List ℕ → List ℕ → List (List ℕ) → Type 0
IsLineOf line new body = ((is_opening line ≡ false) × (line ≡ new)) ⊎ ((is_opening line ≡ true) × IsTrue line new body)

abbrev AreLinesOf : List (List ℕ) → List (List ℕ) → Type 0
AreLinesOf [] [] = Unit {0}
AreLinesOf [] (new ∷ news) = ⊥
AreLinesOf (line ∷ rest) [] = ⊥
AreLinesOf (line ∷ rest) (new ∷ news) = IsLineOf line new (body_of rest) × AreLinesOf rest news

front-of : (line new : List ℕ) (rest news : List (List ℕ)) (others : Result (List (List ℕ)) Fault) → in_front new others ≡ Ok news → (more : List (List ℕ)) × (others ≡ Ok more) × (new ∷ more ≡ news)
front-of line new rest news (Ok more) e = (more, refl, cc)
front-of line new rest news (Err f) e = absurd cc

all-lines : (number : ℕ) (earlier : Left) (in_body : Bool) (ls news : List (List ℕ)) → recounting number earlier in_body ls ≡ Ok news → AreLinesOf ls news
unfolding recounting
all-lines number earlier in_body [] [] e = tt
all-lines number earlier in_body [] (new ∷ news) e = absurd cc
all-lines number earlier in_body (line ∷ rest) news e =
    elim (chosen (is_opening line) _ _ (Ok news) e) [
      | inl opens ↦ (
          let a = bind_ok (recounted_line number earlier line (body_of rest)) _ news opens.1 in
          let f = front-of line a.0 rest news _ a.2 in
          subst (AreLinesOf (line ∷ rest)) f.2 (inr (opens.0, line-true number earlier line rest a.0 a.1), all-lines (number + 1) (with_body earlier (counts_of (marked_lines (body_of rest)))) true rest f.0 f.1))
      | inr other ↦ (
          let f = front-of line line rest news _ other.1 in
          subst (AreLinesOf (line ∷ rest)) f.2 (inl (other.0, refl), all-lines (number + 1) (behind_line earlier (in_body && not (ends_body line rest)) line) (in_body && not (ends_body line rest)) rest f.0 f.1))
    ]

-- ---- the laws

kept-line : (line new : List ℕ) (body rest news : List (List ℕ)) → IsLineOf line new body → news ≡ rest → cond (is_other new) (new ∷ news) news ≡ cond (is_other line) (line ∷ rest) rest
kept-line line new body rest news (inl same) e = rw (sym same.1, e) refl
kept-line line new body rest news (inr true_one) e = rw (true_one.0, true_one.1.opens, e) refl

kept : (ls news : List (List ℕ)) → AreLinesOf ls news → filter is_other news ≡ filter is_other ls
kept [] [] h = refl
kept [] (new ∷ news) h = absurd h
kept (line ∷ rest) [] h = absurd h
kept (line ∷ rest) (new ∷ news) h = kept-line line new (body_of rest) (filter is_other rest) (filter is_other news) h.0 (kept rest news h.1)

place : (line new : List ℕ) (body : List (List ℕ)) → IsLineOf line new body → is_opening new ≡ is_opening line
place line new body (inl same) = ap is_opening (sym same.1)
place line new body (inr true_one) = true_one.1.opens ∙ sym true_one.0

cons-same : {A : Type 0} (x y : A) (xs ys : List A) → x ≡ y → xs ≡ ys → x ∷ xs ≡ y ∷ ys
cons-same x y xs ys e f = cc

places : (ls news : List (List ℕ)) → AreLinesOf ls news → map is_opening news ≡ map is_opening ls
places [] [] h = refl
places [] (new ∷ news) h = absurd h
places (line ∷ rest) [] h = absurd h
places (line ∷ rest) (new ∷ news) h = cons-same _ _ _ _ (place line new (body_of rest) h.0) (places rest news h.1)

whole : (ls news : List (List ℕ)) → AreLinesOf ls news → AllByRecursion IsLine ls → AllByRecursion IsLine news
whole [] [] h all = tt
whole [] (new ∷ news) h all = absurd h
whole (line ∷ rest) [] h all = absurd h
whole (line ∷ rest) (new ∷ news) h all = (one h.0, whole rest news h.1 all.1)
  where
    one : IsLineOf line new (body_of rest) → IsLine new
    one (inl same) = subst IsLine same.1 all.0
    one (inr true_one) = true_one.1.whole all.0

-- ---- bodies stay

at-first : (rest : List ℕ) → begins (codes "+++ ") (64 ∷ rest) ≡ false
unfolding after
at-first rest = refl

opens-no-header : (line : List ℕ) → is_opening line ≡ true → begins (codes "+++ ") line ≡ false
opens-no-header line opens =
    let words = opening-words line in
    let w = words.0 opens in
    ap (begins (codes "+++ ")) w.2 ∙ at-first (64 ∷ 32 ∷ 45 ∷ w.0 ∷ w.1)

plus-same : (line new : List ℕ) (body : List (List ℕ)) → IsLineOf line new body → begins (codes "+++ ") new ≡ begins (codes "+++ ") line
plus-same line new body (inl same) = ap (begins (codes "+++ ")) (sym same.1)
plus-same line new body (inr true_one) = opens-no-header new true_one.1.opens ∙ sym (opens-no-header line true_one.0)

header-same : (line : List ℕ) (rest news : List (List ℕ)) → AreLinesOf rest news → begins_header line news ≡ begins_header line rest
header-same line [] [] h = refl
header-same line [] (new ∷ news) h = absurd h
header-same line (next ∷ rest) [] h = absurd h
header-same line (next ∷ rest) (new ∷ news) h = ap (λ v. begins (codes "--- ") line && v) (plus-same next new (body_of rest) h.0)

opening-ends : (line : List ℕ) (rest : List (List ℕ)) → is_opening line ≡ true → ends_body line rest ≡ true
unfolding ends_body
opening-ends line rest opens = rw opens refl

ends-same : (line new : List ℕ) (rest news : List (List ℕ)) → IsLineOf line new (body_of rest) → AreLinesOf rest news → ends_body new news ≡ ends_body line rest
unfolding ends_body
ends-same line new rest news (inl same) h = rw (sym same.1, header-same line rest news h) refl
ends-same line new rest news (inr true_one) h = opening-ends new news true_one.1.opens ∙ sym (opening-ends line rest true_one.0)

bodies : (ls news : List (List ℕ)) → AreLinesOf ls news → body_of news ≡ body_of ls
bodies [] [] h = refl
bodies [] (new ∷ news) h = absurd h
bodies (line ∷ rest) [] h = absurd h
bodies (line ∷ rest) (new ∷ news) h = by (ends_body line rest) refl h.0 (bodies rest news h.1)
  where
    by : (v : Bool) → ends_body line rest ≡ v → IsLineOf line new (body_of rest) → body_of news ≡ body_of rest → body_of (new ∷ news) ≡ body_of (line ∷ rest)
    by true e is more = body_ends (new ∷ news) new news refl (ends-same line new rest news is h.1 ∙ e) ∙ sym (body_ends (line ∷ rest) line rest refl e)
    by false e (inl same) more = body_more (new ∷ news) new news refl (ends-same line new rest news (inl same) h.1 ∙ e) ∙ cons-same _ _ _ _ (sym same.1) more ∙ sym (body_more (line ∷ rest) line rest refl e)
    by false e (inr true_one) more = absurd (let no : ends_body line rest ≡ true = opening-ends line rest true_one.0 in cc)

true-counts : (ls news : List (List ℕ)) → AreLinesOf ls news → AreTrue news
true-counts [] [] h = tt
true-counts [] (new ∷ news) h = absurd h
true-counts (line ∷ rest) [] h = absurd h
true-counts (line ∷ rest) (new ∷ news) h = (one h.0, true-counts rest news h.1)
  where
    one : IsLineOf line new (body_of rest) → is_opening new ≡ true → Spells new (body_of news)
    one (inl same) opens = absurd (let no : is_opening new ≡ false = ap is_opening (sym same.1) ∙ same.0 in cc)
    one (inr true_one) opens = subst (Spells new) (sym (bodies rest news h.1)) true_one.1.counts

-- ---- texts

-- what stands between the lines of two texts, the second of them with true counts
pub record IsTrueText (text new : List ℕ) : Type 0 where
  pub kept : filter is_other (lines new) ≡ filter is_other (lines text)
  pub places : map is_opening (lines new) ≡ map is_opening (lines text)
  pub counts : AreTrue (lines new)
  pub complete : IsComplete new

true-text : (text new : List ℕ) → IsComplete text → recounted_lines (lines text) ≡ Ok new → IsTrueText text new
true-text text new all e =
    let a = bind_ok (recounting 1 none false (lines text)) _ new e in
    let pairs = all-lines 1 none false (lines text) a.0 a.1 in
    let lines_whole = whole (lines text) a.0 pairs (all-whole (lines text) (lines-pieces text) all) in
    let bytes : bytes_of a.0 ≡ new = let is = a.2 in cc in
    let same : a.0 ≡ lines new = sym (pieces-only a.0 (whole-pieces a.0 lines_whole)) ∙ ap lines bytes in
    record {
      kept = subst (λ ls. filter is_other ls ≡ filter is_other (lines text)) same (kept (lines text) a.0 pairs);
      places = subst (λ ls. map is_opening ls ≡ map is_opening (lines text)) same (places (lines text) a.0 pairs);
      counts = subst AreTrue same (true-counts (lines text) a.0 pairs);
      complete = subst (λ ls. ends_open ls ≡ false) same (whole-ends a.0 lines_whole);
    }

pub recounted-true : {X : Type 0} (view : X → List ℕ) (P : List ℕ → Type 0) (result : Result X FormFault) (text : List ℕ) → Gives view result (recounted text) → ((new : List ℕ) → IsTrueText (completed text) new → P new) → IfOk result (λ x. P (view x))
recounted-true view P (Ok x) text e f = f (view x) (true-text (completed text) (view x) (completed-complete text) e)
recounted-true view P (Err wrong) text e f = tt
