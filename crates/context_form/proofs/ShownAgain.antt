-- A hunk as diff writes it is read as its canonical text is.
use Rattle.std.proofs.Common.{◌≡◌, ℕ, ◌+◌, ◌^◌, ◌<◌, Bool, true, false, cond, not, ltb, ◌&&◌, ◌||◌, List, [], ◌∷◌, ◌++◌, length, map, None, refl, sym, ap, subst, ◌∙◌, append_assoc, arith}
use Rattle.std.specs.Prelude.{replicate}
use Rattle.std.specs.List.{AllByRecursion, flat_map, list_any}
use Rattle.std.proofs.lemmas.Bool.{or_parts}
use Rattle.std.proofs.lemmas.List.{length-append}
use Rattle.std.proofs.lemmas.List.Concat.{flat_map-cons, flat_map-append}
use Rattle.line_list.specs.Lines.{lines}
use Rattle.line_list.proofs.WholeLines.{AreLines, LinesFit, NoFeed, closes, line-prefix, lines-both, lines-whole}
use Rattle.hunk_core.specs.declared.Hunk.{Hunk}
use Rattle.hunk_core.specs.declared.HunkLine.{HunkLine}
use Rattle.hunk_core.specs.declared.Mark.{Mark}
use Rattle.hunk_core.specs.declared.Mark.TheVariants as its
use Rattle.hunk_core.specs.declared.Side.{Side}
use Rattle.hunk_core.specs.declared.Side.TheVariants.{Forward, Reversed}
use Rattle.hunk_core.specs.LineTests.{after, after_backslash}
use Rattle.hunk_core.specs.PlainHunk.{Marked, PlainHunk, body_of, hunk_of, marked_of, new_lines, old_lines}
use Rattle.hunk_core.specs.Rules.{HasNoInnerFeed, first_broken}
use Rattle.hunk_core.specs.Sides.{is_on_side, taken_count}
use Rattle.hunk_core.specs.Turned.{is_keep, taken_line}
use Rattle.hunk_core.proofs.LineEnds.{clean, clean-on, lines-fit}
use Rattle.hunk_core.proofs.RuleLemmas.{kept, fits-back}
use Rattle.hunk_core.proofs.SideLemmas.{lines-counted}
use Rattle.context_form.specs.Openings.{is_stars}
use Rattle.context_form.specs.Merging.{part_of}
use Rattle.context_form.specs.Presence.{begins_part, is_new}
use Rattle.context_form.specs.Grammar.{AreKept, IsPiece, SpellsHunk, SpellsPart, SpellsRange, SpellsSide, has_change, stated_as, told_by, written}
use Rattle.context_form.specs.Canonical.{SpellsFirst, drops_before, half_text, has_changed, in_order, is_changed, is_left_out, mixed, mixed_behind, opening_text, part_text, range_line_text, shown, stretch_has}
use Rattle.context_form.proofs.Sorting.{sorts}
use Rattle.context_form.proofs.JoinLemmas.{side-written}
use Rattle.context_form.proofs.Canonical.{and-false, has-both, line_lines, lines-no-change, lines_of, part-joined, part-spelled, part-whole, part_lines, range-line, range-spelled, side-spelled}
use Rattle.context_form.proofs.Again.{FullFirst, begins-new, begins-with, full-first, not-there, on-length, piece-some, some-lines, some-written, starts-back}

-- ---- what is written

any-map : {A B : Type 0} (test : B → Bool) (f : A → B) (xs : List A) → list_any (λ x. test (f x)) xs ≡ list_any test (map f xs)
any-map test f [] = refl
any-map test f (x ∷ xs) = ap (λ b. test (f x) || b) (any-map test f xs)

pub changed-of : (text : List ℕ) (side : Side) (ls : List HunkLine) → list_any (λ (l : HunkLine). is_changed side l.mark) ls ≡ has_changed side (body_of text ls)
changed-of text side ls = any-map (λ (m : Marked). is_changed side m.mark) (marked_of text) ls

pub taken-same : (body : List Marked) → map (taken_line Forward) body ≡ body
taken-same [] = refl
taken-same (m ∷ body) = ap (λ ms. m ∷ ms) (taken-same body)

pub shown-text : (text behind : List ℕ) (h : Hunk) (old new : ℕ) → old ≡ taken_count Forward h.body.items → new ≡ taken_count Reversed h.body.items
    → opening_text behind h.old_start old ++ (half_text Forward (body_of text h.body.items) ++ (range_line_text Reversed h.new_start new ++ half_text Reversed (body_of text h.body.items))) ≡ shown behind (hunk_of text h)
shown-text text behind h old new count count2 =
    let olds : old ≡ length (old_lines (body_of text h.body.items)) = count ∙ sym (lines-counted text Forward h.body.items) in
    let news : new ≡ length (new_lines (body_of text h.body.items)) = count2 ∙ sym (lines-counted text Reversed h.body.items) in
    rw (olds, news) refl

-- ---- a part without changed lines

keeps-off : (side : Side) (mark : Mark) → is_changed side mark ≡ false → is_on_side side mark ≡ true → mark ≡ its.Keep
keeps-off side its.Keep e on = refl
keeps-off Forward its.Drop e on = absurd cc
keeps-off Reversed its.Drop e on = absurd cc
keeps-off Forward its.Add e on = absurd cc
keeps-off Reversed its.Add e on = absurd cc

pub are-kept : (side : Side) (body : List Marked) → has_changed side body ≡ false → AreKept (part_of side body)
are-kept side [] e = tt
are-kept side (m ∷ body) e = by (is_on_side side m.mark) refl (are-kept side body (or_parts (is_changed side m.mark) (has_changed side body) e).1)
  where
    by : (b : Bool) → is_on_side side m.mark ≡ b → AreKept (part_of side body) → AreKept (cond b (m ∷ part_of side body) (part_of side body))
    by true on more = (keeps-off side m.mark (or_parts (is_changed side m.mark) (has_changed side body) e).0 on, more)
    by false on more = more

off : (side : Side) (mark : Mark) → is_changed side mark ≡ false → is_keep mark ≡ false → is_on_side side mark ≡ false
off side its.Keep e k = absurd cc
off Forward its.Drop e k = absurd cc
off Reversed its.Drop e k = refl
off Forward its.Add e k = refl
off Reversed its.Add e k = absurd cc

none-mixed : (side : Side) (body : List Marked) → has_changed side body ≡ false → stretch_has side body ≡ false
unfolding stretch_has
none-mixed side [] e = refl
none-mixed side (m ∷ body) e = by (is_keep m.mark) refl (λ k. none-mixed side body k)
  where
    by : (k : Bool) → is_keep m.mark ≡ k → (has_changed side body ≡ false → stretch_has side body ≡ false) → cond k false (cond (is_on_side side m.mark) true (stretch_has side body)) ≡ false
    by true is more = refl
    by false is more =
        let p = or_parts (is_changed side m.mark) (has_changed side body) e in
        rw (off side m.mark p.0 is) (more p.1)

pub not-mixed : (side : Side) (body : List Marked) → has_changed side body ≡ false → mixed body ≡ false
not-mixed side body e = and-false side body (none-mixed side body e)

behind-not : (side : Side) (m : Marked) (body : List Marked) → has_changed side body ≡ false → mixed_behind false m.mark body ≡ false
behind-not side m body e = by (is_keep m.mark)
  where
    by : (k : Bool) → cond k (mixed body) false ≡ false
    by true = not-mixed side body e
    by false = refl

none-marked : (side other : Side) (body : List Marked) → has_changed side body ≡ false → has_change (part_lines other false body) ≡ false
none-marked side other [] e = refl
none-marked side other (m ∷ body) e =
    let p = or_parts (is_changed side m.mark) (has_changed side body) e in
    has-both (cond (is_on_side other m.mark) (line_lines false m) []) (part_lines other (mixed_behind false m.mark body) body) (one (is_on_side other m.mark)) (rw (behind-not side m body p.1) (none-marked side other body p.1))
  where
    one : (v : Bool) → has_change (cond v (line_lines false m) []) ≡ false
    one true = lines-no-change m
    one false = refl

pub no-marks : (side other : Side) (body : List Marked) → has_changed side body ≡ false → has_change (part_lines other (mixed body) body) ≡ false
no-marks side other body e = rw (not-mixed side body e) (none-marked side other body e)

-- ---- a part with changed lines has lines

on-own : (side : Side) (mark : Mark) → is_changed side mark ≡ true → is_on_side side mark ≡ true
on-own side its.Keep e = absurd cc
on-own Forward its.Drop e = refl
on-own Reversed its.Drop e = absurd cc
on-own Forward its.Add e = absurd cc
on-own Reversed its.Add e = refl

changed-some : (side : Side) (body : List Marked) → has_changed side body ≡ true → 0 < length (part_of side body)
changed-some side [] e = absurd cc
changed-some side (m ∷ body) e = by (is_changed side m.mark) refl e (λ k. changed-some side body k)
  where
    more : (b : Bool) → 0 < length (part_of side body) → 0 < length (cond b (m ∷ part_of side body) (part_of side body))
    more true some = omega arith
    more false some = some

    by : (b : Bool) → is_changed side m.mark ≡ b → (b || has_changed side body) ≡ true → (has_changed side body ≡ true → 0 < length (part_of side body)) → 0 < length (cond (is_on_side side m.mark) (m ∷ part_of side body) (part_of side body))
    by true is h later = rw (on-own side m.mark is) (omega arith)
    by false is h later = more (is_on_side side m.mark) (later h)

-- ---- the lines of the text

abbrev stars_line : List ℕ → List ℕ
stars_line behind = replicate 15 42 ++ (behind ++ 10 ∷ [])

stars-are : (behind : List ℕ) → is_stars (stars_line behind) ≡ true
unfolding after
stars-are behind = refl

abbrev half_lines : Side → List Marked → List (List ℕ)
half_lines side body = cond (is_left_out side body) [] (part_lines side (mixed body) body)

half-joined : (side : Side) (body : List Marked) → flat_map (λ line. line) (half_lines side body) ≡ half_text side body
half-joined side body = by (is_left_out side body)
  where
    by : (b : Bool) → flat_map (λ line. line) (cond b [] (part_lines side (mixed body) body)) ≡ cond b [] (part_text side (mixed body) body)
    by true = refl
    by false = part-joined side (mixed body) body

half-whole : (side : Side) (body : List Marked) → LinesFit (lines_of (part_of side body)) → AreLines (half_lines side body)
half-whole side body fit = by (is_left_out side body)
  where
    by : (b : Bool) → AreLines (cond b [] (part_lines side (mixed body) body))
    by true = tt
    by false = part-whole side (mixed body) body fit

abbrev shown_lines : List ℕ → ℕ → ℕ → List Marked → List (List ℕ) → List (List ℕ) → List (List ℕ)
shown_lines behind a b body olds news = stars_line behind ∷ range_line_text Forward a (length (old_lines body)) ∷ (olds ++ range_line_text Reversed b (length (new_lines body)) ∷ news)

abbrev id_of : List ℕ → List ℕ
id_of line = line

joined-is : (behind : List ℕ) (h : PlainHunk) → flat_map id_of (shown_lines behind h.old_start h.new_start h.body (half_lines Forward h.body) (half_lines Reversed h.body)) ≡ shown behind h
joined-is behind h =
    let first = range_line_text Forward h.old_start (length (old_lines h.body)) in
    let second = range_line_text Reversed h.new_start (length (new_lines h.body)) in
    let olds = half_lines Forward h.body in
    let news = half_lines Reversed h.body in
    flat_map-cons id_of (stars_line behind) (first ∷ (olds ++ second ∷ news))
    ∙ ap (λ bs. stars_line behind ++ bs) (flat_map-cons id_of first (olds ++ second ∷ news))
    ∙ ap (λ bs. stars_line behind ++ (first ++ bs)) (flat_map-append id_of olds (second ∷ news) ∙ ap (λ bs. flat_map id_of olds ++ bs) (flat_map-cons id_of second news))
    ∙ ap (λ bs. stars_line behind ++ (first ++ (bs ++ (second ++ flat_map id_of news)))) (half-joined Forward h.body)
    ∙ ap (λ bs. stars_line behind ++ (first ++ (half_text Forward h.body ++ (second ++ bs)))) (half-joined Reversed h.body)
    ∙ opening behind first (half_text Forward h.body ++ (second ++ half_text Reversed h.body))
  where
    opening : (t first more : List ℕ) → stars_line t ++ (first ++ more) ≡ (replicate 15 42 ++ (t ++ 10 ∷ first)) ++ more
    opening t first more = sym (append_assoc (stars_line t) first more) ∙ ap (λ bs. bs ++ more) (append_assoc (replicate 15 42) (t ++ 10 ∷ []) first ∙ ap (λ bs. replicate 15 42 ++ bs) (append_assoc t (10 ∷ []) first))

pub text-lines : (behind : List ℕ) (h : PlainHunk) (rest : List ℕ) → NoFeed behind → LinesFit (lines_of (part_of Forward h.body)) → LinesFit (lines_of (part_of Reversed h.body))
    → lines (shown behind h ++ rest) ≡ shown_lines behind h.old_start h.new_start h.body (half_lines Forward h.body) (half_lines Reversed h.body) ++ lines rest
text-lines behind h rest quiet fit fit2 =
    ap (λ bs. lines (bs ++ rest)) (sym (joined-is behind h))
    ∙ lines-whole (shown_lines behind h.old_start h.new_start h.body (half_lines Forward h.body) (half_lines Reversed h.body)) rest (
      line-prefix (replicate 15 42) (behind ++ 10 ∷ []) (clean (replicate 15 42) refl) (closes behind quiet),
      (
        range-line Forward h.old_start (length (old_lines h.body)),
        lines-both (half_lines Forward h.body) (range_line_text Reversed h.new_start (length (new_lines h.body)) ∷ half_lines Reversed h.body) (half-whole Forward h.body fit) (range-line Reversed h.new_start (length (new_lines h.body)), half-whole Reversed h.body fit2),
      ),
    )

-- ---- the parts that are written

-- what both parts show of a body, whose lines are those of this one in another order
record Halves (single : Bool) (start : ℕ) (body sorted : List Marked) (olds news : List (List ℕ)) : Type 0 where
  old_part : SpellsSide Forward olds news sorted
  new_part : SpellsSide Reversed news olds sorted
  some : 0 < length (olds ++ news)
  begins : 0 < length news → is_new (stated_as single start (length (part_of Reversed sorted))) (told_by Forward olds sorted) news ≡ true

abbrev left_by : Bool → Bool → List (List ℕ) → List (List ℕ)
left_by own other piece = cond (not own && other) [] piece

halves : (single : Bool) (line : List ℕ) (start : ℕ) (body sorted : List Marked) → SpellsRange Reversed line single start (length (part_of Reversed sorted)) → 0 < length (part_of Forward body) + length (part_of Reversed body)
    → LinesFit (lines_of (part_of Forward body)) → LinesFit (lines_of (part_of Reversed body)) → part_of Forward sorted ≡ part_of Forward body → part_of Reversed sorted ≡ part_of Reversed body
    → Halves single start body sorted (half_lines Forward body) (half_lines Reversed body)
halves single line start body sorted range lines_some fit fit2 forward reversed = by (has_changed Forward body) (has_changed Reversed body) refl refl
  where
    olds : List (List ℕ)
    olds = part_lines Forward (mixed body) body

    news : List (List ℕ)
    news = part_lines Reversed (mixed body) body

    old_spelled : SpellsPart (part_lines Forward (mixed body) body) (part_of Forward body)
    old_spelled = part-spelled Forward (mixed body) body fit

    new_spelled : SpellsPart (part_lines Reversed (mixed body) body) (part_of Reversed body)
    new_spelled = part-spelled Reversed (mixed body) body fit2

    begins_with : (before : List (List ℕ)) → 0 < length (part_lines Reversed (mixed body) body) → is_new (stated_as single start (length (part_of Reversed sorted))) (told_by Forward before sorted) (part_lines Reversed (mixed body) body) ≡ true
    begins_with before has = begins-new single line start before (part_lines Reversed (mixed body) body) sorted range (subst (FullFirst (part_lines Reversed (mixed body) body)) (sym reversed) (full-first (mixed body) body has))

    both : Halves single start body sorted (part_lines Forward (mixed body) body) (part_lines Reversed (mixed body) body)
    both = record {
      old_part = side-spelled Forward body sorted fit forward;
      new_part = side-spelled Reversed body sorted fit2 reversed;
      some = some-written (part_lines Forward (mixed body) body) (part_lines Reversed (mixed body) body) (part_of Forward body) (part_of Reversed body) (part-spelled Forward (mixed body) body fit) (part-spelled Reversed (mixed body) body fit2) lines_some;
      begins = begins_with (part_lines Forward (mixed body) body);
    }

    new_alone : has_changed Forward body ≡ false → has_changed Reversed body ≡ true → Halves single start body sorted [] (part_lines Reversed (mixed body) body)
    new_alone none some =
        let there : 0 < length (part_lines Reversed (mixed body) body) = piece-some (part_lines Reversed (mixed body) body) (part_of Reversed body) (part-spelled Reversed (mixed body) body fit2) (changed-some Reversed body some) in
        record {
          old_part = (subst AreKept (sym forward) (are-kept Forward body none), no-marks Forward Reversed body none);
          new_part = side-written Reversed (part_lines Reversed (mixed body) body) [] sorted there (subst (SpellsPart (part_lines Reversed (mixed body) body)) (sym reversed) (part-spelled Reversed (mixed body) body fit2));
          some = there;
          begins = begins_with [];
        }

    old_alone : has_changed Forward body ≡ true → has_changed Reversed body ≡ false → Halves single start body sorted (part_lines Forward (mixed body) body) []
    old_alone some none =
        let there : 0 < length (part_lines Forward (mixed body) body) = piece-some (part_lines Forward (mixed body) body) (part_of Forward body) (part-spelled Forward (mixed body) body fit) (changed-some Forward body some) in
        record {
          old_part = side-written Forward (part_lines Forward (mixed body) body) [] sorted there (subst (SpellsPart (part_lines Forward (mixed body) body)) (sym forward) (part-spelled Forward (mixed body) body fit));
          new_part = (subst AreKept (sym reversed) (are-kept Reversed body none), no-marks Reversed Forward body none);
          some = omega (arith, there, length-append (part_lines Forward (mixed body) body) []);
          begins = λ has. absurd (omega (arith, has));
        }

    by : (f r : Bool) → has_changed Forward body ≡ f → has_changed Reversed body ≡ r → Halves single start body sorted (left_by (has_changed Forward body) (has_changed Reversed body) (part_lines Forward (mixed body) body)) (left_by (has_changed Reversed body) (has_changed Forward body) (part_lines Reversed (mixed body) body))
    by true true e f = rw (e, f) both
    by true false e f = rw (e, f) (old_alone e f)
    by false true e f = rw (e, f) (new_alone e f)
    by false false e f = rw (e, f) both

-- ---- the hunk

pub shown-first : (behind : List ℕ) (h : PlainHunk) (rest : List ℕ) → NoFeed behind → first_broken h ≡ None → AllByRecursion HasNoInnerFeed h.body → begins_part true (lines rest) ≡ false → after_backslash (lines rest) ≡ None → SpellsFirst (in_order h) (shown behind h) rest
shown-first behind h rest quiet unbroken cleanly stops silent =
    let k = kept h unbroken in
    let fit : LinesFit (lines_of (part_of Forward h.body)) = lines-fit (old_lines h.body) (clean-on Forward h.body cleanly) k.old_ends in
    let fit2 : LinesFit (lines_of (part_of Reversed h.body)) = lines-fit (new_lines h.body) (clean-on Reversed h.body cleanly) k.new_ends in
    let s = sorts [] h.body tt in
    let sorted = drops_before [] h.body in
    let first = range_line_text Forward h.old_start (length (old_lines h.body)) in
    let second = range_line_text Reversed h.new_start (length (new_lines h.body)) in
    let old_one : Bool = not (ltb 1 (length (old_lines h.body))) in
    let new_one : Bool = not (ltb 1 (length (new_lines h.body))) in
    let size : length (old_lines h.body) ≡ length (part_of Forward (drops_before [] h.body)) = on-length Forward h.body ∙ ap length (sym s.forward) in
    let size2 : length (new_lines h.body) ≡ length (part_of Reversed (drops_before [] h.body)) = on-length Reversed h.body ∙ ap length (sym s.reversed) in
    let range : SpellsRange Reversed second new_one h.new_start (length (part_of Reversed sorted)) = subst (λ c. SpellsRange Reversed second new_one h.new_start c) size2 (range-spelled Reversed h.new_start (length (new_lines h.body)) (starts-back h.new_start (new_lines h.body) k.new_begins)) in
    let parts = halves new_one second h.new_start h.body sorted range (some-lines h.body k.some) fit fit2 s.forward s.reversed in
    let olds = half_lines Forward h.body in
    let news = half_lines Reversed h.body in
    let spelled : SpellsHunk 0 (shown_lines behind h.old_start h.new_start h.body olds news) (lines rest) (in_order h) = record {
      stars = stars_line behind;
      old_line = first;
      old = olds;
      new_line = second;
      new = news;
      parts = refl;
      asterisks = stars-are behind;
      old_single = old_one;
      new_single = new_one;
      old_range = subst (λ c. SpellsRange Forward first old_one h.old_start c) size (range-spelled Forward h.old_start (length (old_lines h.body)) (starts-back h.old_start (old_lines h.body) k.old_begins));
      new_range = range;
      old_part = parts.old_part;
      new_part = parts.new_part;
      some = parts.some;
      drops = s.drops;
      old_fits = subst (λ c. h.old_start + c < 2 ^ 32) size (fits-back h.old_start (old_lines h.body) k.old_fits);
      new_fits = subst (λ c. h.new_start + c < 2 ^ 32) size2 (fits-back h.new_start (new_lines h.body) k.new_fits);
      order = omega arith;
      begins = parts.begins;
      told = λ e. not-there new_one h.new_start (length (part_of Reversed sorted)) (written Forward olds sorted) (lines rest) stops;
    } in
    let text = text-lines behind h rest quiet fit fit2 in
    record {
      own = shown_lines behind h.old_start h.new_start h.body olds news;
      parts = text;
      spelled = spelled;
      first = λ number next hs after piece. begins-with (in_order h) (shown_lines behind h.old_start h.new_start h.body olds news) (lines rest) number next hs after spelled silent (subst (λ ls. IsPiece number ls hs next after) text piece);
    }
