-- The canonical text of a hunk spells its parts.
use Rattle.std.proofs.Common.{◌≡◌, ◌⊎◌, ℕ, ◌+◌, ◌-◌, ◌<◌, ◌≤◌, Bool, true, false, cond, not, eqb, ltb, ◌&&◌, ◌||◌, List, [], ◌∷◌, ◌++◌, length, map, refl, sym, ap, subst, ◌∙◌, append_assoc, arith, inl, inr}
use Rattle.std.specs.Prelude.{replicate}
use Rattle.std.specs.List.{flat_map}
use Rattle.std.proofs.lemmas.Bool.{eqb-true, eqb-false, ltb-true, ltb-false, or_from}
use Rattle.std.proofs.lemmas.List.{append-nil}
use Rattle.std.proofs.lemmas.List.Concat.{flat_map-cons, flat_map-append}
use Rattle.line_list.specs.Lines.{lines, IsLine}
use Rattle.num_text.specs.Numbers.{decimal}
use Rattle.num_text.proofs.Decimal.{decimal-numeral}
use Rattle.hunk_core.specs.declared.Mark.{Mark}
use Rattle.hunk_core.specs.declared.Mark.TheVariants as its
use Rattle.hunk_core.specs.declared.Side.{Side}
use Rattle.hunk_core.specs.declared.Side.TheVariants.{Forward, Reversed}
use Rattle.hunk_core.specs.Sides.{is_on_side}
use Rattle.hunk_core.specs.PlainHunk.{Marked, PlainHunk, old_lines, new_lines}
use Rattle.hunk_core.specs.Turned.{is_keep, other_side}
use Rattle.hunk_core.specs.LineTests.{after, marked, ends_line}
use Rattle.hunk_core.specs.Spans.{span_text}
use Rattle.hunk_core.specs.Writing.{no_newline}
use Rattle.line_list.proofs.WholeLines.{NoFeed, shorter, closes, line-prefix, LinesFit, AreLines, lines-both, lines-whole}
use Rattle.hunk_core.proofs.LineEnds.{line-ends, no-end, clean, backslash, no-newline-line}
use Rattle.hunk_core.proofs.CommandLemmas.{span-clean}
use Rattle.context_form.specs.Openings.{is_stars}
use Rattle.context_form.specs.Ranges.{before_range, behind_range}
use Rattle.context_form.specs.Merging.{part_of}
use Rattle.context_form.specs.Parts.{begins_new}
use Rattle.context_form.specs.Grammar.{mark_byte, Shows, SpellsLine, SpellsPart, is_change, has_change, AreKept, SpellsSide, IsSpaced, SpellsRange}
use Rattle.context_form.specs.Canonical.{stars_text, range_line_text, line_text, stretch_has, mixed, mixed_behind, part_text, canonical}
use Rattle.context_form.proofs.JoinLemmas.{part-some, side-written, side-left-out}

abbrev pub lines_of : List Marked → List (List ℕ)
lines_of part = map (λ m. m.line) part

-- ---- the lines of the text

abbrev pub marks_of : Bool → Mark → List ℕ
marks_of changed mark = mark_byte changed mark ∷ 32 ∷ []

abbrev pub lines_by : Bool → Bool → Marked → List (List ℕ)
lines_by b changed m = cond b ((marks_of changed m.mark ++ m.line) ∷ []) ((marks_of changed m.mark ++ (m.line ++ 10 ∷ [])) ∷ no_newline ∷ [])

abbrev pub line_lines : Bool → Marked → List (List ℕ)
line_lines changed m = lines_by (ends_line m.line) changed m

abbrev pub part_lines : Side → Bool → List Marked → List (List ℕ)
part_lines side changed [] = []
part_lines side changed (m ∷ body) = cond (is_on_side side m.mark) (line_lines changed m) [] ++ part_lines side (mixed_behind changed m.mark body) body

abbrev pub hunk_lines : ℕ → ℕ → List Marked → List (List ℕ)
hunk_lines a b body = stars_text ∷ range_line_text Forward a (length (old_lines body)) ∷ (part_lines Forward (mixed body) body ++ range_line_text Reversed b (length (new_lines body)) ∷ part_lines Reversed (mixed body) body)

full-other : (changed : Bool) (mark : Mark) (line : List ℕ) → begins_new ((mark_byte changed mark ∷ 32 ∷ line) ∷ []) ≡ false
unfolding after
full-other changed its.Keep line = refl
full-other true its.Drop line = refl
full-other false its.Drop line = refl
full-other true its.Add line = refl
full-other false its.Add line = refl

full-shown : (changed : Bool) (m : Marked) → Shows (mark_byte changed m.mark ∷ 32 ∷ m.line) m
full-shown changed m = inl (changed, 32 ∷ m.line, refl, refl, full-other changed m.mark m.line)

line-spelled : (changed : Bool) (m : Marked) (others : List Marked) → IsLine m.line ⊎ (NoFeed m.line × (others ≡ [])) → SpellsLine (line_lines changed m) m others
line-spelled changed m others (inl h) = subst (λ (b : Bool). SpellsLine (lines_by b changed m) m others) (sym (line-ends m.line h)) (full-shown changed m)
line-spelled changed m others (inr h) = subst (λ (b : Bool). SpellsLine (lines_by b changed m) m others) (sym (no-end m.line h.0)) (backslash, h.1, marked m.mark (m.line ++ 10 ∷ []), full-shown changed (marked m.mark (m.line ++ 10 ∷ [])), ap (marked m.mark) (shorter m.line))

no-others : (others : List Marked) → lines_of others ≡ [] → others ≡ []
no-others [] e = refl
no-others (m ∷ ms) e = absurd cc

part-fits : (m : Marked) (others : List Marked) → IsLine m.line ⊎ (NoFeed m.line × (lines_of others ≡ [])) → IsLine m.line ⊎ (NoFeed m.line × (others ≡ []))
part-fits m others (inl h) = inl h
part-fits m others (inr h) = inr (h.0, no-others others h.1)

pub part-spelled : (side : Side) (changed : Bool) (body : List Marked) → LinesFit (lines_of (part_of side body)) → SpellsPart (part_lines side changed body) (part_of side body)
part-spelled side changed [] h = refl
part-spelled side changed (m ∷ body) h = by (is_on_side side m.mark) h (λ k. part-spelled side (mixed_behind changed m.mark body) body k)
  where
    by : (b : Bool) → LinesFit (lines_of (cond b (m ∷ part_of side body) (part_of side body))) → (LinesFit (lines_of (part_of side body)) → SpellsPart (part_lines side (mixed_behind changed m.mark body) body) (part_of side body))
        → SpellsPart (cond b (line_lines changed m) [] ++ part_lines side (mixed_behind changed m.mark body) body) (cond b (m ∷ part_of side body) (part_of side body))
    by true k more = (line_lines changed m, part_lines side (mixed_behind changed m.mark body) body, refl, line-spelled changed m (part_of side body) (part-fits m (part_of side body) k.0), more k.1)
    by false k more = more k

-- ---- a part without lines

line-no-change : (mark : Mark) (line : List ℕ) → is_change (marks_of false mark ++ line) ≡ false
unfolding after
line-no-change its.Keep line = refl
line-no-change its.Drop line = refl
line-no-change its.Add line = refl

newline-no-change : is_change no_newline ≡ false
unfolding after
newline-no-change = refl

pub lines-no-change : (m : Marked) → has_change (line_lines false m) ≡ false
lines-no-change m = by (ends_line m.line)
  where
    by : (b : Bool) → has_change (lines_by b false m) ≡ false
    by true = rw (line-no-change m.mark m.line) refl
    by false = rw (line-no-change m.mark (m.line ++ 10 ∷ []), newline-no-change) refl

pub has-both : (xs ys : List (List ℕ)) → has_change xs ≡ false → has_change ys ≡ false → has_change (xs ++ ys) ≡ false
has-both [] ys e f = f
has-both (x ∷ xs) ys e f = by (is_change x) refl e (λ k. has-both xs ys k f)
  where
    by : (b : Bool) → is_change x ≡ b → (b || has_change xs) ≡ false → (has_change xs ≡ false → has_change (xs ++ ys) ≡ false) → (is_change x || has_change (xs ++ ys)) ≡ false
    by true is h more = absurd cc
    by false is h more = or_from (is_change x) (has_change (xs ++ ys)) is (more h)

-- where the other part has no lines, no stretch is mixed
none-mixed : (side : Side) (body : List Marked) → part_of side body ≡ [] → stretch_has side body ≡ false
unfolding stretch_has
none-mixed side [] e = refl
none-mixed side (m ∷ body) e = by (is_on_side side m.mark) refl e (λ k. none-mixed side body k)
  where
    off : (s : Side) (mark : Mark) → is_on_side s mark ≡ false → is_keep mark ≡ false
    off Forward its.Keep h = absurd cc
    off Reversed its.Keep h = absurd cc
    off s its.Drop h = refl
    off s its.Add h = refl

    by : (b : Bool) → is_on_side side m.mark ≡ b → cond b (m ∷ part_of side body) (part_of side body) ≡ [] → (part_of side body ≡ [] → stretch_has side body ≡ false) → stretch_has side (m ∷ body) ≡ false
    by true is h more = absurd cc
    by false is h more = rw (off side m.mark is, is) (more h)

pub and-false : (side : Side) (body : List Marked) → stretch_has side body ≡ false → mixed body ≡ false
and-false Forward body e = rw e refl
and-false Reversed body e = by (stretch_has Forward body)
  where
    by : (b : Bool) → (b && stretch_has Reversed body) ≡ false
    by true = e
    by false = refl

none-change : (side other : Side) (body : List Marked) → part_of side body ≡ [] → has_change (part_lines other false body) ≡ false
none-change side other [] e = refl
none-change side other (m ∷ body) e = by (is_on_side side m.mark) refl e (λ k. none-change side other body k)
  where
    off : (s : Side) (mark : Mark) → is_on_side s mark ≡ false → is_keep mark ≡ false
    off Forward its.Keep h = absurd cc
    off Reversed its.Keep h = absurd cc
    off s its.Drop h = refl
    off s its.Add h = refl

    shown : (v : Bool) → has_change (cond v (line_lines false m) []) ≡ false
    shown true = lines-no-change m
    shown false = refl

    by : (b : Bool) → is_on_side side m.mark ≡ b → cond b (m ∷ part_of side body) (part_of side body) ≡ [] → (part_of side body ≡ [] → has_change (part_lines other false body) ≡ false) → has_change (part_lines other false (m ∷ body)) ≡ false
    by true is h more = absurd cc
    by false is h more = has-both (cond (is_on_side other m.mark) (line_lines false m) []) (part_lines other (mixed_behind false m.mark body) body) (shown (is_on_side other m.mark)) (rw (off side m.mark is) (more h))

no-change : (side other : Side) (body : List Marked) → part_of side body ≡ [] → has_change (part_lines other (mixed body) body) ≡ false
no-change side other body e = rw (and-false side body (none-mixed side body e)) (none-change side other body e)

-- a part is written, or has no lines
pub side-spelled : (side : Side) (body sorted : List Marked) → LinesFit (lines_of (part_of side body)) → part_of side sorted ≡ part_of side body → SpellsSide side (part_lines side (mixed body) body) (part_lines (other_side side) (mixed body) body) sorted
side-spelled side body sorted fit same = by (part_of side body) refl
  where
    own : List (List ℕ)
    own = part_lines side (mixed body) body

    spelled : SpellsPart (part_lines side (mixed body) body) (part_of side body)
    spelled = part-spelled side (mixed body) body fit

    by : (part : List Marked) → part_of side body ≡ part → SpellsSide side (part_lines side (mixed body) body) (part_lines (other_side side) (mixed body) body) sorted
    by [] e = side-left-out side (part_lines side (mixed body) body) (part_lines (other_side side) (mixed body) body) sorted (subst (SpellsPart (part_lines side (mixed body) body)) e spelled) (subst AreKept (sym (same ∙ e)) tt) (no-change side (other_side side) body e)
    by (m ∷ part) e = side-written side (part_lines side (mixed body) body) (part_lines (other_side side) (mixed body) body) sorted (part-some (part_lines side (mixed body) body) m part (subst (SpellsPart (part_lines side (mixed body) body)) e spelled)) (subst (SpellsPart (part_lines side (mixed body) body)) (sym same) spelled)

-- ---- the range lines

many-spelled : (start n : ℕ) → 1 < n → (start ≡ 0 → n ≡ 0) → 1 ≤ start
many-spelled start n many begins = by (eqb start 0) refl
  where
    by : (b : Bool) → eqb start 0 ≡ b → 1 ≤ start
    by true is = absurd (omega (arith, many, begins (eqb-true start 0 is)))
    by false is = let ne = eqb-false start 0 is in omega (arith, ne)

-- a number as it is written, and with the blank in front of the last stars or dashes
bare : (n : ℕ) → IsSpaced (decimal n) n
bare n = record { front = []; digits = decimal n; behind = []; parts = sym (append-nil (decimal n)); before = tt; numeral = decimal-numeral n; after = tt }

blank-behind : (n : ℕ) → IsSpaced (decimal n ++ 32 ∷ []) n
blank-behind n = record { front = []; digits = decimal n; behind = 32 ∷ []; parts = refl; before = tt; numeral = decimal-numeral n; after = (refl, tt) }

pub range-spelled : (side : Side) (start n : ℕ) → (start ≡ 0 → n ≡ 0) → SpellsRange side (range_line_text side start n) (not (ltb 1 n)) start n
range-spelled side start n begins = by (ltb 1 n) refl
  where
    behind-blank : (x : List ℕ) → before_range side ++ (x ++ ((32 ∷ behind_range side) ++ 10 ∷ [])) ≡ before_range side ++ ((x ++ 32 ∷ []) ++ (behind_range side ++ 10 ∷ []))
    behind-blank x = ap (λ (l : List ℕ). before_range side ++ l) (sym (append_assoc x (32 ∷ []) (behind_range side ++ 10 ∷ [])))

    by : (b : Bool) → ltb 1 n ≡ b → SpellsRange side (before_range side ++ (cond b (decimal start ++ 44 ∷ decimal (start + n - 1)) (decimal start) ++ ((32 ∷ behind_range side) ++ 10 ∷ []))) (not b) start n
    by true is =
        let many = ltb-true 1 n is in
        let some = many-spelled start n many begins in
        record {
          text = decimal start ++ 44 ∷ (decimal (start + n - 1) ++ 32 ∷ []);
          rest = 10 ∷ [];
          parts = behind-blank (decimal start ++ 44 ∷ decimal (start + n - 1)) ∙ ap (λ (x : List ℕ). before_range side ++ (x ++ (behind_range side ++ 10 ∷ []))) (append_assoc (decimal start) (44 ∷ decimal (start + n - 1)) (32 ∷ []));
          numbers = (decimal start, decimal (start + n - 1) ++ 32 ∷ [], start + n - 1, refl, bare start, blank-behind (start + n - 1), some, omega (arith, many), omega (arith, many, some));
        }
    by false is = record { text = decimal start ++ 32 ∷ []; rest = 10 ∷ []; parts = behind-blank (decimal start); numbers = (blank-behind start, omega (arith, ltb-false 1 n is), begins) }

pub stars-are : is_stars stars_text ≡ true
unfolding after
stars-are = refl

-- ---- the bytes are these lines
marks-clean : (changed : Bool) (mark : Mark) → NoFeed (marks_of changed mark)
marks-clean changed its.Keep = clean (32 ∷ 32 ∷ []) refl
marks-clean true its.Drop = clean (33 ∷ 32 ∷ []) refl
marks-clean false its.Drop = clean (45 ∷ 32 ∷ []) refl
marks-clean true its.Add = clean (33 ∷ 32 ∷ []) refl
marks-clean false its.Add = clean (43 ∷ 32 ∷ []) refl

before-clean : (side : Side) → NoFeed (before_range side)
before-clean Forward = clean (before_range Forward) refl
before-clean Reversed = clean (before_range Reversed) refl

behind-clean : (side : Side) → NoFeed (32 ∷ behind_range side)
behind-clean Forward = clean (32 ∷ behind_range Forward) refl
behind-clean Reversed = clean (32 ∷ behind_range Reversed) refl

pub range-line : (side : Side) (start n : ℕ) → IsLine (range_line_text side start n)
range-line side start n = line-prefix (before_range side) _ (before-clean side) (line-prefix (span_text start n) _ (span-clean start n) (line-prefix (32 ∷ behind_range side) (10 ∷ []) (behind-clean side) refl))

stars-line : IsLine stars_text
stars-line = line-prefix (replicate 15 42) (10 ∷ []) (clean (replicate 15 42) refl) refl

line-whole : (changed : Bool) (m : Marked) (ls : List (List ℕ)) → IsLine m.line ⊎ (NoFeed m.line × (ls ≡ [])) → AreLines (line_lines changed m)
line-whole changed m ls (inl h) = subst (λ (b : Bool). AreLines (lines_by b changed m)) (sym (line-ends m.line h)) (line-prefix (marks_of changed m.mark) m.line (marks-clean changed m.mark) h, tt)
line-whole changed m ls (inr h) = subst (λ (b : Bool). AreLines (lines_by b changed m)) (sym (no-end m.line h.0)) (line-prefix (marks_of changed m.mark) (m.line ++ 10 ∷ []) (marks-clean changed m.mark) (closes m.line h.0), (no-newline-line, tt))

pub part-whole : (side : Side) (changed : Bool) (body : List Marked) → LinesFit (lines_of (part_of side body)) → AreLines (part_lines side changed body)
part-whole side changed [] h = tt
part-whole side changed (m ∷ body) h = by (is_on_side side m.mark) h (λ k. part-whole side (mixed_behind changed m.mark body) body k)
  where
    by : (b : Bool) → LinesFit (lines_of (cond b (m ∷ part_of side body) (part_of side body))) → (LinesFit (lines_of (part_of side body)) → AreLines (part_lines side (mixed_behind changed m.mark body) body)) → AreLines (cond b (line_lines changed m) [] ++ part_lines side (mixed_behind changed m.mark body) body)
    by true k more = lines-both (line_lines changed m) (part_lines side (mixed_behind changed m.mark body) body) (line-whole changed m (lines_of (part_of side body)) k.0) (more k.1)
    by false k more = more k

line-joined : (changed : Bool) (m : Marked) → flat_map (λ line. line) (line_lines changed m) ≡ line_text changed m
line-joined changed m = by (ends_line m.line)
  where
    by : (v : Bool) → flat_map (λ line. line) (lines_by v changed m) ≡ marks_of changed m.mark ++ (m.line ++ cond v [] (10 ∷ no_newline))
    by true = flat_map-cons (λ line. line) (marks_of changed m.mark ++ m.line) [] ∙ append_assoc (marks_of changed m.mark) m.line []
    by false = flat_map-cons (λ line. line) (marks_of changed m.mark ++ (m.line ++ 10 ∷ [])) (no_newline ∷ []) ∙ append_assoc (marks_of changed m.mark) (m.line ++ 10 ∷ []) (flat_map (λ line. line) (no_newline ∷ [])) ∙ ap (λ bs. marks_of changed m.mark ++ bs) (append_assoc m.line (10 ∷ []) no_newline)

pub part-joined : (side : Side) (changed : Bool) (body : List Marked) → flat_map (λ line. line) (part_lines side changed body) ≡ part_text side changed body
unfolding part_text
part-joined side changed [] = refl
part-joined side changed (m ∷ body) =
    flat_map-append (λ line. line) (cond (is_on_side side m.mark) (line_lines changed m) []) (part_lines side (mixed_behind changed m.mark body) body)
    ∙ ap (λ bs. bs ++ flat_map (λ line. line) (part_lines side (mixed_behind changed m.mark body) body)) (by (is_on_side side m.mark))
    ∙ ap (λ bs. cond (is_on_side side m.mark) (line_text changed m) [] ++ bs) (part-joined side (mixed_behind changed m.mark body) body)
  where
    by : (b : Bool) → flat_map (λ line. line) (cond b (line_lines changed m) []) ≡ cond b (line_text changed m) []
    by true = line-joined changed m
    by false = refl

abbrev id_of : List ℕ → List ℕ
id_of line = line

joined-is : (a b : ℕ) (body : List Marked) → flat_map (λ line. line) (hunk_lines a b body) ≡ (stars_text ++ range_line_text Forward a (length (old_lines body))) ++ (part_text Forward (mixed body) body ++ (range_line_text Reversed b (length (new_lines body)) ++ part_text Reversed (mixed body) body))
joined-is a b body =
    let first = range_line_text Forward a (length (old_lines body)) in
    let second = range_line_text Reversed b (length (new_lines body)) in
    let olds = part_lines Forward (mixed body) body in
    let news = part_lines Reversed (mixed body) body in
    flat_map-cons id_of stars_text (first ∷ (olds ++ second ∷ news))
    ∙ ap (λ bs. stars_text ++ bs) (flat_map-cons id_of first (olds ++ second ∷ news))
    ∙ sym (append_assoc stars_text first (flat_map id_of (olds ++ second ∷ news)))
    ∙ ap (λ bs. (stars_text ++ first) ++ bs) (flat_map-append id_of olds (second ∷ news) ∙ ap (λ bs. flat_map id_of olds ++ bs) (flat_map-cons id_of second news))
    ∙ ap (λ bs. (stars_text ++ first) ++ (bs ++ (second ++ flat_map id_of news))) (part-joined Forward (mixed body) body)
    ∙ ap (λ bs. (stars_text ++ first) ++ (part_text Forward (mixed body) body ++ (second ++ bs))) (part-joined Reversed (mixed body) body)

pub text-lines : (h : PlainHunk) (rest : List ℕ) → LinesFit (lines_of (part_of Forward h.body)) → LinesFit (lines_of (part_of Reversed h.body)) → lines (canonical h ++ rest) ≡ hunk_lines h.old_start h.new_start h.body ++ lines rest
text-lines h rest fit fit2 =
    ap (λ bs. lines (bs ++ rest)) (sym (joined-is h.old_start h.new_start h.body))
    ∙ lines-whole (hunk_lines h.old_start h.new_start h.body) rest (stars-line, (range-line Forward h.old_start (length (old_lines h.body)), lines-both (part_lines Forward (mixed h.body) h.body) (range_line_text Reversed h.new_start (length (new_lines h.body)) ∷ part_lines Reversed (mixed h.body) h.body) (part-whole Forward (mixed h.body) h.body fit) (range-line Reversed h.new_start (length (new_lines h.body)), part-whole Reversed (mixed h.body) h.body fit2)))
