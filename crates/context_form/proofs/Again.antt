-- The canonical text of a hunk that breaks no rule is read as that hunk.
use Rattle.std.proofs.Common.{◌≡◌, ℕ, ◌+◌, ◌^◌, ◌<◌, Bool, true, false, cond, not, eqb, ltb, ◌&&◌, ◌||◌, List, [], ◌∷◌, ◌++◌, length, Option, None, Some, refl, sym, ap, subst, ◌∙◌, arith}
use Rattle.std.specs.List.{AllByRecursion}
use Rattle.std.proofs.lemmas.Bool.{eqb-true, and_parts}
use Rattle.std.proofs.lemmas.List.{length-append, length-map}
use Rattle.line_list.specs.Lines.{lines}
use Rattle.hunk_core.specs.declared.Mark.{Mark}
use Rattle.hunk_core.specs.declared.Mark.TheVariants as its
use Rattle.hunk_core.specs.declared.Side.{Side}
use Rattle.hunk_core.specs.declared.Side.TheVariants.{Forward, Reversed}
use Rattle.hunk_core.specs.PlainHunk.{Marked, PlainHunk, lines_on, old_lines, new_lines}
use Rattle.hunk_core.specs.LineTests.{after_backslash, ends_line, marked}
use Rattle.hunk_core.specs.Sides.{is_on_side}
use Rattle.hunk_core.specs.Turned.{is_keep}
use Rattle.hunk_core.specs.Writing.{no_newline}
use Rattle.hunk_core.specs.Rules.{starts_at_zero, first_broken, HasNoInnerFeed}
use Rattle.hunk_core.specs.Reading.{ahead}
use Rattle.line_list.proofs.WholeLines.{LinesFit}
use Rattle.hunk_core.proofs.Grammars.{reads_first}
use Rattle.hunk_core.proofs.RuleLemmas.{kept, fits-back}
use Rattle.hunk_core.proofs.LineEnds.{clean-on, lines-fit}
use Rattle.context_form.proofs.Sorting.{sorts}
use Rattle.context_form.specs.Parts.{mark_at}
use Rattle.context_form.specs.Merging.{kept_count, part_of}
use Rattle.context_form.specs.Openings.{begins_hunk}
use Rattle.context_form.specs.Hunks.{hunk_at}
use Rattle.context_form.specs.Presence.{may_begin, begins_part, drops_alone, is_there, begins_shown, is_needed, is_new}
use Rattle.context_form.specs.Grammar.{mark_byte, SpellsPart, SpellsRange, stated_as, written, told_by, SpellsHunk, IsPiece}
use Rattle.context_form.specs.Canonical.{stars_text, range_line_text, mixed, mixed_behind, canonical, drops_before, in_order, SpellsFirst}
use Rattle.context_form.proofs.JoinLemmas.{part-some, kept-first, kept-on}
use Rattle.context_form.proofs.PartLemmas.{mark-again}
use Rattle.context_form.proofs.Pieces.{grammar, reading_again}
use Rattle.context_form.proofs.Canonical.{lines_of, lines_by, line_lines, part_lines, hunk_lines, part-spelled, side-spelled, range-spelled, stars-are, text-lines}

-- ---- the dropped lines first
-- ---- no rule is broken
pub starts-back : (start : ℕ) (side : List (List ℕ)) → starts_at_zero start side ≡ false → start ≡ 0 → length side ≡ 0
starts-back start side e none_before = by (eqb (length side) 0) refl
  where
    by : (b : Bool) → eqb (length side) 0 ≡ b → length side ≡ 0
    by true none = eqb-true (length side) 0 none
    by false none = absurd (let bad : starts_at_zero start side ≡ true = rw (none_before, none) refl in cc)

-- ---- lines that fit
-- ---- what follows

none-begins : (may_keep : Bool) (rest : List (List ℕ)) → begins_part true rest ≡ false → begins_part may_keep rest ≡ false
none-begins may_keep [] e = refl
none-begins may_keep (line ∷ rest) e = by (mark_at Reversed line) e
  where
    by : (o : Option (Mark × Bool)) → may_begin true o ≡ false → may_begin may_keep o ≡ false
    by None h = refl
    by (Some m) h = absurd cc

pub not-there : (single : Bool) (start n : ℕ) (olds : List Marked) (rest : List (List ℕ)) → begins_part true rest ≡ false → is_there (stated_as single start n) olds rest ≡ false
not-there true start n olds rest e = by (eqb start 0) (none-begins (not (drops_alone olds)) rest e)
  where
    by : (b : Bool) → begins_part (not (drops_alone olds)) rest ≡ false → cond b false (begins_part (not (drops_alone olds)) rest) ≡ false
    by true h = refl
    by false h = h
not-there false start n olds rest e = e

-- ---- a new part that is written

-- the first of its lines, with the blank behind its mark
pub record FullFirst (news : List (List ℕ)) (part : List Marked) : Type 0 where
  m : Marked
  others : List Marked
  is : part ≡ m ∷ others
  changed : Bool
  bytes : List ℕ
  more : List (List ℕ)
  parts : news ≡ (mark_byte changed m.mark ∷ 32 ∷ bytes) ∷ more
  on : is_on_side Reversed m.mark ≡ true

first-line : (ended changed : Bool) (m : Marked) (rest : List (List ℕ)) (others : List Marked) → is_on_side Reversed m.mark ≡ true → FullFirst (lines_by ended changed m ++ rest) (m ∷ others)
first-line true changed m rest others on = record { m = m; others = others; is = refl; changed = changed; bytes = m.line; more = rest; parts = refl; on = on }
first-line false changed m rest others on = record { m = m; others = others; is = refl; changed = changed; bytes = m.line ++ 10 ∷ []; more = no_newline ∷ rest; parts = refl; on = on }

pub full-first : (changed : Bool) (body : List Marked) → 0 < length (part_lines Reversed changed body) → FullFirst (part_lines Reversed changed body) (part_of Reversed body)
full-first changed [] some = absurd (omega (arith, some))
full-first changed (m ∷ body) some = by (is_on_side Reversed m.mark) refl some (λ h. full-first (mixed_behind changed m.mark body) body h)
  where
    by : (v : Bool) → is_on_side Reversed m.mark ≡ v → 0 < length (cond v (line_lines changed m) [] ++ part_lines Reversed (mixed_behind changed m.mark body) body)
        → (0 < length (part_lines Reversed (mixed_behind changed m.mark body) body) → FullFirst (part_lines Reversed (mixed_behind changed m.mark body) body) (part_of Reversed body))
        → FullFirst (cond v (line_lines changed m) [] ++ part_lines Reversed (mixed_behind changed m.mark body) body) (cond v (m ∷ part_of Reversed body) (part_of Reversed body))
    by true is h more = first-line (ends_line m.line) changed m (part_lines Reversed (mixed_behind changed m.mark body) body) (part_of Reversed body) is
    by false is h more = more h

zero-kept : (m : Marked) (part : List Marked) → kept_count (m ∷ part) ≡ 0 → is_keep m.mark ≡ false
zero-kept m part e = by (is_keep m.mark) refl
  where
    by : (v : Bool) → is_keep m.mark ≡ v → v ≡ false
    by false is = refl
    by true is = absurd (omega (arith, e, kept-first m part is))

none-dropped : (own : List (List ℕ)) (body : List Marked) → drops_alone (written Forward own body) ≡ true → kept_count body ≡ 0
none-dropped [] body e = absurd cc
none-dropped (line ∷ own) body e = let b = and_parts _ _ e in sym (kept-on Forward body) ∙ eqb-true (kept_count (part_of Forward body)) 0 b.1

there-first : (may_keep : Bool) (news : List (List ℕ)) (part : List Marked) → FullFirst news part → (may_keep ≡ false → kept_count part ≡ 0) → begins_part may_keep news ≡ true
there-first may_keep news part f kept = ap (begins_part may_keep) f.parts ∙ ap (may_begin may_keep) (mark-again Reversed f.changed f.m.mark f.bytes f.on) ∙ by may_keep refl
  where
    by : (v : Bool) → may_keep ≡ v → (v || not (is_keep f.m.mark)) ≡ true
    by true is = refl
    by false is = ap not (zero-kept f.m f.others (sym (ap kept_count f.is) ∙ kept is))

there-part : (single : Bool) (line : List ℕ) (start n : ℕ) (olds : List Marked) (rest : List (List ℕ)) → SpellsRange Reversed line single start n → 0 < n → ((may_keep : Bool) → (may_keep ≡ false → drops_alone olds ≡ true) → begins_part may_keep rest ≡ true) → is_there (stated_as single start n) olds rest ≡ true
there-part true line start n olds rest r some there = by (eqb start 0) refl
  where
    back : (v : Bool) → not v ≡ false → v ≡ true
    back true h = refl
    back false h = absurd cc

    by : (v : Bool) → eqb start 0 ≡ v → cond v false (begins_part (not (drops_alone olds)) rest) ≡ true
    by true is = absurd (omega (arith, some, r.numbers.2 (eqb-true start 0 is)))
    by false is = there (not (drops_alone olds)) (back (drops_alone olds))
there-part false line start n olds rest r some there = there true (λ h. absurd cc)

pub begins-new : (single : Bool) (line : List ℕ) (start : ℕ) (olds news : List (List ℕ)) (sorted : List Marked) → SpellsRange Reversed line single start (length (part_of Reversed sorted)) → FullFirst news (part_of Reversed sorted)
    → is_new (stated_as single start (length (part_of Reversed sorted))) (told_by Forward olds sorted) news ≡ true
begins-new single line start olds news sorted r f =
    let st = stated_as single start (length (part_of Reversed sorted)) in
    let some : 0 < length (part_of Reversed sorted) = omega (arith, ap length f.is) in
    let there : is_there st (written Forward olds sorted) news ≡ true = there-part single line start (length (part_of Reversed sorted)) (written Forward olds sorted) news r some (λ may_keep alone. there-first may_keep news (part_of Reversed sorted) f (λ h. kept-on Reversed sorted ∙ none-dropped olds sorted (alone h))) in
    ap (λ b. b || (is_needed st (told_by Forward olds sorted) && begins_shown news)) there

-- ---- whatever is spelled begins with the hunk

pub begins-with : (h : PlainHunk) (own rest : List (List ℕ)) (number next : ℕ) (hs : List PlainHunk) (behind : List (List ℕ)) → SpellsHunk 0 own rest h → after_backslash rest ≡ None → IsPiece number (own ++ rest) hs next behind → (others : List PlainHunk) × (hs ≡ h ∷ others)
begins-with h own rest number next hs behind s quiet piece = reads_first begins_hunk hunk_at SpellsHunk grammar h own rest number (hs, ahead next behind) s quiet (reading_again number (own ++ rest) hs next behind piece)

pub on-length : (side : Side) (body : List Marked) → length (lines_on side body) ≡ length (part_of side body)
on-length side body = length-map (part_of side body) (λ (m : Marked). m.line)

pub some-lines : (body : List Marked) → eqb (length body) 0 ≡ false → 0 < length (part_of Forward body) + length (part_of Reversed body)
some-lines [] e = absurd cc
some-lines (m ∷ body) e = by m.mark
  where
    by : (k : Mark) → 0 < length (part_of Forward (marked k m.line ∷ body)) + length (part_of Reversed (marked k m.line ∷ body))
    by its.Keep = omega arith
    by its.Drop = omega arith
    by its.Add = omega arith

pub piece-some : (piece : List (List ℕ)) (part : List Marked) → SpellsPart piece part → 0 < length part → 0 < length piece
piece-some piece [] s some = absurd (omega (arith, some))
piece-some piece (m ∷ part) s some = part-some piece m part s

pub some-written : (old new : List (List ℕ)) (olds news : List Marked) → SpellsPart old olds → SpellsPart new news → 0 < length olds + length news → 0 < length (old ++ new)
some-written old new [] news s t some = let one = piece-some new news t (omega (arith, some)) in omega (arith, one, length-append old new)
some-written old new (o ∷ olds) news s t some = let one = part-some old o olds s in omega (arith, one, length-append old new)

pub spells-first : (h : PlainHunk) (rest : List ℕ) → first_broken h ≡ None → AllByRecursion HasNoInnerFeed h.body → begins_part true (lines rest) ≡ false → after_backslash (lines rest) ≡ None → SpellsFirst (in_order h) (canonical h) rest
spells-first h rest unbroken cleanly stops silent =
    let k = kept h unbroken in
    let n = on-length Forward h.body in
    let n2 = on-length Reversed h.body in
    let fit : LinesFit (lines_of (part_of Forward h.body)) = lines-fit (old_lines h.body) (clean-on Forward h.body cleanly) k.old_ends in
    let fit2 : LinesFit (lines_of (part_of Reversed h.body)) = lines-fit (new_lines h.body) (clean-on Reversed h.body cleanly) k.new_ends in
    let s = sorts [] h.body tt in
    let sorted = drops_before [] h.body in
    let olds = part_lines Forward (mixed h.body) h.body in
    let news = part_lines Reversed (mixed h.body) h.body in
    let size : length (old_lines h.body) ≡ length (part_of Forward (drops_before [] h.body)) = n ∙ ap length (sym s.forward) in
    let size2 : length (new_lines h.body) ≡ length (part_of Reversed (drops_before [] h.body)) = n2 ∙ ap length (sym s.reversed) in
    let range : SpellsRange Reversed (range_line_text Reversed h.new_start (length (new_lines h.body))) (not (ltb 1 (length (new_lines h.body)))) h.new_start (length (part_of Reversed sorted)) = subst (λ c. SpellsRange Reversed (range_line_text Reversed h.new_start (length (new_lines h.body))) (not (ltb 1 (length (new_lines h.body)))) h.new_start c) size2 (range-spelled Reversed h.new_start (length (new_lines h.body)) (starts-back h.new_start (new_lines h.body) k.new_begins)) in
    let spelled : SpellsHunk 0 (hunk_lines h.old_start h.new_start h.body) (lines rest) (in_order h) = record {
      stars = stars_text;
      old_line = range_line_text Forward h.old_start (length (old_lines h.body));
      old = olds;
      new_line = range_line_text Reversed h.new_start (length (new_lines h.body));
      new = news;
      parts = refl;
      asterisks = stars-are;
      old_single = not (ltb 1 (length (old_lines h.body)));
      new_single = not (ltb 1 (length (new_lines h.body)));
      old_range = subst (λ c. SpellsRange Forward (range_line_text Forward h.old_start (length (old_lines h.body))) (not (ltb 1 (length (old_lines h.body)))) h.old_start c) size (range-spelled Forward h.old_start (length (old_lines h.body)) (starts-back h.old_start (old_lines h.body) k.old_begins));
      new_range = range;
      old_part = side-spelled Forward h.body sorted fit s.forward;
      new_part = side-spelled Reversed h.body sorted fit2 s.reversed;
      some = some-written olds news (part_of Forward h.body) (part_of Reversed h.body) (part-spelled Forward (mixed h.body) h.body fit) (part-spelled Reversed (mixed h.body) h.body fit2) (some-lines h.body k.some);
      drops = s.drops;
      old_fits = subst (λ c. h.old_start + c < 2 ^ 32) size (fits-back h.old_start (old_lines h.body) k.old_fits);
      new_fits = subst (λ c. h.new_start + c < 2 ^ 32) size2 (fits-back h.new_start (new_lines h.body) k.new_fits);
      order = omega arith;
      begins = λ has. begins-new (not (ltb 1 (length (new_lines h.body)))) (range_line_text Reversed h.new_start (length (new_lines h.body))) h.new_start olds news sorted range (subst (FullFirst news) (sym s.reversed) (full-first (mixed h.body) h.body has));
      told = λ e. not-there (not (ltb 1 (length (new_lines h.body)))) h.new_start (length (part_of Reversed sorted)) (written Forward olds sorted) (lines rest) stops;
    } in
    let parts = text-lines h rest fit fit2 in
    record {
      own = hunk_lines h.old_start h.new_start h.body;
      parts = parts;
      spelled = spelled;
      first = λ number next hs behind piece. begins-with (in_order h) (hunk_lines h.old_start h.new_start h.body) (lines rest) number next hs behind spelled silent (subst (λ ls. IsPiece number ls hs next behind) parts piece);
    }
