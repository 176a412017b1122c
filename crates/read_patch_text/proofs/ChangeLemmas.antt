-- What a reader of a form gives, as a change.
use Rattle.std.proofs.Common.{◌≡◌, ◌≢◌, ℕ, ◌^◌, ◌+◌, ◌<◌, ◌≤◌, Bool, true, false, ◌||◌, List, [], ◌∷◌, ◌++◌, length, map, drop, slice_range, Option, refl, sym, ap, subst, ◌∙◌, arith, inl, inr, length-drop, eqb, get_or}
use Rattle.std.specs.Prelude.{sum_by}
use Rattle.std.proofs.lemmas.List.{length-map}
use Rattle.std.proofs.lemmas.List.Concat.{length-flat_map}
use Rattle.std.proofs.lemmas.List.Folds.{list_any-append}
use Rattle.std.proofs.lemmas.List.Sums.{sum_by-append, sum_by-cons}
use Rattle.line_list.specs.declared.Span.{Span}
use Rattle.line_list.specs.Lines.{lines, IsLine, ArePieces}
use Rattle.line_list.proofs.Pieces.{lines-joined, lines-pieces}
use Rattle.hunk_core.specs.declared.Form.{Form}
use Rattle.hunk_core.specs.declared.Form.TheVariants.{Unified, Context, Normal, Ed}
use Rattle.hunk_core.specs.declared.Hunk.{Hunk}
use Rattle.hunk_core.specs.declared.hunks.Hunks as read
use Rattle.hunk_core.specs.declared.Side.{Side}
use Rattle.hunk_core.specs.PlainHunk.{PlainHunk, body_of, hunk_of, hunks_of, lines_on, bytes_at}
use Rattle.hunk_core.specs.Sides.{taken_count}
use Rattle.hunk_core.proofs.SideLemmas.{lines-counted}
use Rattle.read_file_patch.specs.Absent.{is_one_empty}
use Rattle.hunk_core.specs.Pieces.{AreInTurn, SpellInTurn, AreSound}
use Rattle.hunk_core.proofs.PieceLemmas.{pieces-first}
use Rattle.ed_form.specs.PlainEdit.{edits_of, IsLawfulScript}
use Rattle.ed_form.specs.Grammar as ed
use Rattle.ed_form.specs.declared.script.EdScript.{EdScript}
use Rattle.patch_header.specs.Content.{is_dot, has_dot}
use Rattle.patch_header.specs.Openings.{begins}
use Rattle.read_file_patch.specs.declared.Change.{Change}
use Rattle.read_file_patch.specs.declared.Change.TheVariants.{Hunks, Script}
use Rattle.read_file_patch.specs.PlainPatch.{hunks, change_of, hunk_count, row_count}
use Rattle.read_patch_text.specs.Patches.{begins_change}
use Rattle.read_patch_text.specs.Regions.{piece_ends}
use Rattle.read_patch_text.specs.Texts.{IsPiece}
use Rattle.read_header_record.specs.declared.Header.{Header}
use Rattle.patch_header.proofs.Fronts.{and_left}
use Rattle.read_patch_text.specs.Changes.{Spells, IsChange, IsBareChange, IsBehind, hunks_read}
use Rattle.read_patch_text.specs.declared.change.ReadChange.{ReadChange}

-- ---- lines and their places

pub lines-sum : (bs : List ℕ) → sum_by length (lines bs) ≡ length bs
lines-sum bs = sym (length-flat_map (λ line. line) (lines bs)) ∙ ap length (lines-joined bs)

some-bytes : (line : List ℕ) → IsLine line → 1 ≤ length line
some-bytes [] h = absurd h
some-bytes (b ∷ bs) h = omega arith

few-pieces : (ls : List (List ℕ)) → ArePieces ls → length ls ≤ sum_by length ls
few-pieces [] h = omega arith
few-pieces (line ∷ []) (inl h) = omega (arith, some-bytes line h, sum_by-cons length line [])
few-pieces (line ∷ []) (inr h) = omega (arith, h.0, sum_by-cons length line [])
few-pieces (line ∷ next ∷ more) h = omega (arith, some-bytes line h.0, few-pieces (next ∷ more) h.1, sum_by-cons length line (next ∷ more))

-- no more lines than bytes lie between two places
pub few-lines : (text : List ℕ) (at end : ℕ) (own : List (List ℕ)) → at ≤ end → end ≤ length text → lines (drop at text) ≡ own ++ lines (drop end text) → length own + at ≤ end
few-lines text at end own low high e =
    let pieces : ArePieces own = pieces-first own (lines (drop end text)) (subst ArePieces e (lines-pieces (drop at text))) in
    let all : sum_by length (lines (drop at text)) ≡ sum_by length own + sum_by length (lines (drop end text)) = ap (sum_by length) e ∙ sum_by-append length own (lines (drop end text)) in
    omega (arith, few-pieces own pieces, all, lines-sum (drop at text), lines-sum (drop end text), length-drop at text, length-drop end text)

or-right : (a b : Bool) → (a || b) ≡ false → b ≡ false
or-right true b e = absurd cc
or-right false b e = e

pub no-dot-behind : (own rest all : List (List ℕ)) → all ≡ own ++ rest → has_dot all ≡ false → has_dot rest ≡ false
no-dot-behind own rest all e h = or-right (has_dot own) (has_dot rest) (sym (list_any-append is_dot own rest) ∙ ap has_dot (sym e) ∙ h)

-- ---- the spans

pub turn-count : (at : ℕ) (ss : List Span) (end : ℕ) → AreInTurn at ss end → at + length ss ≤ end
turn-count at [] end h = omega (arith, h)
turn-count at (s ∷ ss) end h = omega (arith, h.1, turn-count s.end ss end h.2)

turn-some : (at : ℕ) (ss : List Span) (end n : ℕ) → AreInTurn at ss end → at < end → length ss ≡ n → 0 < n
turn-some at [] end n h some e = absurd (omega (arith, h, some))
turn-some at (s ∷ ss) end n h some e = omega (arith, e)

pub spell-count : (S : ℕ → List (List ℕ) → PlainHunk → Type 0) (text : List ℕ) (least : ℕ) (ss : List Span) (hs : List PlainHunk) → SpellInTurn S text least ss hs → length ss ≡ length hs
spell-count S text least [] [] h = refl
spell-count S text least [] (x ∷ hs) h = absurd h
spell-count S text least (s ∷ ss) [] h = absurd h
spell-count S text least (s ∷ ss) (x ∷ hs) h = omega (arith, spell-count S text x.old_start ss hs h.1)

-- ---- a change

pub hunks-change : (text : List ℕ) (form : Form) (at line : ℕ) (h : read.Hunks) (own : List (List ℕ)) → AreSound text h → AreInTurn at h.spans.items h.end → SpellInTurn (Spells form) text 0 h.spans.items (hunks_of text h.items.items)
    → map (λ s. s.end) h.spans.items ≡ piece_ends form at (lines (slice_range text at h.end)) → h.end ≤ length text → lines (drop at text) ≡ own ++ lines (drop h.end text) → h.next ≡ line + length own → IsPiece form line (lines (drop at text)) (hunks (hunks_of text h.items.items)) h.next (lines (drop h.end text)) → at ≢ h.end → IsChange text form at line (hunks_read h)
hunks-change text form at line h own sound turn pieces ends high parts counted is_piece some =
    let within : at + length h.spans.items ≤ h.end = turn-count at h.spans.items h.end turn in
    let low : at ≤ h.end = omega (arith, within) in
    let far : at < h.end = omega (arith, low, some) in
    let each : length h.spans.items ≡ length h.items.items = spell-count (Spells form) text 0 h.spans.items (hunks_of text h.items.items) pieces ∙ length-map h.items.items (hunk_of text) in
    record {
      lawful = record { count = sound.count; few = sound.few; lawful = sound.lawful };
      turn = turn;
      each = each;
      pieces = pieces;
      spelled = is_piece;
      ends = ends;
      some = far;
      rows = turn-some at h.spans.items h.end (length h.items.items) turn far each;
      high = high;
      numbers = omega (arith, counted, few-lines text at h.end own low high parts);
      dots = no-dot-behind own (lines (drop h.end text)) (lines (drop at text)) parts;
    }

pub script-change : (text : List ℕ) (at line : ℕ) (s : EdScript) (r : ReadChange) (own : List (List ℕ)) → r.change ≡ Script s → r.spans.items ≡ s.span ∷ [] → r.end ≡ s.span.end → r.next ≡ s.next → IsLawfulScript text s → s.span.start ≡ at → at < s.span.end → s.span.end ≤ length text
    → ed.SpellsEdits (2 ^ 32) (lines (bytes_at text s.span)) (edits_of text s.edits.items) (lines (drop s.span.end text))
    → s.span.end ∷ [] ≡ piece_ends Ed at (lines (slice_range text at s.span.end))
    → lines (drop at text) ≡ own ++ lines (drop s.span.end text) → s.next ≡ line + length own → ed.IsPiece line (lines (drop at text)) (edits_of text s.edits.items) s.next (lines (drop s.span.end text)) → IsChange text Ed at line r
script-change text at line s r own change one end next lawful start some high spelled ends parts counted is_piece =
    let low : at ≤ s.span.end = omega (arith, some) in
    record {
      lawful = rw change lawful;
      turn = rw (one, end) (start, some, refl);
      each = rw (change, one) refl;
      pieces = rw (change, one) spelled;
      spelled = rw (change, end, next) is_piece;
      ends = rw (one, end) ends;
      some = rw end some;
      rows = rw change (omega arith);
      high = rw end high;
      numbers = rw (end, next) (omega (arith, counted, few-lines text at s.span.end own low high parts));
      dots = rw end (no-dot-behind own (lines (drop s.span.end text)) (lines (drop at text)) parts);
    }

-- ---- one hunk

pub one_empty : (text : List ℕ) (side : Side) (hs : List Hunk) (h : Hunk) (n : ℕ) → length hs ≡ 1 → h ≡ get_or hs 0 h → n ≡ taken_count side h.body.items → eqb n 0 ≡ is_one_empty side (hunks_of text hs)
one_empty text side [] h n e is count = absurd (omega (arith, e))
one_empty text side (x ∷ []) h n e is count =
    let counted : length (lines_on side (body_of text x.body.items)) ≡ taken_count side x.body.items = lines-counted text side x.body.items in
    rw (count, is, counted) refl
one_empty text side (x ∷ y ∷ hs) h n e is count = absurd (omega (arith, e))

-- ---- what opens it

pub opens-change : (only : Option Form) (form : Form) (rest : List (List ℕ)) → begins only form rest ≡ true → begins_change form rest ≡ true
opens-change only Unified rest e = e
opens-change only Context rest e = e
opens-change only Normal rest e = e
opens-change only Ed [] e = absurd cc
opens-change only Ed (line ∷ rest) e = and_left _ _ e

pub not-end : (text : List ℕ) (begins : List (List ℕ) → Bool) (at end : ℕ) → begins (lines (drop at text)) ≡ true → begins (lines (drop end text)) ≡ false → at ≢ end
not-end text begins at end opens ends = λ e. (let bad : true ≡ false = sym opens ∙ ap (λ p. begins (lines (drop p text))) e ∙ ends in cc)

-- ---- the hunks are counted

pub rows-counted : (text : List ℕ) (change : Change) → hunk_count (change_of text change) ≡ row_count change
rows-counted text (Hunks hs) = length-map hs.items (hunk_of text)
rows-counted text (Script s) = refl

-- behind a change there are no more hunks than bytes
pub rows-within : (text : List ℕ) (form : Form) (at line : ℕ) (r : ReadChange) → IsChange text form at line r → at + row_count r.change ≤ r.end
rows-within text form at line r h = omega (arith, h.each, turn-count at r.spans.items r.end h.turn)

-- ---- what a header opens

pub rows-behind : (text : List ℕ) (h : Header) (r : ReadChange) → IsBehind text h r → h.at + row_count r.change ≤ r.end
rows-behind text h r is = by h.bare refl
  where
    by : (b : Bool) → h.bare ≡ b → h.at + row_count r.change ≤ r.end
    by true e = let none : length r.spans.items ≡ 0 = ap length (is.cut.none e) in omega (arith, is.each, none, is.some)
    by false e = omega (arith, is.each, turn-count h.at r.spans.items r.end (is.cut.turn e))

pub differ : (b : Bool) → b ≡ true → b ≡ false → ⊥
differ b is isnt = cc

pub behind-hunks : (text : List ℕ) (h : Header) (r : ReadChange) → h.bare ≡ false → IsChange text h.form h.at h.opening r → IsBehind text h r
behind-hunks text h r none is = record {
  lawful = is.lawful;
  cut = record { turn = λ e. is.turn; none = λ e. absurd (differ h.bare e none) };
  each = is.each;
  pieces = is.pieces;
  goes = record { spelled = λ e. is.spelled; bare = λ e. absurd (differ h.bare e none) };
  ends = rw none is.ends;
  some = is.some;
  rows = λ e. is.rows;
  high = is.high;
  numbers = is.numbers;
  dots = is.dots;
}

pub behind-bare : (text : List ℕ) (h : Header) (r : ReadChange) → h.bare ≡ true → IsBareChange text h.at h.opening r → IsBehind text h r
behind-bare text h r bare is = record {
  lawful = is.lawful;
  cut = record { turn = λ e. absurd (differ h.bare bare e); none = λ e. is.spans };
  each = rw (is.spans, is.count) refl;
  pieces = rw (is.spans, is.goes.none) tt;
  goes = record { spelled = λ e. absurd (differ h.bare bare e); bare = λ e. is.goes };
  ends = rw (is.spans, bare) refl;
  some = is.some;
  rows = λ e. absurd (differ h.bare bare e);
  high = is.high;
  numbers = is.numbers;
  dots = is.dots;
}
