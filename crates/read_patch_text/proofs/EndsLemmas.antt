-- The pieces of hunks end in front of the lines that begin a piece.
use Rattle.std.proofs.Common.{◌≡◌, ◌≢◌, ℕ, ◌+◌, ◌<◌, ◌≤◌, Bool, true, false, cond, eqb, List, [], ◌∷◌, ◌++◌, length, drop, map, slice_range, Option, None, Some, refl, sym, ap, ◌∙◌, append_assoc, arith, inl, inr, length-drop}
use Rattle.std.specs.Prelude.{is_some, sum_by}
use Rattle.std.specs.List.{AllByRecursion}
use Rattle.std.proofs.lemmas.Bool.{eqb-true}
use Rattle.std.proofs.lemmas.List.Sums.{sum_by-append, sum_by-cons}
use Rattle.line_list.specs.declared.Span.{Span}
use Rattle.line_list.specs.Lines.{lines}
use Rattle.hunk_core.specs.declared.Form.{Form}
use Rattle.hunk_core.specs.declared.Form.TheVariants.{Unified, Context, Normal, Ed}
use Rattle.hunk_core.specs.declared.Mark.{Mark}
use Rattle.hunk_core.specs.declared.Mark.TheVariants as its
use Rattle.hunk_core.specs.declared.Side.{Side}
use Rattle.hunk_core.specs.declared.Side.TheVariants.{Forward, Reversed}
use Rattle.hunk_core.specs.LineTests.{after, is_backslash}
use Rattle.hunk_core.specs.PlainHunk.{Marked, PlainHunk, bytes_at, hunks_of}
use Rattle.hunk_core.specs.declared.hunks.Hunks as read
use Rattle.hunk_core.specs.Pieces.{AreInTurn, AreSound, AreWhole, SpellInTurn}
use Rattle.hunk_core.proofs.PieceLemmas.{piece-lines}
use Rattle.hunk_core.specs.declared.command.Action.{Action}
use Rattle.hunk_core.specs.declared.command.Action.TheVariants as actions
use Rattle.unified_form.specs.Ranges.{is_opening}
use Rattle.unified_form.specs.Grammar as unified
use Rattle.unified_form.proofs.Pieces as unified_pieces
use Rattle.context_form.specs.Openings.{is_stars}
use Rattle.context_form.specs.Grammar as context
use Rattle.context_form.specs.Merging.{part_of}
use Rattle.context_form.specs.Ranges.{before_range, behind_range}
use Rattle.num_text.specs.NumberRanges.{range_at}
use Rattle.normal_form.specs.Commands.{is_command, parts_at}
use Rattle.normal_form.specs.Stretches.{marks, ends_divider, is_divider}
use Rattle.normal_form.specs.Grammar as normal
use Rattle.normal_form.proofs.Pieces as normal_pieces
use Rattle.hunk_core.proofs.TextLemmas.{slice-length}
use Rattle.read_patch_text.specs.Regions.{begins_piece, ends_from, piece_ends}
use Rattle.read_file_patch.specs.PlainPatch.{hunks}
use Rattle.read_patch_text.specs.Texts.{IsPiece}
use Rattle.read_patch_text.specs.Changes.{Spells, IsChange, hunks_read}
use Rattle.read_patch_text.proofs.ChangeLemmas.{hunks-change, lines-sum, turn-count}
use Rattle.patch_header.proofs.Fronts.{and_left}

-- ---- lines that begin no piece

-- a line behind which something stands begins with the first byte of that
after-first : (p : ℕ) (prefix line : List ℕ) → is_some (after (p ∷ prefix) line) ≡ true → (bytes : List ℕ) × (line ≡ p ∷ bytes)
unfolding after
after-first p prefix [] e = absurd cc
after-first p prefix (b ∷ bytes) e = by (eqb b p) refl e
  where
    by : (v : Bool) → eqb b p ≡ v → is_some (cond v (after prefix bytes) None) ≡ true → (more : List ℕ) × (b ∷ bytes ≡ p ∷ more)
    by true at is = (bytes, ap (λ k. k ∷ bytes) (eqb-true b p at))
    by false at is = absurd cc

abbrev IsQuiet : Form → List ℕ → Type 0
IsQuiet form line = begins_piece form line ≡ false

abbrev AreQuiet : Form → List (List ℕ) → Type 0
AreQuiet form ls = AllByRecursion (IsQuiet form) ls

both-quiet : (form : Form) (xs ys : List (List ℕ)) → AreQuiet form xs → AreQuiet form ys → AreQuiet form (xs ++ ys)
both-quiet form [] ys h k = k
both-quiet form (x ∷ xs) ys h k = (h.0, both-quiet form xs ys h.1 k)

-- the first line begins a piece, and no other does
abbrev pub IsOnePiece : Form → List (List ℕ) → Type 0
IsOnePiece form [] = ⊥
IsOnePiece form (line ∷ rest) = (begins_piece form line ≡ true) × AreQuiet form rest

-- ---- the unified form

unified-mark : (m : Mark) (bytes : List ℕ) → is_opening (unified.mark_byte m ∷ bytes) ≡ false
unfolding is_opening after
unified-mark its.Keep bytes = refl
unified-mark its.Drop bytes = refl
unified-mark its.Add bytes = refl

unified-feed : (bytes : List ℕ) → is_opening (10 ∷ bytes) ≡ false
unfolding is_opening after
unified-feed bytes = refl

unified-tab : (bytes : List ℕ) → is_opening (9 ∷ bytes) ≡ false
unfolding is_opening after
unified-tab bytes = refl

unified-slash : (line : List ℕ) → is_backslash line ≡ true → is_opening line ≡ false
unfolding is_opening after
unified-slash line h = let at = after-first 92 (32 ∷ []) line h in rw at.1 refl

unified-lost : (line : List ℕ) → unified.LostBlank line → is_opening line ≡ false
unified-lost [] h = absurd h
unified-lost (b ∷ bytes) (inl feed) = rw feed (unified-feed bytes)
unified-lost (b ∷ bytes) (inr tab) = rw tab (unified-tab bytes)

unified-shown : (line : List ℕ) (m : Marked) → unified.Shows line m → is_opening line ≡ false
unified-shown line m (inl e) = rw e (unified-mark m.mark m.line)
unified-shown line m (inr h) = unified-lost line h.0

unified-line : (own : List (List ℕ)) (m : Marked) (body : List Marked) → unified.SpellsLine own m body → AreQuiet Unified own
unified-line [] m body h = absurd h
unified-line (line ∷ []) m body h = (unified-shown line m h, tt)
unified-line (line ∷ mark ∷ []) m body h = (unified-shown line h.2 h.3, (unified-slash mark h.0, tt))
unified-line (line ∷ mark ∷ other ∷ more) m body h = absurd h

unified-body : (piece : List (List ℕ)) (body : List Marked) → unified.SpellsBody piece body → AreQuiet Unified piece
unified-body piece [] h = rw h tt
unified-body piece (m ∷ body) h = rw h.2 (both-quiet Unified h.0 h.1 (unified-line h.0 m body h.3) (unified-body h.1 body h.4))

unified-piece : (least : ℕ) (own : List (List ℕ)) (h : PlainHunk) → unified.SpellsHunk least own h → IsOnePiece Unified own
unified-piece least [] h s = absurd s
unified-piece least (line ∷ rest) h s = (unified_pieces.hunk_opens least (line ∷ rest) [] h s, unified-body rest h.body s.2)

-- ---- the context form

context-mark : (changed : Bool) (m : Mark) (bytes : List ℕ) → is_stars (context.mark_byte changed m ∷ bytes) ≡ false
unfolding after
context-mark true its.Keep bytes = refl
context-mark false its.Keep bytes = refl
context-mark true its.Drop bytes = refl
context-mark false its.Drop bytes = refl
context-mark true its.Add bytes = refl
context-mark false its.Add bytes = refl

context-slash : (line : List ℕ) → is_backslash line ≡ true → is_stars line ≡ false
unfolding after
context-slash line h = let at = after-first 92 (32 ∷ []) line h in rw at.1 refl

context-before : (side : Side) (bytes : List ℕ) → is_stars (before_range side ++ bytes) ≡ false
unfolding after
context-before Forward bytes = refl
context-before Reversed bytes = refl

context-range : (side : Side) (line : List ℕ) (single : Bool) (start count : ℕ) → context.SpellsRange side line single start count → is_stars line ≡ false
context-range side line single start count s = rw s.parts (context-before side (s.text ++ (behind_range side ++ s.rest)))

context-empty : (line : List ℕ) → context.IsEmptyLine line → is_stars line ≡ false
unfolding after
context-empty [] h = absurd h
context-empty (b ∷ bytes) h = rw h refl

context-shown : (line : List ℕ) (m : Marked) → context.Shows line m → is_stars line ≡ false
context-shown line m (inl h) = rw h.2 (context-mark h.0 m.mark h.1)
context-shown line m (inr h) = context-empty line h.0

context-line : (own : List (List ℕ)) (m : Marked) (others : List Marked) → context.SpellsLine own m others → AreQuiet Context own
context-line [] m others h = absurd h
context-line (line ∷ []) m others h = (context-shown line m h, tt)
context-line (line ∷ mark ∷ []) m others h = (context-shown line h.2 h.3, (context-slash mark h.0, tt))
context-line (line ∷ mark ∷ other ∷ more) m others h = absurd h

context-part : (piece : List (List ℕ)) (part : List Marked) → context.SpellsPart piece part → AreQuiet Context piece
context-part piece [] h = rw h tt
context-part piece (m ∷ part) h = rw h.2 (both-quiet Context h.0 h.1 (context-line h.0 m part h.3) (context-part h.1 part h.4))

context-side : (side : Side) (piece partner : List (List ℕ)) (body : List Marked) → context.SpellsSide side piece partner body → AreQuiet Context piece
context-side side [] partner body h = tt
context-side side (line ∷ piece) partner body h = context-part (line ∷ piece) (part_of side body) h

context-piece : (least : ℕ) (own : List (List ℕ)) (h : PlainHunk) → context.SpellsPiece least own h → IsOnePiece Context own
context-piece least own h s =
    let new-part : AreQuiet Context (s.new_line ∷ s.new) = (context-range Reversed s.new_line s.new_single h.new_start (length (part_of Reversed h.body)) s.new_range, context-side Reversed s.new s.old h.body s.new_part) in
    let behind : AreQuiet Context (s.old ++ s.new_line ∷ s.new) = both-quiet Context s.old (s.new_line ∷ s.new) (context-side Forward s.old s.new h.body s.old_part) new-part in
    rw s.parts (s.asterisks, (context-range Forward s.old_line s.old_single h.old_start (length (part_of Forward h.body)) s.old_range, behind))

-- ---- the normal form

normal-mark : (side : Side) (bytes : List ℕ) → is_command (marks side ++ bytes) ≡ false
unfolding parts_at range_at
normal-mark Forward bytes = refl
normal-mark Reversed bytes = refl

normal-slash : (line : List ℕ) → is_backslash line ≡ true → is_command line ≡ false
unfolding parts_at range_at
normal-slash line h = let at = after-first 92 (32 ∷ []) line h in rw at.1 refl

some-divider : (o : Option (List ℕ)) → ends_divider o ≡ true → is_some o ≡ true
some-divider None e = absurd cc
some-divider (Some rest) e = refl

divider-first : (line : List ℕ) → is_divider line ≡ true → (bytes : List ℕ) × (line ≡ 45 ∷ bytes)
divider-first line h = after-first 45 (45 ∷ 45 ∷ []) line (some-divider (after (45 ∷ 45 ∷ 45 ∷ []) line) h)

normal-divider : (line : List ℕ) → is_divider line ≡ true → is_command line ≡ false
unfolding parts_at range_at
normal-divider line h = let at = divider-first line h in rw at.1 refl

normal-shown : (side : Side) (line bytes : List ℕ) → line ≡ marks side ++ bytes → is_command line ≡ false
normal-shown side line bytes e = rw e (normal-mark side bytes)

normal-line : (side : Side) (own : List (List ℕ)) (l : List ℕ) (others : List (List ℕ)) → normal.SpellsLine side own l others → AreQuiet Normal own
normal-line side [] l others h = absurd h
normal-line side (line ∷ []) l others h = (normal-shown side line l h, tt)
normal-line side (line ∷ mark ∷ []) l others h = (normal-shown side line h.2 h.3, (normal-slash mark h.0, tt))
normal-line side (line ∷ mark ∷ other ∷ more) l others h = absurd h

normal-stretch : (side : Side) (piece ls : List (List ℕ)) → normal.SpellsStretch side piece ls → AreQuiet Normal piece
normal-stretch side piece [] h = rw h tt
normal-stretch side piece (l ∷ ls) h = rw h.2 (both-quiet Normal h.0 h.1 (normal-line side h.0 l ls h.3) (normal-stretch side h.1 ls h.4))

normal-body : (action : Action) (piece olds news : List (List ℕ)) → normal.SpellsBody action piece olds news → AreQuiet Normal piece
normal-body actions.Add piece olds news h = normal-stretch Reversed piece news h.1
normal-body actions.Change piece olds news h = rw h.3 (both-quiet Normal h.0 (h.1 ∷ h.2) (normal-stretch Forward h.0 olds h.4) (normal-divider h.1 h.5, normal-stretch Reversed h.2 news h.6))
normal-body actions.Delete piece olds news h = normal-stretch Forward piece olds h.0

normal-piece : (least : ℕ) (own : List (List ℕ)) (h : PlainHunk) → normal.SpellsHunk least own h → IsOnePiece Normal own
normal-piece least [] h s = absurd s
normal-piece least (line ∷ rest) h s = (and_left _ _ (normal_pieces.hunk_opens least (line ∷ rest) [] h s), normal-body s.0 rest s.1 s.2 s.6)

-- ---- spans

one-piece : (form : Form) (least : ℕ) (own : List (List ℕ)) (h : PlainHunk) → Spells form least own h → IsOnePiece form own
one-piece Unified least own h s = unified-piece least own h s
one-piece Context least own h s = context-piece least own h s
one-piece Normal least own h s = normal-piece least own h s
one-piece Ed least own h s = absurd s

-- the lines of each span are one piece
abbrev ArePieces : Form → List ℕ → List Span → Type 0
ArePieces form text [] = Unit {0}
ArePieces form text (s ∷ ss) = IsOnePiece form (lines (bytes_at text s)) × ArePieces form text ss

are-pieces : (form : Form) (text : List ℕ) (least : ℕ) (ss : List Span) (hs : List PlainHunk) → SpellInTurn (Spells form) text least ss hs → ArePieces form text ss
are-pieces form text least [] [] h = tt
are-pieces form text least [] (x ∷ hs) h = absurd h
are-pieces form text least (s ∷ ss) [] h = absurd h
are-pieces form text least (s ∷ ss) (x ∷ hs) h = (one-piece form least (lines (bytes_at text s)) x h.0, are-pieces form text x.old_start ss hs h.1)

-- the lines of all spans
abbrev lines_in : List ℕ → List Span → List (List ℕ)
lines_in text [] = []
lines_in text (s ∷ ss) = lines (bytes_at text s) ++ lines_in text ss

in-turn-lines : (text : List ℕ) (at : ℕ) (ss : List Span) (end : ℕ) → AreInTurn at ss end → AreWhole text ss → lines (drop at text) ≡ lines_in text ss ++ lines (drop end text)
in-turn-lines text at [] end turn whole = ap (λ k. lines (drop k text)) turn
in-turn-lines text at (s ∷ ss) end turn whole =
    ap (λ k. lines (drop k text)) (sym turn.0) ∙ whole.0
    ∙ ap (λ ls. lines (bytes_at text s) ++ ls) (in-turn-lines text s.end ss end turn.2 whole.1)
    ∙ sym (append_assoc (lines (bytes_at text s)) (lines_in text ss) (lines (drop end text)))

ends-nil : (form : Form) (at : ℕ) → ends_from form at [] ≡ at ∷ []
unfolding ends_from
ends-nil form at = refl

ends-cut : (form : Form) (at : ℕ) (line : List ℕ) (rest : List (List ℕ)) → begins_piece form line ≡ true → ends_from form at (line ∷ rest) ≡ at ∷ ends_from form (at + length line) rest
unfolding ends_from
ends-cut form at line rest e = rw e refl

ends-pass : (form : Form) (at : ℕ) (line : List ℕ) (rest : List (List ℕ)) → IsQuiet form line → ends_from form at (line ∷ rest) ≡ ends_from form (at + length line) rest
unfolding ends_from
ends-pass form at line rest e = rw e refl

passed : (form : Form) (at : ℕ) (ls more : List (List ℕ)) → AreQuiet form ls → ends_from form at (ls ++ more) ≡ ends_from form (at + sum_by length ls) more
passed form at [] more quiet = let same : at ≡ at + 0 = omega arith in ap (λ k. ends_from form k more) same
passed form at (l ∷ ls) more quiet =
    let same : (at + length l) + sum_by length ls ≡ at + sum_by length (l ∷ ls) = omega (arith, sum_by-cons length l ls) in
    ends-pass form at l (ls ++ more) quiet.0 ∙ passed form (at + length l) ls more quiet.1 ∙ ap (λ k. ends_from form k more) same

-- a span is as long as its lines
span-width : (text : List ℕ) (s : Span) → s.start < s.end → s.end ≤ length text → lines (drop s.start text) ≡ lines (bytes_at text s) ++ lines (drop s.end text) → s.start + sum_by length (lines (bytes_at text s)) ≡ s.end
span-width text s some high e =
    let all = ap (sum_by length) e ∙ sum_by-append length (lines (bytes_at text s)) (lines (drop s.end text)) in
    omega (arith, all, some, high, lines-sum (drop s.start text), lines-sum (drop s.end text), length-drop s.start text, length-drop s.end text)

-- one piece, and what stands behind it
one-end : (form : Form) (at end : ℕ) (own more : List (List ℕ)) → IsOnePiece form own → at + sum_by length own ≡ end → ends_from form at (own ++ more) ≡ at ∷ ends_from form end more
one-end form at end [] more is width = absurd is
one-end form at end (line ∷ rest) more is width =
    let same : (at + length line) + sum_by length rest ≡ end = omega (arith, width, sum_by-cons length line rest) in
    ends-cut form at line (rest ++ more) is.0 ∙ ap (λ es. at ∷ es) (passed form (at + length line) rest more is.1 ∙ ap (λ k. ends_from form k more) same)

all-ends : (form : Form) (text : List ℕ) (at : ℕ) (ss : List Span) (end : ℕ) → AreInTurn at ss end → end ≤ length text → AreWhole text ss → ArePieces form text ss → ends_from form at (lines_in text ss) ≡ at ∷ map (λ s. s.end) ss
all-ends form text at [] end turn high whole pieces = ends-nil form at
all-ends form text at (s ∷ ss) end turn high whole pieces =
    let within : s.end ≤ length text = omega (arith, high, turn-count s.end ss end turn.2) in
    let some : s.start < s.end = omega (arith, turn.0, turn.1) in
    let width : at + sum_by length (lines (bytes_at text s)) ≡ s.end = ap (λ k. k + sum_by length (lines (bytes_at text s))) (sym turn.0) ∙ span-width text s some within whole.0 in
    one-end form at s.end (lines (bytes_at text s)) (lines_in text ss) pieces.0 width
    ∙ ap (λ es. at ∷ es) (all-ends form text s.end ss end turn.2 high whole.1 pieces.1)

same-others : (m : ℕ) (ms ns : List ℕ) → m ∷ ms ≡ m ∷ ns → ms ≡ ns
same-others m ms ns e = cc

-- the first line opens, so that the ends behind it are those of its pieces
behind-first : (form : Form) (at : ℕ) (own more : List (List ℕ)) (es : List ℕ) → IsOnePiece form own → ends_from form at (own ++ more) ≡ at ∷ es → piece_ends form at (own ++ more) ≡ es
behind-first form at [] more es is e = absurd is
behind-first form at (line ∷ rest) more es is e = same-others at (piece_ends form at (line ∷ (rest ++ more))) es (sym (ends-cut form at line (rest ++ more) is.0) ∙ e)

pub spans-end : (form : Form) (text : List ℕ) (at least : ℕ) (ss : List Span) (hs : List PlainHunk) (end : ℕ) → AreInTurn at ss end → at < end → end ≤ length text → AreWhole text ss → SpellInTurn (Spells form) text least ss hs
    → map (λ s. s.end) ss ≡ piece_ends form at (lines (slice_range text at end))
spans-end form text at least [] hs end turn some high whole spelled = absurd (omega (arith, turn, some))
spans-end form text at least (s ∷ ss) hs end turn some high whole spelled =
    let pieces = are-pieces form text least (s ∷ ss) hs spelled in
    let mine : lines (slice_range text at end) ≡ lines_in text (s ∷ ss) = piece-lines text at end (lines_in text (s ∷ ss)) (omega (arith, some)) high (in-turn-lines text at (s ∷ ss) end turn whole) in
    sym (ap (piece_ends form at) mine ∙ behind-first form at (lines (bytes_at text s)) (lines_in text ss) (map (λ x. x.end) (s ∷ ss)) pieces.0 (all-ends form text at (s ∷ ss) end turn high whole pieces))

-- ---- a script is one piece

script-ends : (at : ℕ) (ls : List (List ℕ)) → ends_from Ed at ls ≡ (at + sum_by length ls) ∷ []
script-ends at [] = let same : at ≡ at + 0 = omega arith in ends-nil Ed at ∙ ap (λ k. k ∷ []) same
script-ends at (l ∷ ls) =
    let same : (at + length l) + sum_by length ls ≡ at + sum_by length (l ∷ ls) = omega (arith, sum_by-cons length l ls) in
    ends-pass Ed at l ls refl ∙ script-ends (at + length l) ls ∙ ap (λ k. k ∷ []) same

script-end-by : (at end : ℕ) (ls : List (List ℕ)) → at + sum_by length ls ≡ end → at < end → end ∷ [] ≡ piece_ends Ed at ls
script-end-by at end [] e some = absurd (omega (arith, e, some))
script-end-by at end (l ∷ ls) e some =
    let same : (at + length l) + sum_by length ls ≡ end = omega (arith, e, sum_by-cons length l ls) in
    sym (script-ends (at + length l) ls ∙ ap (λ k. k ∷ []) same)

-- a piece is as long as its lines
piece-width : (text : List ℕ) (at end : ℕ) → at < end → end ≤ length text → at + sum_by length (lines (slice_range text at end)) ≡ end
piece-width text at end some high = omega (arith, some, high, lines-sum (slice_range text at end), slice-length text at end high)

pub script-end : (text : List ℕ) (at end : ℕ) → at < end → end ≤ length text → end ∷ [] ≡ piece_ends Ed at (lines (slice_range text at end))
script-end text at end some high = script-end-by at end (lines (slice_range text at end)) (piece-width text at end some high) some

-- ---- hunks that were read

pub hunks-are : (text : List ℕ) (form : Form) (at line : ℕ) (h : read.Hunks) (own : List (List ℕ)) → AreSound text h → AreInTurn at h.spans.items h.end → AreWhole text h.spans.items → SpellInTurn (Spells form) text 0 h.spans.items (hunks_of text h.items.items)
    → h.end ≤ length text → lines (drop at text) ≡ own ++ lines (drop h.end text) → h.next ≡ line + length own → IsPiece form line (lines (drop at text)) (hunks (hunks_of text h.items.items)) h.next (lines (drop h.end text)) → at ≢ h.end → IsChange text form at line (hunks_read h)
hunks-are text form at line h own sound turn whole pieces high parts counted is_piece some =
    let within = turn-count at h.spans.items h.end turn in
    let low : at ≤ h.end = omega (arith, within) in
    let far : at < h.end = omega (arith, low, some) in
    let ends = spans-end form text at 0 h.spans.items (hunks_of text h.items.items) h.end turn far high whole pieces in
    hunks-change text form at line h own sound turn pieces ends high parts counted is_piece some
