-- The canonical text of a hunk spells it.
use Rattle.std.proofs.Common.{◌≡◌, ◌⊎◌, ℕ, suc, ◌+◌, ◌-◌, ◌<◌, ◌≤◌, Bool, true, false, cond, eqb, ltb, List, [], ◌∷◌, ◌++◌, length, refl, sym, ap, subst, ◌∙◌, append_assoc, arith, inl, inr}
use Rattle.std.specs.List.{flat_map}
use Rattle.std.proofs.lemmas.Bool.{eqb-true, eqb-false, ltb-true, ltb-false}
use Rattle.std.proofs.lemmas.List.{append-nil}
use Rattle.std.proofs.lemmas.List.Concat.{flat_map-cons, flat_map-append}
use Rattle.line_list.specs.Lines.{lines, IsLine}
use Rattle.num_text.specs.Numbers.{decimal}
use Rattle.num_text.proofs.Decimal.{decimal-numeral}
use Rattle.hunk_core.specs.declared.Side.{Side}
use Rattle.hunk_core.specs.declared.Side.TheVariants.{Forward, Reversed}
use Rattle.hunk_core.specs.PlainHunk.{PlainHunk}
use Rattle.hunk_core.specs.LineTests.{after, ends_line}
use Rattle.hunk_core.specs.declared.command.Action.{Action}
use Rattle.hunk_core.specs.declared.command.Action.TheVariants.{Add, Change, Delete}
use Rattle.hunk_core.specs.Spans.{span_text}
use Rattle.hunk_core.specs.Writing.{no_newline}
use Rattle.line_list.proofs.Pieces.{longer}
use Rattle.line_list.proofs.WholeLines.{NoFeed, shorter, closes, line-prefix, LinesFit, AreLines, lines-both, lines-whole}
use Rattle.hunk_core.proofs.LineEnds.{line-ends, no-end, clean, backslash, no-newline-line}
use Rattle.hunk_core.proofs.TextLemmas.{some-not}
use Rattle.hunk_core.proofs.CommandLemmas.{letter-clean, span-clean}
use Rattle.normal_form.specs.Stretches.{marks, is_divider}
use Rattle.hunk_core.specs.Letters.{letter}
use Rattle.normal_form.specs.Grammar.{SpellsLine, SpellsStretch, SpellsBody, SpellsSpan, SpellsCommand, command_of}
use Rattle.normal_form.specs.Canonical.{action_for, command_text, divider_text, line_text, lines_text}

-- ---- the lines of the text

abbrev pub line_lines : Side → List ℕ → List (List ℕ)
line_lines side l = cond (ends_line l) ((marks side ++ l) ∷ []) ((marks side ++ (l ++ 10 ∷ [])) ∷ no_newline ∷ [])

abbrev pub stretch_lines : Side → List (List ℕ) → List (List ℕ)
stretch_lines side [] = []
stretch_lines side (l ∷ ls) = line_lines side l ++ stretch_lines side ls

abbrev pub divider_lines : Action → List (List ℕ)
divider_lines Add = []
divider_lines Change = (45 ∷ 45 ∷ 45 ∷ 10 ∷ []) ∷ []
divider_lines Delete = []

abbrev pub body_lines : Action → List (List ℕ) → List (List ℕ) → List (List ℕ)
body_lines action olds news = stretch_lines Forward olds ++ (divider_lines action ++ stretch_lines Reversed news)

abbrev pub hunk_lines : ℕ → ℕ → List (List ℕ) → List (List ℕ) → List (List ℕ)
hunk_lines a m olds news = command_text a (length olds) m (length news) ∷ body_lines (action_for (length olds) (length news)) olds news

abbrev lines_by : Bool → Side → List ℕ → List (List ℕ)
lines_by b side l = cond b ((marks side ++ l) ∷ []) ((marks side ++ (l ++ 10 ∷ [])) ∷ no_newline ∷ [])

line-spelled : (side : Side) (l : List ℕ) (ls : List (List ℕ)) → IsLine l ⊎ (NoFeed l × (ls ≡ [])) → SpellsLine side (line_lines side l) l ls
line-spelled side l ls (inl h) = subst (λ (b : Bool). SpellsLine side (lines_by b side l) l ls) (sym (line-ends l h)) refl
line-spelled side l ls (inr h) = subst (λ (b : Bool). SpellsLine side (lines_by b side l) l ls) (sym (no-end l h.0)) (backslash, h.1, l ++ 10 ∷ [], refl, shorter l)

stretch-spelled : (side : Side) (ls : List (List ℕ)) → LinesFit ls → SpellsStretch side (stretch_lines side ls) ls
stretch-spelled side [] h = refl
stretch-spelled side (l ∷ ls) h = (line_lines side l, stretch_lines side ls, refl, line-spelled side l ls h.0, stretch-spelled side ls h.1)

divides : is_divider (45 ∷ 45 ∷ 45 ∷ 10 ∷ []) ≡ true
unfolding after
divides = refl

pub deletes : (m : ℕ) → action_for (suc m) 0 ≡ Delete
deletes m = rw (some-not m) refl

pub changes : (m n : ℕ) → action_for (suc m) (suc n) ≡ Change
changes m n = rw (some-not m, some-not n) refl

abbrev spells_by : List (List ℕ) → List (List ℕ) → Action → Type 0
spells_by olds news action = SpellsBody action (body_lines action olds news) olds news

pub body-spelled : (olds news : List (List ℕ)) → LinesFit olds → LinesFit news → SpellsBody (action_for (length olds) (length news)) (body_lines (action_for (length olds) (length news)) olds news) olds news
body-spelled [] news h k = (refl, stretch-spelled Reversed news k)
body-spelled (o ∷ olds) [] h k = subst (spells_by (o ∷ olds) []) (sym (deletes (length olds))) (subst (λ ls. SpellsStretch Forward ls (o ∷ olds)) (sym (append-nil (stretch_lines Forward (o ∷ olds)))) (stretch-spelled Forward (o ∷ olds) h), refl)
body-spelled (o ∷ olds) (n ∷ news) h k = subst (spells_by (o ∷ olds) (n ∷ news)) (sym (changes (length olds) (length news))) (stretch_lines Forward (o ∷ olds), 45 ∷ 45 ∷ 45 ∷ 10 ∷ [], stretch_lines Reversed (n ∷ news), refl, stretch-spelled Forward (o ∷ olds) h, divides, stretch-spelled Reversed (n ∷ news) k)

-- ---- the command

many-spelled : (start count : ℕ) → 1 < count → 1 ≤ start → SpellsSpan (decimal start ++ 44 ∷ decimal (start + count - 1)) true start count
many-spelled start count many some = (false, start + count - 1, (decimal start, decimal (start + count - 1), decimal-numeral start, decimal-numeral (start + count - 1), refl), some, omega (arith, many), omega (arith, many))

one-spelled : (start count : ℕ) → count ≡ 1 → 1 ≤ start → SpellsSpan (decimal start) true start count
one-spelled start count one some = (true, start, (refl, decimal-numeral start), some, omega arith, omega (arith, one))

lines-spelled : (start count : ℕ) → 0 < count → 1 ≤ start → SpellsSpan (span_text start count) true start count
lines-spelled start count some first = by (ltb 1 count) refl
  where
    by : (b : Bool) → ltb 1 count ≡ b → SpellsSpan (cond b (decimal start ++ 44 ∷ decimal (start + count - 1)) (decimal start)) true start count
    by true is = many-spelled start count (ltb-true 1 count is) first
    by false is = one-spelled start count (omega (arith, some, ltb-false 1 count is)) first

abbrev pub Starts : ℕ → List (List ℕ) → Type 0
Starts start ls = start ≡ 0 → length ls ≡ 0

begins : (start : ℕ) (l : List ℕ) (ls : List (List ℕ)) → Starts start (l ∷ ls) → 1 ≤ start
begins start l ls h = by (eqb start 0) refl
  where
    by : (b : Bool) → eqb start 0 ≡ b → 1 ≤ start
    by true is = absurd (omega (arith, h (eqb-true start 0 is)))
    by false is = let ne = eqb-false start 0 is in omega arith

abbrev pub command_with : ℕ → ℕ → ℕ → ℕ → Action → List ℕ
command_with a b m n action = span_text a b ++ (letter action ∷ (span_text m n ++ 10 ∷ []))

abbrev pub spelled_command : PlainHunk → List (List ℕ) → List (List ℕ) → Action → Type 0
spelled_command h olds news action = SpellsCommand (command_with h.old_start (length olds) h.new_start (length news) action) (command_of action h olds news)

pub command-spelled : (h : PlainHunk) (olds news : List (List ℕ)) → 0 < length olds + length news → Starts h.old_start olds → Starts h.new_start news → spelled_command h olds news (action_for (length olds) (length news))
command-spelled h [] [] some s t = absurd (omega (arith, some))
command-spelled h [] (n ∷ news) some s t = record { old = span_text h.old_start 0; new = span_text h.new_start (length (n ∷ news)); rest = 10 ∷ []; parts = refl; ends = refl; old_span = (decimal-numeral h.old_start, refl); new_span = lines-spelled h.new_start (length (n ∷ news)) (omega arith) (begins h.new_start n news t) }
command-spelled h (o ∷ olds) [] some s t = subst (spelled_command h (o ∷ olds) []) (sym (deletes (length olds))) (record { old = span_text h.old_start (length (o ∷ olds)); new = span_text h.new_start 0; rest = 10 ∷ []; parts = refl; ends = refl; old_span = lines-spelled h.old_start (length (o ∷ olds)) (omega arith) (begins h.old_start o olds s); new_span = (decimal-numeral h.new_start, refl) })
command-spelled h (o ∷ olds) (n ∷ news) some s t = subst (spelled_command h (o ∷ olds) (n ∷ news)) (sym (changes (length olds) (length news))) (record { old = span_text h.old_start (length (o ∷ olds)); new = span_text h.new_start (length (n ∷ news)); rest = 10 ∷ []; parts = refl; ends = refl; old_span = lines-spelled h.old_start (length (o ∷ olds)) (omega arith) (begins h.old_start o olds s); new_span = lines-spelled h.new_start (length (n ∷ news)) (omega arith) (begins h.new_start n news t) })

-- ---- the bytes are these lines
command-line : (a b m n : ℕ) → IsLine (command_text a b m n)
command-line a b m n = line-prefix (span_text a b) _ (span-clean a b) (longer (letter (action_for b n)) _ (letter-clean (action_for b n)) (line-prefix (span_text m n) (10 ∷ []) (span-clean m n) refl))

marks-clean : (side : Side) → NoFeed (marks side)
marks-clean Forward = clean (marks Forward) refl
marks-clean Reversed = clean (marks Reversed) refl

line-whole : (side : Side) (l : List ℕ) (ls : List (List ℕ)) → IsLine l ⊎ (NoFeed l × (ls ≡ [])) → AreLines (line_lines side l)
line-whole side l ls (inl h) = subst (λ (b : Bool). AreLines (lines_by b side l)) (sym (line-ends l h)) (line-prefix (marks side) l (marks-clean side) h, tt)
line-whole side l ls (inr h) = subst (λ (b : Bool). AreLines (lines_by b side l)) (sym (no-end l h.0)) (line-prefix (marks side) (l ++ 10 ∷ []) (marks-clean side) (closes l h.0), (no-newline-line, tt))

stretch-whole : (side : Side) (ls : List (List ℕ)) → LinesFit ls → AreLines (stretch_lines side ls)
stretch-whole side [] h = tt
stretch-whole side (l ∷ ls) h = lines-both (line_lines side l) (stretch_lines side ls) (line-whole side l ls h.0) (stretch-whole side ls h.1)

divider-whole : (action : Action) → AreLines (divider_lines action)
divider-whole Add = tt
divider-whole Change = (line-prefix (45 ∷ 45 ∷ 45 ∷ []) (10 ∷ []) (clean (45 ∷ 45 ∷ 45 ∷ []) refl) refl, tt)
divider-whole Delete = tt

line-joined : (side : Side) (l : List ℕ) → flat_map (λ line. line) (line_lines side l) ≡ line_text side l
line-joined side l = by (ends_line l)
  where
    by : (v : Bool) → flat_map (λ line. line) (lines_by v side l) ≡ marks side ++ (l ++ cond v [] (10 ∷ no_newline))
    by true = flat_map-cons (λ line. line) (marks side ++ l) [] ∙ append_assoc (marks side) l []
    by false = flat_map-cons (λ line. line) (marks side ++ (l ++ 10 ∷ [])) (no_newline ∷ []) ∙ append_assoc (marks side) (l ++ 10 ∷ []) (flat_map (λ line. line) (no_newline ∷ [])) ∙ ap (λ bs. marks side ++ bs) (append_assoc l (10 ∷ []) no_newline)

stretch-joined : (side : Side) (ls : List (List ℕ)) → flat_map (λ line. line) (stretch_lines side ls) ≡ flat_map (line_text side) ls
stretch-joined side [] = refl
stretch-joined side (l ∷ ls) =
    flat_map-append (λ line. line) (line_lines side l) (stretch_lines side ls) ∙ ap (λ bs. bs ++ flat_map (λ line. line) (stretch_lines side ls)) (line-joined side l)
    ∙ ap (λ bs. line_text side l ++ bs) (stretch-joined side ls) ∙ sym (flat_map-cons (line_text side) l ls)

divider-joined : (action : Action) → flat_map (λ line. line) (divider_lines action) ≡ divider_text action
divider-joined Add = refl
divider-joined Change = refl
divider-joined Delete = refl

joined-is : (a m : ℕ) (olds news : List (List ℕ)) → flat_map (λ line. line) (hunk_lines a m olds news) ≡ lines_text a m olds news
joined-is a m olds news =
    let action = action_for (length olds) (length news) in
    let command = command_text a (length olds) m (length news) in
    flat_map-cons (λ line. line) command (body_lines action olds news)
    ∙ ap (λ bs. command ++ bs) (flat_map-append (λ line. line) (stretch_lines Forward olds) (divider_lines action ++ stretch_lines Reversed news)
    ∙ ap (λ bs. flat_map (λ line. line) (stretch_lines Forward olds) ++ bs) (flat_map-append (λ line. line) (divider_lines action) (stretch_lines Reversed news))
    ∙ rw (stretch-joined Forward olds, divider-joined action, stretch-joined Reversed news) refl)

pub text-lines : (a m : ℕ) (olds news : List (List ℕ)) (rest : List ℕ) → LinesFit olds → LinesFit news → lines (lines_text a m olds news ++ rest) ≡ hunk_lines a m olds news ++ lines rest
text-lines a m olds news rest h k =
    let action = action_for (length olds) (length news) in
    ap (λ bs. lines (bs ++ rest)) (sym (joined-is a m olds news))
    ∙ lines-whole (hunk_lines a m olds news) rest (command-line a (length olds) m (length news), lines-both (stretch_lines Forward olds) (divider_lines action ++ stretch_lines Reversed news) (stretch-whole Forward olds h) (lines-both (divider_lines action) (stretch_lines Reversed news) (divider-whole action) (stretch-whole Reversed news k)))
