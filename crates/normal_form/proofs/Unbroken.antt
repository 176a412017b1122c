-- A hunk that a piece of a text spells breaks no rule.
use Rattle.std.proofs.Common.{◌≡◌, ℕ, suc, ◌+◌, ◌<◌, Bool, true, false, eqb, List, [], ◌∷◌, ◌++◌, length, None, refl, ap, subst, ◌∙◌, arith}
use Rattle.std.proofs.lemmas.Bool.{ne_eqb}
use Rattle.line_list.specs.Lines.{IsLine, ArePieces}
use Rattle.hunk_core.specs.declared.Side.{Side}
use Rattle.hunk_core.specs.declared.Side.TheVariants.{Forward, Reversed}
use Rattle.hunk_core.specs.PlainHunk.{Marked, PlainHunk, old_lines, new_lines}
use Rattle.hunk_core.specs.LineTests.{ends_line}
use Rattle.hunk_core.specs.Rules.{starts_at_zero, runs_over, lacks_inner_end, first_broken}
use Rattle.hunk_core.proofs.PieceLemmas.{pieces-first, pieces-last}
use Rattle.hunk_core.specs.declared.command.Action.{Action}
use Rattle.hunk_core.specs.declared.command.Action.TheVariants.{Add, Change, Delete}
use Rattle.line_list.proofs.WholeLines.{whole-before}
use Rattle.hunk_core.proofs.RuleLemmas.{no-rule, zero-start, no-run}
use Rattle.hunk_core.proofs.LineEnds.{line-ends, lacks-step}
use Rattle.normal_form.specs.Commands.{takes_lines}
use Rattle.normal_form.specs.Stretches.{marks}
use Rattle.normal_form.specs.Grammar.{on_side, SpellsLine, SpellsStretch, SpellsBody, SpellsSpan, SpellsHunk}

-- ---- the lines of the sides

old-news : (news : List (List ℕ)) → old_lines (on_side Reversed news) ≡ []
old-news [] = refl
old-news (n ∷ news) = old-news news

new-news : (news : List (List ℕ)) → new_lines (on_side Reversed news) ≡ news
new-news [] = refl
new-news (n ∷ news) = ap (λ ls. n ∷ ls) (new-news news)

pub old-lines-are : (olds news : List (List ℕ)) → old_lines (on_side Forward olds ++ on_side Reversed news) ≡ olds
old-lines-are [] news = old-news news
old-lines-are (o ∷ olds) news = ap (λ ls. o ∷ ls) (old-lines-are olds news)

pub new-lines-are : (olds news : List (List ℕ)) → new_lines (on_side Forward olds ++ on_side Reversed news) ≡ news
new-lines-are [] news = new-news news
new-lines-are (o ∷ olds) news = new-lines-are olds news

length-news : (ls : List (List ℕ)) → length (on_side Reversed ls) ≡ length ls
length-news [] = refl
length-news (l ∷ ls) = ap suc (length-news ls)

length-bodies : (olds news : List (List ℕ)) → length (on_side Forward olds ++ on_side Reversed news) ≡ length olds + length news
length-bodies [] news = omega (arith, length-news news)
length-bodies (o ∷ olds) news = omega (arith, length-bodies olds news)

-- ---- a line that stands before another has its line feed
behind-one : (b : ℕ) (line : List ℕ) → IsLine (b ∷ 32 ∷ line) → ends_line line ≡ true
behind-one b [] h = absurd (let bad : 32 ≡ 10 = h.1 in cc)
behind-one b (c ∷ bytes) h = line-ends (c ∷ bytes) h.1.1

behind-marks : (side : Side) (line : List ℕ) → IsLine (marks side ++ line) → ends_line line ≡ true
behind-marks Forward line h = behind-one 60 line h
behind-marks Reversed line h = behind-one 62 line h

stretch-some : (side : Side) (piece ls : List (List ℕ)) → SpellsStretch side piece ls → 0 < length ls → 0 < length piece
stretch-some side piece [] s some = absurd (omega (arith, some))
stretch-some side [] (l ∷ ls) s some = absurd (none s.0 s.1 s.2 s.3)
  where
    none : (own rest : List (List ℕ)) → [] ≡ own ++ rest → SpellsLine side own l ls → ⊥
    none [] rest e h = h
    none (line ∷ own) rest e h = cc
stretch-some side (line ∷ piece) (l ∷ ls) s some = omega arith

ends-inner : (side : Side) (own rest : List (List ℕ)) (l : List ℕ) (others : List (List ℕ)) → SpellsLine side own l others → SpellsStretch side rest others → 0 < length others → ArePieces (own ++ rest) → ends_line l ≡ true
ends-inner side [] rest l others h s some pieces = absurd h
ends-inner side (line ∷ []) rest l others h s some pieces = behind-marks side l (subst IsLine h (whole-before line rest (stretch-some side rest others s some) pieces))
ends-inner side (line ∷ mark ∷ []) rest l others h s some pieces = absurd (omega (arith, some, ap length h.1))
ends-inner side (line ∷ mark ∷ other ∷ own) rest l others h s some pieces = absurd h

pub stretch-ends : (side : Side) (piece ls : List (List ℕ)) → SpellsStretch side piece ls → ArePieces piece → lacks_inner_end ls ≡ false
stretch-ends side piece [] s pieces = refl
stretch-ends side piece (l ∷ ls) s pieces =
    let split : ArePieces (s.0 ++ s.1) = subst ArePieces s.2 pieces in
    lacks-step l ls (λ some. ends-inner side s.0 s.1 l ls s.3 s.4 some split) (stretch-ends side s.1 ls s.4 (pieces-last s.0 s.1 split))

body-ends : (action : Action) (piece olds news : List (List ℕ)) → SpellsBody action piece olds news → ArePieces piece → (lacks_inner_end olds ≡ false) × (lacks_inner_end news ≡ false)
body-ends Add piece olds news s pieces = (rw s.0 refl, stretch-ends Reversed piece news s.1 pieces)
body-ends Change piece olds news s pieces =
    let split : ArePieces (s.0 ++ s.1 ∷ s.2) = subst ArePieces s.3 pieces in
    (stretch-ends Forward s.0 olds s.4 (pieces-first s.0 (s.1 ∷ s.2) split), stretch-ends Reversed s.2 news s.6 (pieces-last (s.1 ∷ []) s.2 (pieces-last s.0 (s.1 ∷ s.2) split)))
body-ends Delete piece olds news s pieces = (stretch-ends Forward piece olds s.0 pieces, rw s.1 refl)

-- ---- the other rules

span-start : (text : List ℕ) (lines : Bool) (start count : ℕ) → SpellsSpan text lines start count → start ≡ 0 → count ≡ 0
span-start text true start count s z = absurd (omega (arith, z, s.3))
span-start text false start count s z = s.1

pub span-some : (text : List ℕ) (start count : ℕ) → SpellsSpan text true start count → 0 < count
span-some text start count s = omega (arith, s.4, s.5)

counts-some : (action : Action) (old new : List ℕ) (a b m n : ℕ) → SpellsSpan old (takes_lines action Forward) a b → SpellsSpan new (takes_lines action Reversed) m n → 0 < b + n
counts-some Add old new a b m n s t = omega (arith, span-some new m n t)
counts-some Change old new a b m n s t = omega (arith, span-some new m n t)
counts-some Delete old new a b m n s t = omega (arith, span-some old a b s)

some-body : (body : List Marked) (n : ℕ) → length body ≡ n → 0 < n → eqb (length body) 0 ≡ false
some-body body n e some = ne_eqb (length body) 0 (λ z. absurd (omega (arith, z, e, some)))

pub hunk-unbroken : (least : ℕ) (own : List (List ℕ)) (h : PlainHunk) → SpellsHunk least own h → ArePieces own → first_broken h ≡ None
hunk-unbroken least [] h s pieces = absurd s
hunk-unbroken least (line ∷ own) h s pieces =
    let olds = s.1 in
    let news = s.2 in
    let rest : ArePieces own = pieces-last (line ∷ []) own pieces in
    let old : old_lines h.body ≡ olds = ap old_lines s.3 ∙ old-lines-are olds news in
    let new : new_lines h.body ≡ news = ap new_lines s.3 ∙ new-lines-are olds news in
    let ends = body-ends s.0 own olds news s.6 rest in
    let some : eqb (length h.body) 0 ≡ false = some-body h.body (length olds + length news) (ap length s.3 ∙ length-bodies olds news) (counts-some s.0 s.4.old s.4.new h.old_start (length olds) h.new_start (length news) s.4.old_span s.4.new_span) in
    let a : starts_at_zero h.old_start (old_lines h.body) ≡ false = rw old (zero-start h.old_start olds (span-start s.4.old (takes_lines s.0 Forward) h.old_start (length olds) s.4.old_span)) in
    let b : starts_at_zero h.new_start (new_lines h.body) ≡ false = rw new (zero-start h.new_start news (span-start s.4.new (takes_lines s.0 Reversed) h.new_start (length news) s.4.new_span)) in
    let c : runs_over h.old_start (old_lines h.body) ≡ false = rw old (no-run h.old_start olds s.5.fits.old) in
    let d : runs_over h.new_start (new_lines h.body) ≡ false = rw new (no-run h.new_start news s.5.fits.new) in
    let e : lacks_inner_end (old_lines h.body) ≡ false = rw old ends.0 in
    let f : lacks_inner_end (new_lines h.body) ≡ false = rw new ends.1 in
    no-rule _ _ _ _ _ _ _ _ _ _ _ some a b c d e f
