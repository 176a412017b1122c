-- The spans of the hunks of a file patch that stands in a text.
use Rattle.std.proofs.Common.{◌≡◌, ◌+◌, ◌<◌, ◌≤◌, ◌^◌, ℕ, List, [], ◌∷◌, ◌++◌, map, length, drop, slice_range, refl, sym, ap, subst, ◌∙◌, arith, append_assoc}
use Rattle.std.specs.Prelude.{sum_by}
use Rattle.std.proofs.lemmas.List.{length-drop}
use Rattle.std.proofs.lemmas.List.Sums.{sum_by-append}
use Rattle.line_list.specs.Lines.{lines}
use Rattle.line_list.specs.declared.Span.{Span}
use Rattle.line_list.proofs.Pieces.{lines-pieces}
use Rattle.hunk_core.specs.declared.Form.{Form}
use Rattle.hunk_core.specs.declared.Form.TheVariants.{Unified, Context, Normal, Ed}
use Rattle.hunk_core.specs.PlainHunk.{Marked, PlainHunk}
use Rattle.hunk_core.specs.Pieces.{AreInTurn, AreWhole, SpellInTurn}
use Rattle.hunk_core.proofs.PieceLemmas.{piece-lines}
use Rattle.unified_form.specs.Grammar as unified
use Rattle.context_form.specs.declared.range.Stated.{Stated}
use Rattle.context_form.specs.Grammar as context
use Rattle.normal_form.specs.Grammar as normal
use Rattle.ed_form.specs.Grammar as ed
use Rattle.read_file_patch.specs.PlainPatch.{PlainChange, hunks, script}
use Rattle.read_patch_text.specs.Regions.{piece_ends}
use Rattle.read_patch_text.specs.Texts.{IsPiece}
use Rattle.read_patch_text.specs.Changes.{Spells, SpellChange}
use Rattle.read_patch_text.proofs.ChangeLemmas.{lines-sum}
use Rattle.read_patch_text.proofs.EndsLemmas.{spans-end, script-end}
use Rattle.law_reading.proofs.Places.{skip-lines, lines-within}
use Rattle.law_reading.proofs.Spelling.{hunk-told, not-there}
use Rattle.law_reading.proofs.Standing.{some-bytes}
use Rattle.law_filters.proofs.Keeping.{Relation}

-- these lines are these hunks, one behind the other
Cut : Relation → ℕ → List (List ℕ) → List PlainHunk → Type 0
Cut Spells least own [] = own ≡ []
Cut Spells least own (h ∷ hs) = (one : List (List ℕ)) × (more : List (List ℕ)) × (own ≡ one ++ more) × Spells least one h × Cut Spells h.old_start more hs

unified-cut : (least : ℕ) (own : List (List ℕ)) (hs : List PlainHunk) → unified.SpellsHunks least own hs → Cut unified.SpellsHunk least own hs
unfolding Cut
unified-cut least own [] h = h
unified-cut least own (x ∷ hs) h = (h.0, h.1, h.2, h.3, unified-cut x.old_start h.1 hs h.4)

normal-cut : (least : ℕ) (own : List (List ℕ)) (hs : List PlainHunk) → normal.SpellsHunks least own hs → Cut normal.SpellsHunk least own hs
unfolding Cut
normal-cut least own [] h = h
normal-cut least own (x ∷ hs) h = (h.0, h.1, h.2, h.3, normal-cut x.old_start h.1 hs h.4)

context-cut : (least : ℕ) (own rest : List (List ℕ)) (hs : List PlainHunk) → context.SpellsHunks least own rest hs → Cut context.SpellsPiece least own hs
unfolding Cut
context-cut least own rest [] h = h
context-cut least own rest (x ∷ hs) h =
    (h.0, h.1, h.2, hunk-told least h.0 (h.1 ++ rest) [] x (λ (s : Stated) (olds : List Marked) none. not-there s olds [] (λ k. refl)) h.3, context-cut x.old_start h.1 rest hs h.4)

abbrev HasLine : List (List ℕ) → Type 0
HasLine own = (line : List ℕ) × (more : List (List ℕ)) × (own ≡ line ∷ more)

unified-some : (least : ℕ) (own : List (List ℕ)) (h : PlainHunk) → unified.SpellsHunk least own h → HasLine own
unified-some least [] h s = absurd s
unified-some least (line ∷ more) h s = (line, more, refl)

normal-some : (least : ℕ) (own : List (List ℕ)) (h : PlainHunk) → normal.SpellsHunk least own h → HasLine own
normal-some least [] h s = absurd s
normal-some least (line ∷ more) h s = (line, more, refl)

context-some : (least : ℕ) (own : List (List ℕ)) (h : PlainHunk) → context.SpellsPiece least own h → HasLine own
context-some least own h s = (s.stars, s.old_line ∷ (s.old ++ s.new_line ∷ s.new), s.parts)

-- ---- their spans

record Spans (Spells : Relation) (text : List ℕ) (at end least : ℕ) (hs : List PlainHunk) : Type 0 where
  ss : List Span
  turn : AreInTurn at ss end
  whole : AreWhole text ss
  spelled : SpellInTurn Spells text least ss hs

module _ (Spells : Relation) (some : (least : ℕ) (own : List (List ℕ)) (h : PlainHunk) → Spells least own h → HasLine own) (text : List ℕ) (end : ℕ) (rest : List (List ℕ)) where
  spans : (hs : List PlainHunk) (least at : ℕ) (own : List (List ℕ)) → at ≤ length text → lines (drop at text) ≡ own ++ rest → end ≡ at + sum_by length own → Cut Spells least own hs → Spans Spells text at end least hs
  unfolding Cut
  spans [] least at own high ahead is cut =
      let none : at ≡ end = sym (is ∙ ap (λ ls. at + sum_by length ls) cut ∙ zero-more at) in
      record { ss = []; turn = none; whole = tt; spelled = tt }
    where
      zero-more : (n : ℕ) → n + 0 ≡ n
      zero-more n = omega arith
  spans (h ∷ hs) least at own high ahead is cut =
      let one = cut.0 in
      let more = cut.1 in
      let mid = at + sum_by length one in
      let parts : lines (drop at text) ≡ one ++ (more ++ rest) = ahead ∙ ap (λ ls. ls ++ rest) cut.2 ∙ append_assoc one more rest in
      let after : lines (drop mid text) ≡ more ++ rest = skip-lines text at one (more ++ rest) parts in
      let within : mid ≤ length text = lines-within text at one (more ++ rest) high parts in
      let split : lines (drop at text) ≡ one ++ lines (drop mid text) = parts ∙ ap (λ ls. one ++ ls) (sym after) in
      let inside : lines (slice_range text at mid) ≡ one = piece-lines text at mid one (omega arith) within split in
      let far : 0 < sum_by length one = some-bytes one (more ++ rest) (lines (drop at text)) (lines-pieces (drop at text)) parts (some least one h cut.3) in
      let sum : sum_by length own ≡ sum_by length one + sum_by length more = ap (sum_by length) cut.2 ∙ sum_by-append length one more in
      let later = spans hs h.old_start mid more within after (omega (arith, is, sum)) cut.4 in
      let s : Span = record { start = at; end = mid } in
      record {
        ss = s ∷ later.ss;
        turn = (refl, omega (arith, far), later.turn);
        whole = (split ∙ ap (λ ls. ls ++ lines (drop mid text)) (sym inside), later.whole);
        spelled = (subst (λ (ls : List (List ℕ)). Spells least ls h) (sym inside) cut.3, later.spelled);
      }

-- ---- a change that stands in a text

-- its spans, one behind the other, each of whole lines, and their ends by the text alone
pub record Laid (text : List ℕ) (form : Form) (at end : ℕ) (change : PlainChange) : Type 0 where
  pub ss : List Span
  pub turn : AreInTurn at ss end
  pub whole : AreWhole text ss
  pub pieces : SpellChange text form ss change
  pub ends : map (λ s. s.end) ss ≡ piece_ends form at (lines (slice_range text at end))

module _ (text : List ℕ) (at end : ℕ) (some : at < end) (high : end ≤ length text) where
  end-is : (own : List (List ℕ)) → lines (drop at text) ≡ own ++ lines (drop end text) → end ≡ at + sum_by length own
  end-is own e =
      let all : sum_by length (lines (drop at text)) ≡ sum_by length own + sum_by length (lines (drop end text)) = ap (sum_by length) e ∙ sum_by-append length own (lines (drop end text)) in
      omega (arith, some, high, all, lines-sum (drop at text), lines-sum (drop end text), length-drop at text, length-drop end text)

  low : at ≤ length text
  low = omega (arith, some, high)

  pub laid : (form : Form) (n : ℕ) (change : PlainChange) (next : ℕ) → IsPiece form n (lines (drop at text)) change next (lines (drop end text)) → Laid text form at end change
  laid Unified n (hunks hs) next p =
      let s = spans unified.SpellsHunk unified-some text end (lines (drop end text)) hs 0 at p.own low p.parts (end-is p.own p.parts) (unified-cut 0 p.own hs p.spelled) in
      record { ss = s.ss; turn = s.turn; whole = s.whole; pieces = s.spelled; ends = spans-end Unified text at 0 s.ss hs end s.turn some high s.whole s.spelled }
  laid Context n (hunks hs) next p =
      let s = spans context.SpellsPiece context-some text end (lines (drop end text)) hs 0 at p.own low p.parts (end-is p.own p.parts) (context-cut 0 p.own (lines (drop end text)) hs p.spelled) in
      record { ss = s.ss; turn = s.turn; whole = s.whole; pieces = s.spelled; ends = spans-end Context text at 0 s.ss hs end s.turn some high s.whole s.spelled }
  laid Normal n (hunks hs) next p =
      let s = spans normal.SpellsHunk normal-some text end (lines (drop end text)) hs 0 at p.own low p.parts (end-is p.own p.parts) (normal-cut 0 p.own hs p.spelled) in
      record { ss = s.ss; turn = s.turn; whole = s.whole; pieces = s.spelled; ends = spans-end Normal text at 0 s.ss hs end s.turn some high s.whole s.spelled }
  laid Ed n (script es) next p =
      let inside : lines (slice_range text at end) ≡ p.own = piece-lines text at end p.own (omega (arith, some)) high p.parts in
      let s : Span = record { start = at; end = end } in
      record {
        ss = s ∷ [];
        turn = (refl, some, refl);
        whole = (p.parts ∙ ap (λ ls. ls ++ lines (drop end text)) (sym inside), tt);
        pieces = subst (λ (ls : List (List ℕ)). ed.SpellsEdits (2 ^ 32) ls es (lines (drop end text))) (sym inside) p.spelled;
        ends = script-end text at end some high;
      }
  laid Unified n (script es) next p = absurd p
  laid Context n (script es) next p = absurd p
  laid Normal n (script es) next p = absurd p
  laid Ed n (hunks hs) next p = absurd p
