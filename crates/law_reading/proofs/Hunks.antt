-- Hunks that are written are read again; those that keep the rules keep them turned round.
use Rattle.std.proofs.Common.{◌≡◌, ℕ, ◌≤◌, Bool, true, false, cond, ◌||◌, eqb, List, [], ◌∷◌, ◌++◌, length, map, Option, None, Some, refl, sym, ap, subst, ◌∙◌, arith}
use Rattle.std.specs.Prelude.{nat_lt}
use Rattle.std.specs.List.{AllByRecursion, flat_map}
use Rattle.std.proofs.lemmas.Bool.Decides.{nat_tests}
use Rattle.std.proofs.lemmas.Grind.{flat_map-append}
use Rattle.std.proofs.lemmas.List.{append-nil, append_cancel_right, length-map}
use Rattle.std.proofs.lemmas.List.Concat.{flat_map-cons}
use Rattle.std.proofs.Math.Bool.{or_comm}
use Rattle.line_list.specs.Lines.{ArePieces, IsLine, lines}
use Rattle.line_list.proofs.Pieces.{joined, line-open, lines-joined, lines-pieces}
use Rattle.line_list.proofs.WholeLines.{lines-both}
use Rattle.hunk_core.specs.declared.Form.{Form}
use Rattle.hunk_core.specs.declared.Form.TheVariants.{Unified, Context, Normal, Ed}
use Rattle.hunk_core.specs.declared.Side.TheVariants.{Forward, Reversed}
use Rattle.hunk_core.specs.declared.check.BadHunk.{BadHunk}
use Rattle.hunk_core.specs.declared.check.BadHunk.TheVariants.{NoLines, Start, Sum, InnerEnd}
use Rattle.hunk_core.specs.LineTests.{after, after_backslash}
use Rattle.hunk_core.specs.PlainHunk.{PlainHunk, old_lines, new_lines}
use Rattle.hunk_core.specs.Rules.{HasNoInnerFeed, first_broken, lacks_inner_end, runs_over, starts_at_zero}
use Rattle.hunk_core.specs.Turned.{swapped, swapped_line}
use Rattle.hunk_core.proofs.SideLemmas.{swapped-lines}
use Rattle.hunk_core.proofs.TurnedLemmas.{swapped-feeds}
use Rattle.unified_form.specs.Grammar as unified
use Rattle.unified_form.proofs.Again as unified_again
use Rattle.normal_form.specs.Grammar as normal
use Rattle.normal_form.proofs.Again as normal_again
use Rattle.context_form.specs.Grammar as context
use Rattle.context_form.specs.Openings as openings
use Rattle.context_form.specs.Parts.{mark_at, mark_by}
use Rattle.context_form.specs.Presence.{begins_part, may_begin}
use Rattle.context_form.proofs.Again as context_again
use Rattle.context_form.proofs.Pieces as context_pieces
use Rattle.patch_header.proofs.Fronts.{front, and_left, context-front}
use Rattle.read_patch_text.specs.Texts.{IsPiece}
use Rattle.read_file_patch.specs.PlainPatch.{hunks}
use Rattle.flip_patch.specs.Flipped.{hunk_text}
use Rattle.flip_patch.specs.Refusals.{starts_fall}
use Rattle.law_reading.proofs.Spelling.{hunk-told, not-there}
use Rattle.law_reading.specs.TurnedPatches.{as_shown}
use Rattle.law_reading.proofs.Shown.{front-whole}

-- ---- no rule is broken

abbrev first_of : Bool → Bool → Bool → Bool → Option BadHunk
first_of a b c d = cond a (Some NoLines) (cond b (Some Start) (cond c (Some Sum) (cond d (Some InnerEnd) None)))

same-first : (a b c d e f g h : Bool) → a ≡ e → b ≡ f → c ≡ g → d ≡ h → first_of a b c d ≡ first_of e f g h
same-first a b c d e f g h p q r s = rw (p, q, r, s) refl

swapped-unbroken : (h : PlainHunk) → first_broken h ≡ None → first_broken (swapped h) ≡ None
swapped-unbroken h e =
    let olds : old_lines (map swapped_line h.body) ≡ new_lines h.body = swapped-lines Forward h.body in
    let news : new_lines (map swapped_line h.body) ≡ old_lines h.body = swapped-lines Reversed h.body in
    same-first _ _ _ _ _ _ _ _
    (ap (λ n. eqb n 0) (length-map h.body swapped_line))
    (ap (λ ls. starts_at_zero h.new_start ls || starts_at_zero h.old_start (new_lines (map swapped_line h.body))) olds ∙ ap (λ ls. starts_at_zero h.new_start (new_lines h.body) || starts_at_zero h.old_start ls) news ∙ or_comm (starts_at_zero h.new_start (new_lines h.body)) (starts_at_zero h.old_start (old_lines h.body)))
    (ap (λ ls. runs_over h.new_start ls || runs_over h.old_start (new_lines (map swapped_line h.body))) olds ∙ ap (λ ls. runs_over h.new_start (new_lines h.body) || runs_over h.old_start ls) news ∙ or_comm (runs_over h.new_start (new_lines h.body)) (runs_over h.old_start (old_lines h.body)))
    (ap (λ ls. lacks_inner_end ls || lacks_inner_end (new_lines (map swapped_line h.body))) olds ∙ ap (λ ls. lacks_inner_end (new_lines h.body) || lacks_inner_end ls) news ∙ or_comm (lacks_inner_end (new_lines h.body)) (lacks_inner_end (old_lines h.body)))
    ∙ e

-- a hunk that keeps the rules and whose lines have no inner line feed
pub record IsGood (h : PlainHunk) : Type 0 where
  pub unbroken : first_broken h ≡ None
  pub clean : AllByRecursion HasNoInnerFeed h.body

swapped-good : (h : PlainHunk) → IsGood h → IsGood (swapped h)
swapped-good h g = record { unbroken = swapped-unbroken h g.unbroken; clean = swapped-feeds h.body g.clean }

pub all-swapped : (hs : List PlainHunk) → AllByRecursion IsGood hs → AllByRecursion IsGood (map swapped hs)
all-swapped [] all = tt
all-swapped (h ∷ hs) all = (swapped-good h all.0, all-swapped hs all.1)

-- ---- a written hunk is whole lines

pub record AreOwn (text : List ℕ) (own : List (List ℕ)) : Type 0 where
  pub whole : AllByRecursion IsLine own
  pub is : text ≡ joined own

abbrev pub open_text : List ℕ
open_text = 120 ∷ []

open-lines : lines open_text ≡ open_text ∷ []
open-lines = line-open open_text (omega arith, (λ e. cc, tt))

pub own-of : (text : List ℕ) (own : List (List ℕ)) → lines (text ++ open_text) ≡ own ++ lines open_text → AreOwn text own
own-of text own e =
    let parts : lines (text ++ open_text) ≡ own ++ open_text ∷ [] = e ∙ ap (λ (ls : List (List ℕ)). own ++ ls) open-lines in
    let bytes : text ++ open_text ≡ joined own ++ open_text = sym (lines-joined (text ++ open_text)) ∙ ap joined parts ∙ flat_map-append (λ (l : List ℕ). l) own (open_text ∷ []) in
    record { whole = front-whole own open_text [] (subst ArePieces parts (lines-pieces (text ++ open_text))); is = append_cancel_right text (joined own) open_text bytes }

pub open-silent : after_backslash (lines open_text) ≡ None
unfolding after
open-silent = ap after_backslash open-lines

pub open-stops : begins_part true (lines open_text) ≡ false
open-stops = ap (begins_part true) open-lines

-- ---- one hunk in its form

abbrev pub IsHunkForm : Form → Type 0
IsHunkForm Unified = Unit {0}
IsHunkForm Context = Unit {0}
IsHunkForm Normal = Unit {0}
IsHunkForm Ed = ⊥

abbrev pub SpellsAs : Form → ℕ → List (List ℕ) → List (List ℕ) → PlainHunk → Type 0
SpellsAs Unified least own behind h = unified.SpellsHunk least own h
SpellsAs Context least own behind h = context.SpellsHunk least own behind h
SpellsAs Normal least own behind h = normal.SpellsHunk least own h
SpellsAs Ed least own behind h = ⊥

-- no part begins there that a hunk in front could go on with
abbrev pub IsQuietAs : Form → List (List ℕ) → Type 0
IsQuietAs Unified ls = Unit {0}
IsQuietAs Context ls = (k : Bool) → begins_part k ls ≡ false
IsQuietAs Normal ls = Unit {0}
IsQuietAs Ed ls = Unit {0}

pub unified-least : (least : ℕ) (own : List (List ℕ)) (h : PlainHunk) → least ≤ h.old_start → unified.SpellsHunk 0 own h → unified.SpellsHunk least own h
unified-least least [] h le s = absurd s
unified-least least (line ∷ rest) h le s = (s.0, record { old_begins = s.1.old_begins; new_begins = s.1.new_begins; fits = s.1.fits; counts = s.1.counts; order = le }, s.2)

normal-least : (least : ℕ) (own : List (List ℕ)) (h : PlainHunk) → least ≤ h.old_start → normal.SpellsHunk 0 own h → normal.SpellsHunk least own h
normal-least least [] h le s = absurd s
normal-least least (line ∷ rest) h le s = (s.0, s.1, s.2, s.3, s.4, record { fits = s.5.fits; order = le }, s.6)

pub context-least : (least : ℕ) (own behind : List (List ℕ)) (h : PlainHunk) → least ≤ h.old_start → context.SpellsHunk 0 own behind h → context.SpellsHunk least own behind h
context-least least own behind h le s = record {
  stars = s.stars;
  old_line = s.old_line;
  old = s.old;
  new_line = s.new_line;
  new = s.new;
  parts = s.parts;
  asterisks = s.asterisks;
  old_single = s.old_single;
  new_single = s.new_single;
  old_range = s.old_range;
  new_range = s.new_range;
  old_part = s.old_part;
  new_part = s.new_part;
  some = s.some;
  drops = s.drops;
  old_fits = s.old_fits;
  new_fits = s.new_fits;
  order = le;
  begins = s.begins;
  told = s.told;
}

-- the lines of a written hunk
record Written (form : Form) (h : PlainHunk) (own : List (List ℕ)) : Type 0 where
  are : AreOwn (hunk_text form h) own
  spell : (least : ℕ) (behind : List (List ℕ)) → least ≤ h.old_start → IsQuietAs form behind → SpellsAs form least own behind (as_shown form h)

written : (form : Form) (h : PlainHunk) → IsHunkForm form → IsGood h → (own : List (List ℕ)) × Written form h own
written Unified h is g =
    let s = unified_again.spells-first h open_text g.unbroken g.clean open-silent in
    (s.own, record { are = own-of (hunk_text Unified h) s.own s.parts; spell = λ least behind le quiet. unified-least least s.own h le s.spelled })
written Context h is g =
    let s = context_again.spells-first h open_text g.unbroken g.clean open-stops open-silent in (
      s.own,
      record {
        are = own-of (hunk_text Context h) s.own s.parts;
        spell = λ least behind le quiet. context-least least s.own behind (as_shown Context h) le (hunk-told 0 s.own (lines open_text) behind (as_shown Context h) (λ t olds none. not-there t olds behind quiet) s.spelled);
      },
    )
written Normal h is g =
    let s = normal_again.spells-first h open_text g.unbroken g.clean open-silent in
    (s.own, record { are = own-of (hunk_text Normal h) s.own s.parts; spell = λ least behind le quiet. normal-least least s.own (as_shown Normal h) le s.spelled })
written Ed h is g = absurd is

-- ---- asterisks go on with no part

no-mark : (line : List ℕ) → front line ≡ 42 → mark_at Reversed line ≡ None
no-mark [] e = refl
no-mark (b ∷ []) e = refl
no-mark (b ∷ c ∷ bytes) e = by (eqb c 32)
  where
    by : (v : Bool) → cond v (mark_by Reversed b) None ≡ None
    by true = ap (mark_by Reversed) e
    by false = refl

stars-quiet : (ls : List (List ℕ)) → openings.begins_hunk ls ≡ true → (k : Bool) → begins_part k ls ≡ false
stars-quiet [] e k = refl
stars-quiet (line ∷ rest) e k = ap (may_begin k) (no-mark line (context-front line (and_left _ _ e)))

-- ---- all hunks

abbrev pub ChainAs : Form → ℕ → List (List ℕ) → List (List ℕ) → List PlainHunk → Type 0
ChainAs form least piece rest [] = piece ≡ []
ChainAs form least piece rest (h ∷ hs) = (own : List (List ℕ)) × (more : List (List ℕ)) × (piece ≡ own ++ more) × SpellsAs form least own (more ++ rest) h × ChainAs form h.old_start more rest hs

abbrev pub Rising : ℕ → List ℕ → Type 0
Rising s [] = Unit {0}
Rising s (t ∷ ts) = (s ≤ t) × Rising t ts

rising-behind : (s : ℕ) (ss : List ℕ) → starts_fall (s ∷ ss) ≡ false → Rising s ss
rising-behind s [] e = tt
rising-behind s (t ∷ ss) e = by (nat_lt t s) refl e (rising-behind t ss)
  where
    by : (v : Bool) → nat_lt t s ≡ v → (v || starts_fall (t ∷ ss)) ≡ false → (starts_fall (t ∷ ss) ≡ false → Rising t ss) → (s ≤ t) × Rising t ss
    by true is e again = absurd (cc)
    by false is e again = (grind (arith, nat_tests), again e)

pub rising : (ss : List ℕ) → starts_fall ss ≡ false → Rising 0 ss
rising [] e = tt
rising (s ∷ ss) e = (omega arith, rising-behind s ss e)

-- the lines of written hunks
pub record IsBody (form : Form) (least : ℕ) (hs : List PlainHunk) (body : List (List ℕ)) : Type 0 where
  pub whole : AllByRecursion IsLine body
  pub is : flat_map (hunk_text form) hs ≡ joined body
  pub chain : ChainAs form least body [] (map (as_shown form) hs)
  pub quiet : IsQuietAs form body

pub quiet-first : (form : Form) (least : ℕ) (own behind more : List (List ℕ)) (h : PlainHunk) → SpellsAs form least own behind h → IsQuietAs form (own ++ more)
quiet-first Unified least own behind more h s = tt
quiet-first Context least own behind more h s = stars-quiet (own ++ more) (context_pieces.hunk_opens least own behind more h s)
quiet-first Normal least own behind more h s = tt
quiet-first Ed least own behind more h s = tt

pub quiet-none : (form : Form) → IsQuietAs form []
quiet-none Unified = tt
quiet-none Context = λ k. refl
quiet-none Normal = tt
quiet-none Ed = tt

-- a hunk starts where it does also as its form shows it
pub chain-same : (form : Form) (h : PlainHunk) (hs : List PlainHunk) (more : List (List ℕ)) → ChainAs form h.old_start more [] (map (as_shown form) hs) → ChainAs form (as_shown form h).old_start more [] (map (as_shown form) hs)
chain-same Unified h hs more c = c
chain-same Context h hs more c = c
chain-same Normal h hs more c = c
chain-same Ed h hs more c = c

pub body-of : (form : Form) (least : ℕ) (hs : List PlainHunk) → IsHunkForm form → AllByRecursion IsGood hs → Rising least (map (λ h. h.old_start) hs) → (body : List (List ℕ)) × IsBody form least hs body
body-of form least [] is good rises = ([], record { whole = tt; is = refl; chain = refl; quiet = quiet-none form })
body-of form least (h ∷ hs) is good rises =
    let later = body-of form h.old_start hs is good.1 rises.1 in
    let w = written form h is good.0 in
    let behind_quiet : IsQuietAs form (later.0 ++ []) = subst (IsQuietAs form) (sym (append-nil later.0)) later.1.quiet in
    let spelled = w.1.spell least (later.0 ++ []) rises.0 behind_quiet in (
      w.0 ++ later.0,
      record {
        whole = lines-both w.0 later.0 w.1.are.whole later.1.whole;
        is = flat_map-cons (hunk_text form) h hs ∙ ap (λ (x : List ℕ). x ++ flat_map (hunk_text form) hs) w.1.are.is ∙ ap (λ (x : List ℕ). joined w.0 ++ x) later.1.is ∙ sym (flat_map-append (λ (l : List ℕ). l) w.0 later.0);
        chain = (w.0, later.0, refl, spelled, chain-same form h hs later.0 later.1.chain);
        quiet = quiet-first form least w.0 (later.0 ++ []) later.0 (as_shown form h) spelled;
      },
    )

-- ---- the change of a file patch

unified-chain : (least : ℕ) (piece : List (List ℕ)) (hs : List PlainHunk) → ChainAs Unified least piece [] hs → unified.SpellsHunks least piece hs
unified-chain least piece [] c = c
unified-chain least piece (h ∷ hs) c = (c.0, c.1, c.2, c.3, unified-chain h.old_start c.1 hs c.4)

normal-chain : (least : ℕ) (piece : List (List ℕ)) (hs : List PlainHunk) → ChainAs Normal least piece [] hs → normal.SpellsHunks least piece hs
normal-chain least piece [] c = c
normal-chain least piece (h ∷ hs) c = (c.0, c.1, c.2, c.3, normal-chain h.old_start c.1 hs c.4)

context-chain : (least : ℕ) (piece : List (List ℕ)) (hs : List PlainHunk) → ChainAs Context least piece [] hs → context.SpellsHunks least piece [] hs
context-chain least piece [] c = c
context-chain least piece (h ∷ hs) c = (c.0, c.1, c.2, c.3, context-chain h.old_start c.1 hs c.4)

pub chain-piece : (form : Form) (body : List (List ℕ)) (hs : List PlainHunk) → IsHunkForm form → ChainAs form 0 body [] hs → IsPiece form 0 (body ++ []) (hunks hs) (length body) []
chain-piece Unified body hs is c = record { own = body; parts = refl; spelled = unified-chain 0 body hs c; ends = (refl, refl); counted = omega arith }
chain-piece Context body hs is c = record { own = body; parts = refl; spelled = context-chain 0 body hs c; ends = (refl, refl); counted = omega arith }
chain-piece Normal body hs is c = record { own = body; parts = refl; spelled = normal-chain 0 body hs c; ends = (refl, refl); counted = omega arith }
chain-piece Ed body hs is c = absurd is
