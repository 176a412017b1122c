-- Hunks of which some are left out still spell those that are kept.
use Rattle.std.proofs.Common.{◌≡◌, ◌≤◌, ℕ, Bool, true, false, cond, ◌||◌, List, [], ◌∷◌, ◌++◌, length, None, refl, sym, ap, ◌∙◌, arith, append_assoc}
use Rattle.std.specs.Prelude.{replicate}
use Rattle.std.specs.List.{list_any}
use Rattle.std.proofs.lemmas.List.{length-map}
use Rattle.std.proofs.lemmas.List.Concat.{flat_map-cons}
use Rattle.line_list.specs.Lines.{lines}
use Rattle.line_list.specs.declared.Span.{Span}
use Rattle.hunk_core.specs.declared.Side.TheVariants.{Reversed}
use Rattle.hunk_core.specs.LineTests.{after}
use Rattle.hunk_core.specs.PlainHunk.{PlainHunk, bytes_at}
use Rattle.hunk_core.specs.Pieces.{SpellInTurn}
use Rattle.hunk_core.proofs.TextLemmas.{has_some, after-takes}
use Rattle.unified_form.specs.Grammar as unified
use Rattle.unified_form.specs.Hunks as unified_hunks
use Rattle.unified_form.proofs.Pieces as unified_pieces
use Rattle.context_form.specs.Openings as context_hunks
use Rattle.context_form.specs.Parts.{mark_at}
use Rattle.context_form.specs.Presence.{may_begin, begins_part}
use Rattle.context_form.specs.Grammar as context
use Rattle.context_form.proofs.Pieces as context_pieces
use Rattle.normal_form.specs.Grammar as normal
use Rattle.normal_form.specs.Hunks as normal_hunks
use Rattle.normal_form.proofs.Pieces as normal_pieces
use Rattle.law_reading.proofs.Spelling.{not-there, hunk-told}
use Rattle.law_filters.specs.LeftPatches.{those}
use Rattle.law_filters.proofs.Cutting.{owns_of, flat}

-- ---- hunks in turn

abbrev pub Relation : Type 1
Relation = ℕ → List (List ℕ) → PlainHunk → Type 0

-- each of these lines spells its hunk, behind one that starts at least
abbrev InTurn : Relation → ℕ → List (List (List ℕ)) → List PlainHunk → Type 0
InTurn Spells least [] [] = Unit {0}
InTurn Spells least [] (h ∷ hs) = ⊥
InTurn Spells least (own ∷ owns) [] = ⊥
InTurn Spells least (own ∷ owns) (h ∷ hs) = Spells least own h × InTurn Spells h.old_start owns hs

turn-owns : (Spells : Relation) (text : List ℕ) (least : ℕ) (ss : List Span) (hs : List PlainHunk) → SpellInTurn Spells text least ss hs → InTurn Spells least (owns_of text ss) hs
turn-owns Spells text least [] [] h = tt
turn-owns Spells text least [] (x ∷ hs) h = absurd h
turn-owns Spells text least (s ∷ ss) [] h = absurd h
turn-owns Spells text least (s ∷ ss) (x ∷ hs) h = (h.0, turn-owns Spells text x.old_start ss hs h.1)

module _ (Spells : Relation) (order : (least : ℕ) (own : List (List ℕ)) (h : PlainHunk) → Spells least own h → least ≤ h.old_start) (weaken : (least lower : ℕ) (own : List (List ℕ)) (h : PlainHunk) → lower ≤ least → Spells least own h → Spells lower own h) where
  keep : (flags : List Bool) (least lower : ℕ) (owns : List (List (List ℕ))) (hs : List PlainHunk) → lower ≤ least → InTurn Spells least owns hs → InTurn Spells lower (those flags owns) (those flags hs)
  keep [] least lower owns hs le h = tt
  keep (b ∷ flags) least lower [] [] le h = tt
  keep (b ∷ flags) least lower [] (x ∷ hs) le h = absurd h
  keep (b ∷ flags) least lower (own ∷ owns) [] le h = absurd h
  keep (b ∷ flags) least lower (own ∷ owns) (x ∷ hs) le h =
      let far : lower ≤ x.old_start = omega (arith, le, order least own x h.0) in
      by b (keep flags x.old_start x.old_start owns hs (omega arith) h.1) (keep flags x.old_start lower owns hs far h.1)
    where
      by : (v : Bool) → InTurn Spells x.old_start (those flags owns) (those flags hs) → InTurn Spells lower (those flags owns) (those flags hs) → InTurn Spells lower (cond v (own ∷ those flags owns) (those flags owns)) (cond v (x ∷ those flags hs) (those flags hs))
      by true on off = (weaken least lower own x le h.0, on)
      by false on off = off

-- some element is kept
any-kept : {A : Type 0} (flags : List Bool) (xs : List A) → length flags ≡ length xs → list_any (λ is. is) flags ≡ true → (x : A) × (rest : List A) × (those flags xs ≡ x ∷ rest)
any-kept [] xs e h = absurd cc
any-kept (b ∷ flags) [] e h = absurd (omega (arith, e))
any-kept {A = A} (b ∷ flags) (x ∷ xs) e h = by b h (any-kept flags xs (omega (arith, e)))
  where
    by : (v : Bool) → (v || list_any (λ is. is) flags) ≡ true → (list_any (λ is. is) flags ≡ true → (y : A) × (rest : List A) × (those flags xs ≡ y ∷ rest)) → (y : A) × (rest : List A) × (cond v (x ∷ those flags xs) (those flags xs) ≡ y ∷ rest)
    by true k more = (x, those flags xs, refl)
    by false k more = more k

-- ---- the forms

unified-order : (least : ℕ) (own : List (List ℕ)) (h : PlainHunk) → unified.SpellsHunk least own h → least ≤ h.old_start
unified-order least [] h s = absurd s
unified-order least (line ∷ rest) h s = s.1.order

unified-weaken : (least lower : ℕ) (own : List (List ℕ)) (h : PlainHunk) → lower ≤ least → unified.SpellsHunk least own h → unified.SpellsHunk lower own h
unified-weaken least lower [] h le s = s
unified-weaken least lower (line ∷ rest) h le s = let far : least ≤ h.old_start = s.1.order in (s.0, record { old_begins = s.1.old_begins; new_begins = s.1.new_begins; fits = s.1.fits; counts = s.1.counts; order = omega arith }, s.2)

normal-order : (least : ℕ) (own : List (List ℕ)) (h : PlainHunk) → normal.SpellsHunk least own h → least ≤ h.old_start
normal-order least [] h s = absurd s
normal-order least (line ∷ rest) h s = s.5.order

normal-weaken : (least lower : ℕ) (own : List (List ℕ)) (h : PlainHunk) → lower ≤ least → normal.SpellsHunk least own h → normal.SpellsHunk lower own h
normal-weaken least lower [] h le s = s
normal-weaken least lower (line ∷ rest) h le s = let far : least ≤ h.old_start = s.5.order in (s.0, s.1, s.2, s.3, s.4, record { fits = s.5.fits; order = omega arith }, s.6)

context-order : (least : ℕ) (own : List (List ℕ)) (h : PlainHunk) → context.SpellsPiece least own h → least ≤ h.old_start
context-order least own h s = s.order

context-weaken : (least lower : ℕ) (own : List (List ℕ)) (h : PlainHunk) → lower ≤ least → context.SpellsPiece least own h → context.SpellsPiece lower own h
context-weaken least lower own h le s = let far : least ≤ h.old_start = s.order in record {
  stars = s.stars;
  old_line = s.old_line;
  old = s.old;
  new_line = s.new_line;
  new = s.new;
  parts = s.parts;
  asterisks = s.asterisks;
  old_single = s.old_single;
  new_single = s.new_single;
  old_range = s.old_range;
  new_range = s.new_range;
  old_part = s.old_part;
  new_part = s.new_part;
  some = s.some;
  drops = s.drops;
  old_fits = s.old_fits;
  new_fits = s.new_fits;
  begins = s.begins;
  order = omega arith;
  told = s.told;
}

-- ---- one behind the other

unified-flat : (least : ℕ) (owns : List (List (List ℕ))) (hs : List PlainHunk) → InTurn unified.SpellsHunk least owns hs → unified.SpellsHunks least (flat owns) hs
unified-flat least [] [] h = refl
unified-flat least [] (x ∷ hs) h = absurd h
unified-flat least (own ∷ owns) [] h = absurd h
unified-flat least (own ∷ owns) (x ∷ hs) h = (own, flat owns, flat_map-cons (λ (l : List (List ℕ)). l) own owns, h.0, unified-flat x.old_start owns hs h.1)

normal-flat : (least : ℕ) (owns : List (List (List ℕ))) (hs : List PlainHunk) → InTurn normal.SpellsHunk least owns hs → normal.SpellsHunks least (flat owns) hs
normal-flat least [] [] h = refl
normal-flat least [] (x ∷ hs) h = absurd h
normal-flat least (own ∷ owns) [] h = absurd h
normal-flat least (own ∷ owns) (x ∷ hs) h = (own, flat owns, flat_map-cons (λ (l : List (List ℕ)). l) own owns, h.0, normal-flat x.old_start owns hs h.1)

stars-line : (line rest : List ℕ) → line ≡ replicate 15 42 ++ rest → mark_at Reversed line ≡ None
stars-line line rest e = rw e refl

no-stars_part : (k : Bool) (line : List ℕ) (more : List (List ℕ)) → context_hunks.is_stars line ≡ true → begins_part k (line ∷ more) ≡ false
no-stars_part k line more h =
    let some = has_some (after (replicate 15 42) line) h in
    ap (may_begin k) (stars-line line some.0 (after-takes (replicate 15 42) line some.0 some.1))

-- no new part begins where a hunk does, or nothing follows
no-hunk_part : (k : Bool) (least : ℕ) (owns : List (List (List ℕ))) (hs : List PlainHunk) → InTurn context.SpellsPiece least owns hs → begins_part k (flat owns ++ []) ≡ false
no-hunk_part k least [] [] h = refl
no-hunk_part k least [] (x ∷ hs) h = absurd h
no-hunk_part k least (own ∷ owns) [] h = absurd h
no-hunk_part k least (own ∷ owns) (x ∷ hs) h =
    let s = h.0 in
    ap (λ ls. begins_part k (ls ++ [])) (flat_map-cons (λ (l : List (List ℕ)). l) own owns ∙ ap (λ l. l ++ flat owns) s.parts)
    ∙ no-stars_part k s.stars (((s.old_line ∷ (s.old ++ s.new_line ∷ s.new)) ++ flat owns) ++ []) s.asterisks

context-flat : (least : ℕ) (owns : List (List (List ℕ))) (hs : List PlainHunk) → InTurn context.SpellsPiece least owns hs → context.SpellsHunks least (flat owns) [] hs
context-flat least [] [] h = refl
context-flat least [] (x ∷ hs) h = absurd h
context-flat least (own ∷ owns) [] h = absurd h
context-flat least (own ∷ owns) (x ∷ hs) h =
    (own, flat owns, flat_map-cons (λ (l : List (List ℕ)). l) own owns, hunk-told least own [] (flat owns ++ []) x (λ s olds none. not-there s olds (flat owns ++ []) (λ k. no-hunk_part k x.old_start owns hs h.1)) h.0, context-flat x.old_start owns hs h.1)

-- ---- what is kept

-- the kept pieces spell the kept hunks, and where some is kept, one opens them
pub record Kept (Spelled : List (List ℕ) → List PlainHunk → Type 0) (begins : List (List ℕ) → Bool) (text : List ℕ) (flags : List Bool) (ss : List Span) (hs : List PlainHunk) : Type 0 where
  pub spelled : Spelled (flat (those flags (owns_of text ss))) (those flags hs)
  pub opens : (tail : List (List ℕ)) → list_any (λ is. is) flags ≡ true → length flags ≡ length ss → begins (flat (those flags (owns_of text ss)) ++ tail) ≡ true

module _ (Spells : Relation) (begins : List (List ℕ) → Bool) (opens : (least : ℕ) (own tail : List (List ℕ)) (h : PlainHunk) → Spells least own h → begins (own ++ tail) ≡ true) where
  first-opens : (least : ℕ) (owns : List (List (List ℕ))) (hs : List PlainHunk) (tail : List (List ℕ)) → InTurn Spells least owns hs → (own : List (List ℕ)) × (rest : List (List (List ℕ))) × (owns ≡ own ∷ rest) → begins (flat owns ++ tail) ≡ true
  first-opens least [] hs tail h some = absurd (let e : [] ≡ some.0 ∷ some.1 = some.2 in cc)
  first-opens least (own ∷ owns) [] tail h some = absurd h
  first-opens least (own ∷ owns) (x ∷ hs) tail h some =
      ap (λ ls. begins (ls ++ tail)) (flat_map-cons (λ (l : List (List ℕ)). l) own owns)
      ∙ ap begins (append_assoc own (flat owns) tail)
      ∙ opens least own (flat owns ++ tail) x h.0

  kept-opens : (text : List ℕ) (flags : List Bool) (ss : List Span) (hs : List PlainHunk) → InTurn Spells 0 (those flags (owns_of text ss)) (those flags hs) → (tail : List (List ℕ)) → list_any (λ is. is) flags ≡ true → length flags ≡ length ss → begins (flat (those flags (owns_of text ss)) ++ tail) ≡ true
  kept-opens text flags ss hs h tail any size = first-opens 0 (those flags (owns_of text ss)) (those flags hs) tail h (any-kept flags (owns_of text ss) (size ∙ sym (length-map ss (λ (s : Span). lines (bytes_at text s)))) any)

pub unified-kept : (text : List ℕ) (flags : List Bool) (ss : List Span) (hs : List PlainHunk) → SpellInTurn unified.SpellsHunk text 0 ss hs → Kept (unified.SpellsHunks 0) unified_hunks.begins_hunk text flags ss hs
unified-kept text flags ss hs h =
    let turn = keep unified.SpellsHunk unified-order unified-weaken flags 0 0 (owns_of text ss) hs (omega arith) (turn-owns unified.SpellsHunk text 0 ss hs h) in
    record { spelled = unified-flat 0 (those flags (owns_of text ss)) (those flags hs) turn; opens = kept-opens unified.SpellsHunk unified_hunks.begins_hunk unified_pieces.hunk_opens text flags ss hs turn }

pub normal-kept : (text : List ℕ) (flags : List Bool) (ss : List Span) (hs : List PlainHunk) → SpellInTurn normal.SpellsHunk text 0 ss hs → Kept (normal.SpellsHunks 0) normal_hunks.begins_hunk text flags ss hs
normal-kept text flags ss hs h =
    let turn = keep normal.SpellsHunk normal-order normal-weaken flags 0 0 (owns_of text ss) hs (omega arith) (turn-owns normal.SpellsHunk text 0 ss hs h) in
    record { spelled = normal-flat 0 (those flags (owns_of text ss)) (those flags hs) turn; opens = kept-opens normal.SpellsHunk normal_hunks.begins_hunk normal_pieces.hunk_opens text flags ss hs turn }

pub context-kept : (text : List ℕ) (flags : List Bool) (ss : List Span) (hs : List PlainHunk) → SpellInTurn context.SpellsPiece text 0 ss hs → Kept (λ own hs. context.SpellsHunks 0 own [] hs) context_hunks.begins_hunk text flags ss hs
context-kept text flags ss hs h =
    let turn = keep context.SpellsPiece context-order context-weaken flags 0 0 (owns_of text ss) hs (omega arith) (turn-owns context.SpellsPiece text 0 ss hs h) in
    record { spelled = context-flat 0 (those flags (owns_of text ss)) (those flags hs) turn; opens = kept-opens context.SpellsPiece context_hunks.begins_hunk (λ least own tail x s. context_pieces.hunk_opens least own [] tail x s) text flags ss hs turn }
