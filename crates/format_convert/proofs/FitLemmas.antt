-- Lines without their line feed, hunks that fall back and commands that are too large, seen one by one.
use Rattle.std.proofs.Common.{◌≡◌, ◌<◌, ℕ, ◌+◌, ◌-◌, Bool, true, false, not, ◌||◌, ◌&&◌, cond, List, [], ◌∷◌, ◌++◌, get_or, length, map, refl, sym, ap, ◌∙◌, append_assoc}
use Rattle.std.specs.Prelude.{◌==◌, filter, nat_lt, if◌then◌else◌}
use Rattle.std.specs.List.{flat_map, list_any, zip}
use Rattle.std.proofs.lemmas.List.Concat.{flat_map-cons}
use Rattle.hunk_core.specs.declared.Form.{Form}
use Rattle.hunk_core.specs.declared.Form.TheVariants.{Unified, Context, Normal, Ed}
use Rattle.hunk_core.specs.declared.Hunk.{Hunk}
use Rattle.hunk_core.specs.declared.Side.{Side}
use Rattle.hunk_core.specs.declared.Side.TheVariants.{Forward}
use Rattle.hunk_core.specs.Sides.{start_of, taken_count}
use Rattle.hunk_core.proofs.SideLemmas.{lines-counted}
use Rattle.hunk_core.proofs.TurnedLemmas.{turned-base}
use Rattle.hunk_core.specs.LineTests.{ends_line}
use Rattle.hunk_core.specs.PlainHunk.{Marked, PlainHunk, hunk_of, hunks_of, old_lines}
use Rattle.hunk_core.specs.Rules.{lacks_inner_end, is_too_large}
use Rattle.hunk_core.specs.Turned.{base}
use Rattle.format_convert.specs.Taken.{hunk_if, kept_hunks}
use Rattle.format_convert.specs.Blocks.{Block}
use Rattle.format_convert.specs.Fitting.{falls_behind, has_large_command, has_large_normal, has_open, is_large_ed, is_large_normal, is_own, own_lines}
use Rattle.format_convert.specs.Commands.{range_start}
use Rattle.format_convert.specs.Seeing.{ends_open, is_over_ed, is_large as large_of}
use Rattle.format_convert.specs.declared.block.Block.{Block as Size}
use Rattle.format_convert.specs.declared.normal.Net.{Net}
use Rattle.format_convert.specs.Walk.{IsKept, first_base, first_count, kept_flags, left_hunks, own_base, own_count, pairs}
use Rattle.format_convert.specs.declared.kept.Kept.{Kept}
use Rattle.format_convert.proofs.Rows.{pair-at}

-- ---- lines

or-false : (b : Bool) → (b || false) ≡ b
or-false true = refl
or-false false = refl

pub or-last : (r a b d : Bool) → a ≡ false → b ≡ false → r ≡ d → r ≡ (a || (b || d))
or-last r a b d first second is = is ∙ sym (ap (λ x. x || (b || d)) first ∙ ap (λ x. x || d) second)

or-more : (a b c : Bool) → (a || (b || c)) ≡ ((a || b) || c)
or-more true b c = refl
or-more false b c = refl

pub ends-last : (ls : List (List ℕ)) (line : List ℕ) → ends_open (ls ++ line ∷ []) ≡ not (ends_line line)
ends-last [] line = refl
ends-last (l ∷ []) line = refl
ends-last (l ∷ m ∷ ms) line = ends-last (m ∷ ms) line

pub lacks-last : (ls : List (List ℕ)) (line : List ℕ) → lacks_inner_end (ls ++ line ∷ []) ≡ (lacks_inner_end ls || ends_open ls)
lacks-last [] line = refl
lacks-last (l ∷ []) line = or-false (not (ends_line l))
lacks-last (l ∷ m ∷ ms) line = ap (λ b. not (ends_line l) || b) (lacks-last (m ∷ ms) line) ∙ or-more (not (ends_line l)) (lacks_inner_end (m ∷ ms)) (ends_open (m ∷ ms))

pub open-is : (ls : List (List ℕ)) → has_open ls ≡ (lacks_inner_end ls || ends_open ls)
open-is [] = refl
open-is (l ∷ []) = or-false (not (ends_line l))
open-is (l ∷ m ∷ ms) = ap (λ b. not (ends_line l) || b) (open-is (m ∷ ms)) ∙ or-more (not (ends_line l)) (lacks_inner_end (m ∷ ms)) (ends_open (m ∷ ms))

pub either-open : (t e i d : Bool) → ((t && e) || (d || i)) ≡ ((t && (i || e)) || (d || i))
either-open false e i d = refl
either-open true e false d = refl
either-open true true true d = refl
either-open true false true true = refl
either-open true false true false = refl

own-one : (b : Bool) (m : Marked) (ms : List Marked) (side : Side) → map (λ (x : Marked). x.line) (cond b (m ∷ filter (λ (x : Marked). is_own side x.mark) ms) (filter (λ (x : Marked). is_own side x.mark) ms)) ≡ map (λ (x : Marked). x.line) (cond b (m ∷ []) []) ++ own_lines side ms
own-one true m ms side = refl
own-one false m ms side = refl

pub own-append : (side : Side) (xs ys : List Marked) → own_lines side (xs ++ ys) ≡ own_lines side xs ++ own_lines side ys
own-append side [] ys = refl
own-append side (x ∷ xs) ys =
    own-one (is_own side x.mark) x (xs ++ ys) side
    ∙ ap (λ t. map (λ (m : Marked). m.line) (cond (is_own side x.mark) (x ∷ []) []) ++ t) (own-append side xs ys)
    ∙ sym (append_assoc (map (λ (m : Marked). m.line) (cond (is_own side x.mark) (x ∷ []) [])) (own_lines side xs) (own_lines side ys))
    ∙ ap (λ t. t ++ own_lines side ys) (sym (own-one (is_own side x.mark) x xs side))

own-to : (b : Bool) (m : Marked) → map (λ (x : Marked). x.line) (cond b (m ∷ []) []) ≡ cond b (m.line ∷ []) []
own-to true m = refl
own-to false m = refl

pub own-none : (side : Side) (m : Marked) → is_own side m.mark ≡ false → own_lines side (m ∷ []) ≡ []
own-none side m is = own-to (is_own side m.mark) m ∙ ap (λ b. cond b (m.line ∷ []) []) is

pub own-some : (side : Side) (m : Marked) → is_own side m.mark ≡ true → own_lines side (m ∷ []) ≡ m.line ∷ []
own-some side m is = own-to (is_own side m.mark) m ∙ ap (λ b. cond b (m.line ∷ []) []) is

-- ---- hunks

abbrev pub hunks_if : List ℕ → Bool × Hunk → List PlainHunk
hunks_if text row = hunk_if (row.0, hunk_of text row.1)

rows-are : (text : List ℕ) (fs : List Bool) (hs : List Hunk) → kept_hunks fs (hunks_of text hs) ≡ flat_map (hunks_if text) (zip fs hs)
rows-are text [] hs = refl
rows-are text (b ∷ fs) [] = refl
rows-are text (b ∷ fs) (h ∷ hs) =
    flat_map-cons hunk_if (b, hunk_of text h) (zip fs (hunks_of text hs))
    ∙ ap (λ xs. hunk_if (b, hunk_of text h) ++ xs) (rows-are text fs hs)
    ∙ sym (flat_map-cons (hunks_if text) (b, h) (zip fs hs))

pub left-are : (k : Kept) → left_hunks k ≡ flat_map (hunks_if k.set.now.text) (pairs k)
left-are k = rows-are k.set.now.text (kept_flags k) k.hunks.now

abbrev base_on : Side → Hunk → ℕ
base_on side h = if taken_count side h.body.items == 0 then start_of side h + 1 else start_of side h

-- where a hunk stands, and how many old lines it has
pub base-at : (k : Kept) (is : IsKept k) (i : ℕ) (h : Hunk) → i < length k.hunks.now → h ≡ get_or k.hunks.now i h → base_on Forward (get_or k.hunks.now i h) ≡ own_base k i
base-at k is i h lt at = ap (base_on Forward) (sym at) ∙ sym (turned-base k.set.now.text Forward h) ∙ sym (ap (first_base k.set.now.text) (pair-at k is i h lt at))

pub count-at : (k : Kept) (is : IsKept k) (i : ℕ) (h : Hunk) → i < length k.hunks.now → h ≡ get_or k.hunks.now i h → taken_count Forward (get_or k.hunks.now i h).body.items ≡ own_count k i
count-at k is i h lt at = ap (λ (x : Hunk). taken_count Forward x.body.items) (sym at) ∙ sym (lines-counted k.set.now.text Forward h.body.items) ∙ sym (ap (first_count k.set.now.text) (pair-at k is i h lt at))

pub falls-none : (end : ℕ) → falls_behind end [] ≡ false
unfolding falls_behind
falls-none end = refl

pub falls-cons : (end : ℕ) (h : PlainHunk) (hs : List PlainHunk) → falls_behind end (h ∷ hs) ≡ (nat_lt (base h) end || falls_behind (base h + length (old_lines h.body)) hs)
unfolding falls_behind
falls-cons end h hs = refl

-- a hunk that is kept or not, in front of others
pub falls-row : (b : Bool) (end : ℕ) (h : PlainHunk) (hs : List PlainHunk) → falls_behind end (hunk_if (b, h) ++ hs) ≡ ((b && nat_lt (base h) end) || falls_behind (cond b (base h + length (old_lines h.body)) end) hs)
falls-row true end h hs = falls-cons end h hs
falls-row false end h hs = refl

-- ---- blocks

pub large-none : (adds drops : ℕ) → has_large_normal adds drops [] ≡ false
unfolding has_large_normal
large-none adds drops = refl

pub large-cons : (adds drops : ℕ) (b : Block) (bs : List Block) → has_large_normal adds drops (b ∷ bs) ≡ (is_large_normal adds drops b || has_large_normal (adds + length b.added) (drops + length b.dropped) bs)
unfolding has_large_normal
large-cons adds drops b bs = refl

-- the same of any form, behind blocks with this net
abbrev pub has_large : Form → ℕ → ℕ → List Block → Bool
has_large Unified adds drops bs = false
has_large Context adds drops bs = false
has_large Normal adds drops bs = has_large_normal adds drops bs
has_large Ed adds drops bs = list_any is_large_ed bs

abbrev pub is_large : Form → ℕ → ℕ → Block → Bool
is_large Unified adds drops b = false
is_large Context adds drops b = false
is_large Normal adds drops b = is_large_normal adds drops b
is_large Ed adds drops b = is_large_ed b

pub large-whole : (form : Form) (bs : List Block) → has_large_command form bs ≡ has_large form 0 0 bs
large-whole Unified bs = refl
large-whole Context bs = refl
large-whole Normal bs = refl
large-whole Ed bs = refl

pub large-end : (form : Form) (adds drops : ℕ) → has_large form adds drops [] ≡ false
large-end Unified adds drops = refl
large-end Context adds drops = refl
large-end Normal adds drops = large-none adds drops
large-end Ed adds drops = refl

pub large-next : (form : Form) (adds drops : ℕ) (b : Block) (bs : List Block) → has_large form adds drops (b ∷ bs) ≡ (is_large form adds drops b || has_large form (adds + length b.added) (drops + length b.dropped) bs)
large-next Unified adds drops b bs = refl
large-next Context adds drops b bs = refl
large-next Normal adds drops b bs = large-cons adds drops b bs
large-next Ed adds drops b bs = refl

-- a block whose lines were counted
abbrev sized : Form → ℕ → ℕ → ℕ → ℕ → ℕ → Bool
sized Unified adds drops q old new = false
sized Context adds drops q old new = false
sized Normal adds drops q old new = is_too_large (range_start q old) old || is_too_large (range_start (q + adds - drops) new) new
sized Ed adds drops q old new = is_over_ed q old

to-sized : (form : Form) (n : Net) (b : Size) → large_of form n b ≡ sized form n.adds n.drops b.first b.drops b.adds
to-sized Unified n b = refl
to-sized Context n b = refl
to-sized Normal n b = refl
to-sized Ed n b = refl

from-sized : (form : Form) (adds drops : ℕ) (b : Block) → sized form adds drops b.first (length b.dropped) (length b.added) ≡ is_large form adds drops b
from-sized Unified adds drops b = refl
from-sized Context adds drops b = refl
from-sized Normal adds drops b = refl
from-sized Ed adds drops b = refl

pub large-block : (form : Form) (n : Net) (b : Size) (dropped added : List (List ℕ)) → b.drops ≡ length dropped → b.adds ≡ length added → large_of form n b ≡ is_large form n.adds n.drops (record { first = b.first; dropped = dropped; added = added })
large-block form n b dropped added e f =
    to-sized form n b
    ∙ ap (λ x. sized form n.adds n.drops b.first x b.adds) e
    ∙ ap (λ x. sized form n.adds n.drops b.first (length dropped) x) f
    ∙ from-sized form n.adds n.drops (record { first = b.first; dropped = dropped; added = added })
