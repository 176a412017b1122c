-- Blocks that are written as normal commands are read again.
use Rattle.std.proofs.Common.{◌≡◌, ℕ, zero, suc, ◌+◌, ◌-◌, ◌<◌, ◌≤◌, Bool, true, false, cond, not, eqb, ◌||◌, ◌&&◌, List, [], ◌∷◌, ◌++◌, length, map, None, Some, refl, sym, ap, subst, ◌∙◌, arith}
use Rattle.std.specs.Prelude.{filter}
use Rattle.std.specs.List.{AllByRecursion, flat_map}
use Rattle.std.proofs.lemmas.List.{length-append, length-map}
use Rattle.std.proofs.lemmas.Bool.{or_parts, or_from}
use Rattle.hunk_core.specs.declared.Form.TheVariants.{Normal}
use Rattle.hunk_core.specs.declared.Side.{Side}
use Rattle.hunk_core.specs.declared.Side.TheVariants.{Forward, Reversed}
use Rattle.hunk_core.specs.declared.check.BadHunk.TheVariants.{NoLines, Start, Sum, InnerEnd}
use Rattle.hunk_core.specs.PlainHunk.{Marked, PlainHunk, new_lines, old_lines}
use Rattle.hunk_core.specs.Rules.{HasNoInnerFeed, lacks_inner_end, runs_over, starts_at_zero}
use Rattle.normal_form.specs.Canonical.{canonical, in_order, lines_text}
use Rattle.normal_form.specs.Grammar.{on_side}
use Rattle.normal_form.proofs.Unbroken.{old-lines-are, new-lines-are}
use Rattle.patch_header.specs.declared.read_options.ReadOptions.{ReadOptions}
use Rattle.read_file_patch.specs.PlainPatch.{hunks}
use Rattle.format_convert.specs.Blocks.{Block, blocks_in, hunk_edits}
use Rattle.format_convert.specs.Commands.{command_text, new_first, normal_behind, normal_command, range_start}
use Rattle.format_convert.specs.Fitting.{changed_lines, falls_back, has_large_normal, is_large_normal, is_own, is_unfit, own_lines}
use Rattle.format_convert.proofs.FitLemmas.{large-cons}
use Rattle.format_convert.proofs.NormalLemmas.{behind-cons, behind-none}
use Rattle.flip_patch.specs.Flipped.{hunk_text}
use Rattle.law_reading.specs.TurnedPatches.{as_shown}
use Rattle.law_reading.proofs.Feeds.{NoInner, on-side-inner, side-inner}
use Rattle.law_reading.proofs.Hunks.{ChainAs, IsGood, Rising, body-of, chain-piece}
use Rattle.law_reading.proofs.FlipReading.{HasHunk, opens-body}
use Rattle.hunk_core.proofs.TextLemmas.{some-not}
use Rattle.law_filters.specs.ReadAgain.{block_hunk, block_hunks}
use Rattle.law_filters.proofs.Blocks.{Apart, IsSome, blocks-apart, blocks-lines, blocks-some, edits-climb, holds-each, hunks-lines, lacks-each, lines_by}
use Rattle.law_filters.proofs.Shown.{Body}

-- ---- the hunk of a block keeps the rules

all-false : (a b c d : Bool) → a ≡ false → b ≡ false → c ≡ false → d ≡ false → cond a (Some NoLines) (cond b (Some Start) (cond c (Some Sum) (cond d (Some InnerEnd) None))) ≡ None
all-false a b c d p q r s = rw (p, q, r, s) refl

some-lines : (n : ℕ) → 1 ≤ n → eqb n 0 ≡ false
some-lines zero some = absurd (omega (arith, some))
some-lines (suc n) some = some-not n

begins-one : (first : ℕ) (side : List (List ℕ)) → 1 ≤ first → starts_at_zero (range_start first (length side)) side ≡ false
begins-one first [] low = by (eqb (range_start first 0) 0)
  where
    by : (v : Bool) → (v && false) ≡ false
    by true = refl
    by false = refl
begins-one zero (l ∷ side) low = absurd (omega (arith, low))
begins-one (suc first) (l ∷ side) low = rw (some-not (length side), some-not first) refl

range-low : (first n : ℕ) → first - 1 ≤ range_start first n
range-low first n = by (eqb n 0)
  where
    by : (v : Bool) → first - 1 ≤ cond v (first - 1) first
    by true = omega arith
    by false = omega arith

range-high : (first n : ℕ) → range_start first n ≤ first
range-high first n = by (eqb n 0)
  where
    by : (v : Bool) → cond v (first - 1) first ≤ first
    by true = omega arith
    by false = omega arith

record Keeps (adds drops : ℕ) (b : Block) : Type 0 where
  some : IsSome b
  first : 1 ≤ b.first
  new : 1 ≤ new_first adds drops b
  small : is_large_normal adds drops b ≡ false
  dropped : lacks_inner_end b.dropped ≡ false
  added : lacks_inner_end b.added ≡ false
  dropped_clean : AllByRecursion NoInner b.dropped
  added_clean : AllByRecursion NoInner b.added

block-good : (adds drops : ℕ) (b : Block) → Keeps adds drops b → IsGood (block_hunk adds drops b)
block-good adds drops b k =
    let body : List Marked = on_side Forward b.dropped ++ on_side Reversed b.added in
    let olds : old_lines body ≡ b.dropped = old-lines-are b.dropped b.added in
    let news : new_lines body ≡ b.added = new-lines-are b.dropped b.added in
    let h : PlainHunk = block_hunk adds drops b in
    let long : length body ≡ length b.dropped + length b.added = length-append (on_side Forward b.dropped) (on_side Reversed b.added) ∙ ap (λ n. n + length (on_side Reversed b.added)) (length-map b.dropped _) ∙ ap (λ n. length b.dropped + n) (length-map b.added _) in
    let starts : (starts_at_zero h.old_start (old_lines body) || starts_at_zero h.new_start (new_lines body)) ≡ false =
    ap (λ ls. starts_at_zero h.old_start ls || starts_at_zero h.new_start (new_lines body)) olds ∙ ap (λ ls. starts_at_zero h.old_start b.dropped || starts_at_zero h.new_start ls) news
    ∙ or_from _ _ (begins-one b.first b.dropped k.first) (begins-one (new_first adds drops b) b.added k.new) in
    let sums : (runs_over h.old_start (old_lines body) || runs_over h.new_start (new_lines body)) ≡ false =
    ap (λ ls. runs_over h.old_start ls || runs_over h.new_start (new_lines body)) olds ∙ ap (λ ls. runs_over h.old_start b.dropped || runs_over h.new_start ls) news ∙ k.small in
    let ends : (lacks_inner_end (old_lines body) || lacks_inner_end (new_lines body)) ≡ false =
    ap (λ ls. lacks_inner_end ls || lacks_inner_end (new_lines body)) olds ∙ ap (λ ls. lacks_inner_end b.dropped || lacks_inner_end ls) news ∙ or_from _ _ k.dropped k.added in
    record {
      unbroken = all-false _ _ _ _ (some-lines (length body) (omega (arith, long, k.some.some))) starts sums ends;
      clean = on-side-inner Forward b.dropped (on_side Reversed b.added) k.dropped_clean (side-inner Reversed b.added k.added_clean);
    }

-- ---- those of all blocks

pub hunks-none : (adds drops : ℕ) → block_hunks adds drops [] ≡ []
unfolding block_hunks
hunks-none adds drops = refl

pub hunks-cons : (adds drops : ℕ) (b : Block) (bs : List Block) → block_hunks adds drops (b ∷ bs) ≡ block_hunk adds drops b ∷ block_hunks (adds + length b.added) (drops + length b.dropped) bs
unfolding block_hunks
hunks-cons adds drops b bs = refl

record AllKeep (bs : List Block) : Type 0 where
  some : AllByRecursion IsSome bs
  dropped : AllByRecursion (λ b. lacks_inner_end (lines_by Forward b) ≡ false) bs
  added : AllByRecursion (λ b. lacks_inner_end (lines_by Reversed b) ≡ false) bs
  dropped_clean : AllByRecursion (λ b. AllByRecursion NoInner (lines_by Forward b)) bs
  added_clean : AllByRecursion (λ b. AllByRecursion NoInner (lines_by Reversed b)) bs

blocks-good : (adds drops end : ℕ) (bs : List Block) → drops ≤ end → Apart end bs → AllKeep bs → has_large_normal adds drops bs ≡ false → AllByRecursion IsGood (block_hunks adds drops bs)
blocks-good adds drops end [] low apart k small = subst (AllByRecursion IsGood) (sym (hunks-none adds drops)) tt
blocks-good adds drops end (b ∷ bs) low apart k small =
    let both = or_parts (is_large_normal adds drops b) (has_large_normal (adds + length b.added) (drops + length b.dropped) bs) (sym (large-cons adds drops b bs) ∙ small) in
    let behind : end < b.first = apart.0 in
    let keeps : Keeps adds drops b = record {
      some = k.some.0;
      first = omega (arith, behind);
      new = omega (arith, behind, low);
      small = both.0;
      dropped = k.dropped.0;
      added = k.added.0;
      dropped_clean = k.dropped_clean.0;
      added_clean = k.added_clean.0;
    } in
    let later = blocks-good (adds + length b.added) (drops + length b.dropped) (b.first + length b.dropped) bs (omega (arith, behind, low)) apart.1 (record { some = k.some.1; dropped = k.dropped.1; added = k.added.1; dropped_clean = k.dropped_clean.1; added_clean = k.added_clean.1 }) both.1 in
    subst (AllByRecursion IsGood) (sym (hunks-cons adds drops b bs)) (block-good adds drops b keeps, later)

blocks-rise : (from adds drops end : ℕ) (bs : List Block) → from ≤ end → Apart end bs → Rising from (map (λ h. h.old_start) (block_hunks adds drops bs))
blocks-rise from adds drops end [] low apart = subst (λ (hs : List PlainHunk). Rising from (map (λ h. h.old_start) hs)) (sym (hunks-none adds drops)) tt
blocks-rise from adds drops end (b ∷ bs) low apart =
    let behind : end < b.first = apart.0 in
    let more = blocks-rise (range_start b.first (length b.dropped)) (adds + length b.added) (drops + length b.dropped) (b.first + length b.dropped) bs (omega (arith, range-high b.first (length b.dropped))) apart.1 in
    subst (λ (hs : List PlainHunk). Rising from (map (λ h. h.old_start) hs)) (sym (hunks-cons adds drops b bs)) (omega (arith, low, behind, range-low b.first (length b.dropped)), more)

block-text : (adds drops : ℕ) (b : Block) → canonical (block_hunk adds drops b) ≡ normal_command adds drops b
block-text adds drops b =
    let h : PlainHunk = block_hunk adds drops b in
    ap (λ ls. lines_text h.old_start h.new_start ls (new_lines h.body)) (old-lines-are b.dropped b.added)
    ∙ ap (λ ls. lines_text h.old_start h.new_start b.dropped ls) (new-lines-are b.dropped b.added)

blocks-text : (adds drops : ℕ) (bs : List Block) → flat_map (hunk_text Normal) (block_hunks adds drops bs) ≡ normal_behind adds drops bs
blocks-text adds drops [] = ap (flat_map (hunk_text Normal)) (hunks-none adds drops) ∙ sym (behind-none adds drops)
blocks-text adds drops (b ∷ bs) =
    ap (flat_map (hunk_text Normal)) (hunks-cons adds drops b bs)
    ∙ ap (λ x. x ++ flat_map (hunk_text Normal) (block_hunks (adds + length b.added) (drops + length b.dropped) bs)) (block-text adds drops b)
    ∙ ap (λ x. normal_command adds drops b ++ x) (blocks-text (adds + length b.added) (drops + length b.dropped) bs)
    ∙ sym (behind-cons adds drops b bs)

abbrev with_body : PlainHunk → List Marked → PlainHunk
with_body h body = record { old_start = h.old_start; new_start = h.new_start; body = body }

block-order : (adds drops : ℕ) (b : Block) → in_order (block_hunk adds drops b) ≡ block_hunk adds drops b
block-order adds drops b =
    let h : PlainHunk = block_hunk adds drops b in
    ap (λ ls. with_body h (on_side Forward ls ++ on_side Reversed (new_lines h.body))) (old-lines-are b.dropped b.added)
    ∙ ap (λ ls. with_body h (on_side Forward b.dropped ++ on_side Reversed ls)) (new-lines-are b.dropped b.added)

blocks-order : (adds drops : ℕ) (bs : List Block) → map (as_shown Normal) (block_hunks adds drops bs) ≡ block_hunks adds drops bs
blocks-order adds drops [] = ap (map (as_shown Normal)) (hunks-none adds drops) ∙ sym (hunks-none adds drops)
blocks-order adds drops (b ∷ bs) =
    ap (map (as_shown Normal)) (hunks-cons adds drops b bs)
    ∙ ap (λ h. h ∷ map (as_shown Normal) (block_hunks (adds + length b.added) (drops + length b.dropped) bs)) (block-order adds drops b)
    ∙ ap (λ hs. block_hunk adds drops b ∷ hs) (blocks-order (adds + length b.added) (drops + length b.dropped) bs)
    ∙ sym (hunks-cons adds drops b bs)

some-hunks : (bs : List Block) → not (eqb (length bs) 0) ≡ true → HasHunk (block_hunks 0 0 bs)
some-hunks [] e = absurd (cc)
some-hunks (b ∷ bs) e = subst HasHunk (sym (hunks-cons 0 0 b bs)) tt

-- ---- a change

own-clean : (side : Side) (ms : List Marked) → AllByRecursion HasNoInnerFeed ms → AllByRecursion NoInner (own_lines side ms)
own-clean side [] all = tt
own-clean side (m ∷ ms) all = by (is_own side m.mark) (own-clean side ms all.1)
  where
    by : (v : Bool) → AllByRecursion NoInner (own_lines side ms) → AllByRecursion NoInner (map (λ (x : Marked). x.line) (cond v (m ∷ filter (λ x. is_own side x.mark) ms) (filter (λ x. is_own side x.mark) ms)))
    by true later = (all.0, later)
    by false later = later

both-all : (P : List ℕ → Type 0) (xs ys : List (List ℕ)) → AllByRecursion P xs → AllByRecursion P ys → AllByRecursion P (xs ++ ys)
both-all P [] ys a b = b
both-all P (x ∷ xs) ys a b = (a.0, both-all P xs ys a.1 b)

pub changed-clean : (side : Side) (hs : List PlainHunk) → AllByRecursion IsGood hs → AllByRecursion NoInner (changed_lines side hs)
changed-clean side [] good = tt
changed-clean side (h ∷ hs) good = both-all NoInner (own_lines side h.body) (changed_lines side hs) (own-clean side h.body good.0.clean) (changed-clean side hs good.1)

-- the lines of the blocks of hunks are those that the hunks change
pub block-lines : (side : Side) (hs : List PlainHunk) → flat_map (lines_by side) (blocks_in (hunks hs)) ≡ changed_lines side hs
block-lines side hs = blocks-lines side (hunk_edits hs) ∙ hunks-lines side hs

pub normal-body : (ways : ReadOptions) (hs : List PlainHunk) → AllByRecursion IsGood hs → is_unfit Normal (hunks hs) ≡ false → not (eqb (length (blocks_in (hunks hs))) 0) ≡ true → Body ways Normal (hunks hs) (command_text Normal (hunks hs))
normal-body ways hs good fits some =
    let bs : List Block = blocks_in (hunks hs) in
    let falls = or_parts (falls_back hs) ((lacks_inner_end (changed_lines Forward hs) || lacks_inner_end (changed_lines Reversed hs)) || has_large_normal 0 0 bs) fits in
    let opens = or_parts (lacks_inner_end (changed_lines Forward hs) || lacks_inner_end (changed_lines Reversed hs)) (has_large_normal 0 0 bs) falls.1 in
    let ends = or_parts (lacks_inner_end (changed_lines Forward hs)) (lacks_inner_end (changed_lines Reversed hs)) opens.0 in
    let apart = blocks-apart (hunk_edits hs) (edits-climb hs good falls.0) in
    let keep : AllKeep bs = record {
      some = blocks-some (hunk_edits hs);
      dropped = lacks-each Forward bs (ap lacks_inner_end (block-lines Forward hs) ∙ ends.0);
      added = lacks-each Reversed bs (ap lacks_inner_end (block-lines Reversed hs) ∙ ends.1);
      dropped_clean = holds-each NoInner Forward bs (subst (AllByRecursion NoInner) (sym (block-lines Forward hs)) (changed-clean Forward hs good));
      added_clean = holds-each NoInner Reversed bs (subst (AllByRecursion NoInner) (sym (block-lines Reversed hs)) (changed-clean Reversed hs good));
    } in
    let own : List PlainHunk = block_hunks 0 0 bs in
    let b = body-of Normal 0 own tt (blocks-good 0 0 0 bs (omega arith) apart keep opens.1) (blocks-rise 0 0 0 0 bs (omega arith) apart) in
    record {
      body = b.0;
      whole = b.1.whole;
      is = sym (blocks-text 0 0 bs) ∙ b.1.is;
      opens = opens-body ways Normal 0 b.0 own (some-hunks bs some) b.1.chain;
      spelled = chain-piece Normal b.0 own tt (subst (ChainAs Normal 0 b.0 []) (blocks-order 0 0 bs) b.1.chain);
    }
