-- A set turned round, read again.
use Rattle.std.proofs.Common.{◌≡◌, inl, ℕ, ◌+◌, ◌<◌, Bool, true, false, cond, ◌||◌, List, [], ◌∷◌, ◌++◌, length, map, reverse, append_assoc, Option, None, Some, Ok, refl, sym, ap, subst, ◌∙◌, arith}
use Rattle.std.specs.Prelude.{find, option_map}
use Rattle.std.specs.List.{AllByRecursion, flat_map, list_any}
use Rattle.std.specs.Option.{option_or}
use Rattle.std.proofs.lemmas.Grind.{flat_map-append}
use Rattle.std.proofs.lemmas.List.{append-nil}
use Rattle.std.proofs.lemmas.List.Concat.{flat_map-cons}
use Rattle.line_list.specs.Lines.{ArePieces, IsLine, lines}
use Rattle.line_list.specs.declared.Span.{Span}
use Rattle.line_list.proofs.Pieces.{joined, lines-pieces, pieces-only}
use Rattle.line_list.proofs.WholeLines.{lines-both}
use Rattle.hunk_core.specs.declared.Form.{Form}
use Rattle.hunk_core.specs.declared.Form.TheVariants.{Unified, Context, Normal, Ed}
use Rattle.hunk_core.specs.declared.Side.TheVariants.{Reversed}
use Rattle.hunk_core.specs.Pieces.{AreInTurn, SpellInTurn}
use Rattle.hunk_core.specs.PlainHunk.{PlainHunk, bytes_at, hunks_of}
use Rattle.hunk_core.specs.Turned.{swapped}
use Rattle.unified_form.proofs.Unbroken as unified_unbroken
use Rattle.unified_form.proofs.Pieces as unified_pieces
use Rattle.normal_form.proofs.Unbroken as normal_unbroken
use Rattle.normal_form.proofs.Pieces as normal_pieces
use Rattle.context_form.proofs.Unbroken as context_unbroken
use Rattle.context_form.proofs.Pieces as context_pieces
use Rattle.num_text.specs.NumberRanges.{range_at}
use Rattle.ed_form.specs.Commands as ed
use Rattle.patch_header.specs.Openings.{admits, asks_dot, begins}
use Rattle.patch_header.specs.Steps.{region_of as region_before}
use Rattle.patch_header.specs.declared.openings.Stop.TheVariants.{Opening}
use Rattle.patch_header.specs.declared.read_options.ReadOptions.{ReadOptions}
use Rattle.patch_header.proofs.Stands.{and_left, opening-words, stop-opens}
use Rattle.read_file_patch.specs.Actions.{is_moved}
use Rattle.read_file_patch.specs.PlainPatch.{PlainPatch, hunks, change_of, patch_of, row_count, is_script, first_opening}
use Rattle.read_file_patch.specs.declared.Change.{Change}
use Rattle.read_file_patch.specs.declared.Change.TheVariants.{Hunks, Script}
use Rattle.read_file_patch.specs.declared.FilePatch.{FilePatch}
use Rattle.read_patch_text.specs.Changes.{SpellChange, Spells}
use Rattle.read_patch_text.specs.Regions.{Region, region_of}
use Rattle.read_patch_text.specs.Texts.{IsPiece}
use Rattle.patch_set.specs.SetView.{IsWhole, SetView, plain_patches}
use Rattle.patch_set.specs.Spans.{ArePlaced, IsPlaced}
use Rattle.flip_patch.specs.HeaderText.{header_text}
use Rattle.flip_patch.specs.Flipped.{flipped, flipped_patch, hunk_text, swapped_hunks}
use Rattle.flip_patch.specs.Refusals.{is_unfit, new_starts, refused, starts_fall}
use Rattle.flip_patch.specs.declared.fault.FlipFault.{FlipFault}
use Rattle.flip_patch.specs.declared.fault.FlipFault.TheVariants.{EdReverse, Unfit}
use Rattle.law_reading.specs.Following.{IsFilePatch}
use Rattle.law_reading.specs.Joins.{BeginCleanly, FitTogether, JoinCleanly, Part, all_lines, read_unnumbered}
use Rattle.law_reading.proofs.HeaderLines.{all-reverse}
use Rattle.law_reading.proofs.Joining.{region-is}
use Rattle.law_reading.proofs.Standing.{parts-read}
use Rattle.hunk_core.proofs.TurnedLemmas.{reverse-map}
use Rattle.flip_patch.proofs.Placed.{flipped-is}
use Rattle.std.proofs.lemmas.Bool.{and_from, or_parts}
use Rattle.law_reading.specs.TurnedPatches.{as_shown, turned_change, turned_patch, turned_patches}
use Rattle.law_reading.proofs.Feeds.{context-feeds, normal-feeds, unified-feeds}
use Rattle.law_reading.proofs.Headed.{HasHead, heads-quiet, heads-whole, shown-headed}
use Rattle.law_reading.proofs.FlipHeaders.{Head, head_lines}
use Rattle.law_reading.proofs.Hunks.{ChainAs, IsGood, IsHunkForm, Rising, SpellsAs, all-swapped, body-of, chain-piece, rising}
use Rattle.law_reading.proofs.Lines.{Kind, Minus, Plus, Stars, Index, clean-line, line_of}
use Rattle.law_reading.proofs.Region.{IsShownIf, regions-shown}

-- ---- what is known of a file patch that isn't refused

record IsReady (ways : ReadOptions) (text : List ℕ) (p : FilePatch) : Type 0 where
  start : ℕ
  before : ℕ
  placed : IsPlaced text start before p
  shown : IsShownIf ways text p.header
  no_script : is_script (change_of text p.change) ≡ false
  fit : is_unfit (patch_of text p) ≡ false

one-good : (form : Form) (least : ℕ) (own : List (List ℕ)) (g : PlainHunk) → IsHunkForm form → Spells form least own g → ArePieces own → IsGood g
one-good Unified least own g is s p = record { unbroken = unified_unbroken.hunk-unbroken least own g s p; clean = unified-feeds least own g s p }
one-good Context least own g is s p = record { unbroken = context_unbroken.hunk-unbroken least own [] g s p; clean = context-feeds least own [] g s p }
one-good Normal least own g is s p = record { unbroken = normal_unbroken.hunk-unbroken least own g s p; clean = normal-feeds least own g s p }
one-good Ed least own g is s p = absurd is

pub all-good : (text : List ℕ) (form : Form) (least : ℕ) (spans : List Span) (gs : List PlainHunk) → IsHunkForm form → SpellInTurn (Spells form) text least spans gs → AllByRecursion IsGood gs
all-good text form least [] [] is s = tt
all-good text form least [] (g ∷ gs) is s = absurd s
all-good text form least (a ∷ spans) [] is s = absurd s
all-good text form least (a ∷ spans) (g ∷ gs) is s = (one-good form least (lines (bytes_at text a)) g is s.0 (lines-pieces (bytes_at text a)), all-good text form g.old_start spans gs is s.1)

pub hunk-form : (text : List ℕ) (form : Form) (at end : ℕ) (spans : List Span) (gs : List PlainHunk) → AreInTurn at spans end → at < end → SpellInTurn (Spells form) text 0 spans gs → IsHunkForm form
hunk-form text Unified at end spans gs turn less s = tt
hunk-form text Context at end spans gs turn less s = tt
hunk-form text Normal at end spans gs turn less s = tt
hunk-form text Ed at end [] gs turn less s = absurd (omega (arith, turn, less))
hunk-form text Ed at end (a ∷ spans) [] turn less s = absurd s
hunk-form text Ed at end (a ∷ spans) (g ∷ gs) turn less s = absurd s.0

abbrev pub HasHunk : List PlainHunk → Type 0
HasHunk [] = ⊥
HasHunk (g ∷ gs) = Unit {0}

pub some-hunk : (text : List ℕ) (form : Form) (at end : ℕ) (spans : List Span) (gs : List PlainHunk) → AreInTurn at spans end → at < end → SpellInTurn (Spells form) text 0 spans gs → HasHunk gs
some-hunk text form at end [] gs turn less s = absurd (omega (arith, turn, less))
some-hunk text form at end (a ∷ spans) [] turn less s = absurd s
some-hunk text form at end (a ∷ spans) (g ∷ gs) turn less s = tt

-- ---- its lines

opens-hunk : (ways : ReadOptions) (form : Form) (least : ℕ) (own behind tail : List (List ℕ)) (h : PlainHunk) → SpellsAs form least own behind h → begins ways.only form (own ++ tail) ≡ true
opens-hunk ways Unified least own behind tail h s = unified_pieces.hunk_opens least own tail h s
opens-hunk ways Context least own behind tail h s = context_pieces.hunk_opens least own behind tail h s
opens-hunk ways Normal least own behind tail h s = normal_pieces.hunk_opens least own tail h s
opens-hunk ways Ed least own behind tail h s = absurd s

pub opens-body : (ways : ReadOptions) (form : Form) (least : ℕ) (body : List (List ℕ)) (hs : List PlainHunk) → HasHunk hs → ChainAs form least body [] (map (as_shown form) hs) → begins ways.only form (body ++ []) ≡ true
opens-body ways form least body [] some c = absurd some
opens-body ways form least body (h ∷ hs) some c =
    ap (λ ls. begins ways.only form (ls ++ [])) c.2 ∙ ap (begins ways.only form) (append_assoc c.0 c.1 [])
    ∙ opens-hunk ways form least c.0 (c.1 ++ []) (c.1 ++ []) (as_shown form h) c.3

pub asks-none : (o : Option Form) (k : Kind) (bs : List ℕ) → asks_dot o (line_of k bs) ≡ false
unfolding ed.parts_at range_at
asks-none None Minus bs = refl
asks-none None Plus bs = refl
asks-none None Stars bs = refl
asks-none None Index bs = refl
asks-none (Some form) k bs = refl

no-dot : (ways : ReadOptions) (k : Kind) (bs : List ℕ) → asks_dot ways.only (line_of k bs) ≡ false
no-dot ways k bs = asks-none ways.only k bs

pub no-dots : (ways : ReadOptions) (hs : List Head) → list_any (asks_dot ways.only) (head_lines hs) ≡ false
no-dots ways [] = refl
no-dots ways (h ∷ hs) = rw (no-dot ways h.0 h.1, no-dots ways hs) refl

pub clean-front : (hs : List Head) (body more : List (List ℕ)) → HasHead hs → BeginCleanly ((head_lines hs ++ body) ++ more)
clean-front [] body more some = absurd some
clean-front (h ∷ hs) body more some = clean-line h.0 h.1 ((head_lines hs ++ body) ++ more)

some-swapped : (gs : List PlainHunk) → HasHunk gs → HasHunk (map swapped gs)
some-swapped [] some = absurd some
some-swapped (g ∷ gs) some = tt

pub map-both : {A B C : Type 0} (g : B → C) (f : A → B) (xs : List A) → map g (map f xs) ≡ map (λ x. g (f x)) xs
map-both g f [] = refl
map-both g f (x ∷ xs) = ap (λ ys. g (f x) ∷ ys) (map-both g f xs)

record HasOwn (ways : ReadOptions) (text : List ℕ) (p : FilePatch) : Type 0 where
  own : List (List ℕ)
  whole : AllByRecursion IsLine own
  is : flipped_patch text p ≡ joined own
  reads : IsFilePatch ways own [] (turned_patch (patch_of text p))
  begins_so : (more : List (List ℕ)) → BeginCleanly (own ++ more)
  dots : list_any (asks_dot ways.only) (region_before ways own) ≡ false

made : (ways : ReadOptions) (text : List ℕ) (p : FilePatch) (gs : List PlainHunk) → change_of text p.change ≡ hunks gs → IsReady ways text p → HasOwn ways text p
made ways text p gs is r =
    let form : Form = p.header.form in
    let fits = or_parts p.header.bare (is_moved p.header.action || starts_fall (new_starts (change_of text p.change))) r.fit in
    let more = or_parts (is_moved p.header.action) (starts_fall (new_starts (change_of text p.change))) fits.1 in
    let turn = r.placed.cut.turn fits.0 in
    let pieces = subst (SpellChange text form p.hunk_spans.items) is r.placed.pieces in
    let hunky = hunk-form text form p.header.at p.span.end p.hunk_spans.items gs turn r.placed.some pieces in
    let some = some-hunk text form p.header.at p.span.end p.hunk_spans.items gs turn r.placed.some pieces in
    let rises = rising (map (λ g. g.new_start) gs) (ap (λ c. starts_fall (new_starts c)) (sym is) ∙ more.1) in
    let turned_rises = subst (Rising 0) (sym (map-both (λ (h : PlainHunk). h.old_start) swapped gs)) rises in
    let b = body-of form 0 (map swapped gs) hunky (all-swapped gs (all-good text form 0 p.hunk_spans.items gs hunky pieces)) turned_rises in
    let chain = subst (ChainAs form 0 b.0 []) (map-both (as_shown form) swapped gs) b.1.chain in
    let shown = r.shown fits.0 in
    let h = shown-headed ways text p.header shown hunky more.0 in
    let region : List (List ℕ) = head_lines h.heads in
    let reads : IsFilePatch ways (region ++ b.0) [] (turned_patch (patch_of text p)) = record {
      region = region;
      body = b.0;
      stop = Opening form;
      parts = refl;
      quiet = heads-quiet ways h.heads (b.0 ++ []);
      stands = (opening-words ways form (b.0 ++ [])).1 (and_from (admits ways.only form) (begins ways.only form (b.0 ++ [])) (and_left _ _ (stop-opens ways form (shown.first ∷ shown.rest) shown.stands)) (opens-body ways form 0 b.0 (map swapped gs) (some-swapped gs some) b.1.chain));
      says = h.said b.0;
      spelled = subst (λ c. IsPiece form 0 (b.0 ++ []) (turned_change form c) (length b.0) []) (sym is) (chain-piece form b.0 (map (λ g. as_shown form (swapped g)) gs) hunky chain);
    } in
    record {
      own = region ++ b.0;
      whole = lines-both region b.0 (heads-whole h.heads h.clean) b.1.whole;
      is = ap (λ c. header_text text form Reversed p.header ++ flat_map (hunk_text form) (swapped_hunks c)) is ∙ ap (λ x. x ++ flat_map (hunk_text form) (map swapped gs)) h.is ∙ ap (λ x. joined region ++ x) b.1.is ∙ sym (flat_map-append (λ (l : List ℕ). l) region b.0);
      reads = reads;
      begins_so = λ more. clean-front h.heads b.0 more h.some;
      dots = ap (list_any (asks_dot ways.only)) (ap (region_before ways) (sym (append-nil (region ++ b.0))) ∙ region-is ways (region ++ b.0) [] (turned_patch (patch_of text p)) reads) ∙ no-dots ways h.heads;
    }

one-own : (ways : ReadOptions) (text : List ℕ) (p : FilePatch) → IsReady ways text p → HasOwn ways text p
one-own ways text p r = by p.change refl
  where
    by : (c : Change) → p.change ≡ c → HasOwn ways text p
    by (Hunks hs) e = made ways text p (hunks_of text hs.items) (ap (change_of text) e) r
    by (Script s) e = absurd (let bad : is_script (change_of text (Script s)) ≡ false = ap (λ c. is_script (change_of text c)) (sym e) ∙ r.no_script in cc)

-- ---- all of them

record Gathered (ways : ReadOptions) (text : List ℕ) (ps : List FilePatch) : Type 0 where
  parts : List Part
  whole : AllByRecursion IsLine (all_lines parts)
  is : flat_map (flipped_patch text) ps ≡ joined (all_lines parts)
  fit : FitTogether ways parts
  patches : map (λ (x : Part). x.patch) parts ≡ map (λ p. turned_patch (patch_of text p)) ps
  begins_so : BeginCleanly (all_lines parts)

gather : (ways : ReadOptions) (text : List ℕ) (ps : List FilePatch) → AllByRecursion (IsReady ways text) ps → Gathered ways text ps
gather ways text [] all = record {
  parts = [];
  whole = tt;
  is = refl;
  fit = tt;
  patches = refl;
  begins_so = record { unified = refl; context = refl; normal = refl; command = refl; append = refl; kept = refl; added = refl; changed = refl; substitution = refl; backslash = refl };
}
gather ways text (p ∷ ps) all =
    let o = one-own ways text p all.0 in
    let g = gather ways text ps all.1 in
    let part : Part = record { own = o.own; patch = turned_patch (patch_of text p) } in
    let these : all_lines (part ∷ g.parts) ≡ o.own ++ all_lines g.parts = flat_map-cons (λ (x : Part). x.own) part g.parts in
    let clean : JoinCleanly ways o.own (all_lines g.parts) (turned_patch (patch_of text p)) = record {
      begins = g.begins_so;
      git = λ e. absurd (cc);
      dots = λ e. absurd (let bad : false ≡ true = sym o.dots ∙ e in cc);
    } in
    record {
      parts = part ∷ g.parts;
      whole = subst (AllByRecursion IsLine) (sym these) (lines-both o.own (all_lines g.parts) o.whole g.whole);
      is = flat_map-cons (flipped_patch text) p ps ∙ ap (λ x. x ++ flat_map (flipped_patch text) ps) o.is ∙ ap (λ x. joined o.own ++ x) g.is ∙ sym (flat_map-append (λ (l : List ℕ). l) o.own (all_lines g.parts)) ∙ ap joined (sym these);
      fit = (o.reads, clean, g.fit);
      patches = ap (λ qs. turned_patch (patch_of text p) ∷ qs) g.patches;
      begins_so = subst BeginCleanly (sym these) (o.begins_so (all_lines g.parts));
    }

-- ---- a set

pub all-placed : (text : List ℕ) (start before : ℕ) (ps : List FilePatch) → ArePlaced text start before ps → AllByRecursion (λ (p : FilePatch). (s : ℕ) × ((b : ℕ) × IsPlaced text s b p)) ps
all-placed text start before [] placed = tt
all-placed text start before (p ∷ ps) placed = ((start, (before, placed.0)), all-placed text p.span.end (before + row_count p.change) ps placed.1)

pub all-shown : (ways : ReadOptions) (text : List ℕ) (ps : List FilePatch) → AllByRecursion (λ (r : Region). IsShownIf ways text r.header) (map region_of ps) → AllByRecursion (λ (p : FilePatch). IsShownIf ways text p.header) ps
all-shown ways text [] all = tt
all-shown ways text (p ∷ ps) all = (all.0, all-shown ways text ps all.1)

find-none : (test : PlainPatch → Bool) (text : List ℕ) (ps : List FilePatch) → find test (map (patch_of text) ps) ≡ None → AllByRecursion (λ (p : FilePatch). test (patch_of text p) ≡ false) ps
find-none test text [] e = tt
find-none test text (p ∷ ps) e = by (test (patch_of text p)) refl e (find-none test text ps)
  where
    by : (v : Bool) → test (patch_of text p) ≡ v → cond v (Some (patch_of text p)) (find test (map (patch_of text) ps)) ≡ None → (find test (map (patch_of text) ps) ≡ None → AllByRecursion (λ (q : FilePatch). test (patch_of text q) ≡ false) ps)
        → (test (patch_of text p) ≡ false) × AllByRecursion (λ (q : FilePatch). test (patch_of text q) ≡ false) ps
    by true t e again = absurd (cc)
    by false t e again = (t, again e)

pub map-none : {A B : Type 0} (f : A → B) (o : Option A) → option_map f o ≡ None → o ≡ None
map-none f None e = refl
map-none f (Some x) e = absurd (cc)

or-none : (a b : Option FlipFault) → option_or a b ≡ None → (a ≡ None) × (b ≡ None)
or-none None b e = (refl, e)
or-none (Some x) b e = absurd (cc)

all-ready : (ways : ReadOptions) (text : List ℕ) (ps : List FilePatch) → AllByRecursion (λ (p : FilePatch). (s : ℕ) × ((b : ℕ) × IsPlaced text s b p)) ps → AllByRecursion (λ (p : FilePatch). IsShownIf ways text p.header) ps
    → AllByRecursion (λ (p : FilePatch). is_script (change_of text p.change) ≡ false) ps → AllByRecursion (λ (p : FilePatch). is_unfit (patch_of text p) ≡ false) ps → AllByRecursion (IsReady ways text) ps
all-ready ways text [] a b c d = tt
all-ready ways text (p ∷ ps) a b c d = (record { start = a.0.0; before = a.0.1.0; placed = a.0.1.1; shown = b.0; no_script = c.0; fit = d.0 }, all-ready ways text ps a.1 b.1 c.1 d.1)

ready : (v : SetView) → IsWhole v → refused (plain_patches v) ≡ None → AllByRecursion (IsReady v.ways v.text) v.patches
ready v whole none =
    let both = or-none (option_map EdReverse (first_opening (λ p. is_script p.change) (plain_patches v))) (option_map Unfit (first_opening is_unfit (plain_patches v))) none in
    let scripts = map-none (λ (p : PlainPatch). p.header.opening) (find (λ p. is_script p.change) (plain_patches v)) (map-none EdReverse (first_opening (λ p. is_script p.change) (plain_patches v)) both.0) in
    let unfits = map-none (λ (p : PlainPatch). p.header.opening) (find is_unfit (plain_patches v)) (map-none Unfit (first_opening is_unfit (plain_patches v)) both.1) in
    all-ready v.ways v.text v.patches (all-placed v.text 0 0 v.patches whole.placed)
    (all-shown v.ways v.text v.patches (subst (AllByRecursion (λ (r : Region). IsShownIf v.ways v.text r.header)) (sym whole.regions) (regions-shown (length v.text) v.ways v.text 0 1)))
    (find-none (λ p. is_script p.change) v.text v.patches scripts) (find-none is_unfit v.text v.patches unfits)

pub whole-pieces : (ls : List (List ℕ)) → AllByRecursion IsLine ls → ArePieces ls
whole-pieces [] all = tt
whole-pieces (l ∷ []) all = inl all.0
whole-pieces (l ∷ k ∷ ls) all = (all.0, whole-pieces (k ∷ ls) all.1)

pub reads-law : (v : SetView) → IsWhole v → refused (plain_patches v) ≡ None → read_unnumbered v.ways (flipped v) ≡ Ok (turned_patches v)
reads-law v whole none =
    let g = gather v.ways v.text (reverse v.patches) (all-reverse (IsReady v.ways v.text) v.patches (ready v whole none)) in
    let these : lines (flipped v) ≡ all_lines g.parts = ap lines (flipped-is v ∙ g.is) ∙ pieces-only (all_lines g.parts) (whole-pieces (all_lines g.parts) g.whole) in
    parts-read v.ways (flipped v) g.parts these g.fit
    ∙ ap (λ (ps : List PlainPatch). Ok ps) (g.patches ∙ sym (map-both turned_patch (patch_of v.text) (reverse v.patches)) ∙ ap (map turned_patch) (sym (reverse-map (patch_of v.text) v.patches)))
