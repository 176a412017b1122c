-- The file patches of a set with their numbers, from 0.
use Rattle.std.proofs.Common.{map, ◌⊎◌, inl, inr, ◌*◌, ◌^◌, not, Fits, w32, w64, ◌≡◌, ℕ, zero, suc, ◌+◌, ◌<◌, ◌≤◌, Bool, true, false, ◌&&◌, cond, List, [], ◌∷◌, ◌++◌, length, get_or, drop, Option, None, Some, refl, sym, ap, subst, ◌∙◌, arith}
use Rattle.std.specs.Prelude.{find, option_map, slice_get}
use Rattle.std.specs.List.{flat_map, range_with_len, zip}
use Rattle.std.specs.Option.{option_or}
use Rattle.std.proofs.lemmas.List.{append-nil, at_drop_more, drop_all, length-map}
use Rattle.std.proofs.lemmas.Grind.{flat_map-append}
use Rattle.std.proofs.lemmas.List.Concat.{flat_map-cons}
use Rattle.std.proofs.lemmas.Option.{get_or_from_slice_get, slice_get-get_or, slice_get-map}
use Rattle.hunk_core.specs.declared.Form.{Form}
use Rattle.hunk_core.specs.declared.Hunk.{Hunk}
use Rattle.line_list.specs.declared.Span.{Span}
use Rattle.hunk_core.specs.PlainHunk.{PlainHunk, bytes_at, hunk_of, hunks_of}
use Rattle.read_file_patch.specs.declared.FilePatch.{FilePatch}
use Rattle.read_file_patch.specs.declared.Change.{Change}
use Rattle.read_file_patch.specs.declared.Change.TheVariants.{Hunks, Script}
use Rattle.read_file_patch.specs.PlainPatch.{AreLawfulHunks, IsLawfulChange, PlainChange, PlainPatch, hunks, script, patch_of, hunk_count, row_count, first_opening}
use Rattle.patch_set.specs.SetView.{SetView, patch_at, plain_patches}
use Rattle.patch_set.proofs.Named.{rows-counted}
use Rattle.filter_choice.specs.Kept.{keeps}
use Rattle.filter_choice.proofs.Rows.{zip-at, zip-count}
use Rattle.cli_tool_words.specs.PlainJobs.{PlainFilterJob}
use Rattle.format_convert.specs.Taken.{flags, has_kept, left_change, left_patch, left_patches, patch_if}
use Rattle.format_convert.specs.Walk.{IsHunks}
use Rattle.format_convert.proofs.Rows.{flag-at, flags-long}
use Rattle.line_list.proofs.Elements.{found, behind, numbered-from, numbered-long}
use Rattle.format_convert.specs.Converted.{change_text, converted, hunk_texts, piece_if, pieces, rows, told, written_if}
use Rattle.format_convert.specs.Commands.{command_text}
use Rattle.hunk_core.specs.declared.Form.TheVariants.{Unified, Context, Normal, Ed}
use Rattle.format_convert.specs.Refusals.{change_lacks, is_unfit, lacks_context, no_context, refusal, shows_context, unfit}

pub rows-long : (v : SetView) → length (rows v) ≡ length v.patches
rows-long v = numbered-long 0 v.patches

pub row-at : (v : SetView) (i : ℕ) (p : FilePatch) → i < length v.patches → patch_at v i ≡ Some p → drop i (rows v) ≡ (i, p) ∷ drop (i + 1) (rows v)
row-at v i p lt is =
    let d : ℕ × FilePatch = (i, p) in
    let same : 0 + i ≡ i = omega arith in
    at_drop_more (λ xs. xs) (rows v) i d (omega (arith, lt, rows-long v))
    ∙ ap (λ x. x ∷ drop (i + 1) (rows v)) (get_or_from_slice_get (rows v) i d d (numbered-from 0 v.patches i p is ∙ ap (λ n. behind n p) same))

pub rows-end : (v : SetView) (i : ℕ) → length v.patches ≤ i → drop i (rows v) ≡ []
rows-end v i le = drop_all i (rows v) (omega (arith, le, rows-long v))

-- a file patch of a set, if a hunk of it is kept
abbrev pub row_if : PlainFilterJob → List ℕ → ℕ × FilePatch → List PlainPatch
row_if j text row = patch_if j (row.0, patch_of text row.1)

rows-same : (j : PlainFilterJob) (text : List ℕ) (k : ℕ) (ps : List FilePatch) → flat_map (patch_if j) (zip (range_with_len k (length (map (patch_of text) ps))) (map (patch_of text) ps)) ≡ flat_map (row_if j text) (zip (range_with_len k (length ps)) ps)
rows-same j text k [] = refl
rows-same j text k (p ∷ ps) =
    flat_map-cons (patch_if j) (k, patch_of text p) (zip (range_with_len (k + 1) (length (map (patch_of text) ps))) (map (patch_of text) ps))
    ∙ ap (λ xs. row_if j text (k, p) ++ xs) (rows-same j text (k + 1) ps)
    ∙ sym (flat_map-cons (row_if j text) (k, p) (zip (range_with_len (k + 1) (length ps)) ps))

pub left-is : (j : PlainFilterJob) (v : SetView) → left_patches j (plain_patches v) ≡ flat_map (row_if j v.text) (rows v)
unfolding left_patches
left-is j v = rows-same j v.text 0 v.patches

pub converted-is : (form : Form) (j : PlainFilterJob) (v : SetView) → converted form j v ≡ flat_map (written_if form j v.text) (rows v)
unfolding converted
converted-is form j v = refl

pub refusal-is : (form : Form) (ps : List PlainPatch) → refusal form ps ≡ option_or (option_map no_context (first_opening (lacks_context form) ps)) (option_map unfit (first_opening (is_unfit form) ps))
unfolding refusal
refusal-is form ps = refl

-- what the next file patch writes
pub next-text : (form : Form) (j : PlainFilterJob) (v : SetView) (i : ℕ) (p : FilePatch) → i < length v.patches → patch_at v i ≡ Some p
    → flat_map (written_if form j v.text) (drop i (rows v)) ≡ written_if form j v.text (i, p) ++ flat_map (written_if form j v.text) (drop (i + 1) (rows v))
next-text form j v i p lt is = ap (flat_map (written_if form j v.text)) (row-at v i p lt is) ∙ flat_map-cons (written_if form j v.text) (i, p) (drop (i + 1) (rows v))

-- ---- the first file patch of which a test holds

push : (b : Bool) (x : PlainPatch) (o : Option PlainPatch) → option_map (λ (p : PlainPatch). p.header.opening) (cond b (Some x) o) ≡ cond b (Some x.header.opening) (option_map (λ (p : PlainPatch). p.header.opening) o)
push true x o = refl
push false x o = refl

first-row : (test : PlainPatch → Bool) (k : Bool) (x : PlainPatch) (rest : List PlainPatch) → first_opening test (cond k (x ∷ []) [] ++ rest) ≡ cond (k && test x) (Some x.header.opening) (first_opening test rest)
first-row test true x rest = push (test x) x (find test rest)
first-row test false x rest = refl

pub next-first : (test : PlainPatch → Bool) (j : PlainFilterJob) (v : SetView) (i : ℕ) (p : FilePatch) → i < length v.patches → patch_at v i ≡ Some p
    → first_opening test (flat_map (row_if j v.text) (drop i (rows v))) ≡ cond (has_kept j i (patch_of v.text p) && test (left_patch j i (patch_of v.text p))) (Some p.header.opening) (first_opening test (flat_map (row_if j v.text) (drop (i + 1) (rows v))))
next-first test j v i p lt is =
    ap (λ xs. first_opening test (flat_map (row_if j v.text) xs)) (row-at v i p lt is)
    ∙ ap (first_opening test) (flat_map-cons (row_if j v.text) (i, p) (drop (i + 1) (rows v)))
    ∙ first-row test (has_kept j i (patch_of v.text p)) (left_patch j i (patch_of v.text p)) (flat_map (row_if j v.text) (drop (i + 1) (rows v)))

pub last-first : (test : PlainPatch → Bool) (j : PlainFilterJob) (v : SetView) (i : ℕ) → length v.patches ≤ i → first_opening test (flat_map (row_if j v.text) (drop i (rows v))) ≡ None
last-first test j v i le = ap (λ xs. first_opening test (flat_map (row_if j v.text) xs)) (rows-end v i le)

lacks-change : (wanted form : Form) (are : List Bool) (c : PlainChange) → change_lacks wanted form (left_change are c) ≡ change_lacks wanted form c
lacks-change wanted form are (hunks hs) = refl
lacks-change wanted form are (script es) = refl

pub lacks-left : (wanted : Form) (j : PlainFilterJob) (n : ℕ) (p : PlainPatch) → lacks_context wanted (left_patch j n p) ≡ lacks_context wanted p
lacks-left wanted j n p = lacks-change wanted p.header.form _ p.change

-- ---- one file patch

pub by-context : (form from : Form) (are : List Bool) (ts : List (List ℕ)) (c : PlainChange) → shows_context form ≡ true → hunk_texts form from are ts c ≡ change_text form from are ts c
by-context Unified from are ts c is = refl
by-context Context from are ts c is = refl
by-context Normal from are ts c is = absurd cc
by-context Ed from are ts c is = absurd cc

pub by-commands : (form from : Form) (are : List Bool) (ts : List (List ℕ)) (c : PlainChange) → shows_context form ≡ false → command_text form (left_change are c) ≡ change_text form from are ts c
by-commands Unified from are ts c is = absurd cc
by-commands Context from are ts c is = absurd cc
by-commands Normal from are ts c is = refl
by-commands Ed from are ts c is = refl

pub and-false : (b : Bool) → (b && false) ≡ false
and-false true = refl
and-false false = refl

-- ---- the hunks of a file patch that are kept

pair-row : {A : Type 0} (fs : List Bool) (xs : List A) (i : ℕ) (x : A) → length fs ≡ length xs → i < length xs → x ≡ get_or xs i x → drop i (zip fs xs) ≡ (get_or fs i false, x) ∷ drop (i + 1) (zip fs xs)
pair-row {A = A} fs xs i x same lt is =
    let d : Bool × A = (get_or fs i false, x) in
    at_drop_more (λ ys. ys) (zip fs xs) i d (omega (arith, lt, zip-count fs xs same))
    ∙ ap (λ y. y ∷ drop (i + 1) (zip fs xs)) (get_or_from_slice_get (zip fs xs) i d d (zip-at fs xs i _ _ (slice_get-get_or fs i false (omega (arith, lt, same))) (found xs i x lt is)))

-- a hunk behind its lines
abbrev pub Piece : Type 0
Piece = List ℕ × PlainHunk

hunk-at : (text : List ℕ) (hs : List Hunk) (i : ℕ) (h : Hunk) → i < length hs → h ≡ get_or hs i h → hunk_of text h ≡ get_or (hunks_of text hs) i (hunk_of text h)
hunk-at text [] i h lt is = absurd (omega (arith, lt))
hunk-at text (x ∷ hs) zero h lt is = ap (hunk_of text) is
hunk-at text (x ∷ hs) (suc i) h lt is = hunk-at text hs i h (omega (arith, lt)) is

text-row : (T : Piece → List ℕ) (b : Bool) (h : Piece) → flat_map T (piece_if (b, h)) ≡ cond b (T h) []
text-row T true h = flat_map-cons T h [] ∙ append-nil (T h)
text-row T false h = refl

-- the kept hunks from one on
abbrev pub kept_from : (Piece → List ℕ) → List Bool → List Piece → ℕ → List ℕ
kept_from T fs hs i = flat_map T (flat_map piece_if (drop i (zip fs hs)))

kept-next : (T : Piece → List ℕ) (fs : List Bool) (hs : List Piece) (i : ℕ) (h : Piece) → length fs ≡ length hs → i < length hs → h ≡ get_or hs i h
    → kept_from T fs hs i ≡ cond (get_or fs i false) (T h) [] ++ kept_from T fs hs (i + 1)
kept-next T fs hs i h same lt is =
    ap (λ rs. flat_map T (flat_map piece_if rs)) (pair-row fs hs i h same lt is)
    ∙ ap (flat_map T) (flat_map-cons piece_if (get_or fs i false, h) (drop (i + 1) (zip fs hs)))
    ∙ flat_map-append T (piece_if (get_or fs i false, h)) (flat_map piece_if (drop (i + 1) (zip fs hs)))
    ∙ ap (λ t. t ++ kept_from T fs hs (i + 1)) (text-row T (get_or fs i false) h)

piece-row : (ts : List (List ℕ)) (hs : List PlainHunk) (i : ℕ) (h : PlainHunk) → length ts ≡ length hs → i < length hs → h ≡ get_or hs i h → (get_or ts i [], h) ≡ get_or (zip ts hs) i (get_or ts i [], h)
piece-row ts [] i h same lt is = absurd (omega (arith, lt))
piece-row [] (x ∷ hs) i h same lt is = absurd (omega (arith, same))
piece-row (t ∷ ts) (x ∷ hs) zero h same lt is = ap (λ (y : PlainHunk). (t, y)) is
piece-row (t ∷ ts) (x ∷ hs) (suc i) h same lt is = piece-row ts hs i h (omega (arith, same)) (omega (arith, lt)) is

pub piece-at : (text : List ℕ) (p : FilePatch) (i : ℕ) (s : Span) → slice_get p.hunk_spans.items i ≡ Some s → get_or (pieces text p) i [] ≡ bytes_at text s
piece-at text p i s is = get_or_from_slice_get (pieces text p) i (bytes_at text s) [] (slice_get-map (bytes_at text) p.hunk_spans.items i ∙ ap (option_map (bytes_at text)) is)

pub rows-of : (ch : Change) (own : List Hunk) → IsHunks ch own → row_count ch ≡ length own
rows-of (Hunks hs) own is = ap length is
rows-of (Script s) own is = absurd is

module _ (j : PlainFilterJob) (n : ℕ) (text : List ℕ) (p : FilePatch) (own : List Hunk) (is : IsHunks p.change own) where
  count-is : hunk_count (patch_of text p).change ≡ length own
  count-is = rows-counted text p.change ∙ rows-of p.change own is

  -- with as many pieces as hunks
  module _ (each : length p.hunk_spans.items ≡ row_count p.change) where
    abbrev own_rows : List Piece
    own_rows = zip (pieces text p) (hunks_of text own)

    pieces-long : length (pieces text p) ≡ length (hunks_of text own)
    pieces-long = length-map p.hunk_spans.items (bytes_at text) ∙ each ∙ rows-of p.change own is ∙ sym (length-map own (hunk_of text))

    rows-count : length (zip (pieces text p) (hunks_of text own)) ≡ length own
    rows-count = zip-count (pieces text p) (hunks_of text own) pieces-long ∙ length-map own (hunk_of text)

    flags-same : length (flags j n (patch_of text p)) ≡ length (zip (pieces text p) (hunks_of text own))
    flags-same = flags-long j n (patch_of text p) ∙ count-is ∙ sym rows-count

    -- the next hunk, if it is kept
    pub next-hunk : (T : Piece → List ℕ) (i : ℕ) (h : Hunk) → i < length own → h ≡ get_or own i h
        → kept_from T (flags j n (patch_of text p)) own_rows i ≡ cond (keeps j n (patch_of text p) i) (T (get_or (pieces text p) i [], hunk_of text h)) [] ++ kept_from T (flags j n (patch_of text p)) own_rows (i + 1)
    next-hunk T i h lt at =
        let low : i < length (hunks_of text own) = omega (arith, lt, length-map own (hunk_of text)) in
        kept-next T (flags j n (patch_of text p)) own_rows i (get_or (pieces text p) i [], hunk_of text h) flags-same (omega (arith, lt, rows-count)) (piece-row (pieces text p) (hunks_of text own) i (hunk_of text h) pieces-long low (hunk-at text own i h lt at))
        ∙ ap (λ b. cond b (T (get_or (pieces text p) i [], hunk_of text h)) [] ++ kept_from T (flags j n (patch_of text p)) own_rows (i + 1)) (flag-at j n (patch_of text p) i false (omega (arith, lt, count-is)))

    pub last-hunk : (T : Piece → List ℕ) (i : ℕ) → length own ≤ i → kept_from T (flags j n (patch_of text p)) own_rows i ≡ []
    last-hunk T i le = ap (λ rs. flat_map T (flat_map piece_if rs)) (drop_all i (zip (flags j n (patch_of text p)) own_rows) (omega (arith, le, zip-count (flags j n (patch_of text p)) own_rows flags-same, flags-same, rows-count)))

-- the hunks of a lawful change
pub are-lawful : (text : List ℕ) (ch : Change) (own : List Hunk) → IsHunks ch own → IsLawfulChange text ch → AreLawfulHunks text own
are-lawful text (Hunks hs) own is lawful = subst (AreLawfulHunks text) is lawful
are-lawful text (Script s) own is lawful = absurd is

-- ---- numbers that fit

pub patch-in : (ps qs : List FilePatch) (i : ℕ) → i < length ps → ps ≡ qs → i < length qs
patch-in ps qs i lt is = subst (λ (xs : List FilePatch). i < length xs) is lt

pub patch-out : (ps qs : List FilePatch) (i : ℕ) → length ps ≤ i → ps ≡ qs → length qs ≤ i
patch-out ps qs i le is = subst (λ (xs : List FilePatch). length xs ≤ i) is le

pub number-fits : (i n : ℕ) → i < n → n < 2 ^ 32 → Fits w32 i
number-fits i n lt few = omega arith

pub patch-fits : (ps qs : List FilePatch) (i : ℕ) → i < length ps → ps ≡ qs → length qs < 2 ^ 32 → Fits w32 i
patch-fits ps qs i lt is few = number-fits i (length qs) (patch-in ps qs i lt is) few

pub offset-fits : (i n : ℕ) → i < n → n < 2 ^ 32 → Fits w64 (i * 32)
offset-fits i n lt few = omega arith

-- ---- tests of a file patch

pub and-some : (r k l : Bool) → r ≡ k → l ≡ true → r ≡ (k && l)
and-some r true l is some = is ∙ sym some
and-some r false l is some = is

pub and-none : (k l : Bool) → l ≡ false → false ≡ (k && l)
and-none true l none = sym none
and-none false l none = refl

pub none-kept : (k l : Bool) → k ≡ false → false ≡ (k && l)
none-kept k l none = sym (ap (λ x. x && l) none)

pub misfit : (r k s u : Bool) → k ≡ true → s ≡ false → r ≡ u → r ≡ (k && (not s && u))
misfit r k s u kept hidden is = is ∙ sym (ap (λ x. x && (not s && u)) kept ∙ ap (λ x. not x && u) hidden)

pub none-misfit : (k s u : Bool) → s ≡ true → false ≡ (k && (not s && u))
none-misfit k s u shown = and-none k (not s && u) (ap (λ x. not x && u) shown)

-- the forms of commands have no text of a hunk
pub no-text : (form from : Form) (x : Piece) → (form ≡ Normal) ⊎ (form ≡ Ed) → told form from x ≡ []
no-text form from x (inl is) = ap (λ (f : Form). told f from x) is
no-text form from x (inr is) = ap (λ (f : Form). told f from x) is

-- what is written where both hold
pub both-hold : (a b : Bool) (text : List ℕ) → a ≡ true → b ≡ true → text ≡ cond a (cond b text []) []
both-hold a b text kept written = ap (λ (x : Bool). cond x text []) (sym written) ∙ ap (λ (x : Bool). cond x (cond b text []) []) (sym kept)
