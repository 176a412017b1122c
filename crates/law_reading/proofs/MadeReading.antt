-- The patch over a made tree, read again.
use Rattle.std.proofs.Common.{◌≡◌, ℕ, zero, suc, ◌+◌, ◌/◌, ◌≤◌, true, false, List, [], ◌∷◌, ◌++◌, map, append_assoc, Ok, refl, sym, ap, subst, ◌∙◌, arith}
use Rattle.std.specs.Prelude.{codes}
use Rattle.std.specs.List.{AllByRecursion, flat_map, list_any, range_with_len}
use Rattle.std.proofs.lemmas.Grind.{flat_map-append}
use Rattle.std.proofs.lemmas.List.{append-nil}
use Rattle.std.proofs.lemmas.List.Concat.{flat_map-cons}
use Rattle.line_list.specs.Completed.{IsComplete}
use Rattle.line_list.specs.Join.{ends_open}
use Rattle.line_list.specs.Lines.{IsLine, lines}
use Rattle.line_list.proofs.JoinLemmas.{line-has}
use Rattle.line_list.proofs.Pieces.{joined, pieces-only}
use Rattle.line_list.proofs.WholeLines.{lines-both}
use Rattle.hunk_core.specs.declared.Form.TheVariants.{Unified}
use Rattle.hunk_core.specs.PlainHunk.{PlainHunk}
use Rattle.ed_form.specs.Commands as ed
use Rattle.unified_form.proofs.Pieces.{hunk_opens}
use Rattle.patch_header.specs.Openings.{admits, asks_dot, begins}
use Rattle.patch_header.specs.Steps.{region_of}
use Rattle.patch_header.specs.declared.openings.Stop.TheVariants.{Opening}
use Rattle.patch_header.specs.declared.read_options.ReadOptions.{ReadOptions}
use Rattle.patch_header.proofs.Stands.{opening-words}
use Rattle.read_file_patch.specs.PlainPatch.{PlainPatch}
use Rattle.patch_gen.specs.Patches.{file_name, header_lines, hunk_text}
use Rattle.patch_gen.specs.Texts.{file_line}
use Rattle.patch_gen.specs.Tree.{file_state, made, made_patch}
use Rattle.law_reading.specs.Following.{IsFilePatch}
use Rattle.law_reading.specs.Joins.{BeginCleanly, FitTogether, JoinCleanly, Part, all_lines, read_unnumbered}
use Rattle.law_reading.proofs.Joining.{region-is}
use Rattle.law_reading.proofs.Standing.{parts-read}
use Rattle.law_reading.proofs.Headed.{AreClean, heads-quiet, heads-whole}
use Rattle.law_reading.proofs.FlipHeaders.{Head, head_lines}
use Rattle.law_reading.proofs.Hunks.{ChainAs, chain-piece}
use Rattle.law_reading.proofs.Lines.{Minus, Plus, clean-line}
use Rattle.std.proofs.lemmas.Bool.{and_from}
use Rattle.law_reading.proofs.FlipReading.{whole-pieces, asks-none}
use Rattle.law_reading.specs.MadePatches.{made_file_patch, made_hunk, made_hunks, made_patches}
use Rattle.law_reading.proofs.MadeHunks.{body-for, body-hunks, body-text}
use Rattle.law_reading.proofs.MadeNames.{heads, header-read, name-clean}

-- ---- its lines

heads-text : (i : ℕ) → header_lines i ≡ joined (head_lines (heads i))
heads-text i =
    let n : List ℕ = file_name i in
    let front : List ℕ = codes "--- " ++ n in
    let back : List ℕ = (codes "+++ " ++ n) ++ 10 ∷ [] in
    ap (λ t. front ++ 10 ∷ t) (sym (append-nil back)) ∙ sym (append_assoc front (10 ∷ []) (back ++ []))

no-dots : (ways : ReadOptions) (hs : List Head) → list_any (asks_dot ways.only) (head_lines hs) ≡ false
no-dots ways [] = refl
no-dots ways (h ∷ hs) = rw (asks-none ways.only h.0 h.1, no-dots ways hs) refl

-- a hunk opens where there is one
opens-body : (ways : ReadOptions) (line : ℕ → List ℕ) (n : ℕ) (body : List (List ℕ)) → 1 ≤ n → ChainAs Unified 0 body [] (made_hunks line n) → begins ways.only Unified (body ++ []) ≡ true
opens-body ways line zero body some c = absurd (omega (arith, some))
opens-body ways line (suc n) body some c =
    ap (λ ls. begins ways.only Unified (ls ++ [])) c.2 ∙ ap (begins ways.only Unified) (append_assoc c.0 c.1 [])
    ∙ hunk_opens 0 c.0 (c.1 ++ []) (made_hunk line 1) c.3

record HasOwn (ways : ReadOptions) (text : List ℕ) (p : PlainPatch) : Type 0 where
  own : List (List ℕ)
  whole : AllByRecursion IsLine own
  is : text ≡ joined own
  reads : IsFilePatch ways own [] p
  begins_so : (more : List (List ℕ)) → BeginCleanly (own ++ more)
  dots : list_any (asks_dot ways.only) (region_of ways own) ≡ false

one-own : (ways : ReadOptions) (seed lines i : ℕ) → admits ways.only Unified ≡ true → 20 ≤ lines → lines ≤ 9999999 → HasOwn ways (made_patch seed lines i) (made_file_patch seed lines i)
one-own ways seed lines i admitted some few =
    let x = file_state seed lines i in
    let n = lines / 20 in
    let hs : List PlainHunk = made_hunks (file_line x) n in
    let b = body-for x n (omega (arith, few)) in
    let chain : ChainAs Unified 0 b.0 [] hs = subst (λ (gs : List PlainHunk). ChainAs Unified 0 b.0 [] gs) (body-hunks x n) b.1.chain in
    let region : List (List ℕ) = head_lines (heads i) in
    let clean : AreClean (heads i) = (name-clean i, (name-clean i, tt)) in
    let reads : IsFilePatch ways (region ++ b.0) [] (made_file_patch seed lines i) = record {
      region = region;
      body = b.0;
      stop = Opening Unified;
      parts = refl;
      quiet = heads-quiet ways (heads i) (b.0 ++ []);
      stands = (opening-words ways Unified (b.0 ++ [])).1 (and_from (admits ways.only Unified) (begins ways.only Unified (b.0 ++ [])) admitted (opens-body ways (file_line x) n b.0 (omega (arith, some)) chain));
      says = header-read ways i b.0;
      spelled = chain-piece Unified b.0 hs tt chain;
    } in
    record {
      own = region ++ b.0;
      whole = lines-both region b.0 (heads-whole (heads i) clean) b.1.whole;
      is = ap (λ t. t ++ flat_map (hunk_text (file_line x)) (range_with_len 1 n)) (heads-text i) ∙ ap (λ t. joined region ++ t) (body-text x n b.0 b.1) ∙ sym (flat_map-append (λ (l : List ℕ). l) region b.0);
      reads = reads;
      begins_so = λ more. clean-line Minus (file_name i) ((head_lines ((Plus, file_name i) ∷ []) ++ b.0) ++ more);
      dots = ap (list_any (asks_dot ways.only)) (ap (region_of ways) (sym (append-nil (region ++ b.0))) ∙ region-is ways (region ++ b.0) [] (made_file_patch seed lines i) reads) ∙ no-dots ways (heads i);
    }

-- ---- all of them

record Gathered (ways : ReadOptions) (seed lines a n : ℕ) : Type 0 where
  parts : List Part
  whole : AllByRecursion IsLine (all_lines parts)
  is : flat_map (made_patch seed lines) (range_with_len a n) ≡ joined (all_lines parts)
  fit : FitTogether ways parts
  patches : map (λ (x : Part). x.patch) parts ≡ map (made_file_patch seed lines) (range_with_len a n)
  begins_so : BeginCleanly (all_lines parts)

gather : (ways : ReadOptions) (seed lines a n : ℕ) → admits ways.only Unified ≡ true → 20 ≤ lines → lines ≤ 9999999 → Gathered ways seed lines a n
gather ways seed lines a zero admitted some few = record {
  parts = [];
  whole = tt;
  is = refl;
  fit = tt;
  patches = refl;
  begins_so = record { unified = refl; context = refl; normal = refl; command = refl; append = refl; kept = refl; added = refl; changed = refl; substitution = refl; backslash = refl };
}
gather ways seed lines a (suc n) admitted some few =
    let o = one-own ways seed lines a admitted some few in
    let g = gather ways seed lines (a + 1) n admitted some few in
    let part : Part = record { own = o.own; patch = made_file_patch seed lines a } in
    let these : all_lines (part ∷ g.parts) ≡ o.own ++ all_lines g.parts = flat_map-cons (λ (x : Part). x.own) part g.parts in
    let clean : JoinCleanly ways o.own (all_lines g.parts) (made_file_patch seed lines a) = record {
      begins = g.begins_so;
      git = λ e. absurd (cc);
      dots = λ e. absurd (let bad : false ≡ true = sym o.dots ∙ e in cc);
    } in
    record {
      parts = part ∷ g.parts;
      whole = subst (AllByRecursion IsLine) (sym these) (lines-both o.own (all_lines g.parts) o.whole g.whole);
      is = ap (λ t. t ++ flat_map (made_patch seed lines) (range_with_len (a + 1) n)) o.is ∙ ap (λ t. joined o.own ++ t) g.is ∙ sym (flat_map-append (λ (l : List ℕ). l) o.own (all_lines g.parts)) ∙ ap joined (sym these);
      fit = (o.reads, clean, g.fit);
      patches = ap (λ qs. made_file_patch seed lines a ∷ qs) g.patches;
      begins_so = subst BeginCleanly (sym these) (o.begins_so (all_lines g.parts));
    }

pub patch-is : (seed files count : ℕ) → (made seed files count).patch ≡ flat_map (made_patch seed count) (range_with_len 1 files)
unfolding made
patch-is seed files count = refl

pub made-reads : (ways : ReadOptions) (seed files count : ℕ) → admits ways.only Unified ≡ true → 20 ≤ count → count ≤ 9999999 → read_unnumbered ways (made seed files count).patch ≡ Ok (made_patches seed files count)
made-reads ways seed files count admitted some few =
    let g = gather ways seed count 1 files admitted some few in
    let these : lines (made seed files count).patch ≡ all_lines g.parts = ap lines (patch-is seed files count ∙ g.is) ∙ pieces-only (all_lines g.parts) (whole-pieces (all_lines g.parts) g.whole) in
    parts-read ways (made seed files count).patch g.parts these g.fit ∙ ap (λ (ps : List PlainPatch). Ok ps) g.patches

-- whole lines leave no line open
none-open : (ls : List (List ℕ)) → AllByRecursion IsLine ls → ends_open ls ≡ false
unfolding ends_open
none-open [] all = refl
none-open (l ∷ []) all = line-has l all.0
none-open (l ∷ k ∷ ls) all = none-open (k ∷ ls) all.1

pub made-complete : (ways : ReadOptions) (seed files count : ℕ) → admits ways.only Unified ≡ true → 20 ≤ count → count ≤ 9999999 → IsComplete (made seed files count).patch
made-complete ways seed files count admitted some few =
    let g = gather ways seed count 1 files admitted some few in
    ap (λ (t : List ℕ). ends_open (lines t)) (patch-is seed files count ∙ g.is) ∙ ap ends_open (pieces-only (all_lines g.parts) (whole-pieces (all_lines g.parts) g.whole)) ∙ none-open (all_lines g.parts) g.whole
