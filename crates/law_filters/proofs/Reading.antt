-- A set that was written in a form, read again.
use Rattle.std.proofs.Common.{◌≡◌, ℕ, Bool, true, false, cond, List, [], ◌∷◌, ◌++◌, length, map, Option, None, Some, Ok, refl, sym, ap, subst, ◌∙◌}
use Rattle.std.specs.Prelude.{find, option_map}
use Rattle.std.specs.List.{AllByRecursion, flat_map, list_any, range_with_len, zip}
use Rattle.std.specs.Option.{IfSome, option_or}
use Rattle.std.proofs.lemmas.Grind.{flat_map-append}
use Rattle.std.proofs.lemmas.List.{append-nil}
use Rattle.std.proofs.lemmas.List.Concat.{flat_map-cons}
use Rattle.line_list.specs.Lines.{IsLine, lines}
use Rattle.line_list.proofs.Pieces.{joined, pieces-only}
use Rattle.line_list.proofs.WholeLines.{lines-both}
use Rattle.hunk_core.specs.declared.Form.{Form}
use Rattle.hunk_core.specs.declared.Side.TheVariants.{Forward}
use Rattle.patch_header.specs.Openings.{admits, asks_dot, begins}
use Rattle.patch_header.specs.Steps.{region_of as region_before}
use Rattle.patch_header.specs.declared.openings.Stop.TheVariants.{Opening}
use Rattle.patch_header.specs.declared.read_options.ReadOptions.{ReadOptions}
use Rattle.patch_header.proofs.Stands.{opening-words}
use Rattle.read_file_patch.specs.Absent.{IsLawfulPatch}
use Rattle.read_file_patch.specs.PlainPatch.{IsLawfulChange, PlainChange, PlainPatch, header_of, patch_of, first_opening}
use Rattle.read_file_patch.specs.declared.FilePatch.{FilePatch}
use Rattle.read_patch_text.specs.Regions.{Region}
use Rattle.patch_set.specs.PlainName.{plain_name}
use Rattle.patch_set.specs.SetView.{IsWhole, SetView, plain_patches}
use Rattle.patch_set.specs.Spans.{IsPlaced}
use Rattle.flip_patch.specs.HeaderText.{header_text}
use Rattle.law_reading.specs.Following.{IsFilePatch}
use Rattle.law_reading.specs.Joins.{BeginCleanly, FitTogether, JoinCleanly, Part, all_lines, read_unnumbered}
use Rattle.law_reading.proofs.Joining.{region-is}
use Rattle.law_reading.proofs.Standing.{parts-read}
use Rattle.cli_tool_words.specs.PlainJobs.{PlainFilterJob}
use Rattle.format_convert.specs.Blocks.{changes}
use Rattle.format_convert.specs.Taken.{flags, has_kept, left_patch, left_patches}
use Rattle.format_convert.proofs.Rows.{flags-long}
use Rattle.format_convert.specs.Converted.{change_text, converted, is_written, pieces, rows, written, written_if}
use Rattle.format_convert.specs.Refusals.{is_unfit, lacks_context, no_context, refusal, unfit}
use Rattle.format_convert.specs.declared.fault.ConvertFault.{ConvertFault}
use Rattle.format_convert.proofs.RowLemmas.{converted-is, left-is, refusal-is, row_if}
use Rattle.law_reading.proofs.Headed.{heads-quiet, heads-whole}
use Rattle.law_reading.proofs.FlipHeaders.{head_lines}
use Rattle.law_reading.proofs.FlipReading.{all-placed, all-shown, clean-front, map-none, no-dots, whole-pieces}
use Rattle.law_reading.proofs.Region.{IsShownIf, regions-shown}
use Rattle.std.proofs.lemmas.Bool.{and_from}
use Rattle.law_filters.specs.ReadAgain.{IsGivenBack, again_if, change_again, header_again, patch_again, patches_again}
use Rattle.law_filters.proofs.Bodies.{body-for, changes-for, not-bare}
use Rattle.law_filters.proofs.Headed.{HeadedIn, headed-in, shown-name}
use Rattle.law_filters.proofs.Shown.{Body}
use Rattle.law_filters.proofs.EdBody.{all-by}

-- ---- what is known of a file patch of a set

pub record IsReady (ways : ReadOptions) (text : List ℕ) (p : FilePatch) : Type 0 where
  pub start : ℕ
  pub before : ℕ
  pub placed : IsPlaced text start before p
  pub shown : IsShownIf ways text p.header
  pub lawful : IsLawfulChange text p.change

all-ready : (ways : ReadOptions) (text : List ℕ) (ps : List FilePatch) → AllByRecursion (λ (p : FilePatch). (s : ℕ) × ((b : ℕ) × IsPlaced text s b p)) ps → AllByRecursion (λ (p : FilePatch). IsShownIf ways text p.header) ps
    → AllByRecursion (IsLawfulPatch text) ps → AllByRecursion (IsReady ways text) ps
all-ready ways text [] a b c = tt
all-ready ways text (p ∷ ps) a b c = (record { start = a.0.0; before = a.0.1.0; placed = a.0.1.1; shown = b.0; lawful = c.0.change }, all-ready ways text ps a.1 b.1 c.1)

pub ready : (v : SetView) → IsWhole v → AllByRecursion (IsReady v.ways v.text) v.patches
ready v whole =
    all-ready v.ways v.text v.patches (all-placed v.text 0 0 v.patches whole.placed)
    (all-shown v.ways v.text v.patches (subst (AllByRecursion (λ (r : Region). IsShownIf v.ways v.text r.header)) (sym whole.regions) (regions-shown (length v.text) v.ways v.text 0 1)))
    (all-by (IsLawfulPatch v.text) v.patches whole.lawful)

-- ---- one file patch of which something is written

record HasOwn (ways : ReadOptions) (form : Form) (text : List ℕ) (p : FilePatch) (c : PlainChange) (bytes : List ℕ) : Type 0 where
  own : List (List ℕ)
  whole : AllByRecursion IsLine own
  is : header_text text form Forward p.header ++ bytes ≡ joined own
  reads : IsFilePatch ways own [] (patch_again form (record { header = header_of text p.header; change = c }))
  begins_so : (more : List (List ℕ)) → BeginCleanly (own ++ more)
  dots : list_any (asks_dot ways.only) (region_before ways own) ≡ false

own-of : (ways : ReadOptions) (form : Form) (text : List ℕ) (p : FilePatch) (c : PlainChange) (bytes : List ℕ) → admits ways.only form ≡ true → HeadedIn text form p.header → Body ways form c bytes → HasOwn ways form text p c bytes
own-of ways form text p c bytes admitted h b =
    let region : List (List ℕ) = head_lines h.heads in
    let again : PlainPatch = patch_again form (record { header = header_of text p.header; change = c }) in
    let reads : IsFilePatch ways (region ++ b.body) [] again = record {
      region = region;
      body = b.body;
      stop = Opening form;
      parts = refl;
      quiet = heads-quiet ways h.heads (b.body ++ []);
      stands = (opening-words ways form (b.body ++ [])).1 (and_from (admits ways.only form) (begins ways.only form (b.body ++ [])) admitted b.opens);
      says = h.said ways b.body;
      spelled = b.spelled;
    } in
    record {
      own = region ++ b.body;
      whole = lines-both region b.body (heads-whole h.heads h.clean) b.whole;
      is = ap (λ x. x ++ bytes) h.is ∙ ap (λ x. joined region ++ x) b.is ∙ sym (flat_map-append (λ (l : List ℕ). l) region b.body);
      reads = reads;
      begins_so = λ more. clean-front h.heads b.body more h.some;
      dots = ap (list_any (asks_dot ways.only)) (ap (region_before ways) (sym (append-nil (region ++ b.body))) ∙ region-is ways (region ++ b.body) [] again reads) ∙ no-dots ways h.heads;
    }

-- ---- all of them

-- a file patch isn't refused
abbrev IsFit : Form → PlainPatch → Type 0
IsFit form p = (lacks_context form p ≡ false) × (is_unfit form p ≡ false)

record Gathered (ways : ReadOptions) (form : Form) (j : PlainFilterJob) (text : List ℕ) (rs : List (ℕ × FilePatch)) : Type 0 where
  parts : List Part
  whole : AllByRecursion IsLine (all_lines parts)
  is : flat_map (written_if form j text) rs ≡ joined (all_lines parts)
  fit : FitTogether ways parts
  patches : map (λ (x : Part). x.patch) parts ≡ flat_map (again_if form) (flat_map (row_if j text) rs)
  begins_so : BeginCleanly (all_lines parts)

all-front : (P : PlainPatch → Type 0) (xs ys : List PlainPatch) → AllByRecursion P (xs ++ ys) → AllByRecursion P xs
all-front P [] ys all = tt
all-front P (x ∷ xs) ys all = (all.0, all-front P xs ys all.1)

all-rest : (P : PlainPatch → Type 0) (xs ys : List PlainPatch) → AllByRecursion P (xs ++ ys) → AllByRecursion P ys
all-rest P [] ys all = all
all-rest P (x ∷ xs) ys all = all-rest P xs ys all.1

-- what is left of one
abbrev left_at : PlainFilterJob → List ℕ → ℕ × FilePatch → PlainPatch
left_at j text r = left_patch j r.0 (patch_of text r.1)

module _ (from ways : ReadOptions) (form : Form) (j : PlainFilterJob) (text : List ℕ) (admitted : admits ways.only form ≡ true) where
  -- what is written of its change
  abbrev bytes_at_row : ℕ × FilePatch → List ℕ
  bytes_at_row r = change_text form r.1.header.form (flags j r.0 (patch_of text r.1)) (pieces text r.1) (patch_of text r.1).change

  -- nothing is written of the first one
  skipped : (r : ℕ × FilePatch) (rs : List (ℕ × FilePatch)) → written_if form j text r ≡ [] → flat_map (again_if form) (row_if j text r) ≡ [] → Gathered ways form j text rs → Gathered ways form j text (r ∷ rs)
  skipped r rs bytes none g = record {
    parts = g.parts;
    whole = g.whole;
    is = ap (λ x. x ++ flat_map (written_if form j text) rs) bytes ∙ g.is;
    fit = g.fit;
    patches = g.patches ∙ sym (flat_map-append (again_if form) (row_if j text r) (flat_map (row_if j text) rs) ∙ ap (λ ps. ps ++ flat_map (again_if form) (flat_map (row_if j text) rs)) none);
    begins_so = g.begins_so;
  }

  added : (r : ℕ × FilePatch) (rs : List (ℕ × FilePatch)) (c : PlainChange) (text_of : List ℕ) → written_if form j text r ≡ header_text text form Forward r.1.header ++ text_of
      → flat_map (again_if form) (row_if j text r) ≡ patch_again form (record { header = header_of text r.1.header; change = c }) ∷ [] → HasOwn ways form text r.1 c text_of → Gathered ways form j text rs → Gathered ways form j text (r ∷ rs)
  added r rs c text_of bytes one o g =
      let again : PlainPatch = patch_again form (record { header = header_of text r.1.header; change = c }) in
      let part : Part = record { own = o.own; patch = again } in
      let these : all_lines (part ∷ g.parts) ≡ o.own ++ all_lines g.parts = flat_map-cons (λ (x : Part). x.own) part g.parts in
      let clean : JoinCleanly ways o.own (all_lines g.parts) again = record {
        begins = g.begins_so;
        git = λ e. absurd (cc);
        dots = λ e. absurd (let bad : false ≡ true = sym o.dots ∙ e in cc);
      } in
      record {
        parts = part ∷ g.parts;
        whole = subst (AllByRecursion IsLine) (sym these) (lines-both o.own (all_lines g.parts) o.whole g.whole);
        is = ap (λ x. x ++ flat_map (written_if form j text) rs) (bytes ∙ o.is) ∙ ap (λ x. joined o.own ++ x) g.is ∙ sym (flat_map-append (λ (l : List ℕ). l) o.own (all_lines g.parts)) ∙ ap joined (sym these);
        fit = (o.reads, clean, g.fit);
        patches = ap (λ qs. again ∷ qs) g.patches ∙ sym (flat_map-append (again_if form) (row_if j text r) (flat_map (row_if j text) rs) ∙ ap (λ ps. ps ++ flat_map (again_if form) (flat_map (row_if j text) rs)) one);
        begins_so = subst BeginCleanly (sym these) (o.begins_so (all_lines g.parts));
      }

  one-more : (r : ℕ × FilePatch) (rs : List (ℕ × FilePatch)) → IsReady from text r.1 → AllByRecursion (IsFit form) (row_if j text r) → Gathered ways form j text rs → Gathered ways form j text (r ∷ rs)
  one-more r rs ready fit g = by-kept (has_kept j r.0 (patch_of text r.1)) refl
    where
      by-written : (w : Bool) → is_written form (left_at j text r).change ≡ w → has_kept j r.0 (patch_of text r.1) ≡ true → Gathered ways form j text (r ∷ rs)
      by-written true is kept =
          let rows_are : row_if j text r ≡ left_at j text r ∷ [] = ap (λ v. cond v (left_at j text r ∷ []) []) kept in
          let fits = (subst (AllByRecursion (IsFit form)) rows_are fit).0 in
          let long = flags-long j r.0 (patch_of text r.1) in
          let bare = not-bare text ready.start ready.before r.1 (flags j r.0 (patch_of text r.1)) ready.placed kept long in
          let body = body-for ways text form ready.start ready.before r.1 (flags j r.0 (patch_of text r.1)) ready.placed ready.lawful bare kept long fits.0 fits.1 is in
          added r rs (left_at j text r).change (bytes_at_row r)
          (ap (λ v. cond v (written form text r.1.header (flags j r.0 (patch_of text r.1)) (pieces text r.1) (patch_of text r.1).change) []) kept ∙ ap (λ v. cond v (header_text text form Forward r.1.header ++ bytes_at_row r) []) is)
          (ap (flat_map (again_if form)) rows_are ∙ ap (λ v. cond v (patch_again form (left_at j text r) ∷ []) [] ++ []) is)
          (own-of ways form text r.1 (left_at j text r).change (bytes_at_row r) admitted (headed-in from text r.1.header (ready.shown bare) form) body) g
      by-written false is kept =
          let rows_are : row_if j text r ≡ left_at j text r ∷ [] = ap (λ v. cond v (left_at j text r ∷ []) []) kept in
          skipped r rs
          (ap (λ v. cond v (written form text r.1.header (flags j r.0 (patch_of text r.1)) (pieces text r.1) (patch_of text r.1).change) []) kept ∙ ap (λ v. cond v (header_text text form Forward r.1.header ++ bytes_at_row r) []) is)
          (ap (flat_map (again_if form)) rows_are ∙ ap (λ v. cond v (patch_again form (left_at j text r) ∷ []) [] ++ []) is) g

      by-kept : (v : Bool) → has_kept j r.0 (patch_of text r.1) ≡ v → Gathered ways form j text (r ∷ rs)
      by-kept true kept = by-written (is_written form (left_at j text r).change) refl kept
      by-kept false kept =
          skipped r rs
          (ap (λ v. cond v (written form text r.1.header (flags j r.0 (patch_of text r.1)) (pieces text r.1) (patch_of text r.1).change) []) kept)
          (ap (λ v. flat_map (again_if form) (cond v (left_at j text r ∷ []) [])) kept) g

  gather : (rs : List (ℕ × FilePatch)) → AllByRecursion (λ (r : ℕ × FilePatch). IsReady from text r.1) rs → AllByRecursion (IsFit form) (flat_map (row_if j text) rs) → Gathered ways form j text rs
  gather [] all fits = record {
    parts = [];
    whole = tt;
    is = refl;
    fit = tt;
    patches = refl;
    begins_so = record { unified = refl; context = refl; normal = refl; command = refl; append = refl; kept = refl; added = refl; changed = refl; substitution = refl; backslash = refl };
  }
  gather (r ∷ rs) all fits =
      one-more r rs all.0 (all-front (IsFit form) (row_if j text r) (flat_map (row_if j text) rs) fits)
      (gather rs all.1 (all-rest (IsFit form) (row_if j text r) (flat_map (row_if j text) rs) fits))

-- ---- a set

all-rows : {A : Type 0} (P : A → Type 0) (ns : List ℕ) (xs : List A) → AllByRecursion P xs → AllByRecursion (λ (r : ℕ × A). P r.1) (zip ns xs)
all-rows P [] xs all = tt
all-rows P (n ∷ ns) [] all = tt
all-rows P (n ∷ ns) (x ∷ xs) all = (all.0, all-rows P ns xs all.1)

find-none : (test : PlainPatch → Bool) (ps : List PlainPatch) → find test ps ≡ None → AllByRecursion (λ (p : PlainPatch). test p ≡ false) ps
find-none test [] e = tt
find-none test (p ∷ ps) e = by (test p) refl e (find-none test ps)
  where
    by : (v : Bool) → test p ≡ v → cond v (Some p) (find test ps) ≡ None → (find test ps ≡ None → AllByRecursion (λ (q : PlainPatch). test q ≡ false) ps) → (test p ≡ false) × AllByRecursion (λ (q : PlainPatch). test q ≡ false) ps
    by true t e again = absurd (cc)
    by false t e again = (t, again e)

or-none : (a b : Option ConvertFault) → option_or a b ≡ None → (a ≡ None) × (b ≡ None)
or-none None b e = (refl, e)
or-none (Some x) b e = absurd (cc)

both-all : (P Q : PlainPatch → Type 0) (ps : List PlainPatch) → AllByRecursion P ps → AllByRecursion Q ps → AllByRecursion (λ p. P p × Q p) ps
both-all P Q [] a b = tt
both-all P Q (p ∷ ps) a b = ((a.0, b.0), both-all P Q ps a.1 b.1)

all-fit : (form : Form) (ps : List PlainPatch) → refusal form ps ≡ None → AllByRecursion (IsFit form) ps
all-fit form ps none =
    let both = or-none (option_map no_context (first_opening (lacks_context form) ps)) (option_map unfit (first_opening (is_unfit form) ps)) (sym (refusal-is form ps) ∙ none) in
    both-all (λ p. lacks_context form p ≡ false) (λ p. is_unfit form p ≡ false) ps
    (find-none (lacks_context form) ps (map-none (λ (p : PlainPatch). p.header.opening) (find (lacks_context form) ps) (map-none no_context (first_opening (lacks_context form) ps) both.0)))
    (find-none (is_unfit form) ps (map-none (λ (p : PlainPatch). p.header.opening) (find (is_unfit form) ps) (map-none unfit (first_opening (is_unfit form) ps) both.1)))

pub reads-law : (form : Form) (j : PlainFilterJob) (v : SetView) (ways : ReadOptions) → IsWhole v → admits ways.only form ≡ true → refusal form (left_patches j (plain_patches v)) ≡ None → read_unnumbered ways (converted form j v) ≡ Ok (patches_again form j v)
reads-law form j v ways whole admitted none =
    let fits = subst (AllByRecursion (IsFit form)) (left-is j v) (all-fit form (left_patches j (plain_patches v)) none) in
    let g = gather v.ways ways form j v.text admitted (rows v) (all-rows (IsReady v.ways v.text) (range_with_len 0 (length v.patches)) v.patches (ready v whole)) fits in
    let these : lines (converted form j v) ≡ all_lines g.parts = ap lines (converted-is form j v ∙ g.is) ∙ pieces-only (all_lines g.parts) (whole-pieces (all_lines g.parts) g.whole) in
    parts-read ways (converted form j v) g.parts these g.fit
    ∙ ap (λ (ps : List PlainPatch). Ok ps) (g.patches ∙ ap (flat_map (again_if form)) (sym (left-is j v)))

-- ---- the names, and the changes

named : (form : Form) (ways : ReadOptions) (text : List ℕ) (ps : List FilePatch) → AllByRecursion (IsReady ways text) ps
    → AllByRecursion (λ (p : PlainPatch). p.header.bare ≡ false → IfSome p.header.to IsGivenBack → plain_name (header_again form p.header) ≡ plain_name p.header) (map (patch_of text) ps)
named form ways text [] all = tt
named form ways text (p ∷ ps) all = ((λ bare given. shown-name ways text p.header (all.0.shown bare) form given), named form ways text ps all.1)

pub names-law : (form : Form) (v : SetView) → IsWhole v → AllByRecursion (λ (p : PlainPatch). p.header.bare ≡ false → IfSome p.header.to IsGivenBack → plain_name (header_again form p.header) ≡ plain_name p.header) (plain_patches v)
names-law form v whole = named form v.ways v.text v.patches (ready v whole)

abbrev IsSame : Form → PlainPatch → Type 0
IsSame form p = changes (change_again form p.change) ≡ changes p.change

module _ (from : ReadOptions) (form : Form) (j : PlainFilterJob) (text : List ℕ) where
  row-same : (r : ℕ × FilePatch) → IsReady from text r.1 → AllByRecursion (IsFit form) (row_if j text r) → AllByRecursion (IsSame form) (row_if j text r)
  row-same r ready fit = by (has_kept j r.0 (patch_of text r.1)) refl
    where
      by : (v : Bool) → has_kept j r.0 (patch_of text r.1) ≡ v → AllByRecursion (IsSame form) (row_if j text r)
      by true kept =
          let rows_are : row_if j text r ≡ left_at j text r ∷ [] = ap (λ v. cond v (left_at j text r ∷ []) []) kept in
          let fits = (subst (AllByRecursion (IsFit form)) rows_are fit).0 in
          let bare = not-bare text ready.start ready.before r.1 (flags j r.0 (patch_of text r.1)) ready.placed kept (flags-long j r.0 (patch_of text r.1)) in
          subst (AllByRecursion (IsSame form)) (sym rows_are) (changes-for text form ready.start ready.before r.1 (flags j r.0 (patch_of text r.1)) ready.placed ready.lawful bare fits.0 fits.1, tt)
      by false kept = subst (AllByRecursion (IsSame form)) (sym (ap (λ v. cond v (left_at j text r ∷ []) []) kept)) tt

  all-same : (rs : List (ℕ × FilePatch)) → AllByRecursion (λ (r : ℕ × FilePatch). IsReady from text r.1) rs → AllByRecursion (IsFit form) (flat_map (row_if j text) rs) → AllByRecursion (IsSame form) (flat_map (row_if j text) rs)
  all-same [] all fits = tt
  all-same (r ∷ rs) all fits =
      all-joined (row_if j text r) (flat_map (row_if j text) rs)
      (row-same r all.0 (all-front (IsFit form) (row_if j text r) (flat_map (row_if j text) rs) fits))
      (all-same rs all.1 (all-rest (IsFit form) (row_if j text r) (flat_map (row_if j text) rs) fits))
    where
      all-joined : (xs ys : List PlainPatch) → AllByRecursion (IsSame form) xs → AllByRecursion (IsSame form) ys → AllByRecursion (IsSame form) (xs ++ ys)
      all-joined [] ys a b = b
      all-joined (x ∷ xs) ys a b = (a.0, all-joined xs ys a.1 b)

pub changes-law : (form : Form) (j : PlainFilterJob) (v : SetView) → IsWhole v → refusal form (left_patches j (plain_patches v)) ≡ None → AllByRecursion (λ (p : PlainPatch). changes (change_again form p.change) ≡ changes p.change) (left_patches j (plain_patches v))
changes-law form j v whole none =
    let fits = subst (AllByRecursion (IsFit form)) (left-is j v) (all-fit form (left_patches j (plain_patches v)) none) in
    subst (AllByRecursion (IsSame form)) (sym (left-is j v)) (all-same v.ways form j v.text (rows v) (all-rows (IsReady v.ways v.text) (range_with_len 0 (length v.patches)) v.patches (ready v whole)) fits)
