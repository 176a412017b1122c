-- Which hunks have a hit, and what is written of them.
use Rattle.std.proofs.Common.{◌≡◌, ℕ, zero, suc, ◌+◌, ◌<◌, Bool, true, false, cond, ◌&&◌, ◌||◌, List, [], ◌∷◌, ◌++◌, length, get_or, map, take, drop, Some, refl, sym, ap, subst, ◌∙◌, arith}
use Rattle.std.specs.Prelude.{slice_get, option_map, filter, if◌then◌else◌, ◌==◌, ◌^◌, All}
use Rattle.std.specs.List.{flat_map, list_any, zip}
use Rattle.std.proofs.lemmas.Bool.{eqb-true}
use Rattle.std.proofs.lemmas.List.{length-map}
use Rattle.std.proofs.lemmas.List.Concat.{flat_map-cons}
use Rattle.std.proofs.lemmas.List.Folds.{list_any_at, list_any-append}
use Rattle.std.proofs.lemmas.Option.{get_or_from_slice_get, slice_get_within, slice_get-map}
use Rattle.std.proofs.lemmas.List.Elements.{All-get_or}
use Rattle.line_list.specs.declared.Span.{Span}
use Rattle.hunk_core.specs.declared.Hunk.{Hunk}
use Rattle.hunk_core.specs.declared.HunkLine.{HunkLine}
use Rattle.hunk_core.specs.PlainHunk.{Marked, bytes_at, marked_of, body_of, hunk_of, hunks_of}
use Rattle.ed_form.specs.declared.script.EdEdit.{EdEdit}
use Rattle.ed_form.specs.PlainEdit.{PlainEdit, edit_of, edits_of, lines_of}
use Rattle.ed_form.specs.declared.script.EdScript.{EdScript}
use Rattle.read_file_patch.specs.declared.Change.{Change}
use Rattle.read_file_patch.specs.declared.Change.TheVariants.{Hunks, Script}
use Rattle.read_file_patch.specs.declared.FilePatch.{FilePatch}
use Rattle.read_file_patch.specs.PlainPatch.{IsLawfulChange, PlainChange, hunks, script, change_of, hunk_count, row_count, patch_of}
use Rattle.patch_set.specs.SetView.{SetView}
use Rattle.patch_set.specs.Spans.{IsPlaced}
use Rattle.patch_set.proofs.Named.{rows-counted}
use Rattle.cli_tool_words.specs.PlainJobs.{PlainGrepJob}
use Rattle.cli_tool_words.specs.declared.jobs.Searched.{Searched}
use Rattle.hunk_core.specs.declared.Mark.TheVariants.{Add}
use Rattle.patch_header.specs.Content.{content}
use Rattle.patch_filters.specs.Filtered.{pieces, text_if}
use Rattle.patch_filters.specs.Grepped.{IsFirst, asked_text, contents, grepped, hits_of, is_found, is_searched, text_if_found}
use Rattle.filter_choice.proofs.Rows.{any-map, flat-if}
use Rattle.outside.proofs.Loops.{up_to, one-more, both}
use Rattle.patch_filters.proofs.Flagged.{rows, rows-long, row-at}

pub grepped-is : (hit : List ℕ → Bool) (j : PlainGrepJob) (v : SetView) → grepped hit j v ≡ flat_map (text_if_found hit j v.text) v.patches
unfolding grepped
grepped-is hit j v = flat-if (λ (p : FilePatch). is_found hit j (patch_of v.text p)) (asked_text hit j v.text) v.patches

pub grepped-none : (hit : List ℕ → Bool) (j : PlainGrepJob) (v : SetView) → v.patches ≡ [] → [] ≡ grepped hit j v
grepped-none hit j v none = sym (grepped-is hit j v ∙ ap (flat_map (text_if_found hit j v.text)) none)

-- a list is empty, by its length
pub is-empty : {A : Type 0} (xs : List A) → (length xs == 0) ≡ true → xs ≡ []
is-empty [] is = refl
is-empty (x ∷ xs) is = absurd (omega (arith, eqb-true (length (x ∷ xs)) 0 is))

pub has-none-in : {A : Type 0} (xs : List A) → (length xs == 0) ≡ false → xs ≡ [] → ⊥
has-none-in [] is none = absurd cc
has-none-in (x ∷ xs) is none = absurd cc

contents-count : (searched : Searched) (c : PlainChange) → length (contents searched c) ≡ hunk_count c
contents-count searched (hunks hs) = length-map hs _
contents-count searched (script es) = refl

pub hits-long : (searched : Searched) (hit : List ℕ → Bool) (text : List ℕ) (c : Change) → length (hits_of searched hit (change_of text c)) ≡ row_count c
hits-long searched hit text c = length-map (contents searched (change_of text c)) (list_any hit) ∙ contents-count searched (change_of text c) ∙ rows-counted text c

pub hits-same : (searched : Searched) (hit : List ℕ → Bool) (t text : List ℕ) (q p : FilePatch) → t ≡ text → q ≡ p → hits_of searched hit (change_of t q.change) ≡ hits_of searched hit (change_of text p.change)
hits-same searched hit t text q p is also = ap (λ x. hits_of searched hit (change_of x q.change)) is ∙ ap (λ (x : FilePatch). hits_of searched hit (change_of text x.change)) also

-- ---- lines as flags

flags-any : {A : Type 0} (test : A → Bool) (xs : List A) → list_any (λ is. is) (map test xs) ≡ list_any test xs
flags-any test xs = sym (any-map (λ is. is) test xs)

-- some element that is kept passes
any-kept : {A : Type 0} (keep test : A → Bool) (xs : List A) → list_any (λ x. keep x && test x) xs ≡ list_any test (filter keep xs)
any-kept keep test [] = refl
any-kept keep test (x ∷ xs) = by (keep x) (any-kept keep test xs)
  where
    by : (b : Bool) → list_any (λ x. keep x && test x) xs ≡ list_any test (filter keep xs) → ((b && test x) || list_any (λ x. keep x && test x) xs) ≡ list_any test (cond b (x ∷ filter keep xs) (filter keep xs))
    by true later = ap (λ r. test x || r) later
    by false later = later

module _ (text : List ℕ) where
  abbrev pub line_flag : Searched → (List ℕ → Bool) → HunkLine → Bool
  line_flag searched hit l = is_searched searched l.mark && hit (content (bytes_at text l.span))

  abbrev pub line_flags : Searched → List HunkLine → (List ℕ → Bool) → List Bool
  line_flags searched ls hit = map (line_flag searched hit) ls

  pub line-flag : (searched : Searched) (ls : List HunkLine) (hit : List ℕ → Bool) (i : ℕ) (l : HunkLine) (b : Bool) → slice_get ls i ≡ Some l → b ≡ line_flag searched hit l → slice_get (line_flags searched ls hit) i ≡ Some b
  line-flag searched ls hit i l b is answer =
      slice_get-map (line_flag searched hit) ls i ∙ ap (option_map (line_flag searched hit)) is ∙ ap (λ f. Some f) (sym answer)

  pub line-count : (searched : Searched) (ls : List HunkLine) (hit : List ℕ → Bool) → length (line_flags searched ls hit) ≡ length ls
  line-count searched ls hit = length-map ls _

  pub lines-any : (searched : Searched) (ls : List HunkLine) (hit : List ℕ → Bool)
      → list_any (λ is. is) (line_flags searched ls hit) ≡ list_any hit (map (λ m. content m.line) (filter (λ m. is_searched searched m.mark) (body_of text ls)))
  lines-any searched ls hit =
      flags-any (line_flag searched hit) ls
      ∙ any-map (λ (m : Marked). is_searched searched m.mark && hit (content m.line)) (marked_of text) ls
      ∙ any-kept (λ (m : Marked). is_searched searched m.mark) (λ (m : Marked). hit (content m.line)) (body_of text ls)
      ∙ any-map hit (λ (m : Marked). content m.line) (filter (λ (m : Marked). is_searched searched m.mark) (body_of text ls))

  abbrev pub span_flags : List Span → (List ℕ → Bool) → List Bool
  span_flags spans hit = map (λ s. hit (content (bytes_at text s))) spans

  pub span-flag : (spans : List Span) (hit : List ℕ → Bool) (i : ℕ) (span : Span) (b : Bool) → slice_get spans i ≡ Some span → b ≡ hit (content (bytes_at text span)) → slice_get (span_flags spans hit) i ≡ Some b
  span-flag spans hit i span b is answer =
      let flag : Span → Bool = λ s. hit (content (bytes_at text s)) in
      slice_get-map flag spans i ∙ ap (option_map flag) is ∙ ap (λ f. Some f) (sym answer)

  pub span-count : (spans : List Span) (hit : List ℕ → Bool) → length (span_flags spans hit) ≡ length spans
  span-count spans hit = length-map spans _

  pub spans-any : (spans : List Span) (hit : List ℕ → Bool) → list_any (λ is. is) (span_flags spans hit) ≡ list_any hit (map content (lines_of text spans))
  spans-any spans hit =
      flags-any (λ (s : Span). hit (content (bytes_at text s))) spans
      ∙ any-map (λ (line : List ℕ). hit (content line)) (bytes_at text) spans
      ∙ any-map hit content (lines_of text spans)

  abbrev pub edit_flags : List EdEdit → (List ℕ → Bool) → List Bool
  edit_flags es hit = map (λ e. list_any hit (map content (lines_of text e.added.items))) es

  pub edit-flag : (es : List EdEdit) (hit : List ℕ → Bool) (i : ℕ) (e : EdEdit) (b : Bool) → slice_get es i ≡ Some e → b ≡ list_any hit (map content (lines_of text e.added.items)) → slice_get (edit_flags es hit) i ≡ Some b
  edit-flag es hit i e b is answer =
      let flag : EdEdit → Bool = λ e. list_any hit (map content (lines_of text e.added.items)) in
      slice_get-map flag es i ∙ ap (option_map flag) is ∙ ap (λ f. Some f) (sym answer)

  pub edit-count : (es : List EdEdit) (hit : List ℕ → Bool) → length (edit_flags es hit) ≡ length es
  edit-count es hit = length-map es _

  pub edits-any : (es : List EdEdit) (hit : List ℕ → Bool) → list_any (λ is. is) (edit_flags es hit) ≡ list_any hit (flat_map (λ e. map content e.added) (edits_of text es))
  edits-any [] hit = refl
  edits-any (e ∷ es) hit =
      let here = map content (lines_of text e.added.items) in
      let rest = flat_map (λ (e : PlainEdit). map content e.added) (edits_of text es) in
      ap (λ b. list_any hit here || b) (edits-any es hit)
      ∙ sym (ap (list_any hit) (flat_map-cons (λ (e : PlainEdit). map content e.added) (edit_of text e) (edits_of text es)) ∙ list_any-append hit here rest)

  -- ---- the flag of a hunk

  pub hunk-hits : (searched : Searched) (hit : List ℕ → Bool) (hs : List Hunk) (i : ℕ) (h : Hunk) → slice_get hs i ≡ Some h
      → get_or (hits_of searched hit (hunks (hunks_of text hs))) i false ≡ list_any hit (map (λ m. content m.line) (filter (λ m. is_searched searched m.mark) (hunk_of text h).body))
  hunk-hits searched hit hs i h is =
      let lines : Hunk → List (List ℕ) = λ h. map (λ (m : Marked). content m.line) (filter (λ (m : Marked). is_searched searched m.mark) (hunk_of text h).body) in
      get_or_from_slice_get _ i (list_any hit (lines h)) false
      (slice_get-map (list_any hit) (contents searched (hunks (hunks_of text hs))) i
      ∙ ap (option_map (list_any hit)) (slice_get-map _ (hunks_of text hs) i ∙ ap (option_map _) (slice_get-map (hunk_of text) hs i ∙ ap (option_map (hunk_of text)) is)))

-- ---- the first hunk with a hit

pub first-within : (flags : List Bool) (i : ℕ) → IsFirst flags (Some i) → i < length flags
first-within flags i first = slice_get_within flags i true first.1

pub first-some : (flags : List Bool) (i : ℕ) → IsFirst flags (Some i) → list_any (λ is. is) flags ≡ true
first-some flags i first = list_any_at (λ is. is) flags i false (first-within flags i first) (get_or_from_slice_get flags i true false first.1)

-- none before it has a hit
pub none-before : (flags : List Bool) (i first : ℕ) → list_any (λ is. is) (take first flags) ≡ false → i < first → get_or flags i false ≡ false
none-before [] i first none lt = refl
none-before (b ∷ flags) i zero none lt = absurd (omega (arith, lt))
none-before (true ∷ flags) i (suc first) none lt = absurd cc
none-before (false ∷ flags) zero (suc first) none lt = refl
none-before (false ∷ flags) (suc i) (suc first) none lt = none-before flags i first none (omega (arith, lt))

-- nothing is written before it
pub none-chosen : (flags : List Bool) (texts : List (List ℕ)) (i : ℕ) → list_any (λ is. is) (take i flags) ≡ false → flat_map text_if (take i (zip flags texts)) ≡ []
none-chosen flags texts zero none = refl
none-chosen [] texts (suc i) none = refl
none-chosen (b ∷ flags) [] (suc i) none = refl
none-chosen (true ∷ flags) (t ∷ texts) (suc i) none = absurd cc
none-chosen (false ∷ flags) (t ∷ texts) (suc i) none = flat_map-cons text_if (false, t) (take i (zip flags texts)) ∙ none-chosen flags texts i none

-- its piece comes first of what is written
module _ (flags : List Bool) (text : List ℕ) (p : FilePatch) (at : IsPlaced text p.span.start p.first_verdict p) (long : length flags ≡ row_count p.change) (first : ℕ) (is : IsFirst flags (Some first)) where
  abbrev piece : List ℕ
  piece = get_or (pieces text p) first []

  pub first-hunk : first < row_count p.change
  first-hunk = omega (arith, long, first-within flags first is)

  pub first-piece : piece ≡ up_to text_if (rows flags text p (row_count p.change) at.each long) (first + 1)
  first-piece =
      let row = row-at flags text p (row_count p.change) at.each long first first-hunk ∙ ap (λ b. Some (b, piece)) (get_or_from_slice_get flags first true false is.1) in
      sym (ap (λ t. t ++ piece) (none-chosen flags (pieces text p) first is.0))
      ∙ one-more text_if (rows flags text p (row_count p.change) at.each long) first (true, piece) (omega (arith, first-hunk, rows-long flags text p (row_count p.change) at.each long)) row

  pub first-whole : piece ++ flat_map text_if (drop (first + 1) (rows flags text p (row_count p.change) at.each long)) ≡ flat_map text_if (rows flags text p (row_count p.change) at.each long)
  first-whole = ap (λ t. t ++ flat_map text_if (drop (first + 1) (rows flags text p (row_count p.change) at.each long))) first-piece ∙ both text_if (rows flags text p (row_count p.change) at.each long) (first + 1)

-- ---- what is lawful

pub few-rows : (text : List ℕ) (c : Change) → IsLawfulChange text c → row_count c < 2 ^ 32
few-rows text (Hunks hs) is = is.count
few-rows text (Script s) is = omega arith

pub all-at : {A : Type 0} (P : A → Type 0) (xs : List A) (i : ℕ) (x : A) → All P xs → i < length xs → x ≡ get_or xs i x → P x
all-at P xs i x all lt is = subst P (sym is) (All-get_or P xs i x lt all)

pub script-hit : (text : List ℕ) (searched : Searched) (hit : List ℕ → Bool) (s : EdScript) (i : ℕ) → i < 1
    → list_any hit (if is_searched searched Add then flat_map (λ e. map content e.added) (edits_of text s.edits.items) else []) ≡ get_or (hits_of searched hit (change_of text (Script s))) i false
script-hit text searched hit s zero lt = refl
script-hit text searched hit s (suc i) lt = absurd (omega (arith, lt))
