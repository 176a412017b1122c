-- How the patterns of files come to a selection.
use Rattle.std.proofs.Common.{◌≡◌, ◌≢◌, inl, inr, ℕ, ◌-◌, ◌≤◌, true, false, List, [], ◌∷◌, ◌++◌, length, map, zero, suc, All, Option, None, Some, Ok, Err, refl, sym, ap, ◌∙◌, arith, append_assoc, length-append}
use Rattle.std.specs.Prelude.{if◌then◌else◌, MatchOption, unwrap_or}
use Rattle.std.specs.Borrow.{Bor}
use Rattle.std.specs.List.{flat_map, slice_range}
use Rattle.std.specs.FinMap.{get}
use Rattle.std.proofs.lemmas.List.Concat.{flat_map-cons}
use Rattle.std.proofs.lemmas.List.Folds.{flat_map-map}
use Rattle.std.proofs.lemmas.Option.{none-some}
use Rattle.std.proofs.lemmas.List.{append-nil, take-append-le, take_all}
use Rattle.std.proofs.lemmas.Bool.{le-leb}
use Rattle.line_list.specs.Lines.{lines}
use Rattle.line_list.specs.Places.{IsWithin}
use Rattle.hunk_core.specs.LineTests.{ends_line}
use Rattle.outside.specs.Files.{Files}
use Rattle.outside.specs.TreeView.{TreeView}
use Rattle.outside.specs.Calls.{IsUntouched}
use Rattle.outside.proofs.Views.{rises_then}
use Rattle.cli_tool_words.specs.PlainJobs.{PlainSelect}
use Rattle.patch_options.specs.Forms.{is_empty}
use Rattle.cli_run_answers.specs.declared.fault.InputFault.{InputFault}
use Rattle.cli_run_answers.specs.declared.fault.InputFault.TheVariants.{NoPatchFile, TooLong, Source, Tree, Disagree, Memory}
use Rattle.cli_run_answers.specs.Input.{answer_of, HasFileCause}
use Rattle.patch_header.specs.Content.{content}
use Rattle.filter_whole_text.specs.Outcomes.{pattern_of, patterns_by, patterns_of, patterns_in, selection, with_patterns}
use Rattle.filter_whole_text.specs.Sifting.{NamesPatterns}
use Rattle.filter_whole_text.specs.Patterns.{Adds, HasPatternCause, HasSelectionCause}

-- ---- a line and its line feed
ends-fed : (front : List ℕ) → ends_line (front ++ 10 ∷ []) ≡ true
ends-fed [] = refl
ends-fed (b ∷ []) = refl
ends-fed (b ∷ c ∷ bs) = ends-fed (c ∷ bs)

pub content-fed : (front : List ℕ) → content (front ++ 10 ∷ []) ≡ front
content-fed front =
    let line = front ++ 10 ∷ [] in
    let less : length line - 1 ≡ length front = omega (arith, length-append front (10 ∷ [])) in
    rw (ends-fed front, less) (take-append-le (length front) front (10 ∷ []) (omega arith) ∙ take_all (length front) front (omega arith))

ends-unfed : (line : List ℕ) → ((front : List ℕ) → line ≢ front ++ 10 ∷ []) → ends_line line ≡ false
ends-unfed [] never = refl
ends-unfed (b ∷ []) never = let ne : b ≢ 10 = λ e. never [] (ap (λ x. x ∷ []) e) in grind arith
ends-unfed (b ∷ c ∷ bs) never = ends-unfed (c ∷ bs) (λ front e. never (b ∷ front) (ap (λ l. b ∷ l) e))

pub content-unfed : (line : List ℕ) → ((front : List ℕ) → line ≢ front ++ 10 ∷ []) → content line ≡ line
content-unfed line never = rw (ends-unfed line never) refl

-- what is left of a line once its line feed is taken off, or itself
pub content-stripped : (line : List ℕ) (found : Option (Bor (List ℕ))) (whole piece : Bor (List ℕ)) → MatchOption found ((front : List ℕ) → line ≢ front ++ 10 ∷ []) (λ x. line ≡ x.now ++ 10 ∷ []) → whole.now ≡ line → piece ≡ unwrap_or found whole → piece.now ≡ content line
content-stripped line None whole piece h own is = ap (λ (x : Bor (List ℕ)). x.now) is ∙ own ∙ sym (content-unfed line h)
content-stripped line (Some x) whole piece h own is = ap (λ (y : Bor (List ℕ)). y.now) is ∙ sym (content-fed x.now) ∙ sym (ap content h)

-- ---- the pattern of a line
abbrev pattern_from : List ℕ → List (List ℕ)
pattern_from piece = if is_empty piece then [] else piece ∷ []

pub pattern-none : (line piece : List ℕ) → piece ≡ content line → length piece ≡ 0 → (ps : List (List ℕ)) → ps ≡ ps ++ pattern_of line
pattern-none line [] is none ps = sym (append-nil ps) ∙ ap (λ c. ps ++ pattern_from c) is
pattern-none line (b ∷ bs) is none ps = absurd (omega arith)

pub pattern-one : (line piece : List ℕ) → piece ≡ content line → length piece ≢ 0 → piece ∷ [] ≡ pattern_of line
pattern-one line [] is some = absurd (some refl)
pattern-one line (b ∷ bs) is some = ap pattern_from is

-- ---- the lines of a text
-- the patterns of the lines at these places
abbrev pub patterns_at : List ℕ → List (ℕ × ℕ) → List (List ℕ)
patterns_at text places = flat_map (λ (p : ℕ × ℕ). pattern_of (slice_range text p.0 p.1)) places

pub patterns-all : (text : List ℕ) (places : List (ℕ × ℕ)) → map (λ (p : ℕ × ℕ). slice_range text p.0 p.1) places ≡ lines text → patterns_at text places ≡ patterns_in text
unfolding patterns_in
patterns-all text places is = sym (flat_map-map pattern_of (λ (p : ℕ × ℕ). slice_range text p.0 p.1) places) ∙ ap (flat_map pattern_of) is

pub patterns-more : (text : List ℕ) (before : List (List ℕ)) (place : ℕ × ℕ) (more : List (ℕ × ℕ)) → before ++ patterns_at text (place ∷ more) ≡ (before ++ pattern_of (slice_range text place.0 place.1)) ++ patterns_at text more
patterns-more text before place more =
    ap (λ l. before ++ l) (flat_map-cons (λ (p : ℕ × ℕ). pattern_of (slice_range text p.0 p.1)) place more)
    ∙ sym (append_assoc before (pattern_of (slice_range text place.0 place.1)) (patterns_at text more))

pub within-first : (text : List ℕ) (place : ℕ × ℕ) (more : List (ℕ × ℕ)) → All (IsWithin text) (place ∷ more) → IsWithin text place
within-first text place more h = h zero place (omega arith)

pub within-more : (text : List ℕ) (place : ℕ × ℕ) (more : List (ℕ × ℕ)) → All (IsWithin text) (place ∷ more) → All (IsWithin text) more
within-more text place more h k d lt = h (suc k) d (omega arith)

-- ---- the patterns of a file
pub answer-short : (bytes : List ℕ) → length bytes ≤ 268435456 → answer_of (Some bytes) ≡ Ok bytes
answer-short bytes le = rw (le-leb (length bytes) 268435456 le) refl

pub patterns-read : (f : Files) (name text : List ℕ) → get f name ≡ Some text → length text ≤ 268435456 → patterns_of (Some name) f ≡ Ok (patterns_in text)
patterns-read f name text is le = ap patterns_by (ap answer_of is ∙ answer-short text le)

pub file-cause : (e : InputFault) (t u : TreeView) (name : List ℕ) → HasFileCause e t u name → HasPatternCause e (Some name) t u
file-cause NoPatchFile t u name h = (λ e. none-some name (sym e), λ f told. ap patterns_by (h f told))
file-cause TooLong t u name h = (λ e. none-some name (sym e), λ f told. ap patterns_by (h f told))
file-cause Source t u name h = h
file-cause Tree t u name h = h
file-cause (Disagree want got) t u name h = (λ e. none-some name (sym e), h.0, h.1)
file-cause Memory t u name h = tt

-- ---- both files
module _ (s : PlainSelect) (f : Files) where
  pub selection-is : (include exclude : List (List ℕ)) → patterns_of s.include_file f ≡ Ok include → patterns_of s.exclude_file f ≡ Ok exclude → selection s f ≡ Ok (with_patterns s include exclude)
  unfolding selection
  selection-is include exclude a b = rw (a, b) refl

  include-fails : (e : InputFault) → patterns_of s.include_file f ≡ Err e → selection s f ≡ Err e
  unfolding selection
  include-fails e a = rw a refl

  exclude-fails : (e : InputFault) (include : List (List ℕ)) → patterns_of s.include_file f ≡ Ok include → patterns_of s.exclude_file f ≡ Err e → selection s f ≡ Err e
  unfolding selection
  exclude-fails e include a b = rw (a, b) refl

pub include-cause : (e : InputFault) (s : PlainSelect) (t u : TreeView) → HasPatternCause e s.include_file t u → HasSelectionCause e s t u
include-cause NoPatchFile s t u h = (inl h.0, λ f told. include-fails s f NoPatchFile (h.1 f told))
include-cause TooLong s t u h = (inl h.0, λ f told. include-fails s f TooLong (h.1 f told))
include-cause Source s t u h = h
include-cause Tree s t u h = h
include-cause (Disagree want got) s t u h = (inl h.0, h.1, h.2)
include-cause Memory s t u h = tt

-- the patterns to be included are there
abbrev pub AreIncluded : PlainSelect → TreeView → Type 0
AreIncluded s t = (f : Files) → (s.include_file ≢ None → t.told ≡ Some f) → (include : List (List ℕ)) × (patterns_of s.include_file f ≡ Ok include)

pub included : (s : PlainSelect) (t : TreeView) (name : Option (List ℕ)) (old new : List (List ℕ)) → name ≡ s.include_file → Adds name t old new → AreIncluded s t
included s t name old new is adds f told = let h = adds f (λ named. told (λ none. named (is ∙ none))) in (h.0, sym (ap (λ n. patterns_of n f) is) ∙ h.1)

pub exclude-cause : (e : InputFault) (s : PlainSelect) (t u v : TreeView) → IsUntouched t u → AreIncluded s t → HasPatternCause e s.exclude_file u v → HasSelectionCause e s t v
exclude-cause NoPatchFile s t u v same there h = (inr h.0, λ f told. let included = there f (λ named. told) in exclude-fails s f NoPatchFile included.0 included.1 (h.1 f (same.told ∙ told)))
exclude-cause TooLong s t u v same there h = (inr h.0, λ f told. let included = there f (λ named. told) in exclude-fails s f TooLong included.0 included.1 (h.1 f (same.told ∙ told)))
exclude-cause Source s t u v same there h = h
exclude-cause Tree s t u v same there h = rises_then t u v same.passes h
exclude-cause (Disagree want got) s t u v same there h = (inr h.0, h.1, sym same.told ∙ h.2)
exclude-cause Memory s t u v same there h = tt

-- the same selection with these patterns
abbrev pub select_with : PlainSelect → List (List ℕ) → List (List ℕ) → PlainSelect
select_with s include exclude = record {
  strip = s.strip;
  include = include;
  exclude = exclude;
  include_file = s.include_file;
  exclude_file = s.exclude_file;
  only_included = s.only_included;
  skip_binary = s.skip_binary;
}

pub chosen : (s : PlainSelect) (t u : TreeView) → IsUntouched t u → (name other : Option (List ℕ)) → name ≡ s.include_file → other ≡ s.exclude_file → (include exclude : List (List ℕ)) → Adds name t s.include include → Adds other u s.exclude exclude
    → (f : Files) → (NamesPatterns s → t.told ≡ Some f) → selection s f ≡ Ok (select_with s include exclude)
chosen s t u same name other is is2 include exclude adds adds2 f told =
    let a = adds f (λ named. told (inl (λ none. named (is ∙ none)))) in
    let b = adds2 f (λ named. same.told ∙ told (inr (λ none. named (is2 ∙ none)))) in
    selection-is s f a.0 b.0 (sym (ap (λ n. patterns_of n f) is) ∙ a.1) (sym (ap (λ n. patterns_of n f) is2) ∙ b.1)
    ∙ ap (λ x. Ok (select_with s x (s.exclude ++ b.0))) (sym a.2) ∙ ap (λ x. Ok (select_with s include x)) (sym b.2)
