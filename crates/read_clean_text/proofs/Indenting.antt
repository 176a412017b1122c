-- The indent of a text, and the text without it, one line after another.
use Rattle.std.proofs.Common.{◌≡◌, ℕ, ◌+◌, ◌≤◌, Bool, true, false, ◌&&◌, cond, List, [], ◌∷◌, ◌++◌, length, map, take, drop, slice_range, refl, sym, ap, ◌∙◌, arith, length-append, append_assoc}
use Rattle.std.specs.Prelude.{slice_get}
use Rattle.std.specs.List.{flat_map}
use Rattle.std.proofs.lemmas.List.{append-nil}
use Rattle.std.proofs.lemmas.List.Concat.{flat_map-cons}
use Rattle.line_list.specs.Lines.{lines, IsLineAt}
use Rattle.read_file_patch.specs.declared.FilePatch.{FilePatch}
use Rattle.read_patch_text.specs.Regions.{Region, region_of}
use Rattle.patch_header.proofs.Rows.{line_length}
use Rattle.patch_header.specs.Values.{blanks, unblanked}
use Rattle.read_clean_text.specs.Bare.{bare_line}
use Rattle.read_clean_text.specs.Cleaned.{region_at}
use Rattle.read_clean_text.specs.Cleaning.{IsFoundFrom}
use Rattle.read_clean_text.specs.Indents.{are_indented, begins_patch, indent_of, is_fit, is_in, unindented_line, without_indent}

-- ---- the indent

indent-first : (line : List ℕ) (rest : List (List ℕ)) → indent_of (line ∷ rest) ≡ cond (begins_patch (unblanked line)) (take (blanks line) line) (indent_of rest)
unfolding indent_of
indent-first line rest = refl

indent-none : indent_of [] ≡ []
unfolding indent_of
indent-none = refl

-- no line in front of a place begins like one of a header
pub record HasSought (text : List ℕ) (at : ℕ) : Type 0 where
  pub within : at ≤ length text
  pub same : indent_of (lines (drop at text)) ≡ indent_of (lines text)

pub sought-none : (text : List ℕ) → HasSought text 0
sought-none text = record { within = omega arith; same = refl }

module _ (text : List ℕ) (at end : ℕ) (so : HasSought text at) (line : IsLineAt text at end) where
  here : indent_of (slice_range text at end ∷ lines (drop end text)) ≡ indent_of (lines text)
  here = ap indent_of (sym line.first) ∙ so.same

  pub sought-more : begins_patch (unblanked (slice_range text at end)) ≡ false → HasSought text end
  sought-more not_so = record {
    within = line.high;
    same =
        sym (indent-first (slice_range text at end) (lines (drop end text)) ∙ ap (λ b. cond b (take (blanks (slice_range text at end)) (slice_range text at end)) (indent_of (lines (drop end text)))) not_so)
        ∙ here;
  }

  pub sought-found : begins_patch (unblanked (slice_range text at end)) ≡ true → take (blanks (slice_range text at end)) (slice_range text at end) ≡ indent_of (lines text)
  sought-found is =
      sym (indent-first (slice_range text at end) (lines (drop end text)) ∙ ap (λ b. cond b (take (blanks (slice_range text at end)) (slice_range text at end)) (indent_of (lines (drop end text)))) is)
      ∙ here

pub sought-all : (text : List ℕ) (at : ℕ) → HasSought text at → lines (drop at text) ≡ [] → [] ≡ indent_of (lines text)
sought-all text at so none = sym indent-none ∙ ap indent_of (sym none) ∙ so.same

-- ---- without the indent

-- the lines up to a place were put down
pub record HasPut (indent text out : List ℕ) (at : ℕ) : Type 0 where
  pub within : at ≤ length text
  pub few : length out ≤ at
  pub all : out ++ flat_map (unindented_line indent) (lines (drop at text)) ≡ without_indent indent text

pub put-none : (indent text : List ℕ) → HasPut indent text [] 0
put-none indent text = record { within = omega arith; few = omega arith; all = refl }

pub put-more : (indent text out more : List ℕ) (at end : ℕ) → HasPut indent text out at → IsLineAt text at end
    → more ≡ out ++ unindented_line indent (slice_range text at end) → length (unindented_line indent (slice_range text at end)) ≤ length (slice_range text at end) → HasPut indent text more end
put-more indent text out more at end so line puts less =
    let one = slice_range text at end in
    let rest = lines (drop end text) in
    let far : at + length one ≡ end = line_length text at end line in
    record {
      within = line.high;
      few = omega (arith, ap length puts, length-append out (unindented_line indent one), less, far, so.few);
      all =
          ap (λ l. l ++ flat_map (unindented_line indent) rest) puts
          ∙ append_assoc out (unindented_line indent one) (flat_map (unindented_line indent) rest)
          ∙ ap (λ l. out ++ l) (sym (flat_map-cons (unindented_line indent) one rest))
          ∙ ap (λ ls. out ++ flat_map (unindented_line indent) ls) (sym line.first)
          ∙ so.all;
    }

module _ (indent text out : List ℕ) (at : ℕ) (so : HasPut indent text out at) where
  pub put-all : lines (drop at text) ≡ [] → out ≡ without_indent indent text
  put-all none = sym (append-nil out) ∙ ap (λ ls. out ++ flat_map (unindented_line indent) ls) (sym none) ∙ so.all

  pub put-length : length out ≤ length text
  put-length = omega (arith, so.few, so.within)

-- ---- whether each line of the file patches has it

are-first : (indent : List ℕ) (rs : List Region) (before : Bool) (at : ℕ) (line : List ℕ) (rest : List (List ℕ))
    → are_indented indent rs before at (line ∷ rest) ≡ is_fit indent (is_in before (region_at rs at) at (unindented_line indent line)) line
    && are_indented indent rs (is_in before (region_at rs at) at (unindented_line indent line)) (at + length (bare_line (unindented_line indent line))) rest
unfolding are_indented
are-first indent rs before at line rest = refl

are-none : (indent : List ℕ) (rs : List Region) (before : Bool) (at : ℕ) → are_indented indent rs before at [] ≡ true
unfolding are_indented
are-none indent rs before at = refl

module _ (indent text : List ℕ) (ps : List FilePatch) where
  -- what the lines from a place on say is what all of them say
  pub record HasLooked (from at next : ℕ) (before : Bool) : Type 0 where
    pub within : from ≤ length text
    pub low : at ≤ from
    pub all : are_indented indent (map region_of ps) before at (lines (drop from text)) ≡ are_indented indent (map region_of ps) false 0 (lines text)
    pub next_within : next ≤ length ps
    pub behind : (place : ℕ) → at ≤ place → region_at (drop next (map region_of ps)) place ≡ region_at (map region_of ps) place

  pub looked-none : HasLooked 0 0 0 false
  looked-none = record { within = omega arith; low = omega arith; all = refl; next_within = omega arith; behind = λ place on. refl }

  module _ (from at next end later : ℕ) (before is : Bool) (so : HasLooked from at next before) (line : IsLineAt text from end) (found : IsFoundFrom ps next later at)
      (tells : is ≡ is_in before (slice_get (map region_of ps) later) at (unindented_line indent (slice_range text from end))) where
    told : is ≡ is_in before (region_at (map region_of ps) at) at (unindented_line indent (slice_range text from end))
    told = tells ∙ ap (λ r. is_in before r at (unindented_line indent (slice_range text from end))) (found.is ∙ so.behind at (omega arith))

    abbrev later-lines : Bool
    later-lines = are_indented indent (map region_of ps) is (at + length (bare_line (unindented_line indent (slice_range text from end)))) (lines (drop end text))

    split : is_fit indent is (slice_range text from end) && later-lines ≡ are_indented indent (map region_of ps) false 0 (lines text)
    split =
        ap (λ b. is_fit indent b (slice_range text from end) && are_indented indent (map region_of ps) b (at + length (bare_line (unindented_line indent (slice_range text from end)))) (lines (drop end text))) told
        ∙ sym (are-first indent (map region_of ps) before at (slice_range text from end) (lines (drop end text)))
        ∙ ap (are_indented indent (map region_of ps) before at) (sym line.first)
        ∙ so.all

    pub looked-unfit : is_fit indent is (slice_range text from end) ≡ false → false ≡ are_indented indent (map region_of ps) false 0 (lines text)
    looked-unfit unfit = sym (ap (λ b. b && later-lines) unfit) ∙ split

    pub looked-more : (step : ℕ) → is_fit indent is (slice_range text from end) ≡ true → step ≡ length (bare_line (unindented_line indent (slice_range text from end)))
        → step ≤ length (slice_range text from end) → HasLooked end (at + step) later is
    looked-more step fit steps less =
        let far : from + length (slice_range text from end) ≡ end = line_length text from end line in
        record {
          within = line.high;
          low = omega (arith, so.low, far, less);
          all =
              ap (λ n. are_indented indent (map region_of ps) is (at + n) (lines (drop end text))) steps
              ∙ sym (ap (λ b. b && later-lines) fit)
              ∙ split;
          next_within = found.within;
          behind = λ place on. found.behind place (omega (arith, on)) ∙ so.behind place (omega (arith, on));
        }

  pub looked-all : (from at next : ℕ) (before : Bool) → HasLooked from at next before → lines (drop from text) ≡ [] → true ≡ are_indented indent (map region_of ps) false 0 (lines text)
  looked-all from at next before so none =
      sym (are-none indent (map region_of ps) before at) ∙ ap (are_indented indent (map region_of ps) before at) (sym none) ∙ so.all
