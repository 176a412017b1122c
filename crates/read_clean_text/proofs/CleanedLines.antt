-- A text cleaned, one line after another.
use Rattle.std.proofs.Common.{◌≡◌, ℕ, ◌+◌, ◌≤◌, Bool, List, [], ◌∷◌, ◌++◌, length, map, drop, slice_range, refl, sym, ap, ◌∙◌, arith, append_assoc}
use Rattle.std.specs.Prelude.{slice_get}
use Rattle.std.specs.List.{flat_map}
use Rattle.std.proofs.lemmas.List.Concat.{flat_map-cons}
use Rattle.std.proofs.lemmas.List.{append-nil}
use Rattle.line_list.specs.Lines.{lines, IsLineAt}
use Rattle.read_file_patch.specs.declared.FilePatch.{FilePatch}
use Rattle.read_patch_text.specs.Regions.{Region, region_of}
use Rattle.patch_header.proofs.Rows.{line_length}
use Rattle.read_clean_text.specs.Bare.{bare_line}
use Rattle.read_clean_text.specs.Cleaned.{cleaned_lines, line_unless, loses_in, region_at}
use Rattle.read_clean_text.specs.Cleaning.{IsFoundFrom}

abbrev pub joined : List (List ℕ) → List ℕ
joined ls = flat_map (λ line. line) ls

cleaned-more : (keeps : Bool) (returns : List Bool) (rs : List Region) (at : ℕ) (line : List ℕ) (rest : List (List ℕ))
    → cleaned_lines keeps returns rs at (line ∷ rest) ≡ line_unless (loses_in keeps returns (region_at rs at) at line) line ∷ cleaned_lines keeps returns rs (at + length (bare_line line)) rest
unfolding cleaned_lines
cleaned-more keeps returns rs at line rest = refl

cleaned-end : (keeps : Bool) (returns : List Bool) (rs : List Region) (at : ℕ) → cleaned_lines keeps returns rs at [] ≡ []
unfolding cleaned_lines
cleaned-end keeps returns rs at = refl

module _ (keeps : Bool) (returns : List Bool) (text : List ℕ) (ps : List FilePatch) where
  -- the lines up to a place were put down
  pub record HasCleaned (out : List ℕ) (from at next : ℕ) : Type 0 where
    pub within : from ≤ length text
    pub low : at ≤ from
    pub all : out ++ joined (cleaned_lines keeps returns (map region_of ps) at (lines (drop from text))) ≡ joined (cleaned_lines keeps returns (map region_of ps) 0 (lines text))
    pub next_within : next ≤ length ps
    pub behind : (place : ℕ) → at ≤ place → region_at (drop next (map region_of ps)) place ≡ region_at (map region_of ps) place

  pub has-none : HasCleaned [] 0 0 0
  has-none = record { within = omega arith; low = omega arith; all = refl; next_within = omega arith; behind = λ place on. refl }

  pub has-more : (out more : List ℕ) (from at next end later step : ℕ) (loses : Bool) → HasCleaned out from at next → IsLineAt text from end → IsFoundFrom ps next later at
      → loses ≡ loses_in keeps returns (slice_get (map region_of ps) later) at (slice_range text from end) → more ≡ out ++ line_unless loses (slice_range text from end)
      → step ≡ length (bare_line (slice_range text from end)) → step ≤ length (slice_range text from end) → HasCleaned more end (at + step) later
  has-more out more from at next end later step loses so line found is adds steps less =
      let rs = map region_of ps in
      let one = slice_range text from end in
      let rest = lines (drop end text) in
      let far : from + length one ≡ end = line_length text from end line in
      let told : loses ≡ loses_in keeps returns (region_at rs at) at one = is ∙ ap (λ r. loses_in keeps returns r at one) (found.is ∙ so.behind at (omega arith)) in
      let new = line_unless (loses_in keeps returns (region_at rs at) at one) one in
      record {
        within = line.high;
        low = omega (arith, so.low, far, less);
        all =
            ap (λ l. l ++ joined (cleaned_lines keeps returns rs (at + step) rest)) (adds ∙ ap (λ b. out ++ line_unless b one) told)
            ∙ append_assoc out new (joined (cleaned_lines keeps returns rs (at + step) rest))
            ∙ ap (λ n. out ++ (new ++ joined (cleaned_lines keeps returns rs (at + n) rest))) steps
            ∙ ap (λ l. out ++ l) (sym (flat_map-cons (λ l. l) new (cleaned_lines keeps returns rs (at + length (bare_line one)) rest)))
            ∙ ap (λ ls. out ++ joined ls) (sym (cleaned-more keeps returns rs at one rest))
            ∙ ap (λ ls. out ++ joined (cleaned_lines keeps returns rs at ls)) (sym line.first)
            ∙ so.all;
        next_within = found.within;
        behind = λ place on. found.behind place (omega (arith, on)) ∙ so.behind place (omega (arith, on));
      }

  pub has-all : (out : List ℕ) (from at next : ℕ) → HasCleaned out from at next → lines (drop from text) ≡ [] → out ≡ joined (cleaned_lines keeps returns (map region_of ps) 0 (lines text))
  has-all out from at next so none =
      sym (append-nil out)
      ∙ ap (λ ls. out ++ joined ls) (sym (cleaned-end keeps returns (map region_of ps) at))
      ∙ ap (λ ls. out ++ joined (cleaned_lines keeps returns (map region_of ps) at ls)) (sym none)
      ∙ so.all
