-- Where the headers of a set's file patches come from.
use Rattle.std.proofs.Common.{◌≡◌, ℕ, zero, suc, ◌+◌, true, false, cond, List, [], ◌∷◌, ◌++◌, length, drop, Option, None, Some, refl, sym, ap, subst, ◌∙◌}
use Rattle.std.specs.Prelude.{is_some, sum_by, Result, Ok, Err}
use Rattle.std.specs.List.{AllByRecursion}
use Rattle.line_list.specs.Lines.{lines}
use Rattle.hunk_core.specs.declared.Form.{Form}
use Rattle.hunk_core.specs.Reading.{Ahead, Fault}
use Rattle.patch_header.specs.Openings.{stop_at}
use Rattle.patch_header.specs.Region.{rows}
use Rattle.patch_header.specs.Steps.{first_stop, found_or, header_at, header_with, seen_for, next_step, region_of as region_before, step_behind}
use Rattle.patch_header.specs.GitRows.{led_by}
use Rattle.patch_header.specs.declared.openings.Stop.{Stop}
use Rattle.patch_header.specs.declared.openings.Stop.TheVariants.{Opening, Binary, Bare}
use Rattle.read_header_record.specs.declared.Header.{Header}
use Rattle.patch_header.specs.declared.search.HeaderStep.{HeaderStep}
use Rattle.patch_header.specs.declared.search.HeaderStep.TheVariants as steps
use Rattle.patch_header.specs.declared.read_options.ReadOptions.{ReadOptions}
use Rattle.patch_header.proofs.StepLemmas.{stop-nowhere}
use Rattle.read_file_patch.specs.PlainPatch.{PlainChange}
use Rattle.read_patch_text.specs.Patches.{change_behind, place_before}
use Rattle.read_patch_text.specs.Regions.{Region, region_by, region_with, regions_at, with_later}
use Rattle.read_patch_text.proofs.RegionLaws.{regions-zero, regions-step}

-- a header that isn't bare is that of an opening behind these lines
pub record IsShown (ways : ReadOptions) (text : List ℕ) (h : Header) : Type 0 where
  pub at : ℕ
  pub line : ℕ
  pub place : ℕ
  pub number : ℕ
  pub region : List (List ℕ)
  pub rest : List (List ℕ)
  pub first : List ℕ
  pub ahead : lines (drop at text) ≡ region ++ first ∷ rest
  pub stands : stop_at ways (first ∷ rest) ≡ Some (Opening h.form)
  pub is : h ≡ header_with text h.form place number (seen_for ways h.form text (rows line at region)) (led_by ways h.form (rows line at region))

abbrev pub IsShownIf : ReadOptions → List ℕ → Header → Type 0
IsShownIf ways text h = h.bare ≡ false → IsShown ways text h

region-cons : (ways : ReadOptions) (line : List ℕ) (rest : List (List ℕ)) → region_before ways (line ∷ rest) ≡ cond (is_some (stop_at ways (line ∷ rest))) [] (line ∷ region_before ways rest)
unfolding region_before
region-cons ways line rest = refl

region-on : (ways : ReadOptions) (line : List ℕ) (rest : List (List ℕ)) → stop_at ways (line ∷ rest) ≡ None → region_before ways (line ∷ rest) ≡ line ∷ region_before ways rest
region-on ways line rest is = region-cons ways line rest ∙ ap (λ o. cond (is_some o) [] (line ∷ region_before ways rest)) is

region-ends : (ways : ReadOptions) (line : List ℕ) (rest : List (List ℕ)) (s : Stop) → stop_at ways (line ∷ rest) ≡ Some s → region_before ways (line ∷ rest) ≡ []
region-ends ways line rest s is = region-cons ways line rest ∙ ap (λ o. cond (is_some o) [] (line ∷ region_before ways rest)) is

first-cons : (ways : ReadOptions) (line : List ℕ) (rest : List (List ℕ)) → first_stop ways (line ∷ rest) ≡ cond (is_some (stop_at ways (line ∷ rest))) (stop_at ways (line ∷ rest)) (first_stop ways rest)
unfolding first_stop
first-cons ways line rest = refl

record Parts (ways : ReadOptions) (ls : List (List ℕ)) (stop : Stop) : Type 0 where
  first : List ℕ
  rest : List (List ℕ)
  ahead : ls ≡ region_before ways ls ++ first ∷ rest
  stands : stop_at ways (first ∷ rest) ≡ Some stop

-- the lines in front of the first stop, and it
parts : (ways : ReadOptions) (ls : List (List ℕ)) (stop : Stop) → first_stop ways ls ≡ Some stop → Parts ways ls stop
parts ways [] stop e = absurd (let bad : None ≡ Some stop = sym (stop-nowhere ways) ∙ e in cc)
parts ways (line ∷ more) stop e = by (stop_at ways (line ∷ more)) refl (parts ways more stop) (sym (first-cons ways line more) ∙ e)
  where
    by : (o : Option Stop) → stop_at ways (line ∷ more) ≡ o → (first_stop ways more ≡ Some stop → Parts ways more stop) → cond (is_some (stop_at ways (line ∷ more))) (stop_at ways (line ∷ more)) (first_stop ways more) ≡ Some stop → Parts ways (line ∷ more) stop
    by None is again h =
        let q = again (sym (rw is refl) ∙ h) in
        record { first = q.first; rest = q.rest; ahead = ap (λ ls. line ∷ ls) q.ahead ∙ ap (λ (x : List (List ℕ)). x ++ q.first ∷ q.rest) (sym (region-on ways line more is)); stands = q.stands }
    by (Some s) is again h = record { first = line; rest = more; ahead = ap (λ (x : List (List ℕ)). x ++ line ∷ more) (sym (region-ends ways line more s is)); stands = is ∙ (sym (rw is refl) ∙ h) }

found-is : (h k : Header) → steps.Found h ≡ steps.Found k → h ≡ k
found-is h k e = cc

shown-at : (ways : ReadOptions) (text : List ℕ) (at line : ℕ) (stop : Stop) (h : Header) → first_stop ways (lines (drop at text)) ≡ Some stop
    → found_or (line + length (region_before ways (lines (drop at text)))) (header_at ways text (at + sum_by length (region_before ways (lines (drop at text)))) (line + length (region_before ways (lines (drop at text)))) (rows line at (region_before ways (lines (drop at text)))) stop) ≡ steps.Found h
    → IsShownIf ways text h
shown-at ways text at line Binary h is e = absurd (cc)
shown-at ways text at line Bare h is e = λ not_bare. absurd (let same = found-is _ h e in let bare : true ≡ h.bare = ap (λ (x : Header). x.bare) same in cc)
shown-at ways text at line (Opening form) h is e = λ not_bare.
    let region = region_before ways (lines (drop at text)) in
    let place = at + sum_by length region in
    let same = found-is (header_with text form place (line + length region) (seen_for ways form text (rows line at region)) (led_by ways form (rows line at region))) h e in
    let f : form ≡ h.form = ap (λ (x : Header). x.form) same in
    let p = parts ways (lines (drop at text)) (Opening form) is in
    record {
      at = at;
      line = line;
      place = place;
      number = line + length region;
      region = region;
      rest = p.rest;
      first = p.first;
      ahead = p.ahead;
      stands = p.stands ∙ ap (λ (x : Form). Some (Opening x)) f;
      is = sym same ∙ ap (λ (x : Form). header_with text x place (line + length region) (seen_for ways x text (rows line at region)) (led_by ways x (rows line at region))) f;
    }

step-shown : (ways : ReadOptions) (text : List ℕ) (at line : ℕ) (h : Header) → next_step ways text at line ≡ steps.Found h → IsShownIf ways text h
step-shown ways text at line h e = by (first_stop ways (lines (drop at text))) refl e
  where
    by : (o : Option Stop) → first_stop ways (lines (drop at text)) ≡ o → step_behind ways text at line (region_before ways (lines (drop at text))) o ≡ steps.Found h → IsShownIf ways text h
    by None is h2 = absurd (cc)
    by (Some stop) is h2 = shown-at ways text at line stop h is h2

pub regions-shown : (most : ℕ) (ways : ReadOptions) (text : List ℕ) (at number : ℕ) → AllByRecursion (λ (r : Region). IsShownIf ways text r.header) (regions_at most ways text at number)
regions-shown zero ways text at number = subst (AllByRecursion (λ (r : Region). IsShownIf ways text r.header)) (sym (regions-zero ways text at number)) tt
regions-shown (suc most) ways text at number =
    subst (AllByRecursion (λ (r : Region). IsShownIf ways text r.header)) (sym (regions-step most ways text at number))
    (by-step (next_step ways text at number) refl (λ p. regions-shown most ways text (place_before text p.rest) p.number))
  where
    by-change : (h : Header) → IsShownIf ways text h → (c : Result (PlainChange × Ahead) Fault) → ((p : Ahead) → AllByRecursion (λ (r : Region). IsShownIf ways text r.header) (regions_at most ways text (place_before text p.rest) p.number))
        → AllByRecursion (λ (r : Region). IsShownIf ways text r.header) (with_later (λ p. regions_at most ways text (place_before text p.rest) p.number) (region_with text at h c))
    by-change h shown (Ok x) later = (shown, later x.1)
    by-change h shown (Err f) later = tt

    by-step : (s : HeaderStep) → next_step ways text at number ≡ s → ((p : Ahead) → AllByRecursion (λ (r : Region). IsShownIf ways text r.header) (regions_at most ways text (place_before text p.rest) p.number))
        → AllByRecursion (λ (r : Region). IsShownIf ways text r.header) (with_later (λ p. regions_at most ways text (place_before text p.rest) p.number) (region_by text at s))
    by-step (steps.Found h) is later = by-change h (step-shown ways text at number h is) (change_behind text h) later
    by-step (steps.Binary n) is later = tt
    by-step steps.End is later = tt
