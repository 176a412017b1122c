-- What comes next is one thing: the step that the function gives.
use Rattle.std.proofs.Common.{◌≡◌, ◌↔◌, ℕ, ◌+◌, true, List, [], ◌∷◌, ◌++◌, length, drop, Option, None, Some, refl, sym, ap, subst, ◌∙◌}
use Rattle.std.specs.Prelude.{sum_by}
use Rattle.std.proofs.lemmas.List.{append-nil}
use Rattle.line_list.specs.Lines.{lines}
use Rattle.patch_header.specs.declared.read_options.ReadOptions.{ReadOptions}
use Rattle.read_header_record.specs.declared.Header.{Header}
use Rattle.patch_header.specs.GitHeaders.{begins_bare}
use Rattle.patch_header.specs.Openings.{stop_at}
use Rattle.patch_header.specs.Region.{rows}
use Rattle.patch_header.specs.Steps.{AreQuiet, IsRegion, Comes, header_at, found_or, region_of, first_stop, step_behind, next_step}
use Rattle.patch_header.specs.declared.openings.Stop.{Stop}
use Rattle.patch_header.specs.declared.openings.Stop.TheVariants as stops
use Rattle.patch_header.specs.declared.search.HeaderStep.{HeaderStep}
use Rattle.patch_header.specs.declared.search.HeaderStep.TheVariants.{Found, Binary, End}
use Rattle.patch_header.proofs.Stands.{stop-end}

-- ---- one region

pub region-here : (ways : ReadOptions) (rest : List (List ℕ)) (stop : Stop) → stop_at ways rest ≡ Some stop → region_of ways rest ≡ []
unfolding region_of
region-here ways [] stop h = refl
region-here ways (line ∷ rest) stop h = rw h refl

stop-here : (ways : ReadOptions) (rest : List (List ℕ)) (stop : Stop) → stop_at ways rest ≡ Some stop → first_stop ways rest ≡ Some stop
unfolding first_stop
stop-here ways [] stop h = sym (stop-end ways) ∙ h
stop-here ways (line ∷ rest) stop h = rw h refl

pub region-passed : (ways : ReadOptions) (region rest : List (List ℕ)) → AreQuiet ways region rest → region_of ways (region ++ rest) ≡ region ++ region_of ways rest
unfolding region_of
region-passed ways [] rest h = refl
region-passed ways (line ∷ region) rest h = rw h.0 (ap (λ ls. line ∷ ls) (region-passed ways region rest h.1))

stop-passed : (ways : ReadOptions) (region rest : List (List ℕ)) → AreQuiet ways region rest → first_stop ways (region ++ rest) ≡ first_stop ways rest
unfolding first_stop
stop-passed ways [] rest h = refl
stop-passed ways (line ∷ region) rest h = rw h.0 (stop-passed ways region rest h.1)

-- ---- one step

-- up to the first that stands, these are the lines
region-is : (ways : ReadOptions) (text : List ℕ) (at : ℕ) (region : List (List ℕ)) (place : ℕ) (stop : Stop) → IsRegion ways text at region place → stop_at ways (lines (drop place text)) ≡ Some stop → region_of ways (lines (drop at text)) ≡ region
region-is ways text at region place stop h s =
    ap (region_of ways) h.parts
    ∙ region-passed ways region (lines (drop place text)) h.quiet
    ∙ ap (λ r. region ++ r) (region-here ways (lines (drop place text)) stop s)
    ∙ append-nil region

stop-is : (ways : ReadOptions) (text : List ℕ) (at : ℕ) (region : List (List ℕ)) (place : ℕ) (stop : Stop) → IsRegion ways text at region place → stop_at ways (lines (drop place text)) ≡ Some stop → first_stop ways (lines (drop at text)) ≡ Some stop
stop-is ways text at region place stop h s =
    ap (first_stop ways) h.parts
    ∙ stop-passed ways region (lines (drop place text)) h.quiet
    ∙ stop-here ways (lines (drop place text)) stop s

pub stop-nowhere : (ways : ReadOptions) → first_stop ways [] ≡ None
unfolding first_stop
stop-nowhere ways = refl

no-stop : (ways : ReadOptions) (all : List (List ℕ)) → AreQuiet ways all [] → first_stop ways all ≡ None
no-stop ways all h = ap (first_stop ways) (sym (append-nil all)) ∙ stop-passed ways all [] h ∙ stop-nowhere ways

step-is : (ways : ReadOptions) (text : List ℕ) (at line : ℕ) (region : List (List ℕ)) (place : ℕ) (stop : Stop) → IsRegion ways text at region place → stop_at ways (lines (drop place text)) ≡ Some stop → next_step ways text at line ≡ step_behind ways text at line region (Some stop)
step-is ways text at line region place stop h s =
    ap (λ r. step_behind ways text at line r (first_stop ways (lines (drop at text)))) (region-is ways text at region place stop h s)
    ∙ ap (step_behind ways text at line region) (stop-is ways text at region place stop h s)

found-is : (number : ℕ) (o : Option Header) (h : Header) → o ≡ Some h → found_or number o ≡ Found h
found-is number o h e = ap (found_or number) e

pub one-step : (ways : ReadOptions) (text : List ℕ) (at line : ℕ) (s : HeaderStep) → Comes ways text at line s → s ≡ next_step ways text at line
one-step ways text at line (Found h) x =
    let n = line + length x.region in
    let rs = rows line at x.region in
    let says : header_at ways text (at + sum_by length x.region) n rs x.stop ≡ Some h = sym (ap (λ p. header_at ways text p n rs x.stop) x.is_region.ends) ∙ x.says in
    sym (found-is n (header_at ways text (at + sum_by length x.region) n rs x.stop) h says)
    ∙ sym (step-is ways text at line x.region x.place x.stop x.is_region x.stands)
one-step ways text at line (Binary n) x = ap Binary x.counted ∙ sym (step-is ways text at line x.region x.place stops.Binary x.is_region x.stands)
one-step ways text at line End x = sym (ap (step_behind ways text at line (region_of ways (lines (drop at text)))) (no-stop ways (lines (drop at text)) x))

-- what comes next is what was found
pub just_that : (ways : ReadOptions) (text : List ℕ) (at line : ℕ) (found s : HeaderStep) → Comes ways text at line found → (found ≡ s) ↔ Comes ways text at line s
just_that ways text at line found s h = (λ e. subst (Comes ways text at line) e h, λ k. one-step ways text at line found h ∙ sym (one-step ways text at line s k))

-- ---- the search

-- at the end of the text nothing stood at any line
pub quiet-end : (ways : ReadOptions) (text : List ℕ) (at : ℕ) (region : List (List ℕ)) (place : ℕ) → IsRegion ways text at region place → lines (drop place text) ≡ [] → AreQuiet ways (lines (drop at text)) []
quiet-end ways text at region place h e =
    let all : lines (drop at text) ≡ region = h.parts ∙ ap (λ r. region ++ r) e ∙ append-nil region in
    rw all (rw e at h.quiet)

pub bare-begins : (text : List ℕ) (at place : ℕ) → place ≡ at → begins_bare (lines (drop at text)) ≡ true → begins_bare (lines (drop place text)) ≡ true
bare-begins text at place e h = ap (λ p. begins_bare (lines (drop p text))) e ∙ h
