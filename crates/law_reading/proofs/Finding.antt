-- What is found in a text by reading it stands there by the grammars.
use Rattle.std.proofs.Common.{◌≡◌, ◌+◌, ◌≤◌, ℕ, true, List, [], ◌∷◌, ◌++◌, length, drop, Option, None, Some, Result, Ok, refl, sym, ap, subst, ◌∙◌, arith}
use Rattle.std.specs.Prelude.{sum_by}
use Rattle.std.proofs.lemmas.List.{append-nil, length-drop}
use Rattle.std.proofs.lemmas.List.Sums.{sum_by-append}
use Rattle.line_list.specs.Lines.{lines}
use Rattle.hunk_core.specs.declared.Form.{Form}
use Rattle.hunk_core.specs.declared.Form.TheVariants.{Unified, Context, Normal, Ed}
use Rattle.hunk_core.specs.Reading.{Fault, Ahead}
use Rattle.hunk_core.proofs.ReadSteps.{bind_ok}
use Rattle.unified_form.specs.Hunks as unified
use Rattle.unified_form.proofs.Pieces as unified_pieces
use Rattle.context_form.specs.Hunks as context
use Rattle.context_form.proofs.Pieces as context_pieces
use Rattle.normal_form.specs.Hunks as normal
use Rattle.normal_form.proofs.Pieces as normal_pieces
use Rattle.ed_form.specs.Scripts as ed
use Rattle.ed_form.proofs.Pieces as ed_pieces
use Rattle.patch_header.specs.Openings.{stop_at}
use Rattle.patch_header.specs.Region.{rows}
use Rattle.patch_header.specs.Steps.{AreQuiet, IsEnd, IsFirstOpening, header_at, region_of, first_stop, found_or, step_behind, next_step}
use Rattle.read_header_record.specs.declared.Header.{Header}
use Rattle.patch_header.specs.declared.openings.Stop.{Stop}
use Rattle.patch_header.specs.declared.search.HeaderStep.TheVariants.{Found, End}
use Rattle.patch_header.specs.declared.read_options.ReadOptions.{ReadOptions}
use Rattle.patch_header.proofs.Stands.{stop-end}
use Rattle.patch_header.proofs.StepLemmas.{stop-nowhere}
use Rattle.read_file_patch.specs.PlainPatch.{PlainChange, hunks, script}
use Rattle.read_patch_text.specs.Patches.{as_hunks, as_script, change_at, begins_change, place_before}
use Rattle.read_patch_text.specs.Texts.{IsPiece}
use Rattle.read_patch_text.proofs.ChangeLemmas.{lines-sum}
use Rattle.law_reading.proofs.Places.{skip-lines}

-- ---- the first that stands

-- the lines in front of the first that stands, and what stands there, if anything
record First (ways : ReadOptions) (ls : List (List ℕ)) : Type 0 where
  rest : List (List ℕ)
  parts : ls ≡ region_of ways ls ++ rest
  quiet : AreQuiet ways (region_of ways ls) rest
  stands : first_stop ways ls ≡ stop_at ways rest
  none : first_stop ways ls ≡ None → rest ≡ []

region-here : (ways : ReadOptions) (line : List ℕ) (more : List (List ℕ)) (stop : Stop) → stop_at ways (line ∷ more) ≡ Some stop → region_of ways (line ∷ more) ≡ []
unfolding region_of
region-here ways line more stop e = rw e refl

region-more : (ways : ReadOptions) (line : List ℕ) (more : List (List ℕ)) → stop_at ways (line ∷ more) ≡ None → region_of ways (line ∷ more) ≡ line ∷ region_of ways more
unfolding region_of
region-more ways line more e = rw e refl

stop-here : (ways : ReadOptions) (line : List ℕ) (more : List (List ℕ)) (stop : Stop) → stop_at ways (line ∷ more) ≡ Some stop → first_stop ways (line ∷ more) ≡ Some stop
unfolding first_stop
stop-here ways line more stop e = rw e refl

stop-more : (ways : ReadOptions) (line : List ℕ) (more : List (List ℕ)) → stop_at ways (line ∷ more) ≡ None → first_stop ways (line ∷ more) ≡ first_stop ways more
unfolding first_stop
stop-more ways line more e = rw e refl

region-none : (ways : ReadOptions) → region_of ways [] ≡ []
unfolding region_of
region-none ways = refl

first : (ways : ReadOptions) (ls : List (List ℕ)) → First ways ls
first ways [] = record {
  rest = [];
  parts = ap (λ ls. ls ++ []) (sym (region-none ways));
  quiet = subst (λ ls. AreQuiet ways ls []) (sym (region-none ways)) tt;
  stands = stop-nowhere ways ∙ sym (stop-end ways);
  none = λ e. refl;
}
first ways (line ∷ more) = by (stop_at ways (line ∷ more)) refl (first ways more)
  where
    by : (o : Option Stop) → stop_at ways (line ∷ more) ≡ o → First ways more → First ways (line ∷ more)
    by None e f =
        let goes : region_of ways (line ∷ more) ≡ line ∷ region_of ways more = region-more ways line more e in
        record {
          rest = f.rest;
          parts = ap (λ ls. line ∷ ls) f.parts ∙ ap (λ ls. ls ++ f.rest) (sym goes);
          quiet = subst (λ ls. AreQuiet ways ls f.rest) (sym goes) (ap (λ ls. stop_at ways (line ∷ ls)) (sym f.parts) ∙ e, f.quiet);
          stands = stop-more ways line more e ∙ f.stands;
          none = λ k. f.none (sym (stop-more ways line more e) ∙ k);
        }
    by (Some stop) e f =
        let here : region_of ways (line ∷ more) ≡ [] = region-here ways line more stop e in
        record {
          rest = line ∷ more;
          parts = ap (λ ls. ls ++ line ∷ more) (sym here);
          quiet = subst (λ ls. AreQuiet ways ls (line ∷ more)) (sym here) tt;
          stands = stop-here ways line more stop e ∙ sym e;
          none = λ k. absurd (let here : first_stop ways (line ∷ more) ≡ Some stop = stop-here ways line more stop e in cc);
        }

found-is : (n : ℕ) (o : Option Header) (h : Header) → found_or n o ≡ Found h → o ≡ Some h
found-is n None h e = absurd cc
found-is n (Some x) h e = let same : x ≡ h = cc in ap (λ y. Some y) same

-- what comes next, where that is a file patch, stands first
pub opening-found : (ways : ReadOptions) (text : List ℕ) (at line : ℕ) (h : Header) → next_step ways text at line ≡ Found h → IsFirstOpening ways text at line h
opening-found ways text at line h e =
    let f = first ways (lines (drop at text)) in
    by f (first_stop ways (lines (drop at text))) refl e
  where
    by : First ways (lines (drop at text)) → (o : Option Stop) → first_stop ways (lines (drop at text)) ≡ o → step_behind ways text at line (region_of ways (lines (drop at text))) o ≡ Found h → IsFirstOpening ways text at line h
    by f None k s = absurd cc
    by f (Some stop) k s =
        let region = region_of ways (lines (drop at text)) in
        let place = at + sum_by length region in
        let left : lines (drop place text) ≡ f.rest = skip-lines text at region f.rest f.parts in
        record {
          region = region;
          place = place;
          stop = stop;
          is_region = record { parts = f.parts ∙ ap (λ ls. region ++ ls) (sym left); ends = refl; quiet = subst (AreQuiet ways region) (sym left) f.quiet };
          stands = ap (stop_at ways) left ∙ sym f.stands ∙ k;
          says = found-is (line + length region) (header_at ways text place (line + length region) (rows line at region) stop) h s;
        }

no-end : (n : ℕ) (o : Option Header) → found_or n o ≡ End → ⊥
no-end n None h = absurd cc
no-end n (Some x) h = absurd cc

-- where nothing comes, nothing stands
pub end-found : (ways : ReadOptions) (text : List ℕ) (at line : ℕ) → next_step ways text at line ≡ End → IsEnd ways text at
end-found ways text at line e = by (first ways (lines (drop at text))) (first_stop ways (lines (drop at text))) refl e
  where
    by : First ways (lines (drop at text)) → (o : Option Stop) → first_stop ways (lines (drop at text)) ≡ o → step_behind ways text at line (region_of ways (lines (drop at text))) o ≡ End → IsEnd ways text at
    by f (Some stop) k s = absurd (no-end _ _ s)
    by f None k s =
        let region = region_of ways (lines (drop at text)) in
        let whole : region ≡ lines (drop at text) = sym (append-nil region) ∙ ap (λ ls. region ++ ls) (sym (f.none k)) ∙ sym f.parts in
        subst (λ ls. AreQuiet ways ls []) whole (subst (AreQuiet ways region) (f.none k) f.quiet)

-- ---- a change that is read

abbrev done : PlainChange × Ahead → Result (PlainChange × Ahead) Fault
done x = Ok x

same-read : (x y : PlainChange × Ahead) → done x ≡ done y → x ≡ y
same-read x y e = cc

-- is one by the grammar of its form
pub change-found : (form : Form) (n : ℕ) (all : List (List ℕ)) (x : PlainChange × Ahead) → begins_change form all ≡ true → change_at form n all ≡ Ok x → IsPiece form n all x.0 x.1.number x.1.rest
unfolding change_at
change-found Unified n all x begins e =
    let b = bind_ok (unified.reading n all) as_hunks x e in
    subst (λ (y : PlainChange × Ahead). IsPiece Unified n all y.0 y.1.number y.1.rest) (same-read (hunks b.0.0, b.0.1) x b.2) (unified_pieces.reading_finds n all b.0 begins b.1)
change-found Context n all x begins e =
    let b = bind_ok (context.reading n all) as_hunks x e in
    subst (λ (y : PlainChange × Ahead). IsPiece Context n all y.0 y.1.number y.1.rest) (same-read (hunks b.0.0, b.0.1) x b.2) (context_pieces.reading_finds n all b.0 begins b.1)
change-found Normal n all x begins e =
    let b = bind_ok (normal.reading n all) as_hunks x e in
    subst (λ (y : PlainChange × Ahead). IsPiece Normal n all y.0 y.1.number y.1.rest) (same-read (hunks b.0.0, b.0.1) x b.2) (normal_pieces.reading_finds n all b.0 begins b.1)
change-found Ed n all x begins e =
    let b = bind_ok (ed.reading n all) as_script x e in
    subst (λ (y : PlainChange × Ahead). IsPiece Ed n all y.0 y.1.number y.1.rest) (same-read (script b.0.0, b.0.1) x b.2) (ed_pieces.reading_finds n all b.0 b.1)

-- the place in front of lines that others stand in front of
pub place-is : (text : List ℕ) (at : ℕ) (own rest : List (List ℕ)) → at ≤ length text → lines (drop at text) ≡ own ++ rest → place_before text rest ≡ at + sum_by length own
place-is text at own rest le e =
    let all : sum_by length (lines (drop at text)) ≡ sum_by length own + sum_by length rest = ap (sum_by length) e ∙ sum_by-append length own rest in
    omega (arith, le, all, lines-sum (drop at text), length-drop at text)
