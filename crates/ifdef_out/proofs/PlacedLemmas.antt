-- A change that was placed: its edits by its verdicts, and by its places.
use Rattle.std.proofs.Common.{◌≡◌, ℕ, ◌^◌, List, [], ◌∷◌, ◌++◌, length, map, Bool, true, false, cond, refl, sym, ap, subst, ◌∙◌, arith, Option, Some, None}
use Rattle.std.specs.Prelude.{pos}
use Rattle.hunk_core.specs.declared.Side.{Side}
use Rattle.hunk_core.specs.declared.Verdict.{Verdict}
use Rattle.hunk_core.specs.declared.Verdict.TheVariants.{Nowhere, At}
use Rattle.hunk_core.specs.PlainHunk.{PlainHunk, hunks_of}
use Rattle.hunk_core.specs.Turned.{turned}
use Rattle.hunk_place.specs.Verdicts.{verdicts, verdict_of, spots, spot, after_hunk, at_start}
use Rattle.hunk_place.specs.declared.PlaceState.{PlaceState}
use Rattle.hunk_place.specs.declared.Spot.{Spot}
use Rattle.ed_form.specs.PlainEdit.{PlainEdit, AreLawful, edits_of}
use Rattle.read_file_patch.specs.PlainPatch.{script, IsLawfulChange, change_of}
use Rattle.read_file_patch.specs.declared.Change.{Change}
use Rattle.read_file_patch.specs.declared.Change.TheVariants.{Hunks, Script}
use Rattle.hunk_apply.specs.Script.{reaches_behind, first_address, script_verdict}
use Rattle.hunk_apply.specs.Splice.{hunk_edits, all_edits}
use Rattle.hunk_apply.proofs.ChangeLemmas.{taken-is}
use Rattle.hunk_apply.proofs.FoldLemmas.{edits-cons, edits-nil, spots-cons}
use Rattle.hunk_apply.proofs.ScriptLemmas.{ends-within}
use Rattle.ifdef_out.specs.Chain.{AreInOrder}
use Rattle.ifdef_out.specs.Placed.{ArePlaced, verdict_edits, placed_edits, carried_edits, change_edits}
use Rattle.ifdef_out.proofs.HunkSteps.{placed-nil, placed-cons}
use Rattle.ifdef_out.proofs.InOrder.{hunks-order, script-order}

verdict-place : (h : PlainHunk) (place : Option Spot) → verdict_edits (verdict_of h place) h ≡ hunk_edits place h
verdict-place h None = refl
verdict-place h (Some s) = refl

verdicts-cons : (lines : List (List ℕ)) (fuzz : ℕ) (loose : Bool) (state : PlaceState) (h : PlainHunk) (hs : List PlainHunk) → verdicts lines fuzz loose state (h ∷ hs) ≡ verdict_of h (spot lines fuzz loose h state) ∷ verdicts lines fuzz loose (after_hunk h state (spot lines fuzz loose h state)) hs
unfolding verdicts
verdicts-cons lines fuzz loose state h hs = refl

-- the edits by the verdicts are those by the places
pub placed-are : (lines : List (List ℕ)) (fuzz : ℕ) (loose : Bool) (state : PlaceState) (hs : List PlainHunk) → placed_edits (verdicts lines fuzz loose state hs) hs ≡ all_edits (spots lines fuzz loose state hs) hs
placed-are lines fuzz loose state [] = placed-nil (verdicts lines fuzz loose state []) ∙ sym (edits-nil (spots lines fuzz loose state []))
placed-are lines fuzz loose state (h ∷ hs) =
    let place : Option Spot = spot lines fuzz loose h state in
    let next : PlaceState = after_hunk h state (spot lines fuzz loose h state) in
    ap (λ vs. placed_edits vs (h ∷ hs)) (verdicts-cons lines fuzz loose state h hs)
    ∙ placed-cons (verdict_of h place) (verdicts lines fuzz loose next hs) h hs
    ∙ ap (λ es. es ++ placed_edits (verdicts lines fuzz loose next hs) hs) (verdict-place h place)
    ∙ ap (λ es. hunk_edits place h ++ es) (placed-are lines fuzz loose next hs)
    ∙ sym (ap (λ ps. all_edits ps (h ∷ hs)) (spots-cons lines fuzz loose state h hs) ∙ edits-cons place (spots lines fuzz loose next hs) h hs)

carried-order : (n : ℕ) (es : List PlainEdit) → AreLawful (2 ^ 32) es → AreInOrder n 1 (carried_edits (script_verdict n es) es)
carried-order n es lawful = by (reaches_behind n es) refl
  where
    by : (b : Bool) → reaches_behind n es ≡ b → AreInOrder n 1 (carried_edits (cond b Nowhere (At (first_address es) 0 (pos 0))) es)
    by true is = tt
    by false is = script-order n (2 ^ 32) es (omega arith) lawful (ends-within n es is)

-- the edits of a change that was placed stand in order
pub change-order : (lines : List (List ℕ)) (text : List ℕ) (side : Side) (vs : List Verdict) (change : Change) → IsLawfulChange text change → ArePlaced lines vs side (change_of text change) → AreInOrder (length lines) 1 (change_edits vs side (change_of text change))
change-order lines text side vs (Hunks hs) lawful placed =
    let fuzz : ℕ = placed.0 in
    let loose : Bool = placed.1.0 in
    subst (λ ws. AreInOrder (length lines) 1 (placed_edits ws (map (turned side) (hunks_of text hs.items)))) (sym placed.1.1)
    (subst (AreInOrder (length lines) 1) (sym (placed-are lines fuzz loose at_start (map (turned side) (hunks_of text hs.items))))
    (subst (λ cs. AreInOrder (length lines) 1 (all_edits (spots lines fuzz loose at_start cs) cs)) (taken-is text side hs.items) (hunks-order lines fuzz loose text side hs.items at_start)))
change-order lines text side vs (Script s) lawful placed =
    subst (λ ws. AreInOrder (length lines) 1 (change_edits ws side (script (edits_of text s.edits.items)))) (sym placed.1.1)
    (carried-order (length lines) (edits_of text s.edits.items) lawful.edits)
