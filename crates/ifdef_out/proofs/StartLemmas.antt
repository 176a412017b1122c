-- The edits of a change in front of which a walk stands.
use Rattle.std.proofs.Common.{◌≡◌, ℕ, List, [], ◌∷◌, ◌++◌, length, reverse, drop, map, flat_map, cond, refl, sym, ap, ◌∙◌, arith}
use Rattle.std.proofs.lemmas.List.{drop_all, length-reverse, reverse-append, map-append}
use Rattle.hunk_core.specs.declared.Side.{Side}
use Rattle.hunk_core.specs.declared.Hunk.{Hunk}
use Rattle.hunk_core.specs.declared.Verdict.{Verdict}
use Rattle.hunk_core.specs.declared.Verdict.TheVariants.{Untried, Ignored, Nowhere, At}
use Rattle.hunk_core.specs.PlainHunk.{hunks_of}
use Rattle.hunk_core.specs.Turned.{turned}
use Rattle.ed_form.specs.declared.script.EdEdit.{EdEdit}
use Rattle.ed_form.specs.PlainEdit.{edit_of, edits_of}
use Rattle.hunk_apply.specs.Applied.{taken_all}
use Rattle.hunk_apply.specs.Session.{is_placed}
use Rattle.hunk_apply.proofs.ChangeLemmas.{taken-is}
use Rattle.ifdef_out.specs.Placed.{placed_edits, command_edits, carried_edits, script_edits}

pub hunks-start : (text : List ℕ) (side : Side) (vs : List Verdict) (hs : List Hunk) → placed_edits vs (taken_all text side hs) ≡ placed_edits vs (map (turned side) (hunks_of text hs))
hunks-start text side vs hs = ap (placed_edits vs) (taken-is text side hs)

map-reverse : (text : List ℕ) (es : List EdEdit) → edits_of text (reverse es) ≡ reverse (edits_of text es)
map-reverse text [] = refl
map-reverse text (e ∷ es) =
    ap (edits_of text) (reverse-append (e ∷ []) es)
    ∙ map-append (edit_of text) (reverse es) (e ∷ [])
    ∙ ap (λ r. r ++ (edit_of text e ∷ [])) (map-reverse text es)
    ∙ sym (reverse-append (edit_of text e ∷ []) (edits_of text es))

all-commands : (text : List ℕ) (es : List EdEdit) → flat_map command_edits (edits_of text (reverse es)) ≡ script_edits (edits_of text es)
all-commands text es = ap (flat_map command_edits) (map-reverse text es)

no-commands : (text : List ℕ) (es : List EdEdit) → flat_map command_edits (edits_of text (drop (length es) (reverse es))) ≡ []
no-commands text es = ap (λ xs. flat_map command_edits (edits_of text xs)) (drop_all (length es) (reverse es) (omega (arith, length-reverse es)))

-- the commands of a script with a verdict
pub script-start : (text : List ℕ) (es : List EdEdit) (v : Verdict) → flat_map command_edits (edits_of text (drop (cond (is_placed v) 0 (length es)) (reverse es))) ≡ carried_edits v (edits_of text es)
script-start text es Untried = no-commands text es
script-start text es Ignored = no-commands text es
script-start text es Nowhere = no-commands text es
script-start text es (At line fuzz offset) = all-commands text es

-- the one verdict
pub lone : (vs : List Verdict) → length vs ≡ 1 → (v : Verdict) × (vs ≡ v ∷ [])
lone [] one = cc
lone (v ∷ []) one = (v, refl)
lone (v ∷ w ∷ vs) one = absurd (omega arith)
