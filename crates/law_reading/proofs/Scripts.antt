-- An ed script that is put in front of other lines.
use Rattle.std.proofs.Common.{◌≡◌, inl, inr, ◌<◌, ℕ, zero, suc, Bool, true, false, cond, not, ◌&&◌, ◌||◌, List, [], ◌∷◌, ◌++◌, Option, None, Some, Result, Ok, Err, refl, sym, ap, ◌∙◌, append_assoc}
use Rattle.std.specs.Prelude.{nat_lt}
use Rattle.std.proofs.lemmas.List.Folds.{list_any-append}
use Rattle.std.proofs.lemmas.Bool.{or_left, or_right}
use Rattle.hunk_core.specs.declared.BadKind.{BadKind}
use Rattle.hunk_core.specs.declared.BadKind.TheVariants as kinds
use Rattle.hunk_core.specs.declared.Form.{Form}
use Rattle.hunk_core.specs.declared.Form.TheVariants.{Ed}
use Rattle.hunk_core.specs.declared.command.Action.{Action}
use Rattle.hunk_core.specs.declared.command.Action.TheVariants.{Add, Change, Delete}
use Rattle.ed_form.specs.declared.command.Command.{Command}
use Rattle.ed_form.specs.declared.command.Heading.{Heading}
use Rattle.ed_form.specs.Commands.{parts_at, is_command, is_bad_range, is_too_large, placed, heading, from_parts}
use Rattle.ed_form.specs.Grammar.{IsCorrected, SpellsText, SpellsAdded, SpellsCommand, SpellsEdit, SpellsEdits}
use Rattle.ed_form.specs.PlainEdit.{PlainEdit}
use Rattle.ed_form.specs.Texts as texts
use Rattle.ed_form.proofs.CommandGrammar.{opening-again}
use Rattle.ed_form.proofs.Pieces.{edit_opens}
use Rattle.ed_form.proofs.Words.{word-words}
use Rattle.patch_header.specs.Content.{is_dot, has_dot}
use Rattle.patch_header.specs.Openings.{has_text, takes_text, asks_dot, begins}

-- ---- the line '.'

same-dot : (line : List ℕ) → texts.is_dot line ≡ true → is_dot line ≡ true
same-dot line h =
    elim ((word-words (46 ∷ []) line).0 h) [
      | inl e ↦ ap is_dot e
      | inr e ↦ ap is_dot e
    ]

-- one of these lines is '.'
dot-there : (front : List (List ℕ)) (dot : List ℕ) (more : List (List ℕ)) → texts.is_dot dot ≡ true → has_dot (front ++ dot ∷ more) ≡ true
dot-there front dot more h = list_any-append is_dot front (dot ∷ more) ∙ or_right (has_dot front) (has_dot (dot ∷ more)) (or_left (is_dot dot) (has_dot more) (same-dot dot h))

dot-front : (a b : List (List ℕ)) → has_dot a ≡ true → has_dot (a ++ b) ≡ true
dot-front a b h = list_any-append is_dot a b ∙ or_left (has_dot a) (has_dot b) h

corrected-dot : (own text : List (List ℕ)) → IsCorrected own text → has_dot own ≡ true
corrected-dot own text c = ap has_dot c.parts ∙ ap has_dot (sym (append_assoc c.front ((46 ∷ c.lone) ∷ []) (c.dot ∷ c.correction ∷ []))) ∙ dot-there (c.front ++ (46 ∷ c.lone) ∷ []) c.dot (c.correction ∷ []) c.ends

-- a text has its '.'
text-dot : (turns : ℕ) (own text others : List (List ℕ)) → SpellsText turns own text others → has_dot own ≡ true
text-dot zero own text others (inl e) = ap has_dot e.parts ∙ dot-there text e.dot [] e.ends
text-dot zero own text others (inr c) = corrected-dot own text c.0
text-dot (suc turns) own text others h = ap has_dot h.3 ∙ dot-front h.0 (h.1 ∷ h.2) (corrected-dot h.0 h.5 h.8)

-- ---- commands that text follows

abbrev spelled : Heading → Result Heading BadKind
spelled h = Ok h

placed-is : (below : ℕ) (a b : Heading) → placed below a ≡ Ok b → a ≡ b
placed-is below a b h = by (is_too_large a) (nat_lt a.last below) h
  where
    by : (u v : Bool) → cond u (Err kinds.NumberTooLarge) (cond v (spelled a) (Err kinds.EdOrder)) ≡ Ok b → a ≡ b
    by true v k = absurd cc
    by false true k = cc
    by false false k = absurd cc

parts-action : (below : ℕ) (o : Option Command) (h : Heading) → from_parts below o ≡ Ok h → takes_text o ≡ has_text h.action
parts-action below None h e = absurd cc
parts-action below (Some c) h e = by (is_bad_range c.action c.range) e
  where
    by : (v : Bool) → cond v (Err kinds.Range) (placed below (heading c)) ≡ Ok h → has_text c.action ≡ has_text h.action
    by true k = absurd cc
    by false k = ap (λ (x : Heading). has_text x.action) (placed-is below (heading c) h k)

no-text : (only : Option Form) (line : List ℕ) → takes_text (parts_at line) ≡ false → asks_dot only line ≡ false
no-text None line h = h
no-text (Some only) line h = refl

asks-none : (only : Option Form) (line : List ℕ) (first last below : ℕ) → SpellsCommand line Delete first last → last < below → asks_dot only line ≡ false
asks-none only line first last below c low = no-text only line (parts-action below (parts_at line) _ (opening-again below line Delete first last c low))

or-not : (q d : Bool) → q ≡ false → (not q || d) ≡ true
or-not true d e = absurd cc
or-not false d e = refl

or-dot : (q d : Bool) → d ≡ true → (not q || d) ≡ true
or-dot true d e = e
or-dot false d e = refl

begins-by : (only : Option Form) (line : List ℕ) (rest tail : List (List ℕ)) → is_command line ≡ true → (not (asks_dot only line) || has_dot (rest ++ tail)) ≡ true → begins only Ed (line ∷ (rest ++ tail)) ≡ true
begins-by only line rest tail h k = ap (λ v. v && (not (asks_dot only line) || has_dot (rest ++ tail))) h ∙ k

asked-by : (only : Option Form) (line : List ℕ) (rest others tail : List (List ℕ)) (action : Action) (first last below : ℕ) (added : List (List ℕ)) → SpellsCommand line action first last → last < below → SpellsAdded action rest added others → (not (asks_dot only line) || has_dot (rest ++ tail)) ≡ true
asked-by only line rest others tail Add first last below added c low a = or-dot (asks_dot only line) _ (dot-front rest tail (text-dot a.0 rest added others a.1))
asked-by only line rest others tail Change first last below added c low a = or-dot (asks_dot only line) _ (dot-front rest tail (text-dot a.0 rest added others a.1))
asked-by only line rest others tail Delete first last below added c low a = or-not (asks_dot only line) _ (asks-none only line first last below c low)

edit-begins : (only : Option Form) (below : ℕ) (own others tail : List (List ℕ)) (e : PlainEdit) → SpellsEdit below own e others → begins only Ed (own ++ tail) ≡ true
edit-begins only below [] others tail e h = absurd h
edit-begins only below (line ∷ rest) others tail e h =
    begins-by only line rest tail (edit_opens below (line ∷ rest) tail others e h) (asked-by only line rest others tail h.0 e.first e.last below e.added h.1 h.2 h.3)

-- a script opens wherever it stands
pub script-begins : (only : Option Form) (below : ℕ) (own others tail : List (List ℕ)) (e : PlainEdit) (es : List PlainEdit) → SpellsEdits below own (e ∷ es) others → begins only Ed (own ++ tail) ≡ true
script-begins only below own others tail e es h =
    ap (λ ls. begins only Ed (ls ++ tail)) h.2
    ∙ ap (begins only Ed) (append_assoc h.0 h.1 tail)
    ∙ edit-begins only below h.0 (h.1 ++ others) (h.1 ++ tail) e h.3
