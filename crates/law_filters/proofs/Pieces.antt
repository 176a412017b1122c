-- The hunks of a file patch that are kept, and a script, alone.
use Rattle.std.proofs.Common.{◌≡◌, ◌+◌, ◌^◌, ℕ, suc, Bool, true, false, cond, ◌||◌, List, [], ◌∷◌, ◌++◌, length, drop, Option, refl, sym, ap, subst, ◌∙◌, arith}
use Rattle.std.specs.List.{list_any}
use Rattle.std.proofs.lemmas.List.{append-nil, length-map}
use Rattle.std.proofs.lemmas.List.Concat.{flat_map-cons}
use Rattle.line_list.specs.Lines.{lines}
use Rattle.line_list.specs.declared.Span.{Span}
use Rattle.line_list.proofs.Elements.{numbered-long}
use Rattle.hunk_core.specs.declared.Form.{Form}
use Rattle.hunk_core.specs.declared.Form.TheVariants.{Unified, Context, Normal, Ed}
use Rattle.hunk_core.specs.PlainHunk.{PlainHunk, bytes_at}
use Rattle.hunk_core.specs.Pieces.{SpellInTurn}
use Rattle.ed_form.specs.Commands.{begins_script}
use Rattle.ed_form.specs.PlainEdit.{PlainEdit}
use Rattle.ed_form.specs.Grammar as ed
use Rattle.patch_header.specs.Openings.{begins}
use Rattle.read_file_patch.specs.PlainPatch.{PlainChange, hunks, script}
use Rattle.read_patch_text.specs.Patches.{begins_change}
use Rattle.read_patch_text.specs.Texts.{IsPiece}
use Rattle.read_patch_text.specs.Changes.{Spells, SpellChange}
use Rattle.cli_tool_words.specs.PlainJobs.{PlainFilterJob}
use Rattle.filter_choice.specs.Kept.{kept, is_kept}
use Rattle.filter_choice.specs.OldLines.{old_numbers, old_of_each, addressed}
use Rattle.filter_choice.specs.Selected.{numbered}
use Rattle.law_reading.specs.Joins.{BeginCleanly}
use Rattle.law_reading.proofs.Spelling.{edits-joined}
use Rattle.law_filters.specs.LeftPatches.{those, kept_change}
use Rattle.law_filters.proofs.Cutting.{owns_of, flat}
use Rattle.law_filters.proofs.Keeping.{unified-kept, normal-kept, context-kept}
use Rattle.law_reading.proofs.Scripts.{script-begins}

-- ---- as many flags as hunks

kept-size : (j : PlainFilterJob) (c : PlainChange) → length (kept j c) ≡ length (old_of_each c)
kept-size j c = length-map (numbered (old_of_each c)) (λ h. is_kept j h.0 h.1) ∙ numbered-long 1 (old_of_each c)

turn-size : (P : ℕ → List (List ℕ) → PlainHunk → Type 0) (text : List ℕ) (least : ℕ) (ss : List Span) (hs : List PlainHunk) → SpellInTurn P text least ss hs → length hs ≡ length ss
turn-size P text least [] [] h = refl
turn-size P text least [] (x ∷ hs) h = absurd h
turn-size P text least (s ∷ ss) [] h = absurd h
turn-size P text least (s ∷ ss) (x ∷ hs) h = ap suc (turn-size P text x.old_start ss hs h.1)

flags-size : (j : PlainFilterJob) (P : ℕ → List (List ℕ) → PlainHunk → Type 0) (text : List ℕ) (ss : List Span) (hs : List PlainHunk) → SpellInTurn P text 0 ss hs → length (kept j (hunks hs)) ≡ length ss
flags-size j P text ss hs h = kept-size j (hunks hs) ∙ length-map hs old_numbers ∙ turn-size P text 0 ss hs h

-- ---- the kept pieces are a change of the form

pub record KeptPiece (only : Option Form) (form : Form) (body : List (List ℕ)) (change : PlainChange) : Type 0 where
  pub begins_there : begins only form (body ++ []) ≡ true
  pub piece : IsPiece form 0 (body ++ []) change (length body) []

counted : (n : ℕ) → n ≡ 0 + n
counted n = omega arith

clean-nil : BeginCleanly []
clean-nil = record { unified = refl; context = refl; normal = refl; command = refl; append = refl; kept = refl; added = refl; changed = refl; substitution = refl; backslash = refl }

-- a script has an edit
some-edit : (n : ℕ) (all : List (List ℕ)) (next : ℕ) (rest : List (List ℕ)) → begins_change Ed all ≡ true → IsPiece Ed n all (script []) next rest → ⊥
some-edit n all next rest h p =
    let none : begins_script all ≡ false = ap begins_script (p.parts ∙ ap (λ (ls : List (List ℕ)). ls ++ rest) p.spelled) ∙ p.ends.0 in
    absurd cc

one-flag : (v : Bool) → (v || false) ≡ true → v ≡ true
one-flag true h = refl
one-flag false h = absurd cc

script-kept : (only : Option Form) (text : List ℕ) (own others : List (List ℕ)) (e : PlainEdit) (es : List PlainEdit) (flag : Bool) → flag ≡ true → ed.SpellsEdits (2 ^ 32) own (e ∷ es) others → KeptPiece only Ed (flat (those (flag ∷ []) (own ∷ []))) (script (e ∷ es))
script-kept only text own others e es flag on h =
    let alone : ed.SpellsEdits (2 ^ 32) own (e ∷ es) [] = edits-joined others [] clean-nil (2 ^ 32) own (e ∷ es) h in
    let whole : flat (those (flag ∷ []) (own ∷ [])) ≡ own = ap (λ v. flat (cond v (own ∷ []) [])) on ∙ flat_map-cons (λ (l : List (List ℕ)). l) own [] ∙ append-nil own in
    subst (λ (body : List (List ℕ)). KeptPiece only Ed body (script (e ∷ es))) (sym whole) (record {
      begins_there = script-begins only (2 ^ 32) own others [] e es h;
      piece = record { own = own; parts = refl; spelled = alone; ends = (refl, refl); counted = counted (length own) };
    })

module _ (j : PlainFilterJob) (only : Option Form) (text : List ℕ) (ss : List Span) (n : ℕ) (all : List (List ℕ)) (next : ℕ) (rest : List (List ℕ)) where
  abbrev body : List PlainHunk → List (List ℕ)
  body hs = flat (those (kept j (hunks hs)) (owns_of text ss))

  pub kept-piece : (form : Form) (change : PlainChange) → begins_change form all ≡ true → IsPiece form n all change next rest → SpellChange text form ss change → list_any (λ is. is) (kept j change) ≡ true
      → KeptPiece only form (flat (those (kept j change) (owns_of text ss))) (kept_change j change)
  kept-piece Unified (hunks hs) h p s any =
      let k = unified-kept text (kept j (hunks hs)) ss hs s in
      record { begins_there = k.opens [] any (flags-size j (Spells Unified) text ss hs s); piece = record { own = body hs; parts = refl; spelled = k.spelled; ends = (refl, refl); counted = counted (length (body hs)) } }
  kept-piece Context (hunks hs) h p s any =
      let k = context-kept text (kept j (hunks hs)) ss hs s in
      record { begins_there = k.opens [] any (flags-size j (Spells Context) text ss hs s); piece = record { own = body hs; parts = refl; spelled = k.spelled; ends = (refl, refl); counted = counted (length (body hs)) } }
  kept-piece Normal (hunks hs) h p s any =
      let k = normal-kept text (kept j (hunks hs)) ss hs s in
      record { begins_there = k.opens [] any (flags-size j (Spells Normal) text ss hs s); piece = record { own = body hs; parts = refl; spelled = k.spelled; ends = (refl, refl); counted = counted (length (body hs)) } }
  kept-piece Ed (script es) h p s any = by ss es p s any
    where
      by : (ss : List Span) (es : List PlainEdit) → IsPiece Ed n all (script es) next rest → SpellChange text Ed ss (script es) → list_any (λ is. is) (kept j (script es)) ≡ true → KeptPiece only Ed (flat (those (kept j (script es)) (owns_of text ss))) (script es)
      by [] es q t any = absurd t
      by (s ∷ []) [] q t any = absurd (some-edit n all next rest h q)
      by (s ∷ []) (e ∷ es) q t any = script-kept only text (lines (bytes_at text s)) (lines (drop s.end text)) e es (is_kept j 1 (addressed (e ∷ es))) (one-flag (is_kept j 1 (addressed (e ∷ es))) any) t
      by (s ∷ t ∷ ss) es q u any = absurd u
  kept-piece Unified (script es) h p s any = absurd p
  kept-piece Context (script es) h p s any = absurd p
  kept-piece Normal (script es) h p s any = absurd p
  kept-piece Ed (hunks hs) h p s any = absurd p
