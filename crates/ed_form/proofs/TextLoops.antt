-- Reading one line of a text after the other, as a loop does.
use Rattle.std.proofs.Common.{◌≡◌, ℕ, ◌+◌, true, false, ◌&&◌, List, [], ◌∷◌, ◌++◌, Result, Ok, Err, refl, sym, ap, subst, ◌∙◌}
use Rattle.std.proofs.lemmas.Bool.{and_parts}
use Rattle.std.proofs.lemmas.List.{map_push}
use Rattle.line_list.specs.declared.Span.{Span}
use Rattle.hunk_core.specs.declared.BadKind.TheVariants as kinds
use Rattle.hunk_core.specs.PlainHunk.{bytes_at}
use Rattle.hunk_core.specs.Reading.{Fault, fault, Ahead, ahead}
use Rattle.ed_form.specs.declared.added.TextState.{TextState}
use Rattle.ed_form.specs.declared.added.TextState.TheVariants.{Text, Ended, Corrected}
use Rattle.ed_form.specs.PlainEdit.{lines_of}
use Rattle.ed_form.specs.Texts.{is_dot, is_correction, ends_double, undoubled, is_open, is_taken, step, closed, text_at, goes_on}

pub text-takes : (opened : ℕ) (part : TextState) (before : List (List ℕ)) (number : ℕ) (line : List ℕ) (rest : List (List ℕ)) → is_taken part before line ≡ true
    → text_at opened part before number (line ∷ rest) ≡ text_at opened (step part before line).0 (step part before line).1 (number + 1) rest
unfolding text_at
text-takes opened part before number line rest e = rw e refl

pub text-stops : (opened : ℕ) (part : TextState) (before : List (List ℕ)) (number : ℕ) (rest : List (List ℕ)) → goes_on part before rest ≡ false → text_at opened part before number rest ≡ closed opened part before (ahead number rest)
unfolding text_at
text-stops opened part before number [] e = refl
text-stops opened part before number (line ∷ rest) e = rw e refl

-- a line that was taken leaves the whole as it is
pub text-goes-on : (opened : ℕ) (part then_part : TextState) (before more : List (List ℕ)) (number : ℕ) (line : List ℕ) (lines rest : List (List ℕ)) (total : Result (List (List ℕ) × Ahead) Fault)
    → lines ≡ line ∷ rest → is_taken part before line ≡ true → step part before line ≡ (then_part, more) → text_at opened part before number lines ≡ total → text_at opened then_part more (number + 1) rest ≡ total
text-goes-on opened part then_part before more number line lines rest total first taken led same =
    ap (λ (s : TextState × List (List ℕ)). text_at opened s.0 s.1 (number + 1) rest) (sym led)
    ∙ sym (text-takes opened part before number line rest taken)
    ∙ ap (text_at opened part before number) (sym first)
    ∙ same

-- behind the last line a text is whole where a '.' came
pub text-whole : (opened : ℕ) (part : TextState) (before : List (List ℕ)) (number : ℕ) (rest : List (List ℕ)) (total : Result (List (List ℕ) × Ahead) Fault) → goes_on part before rest ≡ false → text_at opened part before number rest ≡ total
    → total ≡ closed opened part before (ahead number rest)
text-whole opened part before number rest total none same = sym same ∙ text-stops opened part before number rest none

-- ---- a line, by what came before it

pub step-dot : (part : TextState) (before : List (List ℕ)) (line : List ℕ) → part ≡ Text → true ≡ is_dot line → step part before line ≡ (Ended, before)
step-dot part before line e dot = rw (e, sym dot) refl

pub step-push : (text : List ℕ) (part : TextState) (spans more : List Span) (s : Span) → part ≡ Text → false ≡ is_dot (bytes_at text s) → more ≡ spans ++ s ∷ [] → step part (lines_of text spans) (bytes_at text s) ≡ (Text, lines_of text more)
step-push text part spans more s e dot pushed = rw (e, sym dot) (ap (λ (l : List (List ℕ)). (Text, l)) (sym (ap (lines_of text) pushed ∙ map_push (bytes_at text) spans s)))

pub step-ended : (part : TextState) (before more : List (List ℕ)) (line : List ℕ) → part ≡ Ended → more ≡ undoubled before → step part before line ≡ (Corrected, more)
step-ended part before more line e f = rw (e, f) refl

pub step-corrected : (part : TextState) (before : List (List ℕ)) (line : List ℕ) → part ≡ Corrected → step part before line ≡ (Text, before)
step-corrected part before line e = rw e refl

pub ended-double : (part : TextState) (before : List (List ℕ)) (line : List ℕ) → part ≡ Ended → is_taken part before line ≡ true → ends_double before ≡ true
ended-double part before line e taken =
    let both : (ends_double before && is_correction line) ≡ true = subst (λ p. is_taken p before line ≡ true) e taken in
    (and_parts (ends_double before) (is_correction line) both).0

-- ---- the spans as they are lent

pub taken-there : (text : List ℕ) (part : TextState) (spans given : List Span) (line : List ℕ) → given ≡ spans → is_taken part (lines_of text given) line ≡ true → is_taken part (lines_of text spans) line ≡ true
taken-there text part spans given line e h = subst (λ l. is_taken part (lines_of text l) line ≡ true) e h

pub stops-there : (text : List ℕ) (part : TextState) (spans given : List Span) (ls : List (List ℕ)) → given ≡ spans → goes_on part (lines_of text given) ls ≡ false → goes_on part (lines_of text spans) ls ≡ false
stops-there text part spans given ls e h = subst (λ l. goes_on part (lines_of text l) ls ≡ false) e h

pub text-open : (opened : ℕ) (part : TextState) (before : List (List ℕ)) (number : ℕ) (rest : List (List ℕ)) (total : Result (List (List ℕ) × Ahead) Fault) → goes_on part before rest ≡ false → true ≡ is_open part
    → text_at opened part before number rest ≡ total → total ≡ Err (fault opened kinds.EdNoDot)
text-open opened part before number rest total none opens same = text-whole opened part before number rest total none same ∙ rw (sym opens) refl

pub text-closed : (opened : ℕ) (part : TextState) (before : List (List ℕ)) (number : ℕ) (rest : List (List ℕ)) (total : Result (List (List ℕ) × Ahead) Fault) → goes_on part before rest ≡ false → false ≡ is_open part
    → text_at opened part before number rest ≡ total → total ≡ Ok (before, ahead number rest)
text-closed opened part before number rest total none closes same = text-whole opened part before number rest total none same ∙ rw (sym closes) refl
