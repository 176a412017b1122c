-- The line that a fault of an ed script names.
use Rattle.std.proofs.Common.{◌≡◌, ◌≢◌, ◌⊎◌, inl, inr, ℕ, zero, suc, ◌+◌, ◌≤◌, ◌<◌, ◌^◌, min, Bool, true, false, not, cond, eqb, ltb, ◌||◌, List, [], ◌∷◌, ◌++◌, length, Option, None, Some, Result, Ok, Err, refl, sym, ap, subst, ◌∙◌, arith}
use Rattle.std.specs.Prelude.{is_some}
use Rattle.std.proofs.lemmas.Bool.{eqb-true, ltb-true, ltb-false, or_cases}
use Rattle.hunk_core.specs.declared.BadKind.{BadKind}
use Rattle.hunk_core.specs.declared.BadKind.TheVariants as kinds
use Rattle.hunk_core.specs.Reading.{◌>>=◌, Fault, fault, Ahead, ahead}
use Rattle.line_list.proofs.Choices.{chosen}
use Rattle.num_text.specs.declared.range.NumberRange.{NumberRange}
use Rattle.num_text.specs.NumberRanges.{range_at, SpellsRange}
use Rattle.hunk_core.specs.declared.command.Action.{Action}
use Rattle.hunk_core.specs.declared.command.Action.TheVariants.{Add, Change, Delete}
use Rattle.hunk_core.specs.Letters.{action_at}
use Rattle.ed_form.specs.declared.command.Command.{Command}
use Rattle.ed_form.specs.declared.command.Heading.{Heading}
use Rattle.ed_form.specs.declared.added.TextState.{TextState}
use Rattle.ed_form.specs.declared.added.TextState.TheVariants.{Text, Ended, Corrected}
use Rattle.ed_form.specs.PlainEdit.{PlainEdit, lowest}
use Rattle.ed_form.specs.Commands.{parts_at, is_command, begins_script, is_bad_range, heading, is_too_large, checked, from_parts, opening}
use Rattle.ed_form.specs.Texts.{is_dot, is_append, is_substitution, is_taken, step, is_open, closed, text_at}
use Rattle.ed_form.specs.Scripts.{at_line, added_at, edit, first_edit, edit_at, begins_substitution, no_edits, edits_at, reading}
use Rattle.ed_form.specs.Grammar.{IsCommand, SpellsEdit}
use Rattle.ed_form.proofs.CommandGrammar.{whole-ok, made}
use Rattle.ed_form.proofs.Pieces.{TakesEdit, edit_takes}
use Rattle.hunk_core.proofs.OptionLemmas.{some_step}
use Rattle.hunk_core.proofs.CommandLemmas.{action-takes}
use Rattle.hunk_core.proofs.FaultSteps.{failed, err_is, bind_err}
use Rattle.law_faults.specs.NamedLines.{NamesLine}
use Rattle.law_faults.specs.EdFaults.{AreBad, AreTooLarge, EndsOpen, HaveNoEnd, Breaks, IsAtFault}
use Rattle.law_faults.proofs.Naming.{add_err, named-here, named-past}
use Rattle.law_faults.proofs.NumberForms.{read_as, range_form}
use Rattle.law_faults.proofs.FailedTests.{kind_is}

-- ---- a command

-- a command that was read is spelled so
record CommandForm (line : List ℕ) (c : Command) : Type 0 where
  is : IsCommand line
  read : c ≡ made (read_as is.single is.first is.last) is.action

command_form : (line : List ℕ) (c : Command) → parts_at line ≡ Some c → CommandForm line c
unfolding parts_at
command_form line c e =
    let a = some_step (range_at line) _ c e in
    let b = some_step (action_at a.0.1) _ c a.2 in
    let w = whole-ok a.0.0 b.0.0 b.0.1 c b.2 in
    let f = range_form line a.0 a.1 in
    record {
      is = record {
        text = f.text;
        single = f.single;
        first = f.first;
        last = f.last;
        action = b.0.0;
        rest = b.0.1;
        parts = f.parts ∙ ap (λ (r : List ℕ). f.text ++ r) (action-takes a.0.1 b.0 b.1);
        ends = w.0;
        numbers = f.spelled;
      };
      read = sym w.1 ∙ ap (λ (r : NumberRange). made r b.0.0) f.read;
    }

-- the first test that fails is the one of the kind
abbrev tested : Bool → Bool → Bool → Heading → Result Heading BadKind
tested a b c h = cond a (Err kinds.Range) (cond b (Err kinds.NumberTooLarge) (cond c (Ok h) (Err kinds.EdOrder)))

first_failed : (P : BadKind → Type 0) (a b c : Bool) (h : Heading) (kind : BadKind) → tested a b c h ≡ Err kind → (a ≡ true → P kinds.Range) → (b ≡ true → P kinds.NumberTooLarge) → (c ≡ false → P kinds.EdOrder) → P kind
first_failed P true b c h kind e f g i = subst P (kind_is kinds.Range kind e) (f refl)
first_failed P false true c h kind e f g i = subst P (kind_is kinds.NumberTooLarge kind e) (g refl)
first_failed P false false false h kind e f g i = subst P (kind_is kinds.EdOrder kind e) (i refl)
first_failed P false false true h kind e f g i = absurd cc

lines_bad : (single : Bool) (first last : ℕ) → ((read_as single first last).is_turned || eqb (read_as single first last).first 0) ≡ true → (last < first) ⊎ (first ≡ 0)
lines_bad true first last e = inr (let none = eqb-true (min first (2 ^ 32)) 0 e in omega arith)
lines_bad false first last e =
    elim (or_cases (ltb last first) (eqb (min first (2 ^ 32)) 0) e) [
      | inl turned ↦ inl (ltb-true last first turned)
      | inr none ↦ inr (let zero_first = eqb-true (min first (2 ^ 32)) 0 none in omega arith)
    ]

not_single : (single : Bool) (first last : ℕ) → not (read_as single first last).is_single ≡ true → single ≡ false
not_single true first last e = absurd cc
not_single false first last e = refl

are_bad : (action : Action) (single : Bool) (first last : ℕ) → is_bad_range action (read_as single first last) ≡ true → AreBad action single first last
are_bad Add single first last e = not_single single first last e
are_bad Change single first last e = lines_bad single first last e
are_bad Delete single first last e = lines_bad single first last e

ends_low : (single : Bool) (first last : ℕ) → (single ≡ true → last ≡ first) → ((read_as single first last).first ≤ first) × ((read_as single first last).last ≤ last)
ends_low true first last one = let same = one refl in (omega arith, omega arith)
ends_low false first last one = (omega arith, omega arith)

lines_large : (first last a b : ℕ) → (ltb 4294967295 a || ltb 4294967295 b) ≡ true → a ≤ first → b ≤ last → (2 ^ 32 ≤ first) ⊎ (2 ^ 32 ≤ last)
lines_large first last a b e low high =
    elim (or_cases (ltb 4294967295 a) (ltb 4294967295 b) e) [
      | inl above ↦ inl (let more = ltb-true 4294967295 a above in omega arith)
      | inr above ↦ inr (let more = ltb-true 4294967295 b above in omega arith)
    ]

place_large : (last b : ℕ) → (ltb 4294967295 (b + 1) || ltb 4294967295 b) ≡ true → b ≤ last → 2 ^ 32 ≤ last + 1
place_large last b e high =
    elim (or_cases (ltb 4294967295 (b + 1)) (ltb 4294967295 b) e) [
      | inl above ↦ (let more = ltb-true 4294967295 (b + 1) above in omega arith)
      | inr above ↦ (let more = ltb-true 4294967295 b above in omega arith)
    ]

are_large : (action : Action) (single : Bool) (first last : ℕ) → (single ≡ true → last ≡ first) → is_too_large (heading (made (read_as single first last) action)) ≡ true → AreTooLarge action first last
are_large Add single first last one e = place_large last (read_as single first last).last e (ends_low single first last one).1
are_large Change single first last one e = lines_large first last (read_as single first last).first (read_as single first last).last e (ends_low single first last one).0 (ends_low single first last one).1
are_large Delete single first last one e = lines_large first last (read_as single first last).first (read_as single first last).last e (ends_low single first last one).0 (ends_low single first last one).1

one_number : (line : List ℕ) (is : IsCommand line) → is.single ≡ true → is.last ≡ is.first
one_number line is e = by is.single is.first is.last is.text e is.numbers
  where
    by : (single : Bool) (first last : ℕ) (text : List ℕ) → single ≡ true → SpellsRange text single first last → last ≡ first
    by true first last text e s = s.0
    by false first last text e s = absurd cc

checked_breaks : (below : ℕ) (line : List ℕ) (behind : List (List ℕ)) (is : IsCommand line) (kind : BadKind) → checked below (made (read_as is.single is.first is.last) is.action) ≡ Err kind → Breaks below kind line behind
checked_breaks below line behind is kind e =
    let range = read_as is.single is.first is.last in
    let h = heading (made range is.action) in
    let low = ends_low is.single is.first is.last (one_number line is) in
    first_failed (λ k. Breaks below k line behind) (is_bad_range is.action range) (is_too_large h) (ltb h.last below) h kind e
    (λ bad. (is, are_bad is.action is.single is.first is.last bad))
    (λ large. (is, are_large is.action is.single is.first is.last (one_number line is) large))
    (λ late. (is, let over = ltb-false range.last below late in omega (arith, over, low.1)))

opening_breaks : (below : ℕ) (line : List ℕ) (behind : List (List ℕ)) (kind : BadKind) → is_command line ≡ true → opening below line ≡ Err kind → Breaks below kind line behind
opening_breaks below line behind kind begins e = by (parts_at line) refl begins e
  where
    by : (o : Option Command) → parts_at line ≡ o → is_some o ≡ true → from_parts below o ≡ Err kind → Breaks below kind line behind
    by None read begins e = absurd cc
    by (Some c) read begins e = let f = command_form line c read in checked_breaks below line behind f.is kind (ap (checked below) (sym f.read) ∙ e)

-- ---- the text of a command

abbrev Lacks : TextState → List (List ℕ) → Type 0
Lacks Text lines = HaveNoEnd lines
Lacks Ended lines = EndsOpen lines
Lacks Corrected lines = EndsOpen lines

one_more : (line : List ℕ) (lines : List (List ℕ)) → EndsOpen lines → EndsOpen (line ∷ lines)
one_more line lines o = (line ∷ o.0, o.1, o.2, ap (λ (ls : List (List ℕ)). line ∷ ls) o.3, o.4, o.5)

text_open : (opened : ℕ) (part : TextState) (before : List (List ℕ)) (p : Ahead) (e : Fault) → closed opened part before p ≡ Err e → (fault opened kinds.EdNoDot ≡ e) × (is_open part ≡ true)
text_open opened part before p e h = by (is_open part) refl h
  where
    by : (b : Bool) → is_open part ≡ b → cond {A = Result (List (List ℕ) × Ahead) Fault} b (Err (fault opened kinds.EdNoDot)) (Ok (before, p)) ≡ Err e → (fault opened kinds.EdNoDot ≡ e) × (is_open part ≡ true)
    by true is h = (cc, is)
    by false is h = absurd cc

text_lacks : (opened : ℕ) (part : TextState) (before : List (List ℕ)) (number : ℕ) (lines : List (List ℕ)) (e : Fault) → text_at opened part before number lines ≡ Err e → (fault opened kinds.EdNoDot ≡ e) × Lacks part lines
unfolding text_at
text_lacks opened part before number [] e h = let o = text_open opened part before (ahead number []) e h in (o.0, by part o.1)
  where
    by : (part : TextState) → is_open part ≡ true → Lacks part []
    by Text is = inl tt
    by Ended is = absurd cc
    by Corrected is = absurd cc
text_lacks opened part before number (line ∷ rest) e h =
    elim (chosen (is_taken part before line) _ _ (Err e) h) [
      | inl taken ↦ (let more = text_lacks opened (step part before line).0 (step part before line).1 (number + 1) rest e taken.1 in (more.0, on part before taken.0 more.1))
      | inr stops ↦ (let o = text_open opened part before (ahead number (line ∷ rest)) e stops.1 in (o.0, absurd (no_stop part before stops.0 o.1)))
    ]
  where
    no_stop : (part : TextState) (before : List (List ℕ)) → is_taken part before line ≡ false → is_open part ≡ true → ⊥
    no_stop Text before stops is = cc
    no_stop Ended before stops is = cc
    no_stop Corrected before stops is = cc

    text : (before : List (List ℕ)) (b : Bool) → is_dot line ≡ b → Lacks (cond {A = TextState × List (List ℕ)} b (Ended, before) (Text, before ++ line ∷ [])).0 rest → HaveNoEnd (line ∷ rest)
    text before true is more = inr (one_more line rest more)
    text before false is (inl clear) = inl (is, clear)
    text before false is (inr later) = inr (one_more line rest later)

    append : is_append line ≡ true → HaveNoEnd rest → EndsOpen (line ∷ rest)
    append is (inl clear) = ([], line, rest, refl, is, clear)
    append is (inr later) = one_more line rest later

    on : (part : TextState) (before : List (List ℕ)) → is_taken part before line ≡ true → Lacks (step part before line).0 rest → Lacks part (line ∷ rest)
    on Text before taken more = text before (is_dot line) refl more
    on Ended before taken more = one_more line rest more
    on Corrected before taken more = append taken more

added_lacks : (opened : ℕ) (action : Action) (p : Ahead) (e : Fault) → added_at opened action p ≡ Err e → (fault opened kinds.EdNoDot ≡ e) × (action ≢ Delete) × HaveNoEnd p.rest
added_lacks opened Add p e h = let t = text_lacks opened Text [] p.number p.rest e h in (t.0, (λ same. cc), t.1)
added_lacks opened Change p e h = let t = text_lacks opened Text [] p.number p.rest e h in (t.0, (λ same. cc), t.1)
added_lacks opened Delete p e h = absurd cc

-- ---- an edit

heading_of : (below : ℕ) (c : Command) (h : Heading) → checked below c ≡ Ok h → c.action ≡ h.action
heading_of below c h e = by (is_bad_range c.action c.range) (is_too_large (heading c)) (ltb (heading c).last below) e
  where
    by : (a b d : Bool) → tested a b d (heading c) ≡ Ok h → c.action ≡ h.action
    by true b d e = absurd cc
    by false true d e = absurd cc
    by false false true e = let same : heading c ≡ h = cc in ap (λ (x : Heading). x.action) same
    by false false false e = absurd cc

edit_breaks : (below number : ℕ) (line : List ℕ) (rest : List (List ℕ)) (e : Fault) → is_command line ≡ true → first_edit below number (line ∷ rest) ≡ Err e → (e.line ≡ number) × Breaks below e.kind line rest
unfolding first_edit
edit_breaks below number line rest e begins h =
    elim (bind_err (at_line number (opening below line)) (λ h. added_at number h.action (ahead (number + 1) rest) >>= λ text. Ok (edit h text.0, text.1)) e h) [
      | inl bad ↦ by_opening (opening below line) refl bad
      | inr good ↦ elim (bind_err (added_at number good.0.action (ahead (number + 1) rest)) (λ text. Ok (edit good.0 text.0, text.1)) e good.2) [
        | inl bad ↦ by_text (parts_at line) refl begins good.0 (at_line-is (opening below line) good.0 good.1) (added_lacks number good.0.action (ahead (number + 1) rest) e bad)
        | inr text ↦ absurd (let wrong : Ok (edit good.0 text.0.0, text.0.1) ≡ failed {A = PlainEdit × Ahead} e = text.2 in cc)
      ]
    ]
  where
    at_line-is : (o : Result Heading BadKind) (h : Heading) → at_line number o ≡ Ok h → o ≡ Ok h
    at_line-is (Ok q) h e = cc
    at_line-is (Err kind) h e = absurd cc

    by_opening : (o : Result Heading BadKind) → opening below line ≡ o → at_line number o ≡ Err e → (e.line ≡ number) × Breaks below e.kind line rest
    by_opening (Ok q) is h = absurd cc
    by_opening (Err kind) is h =
        let same : fault number kind ≡ e = err_is {A = Heading} (fault number kind) e h in
        (sym (ap (λ (x : Fault). x.line) same), subst (λ (x : Fault). Breaks below x.kind line rest) same (opening_breaks below line rest kind begins is))

    by_text : (o : Option Command) → parts_at line ≡ o → is_some o ≡ true → (h : Heading) → from_parts below o ≡ Ok h → (fault number kinds.EdNoDot ≡ e) × (h.action ≢ Delete) × HaveNoEnd rest → (e.line ≡ number) × Breaks below e.kind line rest
    by_text None read begins h is lacks = absurd cc
    by_text (Some c) read begins h is lacks =
        let f = command_form line c read in
        let same : f.is.action ≡ h.action = ap (λ (x : Command). x.action) (sym f.read) ∙ heading_of below c h is in
        (sym (ap (λ (x : Fault). x.line) lacks.0), subst (λ (x : Fault). Breaks below x.kind line rest) lacks.0 (f.is, (λ deletes. lacks.1 (sym same ∙ deletes)), lacks.2))

-- ---- edits that follow each other

abbrev Named : ℕ → ℕ → List (List ℕ) → Fault → Type 0
Named below number lines e = NamesLine (IsAtFault below e.kind) number lines e.line

here_breaks : (below number : ℕ) (line : List ℕ) (rest : List (List ℕ)) (e : Fault) → e.line ≡ number → Breaks below e.kind line rest → Named below number (line ∷ rest) e
here_breaks below number line rest e here breaks = named-here (IsAtFault below e.kind) number line rest e.line here ([], refl, breaks)

past_edit : (below : ℕ) (p : Ahead) (x : PlainEdit × Ahead) (e : Fault) → TakesEdit below p x → Named (lowest x.0) x.1.number x.1.rest e → Named below p.number p.rest e
past_edit below p x e t n = named-past (IsAtFault (lowest x.0) e.kind) (IsAtFault below e.kind) t.own p.number x.1.number p.rest x.1.rest e.line t.parts t.number (λ front line behind same a. (x.0 ∷ a.0, (t.own, front, refl, subst (SpellsEdit below t.own x.0) same t.spelled, a.1), a.2)) n

end_breaks : (below : ℕ) (p : Ahead) (e : Fault) → no_edits p ≡ Err e → Named below p.number p.rest e
end_breaks below p e h = by p.rest h
  where
    named : (line : List ℕ) (ls : List (List ℕ)) (b : Bool) → is_substitution line ≡ b → cond {A = Result (List PlainEdit × Ahead) Fault} b (Err (fault p.number kinds.EdCommand)) (Ok ([], p)) ≡ Err e → Named below p.number (line ∷ ls) e
    named line ls true is h = let same : fault p.number kinds.EdCommand ≡ e = err_is {A = List PlainEdit × Ahead} _ e h in here_breaks below p.number line ls e (sym (ap (λ (x : Fault). x.line) same)) (subst (λ (x : Fault). Breaks below x.kind line ls) same is)
    named line ls false is h = absurd cc

    by : (ls : List (List ℕ)) → cond {A = Result (List PlainEdit × Ahead) Fault} (begins_substitution ls) (Err (fault p.number kinds.EdCommand)) (Ok ([], p)) ≡ Err e → Named below p.number ls e
    by [] h = absurd cc
    by (line ∷ ls) h = named line ls (is_substitution line) refl h

first_breaks : (below : ℕ) (p : Ahead) (e : Fault) → begins_script p.rest ≡ true → edit_at below p ≡ Err e → Named below p.number p.rest e
first_breaks below p e begins h = by p.rest begins h
  where
    by : (ls : List (List ℕ)) → begins_script ls ≡ true → first_edit below p.number ls ≡ Err e → Named below p.number ls e
    by [] begins h = absurd cc
    by (line ∷ ls) begins h = let b = edit_breaks below p.number line ls e begins h in here_breaks below p.number line ls e b.0 b.1

edits_break : (most below : ℕ) (p : Ahead) (e : Fault) → edits_at most below p ≡ Err e → Named below p.number p.rest e
unfolding edits_at
edits_break zero below p e h = end_breaks below p e h
edits_break (suc most) below p e h =
    elim (chosen (begins_script p.rest) _ _ (Err e) h) [
      | inl some ↦ elim (bind_err (edit_at below p) (λ first. edits_at most (lowest first.0) first.1 >>= λ others. Ok (first.0 ∷ others.0, others.1)) e some.1) [
        | inl bad ↦ first_breaks below p e some.0 bad
        | inr good ↦ (
            let x = good.0 in
            past_edit below p x e (edit_takes below p.number p.rest x good.1) (edits_break most (lowest x.0) x.1 e (add_err x.0 (edits_at most (lowest x.0) x.1) e good.2)))
      ]
      | inr none ↦ end_breaks below p e none.1
    ]

pub fault-named : (number : ℕ) (lines : List (List ℕ)) (e : Fault) → reading number lines ≡ Err e → NamesLine (IsAtFault (2 ^ 32) e.kind) number lines e.line
fault-named number lines e h = edits_break (length lines) (2 ^ 32) (ahead number lines) e h
