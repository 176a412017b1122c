-- A text that is read is spelled so, and one that is spelled so is read.
use Rattle.std.proofs.Common.{◌≡◌, inl, inr, ℕ, zero, suc, ◌+◌, Bool, true, false, ◌&&◌, List, [], ◌∷◌, ◌++◌, length, drop, Ok, refl, sym, ap, subst, ◌∙◌, append_assoc, arith}
use Rattle.std.proofs.lemmas.List.{length-append, append-nil}
use Rattle.hunk_core.specs.declared.BadKind.TheVariants as kinds
use Rattle.hunk_core.specs.LineTests.{after}
use Rattle.hunk_core.specs.Reading.{fault, Ahead, ahead}
use Rattle.line_list.proofs.Choices.{chosen}
use Rattle.hunk_core.proofs.ReadSteps.{guard_ok, ok_is}
use Rattle.hunk_core.proofs.TextLemmas.{after-again}
use Rattle.hunk_core.specs.declared.command.Action.{Action}
use Rattle.hunk_core.specs.declared.command.Action.TheVariants.{Add, Change, Delete}
use Rattle.hunk_core.specs.Letters.{is_line_end}
use Rattle.std.proofs.lemmas.Bool.{cases_Bool, and_parts}
use Rattle.ed_form.specs.declared.added.TextState.{TextState}
use Rattle.ed_form.specs.declared.added.TextState.TheVariants.{Text, Ended, Corrected}
use Rattle.ed_form.specs.Texts.{is_dot, is_double, is_correction, is_append, is_substitution, ends_double, undoubled, is_open, is_taken, closed, text_at, goes_on}
use Rattle.ed_form.specs.Scripts.{begins_substitution, added_at}
use Rattle.ed_form.specs.Grammar.{HaveNoDot, IsEnded, IsCorrected, begins_append, SpellsText, SpellsAdded}
use Rattle.ed_form.proofs.Lasts.{word-takes, word-again, ends-push, undoubled-push}
use Rattle.ed_form.proofs.TextLoops.{text-takes, text-stops}

-- ---- lines
-- a line '..' is a dot before a line '.'
pub double-lone : (line : List ℕ) → is_double line ≡ true → (lone : List ℕ) × (line ≡ 46 ∷ lone) × (is_dot lone ≡ true)
double-lone line e = let t = word-takes (46 ∷ 46 ∷ []) line e in (46 ∷ t.0, t.1, word-again (46 ∷ []) t.0 t.2)

pub lone-double : (lone : List ℕ) → is_dot lone ≡ true → is_double (46 ∷ lone) ≡ true
lone-double lone e =
    let t = word-takes (46 ∷ []) lone e in
    ap (λ l. is_double (46 ∷ l)) t.1 ∙ word-again (46 ∷ 46 ∷ []) t.0 t.2

-- a line '.' is no line '..'
dot-single : (line : List ℕ) → is_dot line ≡ true → is_double line ≡ false
unfolding after
dot-single line e = let t = word-takes (46 ∷ []) line e in rw t.1 (by t.0 t.2)
  where
    by : (rest : List ℕ) → is_line_end rest ≡ true → is_double (46 ∷ rest) ≡ false
    by [] h = refl
    by (b ∷ []) h = grind arith
    by (b ∷ c ∷ rest) h = absurd cc

pub correction-substitutes : (line : List ℕ) → is_correction line ≡ true → is_substitution line ≡ true
correction-substitutes line e = let t = word-takes (115 ∷ 47 ∷ 46 ∷ 47 ∷ 47 ∷ []) line e in rw (t.1, after-again (115 ∷ 47 ∷ []) (46 ∷ 47 ∷ 47 ∷ t.0)) refl

pub clear-push : (ls : List (List ℕ)) (line : List ℕ) → HaveNoDot ls → is_dot line ≡ false → HaveNoDot (ls ++ line ∷ [])
clear-push [] line h e = (e, tt)
clear-push (x ∷ ls) line h e = (h.0, clear-push ls line h.1 e)

text-line : (opened : ℕ) (before : List (List ℕ)) (number : ℕ) (line : List ℕ) (rest : List (List ℕ)) → is_dot line ≡ false → text_at opened Text before number (line ∷ rest) ≡ text_at opened Text (before ++ line ∷ []) (number + 1) rest
text-line opened before number line rest e = text-takes opened Text before number line rest refl ∙ rw e refl

pub text-dot : (opened : ℕ) (before : List (List ℕ)) (number : ℕ) (line : List ℕ) (rest : List (List ℕ)) → is_dot line ≡ true → text_at opened Text before number (line ∷ rest) ≡ text_at opened Ended before (number + 1) rest
text-dot opened before number line rest e = text-takes opened Text before number line rest refl ∙ rw e refl

-- ---- what was read of a stretch

-- these lines of it were seen, and this is their text
abbrev pub Seen : TextState → List (List ℕ) → List (List ℕ) → Type 0
Seen Text seen text = (seen ≡ text) × HaveNoDot text
Seen Ended seen text = IsEnded seen text
Seen Corrected seen text = IsCorrected seen text

-- lines that aren't empty have a last one
last-of : (ls : List (List ℕ)) (line : List ℕ) → (front : List (List ℕ)) × (last : List ℕ) × (line ∷ ls ≡ front ++ last ∷ [])
last-of [] line = ([], line, refl)
last-of (x ∷ ls) line = let more = last-of ls x in (line ∷ more.0, more.1, ap (λ (m : List (List ℕ)). line ∷ m) more.2)

clear-front : (ls : List (List ℕ)) (line : List ℕ) → HaveNoDot (ls ++ line ∷ []) → HaveNoDot ls
clear-front [] line h = tt
clear-front (x ∷ ls) line h = (h.0, clear-front ls line h.1)

-- the last line of a text is '..' behind lines that don't end so
pub record EndsDouble (base text : List (List ℕ)) : Type 0 where
  pub front : List (List ℕ)
  pub lone : List ℕ
  pub parts : text ≡ front ++ (46 ∷ lone) ∷ []
  pub is_lone : is_dot lone ≡ true
  pub becomes : undoubled (base ++ text) ≡ base ++ (front ++ lone ∷ [])

doubled-last : (base text front : List (List ℕ)) (last : List ℕ) → text ≡ front ++ last ∷ [] → ends_double (base ++ text) ≡ true → EndsDouble base text
doubled-last base text front last parts e =
    let whole : base ++ text ≡ (base ++ front) ++ last ∷ [] = ap (λ (t : List (List ℕ)). base ++ t) parts ∙ sym (append_assoc base front (last ∷ [])) in
    let is : is_double last ≡ true = sym (ap ends_double whole ∙ ends-push (base ++ front) last) ∙ e in
    let l = double-lone last is in
    let cut : drop 1 last ≡ l.0 = ap (λ (x : List ℕ). drop 1 x) l.1 in
    record {
      front = front;
      lone = l.0;
      parts = parts ∙ ap (λ (x : List ℕ). front ++ x ∷ []) l.1;
      is_lone = l.2;
      becomes = ap undoubled whole ∙ undoubled-push (base ++ front) last ∙ ap (λ (x : List ℕ). (base ++ front) ++ x ∷ []) cut ∙ append_assoc base front (l.0 ∷ []);
    }

ends-doubled : (base text : List (List ℕ)) → ends_double base ≡ false → ends_double (base ++ text) ≡ true → EndsDouble base text
ends-doubled base [] single e = absurd (let same : ends_double base ≡ true = ap ends_double (sym (append-nil base)) ∙ e in cc)
ends-doubled base (line ∷ ls) single e = let l = last-of ls line in doubled-last base (line ∷ ls) l.0 l.1 l.2 e

-- ---- what is read is spelled

-- behind base, and behind the lines seen of a stretch: a text, and the lines that it took
pub record TakesText (base seen : List (List ℕ)) (number : ℕ) (rest : List (List ℕ)) (x : List (List ℕ) × Ahead) : Type 0 where
  pub turns : ℕ
  pub own : List (List ℕ)
  pub text : List (List ℕ)
  pub is : x.0 ≡ base ++ text
  pub parts : seen ++ rest ≡ own ++ x.1.rest
  pub number_of : x.1.number + length seen ≡ number + length own
  pub spelled : SpellsText turns own text x.1.rest

-- one more line was seen
takes-step : (base seen : List (List ℕ)) (number : ℕ) (line : List ℕ) (rest : List (List ℕ)) (x : List (List ℕ) × Ahead) → TakesText base (seen ++ line ∷ []) (number + 1) rest x → TakesText base seen number (line ∷ rest) x
takes-step base seen number line rest x t = record {
  turns = t.turns;
  own = t.own;
  text = t.text;
  is = t.is;
  parts = sym (append_assoc seen (line ∷ []) rest) ∙ t.parts;
  number_of = omega (arith, t.number_of, length-append seen (line ∷ []));
  spelled = t.spelled;
}

-- nothing more is of the text
takes-none : (base seen text : List (List ℕ)) (number : ℕ) (rest : List (List ℕ)) (x : List (List ℕ) × Ahead) → SpellsText 0 seen text rest → (base ++ text, ahead number rest) ≡ x → TakesText base seen number rest x
takes-none base seen text number rest x s e = subst (TakesText base seen number rest) e (record { turns = 0; own = seen; text = text; is = refl; parts = refl; number_of = refl; spelled = s })

pub closed-is : (opened : ℕ) (part : TextState) (before : List (List ℕ)) (p : Ahead) (x : List (List ℕ) × Ahead) → closed opened part before p ≡ Ok x → (is_open part ≡ false) × ((before, p) ≡ x)
closed-is opened part before p x h = guard_ok (is_open part) (fault opened kinds.EdNoDot) (before, p) x h

corrected-by : (base seen text : List (List ℕ)) (line : List ℕ) → IsEnded seen text → EndsDouble base text → is_correction line ≡ true → (d : EndsDouble base text) → IsCorrected (seen ++ line ∷ []) (d.front ++ d.lone ∷ [])
corrected-by base seen text line s _ e d = record {
  front = d.front;
  lone = d.lone;
  dot = s.dot;
  correction = line;
  parts = ap (λ (l : List (List ℕ)). l ++ line ∷ []) (s.parts ∙ ap (λ (t : List (List ℕ)). t ++ s.dot ∷ []) d.parts ∙ append_assoc d.front ((46 ∷ d.lone) ∷ []) (s.dot ∷ [])) ∙ append_assoc d.front ((46 ∷ d.lone) ∷ s.dot ∷ []) (line ∷ []);
  is = refl;
  clear = clear-front d.front (46 ∷ d.lone) (subst HaveNoDot d.parts s.clear);
  is_lone = d.is_lone;
  ends = s.ends;
  corrects = e;
}

lone-single : (base seen text : List (List ℕ)) → IsCorrected seen text → ends_double (base ++ text) ≡ false
lone-single base seen text s = ap (λ (t : List (List ℕ)). ends_double (base ++ t)) s.is ∙ ap ends_double (sym (append_assoc base s.front (s.lone ∷ []))) ∙ ends-push (base ++ s.front) s.lone ∙ dot-single s.lone s.is_lone

further : (base seen text : List (List ℕ)) (number : ℕ) (line : List ℕ) (rest : List (List ℕ)) (x : List (List ℕ) × Ahead) → IsCorrected seen text → is_append line ≡ true → TakesText (base ++ text) [] (number + 1) rest x → TakesText base seen number (line ∷ rest) x
further base seen text number line rest x s e t = record {
  turns = suc t.turns;
  own = seen ++ line ∷ t.own;
  text = text ++ t.text;
  is = t.is ∙ append_assoc base text t.text;
  parts = ap (λ (r : List (List ℕ)). seen ++ line ∷ r) t.parts ∙ sym (append_assoc seen (line ∷ t.own) x.1.rest);
  number_of = omega (arith, t.number_of, length-append seen (line ∷ t.own));
  spelled = (seen, line, t.own, refl, e, text, t.text, refl, s, t.spelled);
}

pub text_takes : (opened : ℕ) (part : TextState) (base seen text : List (List ℕ)) (number : ℕ) (rest : List (List ℕ)) (x : List (List ℕ) × Ahead) → ends_double base ≡ false → Seen part seen text → text_at opened part (base ++ text) number rest ≡ Ok x → TakesText base seen number rest x
unfolding text_at
text_takes opened Text base seen text number [] x single s h = absurd cc
text_takes opened Text base seen text number (line ∷ rest) x single s h =
    elim (cases_Bool (is_dot line)) [
      | inl dot ↦ takes-step base seen number line rest x (text_takes opened Ended base (seen ++ line ∷ []) text (number + 1) rest x single (record { dot = line; parts = ap (λ (l : List (List ℕ)). l ++ line ∷ []) s.0; clear = s.1; ends = dot }) (sym (text-dot opened (base ++ text) number line rest dot) ∙ h))
      | inr other ↦ takes-step base seen number line rest x (text_takes opened Text base (seen ++ line ∷ []) (text ++ line ∷ []) (number + 1) rest x single (ap (λ (l : List (List ℕ)). l ++ line ∷ []) s.0, clear-push text line s.1 other)
          (ap (λ (t : List (List ℕ)). text_at opened Text t (number + 1) rest) (sym (append_assoc base text (line ∷ []))) ∙ sym (text-line opened (base ++ text) number line rest other) ∙ h))
    ]
text_takes opened Ended base seen text number [] x single s h = takes-none base seen text number [] x (inl s) (closed-is opened Ended (base ++ text) (ahead number []) x h).1
text_takes opened Ended base seen text number (line ∷ rest) x single s h =
    elim (chosen (ends_double (base ++ text) && is_correction line) _ _ (Ok x) h) [
      | inl taken ↦ (
          let b = and_parts (ends_double (base ++ text)) (is_correction line) taken.0 in
          let d = ends-doubled base text single b.0 in
          takes-step base seen number line rest x (text_takes opened Corrected base (seen ++ line ∷ []) (d.front ++ d.lone ∷ []) (number + 1) rest x single (corrected-by base seen text line s d b.1 d) (subst (λ (t : List (List ℕ)). text_at opened Corrected t (number + 1) rest ≡ Ok x) d.becomes taken.1)))
      | inr none ↦ takes-none base seen text number (line ∷ rest) x (inl s) (closed-is opened Ended (base ++ text) (ahead number (line ∷ rest)) x none.1).1
    ]
text_takes opened Corrected base seen text number [] x single s h = takes-none base seen text number [] x (inr (s, refl)) (closed-is opened Corrected (base ++ text) (ahead number []) x h).1
text_takes opened Corrected base seen text number (line ∷ rest) x single s h =
    elim (chosen (is_append line) _ _ (Ok x) h) [
      | inl taken ↦ further base seen text number line rest x s taken.0 (text_takes opened Text (base ++ text) [] [] (number + 1) rest x (lone-single base seen text s) (refl, tt) (subst (λ (t : List (List ℕ)). text_at opened Text t (number + 1) rest ≡ Ok x) (sym (append-nil (base ++ text))) taken.1))
      | inr none ↦ takes-none base seen text number (line ∷ rest) x (inr (s, none.0)) (closed-is opened Corrected (base ++ text) (ahead number (line ∷ rest)) x none.1).1
    ]

-- ---- what is spelled is read

pub text-run : (opened : ℕ) (before front : List (List ℕ)) (number : ℕ) (rest : List (List ℕ)) → HaveNoDot front → text_at opened Text before number (front ++ rest) ≡ text_at opened Text (before ++ front) (number + length front) rest
text-run opened before [] number rest h =
    let same : number + 0 ≡ number = omega arith in
    rw (same, append-nil before) refl
text-run opened before (line ∷ front) number rest h =
    let count : number + 1 + length front ≡ number + length (line ∷ front) = omega arith in
    text-line opened before number line (front ++ rest) h.0
    ∙ text-run opened (before ++ line ∷ []) front (number + 1) rest h.1
    ∙ rw (count, append_assoc before (line ∷ []) front) refl

correct-step : (opened : ℕ) (before : List (List ℕ)) (lone : List ℕ) (number : ℕ) (line : List ℕ) (rest : List (List ℕ)) → is_dot lone ≡ true → is_correction line ≡ true → text_at opened Ended (before ++ (46 ∷ lone) ∷ []) number (line ∷ rest) ≡ text_at opened Corrected (before ++ lone ∷ []) (number + 1) rest
correct-step opened before lone number line rest is e =
    let double : ends_double (before ++ (46 ∷ lone) ∷ []) ≡ true = ends-push before (46 ∷ lone) ∙ lone-double lone is in
    let taken : is_taken Ended (before ++ (46 ∷ lone) ∷ []) line ≡ true = rw (double, e) refl in
    text-takes opened Ended (before ++ (46 ∷ lone) ∷ []) number line rest taken ∙ rw (undoubled-push before (46 ∷ lone)) refl

-- a stretch that is corrected
corrected-again : (opened : ℕ) (before own text : List (List ℕ)) (number : ℕ) (rest : List (List ℕ)) → IsCorrected own text → text_at opened Text before number (own ++ rest) ≡ text_at opened Corrected (before ++ text) (number + length own) rest
corrected-again opened before own text number rest s =
    let tail : List (List ℕ) = (46 ∷ s.lone) ∷ s.dot ∷ s.correction ∷ [] in
    let parts : own ++ rest ≡ s.front ++ ((46 ∷ s.lone) ∷ s.dot ∷ s.correction ∷ rest) = ap (λ (o : List (List ℕ)). o ++ rest) s.parts ∙ append_assoc s.front tail rest in
    let no_dot : is_dot (46 ∷ s.lone) ≡ false = double-no-dot (46 ∷ s.lone) (lone-double s.lone s.is_lone) in
    let count : number + length s.front + 1 + 1 + 1 ≡ number + length own = omega (arith, ap length s.parts, length-append s.front tail) in
    let text_is : (before ++ s.front) ++ s.lone ∷ [] ≡ before ++ text = append_assoc before s.front (s.lone ∷ []) ∙ ap (λ (t : List (List ℕ)). before ++ t) (sym s.is) in
    ap (text_at opened Text before number) parts
    ∙ text-run opened before s.front number ((46 ∷ s.lone) ∷ s.dot ∷ s.correction ∷ rest) s.clear
    ∙ text-line opened (before ++ s.front) (number + length s.front) (46 ∷ s.lone) (s.dot ∷ s.correction ∷ rest) no_dot
    ∙ text-dot opened ((before ++ s.front) ++ (46 ∷ s.lone) ∷ []) (number + length s.front + 1) s.dot (s.correction ∷ rest) s.ends
    ∙ correct-step opened (before ++ s.front) s.lone (number + length s.front + 1 + 1) s.correction rest s.is_lone s.corrects
    ∙ rw (count, text_is) refl
  where
    double-no-dot : (line : List ℕ) → is_double line ≡ true → is_dot line ≡ false
    double-no-dot line e = by (is_dot line) refl
      where
        by : (b : Bool) → is_dot line ≡ b → is_dot line ≡ false
        by true h = absurd (let bad = dot-single line h in cc)
        by false h = h

-- a stretch that isn't
ended-again : (opened : ℕ) (before own text : List (List ℕ)) (number : ℕ) (rest : List (List ℕ)) → IsEnded own text → text_at opened Text before number (own ++ rest) ≡ text_at opened Ended (before ++ text) (number + length own) rest
ended-again opened before own text number rest s =
    let parts : own ++ rest ≡ text ++ (s.dot ∷ rest) = ap (λ (o : List (List ℕ)). o ++ rest) s.parts ∙ append_assoc text (s.dot ∷ []) rest in
    let count : number + length text + 1 ≡ number + length own = omega (arith, ap length s.parts, length-append text (s.dot ∷ [])) in
    ap (text_at opened Text before number) parts
    ∙ text-run opened before text number (s.dot ∷ rest) s.clear
    ∙ text-dot opened (before ++ text) (number + length text) s.dot rest s.ends
    ∙ rw count refl

pub ended-stops : (opened : ℕ) (before : List (List ℕ)) (number : ℕ) (rest : List (List ℕ)) → begins_substitution rest ≡ false → text_at opened Ended before number rest ≡ Ok (before, ahead number rest)
ended-stops opened before number rest e = text-stops opened Ended before number rest (by rest e)
  where
    no : (b c : Bool) → c ≡ false → (b && c) ≡ false
    no true c h = h
    no false c h = refl

    plain : (line : List ℕ) → is_substitution line ≡ false → (b : Bool) → is_correction line ≡ b → b ≡ false
    plain line h true is = absurd (let bad = correction-substitutes line is in cc)
    plain line h false is = refl

    by : (ls : List (List ℕ)) → begins_substitution ls ≡ false → goes_on Ended before ls ≡ false
    by [] h = refl
    by (line ∷ ls) h = no (ends_double before) (is_correction line) (plain line h (is_correction line) refl)

corrected-stops : (opened : ℕ) (before : List (List ℕ)) (number : ℕ) (rest : List (List ℕ)) → begins_append rest ≡ false → text_at opened Corrected before number rest ≡ Ok (before, ahead number rest)
corrected-stops opened before number rest e = text-stops opened Corrected before number rest (by rest e)
  where
    by : (ls : List (List ℕ)) → begins_append ls ≡ false → goes_on Corrected before ls ≡ false
    by [] h = refl
    by (line ∷ ls) h = h

append-step : (opened : ℕ) (before : List (List ℕ)) (number : ℕ) (line : List ℕ) (rest : List (List ℕ)) → is_append line ≡ true → text_at opened Corrected before number (line ∷ rest) ≡ text_at opened Text before (number + 1) rest
append-step opened before number line rest e = text-takes opened Corrected before number line rest e

pub text_again : (turns : ℕ) (opened : ℕ) (before own text : List (List ℕ)) (number : ℕ) (rest : List (List ℕ)) → SpellsText turns own text rest → begins_substitution rest ≡ false → text_at opened Text before number (own ++ rest) ≡ Ok (before ++ text, ahead (number + length own) rest)
text_again zero opened before own text number rest (inl s) clean = ended-again opened before own text number rest s ∙ ended-stops opened (before ++ text) (number + length own) rest clean
text_again zero opened before own text number rest (inr s) clean = corrected-again opened before own text number rest s.0 ∙ corrected-stops opened (before ++ text) (number + length own) rest s.1
text_again (suc turns) opened before own text number rest s clean =
    let one = s.0 in
    let append = s.1 in
    let more = s.2 in
    let first = s.5 in
    let others = s.6 in
    let parts : own ++ rest ≡ one ++ (append ∷ (more ++ rest)) = ap (λ (o : List (List ℕ)). o ++ rest) s.3 ∙ append_assoc one (append ∷ more) rest in
    let count : number + length one + 1 + length more ≡ number + length own = omega (arith, ap length s.3, length-append one (append ∷ more)) in
    let text_is : (before ++ first) ++ others ≡ before ++ text = append_assoc before first others ∙ ap (λ (t : List (List ℕ)). before ++ t) (sym s.7) in
    ap (text_at opened Text before number) parts
    ∙ corrected-again opened before one first number (append ∷ (more ++ rest)) s.8
    ∙ append-step opened (before ++ first) (number + length one) append (more ++ rest) s.4
    ∙ text_again turns opened (before ++ first) more others (number + length one + 1) rest s.9 clean
    ∙ rw (count, text_is) refl

-- ---- what a command adds

pub record TakesAdded (action : Action) (number : ℕ) (rest : List (List ℕ)) (x : List (List ℕ) × Ahead) : Type 0 where
  pub own : List (List ℕ)
  pub parts : rest ≡ own ++ x.1.rest
  pub number_of : x.1.number ≡ number + length own
  pub spelled : SpellsAdded action own x.0 x.1.rest

from-text : (action : Action) (number : ℕ) (rest : List (List ℕ)) (x : List (List ℕ) × Ahead) → (t : TakesText [] [] number rest x) → SpellsAdded action t.own t.text x.1.rest → TakesAdded action number rest x
from-text action number rest x t s = record { own = t.own; parts = t.parts; number_of = omega (arith, t.number_of); spelled = subst (λ (ls : List (List ℕ)). SpellsAdded action t.own ls x.1.rest) (sym t.is) s }

pub added_takes : (opened : ℕ) (action : Action) (p : Ahead) (x : List (List ℕ) × Ahead) → added_at opened action p ≡ Ok x → TakesAdded action p.number p.rest x
added_takes opened Add p x h = let t = text_takes opened Text [] [] [] p.number p.rest x refl (refl, tt) h in from-text Add p.number p.rest x t (t.turns, t.spelled)
added_takes opened Change p x h = let t = text_takes opened Text [] [] [] p.number p.rest x refl (refl, tt) h in from-text Change p.number p.rest x t (t.turns, t.spelled)
added_takes opened Delete p x h =
    let same : ([], p) ≡ x = ok_is _ _ h in
    subst (TakesAdded Delete p.number p.rest) same (record { own = []; parts = refl; number_of = omega arith; spelled = (refl, refl) })

pub added_again : (opened : ℕ) (action : Action) (own added : List (List ℕ)) (number : ℕ) (rest : List (List ℕ)) → SpellsAdded action own added rest → begins_substitution rest ≡ false → added_at opened action (ahead number (own ++ rest)) ≡ Ok (added, ahead (number + length own) rest)
added_again opened Add own added number rest s clean = text_again s.0 opened [] own added number rest s.1 clean
added_again opened Change own added number rest s clean = text_again s.0 opened [] own added number rest s.1 clean
added_again opened Delete own added number rest s clean =
    let same : number + 0 ≡ number = omega arith in
    rw (s.0, s.1, same) refl
