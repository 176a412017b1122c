-- A block that is written as an ed command is spelled by its lines.
use Rattle.std.proofs.Common.{◌≡◌, inl, inr, ℕ, zero, suc, ◌+◌, ◌-◌, ◌<◌, ◌≤◌, ◌^◌, Bool, true, false, cond, eqb, List, [], ◌∷◌, ◌++◌, length, append_assoc, refl, sym, ap, subst, ◌∙◌, arith}
use Rattle.std.specs.Prelude.{codes, nat_lt}
use Rattle.std.specs.List.{AllByRecursion}
use Rattle.std.proofs.lemmas.Bool.{eqb-true}
use Rattle.std.proofs.lemmas.Bool.Decides.{nat_tests}
use Rattle.std.proofs.lemmas.Grind.{flat_map-append}
use Rattle.line_list.specs.Lines.{IsLine}
use Rattle.line_list.proofs.Pieces.{joined}
use Rattle.line_list.proofs.WholeLines.{NoFeed, no-feed-both}
use Rattle.num_text.specs.Numbers.{IsNumeral, decimal}
use Rattle.num_text.specs.NumberRanges.{SpellsRange, range_at}
use Rattle.num_text.proofs.Decimal.{decimal-numeral}
use Rattle.line_list.proofs.Choices.{chosen}
use Rattle.hunk_core.specs.LineTests.{after}
use Rattle.hunk_core.specs.Letters.{is_line_end, letter}
use Rattle.hunk_core.specs.declared.command.Action.{Action}
use Rattle.hunk_core.specs.declared.command.Action.TheVariants.{Add, Change, Delete}
use Rattle.ed_form.specs.Commands.{is_command, parts_at}
use Rattle.ed_form.specs.Grammar.{IsCorrected, SpellsAdded, SpellsAddresses, SpellsCommand, SpellsText, begins_append}
use Rattle.ed_form.specs.Texts.{is_append, is_dot}
use Rattle.ed_form.proofs.Lasts.{word-takes}
use Rattle.normal_form.specs.Canonical.{action_for}
use Rattle.unified_form.proofs.Canonical.{closes}
use Rattle.format_convert.specs.Commands.{ed_head, ed_line, ed_lines, goes_on, range_start}
use Rattle.format_convert.proofs.EdLemmas.{lines-cons, lines-none}
use Rattle.hunk_core.specs.Spans.{span_text}
use Rattle.hunk_core.proofs.TextLemmas.{some-not}
use Rattle.hunk_core.proofs.CommandLemmas.{letter-clean, no-feed}
use Rattle.normal_form.proofs.Canonical.{changes, deletes}

-- ---- the lines of a text

abbrev line_rows : List ℕ → Bool → List (List ℕ)
line_rows line more = cond (is_dot line) (codes "..\n" ∷ codes ".\n" ∷ codes "s/.//\n" ∷ cond more (codes "a\n" ∷ []) []) (line ∷ cond more [] (codes ".\n" ∷ []))

abbrev pub text_rows : List (List ℕ) → List (List ℕ)
text_rows [] = []
text_rows (line ∷ more) = line_rows line (goes_on more) ++ text_rows more

line-joined : (line : List ℕ) (more : Bool) → ed_line line more ≡ joined (line_rows line more)
line-joined line more = by (is_dot line) more
  where
    by : (v w : Bool) → cond v (codes "..\n.\ns/.//\n" ++ cond w (codes "a\n") []) (line ++ cond w [] (codes ".\n")) ≡ joined (cond v (codes "..\n" ∷ codes ".\n" ∷ codes "s/.//\n" ∷ cond w (codes "a\n" ∷ []) []) (line ∷ cond w [] (codes ".\n" ∷ [])))
    by true true = refl
    by true false = refl
    by false true = refl
    by false false = refl

pub text-joined : (ls : List (List ℕ)) → ed_lines ls ≡ joined (text_rows ls)
text-joined [] = lines-none
text-joined (line ∷ more) =
    lines-cons line more
    ∙ ap (λ x. x ++ ed_lines more) (line-joined line (goes_on more))
    ∙ ap (λ x. joined (line_rows line (goes_on more)) ++ x) (text-joined more)
    ∙ sym (flat_map-append (λ (l : List ℕ). l) (line_rows line (goes_on more)) (text_rows more))

dot-line : IsLine (codes ".\n")
dot-line = (λ e. cc, refl)

pub text-whole : (ls : List (List ℕ)) → AllByRecursion IsLine ls → AllByRecursion IsLine (text_rows ls)
text-whole [] all = tt
text-whole (line ∷ more) all = by (is_dot line) (goes_on more) (text-whole more all.1)
  where
    by : (v w : Bool) → AllByRecursion IsLine (text_rows more) → AllByRecursion IsLine (cond v (codes "..\n" ∷ codes ".\n" ∷ codes "s/.//\n" ∷ cond w (codes "a\n" ∷ []) []) (line ∷ cond w [] (codes ".\n" ∷ [])) ++ text_rows more)
    by true true later = ((λ e. cc, (λ e. cc, refl)), (dot-line, ((λ e. cc, (λ e. cc, (λ e. cc, (λ e. cc, (λ e. cc, refl))))), ((λ e. cc, refl), later))))
    by true false later = ((λ e. cc, (λ e. cc, refl)), (dot-line, ((λ e. cc, (λ e. cc, (λ e. cc, (λ e. cc, (λ e. cc, refl))))), later)))
    by false true later = (all.0, later)
    by false false later = (all.0, (dot-line, later))

-- ---- they spell it

dot-is : (line : List ℕ) → is_dot line ≡ true → IsLine line → line ≡ codes ".\n"
dot-is line d is = let t = word-takes (46 ∷ []) line d in t.1 ∙ by t.0 t.2 (subst IsLine t.1 is)
  where
    by : (rest : List ℕ) → is_line_end rest ≡ true → IsLine (46 ∷ rest) → 46 ∷ rest ≡ codes ".\n"
    by [] e l = absurd (cc)
    by (b ∷ []) e l = let same : b ≡ 10 = l.1 in ap (λ x. 46 ∷ x ∷ []) same
    by (b ∷ c ∷ rest) e l = absurd cc

push-corrected : (x : List ℕ) (own text : List (List ℕ)) → is_dot x ≡ false → IsCorrected own text → IsCorrected (x ∷ own) (x ∷ text)
push-corrected x own text d c = record {
  front = x ∷ c.front;
  lone = c.lone;
  dot = c.dot;
  correction = c.correction;
  parts = ap (λ ls. x ∷ ls) c.parts;
  is = ap (λ ls. x ∷ ls) c.is;
  clear = (d, c.clear);
  is_lone = c.is_lone;
  ends = c.ends;
  corrects = c.corrects;
}

push-line : (turns : ℕ) (x : List ℕ) (own text others : List (List ℕ)) → is_dot x ≡ false → SpellsText turns own text others → SpellsText turns (x ∷ own) (x ∷ text) others
push-line zero x own text others d (inl e) = inl (record { dot = e.dot; parts = ap (λ ls. x ∷ ls) e.parts; clear = (d, e.clear); ends = e.ends })
push-line zero x own text others d (inr c) = inr (push-corrected x own text d c.0, c.1)
push-line (suc turns) x own text others d h = (x ∷ h.0, h.1, h.2, ap (λ ls. x ∷ ls) h.3, h.4, x ∷ h.5, h.6, ap (λ ls. x ∷ ls) h.7, push-corrected x h.0 h.5 d h.8, h.9)

dots-corrected : IsCorrected (codes "..\n" ∷ codes ".\n" ∷ codes "s/.//\n" ∷ []) (codes ".\n" ∷ [])
unfolding after
dots-corrected = record { front = []; lone = codes ".\n"; dot = codes ".\n"; correction = codes "s/.//\n"; parts = refl; is = refl; clear = tt; is_lone = refl; ends = refl; corrects = refl }

dot-ends : is_dot (codes ".\n") ≡ true
unfolding after
dot-ends = refl

appends : is_append (codes "a\n") ≡ true
unfolding after
appends = refl

abbrev Spelled : List (List ℕ) → List (List ℕ) → List (List ℕ) → Type 0
Spelled own text others = (turns : ℕ) × SpellsText turns own text others

last-spelled : (line : List ℕ) (others : List (List ℕ)) → IsLine line → begins_append others ≡ false → Spelled (text_rows (line ∷ [])) (line ∷ []) others
last-spelled line others is quiet = by (is_dot line) refl
  where
    by : (v : Bool) → is_dot line ≡ v → Spelled (cond v (codes "..\n" ∷ codes ".\n" ∷ codes "s/.//\n" ∷ []) (line ∷ codes ".\n" ∷ []) ++ []) (line ∷ []) others
    by true d = (zero, subst (λ (l : List ℕ). SpellsText zero (codes "..\n" ∷ codes ".\n" ∷ codes "s/.//\n" ∷ []) (l ∷ []) others) (sym (dot-is line d is)) (inr (dots-corrected, quiet)))
    by false d = (zero, inl (record { dot = codes ".\n"; parts = refl; clear = (d, tt); ends = dot-ends }))

next-spelled : (line next : List ℕ) (more others : List (List ℕ)) → IsLine line → Spelled (text_rows (next ∷ more)) (next ∷ more) others → Spelled (text_rows (line ∷ next ∷ more)) (line ∷ next ∷ more) others
next-spelled line next more others is again = by (is_dot line) refl
  where
    by : (v : Bool) → is_dot line ≡ v → Spelled (cond v (codes "..\n" ∷ codes ".\n" ∷ codes "s/.//\n" ∷ codes "a\n" ∷ []) (line ∷ []) ++ text_rows (next ∷ more)) (line ∷ next ∷ more) others
    by true d = (
      suc again.0,
      subst (λ (l : List ℕ). SpellsText (suc again.0) (codes "..\n" ∷ codes ".\n" ∷ codes "s/.//\n" ∷ codes "a\n" ∷ text_rows (next ∷ more)) (l ∷ next ∷ more) others) (sym (dot-is line d is))
          (codes "..\n" ∷ codes ".\n" ∷ codes "s/.//\n" ∷ [], codes "a\n", text_rows (next ∷ more), refl, appends, codes ".\n" ∷ [], next ∷ more, refl, dots-corrected, again.1),
    )
    by false d = (again.0, push-line again.0 line (text_rows (next ∷ more)) (next ∷ more) others d again.1)

text-spelled : (line : List ℕ) (more others : List (List ℕ)) → IsLine line → AllByRecursion IsLine more → begins_append others ≡ false → Spelled (text_rows (line ∷ more)) (line ∷ more) others
text-spelled line [] others is all quiet = last-spelled line others is quiet
text-spelled line (next ∷ more) others is all quiet = next-spelled line next more others is (text-spelled next more others all.0 all.1 quiet)

-- ---- the head
-- an added text, or none
pub added-spelled : (drops : ℕ) (added others : List (List ℕ)) → 1 ≤ drops + length added → AllByRecursion IsLine added → begins_append others ≡ false → SpellsAdded (action_for drops (length added)) (text_rows added) added others
added-spelled zero [] others some all quiet = absurd (omega (arith, some))
added-spelled zero (line ∷ more) others some all quiet = text-spelled line more others all.0 all.1 quiet
added-spelled (suc d) [] others some all quiet = subst (λ (a : Action). SpellsAdded a [] [] others) (sym (deletes d)) (refl, refl)
added-spelled (suc d) (line ∷ more) others some all quiet = subst (λ (a : Action). SpellsAdded a (text_rows (line ∷ more)) (line ∷ more) others) (sym (changes d (length more))) (text-spelled line more others all.0 all.1 quiet)

range-spelled : (start count : ℕ) → 1 ≤ count → (single : Bool) × SpellsRange (span_text start count) single start (start + count - 1)
range-spelled start count some = by (nat_lt 1 count) refl
  where
    by : (v : Bool) → nat_lt 1 count ≡ v → (single : Bool) × SpellsRange (cond v (decimal start ++ 44 ∷ decimal (start + count - 1)) (decimal start)) single start (start + count - 1)
    by true is = (false, (decimal start, decimal (start + count - 1), decimal-numeral start, decimal-numeral (start + count - 1), refl))
    by false is = let one : count ≤ 1 = grind (arith, nat_tests) in (true, (omega (arith, one, some), decimal-numeral start))

-- a head with these addresses
abbrev head_with : List ℕ → Action → List ℕ
head_with text action = (text ++ letter action ∷ []) ++ 10 ∷ []

command-with : (text : List ℕ) (action : Action) (first last : ℕ) → SpellsAddresses action text first last → first < 2 ^ 32 → last < 2 ^ 32 → SpellsCommand (head_with text action) action first last
command-with text action first last a small small_last = record { text = text; rest = 10 ∷ []; parts = append_assoc text (letter action ∷ []) (10 ∷ []); ends = refl; addresses = a; small = small; small_last = small_last }

start-some : (first d : ℕ) → range_start first (suc d) ≡ first
start-some first d = rw (some-not d) refl

pub head-spelled : (first drops adds : ℕ) → 1 ≤ first → 1 ≤ drops + adds → first < 2 ^ 32 → first + drops - 1 < 2 ^ 32 → SpellsCommand (ed_head first drops adds) (action_for drops adds) first (first + drops - 1)
head-spelled first zero zero low some small last = absurd (omega (arith, some))
head-spelled first zero (suc a) low some small last =
    let same : first - 1 ≡ first + 0 - 1 = omega arith in
    command-with (decimal (first - 1)) Add first (first + 0 - 1) (subst (IsNumeral (decimal (first - 1))) same (decimal-numeral (first - 1)), omega (arith, low)) small last
head-spelled first (suc d) zero low some small last =
    let r = range-spelled first (suc d) (omega arith) in
    let text : List ℕ = span_text (range_start first (suc d)) (suc d) in
    let spelled : SpellsRange text r.0 first (first + suc d - 1) = subst (λ s. SpellsRange (span_text s (suc d)) r.0 first (first + suc d - 1)) (sym (start-some first d)) r.1 in
    subst (λ (a : Action). SpellsCommand (head_with text a) a first (first + suc d - 1)) (sym (deletes d)) (command-with text Delete first (first + suc d - 1) (r.0, spelled, low, omega arith) small last)
head-spelled first (suc d) (suc a) low some small last =
    let r = range-spelled first (suc d) (omega arith) in
    let text : List ℕ = span_text (range_start first (suc d)) (suc d) in
    let spelled : SpellsRange text r.0 first (first + suc d - 1) = subst (λ s. SpellsRange (span_text s (suc d)) r.0 first (first + suc d - 1)) (sym (start-some first d)) r.1 in
    subst (λ (k : Action). SpellsCommand (head_with text k) k first (first + suc d - 1)) (sym (changes d a)) (command-with text Change first (first + suc d - 1) (r.0, spelled, low, omega arith) small last)

decimal-clean : (n : ℕ) → NoFeed (decimal n)
decimal-clean n = no-feed (decimal n) (decimal-numeral n).digits

span-clean : (start count : ℕ) → NoFeed (span_text start count)
span-clean start count = by (nat_lt 1 count)
  where
    by : (v : Bool) → NoFeed (cond v (decimal start ++ 44 ∷ decimal (start + count - 1)) (decimal start))
    by true = no-feed-both (decimal start) (44 ∷ decimal (start + count - 1)) (decimal-clean start) ((λ e. cc), decimal-clean (start + count - 1))
    by false = decimal-clean start

pub head-line : (first drops adds : ℕ) → IsLine (ed_head first drops adds)
head-line first drops adds = closes (span_text (range_start first drops) drops ++ letter (action_for drops adds) ∷ []) (no-feed-both (span_text (range_start first drops) drops) (letter (action_for drops adds) ∷ []) (span-clean (range_start first drops) drops) (letter-clean (action_for drops adds), tt))

-- a command is no line 'a'
pub command-appends : (line : List ℕ) → is_command line ≡ true → is_append line ≡ false
unfolding parts_at range_at after
command-appends [] e = refl
command-appends (b ∷ bytes) e =
    elim (chosen (eqb b 97) true false _ refl) [
      | inl letter ↦ absurd (let is : b ≡ 97 = eqb-true b 97 letter.0 in let bad : is_command (97 ∷ bytes) ≡ true = subst (λ k. is_command (k ∷ bytes) ≡ true) is e in cc)
      | inr other ↦ rw other.0 refl
    ]
