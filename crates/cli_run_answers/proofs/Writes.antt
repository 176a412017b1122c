-- Writes in parts, as the calls of `put_all` give them.
use Rattle.std.proofs.Common.{◌≡◌, ℕ, List, [], ◌∷◌, ◌++◌, codes, map, string_bytes, Bool, true, false, if◌then◌else◌, Option, None, Some, refl, ◌∙◌, Result, Ok, Err, sym, ap}
use Rattle.std.specs.List.{slice_get}
use Rattle.std.specs.declared.string.String.{String}
use Rattle.std.proofs.lemmas.Option.{same_Some}
use Rattle.num_text.specs.Numbers.{decimal}
use Rattle.outside.specs.SinkView.{SinkView, ReceivesPart, Writes}
use Rattle.outside.proofs.Writing.{received_part, writes_is, writes_none}
use Rattle.cli_run_answers.specs.declared.why.Why.{Why}
use Rattle.cli_run_answers.specs.Answers.{is_ended}
use Rattle.cli_run_answers.specs.Reasons.{decimal_if, refusal_line, tool_of, reason_of}

-- the line of an answer that has one
abbrev pub whole_line : List ℕ → Why → List ℕ
whole_line tool why = tool ++ (codes ": **** " ++ (reason_of why ++ 10 ∷ []))

-- no line where every file patch had its turn
pub no_line : {R E : Type 0} (a : SinkView) (x : R) (words : List (List ℕ)) (why : Why) → is_ended why ≡ true → Writes {E = E} a a (Ok x) (refusal_line words why)
no_line a x words why is = writes_is (Ok x) (refusal_line words why) (writes_none a x) (ap (λ (b : Bool). if b then [] else whole_line (tool_of words) why) (sym is))

-- the same after a first part whose bytes are the tool's name
pub behind_tool : {R E : Type 0} {a b : SinkView} (r : Result R E) (words : List (List ℕ)) (why : Why) (tool : List ℕ) → tool ≡ tool_of words → is_ended why ≡ false
    → Writes a b r (whole_line tool why) → Writes a b r (refusal_line words why)
behind_tool {a = a} {b = b} r words why tool is not_ended w =
    writes_is r (refusal_line words why) w
    (ap (λ t. whole_line t why) is ∙ ap (λ (b : Bool). if b then [] else whole_line (tool_of words) why) (sym not_ended))

-- the first word decides on the tool
pub tool_of-first : {Z : Type 0} (words : List (String Z)) (tool : String Z) (text result : List ℕ) → Some tool ≡ slice_get words 0 → text ≡ string_bytes tool → result ≡ tool_of (text ∷ []) → result ≡ tool_of (map string_bytes words)
tool_of-first [] tool text result first is given = absurd (cc)
tool_of-first (word ∷ words) tool text result first is given = given ∙ ap (λ t. tool_of (t ∷ [])) (is ∙ ap string_bytes (same_Some _ _ first))

pub tool_of-none : {Z : Type 0} (words : List (String Z)) → None ≡ slice_get words 0 → codes "patchkit" ≡ tool_of (map string_bytes words)
tool_of-none [] none = refl
tool_of-none (word ∷ words) none = absurd cc

-- the digits of a number, where there is one
pub decimal-put : {R E : Type 0} {a b : SinkView} (r : Result R E) (value : Option ℕ) (n : ℕ) (digits : List ℕ) → value ≡ Some n → digits ≡ decimal n → Writes a b r digits → Writes a b r (decimal_if value)
decimal-put r value n digits some is w = writes_is r (decimal_if value) w (is ∙ ap decimal_if (sym some))

-- however the writing ended, it left a first part
pub writes_part : {R E : Type 0} (a b : SinkView) (s : Result R E) (p : List ℕ) → Writes a b s p → ReceivesPart a b p
writes_part a b (Ok r) p w = received_part a b p w.received
writes_part a b (Err e) p w = w.failed
