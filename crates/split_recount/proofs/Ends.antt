-- Where a body ends, line by line.
use Rattle.std.proofs.Common.{◌≡◌, ℕ, Bool, true, false, not, eqb, ◌||◌, List, [], ◌∷◌, Option, Some, None, Bor, refl, sym, ap, ◌∙◌}
use Rattle.std.specs.Prelude.{is_some, bytes_eq}
use Rattle.std.proofs.lemmas.Bool.{eqb-true}
use Rattle.line_list.specs.Reader.{Reads}
use Rattle.hunk_core.specs.LineTests.{after}
use Rattle.unified_form.specs.Ranges.{is_opening}
use Rattle.unified_form.proofs.Words.{opening-words}
use Rattle.split_recount.specs.Bodies.{is_body_line, is_signature, is_empty, begins_header, ends_body, body_of}
use Rattle.patch_header.proofs.Fronts.{and_left}

-- a test that rules out two others stands for both
five : (o s h e b : Bool) → (b ≡ true → o ≡ false) → (b ≡ true → e ≡ false) → (o || s || h || e || not b) ≡ (not b || s || h)
five true s h e true p q = let x = p refl in absurd cc
five false s h true true p q = let x = q refl in absurd cc
five false true h false true p q = refl
five false false true false true p q = refl
five false false false false true p q = refl
five true s h e false p q = refl
five false true h e false p q = refl
five false false true e false p q = refl
five false false false true false p q = refl
five false false false false false p q = refl

at-first : (rest : List ℕ) → is_body_line (64 ∷ rest) ≡ false
unfolding after
at-first rest = refl

pub opens_other : (line : List ℕ) → is_body_line line ≡ true → is_opening line ≡ false
opens_other line body = by (is_opening line) refl
  where
    by : (v : Bool) → is_opening line ≡ v → v ≡ false
    by false e = refl
    by true e =
        let words = opening-words line in
        let w = words.0 e in
        let no : is_body_line line ≡ false = ap is_body_line w.2 ∙ at-first (64 ∷ 32 ∷ 45 ∷ w.0 ∷ w.1) in
        absurd cc

empty_other : (line : List ℕ) → is_body_line line ≡ true → is_empty line ≡ false
unfolding after
empty_other [] body = absurd cc
empty_other (b ∷ bytes) body = by (is_empty (b ∷ bytes)) refl
  where
    by : (v : Bool) → is_empty (b ∷ bytes) ≡ v → v ≡ false
    by false e = refl
    by true e =
        let first : b ≡ 10 = eqb-true b 10 (and_left (eqb b 10) _ e) in
        let no : is_body_line (b ∷ bytes) ≡ false = rw first refl in
        absurd cc

pub ends_so : (line : List ℕ) (rest : List (List ℕ)) → ends_body line rest ≡ (not (is_body_line line) || is_signature line || begins_header line rest)
unfolding ends_body
ends_so line rest = five (is_opening line) (is_signature line) (begins_header line rest) (is_empty line) (is_body_line line) (opens_other line) (empty_other line)

pub body_none : (ls : List (List ℕ)) → ls ≡ [] → body_of ls ≡ []
unfolding body_of
body_none ls e = rw e refl

pub body_ends : (ls : List (List ℕ)) (line : List ℕ) (rest : List (List ℕ)) → ls ≡ line ∷ rest → ends_body line rest ≡ true → body_of ls ≡ []
unfolding body_of
body_ends ls line rest e ends = rw (e, ends) refl

pub body_more : (ls : List (List ℕ)) (line : List ℕ) (rest : List (List ℕ)) → ls ≡ line ∷ rest → ends_body line rest ≡ false → body_of ls ≡ line ∷ body_of rest
unfolding body_of
body_more ls line rest e goes = rw (e, goes) refl

no-end : (a b d : Bool) → (not a || b || d) ≡ false → a ≡ true
no-end true b d e = refl
no-end false b d e = absurd cc

-- what a body goes on over begins as the lines of a body do
pub goes_body : (line : List ℕ) (rest : List (List ℕ)) → ends_body line rest ≡ false → is_body_line line ≡ true
goes_body line rest e = no-end (is_body_line line) (is_signature line) (begins_header line rest) (sym (ends_so line rest) ∙ e)

header-alone : (b s h : Bool) → true ≡ b → false ≡ s → (not b || s || h) ≡ h
header-alone b s h p q = rw (sym p, sym q) refl

signed-alone : (b s h : Bool) → true ≡ b → true ≡ s → true ≡ (not b || s || h)
signed-alone b s h p q = rw (sym p, sym q) refl

other-alone : (b s h : Bool) → false ≡ b → true ≡ (not b || s || h)
other-alone b s h p = rw (sym p) refl

module _ (line : List ℕ) (rest : List (List ℕ)) where
  pub ends-header : (found : Bool) (word : List ℕ) → true ≡ is_body_line line → word ≡ 45 ∷ 45 ∷ 32 ∷ 10 ∷ [] → false ≡ bytes_eq line word → found ≡ begins_header line rest → found ≡ ends_body line rest
  ends-header found word body w signed e =
      e ∙ sym (ends_so line rest ∙ header-alone (is_body_line line) (is_signature line) (begins_header line rest) body (signed ∙ ap (bytes_eq line) w))

  pub ends-signed : (word : List ℕ) → true ≡ is_body_line line → word ≡ 45 ∷ 45 ∷ 32 ∷ 10 ∷ [] → true ≡ bytes_eq line word → true ≡ ends_body line rest
  ends-signed word body w signed =
      signed-alone (is_body_line line) (is_signature line) (begins_header line rest) body (signed ∙ ap (bytes_eq line) w) ∙ sym (ends_so line rest)

  pub ends-other : false ≡ is_body_line line → true ≡ ends_body line rest
  ends-other body = other-alone (is_body_line line) (is_signature line) (begins_header line rest) body ∙ sym (ends_so line rest)

-- ---- the lines of a header

abbrev dashes : List ℕ
dashes = 45 ∷ 45 ∷ 45 ∷ 32 ∷ []

abbrev pluses : List ℕ
pluses = 43 ∷ 43 ∷ 43 ∷ 32 ∷ []

found-if : (r : Option (Bor (List ℕ))) (o : Option (List ℕ)) → Reads (λ x. x.now) r o → is_some o ≡ is_some r
found-if (Some x) o e = ap is_some e
found-if None o e = ap is_some e

module _ (line : List ℕ) (ls : List (List ℕ)) (dash : Option (Bor (List ℕ))) (first : Reads (λ x. x.now) dash (after dashes line)) where
  pub header-none : is_some dash ≡ false → false ≡ begins_header line ls
  header-none e = by ls
    where
      by : (rest : List (List ℕ)) → false ≡ begins_header line rest
      by [] = refl
      by (next ∷ rest) = rw (found-if dash (after dashes line) first ∙ e) refl

  pub header-two : (next : List ℕ) (rest : List (List ℕ)) (plus : Option (Bor (List ℕ))) (found : Bool) → is_some dash ≡ true → ls ≡ next ∷ rest → Reads (λ x. x.now) plus (after pluses next) → found ≡ is_some plus → found ≡ begins_header line ls
  header-two next rest plus found e ahead second is = rw (ahead, found-if dash (after dashes line) first ∙ e, found-if plus (after pluses next) second) is

pub header-last : (line : List ℕ) (ls : List (List ℕ)) → ls ≡ [] → false ≡ begins_header line ls
header-last line ls e = rw e refl
