-- The last line of a text, and the words that lines are.
use Rattle.std.proofs.Common.{◌≡◌, ℕ, suc, ◌+◌, ◌-◌, ◌<◌, ◌≤◌, true, List, [], ◌∷◌, ◌++◌, length, get_or, drop, slice_range, Option, None, Some, refl, sym, ap, ◌∙◌, arith}
use Rattle.std.proofs.lemmas.List.{map_push}
use Rattle.line_list.specs.declared.Span.{Span}
use Rattle.hunk_core.specs.LineTests.{after}
use Rattle.hunk_core.specs.PlainHunk.{bytes_at}
use Rattle.hunk_core.specs.Turned.{LiesIn}
use Rattle.hunk_core.proofs.TextLemmas.{after-takes, after-again, slice-first, slice-length}
use Rattle.hunk_core.specs.Letters.{is_line_end}
use Rattle.ed_form.specs.PlainEdit.{lines_of}
use Rattle.ed_form.specs.Texts.{is_over, is_word, is_double, ends_double, undoubled}

-- ---- words

pub word-takes : (word line : List ℕ) → is_word word line ≡ true → (rest : List ℕ) × (line ≡ word ++ rest) × (is_line_end rest ≡ true)
word-takes word line e = by (after word line) refl e
  where
    by : (o : Option (List ℕ)) → after word line ≡ o → is_over o ≡ true → (rest : List ℕ) × (line ≡ word ++ rest) × (is_line_end rest ≡ true)
    by None read h = absurd cc
    by (Some rest) read h = (rest, after-takes word line rest read, h)

pub word-again : (word rest : List ℕ) → is_line_end rest ≡ true → is_word word (word ++ rest) ≡ true
word-again word rest e = rw (after-again word rest) e

double-long : (line : List ℕ) → is_double line ≡ true → 2 ≤ length line
double-long line e = let t = word-takes (46 ∷ 46 ∷ []) line e in omega (arith, ap length t.1)

-- ---- the last of some lines

pub ends-push : (ls : List (List ℕ)) (line : List ℕ) → ends_double (ls ++ line ∷ []) ≡ is_double line
ends-push [] line = refl
ends-push (x ∷ []) line = refl
ends-push (x ∷ y ∷ ls) line = ends-push (y ∷ ls) line

pub undoubled-push : (ls : List (List ℕ)) (line : List ℕ) → undoubled (ls ++ line ∷ []) ≡ ls ++ drop 1 line ∷ []
undoubled-push [] line = refl
undoubled-push (x ∷ []) line = refl
undoubled-push (x ∷ y ∷ ls) line = ap (λ (m : List (List ℕ)). x ∷ m) (undoubled-push (y ∷ ls) line)

pub last-double : (text : List ℕ) (spans : List Span) (d : Span) → 0 < length spans → ends_double (lines_of text spans) ≡ is_double (bytes_at text (get_or spans (length spans - 1) d))
last-double text [] d lt = absurd (omega arith)
last-double text (s ∷ []) d lt = refl
last-double text (s ∷ t ∷ spans) d lt =
    let k : length (s ∷ t ∷ spans) - 1 ≡ suc (length (t ∷ spans) - 1) = omega arith in
    rw k (last-double text (t ∷ spans) d (omega arith))

-- ---- spans of the text
slice-rest : (text : List ℕ) (at end : ℕ) → at < end → end ≤ length text → slice_range text (at + 1) end ≡ drop 1 (slice_range text at end)
slice-rest text at end lt le = sym (ap (λ (bs : List ℕ). drop 1 bs) (slice-first text at end lt le))

-- the last span, whose line is '..', has two bytes or more
pub last-long : (text : List ℕ) (all spans : List Span) (s : Span) → all ≡ spans ++ s ∷ [] → LiesIn text s → ends_double (lines_of text all) ≡ true → s.start + 2 ≤ s.end
last-long text all spans s e lies double =
    let pushed : lines_of text all ≡ lines_of text spans ++ bytes_at text s ∷ [] = ap (lines_of text) e ∙ map_push _ spans s in
    let is : is_double (bytes_at text s) ≡ true = sym (ap ends_double pushed ∙ ends-push (lines_of text spans) (bytes_at text s)) ∙ double in
    let long = double-long (bytes_at text s) is in
    omega (arith, long, slice-length text s.start s.end lies.1, lies.0)

abbrev pub later : Span → Span
later s = record { start = s.start + 1; end = s.end }

pub corrects : (text : List ℕ) (all spans more : List Span) (s : Span) → all ≡ spans ++ s ∷ [] → more ≡ spans ++ later s ∷ [] → LiesIn text s → ends_double (lines_of text all) ≡ true → lines_of text more ≡ undoubled (lines_of text all)
corrects text all spans more s e f lies double =
    let long = last-long text all spans s e lies double in
    let one : lines_of text more ≡ lines_of text spans ++ drop 1 (bytes_at text s) ∷ [] = ap (lines_of text) f ∙ map_push _ spans (later s) ∙ ap (λ (l : List ℕ). lines_of text spans ++ l ∷ []) (slice-rest text s.start s.end (omega (arith, long)) lies.1) in
    let two : undoubled (lines_of text all) ≡ lines_of text spans ++ drop 1 (bytes_at text s) ∷ [] = ap undoubled (ap (lines_of text) e ∙ map_push _ spans s) ∙ undoubled-push (lines_of text spans) (bytes_at text s) in
    one ∙ sym two
