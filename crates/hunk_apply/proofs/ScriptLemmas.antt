-- One walk over an ed script makes what its commands make one after another.
use Rattle.std.proofs.Common.{◌≡◌, ℕ, zero, suc, ◌+◌, ◌-◌, ◌<◌, ◌≤◌, ◌||◌, List, [], ◌∷◌, ◌++◌, length, get_or, set, take, drop, Bool, true, false, cond, refl, sym, ap, subst, ◌∙◌, arith, append_assoc}
use Rattle.std.specs.Prelude.{nat_lt}
use Rattle.std.specs.List.{AllByRecursion, slice_range, list_any}
use Rattle.std.proofs.lemmas.Bool.Decides.{nat_tests}
use Rattle.std.proofs.lemmas.List.{take-take, take-append-le, drop-append-le, length-take-le, length-append, take_more, take_all, drop_all, take-append-drop, map-append, append-nil}
use Rattle.std.proofs.lemmas.List.Folds.{drop_split}
use Rattle.std.proofs.lemmas.Slice.{between_is, between_from_start}
use Rattle.line_list.specs.declared.Span.{Span}
use Rattle.hunk_core.specs.PlainHunk.{bytes_at}
use Rattle.hunk_core.specs.declared.Verdict.{Verdict}
use Rattle.ed_form.specs.declared.script.EdEdit.{EdEdit}
use Rattle.ed_form.specs.PlainEdit.{PlainEdit, IsLawfulEdit, AreLawful, lowest, lines_of, edit_of, edits_of}
use Rattle.hunk_apply.specs.Script.{edited, scripted, reaches_behind, script_lines}
use Rattle.hunk_apply.specs.Written.{lines_between}

-- no edit begins before line q
abbrev pub BeginFrom : ℕ → List PlainEdit → Type 0
BeginFrom q es = AllByRecursion (λ e. q ≤ e.first) es

-- no address is above n
abbrev pub EndWithin : ℕ → List PlainEdit → Type 0
EndWithin n es = AllByRecursion (λ e. e.last ≤ n) es

-- no last address reaches b
abbrev EndBelow : ℕ → List PlainEdit → Type 0
EndBelow b es = AllByRecursion (λ e. e.last < b) es

below-more : (a b : ℕ) (es : List PlainEdit) → a ≤ b → EndBelow a es → EndBelow b es
below-more a b [] le h = tt
below-more a b (e ∷ es) le h = let here : e.last < a = h.0 in (omega arith, below-more a b es le h.1)

below-within : (b n : ℕ) (es : List PlainEdit) → b ≤ n + 1 → EndBelow b es → EndWithin n es
below-within b n [] le h = tt
below-within b n (e ∷ es) le h = let here : e.last < b = h.0 in (omega arith, below-within b n es le h.1)

ends-below : (b : ℕ) (es : List PlainEdit) → AreLawful b es → EndBelow b es
ends-below b [] h = tt
ends-below b (e ∷ es) h =
    let last : e.last < b = h.1 in
    (last, below-more (lowest e) b es (omega arith) (ends-below (lowest e) es h.2))

pub ends-within : (n : ℕ) (es : List PlainEdit) → reaches_behind n es ≡ false → EndWithin n es
ends-within n [] h = tt
ends-within n (e ∷ es) h = by (λ f. ends-within n es f) (nat_lt n e.last) refl h
  where
    by : (reaches_behind n es ≡ false → EndWithin n es) → (b : Bool) → nat_lt n e.last ≡ b → (b || reaches_behind n es) ≡ false → (e.last ≤ n) × EndWithin n es
    by more true t f = absurd (cc)
    by more false t f = (grind (arith, nat_tests), more f)

-- the lines in front of all edits stay
front-stays : (m b : ℕ) (lines : List (List ℕ)) (es : List PlainEdit) → AreLawful b es → EndWithin (length lines) es → BeginFrom (m + 1) es → take m (scripted lines es) ≡ take m lines
unfolding scripted
front-stays m b lines [] h w s = refl
front-stays m b lines (e ∷ es) h w s =
    let order : e.first ≤ e.last + 1 = h.0.order in
    let last : e.last ≤ length lines = w.0 in
    let first : m + 1 ≤ e.first = s.0 in
    let long : length (take (e.first - 1) lines) ≡ e.first - 1 = length-take-le (e.first - 1) lines (omega arith) in
    let all : length (edited lines e) ≡ length (take (e.first - 1) lines) + length (e.added ++ drop e.last lines) = length-append (take (e.first - 1) lines) (e.added ++ drop e.last lines) in
    front-stays m (lowest e) (edited lines e) es h.2 (below-within (lowest e) (length (edited lines e)) es (omega arith) (ends-below (lowest e) es h.2)) s.1
    ∙ take-append-le m (take (e.first - 1) lines) (e.added ++ drop e.last lines) (omega arith)
    ∙ take-take m (e.first - 1) lines (omega arith)

scripted-last : (lines : List (List ℕ)) (es : List PlainEdit) (e : PlainEdit) → scripted lines (es ++ e ∷ []) ≡ edited (scripted lines es) e
unfolding scripted
scripted-last lines [] e = refl
scripted-last lines (d ∷ es) e = scripted-last (edited lines d) es e

pub scripted-none : (lines : List (List ℕ)) → scripted lines [] ≡ lines
unfolding scripted
scripted-none lines = refl

-- the last edit of a list that is lawful
pub last-lawful : (b : ℕ) (es : List PlainEdit) (e : PlainEdit) → AreLawful b (es ++ e ∷ []) → IsLawfulEdit e
last-lawful b [] e h = h.0
last-lawful b (d ∷ es) e h = last-lawful (lowest d) es e h.2

last-below : (b : ℕ) (es : List PlainEdit) (e : PlainEdit) → AreLawful b (es ++ e ∷ []) → e.last < b
last-below b [] e h = h.1
last-below b (d ∷ es) e h =
    let here : d.last < b = h.1 in
    let there : e.last < lowest d = last-below (lowest d) es e h.2 in
    omega arith

pub last-within : (n : ℕ) (es : List PlainEdit) (e : PlainEdit) → EndWithin n (es ++ e ∷ []) → e.last ≤ n
last-within n [] e h = h.0
last-within n (d ∷ es) e h = last-within n es e h.1

pub last-begins : (q : ℕ) (es : List PlainEdit) (e : PlainEdit) → BeginFrom q (es ++ e ∷ []) → q ≤ e.first
last-begins q [] e h = h.0
last-begins q (d ∷ es) e h = last-begins q es e h.1

-- the edits before it in the script stand behind it in the file
pub others-begin : (b : ℕ) (es : List PlainEdit) (e : PlainEdit) → AreLawful b (es ++ e ∷ []) → BeginFrom (e.last + 1) es
others-begin b [] e h = tt
others-begin b (d ∷ es) e h =
    let there : e.last < lowest d = last-below (lowest d) es e h.2 in
    (omega arith, others-begin (lowest d) es e h.2)

pub others-lawful : (b : ℕ) (es : List PlainEdit) (e : PlainEdit) → AreLawful b (es ++ e ∷ []) → AreLawful b es
others-lawful b [] e h = tt
others-lawful b (d ∷ es) e h = (h.0, h.1, others-lawful (lowest d) es e h.2)

pub others-within : (n : ℕ) (es : List PlainEdit) (e : PlainEdit) → EndWithin n (es ++ e ∷ []) → EndWithin n es
others-within n [] e h = tt
others-within n (d ∷ es) e h = (h.0, others-within n es e h.1)

-- from line q on: the lines up to the last edit of the list, what it adds, and what the others leave behind it
pub edit-ahead : (b q : ℕ) (lines : List (List ℕ)) (es : List PlainEdit) (e : PlainEdit) → AreLawful b (es ++ e ∷ []) → EndWithin (length lines) (es ++ e ∷ []) → 1 ≤ q → q ≤ e.first
    → drop (q - 1) (scripted lines (es ++ e ∷ [])) ≡ lines_between lines q e.first ++ (e.added ++ drop e.last (scripted lines es))
edit-ahead b q lines es e h w low le =
    let order : e.first ≤ e.last + 1 = (last-lawful b es e h).order in
    let last : e.last ≤ length lines = last-within (length lines) es e w in
    let long : length (take (e.first - 1) lines) ≡ e.first - 1 = length-take-le (e.first - 1) lines (omega arith) in
    let rest : List (List ℕ) = e.added ++ drop e.last (scripted lines es) in
    let same : take (e.first - 1) (scripted lines es) ≡ take (e.first - 1) lines =
    front-stays (e.first - 1) b lines es (others-lawful b es e h) (others-within (length lines) es e w) (sooner-begin (e.first - 1 + 1) (e.last + 1) es (omega arith) (others-begin b es e h)) in
    ap (drop (q - 1)) (scripted-last lines es e)
    ∙ ap (λ t. drop (q - 1) (t ++ (e.added ++ drop e.last (scripted lines es)))) same
    ∙ drop-append-le (q - 1) (take (e.first - 1) lines) (e.added ++ drop e.last (scripted lines es)) (omega arith)
    ∙ ap (λ t. t ++ (e.added ++ drop e.last (scripted lines es))) (sym (between_is lines (q - 1) (e.first - 1)))
  where
    sooner-begin : (p q : ℕ) (es : List PlainEdit) → p ≤ q → BeginFrom q es → BeginFrom p es
    sooner-begin p q [] le h = tt
    sooner-begin p q (e ∷ es) le h = let here : q ≤ e.first = h.0 in (omega arith, sooner-begin p q es le h.1)

pub begin-first : (b : ℕ) (es : List PlainEdit) → AreLawful b es → BeginFrom 1 es
begin-first b [] h = tt
begin-first b (e ∷ es) h = (h.0.start, begin-first (lowest e) es h.2)

take-lawful : (text : List ℕ) (items : List EdEdit) (k b : ℕ) → AreLawful b (edits_of text items) → AreLawful b (edits_of text (take k items))
take-lawful text items zero b h = tt
take-lawful text [] (suc k) b h = tt
take-lawful text (e ∷ es) (suc k) b h = (h.0, h.1, take-lawful text es k (lowest (edit_of text e)) h.2)

take-within : (text : List ℕ) (items : List EdEdit) (k n : ℕ) → EndWithin n (edits_of text items) → EndWithin n (edits_of text (take k items))
take-within text items zero n h = tt
take-within text [] (suc k) n h = tt
take-within text (e ∷ es) (suc k) n h = (h.0, take-within text es k n h.1)

edits-more : (text : List ℕ) (items : List EdEdit) (k : ℕ) (e : EdEdit) → k < length items → e ≡ get_or items k e → edits_of text (take (k + 1) items) ≡ edits_of text (take k items) ++ edit_of text e ∷ []
edits-more text items k e lt is =
    ap (edits_of text) (take_more items k e lt)
    ∙ map-append (edit_of text) (take k items) (get_or items k e ∷ [])
    ∙ ap (λ x. edits_of text (take k items) ++ edit_of text x ∷ []) (sym is)

pub begin-all : (text : List ℕ) (items : List EdEdit) (j b : ℕ) → AreLawful b (edits_of text items) → BeginFrom 1 (edits_of text (take j items))
begin-all text items j b h = begin-first b (edits_of text (take j items)) (take-lawful text items j b h)

pub scripted-all : (text : List ℕ) (lines : List (List ℕ)) (items : List EdEdit) (j : ℕ) → length items ≤ j → scripted lines (edits_of text items) ≡ drop (1 - 1) (scripted lines (edits_of text (take j items)))
scripted-all text lines items j le = ap (λ es. scripted lines (edits_of text es)) (sym (take_all j items le))

-- behind all edits the lines are left
pub lines-left : (text : List ℕ) (lines : List (List ℕ)) (items : List EdEdit) (j q n : ℕ) → j ≤ 0 → q ≤ n + 1 → n ≡ length lines → lines_between lines q (n + 1) ++ [] ≡ drop (q - 1) (scripted lines (edits_of text (take j items)))
lines-left text lines items j q n first le is =
    let end : (n + 1) - 1 ≡ length lines = omega arith in
    let start : 0 ≡ j = omega arith in
    let none : drop (length lines) lines ≡ [] = drop_all (length lines) lines (omega arith) in
    ap (λ m. slice_range lines (q - 1) m ++ []) end
    ∙ ap (λ r. slice_range lines (q - 1) (length lines) ++ r) (sym none)
    ∙ sym (drop_split lines (q - 1) (length lines) (omega arith))
    ∙ ap (drop (q - 1)) (sym (scripted-none lines))
    ∙ ap (λ k. drop (q - 1) (scripted lines (edits_of text (take k items)))) start

-- of j edits that are to come the walk takes the last, edit k
module _ (text : List ℕ) (items : List EdEdit) (b j k : ℕ) (e : EdEdit) (lawful : AreLawful b (edits_of text items)) (lt : k < length items) (is : e ≡ get_or items k e) (last : j ≡ k + 1) where
  split : edits_of text (take j items) ≡ edits_of text (take k items) ++ edit_of text e ∷ []
  split = ap (λ n. edits_of text (take n items)) last ∙ edits-more text items k e lt is

  split-lawful : AreLawful b (edits_of text (take k items) ++ edit_of text e ∷ [])
  split-lawful = subst (AreLawful b) split (take-lawful text items j b lawful)

  split-within : (n : ℕ) → EndWithin n (edits_of text items) → EndWithin n (edits_of text (take k items) ++ edit_of text e ∷ [])
  split-within n w = subst (EndWithin n) split (take-within text items j n w)

  pub edit-begins : (q : ℕ) → BeginFrom q (edits_of text (take j items)) → q ≤ e.first
  edit-begins q h = last-begins q (edits_of text (take k items)) (edit_of text e) (subst (BeginFrom q) split h)

  pub edit-order : e.first ≤ e.last + 1
  edit-order = (last-lawful b (edits_of text (take k items)) (edit_of text e) split-lawful).order

  pub edit-within : (n : ℕ) → EndWithin n (edits_of text items) → e.last ≤ n
  edit-within n w = last-within n (edits_of text (take k items)) (edit_of text e) (split-within n w)

  pub next-begin : BeginFrom (e.last + 1) (edits_of text (take k items))
  next-begin = others-begin b (edits_of text (take k items)) (edit_of text e) split-lawful

  pub edit-left : (q : ℕ) (lines : List (List ℕ)) → EndWithin (length lines) (edits_of text items) → 1 ≤ q → BeginFrom q (edits_of text (take j items))
      → lines_between lines q e.first ++ (lines_of text e.added.items ++ drop e.last (scripted lines (edits_of text (take k items)))) ≡ drop (q - 1) (scripted lines (edits_of text (take j items)))
  edit-left q lines w low h =
      sym (ap (λ es. drop (q - 1) (scripted lines es)) split
      ∙ edit-ahead b q lines (edits_of text (take k items)) (edit_of text e) split-lawful (split-within (length lines) w) low (edit-begins q h))

-- the lines that an edit adds, one more
pub added-more : (text : List ℕ) (spans : List Span) (k : ℕ) (span : Span) (more : List (List ℕ)) → k < length spans → span ≡ get_or spans k span
    → lines_of text (take k spans) ++ (bytes_at text span ∷ more) ≡ lines_of text (take (k + 1) spans) ++ more
added-more text spans k span more lt is =
    sym (append_assoc (lines_of text (take k spans)) (bytes_at text span ∷ []) more)
    ∙ ap (λ x. (lines_of text (take k spans) ++ bytes_at text x ∷ []) ++ more) is
    ∙ ap (λ r. r ++ more) (sym (map-append (bytes_at text) (take k spans) (get_or spans k span ∷ [])))
    ∙ ap (λ ss. lines_of text ss ++ more) (sym (take_more spans k span lt))

pub added-split : (text : List ℕ) (spans : List Span) (k : ℕ) (span : Span) (more : List (List ℕ)) → k < length spans → span ≡ get_or spans k span
    → lines_of text (take k spans) ++ (bytes_at text span ∷ (lines_of text (drop (k + 1) spans) ++ more)) ≡ lines_of text spans ++ more
added-split text spans k span more lt is =
    added-more text spans k span (lines_of text (drop (k + 1) spans) ++ more) lt is
    ∙ sym (append_assoc (lines_of text (take (k + 1) spans)) (lines_of text (drop (k + 1) spans)) more)
    ∙ ap (λ r. r ++ more) (sym (map-append (bytes_at text) (take (k + 1) spans) (drop (k + 1) spans)))
    ∙ ap (λ ss. lines_of text ss ++ more) (take-append-drop (k + 1) spans)

pub added-all : (text : List ℕ) (spans : List Span) (k : ℕ) (more : List (List ℕ)) → length spans ≤ k → lines_of text (take k spans) ++ more ≡ lines_of text spans ++ more
added-all text spans k more le = ap (λ ss. lines_of text ss ++ more) (take_all k spans le)

-- what becomes of the lines where the script fails, and where it doesn't
pub stays-whole : (lines : List (List ℕ)) (es : List PlainEdit) (count : ℕ) (fails : Bool) → fails ≡ reaches_behind count es → count ≡ length lines → fails ≡ true → lines ≡ script_lines lines es
stays-whole lines es count fails is len t = ap (λ b. cond b lines (scripted lines es)) (sym t ∙ is ∙ ap (λ n. reaches_behind n es) len)

pub carried-out : (lines : List (List ℕ)) (es : List PlainEdit) (count : ℕ) (fails : Bool) → fails ≡ reaches_behind count es → count ≡ length lines → fails ≡ false → scripted lines es ≡ script_lines lines es
carried-out lines es count fails is len f = ap (λ b. cond b lines (scripted lines es)) (sym f ∙ is ∙ ap (λ n. reaches_behind n es) len)

-- all lines of a file
pub whole-between : (lines : List (List ℕ)) (n : ℕ) → n ≡ length lines → lines_between lines 1 (n + 1) ++ [] ≡ lines
whole-between lines n is =
    let end : (n + 1) - 1 ≡ length lines = omega arith in
    ap (λ m. slice_range lines (1 - 1) m ++ []) end
    ∙ ap (λ r. r ++ []) (between_from_start lines (length lines))
    ∙ append-nil (take (length lines) lines)
    ∙ take_all (length lines) lines (omega arith)

-- whether an address is too great doesn't depend on the text
pub behind-is : (text : List ℕ) (count : ℕ) (items : List EdEdit) → list_any (λ (e : EdEdit). nat_lt count e.last) items ≡ reaches_behind count (edits_of text items)
behind-is text count [] = refl
behind-is text count (e ∷ es) = ap (λ b. nat_lt count e.last || b) (behind-is text count es)

-- the one row of a script
pub one-row : (vs : List Verdict) (v : Verdict) → length vs ≡ 1 → set vs 0 v ≡ v ∷ []
one-row [] v e = absurd (omega arith)
one-row (x ∷ []) v e = refl
one-row (x ∷ y ∷ vs) v e = absurd (omega arith)
