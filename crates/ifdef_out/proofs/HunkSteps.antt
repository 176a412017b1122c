-- A walk over the edits of hunks.
use Rattle.std.proofs.Common.{◌≡◌, ℕ, zero, suc, ◌+◌, ◌<◌, ◌≤◌, ◌^◌, List, [], ◌∷◌, ◌++◌, length, get_or, drop, cond, refl, sym, ap, subst, ◌∙◌, arith}
use Rattle.std.specs.Prelude.{ℤ}
use Rattle.std.specs.List.{All}
use Rattle.std.proofs.lemmas.List.{at_drop_more, drop_all}
use Rattle.hunk_core.specs.declared.Side.{Side}
use Rattle.hunk_core.specs.declared.Side.TheVariants.{Forward, Reversed}
use Rattle.hunk_core.specs.declared.Mark.{Mark}
use Rattle.hunk_core.specs.declared.Mark.TheVariants.{Keep, Drop, Add}
use Rattle.hunk_core.specs.declared.Hunk.{Hunk}
use Rattle.hunk_core.specs.declared.HunkLine.{HunkLine}
use Rattle.hunk_core.specs.declared.Verdict.{Verdict}
use Rattle.hunk_core.specs.declared.Verdict.TheVariants.{Untried, Ignored, Nowhere, At}
use Rattle.hunk_core.specs.PlainHunk.{PlainHunk, bytes_at}
use Rattle.hunk_core.specs.Sides.{is_on_side}
use Rattle.hunk_core.specs.Turned.{IsLawful, LiesIn, taken_mark}
use Rattle.hunk_place.specs.Taken.{taken}
use Rattle.hunk_apply.specs.Applied.{taken_all}
use Rattle.hunk_apply.specs.Body.{side_body}
use Rattle.hunk_apply.specs.Splice.{Edit, body_edits, marked_edits}
use Rattle.hunk_apply.proofs.BodyLemmas.{body-is, edits-none, edits-next}
use Rattle.ifdef_out.specs.Placed.{verdict_edits, placed_edits}
use Rattle.ifdef_out.specs.Places.{hunks_left, hunks_at}

pub placed-nil : (vs : List Verdict) → placed_edits vs [] ≡ []
unfolding placed_edits
placed-nil [] = refl
placed-nil (v ∷ vs) = refl

pub placed-cons : (v : Verdict) (vs : List Verdict) (h : PlainHunk) (hs : List PlainHunk) → placed_edits (v ∷ vs) (h ∷ hs) ≡ verdict_edits v h ++ placed_edits vs hs
unfolding placed_edits
placed-cons v vs h hs = refl

-- a verdict without a place
pub no-edits : (v : Verdict) (h : PlainHunk) → ((line fuzz : ℕ) (offset : ℤ) → v ≡ At line fuzz offset → ⊥) → verdict_edits v h ≡ []
no-edits Untried h other = refl
no-edits Ignored h other = refl
no-edits Nowhere h other = refl
no-edits (At line fuzz offset) h other = absurd (other line fuzz offset refl)

-- how far a line of a hunk moves on in the old lines
abbrev pub counted : Mark → ℕ
counted Keep = 1
counted Drop = 1
counted Add = 0

pub on-side : (side : Side) (mark : Mark) → cond (is_on_side side mark) 1 0 ≡ counted (taken_mark side mark)
on-side Forward Keep = refl
on-side Forward Drop = refl
on-side Forward Add = refl
on-side Reversed Keep = refl
on-side Reversed Drop = refl
on-side Reversed Add = refl

pub stays : (n k : ℕ) → k ≡ 0 → n ≡ n + k
stays n k is = omega (arith, is)

pub moves : (n k : ℕ) → k ≡ 1 → n + 1 ≡ n + k
moves n k is = omega (arith, is)

module _ (text : List ℕ) (side : Side) (vs : List Verdict) (hs : List Hunk) (row : ℕ) where
  -- behind all hunks nothing is left
  pub none-ahead : (line next : ℕ) → length hs ≤ row → hunks_at text side vs hs row line next ≡ []
  none-ahead line next le = ap (λ xs. hunks_left text side line next xs (drop (row + 1) vs)) (drop_all row hs le)

  pub none-placed : length hs ≤ row → placed_edits (drop row vs) (taken_all text side (drop row hs)) ≡ []
  none-placed le = ap (λ xs. placed_edits (drop row vs) (taken_all text side xs)) (drop_all row hs le) ∙ placed-nil (drop row vs)

  -- the edits of the hunks behind this one
  abbrev pub later : List Edit
  later = placed_edits (drop (row + 1) vs) (taken_all text side (drop (row + 1) hs))

  -- a hunk, and those behind it
  pub hunk-ahead : (line next : ℕ) (h : Hunk) → row < length hs → h ≡ get_or hs row h → hunks_at text side vs hs row line next ≡ body_edits next (side_body text side (drop line h.body.items)) ++ later
  hunk-ahead line next h lt is =
      at_drop_more (λ xs. hunks_left text side line next xs (drop (row + 1) vs)) hs row h lt
      ∙ ap (λ x. hunks_left text side line next (x ∷ drop (row + 1) hs) (drop (row + 1) vs)) (sym is)

  pub hunk-placed : (v : Verdict) (d : Verdict) (h : Hunk) → row < length vs → row < length hs → get_or vs row d ≡ v → h ≡ get_or hs row h
      → placed_edits (drop row vs) (taken_all text side (drop row hs)) ≡ verdict_edits v (taken text side h) ++ later
  hunk-placed v d h some lt iv is =
      at_drop_more (λ xs. placed_edits (drop row vs) (taken_all text side xs)) hs row h lt
      ∙ ap (λ x. placed_edits (drop row vs) (taken_all text side (x ∷ drop (row + 1) hs))) (sym is)
      ∙ at_drop_more (λ xs. placed_edits xs (taken_all text side (h ∷ drop (row + 1) hs))) vs row d some
      ∙ ap (λ x. placed_edits (x ∷ drop (row + 1) vs) (taken_all text side (h ∷ drop (row + 1) hs))) iv
      ∙ placed-cons v (drop (row + 1) vs) (taken text side h) (taken_all text side (drop (row + 1) hs))

  -- a hunk that stands at a line
  pub starts-at : (line fuzz : ℕ) (offset : ℤ) (d : Verdict) (h : Hunk) → row < length vs → row < length hs → get_or vs row d ≡ At line fuzz offset → h ≡ get_or hs row h
      → hunks_at text side vs hs row 0 line ≡ placed_edits (drop row vs) (taken_all text side (drop row hs))
  starts-at line fuzz offset d h some lt iv is =
      hunk-ahead 0 line h lt is
      ∙ ap (λ ms. body_edits line ms ++ later) (sym (body-is text side h))
      ∙ sym (hunk-placed (At line fuzz offset) d h some lt iv is)

  -- behind the last line of a hunk
  pub hunk-over : (line next : ℕ) (h : Hunk) → row < length hs → h ≡ get_or hs row h → length h.body.items ≤ line → hunks_at text side vs hs row line next ≡ later
  hunk-over line next h lt is le =
      hunk-ahead line next h lt is
      ∙ ap (λ ls. body_edits next (side_body text side ls) ++ later) (drop_all line h.body.items le)
      ∙ ap (λ es. es ++ later) (edits-none next)

  -- a hunk that has no place
  pub starts-over : (line next : ℕ) (d : Verdict) (h : Hunk) → row < length vs → row < length hs → ((line fuzz : ℕ) (offset : ℤ) → get_or vs row d ≡ At line fuzz offset → ⊥) → h ≡ get_or hs row h → length h.body.items ≤ line
      → hunks_at text side vs hs row line next ≡ placed_edits (drop row vs) (taken_all text side (drop row hs))
  starts-over line next d h some lt other is le =
      hunk-over line next h lt is le
      ∙ ap (λ es. es ++ later) (sym (no-edits (get_or vs row d) (taken text side h) other))
      ∙ sym (hunk-placed (get_or vs row d) d h some lt refl is)

  -- one line of a body
  pub line-ahead : (line next : ℕ) (h : Hunk) (l : HunkLine) → row < length hs → h ≡ get_or hs row h → line < length h.body.items → l ≡ get_or h.body.items line l
      → hunks_at text side vs hs row line next ≡ marked_edits (taken_mark side l.mark) next (bytes_at text l.span) (λ _. hunks_at text side vs hs row (line + 1) (next + cond (is_on_side side l.mark) 1 0))
  line-ahead line next h l lt is within at =
      hunk-ahead line next h lt is
      ∙ edits-next text side h.body.items line next l later within at
      ∙ ap (λ es. marked_edits (taken_mark side l.mark) next (bytes_at text l.span) (λ _. es)) (sym (hunk-ahead (line + 1) (next + cond (is_on_side side l.mark) 1 0) h lt is))

-- the hunk of a row
pub here : (hs : List Hunk) (row : ℕ) → row < length hs → (h : Hunk) × (h ≡ get_or hs row h)
here [] row lt = absurd (omega arith)
here (h ∷ hs) zero lt = (h, refl)
here (h ∷ hs) (suc row) lt = here hs row (omega arith)

-- the span of a line of lawful hunks
pub line-lies : (text : List ℕ) (hs : List Hunk) (row line : ℕ) (h : Hunk) (l : HunkLine) → All (IsLawful text) hs → row < length hs → h ≡ get_or hs row h → line < length h.body.items → l ≡ get_or h.body.items line l → LiesIn text l.span
line-lies text hs row line h l lawful lt is within at =
    let own : IsLawful text h = subst (IsLawful text) (sym is) (lawful row h lt) in
    subst (λ (x : HunkLine). LiesIn text x.span) (sym at) (own.within line l within)

pub body-short : (text : List ℕ) (hs : List Hunk) (row : ℕ) (h : Hunk) → All (IsLawful text) hs → row < length hs → h ≡ get_or hs row h → length h.body.items < 2 ^ 32
body-short text hs row h lawful lt is = let own : IsLawful text h = subst (IsLawful text) (sym is) (lawful row h lt) in own.few
