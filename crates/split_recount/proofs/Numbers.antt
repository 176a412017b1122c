-- Where the ranges of a hunk start, from the counts of its body.
use Rattle.std.proofs.Common.{◌≡◌, ℕ, ◌+◌, ◌-◌, true, false, ◌||◌, List, length, Option, None, Some, Result, Ok, Err, refl, sym, ap, ◌∙◌}
use Rattle.std.specs.Prelude.{◌==◌, if◌then◌else◌}
use Rattle.hunk_core.specs.declared.BadKind.{BadKind}
use Rattle.hunk_core.specs.declared.BadKind.TheVariants as kinds
use Rattle.hunk_core.specs.PlainHunk.{Marked, PlainHunk, old_lines}
use Rattle.unified_form.specs.declared.body.Left.{Left}
use Rattle.unified_form.specs.Grammar.{counts_of}
use Rattle.unified_form.proofs.Counts.{counts-old}
use Rattle.hunk_core.specs.Rules.{is_too_large}
use Rattle.split_recount.specs.RangeLines.{line_with}
use Rattle.split_recount.specs.Recounted.{unplaced, one_if_none, less, line_at, true_line}

abbrev pub started : ℕ → ℕ → ℕ
started first count = if count == 0 then first - 1 else first

abbrev pub based : ℕ → ℕ → ℕ
based start count = if count == 0 then start + 1 else start

-- the range line by the counts alone
abbrev told : ℕ → Left → List ℕ → Option ℕ → Result (List ℕ) BadKind
told start counts rest None = Err kinds.NumberTooLarge
told start counts rest (Some new) = if is_too_large start counts.old || is_too_large new counts.new then Err kinds.NumberTooLarge else Ok (line_with start new counts rest)

by-start : (h : PlainHunk) (rest : List ℕ) (new : Option ℕ) → line_at h rest new ≡ told h.old_start (counts_of h.body) rest new
by-start h rest None = refl
by-start h rest (Some new) = refl

-- the counts, and the old start that is written
pub record Numbers (earlier : Left) (stated : ℕ) (counts : Left) (start : ℕ) (new : Option ℕ) : Type 0 where
  pub start_is : start ≡ started stated counts.old
  pub new_is : new ≡ less (based start counts.old + earlier.new) (earlier.old + one_if_none counts.new)

true-told : (earlier : Left) (stated : ℕ) (counts : Left) (start : ℕ) (new : Option ℕ) (body : List Marked) (rest : List ℕ) → Numbers earlier stated counts start new → counts_of body ≡ counts → true_line earlier (unplaced stated body) rest ≡ told start counts rest new
true-told earlier stated counts start new body rest n e =
    let old : length (old_lines body) ≡ counts.old = sym (counts-old body) ∙ ap (λ (l : Left). l.old) e in
    by-start (unplaced stated body) rest _ ∙ rw (old, e, sym n.start_is, sym n.new_is) refl

pub ranges-none : (earlier : Left) (stated : ℕ) (counts : Left) (start : ℕ) (body : List Marked) (rest : List ℕ) → Numbers earlier stated counts start None → counts_of body ≡ counts → true_line earlier (unplaced stated body) rest ≡ Err kinds.NumberTooLarge
ranges-none earlier stated counts start body rest n e = true-told earlier stated counts start None body rest n e

pub ranges-large : (earlier : Left) (stated : ℕ) (counts : Left) (start new : ℕ) (body : List Marked) (rest : List ℕ) → Numbers earlier stated counts start (Some new) → (is_too_large start counts.old || is_too_large new counts.new) ≡ true → counts_of body ≡ counts
    → true_line earlier (unplaced stated body) rest ≡ Err kinds.NumberTooLarge
ranges-large earlier stated counts start new body rest n large e = true-told earlier stated counts start (Some new) body rest n e ∙ rw large refl

pub ranges-fit : (earlier : Left) (stated : ℕ) (counts : Left) (start new : ℕ) (body : List Marked) (rest : List ℕ) → Numbers earlier stated counts start (Some new) → (is_too_large start counts.old || is_too_large new counts.new) ≡ false → counts_of body ≡ counts
    → true_line earlier (unplaced stated body) rest ≡ Ok (line_with start new counts rest)
ranges-fit earlier stated counts start new body rest n fits e = true-told earlier stated counts start (Some new) body rest n e ∙ rw fits refl
