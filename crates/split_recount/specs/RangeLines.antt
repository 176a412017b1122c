-- Range lines whose counts aren't trusted: what they say, and how they are written with true ones.
use Rattle.std.specs.Prelude.{ℕ, ◌+◌, ◌==◌, ◌||◌, List, [], ◌∷◌, ◌++◌, Option, None, Some, Result, Ok, Err, if◌then◌else◌}
use Rattle.hunk_core.specs.LineTests.{after}
use Rattle.hunk_core.specs.declared.BadKind.{BadKind}
use Rattle.hunk_core.specs.declared.BadKind.TheVariants as kinds
use Rattle.unified_form.specs.declared.range.Ranges.{Ranges}
use Rattle.unified_form.specs.declared.body.Left.{Left}
use Rattle.unified_form.specs.Ranges.{range_at, is_bad_range}
use Rattle.unified_form.specs.Canonical.{range_text}
use Rattle.hunk_core.specs.Rules.{is_too_large}
use Rattle.hunk_core.specs.OptionSteps.{◌>>=◌}

-- the ranges of a line, and what stands behind them
unfoldable pub range_parts : List ℕ → Option (Ranges × List ℕ)
range_parts line = do
  first ← after (64 ∷ 64 ∷ 32 ∷ 45 ∷ []) line
  old ← range_at first
  second ← after (32 ∷ 43 ∷ []) old.1
  new ← range_at second
  rest ← after (32 ∷ 64 ∷ 64 ∷ []) new.1
  Some (record { old_start = old.0.0; old_count = old.0.1; new_start = new.0.0; new_count = new.0.1 }, rest)

-- the line at which a range begins; an empty one stands in front of it, behind its start
abbrev pub first_line : ℕ → ℕ → ℕ
first_line start count = if count == 0 then start + 1 else start

-- the line at which the old range begins, and what stands behind the ranges, unless a range is bad or a number too large
abbrev pub stated_by : Option (Ranges × List ℕ) → Result (ℕ × List ℕ) BadKind
stated_by None = Err kinds.Range
stated_by (Some p) = if is_bad_range p.0.old_start p.0.old_count || is_bad_range p.0.new_start p.0.new_count then Err kinds.Range
    else if is_too_large p.0.old_start p.0.old_count || is_too_large p.0.new_start p.0.new_count then Err kinds.NumberTooLarge
    else Ok (first_line p.0.old_start p.0.old_count, p.1)

-- what a range line says that is believed
abbrev pub stated : List ℕ → Result (ℕ × List ℕ) BadKind
stated line = stated_by (range_parts line)

-- '@@ -', the old range, ' +', the new range, ' @@' and this rest
abbrev pub line_with : ℕ → ℕ → Left → List ℕ → List ℕ
line_with old_start new_start counts rest = (64 ∷ 64 ∷ 32 ∷ 45 ∷ []) ++ (range_text old_start counts.old ++ ((32 ∷ 43 ∷ []) ++ (range_text new_start counts.new ++ ((32 ∷ 64 ∷ 64 ∷ []) ++ rest))))
