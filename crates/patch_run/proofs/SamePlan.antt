-- With another plan a run over file patches does the same, as no definition on the way reads the plan.
use Rattle.std.proofs.Common.{◌≡◌, ℕ, List, [], ◌∷◌, ◌++◌, Bool, Option, refl, arith}
use Rattle.std.specs.Prelude.{ℤ}
use Rattle.outside.specs.Files.{Files}
use Rattle.hunk_core.specs.declared.Side.{Side}
use Rattle.hunk_core.specs.declared.Verdict.{Verdict}
use Rattle.hunk_core.specs.PlainHunk.{PlainHunk}
use Rattle.patch_options.specs.PlainJob.{PlainOptions}
use Rattle.patch_options.specs.declared.options.PlanKind.{PlanKind}
use Rattle.read_file_patch.specs.declared.derived.Target.{Target}
use Rattle.patch_set.specs.Refusals.{refusal}
use Rattle.patch_set.specs.declared.skipped.BinaryChange.{BinaryChange}
use Rattle.patch_run.specs.OnePatch.{Item, PlainContext, Tried, is_reversed, start, changes_said, hunk_said, hunks_said, tried_said, mark_of, effects_of, wrote, ending}
use Rattle.patch_run.specs.Run.{Run, turn_of, with_item, run_on}
use Rattle.patch_run.specs.Outcome.{with_plan}

module _ (plan : PlanKind) where
  -- the turn with the other plan
  abbrev replanned : PlainContext → PlainContext
  replanned t = record { options = with_plan plan t.options; output = t.output; item = t.item; past = t.past }

  -- ---- one file patch

  reversed_same : (o : PlainOptions) (ls : List (List ℕ)) (side : Side) (h : Option PlainHunk) → is_reversed (with_plan plan o) ls side h ≡ is_reversed o ls side h
  reversed_same o ls side h = grind arith

  changes_same : (o : PlainOptions) (cs : List BinaryChange) → changes_said (with_plan plan o) cs ≡ changes_said o cs
  unfolding changes_said
  changes_same o cs = refl

  start_same : (t : PlainContext) (f : Files) → start (replanned t) f ≡ start t f
  unfolding start
  start_same t f = grind (arith, reversed_same t.options, changes_same t.options t.item.skipped)

  hunk_same : (o : PlainOptions) (end : Option Bool) (number : ℕ) (moved : ℤ) (h : PlainHunk) (v : Verdict) → hunk_said (with_plan plan o) end number moved h v ≡ hunk_said o end number moved h v
  hunk_same o end number moved h v = grind arith

  hunks_same : (o : PlainOptions) (end : Option Bool) (before rows : List (PlainHunk × Verdict)) → hunks_said (with_plan plan o) end before rows ≡ hunks_said o end before rows
  unfolding hunks_said
  hunks_same o end before [] = refl
  hunks_same o end before (row ∷ rows) = rw (hunk_same o end, hunks_same o end (before ++ row ∷ []) rows) refl

  tried_same : (t : PlainContext) (w : Target) (x : Tried) → tried_said (replanned t) w x ≡ tried_said t w x
  unfolding tried_said
  tried_same t w x = grind (arith, hunks_same t.options x.end [])

  ending_same : (t : PlainContext) (f : Files) → ending (replanned t) f ≡ ending t f
  unfolding effects_of wrote ending
  ending_same t f = rw (start_same t f) (grind (arith, tried_same t))

  -- ---- a run

  item_same : (o : PlainOptions) (output : Option Target) (r : Run) (i : Item) → with_item (with_plan plan o) output r i ≡ with_item o output r i
  unfolding mark_of
  item_same o output r i = rw (ending_same (turn_of o output r i) r.files) (grind arith)

  pub run_same : (o : PlainOptions) (output : Option Target) (items : List Item) (r : Run) → run_on (with_plan plan o) output items r ≡ run_on o output items r
  unfolding run_on
  run_same o output [] r = refl
  run_same o output (i ∷ items) r = rw (item_same o output r i) (run_same o output items (with_item o output r i))

  -- ---- why a text is refused

  pub refusal_same : (o : PlainOptions) (text : List ℕ) → refusal (with_plan plan o) text ≡ refusal o text
  refusal_same o text = grind arith
