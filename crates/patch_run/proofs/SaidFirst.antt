-- What a run says first, and that it is bad where a binary change fails.
use Rattle.std.proofs.Common.{◌≡◌, List, [], ◌∷◌, ◌++◌, ℕ, true, ◌||◌, Option, None, Some, refl, ◌∙◌, ap, append_assoc}
use Rattle.std.proofs.Math.Bool.{or-true}
use Rattle.outside.specs.Files.{Files}
use Rattle.patch_options.specs.PlainJob.{PlainOptions}
use Rattle.apply_start.specs.Skipping.{changes_said, has_failing}
use Rattle.read_file_patch.specs.declared.derived.Target.{Target}
use Rattle.patch_run.specs.OnePatch.{Item, PlainContext, Start, skips, refuses, tries, said_first, lines_in, bytes_of, written, tried, some_failed, is_kept, fails_first, tried_said, ignored_said, Ending, ended, stopped, ending_of, own_start, start, ending}
use Rattle.patch_run.specs.Run.{Run, begun, turn_of, with_ending, if_going, with_item, run_on, run_of}
use Rattle.patch_run.specs.Doing.{said_of}
use Rattle.patch_run.proofs.Folding.{more_on}

told-first : (t : PlainContext) (f : Files) (s : Start) (p : List ℕ) → (more : List ℕ) × (said_of (ending_of t f (said_first p s)) ≡ p ++ more)
told-first t f (skips said row taken) p = (said ++ ignored_said t, append_assoc p said (ignored_said t))
told-first t f (refuses said fault) p = (said, refl)
told-first t f (tries said place side) p =
    let rest = tried_said t (written t place) (tried t side (lines_in (bytes_of t f place))) in
    (said ++ rest, append_assoc p said rest)

first-ending : (o : PlainOptions) (output : Option Target) (i : Item) (f : Files) → (more : List ℕ) × (said_of (ending (turn_of o output (begun f) i) f) ≡ changes_said o i.skipped ++ more)
unfolding ending start
first-ending o output i f = told-first (turn_of o output (begun f) i) f (own_start (turn_of o output (begun f) i) f) (changes_said o i.skipped)

said-with : (t : PlainContext) (f : Files) (e : Ending) → (with_ending t (begun f) e).said ≡ said_of e
said-with t f (ended s) = refl
said-with t f (stopped said fault) = refl

pub run-first : (o : PlainOptions) (output : Option Target) (i : Item) (items : List Item) (f : Files) → (more : List ℕ) × ((run_of o output (i ∷ items) f).said ≡ changes_said o i.skipped ++ more)
unfolding run_on
run-first o output i items f =
    let t = turn_of o output (begun f) i in
    let own = first-ending o output i f in
    let later = more_on o output items (with_item o output (begun f) i) in (
      own.0 ++ later.said,
      later.told ∙ ap (λ l. l ++ later.said) (said-with t f (ending t f) ∙ own.1) ∙ append_assoc (changes_said o i.skipped) own.0 later.said,
    )

-- ---- a binary change that fails

-- a run that is bad, or has stopped
abbrev IsSpoiled : Run → Type 0
IsSpoiled r = r.stop ≡ None → r.is_bad ≡ true

spoiled-ending : (t : PlainContext) (r : Run) (e : Ending) → r.is_bad ≡ true → IsSpoiled (with_ending t r e)
spoiled-ending t r (ended s) bad = λ going. ap (λ b. b || s.is_bad) bad
spoiled-ending t r (stopped said fault) bad = λ going. absurd (cc)

spoiled-item : (o : PlainOptions) (output : Option Target) (i : Item) (r : Run) → IsSpoiled r → IsSpoiled (with_item o output r i)
spoiled-item o output i r bad =
    let t = turn_of o output r i in
    elim r.stop as (λ x. r.stop ≡ x → IsSpoiled (if_going x r (with_ending t r (ending t r.files)))) [
      | None ↦ λ going. spoiled-ending t r (ending t r.files) (bad going)
      | Some fault ↦ λ stop. bad
    ] refl

spoiled-on : (o : PlainOptions) (output : Option Target) (items : List Item) (r : Run) → IsSpoiled r → IsSpoiled (run_on o output items r)
unfolding run_on
spoiled-on o output [] r bad = bad
spoiled-on o output (i ∷ items) r bad = spoiled-on o output items (with_item o output r i) (spoiled-item o output i r bad)

failed-first : (t : PlainContext) (r : Run) (f : Files) (s : Start) → fails_first t ≡ true → IsSpoiled (with_ending t r (ending_of t f s))
failed-first t r f (skips said row taken) fails = λ going. or-true r.is_bad
failed-first t r f (refuses said fault) fails = λ going. absurd (cc)
failed-first t r f (tries said place side) fails = λ going.
    let x = tried t side (lines_in (bytes_of t f place)) in
    ap (λ b. r.is_bad || ((some_failed x.verdicts || is_kept t x) || b)) fails
    ∙ ap (λ b. r.is_bad || b) (or-true (some_failed x.verdicts || is_kept t x))
    ∙ or-true r.is_bad

pub run-failing : (o : PlainOptions) (output : Option Target) (i : Item) (items : List Item) (f : Files) → has_failing o i.skipped ≡ true → (run_of o output (i ∷ items) f).stop ≡ None → (run_of o output (i ∷ items) f).is_bad ≡ true
unfolding run_on ending
run-failing o output i items f fails =
    let t = turn_of o output (begun f) i in
    spoiled-on o output items (with_item o output (begun f) i) (failed-first t (begun f) f (start t f) fails)
