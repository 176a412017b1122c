-- File patches and runs that do nothing.
use Rattle.std.proofs.Common.{◌≡◌, List, [], ◌∷◌, ◌++◌, true, Option, None, Some, if◌then◌else◌, refl, ◌∙◌, ap}
use Rattle.std.proofs.lemmas.List.{append-nil}
use Rattle.std.proofs.lemmas.List.Elements.{All-replicate}
use Rattle.outside.specs.Files.{Files}
use Rattle.outside.specs.Quiet.{Effect, after_all}
use Rattle.hunk_core.specs.declared.Verdict.{Verdict}
use Rattle.hunk_core.specs.declared.Verdict.TheVariants.{Ignored}
use Rattle.patch_options.specs.PlainJob.{PlainOptions}
use Rattle.read_file_patch.specs.declared.derived.Target.{Target}
use Rattle.patch_run.specs.OnePatch.{Item, PlainContext, Start, skips, refuses, tries, Ending, ended, stopped, total, bytes_of, lines_in, target_at, written, tried, start, ending_of, ending}
use Rattle.patch_run.specs.Run.{Run, begun, turn_of, with_ending, if_going, with_item, run_on, run_of, cleared}
use Rattle.patch_run.specs.Laws.{IsSkip, IsIgnored}
use Rattle.patch_run.proofs.Applying.{effects-dry}

skip_ignored : (t : PlainContext) (f : Files) (s : Start) → IsSkip s → IsIgnored (ending_of t f s)
skip_ignored t f (skips said row taken) is = (refl, All-replicate (λ (v : Verdict). v ≡ Ignored) (total t) Ignored refl)
skip_ignored t f (refuses said fault) is = absurd is
skip_ignored t f (tries said place side) is = absurd is

pub skipped_ignored : (t : PlainContext) (f : Files) → IsSkip (start t f) → IsIgnored (ending t f)
unfolding ending
skipped_ignored t f is = skip_ignored t f (start t f) is

-- ---- a dry run

abbrev IsIdle : Ending → Type 0
IsIdle (ended s) = (s.effects ≡ []) × (s.cleared ≡ None)
IsIdle (stopped said fault) = Unit {0}

start_idle : (t : PlainContext) (f : Files) (s : Start) → t.options.dry_run ≡ true → IsIdle (ending_of t f s)
start_idle t f (skips said row taken) dry = (refl, refl)
start_idle t f (refuses said fault) dry = tt
start_idle t f (tries said place side) dry =
    let w = written t place in
    (effects-dry t f (target_at t.item.targets place) w (tried t side (lines_in (bytes_of t f place))) dry, ap (λ b. if b then None else Some w.name) dry)

patch_idle : (t : PlainContext) (f : Files) → t.options.dry_run ≡ true → IsIdle (ending t f)
unfolding ending
patch_idle t f dry = start_idle t f (start t f) dry

-- the effects and the files of a run stay
abbrev Stands : Run → Run → Type 0
Stands r s = (s.effects ≡ r.effects) × (s.files ≡ r.files)

ending_stands : (t : PlainContext) (r : Run) (e : Ending) → IsIdle e → Stands r (with_ending t r e)
ending_stands t r (ended s) idle = (
  ap (λ (l : List Effect). r.effects ++ l) idle.0 ∙ append-nil r.effects,
  ap (λ c. cleared c (after_all s.effects r.files)) idle.1 ∙ ap (λ (l : List Effect). after_all l r.files) idle.0,
)
ending_stands t r (stopped said fault) idle = (refl, refl)

item_stands : (o : PlainOptions) (output : Option Target) (r : Run) (i : Item) → o.dry_run ≡ true → Stands r (with_item o output r i)
item_stands o output r i dry =
    let t = turn_of o output r i in
    elim r.stop as (λ x. Stands r (if_going x r (with_ending t r (ending t r.files)))) [
      | None ↦ ending_stands t r (ending t r.files) (patch_idle t r.files dry)
      | Some fault ↦ (refl, refl)
    ]

run_stands : (o : PlainOptions) (output : Option Target) (items : List Item) (r : Run) → o.dry_run ≡ true → Stands r (run_on o output items r)
unfolding run_on
run_stands o output [] r dry = (refl, refl)
run_stands o output (i ∷ items) r dry =
    let here = item_stands o output r i dry in
    let rest = run_stands o output items (with_item o output r i) dry in
    (rest.0 ∙ here.0, rest.1 ∙ here.1)

pub dry_effects : (o : PlainOptions) (output : Option Target) (items : List Item) (f : Files) → o.dry_run ≡ true → (run_of o output items f).effects ≡ []
dry_effects o output items f dry = (run_stands o output items (begun f) dry).0

pub dry_files : (o : PlainOptions) (output : Option Target) (items : List Item) (f : Files) → o.dry_run ≡ true → (run_of o output items f).files ≡ f
dry_files o output items f dry = (run_stands o output items (begun f) dry).1
