-- What the effects of a run change.
use Rattle.std.proofs.Common.{◌≡◌, ℕ, ◌<◌, List, [], ◌∷◌, ◌++◌, length, Bool, true, false, not, ◌&&◌, ◌||◌, if◌then◌else◌, Option, None, Some, refl, sym, ap, subst, arith, zero, suc}
use Rattle.std.proofs.lemmas.Bool.{and_parts}
use Rattle.std.specs.Prelude.{slice_get, unwrap_or, is_some, is_none}
use Rattle.std.specs.List.{AllByRecursion}
use Rattle.std.specs.Option.{option_or}
use Rattle.std.specs.FinMap.{get}
use Rattle.std.proofs.lemmas.Option.{slice_get_within, get_or_from_slice_get}
use Rattle.outside.specs.Files.{Files}
use Rattle.outside.specs.Quiet.{Effect}
use Rattle.outside.specs.Quiet.Effect.{Put, Remove}
use Rattle.hunk_core.specs.declared.Verdict.{Verdict}
use Rattle.patch_options.specs.PlainJob.{PlainOptions}
use Rattle.read_file_patch.specs.declared.derived.Target.{Target}
use Rattle.apply_task.specs.TargetEffects.{put_if, backup_effects, target_effects, moved_effects, moving_effects}
use Rattle.apply_task.specs.Asking.{written_place}
use Rattle.patch_run.specs.OnePatch.{Item, PlainContext, Start, skips, refuses, tries, Story, Ending, ended, stopped, Tried, no_target, target_at, written_at, written, tried, is_backup_due, is_backup_apart, is_backup_asked, keeps_old, is_old_kept, was_written, is_removal, is_moving, is_written, made_effects, written_effects, has_rejects, rejects_text, reject_effects, effects_of, start, ending_of, ending, bytes_of, lines_in}
use Rattle.patch_run.specs.Doing.{effects_in}
use Rattle.patch_run.specs.Run.{Run, begun, turn_of, with_ending, if_going, with_item, run_on, run_of}
use Rattle.series_stack.specs.Commands.{changed_by}
use Rattle.series_stack.proofs.Touching.{within-both}
use Rattle.stack_patch.specs.Changed.{may_back_up}
use Rattle.apply_start.proofs.Places.{IsTriedWithin, start_within}

-- ---- backups

-- a backup is due only where the options ask for backups
asked : (written apart always mismatch out inexact : Bool) → (not written && apart && (always || (mismatch && out && inexact))) ≡ true → (always || (mismatch && out)) ≡ true
asked true apart always mismatch out inexact is = absurd cc
asked false false always mismatch out inexact is = absurd cc
asked false true true mismatch out inexact is = refl
asked false true false true true inexact is = refl
asked false true false true false inexact is = is
asked false true false false out inexact is = is

due_asked : (t : PlainContext) (w other : Target) (vs : List Verdict) → is_backup_due t w other vs ≡ true → may_back_up t.options ≡ true
due_asked t w other vs due = asked (was_written t.past w.name) (is_backup_apart t w other) t.options.backup t.options.mismatch_backup (is_none t.options.output) _ due

-- ---- the effects of one file patch

module _ (Q : List ℕ → Type 0) where
  -- all that the effects change is of this kind
  abbrev pub Only : List Effect → Type 0
  Only es = AllByRecursion (λ e. Q (changed_by e)) es

  -- so are the names of a target that a run with these options can change
  pub record IsOpen (o : PlainOptions) (t : Target) : Type 0 where
    pub own : Q t.name
    pub reject : Q t.reject
    pub backup : may_back_up o ≡ true → Q t.backup

  only_if : (due : Bool) (name bytes : List ℕ) → (due ≡ true → Q name) → Only (put_if due name bytes)
  only_if true name bytes is = (is refl, tt)
  only_if false name bytes is = tt

  module _ (t : PlainContext) (f : Files) (s w : Target) (x : Tried) (from : IsOpen t.options s) (to : IsOpen t.options w) where
    backed : (a b : Target) → IsOpen t.options a → Only (backup_effects (is_backup_due t a b x.verdicts) f a)
    backed a b opens = only_if (is_backup_due t a b x.verdicts) a.backup _ (λ due. opens.backup (due_asked t a b x.verdicts due))

    target_only : (removal : Bool) → Only (target_effects removal f w x.output)
    target_only true = elim (is_some (get f w.name)) as (λ b. Only (if b then Remove w.name ∷ [] else [])) [
      | true ↦ (to.own, tt)
      | false ↦ tt
    ]
    target_only false = (to.own, tt)

    moved_only : Only (moved_effects (is_backup_due t w s x.verdicts) (is_backup_due t s w x.verdicts) f s w x.output)
    moved_only = within-both _ _ _ (backed w s to) (within-both _ _ _ (backed s w from) (to.own, (from.own, tt)))

    made_only : Only (made_effects t f s w x)
    made_only = elim (is_moving t f s w) as (λ b. Only (if b then moved_effects (is_backup_due t w s x.verdicts) (is_backup_due t s w x.verdicts) f s w x.output else backup_effects (is_backup_due t w s x.verdicts) f w ++ target_effects (is_removal t x) f w x.output)) [
      | true ↦ moved_only
      | false ↦ within-both _ _ _ (backed w s to) (target_only (is_removal t x))
    ]

    written_only : Only (written_effects t f s w x)
    written_only = elim (is_written t x) as (λ b. Only (if b then made_effects t f s w x else backup_effects (is_old_kept t w s x.verdicts) f w)) [
      | true ↦ made_only
      | false ↦ only_if (is_old_kept t w s x.verdicts) w.backup _ (λ kept. to.backup (due_asked t w s x.verdicts (and_parts (keeps_old t.options x.verdicts) (is_backup_due t w s x.verdicts) kept).1))
    ]

    rejects_only : Only (reject_effects t w x)
    rejects_only = only_if (has_rejects t x.verdicts) w.reject _ (λ due. to.reject)

    effects_only : Only (effects_of t f s w x)
    unfolding effects_of
    effects_only = elim t.options.dry_run as (λ b. Only (if b then [] else written_effects t f s w x ++ reject_effects t w x)) [
      | true ↦ tt
      | false ↦ within-both _ _ _ written_only rejects_only
    ]

  -- ---- the targets that it can have

  -- all targets of a file patch are so
  abbrev pub AreOpen : PlainOptions → List Target → Type 0
  AreOpen o targets = AllByRecursion (IsOpen o) targets

  open_get : (o : PlainOptions) (targets : List Target) (k : ℕ) (t : Target) → AreOpen o targets → slice_get targets k ≡ Some t → IsOpen o t
  open_get o [] k t each is = absurd cc
  open_get o (x ∷ xs) zero t each is = (let same : x ≡ t = cc in subst (IsOpen o) same each.0)
  open_get o (x ∷ xs) (suc k) t each is = open_get o xs k t each.1 is

  open_at : (o : PlainOptions) (targets : List Target) (k : ℕ) → AreOpen o targets → k < length targets → IsOpen o (target_at targets k)
  open_at o [] k each less = absurd (omega (arith, less))
  open_at o (x ∷ xs) zero each less = each.0
  open_at o (x ∷ xs) (suc k) each less = open_at o xs k each.1 (omega (arith, less))

  module _ (t : PlainContext) (each : AreOpen t.options t.item.targets) (outs : (w : Target) → t.output ≡ Some w → IsOpen t.options w) where
    written_open : (k : ℕ) → k < length t.item.targets → IsOpen t.options (written t k)
    written_open k less = by t.output refl
      where
        here : (o : Option Target) → slice_get t.item.targets k ≡ o → IsOpen t.options (unwrap_or o (target_at t.item.targets k))
        here None is = open_at t.options t.item.targets k each less
        here (Some w) is = open_get t.options t.item.targets k w each is

        chosen : (o : Option Target) → slice_get t.item.targets (written_place t.options.reverse t.item.patch k) ≡ o → IsOpen t.options (unwrap_or (option_or o (slice_get t.item.targets k)) (target_at t.item.targets k))
        chosen None is = here (slice_get t.item.targets k) refl
        chosen (Some w) is = open_get t.options t.item.targets (written_place t.options.reverse t.item.patch k) w each is

        by : (o : Option Target) → t.output ≡ o → IsOpen t.options (unwrap_or o (unwrap_or (written_at t.options.reverse t.item k) (target_at t.item.targets k)))
        by None is = chosen (slice_get t.item.targets (written_place t.options.reverse t.item.patch k)) refl
        by (Some w) is = outs w is

    start_only : (f : Files) (s : Start) → IsTriedWithin (length t.item.targets) s → Only (effects_in (ending_of t f s))
    start_only f (skips said row taken) within = tt
    start_only f (refuses said fault) within = tt
    start_only f (tries said place side) within =
        effects_only t f (target_at t.item.targets place) (written t place) (tried t side (lines_in (bytes_of t f place)))
        (open_at t.options t.item.targets place each within) (written_open place within)

    ending_only : (f : Files) → Only (effects_in (ending t f))
    unfolding ending
    ending_only f = start_only f (start t f) (start_within t f)

  -- ---- the run

  with_only : (t : PlainContext) (r : Run) (e : Ending) → Only r.effects → Only (effects_in e) → Only (with_ending t r e).effects
  with_only t r (ended s) before here = within-both _ _ _ before here
  with_only t r (stopped said fault) before here = before

  module _ (o : PlainOptions) (output : Option Target) (outs : (w : Target) → output ≡ Some w → IsOpen o w) where
    item_only : (r : Run) (i : Item) → Only r.effects → AreOpen o i.targets → Only (with_item o output r i).effects
    item_only r i before each =
        let t = turn_of o output r i in
        elim r.stop as (λ x. Only (if_going x r (with_ending t r (ending t r.files))).effects) [
          | None ↦ with_only t r (ending t r.files) before (ending_only t each outs r.files)
          | Some fault ↦ before
        ]

    on_only : (items : List Item) (r : Run) → Only r.effects → AllByRecursion (λ i. AreOpen o i.targets) items → Only (run_on o output items r).effects
    unfolding run_on
    on_only [] r before each = before
    on_only (i ∷ items) r before each = on_only items (with_item o output r i) (item_only r i before each.0) each.1

    pub run_only : (items : List Item) (f : Files) → AllByRecursion (λ i. AreOpen o i.targets) items → Only (run_of o output items f).effects
    run_only items f each = on_only items (begun f) tt each
