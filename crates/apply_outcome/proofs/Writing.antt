-- The effects of one file patch, in parts.
use Rattle.std.proofs.Common.{◌≡◌, ◌++◌, ◌+◌, ◌||◌, ◌&&◌, ◌∙◌, [], ℕ, arith, length-append, List, Bool, true, false, not, if◌then◌else◌, length, is_some, refl, sym, ap}
use Rattle.std.proofs.lemmas.Bool.{false≢true}
use Rattle.std.specs.FinMap.{get}
use Rattle.outside.specs.Files.{Files}
use Rattle.hunk_core.specs.declared.Side.{Side}
use Rattle.hunk_core.specs.declared.Verdict.{Verdict}
use Rattle.patch_options.specs.PlainJob.{PlainOptions}
use Rattle.read_file_patch.specs.declared.derived.Target.{Target}
use Rattle.read_file_patch.specs.declared.Change.{Change}
use Rattle.read_file_patch.specs.declared.Change.TheVariants.{Hunks, Script}
use Rattle.read_file_patch.specs.PlainPatch.{change_of, is_script}
use Rattle.reject_text.specs.Rejects.{AreHunks}
use Rattle.read_header_record.specs.declared.Action.{Action}
use Rattle.read_header_record.specs.declared.Action.TheVariants.{Plain, New, Deleted, Rename, Copy}
use Rattle.read_file_patch.specs.Actions.{is_moved}
use Rattle.apply_task.specs.TargetEffects.{put_if, backup_effects, target_effects, moved_effects}
use Rattle.outside.specs.Quiet.{Effect}
use Rattle.hunk_apply.specs.Written.{is_nothing}
use Rattle.apply_task.specs.Asking.{is_rename, renames}
use Rattle.apply_task.proofs.Placing.{put_count}
use Rattle.apply_task.specs.Contexts.{PlainContext}
use Rattle.apply_task.specs.Outputs.{Tried}
use Rattle.apply_outcome.specs.Outcome.{has_rejects, is_backup_due, is_moving, is_unwanted, is_removal, is_old_kept, is_written, made_effects, written_effects, rejects_text, reject_effects, effects_of, wrote, is_unrejected}

-- ---- the effects of a file patch

-- of a file patch whose source stays, and of one whose source goes
module _ (t : PlainContext) (f : Files) (s w : Target) (x : Tried) (due other : Bool) (is_due : due ≡ is_backup_due t w s x.verdicts) where
  abbrev either : Bool → List Effect
  either moving = if moving then moved_effects (is_backup_due t w s x.verdicts) (is_backup_due t s w x.verdicts) f s w x.output else backup_effects (is_backup_due t w s x.verdicts) f w ++ target_effects (is_removal t x) f w x.output

  pub put_as : (removal : Bool) → is_moving t f s w ≡ false → removal ≡ is_removal t x → made_effects t f s w x ≡ backup_effects due f w ++ target_effects removal f w x.output
  put_as removal stays is_gone =
      ap either stays
      ∙ ap (λ (b : Bool). backup_effects b f w ++ target_effects (is_removal t x) f w x.output) (sym is_due)
      ∙ ap (λ (b : Bool). backup_effects due f w ++ target_effects b f w x.output) (sym is_gone)

  pub moved_as : is_moving t f s w ≡ true → other ≡ is_backup_due t s w x.verdicts → made_effects t f s w x ≡ moved_effects due other f s w x.output
  moved_as moves is_other =
      ap either moves
      ∙ ap (λ (b : Bool). moved_effects b (is_backup_due t s w x.verdicts) f s w x.output) (sym is_due)
      ∙ ap (λ (b : Bool). moved_effects due b f s w x.output) (sym is_other)

pub written_as : (t : PlainContext) (f : Files) (s w : Target) (x : Tried) → is_written t x ≡ true → written_effects t f s w x ≡ made_effects t f s w x
written_as t f s w x is = ap (λ (b : Bool). if b then made_effects t f s w x else backup_effects (is_old_kept t w s x.verdicts) f w) is

-- of a target that isn't written the old bytes alone are put
pub kept_as : (t : PlainContext) (f : Files) (s w : Target) (x : Tried) (due : Bool) → is_written t x ≡ false → due ≡ is_old_kept t w s x.verdicts → written_effects t f s w x ≡ backup_effects due f w
kept_as t f s w x due none is =
    ap (λ (b : Bool). if b then made_effects t f s w x else backup_effects (is_old_kept t w s x.verdicts) f w) none
    ∙ ap (λ (b : Bool). backup_effects b f w) (sym is)

-- a rename has no removal
pub moved_stays : (t : PlainContext) (x : Tried) → renames t.item.patch ≡ true → is_removal t x ≡ false
moved_stays t x is = none (is_nothing x.text) (is_some t.options.output) (is_some t.options.define) (is_unwanted t x.side) (rename_moves t.item.patch.header.action is)
  where
    rename_moves : (a : Action) → is_rename a ≡ true → is_moved a ≡ true
    rename_moves Plain is = absurd (false≢true is)
    rename_moves New is = absurd (false≢true is)
    rename_moves Deleted is = absurd (false≢true is)
    rename_moves Rename is = refl
    rename_moves Copy is = absurd (false≢true is)

    none : (a b c e : Bool) {d : Bool} → d ≡ true → (a && not (b || c || d) && e) ≡ false
    none true true c e is = refl
    none true false true e is = refl
    none true false false e is = ap (λ x. not x && e) is
    none false b c e is = refl

module _ (t : PlainContext) (f : Files) (s w : Target) (x : Tried) (wet : t.options.dry_run ≡ false) where
  pub effects_split : effects_of t f s w x ≡ written_effects t f s w x ++ reject_effects t w x
  unfolding effects_of
  effects_split = ap (λ (b : Bool). if b then [] else written_effects t f s w x ++ reject_effects t w x) wet

  pub effects_as : (rejected : Bool) → rejected ≡ has_rejects t x.verdicts → effects_of t f s w x ≡ written_effects t f s w x ++ put_if rejected w.reject (rejects_text t w x.side x.verdicts)
  effects_as rejected is = effects_split ∙ ap (λ (b : Bool). written_effects t f s w x ++ put_if b w.reject (rejects_text t w x.side x.verdicts)) (sym is)

  pub effects_on : (rejected : Bool) (side : Side) (vs : List Verdict) → x.side ≡ side → x.verdicts ≡ vs → rejected ≡ has_rejects t x.verdicts → effects_of t f s w x ≡ written_effects t f s w x ++ put_if rejected w.reject (rejects_text t w side vs)
  effects_on rejected side vs from same is =
      effects_as rejected is
      ∙ ap (λ (y : Side). written_effects t f s w x ++ put_if rejected w.reject (rejects_text t w y x.verdicts)) from
      ∙ ap (λ (l : List Verdict). written_effects t f s w x ++ put_if rejected w.reject (rejects_text t w side l)) same

  pub wrote_as : wrote t f w x ≡ is_written t x && (not (is_removal t x) || is_some (get f w.name))
  unfolding wrote
  wrote_as = ap (λ (b : Bool). not b && is_written t x && (not (is_removal t x) || is_some (get f w.name))) wet

  pub effects_count : (rejected : Bool) (effects : ℕ) → rejected ≡ has_rejects t x.verdicts → effects ≡ length (written_effects t f s w x) → effects + (if rejected then 1 else 0) ≡ length (effects_of t f s w x)
  effects_count rejected effects is count = omega (
    arith,
    count,
    ap length (effects_as rejected is),
    length-append (written_effects t f s w x) (put_if rejected w.reject (rejects_text t w x.side x.verdicts)),
    put_count rejected w.reject (rejects_text t w x.side x.verdicts),
  )

-- ---- rejects

are_hunks : (text : List ℕ) (change : Change) → not (is_script (change_of text change)) ≡ true → AreHunks change
are_hunks text (Hunks hs) e = tt
are_hunks text (Script s) e = absurd (false≢true e)

pub rejected_are_hunks : (o : PlainOptions) (text : List ℕ) (change : Change) → not (is_unrejected o (change_of text change)) ≡ true → AreHunks change
rejected_are_hunks o text change = by o.no_rejects
  where
    by : (b : Bool) → not (b || is_script (change_of text change)) ≡ true → AreHunks change
    by true e = absurd (false≢true e)
    by false e = are_hunks text change e
