-- Names that the effects of a file patch leave alone.
use Rattle.std.proofs.Common.{◌≡◌, ◌≢◌, ℕ, List, [], ◌∷◌, ◌++◌, Bool, true, false, not, ◌&&◌, ◌||◌, if◌then◌else◌, bytes_eq, is_some, Option, None, Some, refl, ◌∙◌, ap}
use Rattle.std.proofs.lemmas.Bool.{false≢true}
use Rattle.std.specs.List.{AllByRecursion}
use Rattle.std.specs.FinMap.{get, insert}
use Rattle.outside.specs.Files.{Files, is_temp, temp_of, bytes_at}
use Rattle.outside.specs.Quiet.{Effect, after, after_all}
use Rattle.outside.specs.Quiet.Effect.{Put, Remove}
use Rattle.outside.proofs.Names.{apart, temp_of_is_temp, get-put_other, get-gone_other}
use Rattle.read_file_patch.specs.declared.derived.Target.{Target}
use Rattle.apply_task.specs.TargetEffects.{put_if, backup_effects, target_effects, moving_effects, moved_effects}
use Rattle.apply_task.specs.Asking.{renames}
use Rattle.patch_run.specs.OnePatch.{PlainContext, Tried, is_backup_due, is_old_kept, is_removal, is_moving, is_written, made_effects, written_effects, has_rejects, rejects_text, reject_effects, effects_of, wrote}
use Rattle.patch_run.specs.Run.{cleared}
use Rattle.apply_outcome.proofs.Writing.{moved_stays, wrote_as}

abbrev pub changed : Effect → List ℕ
changed (Put name bytes) = name
changed (Remove name) = name

-- the first of three that hold together
pub first_of : (a b c : Bool) → (a && b && c) ≡ true → a ≡ true
first_of true b c is = refl
first_of false b c is = is

both_of : (a b : Bool) → a ≡ true → b ≡ true → (a && b) ≡ true
both_of true b one other = other
both_of false b one other = absurd (false≢true one)

module _ (q : List ℕ) where
  -- none of the effects changes the name
  abbrev pub Others : List Effect → Type 0
  Others es = AllByRecursion (λ e. q ≢ changed e) es

  pub others_both : (xs ys : List Effect) → Others xs → Others ys → Others (xs ++ ys)
  others_both [] ys a b = b
  others_both (x ∷ xs) ys a b = (a.0, others_both xs ys a.1 b)

  pub others_put : (due : Bool) (name bytes : List ℕ) → q ≢ name → Others (put_if due name bytes)
  others_put true name bytes ne = (ne, tt)
  others_put false name bytes ne = tt

  module _ (lasting : is_temp q ≡ false) where
    stays : (e : Effect) (f : Files) → q ≢ changed e → get (after e f) q ≡ get f q
    stays (Put n b) f ne = get-gone_other (insert f n b) (temp_of n) q (apart q (temp_of n) lasting (temp_of_is_temp n)) ∙ get-put_other f n b q ne
    stays (Remove n) f ne = get-gone_other f n q ne

    pub all_stays : (es : List Effect) (f : Files) → Others es → get (after_all es f) q ≡ get f q
    all_stays [] f others = refl
    all_stays (e ∷ es) f others = all_stays es (after e f) others.1 ∙ stays e f others.0

    pub cleared_stays : (c : Option (List ℕ)) (f : Files) → get (cleared c f) q ≡ get f q
    cleared_stays None f = refl
    cleared_stays (Some name) f = get-gone_other f (temp_of name) q (apart q (temp_of name) lasting (temp_of_is_temp name))

  -- ---- one file patch
  module _ (t : PlainContext) (f : Files) (s w : Target) (x : Tried) where
    target_others : (removal : Bool) → ((not removal || is_some (get f w.name)) ≡ true → q ≢ w.name) → Others (target_effects removal f w x.output)
    target_others false ne = (ne refl, tt)
    target_others true ne = elim (is_some (get f w.name)) as (λ b. (b ≡ true → q ≢ w.name) → Others (if b then Remove w.name ∷ [] else [])) [
      | true ↦ λ own. (own refl, tt)
      | false ↦ λ own. tt
    ] ne

    module _ (back : q ≢ w.backup) (other : renames t.item.patch ≡ true → q ≢ s.backup) where
      -- of a target that is made, and of a source that goes
      made_others : ((not (is_removal t x) || is_some (get f w.name)) ≡ true → q ≢ w.name) → (renames t.item.patch ≡ true → q ≢ s.name) → Others (made_effects t f s w x)
      made_others own source = by (is_moving t f s w) refl
        where
          by : (b : Bool) → is_moving t f s w ≡ b
              → Others (if b then moved_effects (is_backup_due t w s x.verdicts) (is_backup_due t s w x.verdicts) f s w x.output else backup_effects (is_backup_due t w s x.verdicts) f w ++ target_effects (is_removal t x) f w x.output)
          by true is =
              let due = is_backup_due t w s x.verdicts in
              let source_due = is_backup_due t s w x.verdicts in
              let moves = first_of (renames t.item.patch) (not (bytes_eq s.name w.name)) (is_some (get f s.name)) is in
              let ne = own (ap (λ b. not b || is_some (get f w.name)) (moved_stays t x moves)) in
              others_both (backup_effects due f w) (moving_effects source_due f s w x.output) (others_put due w.backup (bytes_at f w.name) back)
              (others_both (backup_effects source_due f s) (Put w.name x.output ∷ Remove s.name ∷ []) (others_put source_due s.backup (bytes_at f s.name) (other moves)) (ne, (source moves, tt)))
          by false is =
              let due = is_backup_due t w s x.verdicts in
              others_both (backup_effects due f w) (target_effects (is_removal t x) f w x.output) (others_put due w.backup (bytes_at f w.name) back)
              (target_others (is_removal t x) own)

      module _ (own : wrote t f w x ≡ true → q ≢ w.name) (source : wrote t f w x ≡ true → renames t.item.patch ≡ true → q ≢ s.name) (wet : t.options.dry_run ≡ false) where
        pub written_others : Others (written_effects t f s w x)
        written_others = by (is_written t x) refl
          where
            makes : is_written t x ≡ true → (not (is_removal t x) || is_some (get f w.name)) ≡ true → wrote t f w x ≡ true
            makes is there = wrote_as t f s w x wet ∙ both_of (is_written t x) (not (is_removal t x) || is_some (get f w.name)) is there

            by : (b : Bool) → is_written t x ≡ b → Others (if b then made_effects t f s w x else backup_effects (is_old_kept t w s x.verdicts) f w)
            by true is = made_others (λ there. own (makes is there)) (λ moves. source (makes is (ap (λ b. not b || is_some (get f w.name)) (moved_stays t x moves))) moves)
            by false is = others_put (is_old_kept t w s x.verdicts) w.backup (bytes_at f w.name) back

      pub effects_others : q ≢ w.reject → (wrote t f w x ≡ true → q ≢ w.name) → (wrote t f w x ≡ true → renames t.item.patch ≡ true → q ≢ s.name) → Others (effects_of t f s w x)
      unfolding effects_of
      effects_others reject own source = by t.options.dry_run refl
        where
          by : (b : Bool) → t.options.dry_run ≡ b → Others (if b then [] else written_effects t f s w x ++ reject_effects t w x)
          by true is = tt
          by false is =
              others_both (written_effects t f s w x) (reject_effects t w x) (written_others own source is)
              (others_put (has_rejects t x.verdicts) w.reject (rejects_text t w x.side x.verdicts) reject)
