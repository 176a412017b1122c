-- What a file patch asks for, test by test.
use Rattle.std.proofs.Common.{◌≡◌, Bool, true, false, not, ◌&&◌, ◌||◌, if◌then◌else◌, bytes_eq, ◌∙◌, ap}
use Rattle.hunk_apply.specs.Written.{is_nothing}
use Rattle.hunk_core.specs.declared.Side.{Side}
use Rattle.read_file_patch.specs.Absent.{deletes}
use Rattle.read_file_patch.specs.declared.derived.Target.{Target}
use Rattle.apply_task.specs.Asking.{moves, renames, is_bare, acts_new, acts_deleted, takes_files, is_set, mode_asked}
use Rattle.apply_task.specs.Contexts.{PlainContext}
use Rattle.apply_task.specs.Outputs.{Tried, some_placed}
use Rattle.apply_outcome.specs.Outcome.{is_taken_away, is_made_bare, is_backup_apart}

module _ (t : PlainContext) (x : Tried) where
  pub taken_bare : (side : Side) → x.side ≡ side → takes_files t.options ≡ true → is_bare t.item.patch ≡ true → is_taken_away t x ≡ acts_deleted side t.item.patch
  taken_bare side from takes bare =
      ap (λ b. b && (if is_bare t.item.patch then acts_deleted x.side t.item.patch else deletes x.side t.item.patch && some_placed x.verdicts)) takes
      ∙ ap (λ b. if b then acts_deleted x.side t.item.patch else deletes x.side t.item.patch && some_placed x.verdicts) bare
      ∙ ap (λ (s : Side). acts_deleted s t.item.patch) from

  abbrev rest : Side → Bool
  rest s = if acts_deleted s t.item.patch then is_taken_away t x && is_nothing x.text else is_set (mode_asked t.options s t.item.patch)

  pub made_new : (side : Side) → x.side ≡ side → acts_new side t.item.patch ≡ true → is_made_bare t x ≡ true
  made_new side from is = ap (λ (s : Side). acts_new s t.item.patch || moves t.item.patch || rest s) from ∙ ap (λ b. b || moves t.item.patch || rest side) is

  module _ (side : Side) (from : x.side ≡ side) (old : acts_new side t.item.patch ≡ false) where
    pub made_moved : moves t.item.patch ≡ true → is_made_bare t x ≡ true
    made_moved is =
        ap (λ (s : Side). acts_new s t.item.patch || moves t.item.patch || rest s) from
        ∙ ap (λ b. b || moves t.item.patch || rest side) old
        ∙ ap (λ b. b || rest side) is

    module _ (stays : moves t.item.patch ≡ false) where
      by_rest : is_made_bare t x ≡ rest side
      by_rest =
          ap (λ (s : Side). acts_new s t.item.patch || moves t.item.patch || rest s) from
          ∙ ap (λ b. b || moves t.item.patch || rest side) old
          ∙ ap (λ b. b || rest side) stays

      pub made_gone : acts_deleted side t.item.patch ≡ true → is_made_bare t x ≡ (is_taken_away t x && is_nothing x.text)
      made_gone is = by_rest ∙ ap (λ b. if b then is_taken_away t x && is_nothing x.text else is_set (mode_asked t.options side t.item.patch)) is

      pub made_moded : acts_deleted side t.item.patch ≡ false → is_made_bare t x ≡ is_set (mode_asked t.options side t.item.patch)
      made_moded is = by_rest ∙ ap (λ b. if b then is_taken_away t x && is_nothing x.text else is_set (mode_asked t.options side t.item.patch)) is

module _ (t : PlainContext) (w other : Target) (own : bytes_eq w.backup w.name ≡ false) where
  pub apart_moved : renames t.item.patch ≡ true → is_backup_apart t w other ≡ not (bytes_eq w.backup other.name)
  apart_moved moves = ap (λ b. not b && not (renames t.item.patch && bytes_eq w.backup other.name)) own ∙ ap (λ b. not (b && bytes_eq w.backup other.name)) moves

  pub apart_put : renames t.item.patch ≡ false → is_backup_apart t w other ≡ true
  apart_put stays = ap (λ b. not b && not (renames t.item.patch && bytes_eq w.backup other.name)) own ∙ ap (λ b. not (b && bytes_eq w.backup other.name)) stays
