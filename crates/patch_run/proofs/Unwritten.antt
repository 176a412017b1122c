-- A name that no file patch of a run has made or taken away stands for what it stood for.
use Rattle.std.proofs.Common.{◌≡◌, ◌≢◌, inl, inr, ℕ, ◌<◌, List, [], ◌∷◌, length, Bool, true, false, not, ◌&&◌, ◌||◌, bytes_eq, Option, None, Some, refl, sym, ◌∙◌, ap}
use Rattle.std.proofs.lemmas.Bool.{false≢true, or_parts}
use Rattle.std.proofs.lemmas.List.Folds.{list_any-append}
use Rattle.std.proofs.lemmas.Slice.Eq.{bytes_eq-Decides}
use Rattle.std.specs.List.{list_any}
use Rattle.std.specs.Prelude.{unwrap_or}
use Rattle.std.specs.FinMap.{get}
use Rattle.outside.specs.Files.{Files, is_temp, bytes_at}
use Rattle.outside.specs.Quiet.{after_all}
use Rattle.outside.specs.Quiet.Effect.{Put}
use Rattle.hunk_core.specs.declared.Side.{Side}
use Rattle.hunk_core.specs.declared.Verdict.{Verdict}
use Rattle.patch_options.specs.PlainJob.{PlainOptions}
use Rattle.read_file_patch.specs.declared.derived.Target.{Target}
use Rattle.apply_task.specs.TargetEffects.{put_if, backup_effects}
use Rattle.apply_task.specs.Asking.{renames}
use Rattle.patch_run.specs.OnePatch.{Item, PlainContext, Start, skips, refuses, tries, Ending, ended, stopped, bytes_of, lines_in, target_at, written, tried, wrote, finished_at, mark_of, has_name, was_written, is_backup_apart, is_backup_asked, is_backup_due, start, ending_of, ending}
use Rattle.patch_run.specs.Run.{Run, begun, files_after, turn_of, with_ending, if_going, with_item, run_on, run_of}
use Rattle.patch_run.specs.Laws.{targets_in, is_beside}
use Rattle.apply_start.proofs.Places.{IsTriedWithin, start_within}
use Rattle.patch_run.proofs.BackedUp.{mark_named, run_keeps}
use Rattle.patch_run.proofs.Naming.{IsNoneOf, none_at, none_written, none_first, written_is, renamed_is}
use Rattle.patch_run.proofs.Standing.{all_stays, cleared_stays, effects_others}

pub unlike : (a b : List ℕ) → bytes_eq a b ≡ false → a ≢ b
unlike a b not eq = false≢true (sym not ∙ (bytes_eq-Decides a b).1 eq)

-- where it would follow from the name's being written
unwritten_if : (a b : Bool) → (a ≡ true → b ≡ true) → b ≡ false → a ≡ false
unwritten_if true b is none = absurd (false≢true (sym none ∙ is refl))
unwritten_if false b is none = refl

module _ (q : List ℕ) (lasting : is_temp q ≡ false) where
  -- the name is that of a backup or of a reject file of a target
  abbrev beside : Target → Bool
  beside w = bytes_eq q w.backup || bytes_eq q w.reject

  -- ---- one file patch

  tried_keeps : (t : PlainContext) (f : Files) (said : List ℕ) (place : ℕ) (side : Side) → place < length t.item.targets → IsNoneOf beside t.output t.item
      → has_name q (mark_of t (finished_at t f said place side).row (finished_at t f said place side).verdicts) ≡ false → get (files_after (finished_at t f said place side) f) q ≡ get f q
  tried_keeps t f said place side less none unmarked =
      let st = finished_at t f said place side in
      let s = target_at t.item.targets place in
      let w = written t place in
      let x = tried t side (lines_in (bytes_of t f place)) in
      let of_w = or_parts (bytes_eq q w.backup) (bytes_eq q w.reject) (none_written beside t place none less) in
      let of_s = or_parts (bytes_eq q s.backup) (bytes_eq q s.reject) (none_at beside t.item.targets place none.own less) in
      let own : wrote t f w x ≡ true → q ≢ w.name = λ is eq. false≢true (sym unmarked ∙ mark_named t st.row st.verdicts w q is (inl (written_is t st.row place refl less)) (sym eq)) in
      let source : wrote t f w x ≡ true → renames t.item.patch ≡ true → q ≢ s.name = λ is moves eq. false≢true (sym unmarked ∙ mark_named t st.row st.verdicts s q is (inr (renamed_is t st.row place refl less moves)) (sym eq)) in
      cleared_stays q lasting st.cleared (after_all st.effects f)
      ∙ all_stays q lasting st.effects f (effects_others q t f s w x (unlike q w.backup of_w.0) (λ moves. unlike q s.backup of_s.0) (unlike q w.reject of_w.1) own source)

  -- a name that the mark of an ending hasn't, stands for what it stood for
  abbrev KeepsName : PlainContext → Files → Ending → Type 0
  KeepsName t f (ended st) = has_name q (mark_of t st.row st.verdicts) ≡ false → get (files_after st f) q ≡ get f q
  KeepsName t f (stopped said fault) = Unit {0}

  start_keeps : (t : PlainContext) (f : Files) (s : Start) → IsTriedWithin (length t.item.targets) s → IsNoneOf beside t.output t.item → KeepsName t f (ending_of t f s)
  start_keeps t f (skips said row taken) less none = λ unmarked. refl
  start_keeps t f (refuses said fault) less none = tt
  start_keeps t f (tries said place side) less none = tried_keeps t f said place side less none

  ending_keeps : (t : PlainContext) (f : Files) → IsNoneOf beside t.output t.item → KeepsName t f (ending t f)
  unfolding ending
  ending_keeps t f none = start_keeps t f (start t f) (start_within t f) none

  -- ---- a run

  abbrev Keeps : Run → Run → Type 0
  Keeps r s = was_written s.past q ≡ false → get s.files q ≡ get r.files q

  with_keeps : (t : PlainContext) (r : Run) (e : Ending) → KeepsName t r.files e → Keeps r (with_ending t r e)
  with_keeps t r (ended st) keeps unwritten =
      let m = mark_of t st.row st.verdicts in
      let parts = or_parts (was_written r.past q) (has_name q m || false) (sym (list_any-append (has_name q) r.past (m ∷ [])) ∙ unwritten) in
      keeps (or_parts (has_name q m) false parts.1).0
  with_keeps t r (stopped said fault) keeps unwritten = refl

  item_keeps : (o : PlainOptions) (output : Option Target) (r : Run) (i : Item) → IsNoneOf beside output i → Keeps r (with_item o output r i)
  item_keeps o output r i none =
      let t = turn_of o output r i in
      elim r.stop as (λ x. Keeps r (if_going x r (with_ending t r (ending t r.files)))) [
        | None ↦ with_keeps t r (ending t r.files) (ending_keeps t r.files none)
        | Some fault ↦ λ unwritten. refl
      ]

  on_keeps : (o : PlainOptions) (output : Option Target) (items : List Item) (r : Run) → list_any beside (targets_in output items) ≡ false → Keeps r (run_on o output items r)
  unfolding run_on
  on_keeps o output [] r none unwritten = refl
  on_keeps o output (i ∷ items) r none unwritten =
      let first = none_first beside output i items none in
      let next = with_item o output r i in
      let before = unwritten_if (was_written next.past q) (was_written (run_on o output items next).past q) (run_keeps o output items next q) unwritten in
      on_keeps o output items next first.1 unwritten ∙ item_keeps o output r i first.0 before

  pub unwritten_stays : (o : PlainOptions) (output : Option Target) (items : List Item) (f : Files) → is_beside q (targets_in output items) ≡ false
      → was_written (run_of o output items f).past q ≡ false → get (run_of o output items f).files q ≡ get f q
  unwritten_stays o output items f none unwritten = on_keeps o output items (begun f) none unwritten

-- ---- backups

due_unwritten : (written apart asked : Bool) → (not written && apart && asked) ≡ true → written ≡ false
due_unwritten true apart asked is = absurd (false≢true is)
due_unwritten false apart asked is = refl

backed_if : (due : Bool) (w : Target) (f g : Files) → (due ≡ true → get g w.name ≡ get f w.name) → put_if due w.backup (bytes_at g w.name) ≡ put_if due w.backup (bytes_at f w.name)
backed_if true w f g same = ap (λ (b : Option (List ℕ)). Put w.backup (unwrap_or b []) ∷ []) (same refl)
backed_if false w f g same = refl

pub backed_before : (o : PlainOptions) (output : Option Target) (items : List Item) (i : Item) (f : Files) (w other : Target) (vs : List Verdict) → is_temp w.name ≡ false → is_beside w.name (targets_in output items) ≡ false
    → backup_effects (is_backup_due (turn_of o output (run_of o output items f) i) w other vs) (run_of o output items f).files w ≡ backup_effects (is_backup_due (turn_of o output (run_of o output items f) i) w other vs) f w
backed_before o output items i f w other vs lasting none =
    let r = run_of o output items f in
    let t = turn_of o output r i in
    backed_if (is_backup_due t w other vs) w f r.files
    (λ is. unwritten_stays w.name lasting o output items f none (due_unwritten (was_written r.past w.name) (is_backup_apart t w other) (is_backup_asked t vs) is))
