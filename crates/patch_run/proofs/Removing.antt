-- Which names a run takes away.
use Rattle.std.proofs.Common.{◌≡◌, ℕ, List, [], ◌∷◌, ◌++◌, Bool, true, false, not, ◌&&◌, ◌||◌, if◌then◌else◌, bytes_eq, is_some, is_none, Option, None, Some, refl, sym, ◌∙◌, ap, subst}
use Rattle.std.proofs.lemmas.Bool.{false≢true}
use Rattle.std.specs.List.{AllByRecursion}
use Rattle.std.specs.FinMap.{get}
use Rattle.outside.specs.Files.{Files, bytes_at}
use Rattle.outside.specs.Quiet.{Effect}
use Rattle.outside.specs.Quiet.Effect.{Put, Remove}
use Rattle.hunk_apply.specs.Written.{is_nothing}
use Rattle.read_file_patch.specs.Absent.{deletes}
use Rattle.patch_options.specs.PlainJob.{PlainOptions}
use Rattle.read_file_patch.specs.declared.derived.Target.{Target}
use Rattle.apply_task.specs.TargetEffects.{put_if, backup_effects, target_effects, moving_effects, moved_effects}
use Rattle.apply_task.specs.Asking.{moves, renames}
use Rattle.apply_task.specs.Kinds.{is_link}
use Rattle.patch_run.specs.OnePatch.{Item, PlainContext, Start, skips, refuses, tries, Ending, ended, stopped, Tried, bytes_of, lines_in, target_at, written, tried, is_backup_due, is_old_kept, is_removal, is_moving, is_written, made_effects, written_effects, has_rejects, rejects_text, reject_effects, effects_of, finished_at, start, ending_of, ending}
use Rattle.patch_run.specs.Run.{Run, begun, turn_of, with_ending, if_going, with_item, run_on, run_of}
use Rattle.patch_run.specs.Laws.{removed_in, keeps_files, IsSource, TakesItsSource}
use Rattle.patch_run.proofs.Standing.{first_of}

-- ---- lists of effects

module _ (Q : List ℕ → Type 0) where
  -- each name that the effects take away is so
  abbrev Takes : List Effect → Type 0
  Takes es = AllByRecursion Q (removed_in es)

  takes_both : (xs ys : List Effect) → Takes xs → Takes ys → Takes (xs ++ ys)
  takes_both [] ys a b = b
  takes_both (Put name bytes ∷ xs) ys a b = takes_both xs ys a b
  takes_both (Remove name ∷ xs) ys a b = (a.0, takes_both xs ys a.1 b)

  takes_put : (due : Bool) (name bytes : List ℕ) → Takes (put_if due name bytes)
  takes_put true name bytes = tt
  takes_put false name bytes = tt

  module _ (t : PlainContext) (f : Files) (s w : Target) (x : Tried) (stays : is_removal t x ≡ false) (source : renames t.item.patch ≡ true → Q s.name) where
    takes_made : Takes (made_effects t f s w x)
    takes_made = by (is_moving t f s w) refl
      where
        by : (b : Bool) → is_moving t f s w ≡ b
            → Takes (if b then moved_effects (is_backup_due t w s x.verdicts) (is_backup_due t s w x.verdicts) f s w x.output else backup_effects (is_backup_due t w s x.verdicts) f w ++ target_effects (is_removal t x) f w x.output)
        by true is =
            let due = is_backup_due t w s x.verdicts in
            let source_due = is_backup_due t s w x.verdicts in
            let last = source (first_of (renames t.item.patch) (not (bytes_eq s.name w.name)) (is_some (get f s.name)) is) in
            takes_both (backup_effects due f w) (moving_effects source_due f s w x.output) (takes_put due w.backup (bytes_at f w.name))
            (takes_both (backup_effects source_due f s) (Put w.name x.output ∷ Remove s.name ∷ []) (takes_put source_due s.backup (bytes_at f s.name)) (last, tt))
        by false is =
            let due = is_backup_due t w s x.verdicts in
            takes_both (backup_effects due f w) (target_effects (is_removal t x) f w x.output) (takes_put due w.backup (bytes_at f w.name))
            (subst (λ b. Takes (target_effects b f w x.output)) (sym stays) tt)

    takes_written : Takes (written_effects t f s w x)
    takes_written = elim (is_written t x) as (λ b. Takes (if b then made_effects t f s w x else backup_effects (is_old_kept t w s x.verdicts) f w)) [
      | true ↦ takes_made
      | false ↦ takes_put (is_old_kept t w s x.verdicts) w.backup (bytes_at f w.name)
    ]

    takes_effects : Takes (effects_of t f s w x)
    unfolding effects_of
    takes_effects = elim t.options.dry_run as (λ b. Takes (if b then [] else written_effects t f s w x ++ reject_effects t w x)) [
      | true ↦ tt
      | false ↦ takes_both (written_effects t f s w x) (reject_effects t w x) takes_written (takes_put (has_rejects t x.verdicts) w.reject (rejects_text t w x.side x.verdicts))
    ]

-- ---- files that are kept

kept_tests : (define out nothing posix empty link moving nodef del : Bool) → (define || (posix && (not empty && not link))) ≡ true → (nothing && not (out || define || moving) && ((empty || link) || ((not posix && nodef) && del))) ≡ false
kept_tests define out false posix empty link moving nodef del is = refl
kept_tests true true true posix empty link moving nodef del is = refl
kept_tests true false true posix empty link moving nodef del is = refl
kept_tests false out true false empty link moving nodef del is = absurd (false≢true is)
kept_tests false out true true true link moving nodef del is = absurd (false≢true is)
kept_tests false out true true false true moving nodef del is = absurd (false≢true is)
kept_tests false true true true false false moving nodef del is = refl
kept_tests false false true true false false true nodef del is = refl
kept_tests false false true true false false false nodef del is = refl

no_removal : (t : PlainContext) (x : Tried) → keeps_files t.options t.item.patch ≡ true → is_removal t x ≡ false
no_removal t x is =
    kept_tests (is_some t.options.define) (is_some t.options.output) (is_nothing x.text) t.options.posix t.options.remove_empty (is_link t.item.patch) (moves t.item.patch) (is_none t.options.define) (deletes x.side t.item.patch) is

start_takes : (t : PlainContext) (f : Files) (s : Start) → keeps_files t.options t.item.patch ≡ true → TakesItsSource t (ending_of t f s)
start_takes t f (skips said row taken) is = tt
start_takes t f (refuses said fault) is = tt
start_takes t f (tries said place side) is =
    let st = finished_at t f said place side in
    let x = tried t side (lines_in (bytes_of t f place)) in
    takes_effects (IsSource t st.row) t f (target_at t.item.targets place) (written t place) x (no_removal t x is) (λ moves. (moves, (place, (refl, refl))))

pub takes_source : (t : PlainContext) (f : Files) → keeps_files t.options t.item.patch ≡ true → TakesItsSource t (ending t f)
unfolding ending
takes_source t f is = start_takes t f (start t f) is

-- ---- a run without renames

-- what can't be has no name
none_of : (P : List ℕ → Type 0) (names : List (List ℕ)) → ((name : List ℕ) → P name → ⊥) → AllByRecursion P names → names ≡ []
none_of P [] none all = refl
none_of P (name ∷ names) none all = absurd (none name all.0)

removed-both : (xs ys : List Effect) → removed_in (xs ++ ys) ≡ removed_in xs ++ removed_in ys
removed-both [] ys = refl
removed-both (Put name bytes ∷ xs) ys = removed-both xs ys
removed-both (Remove name ∷ xs) ys = ap (λ (l : List (List ℕ)). name ∷ l) (removed-both xs ys)

removed-more : (xs ys : List Effect) → removed_in xs ≡ [] → removed_in ys ≡ [] → removed_in (xs ++ ys) ≡ []
removed-more xs ys one other = removed-both xs ys ∙ ap (λ (l : List (List ℕ)). l ++ removed_in ys) one ∙ other

with_none : (t : PlainContext) (r : Run) (e : Ending) → renames t.item.patch ≡ false → TakesItsSource t e → removed_in r.effects ≡ [] → removed_in (with_ending t r e).effects ≡ []
with_none t r (ended st) stays takes none =
    removed-more r.effects st.effects none (none_of (IsSource t st.row) (removed_in st.effects) (λ name is. false≢true (sym stays ∙ is.0)) takes)
with_none t r (stopped said fault) stays takes none = none

item_none : (o : PlainOptions) (output : Option Target) (r : Run) (i : Item) → keeps_files o i.patch ≡ true → renames i.patch ≡ false → removed_in r.effects ≡ [] → removed_in (with_item o output r i).effects ≡ []
item_none o output r i keeps stays none =
    let t = turn_of o output r i in
    elim r.stop as (λ x. removed_in (if_going x r (with_ending t r (ending t r.files))).effects ≡ []) [
      | None ↦ with_none t r (ending t r.files) stays (takes_source t r.files keeps) none
      | Some fault ↦ none
    ]

on_none : (o : PlainOptions) (output : Option Target) (items : List Item) (r : Run) → AllByRecursion (λ i. keeps_files o i.patch ≡ true) items → AllByRecursion (λ i. renames i.patch ≡ false) items → removed_in r.effects ≡ [] → removed_in (run_on o output items r).effects ≡ []
unfolding run_on
on_none o output [] r keeps stay none = none
on_none o output (i ∷ items) r keeps stay none = on_none o output items (with_item o output r i) keeps.1 stay.1 (item_none o output r i keeps.0 stay.0 none)

pub none_removed : (o : PlainOptions) (output : Option Target) (items : List Item) (f : Files) → AllByRecursion (λ i. keeps_files o i.patch ≡ true) items → AllByRecursion (λ i. renames i.patch ≡ false) items → removed_in (run_of o output items f).effects ≡ []
none_removed o output items f keeps stay = on_none o output items (begun f) keeps stay refl
