-- The files behind a file patch whose hunks were tried.
use Rattle.std.proofs.Common.{◌≡◌, ◌≢◌, ℕ, List, [], Bool, true, false, not, ◌&&◌, ◌||◌, bytes_eq, is_some, Option, Some, refl, sym, ◌∙◌, ap, subst}
use Rattle.std.proofs.lemmas.Bool.{false≢true}
use Rattle.std.proofs.lemmas.Slice.Eq.{bytes_eq-Decides}
use Rattle.std.specs.FinMap.{get}
use Rattle.outside.specs.Files.{Files}
use Rattle.outside.specs.Quiet.{Effect, after_all}
use Rattle.hunk_core.specs.declared.Side.{Side}
use Rattle.line_list.specs.Lines.{lines}
use Rattle.read_file_patch.specs.declared.derived.Target.{Target}
use Rattle.apply_task.specs.Named.{IsNamed}
use Rattle.apply_task.proofs.EffectLists.{after_all-append}
use Rattle.apply_task.specs.Asking.{renames}
use Rattle.patch_run.specs.OnePatch.{PlainContext, Tried, bytes_of, lines_in, target_at, written, tried, output_on, is_written, is_removal, written_effects, reject_effects, effects_of, has_rejects, rejects_text, wrote, finished_at}
use Rattle.patch_run.specs.Run.{cleared}
use Rattle.patch_run.specs.Laws.{IsRenamed, IsApart, tried_files}
use Rattle.apply_outcome.proofs.Writing.{effects_split, wrote_as}
use Rattle.patch_run.proofs.Renaming.{renamed}
use Rattle.patch_run.proofs.Standing.{others_put, all_stays, cleared_stays, effects_others}

-- ---- one that renames no file

pub others_kept : (t : PlainContext) (f : Files) (k : ℕ) (side : Side) (name : List ℕ) → renames t.item.patch ≡ false → IsApart name (written t k) → get (tried_files t f k side) name ≡ get f name
others_kept t f k side name stays aside =
    let st = finished_at t f [] k side in
    let s = target_at t.item.targets k in
    let w = written t k in
    let x = tried t side (lines_in (bytes_of t f k)) in
    cleared_stays name aside.lasting st.cleared (after_all st.effects f)
    ∙ all_stays name aside.lasting st.effects f
    (effects_others name t f s w x aside.backup (λ moves. absurd (false≢true (sym stays ∙ moves))) aside.reject (λ is. aside.own) (λ is moves. absurd (false≢true (sym stays ∙ moves))))

-- ---- one that renames a file

wrote_wet : (t : PlainContext) (f : Files) (w : Target) (x : Tried) → wrote t f w x ≡ true → t.options.dry_run ≡ false
unfolding wrote
wrote_wet t f w x is = by t.options.dry_run (is_written t x) (not (is_removal t x) || is_some (get f w.name)) is
  where
    by : (dry a b : Bool) → (not dry && a && b) ≡ true → dry ≡ false
    by true a b is = absurd (false≢true is)
    by false a b is = refl

one_of : (a b : Bool) → (a && b) ≡ true → a ≡ true
one_of true b is = refl
one_of false b is = is

differing : (a b : List ℕ) → a ≢ b → bytes_eq a b ≡ false
differing a b ne = by (bytes_eq a b) refl
  where
    by : (c : Bool) → bytes_eq a b ≡ c → c ≡ false
    by true is = absurd (ne ((bytes_eq-Decides a b).0 is))
    by false is = refl

moving_is : (a b c : Bool) → a ≡ true → b ≡ false → c ≡ true → (a && not b && c) ≡ true
moving_is true false true one two three = refl
moving_is true true c one two three = absurd (false≢true (sym two))
moving_is true false false one two three = absurd (false≢true three)
moving_is false b c one two three = absurd (false≢true one)

module _ (t : PlainContext) (f : Files) (s w : Target) (moves : renames t.item.patch ≡ true) (differ : s.name ≢ w.name) (there : is_some (get f s.name) ≡ true) (source : IsNamed s) (named : IsNamed w) (apart_own : w.name ≢ w.reject) (apart_source : s.name ≢ w.reject) where
  -- whatever else is cleared
  renamed_behind : (x : Tried) (c : Option (List ℕ)) → wrote t f w x ≡ true → IsRenamed (cleared c (after_all (effects_of t f s w x) f)) s w x.output
  renamed_behind x c is =
      let wet = wrote_wet t f w x is in
      let written = one_of (is_written t x) (not (is_removal t x) || is_some (get f w.name)) (sym (wrote_as t f s w x wet) ∙ is) in
      let moving = moving_is (renames t.item.patch) (bytes_eq s.name w.name) (is_some (get f s.name)) moves (differing s.name w.name differ) there in
      let base = renamed t f s w x named moving written in
      let es = effects_of t f s w x in
      let made = written_effects t f s w x in
      let rejects = reject_effects t w x in
      let all : after_all es f ≡ after_all rejects (after_all made f) = ap (λ (l : List Effect). after_all l f) (effects_split t f s w x wet) ∙ after_all-append made rejects f in
      let text = rejects_text t w x.side x.verdicts in
      record {
        target =
            cleared_stays w.name named.lasting.own c (after_all es f)
            ∙ ap (λ (g : Files). get g w.name) all
            ∙ all_stays w.name named.lasting.own rejects (after_all made f) (others_put w.name (has_rejects t x.verdicts) w.reject text apart_own)
            ∙ base.target;
        source =
            cleared_stays s.name source.lasting.own c (after_all es f)
            ∙ ap (λ (g : Files). get g s.name) all
            ∙ all_stays s.name source.lasting.own rejects (after_all made f) (others_put s.name (has_rejects t x.verdicts) w.reject text apart_source)
            ∙ base.source;
      }

pub renamed_splices : (t : PlainContext) (f : Files) (k : ℕ) (side : Side) (bytes : List ℕ) → renames t.item.patch ≡ true
    → (target_at t.item.targets k).name ≢ (written t k).name → get f (target_at t.item.targets k).name ≡ Some bytes → IsNamed (target_at t.item.targets k) → IsNamed (written t k)
    → (written t k).name ≢ (written t k).reject → (target_at t.item.targets k).name ≢ (written t k).reject
    → wrote t f (written t k) (tried t side (lines bytes)) ≡ true
    → IsRenamed (tried_files t f k side) (target_at t.item.targets k) (written t k) (output_on t.options.define t side (lines bytes))
renamed_splices t f k side bytes moves differ held source named own other is =
    let s = target_at t.item.targets k in
    let w = written t k in
    let st = finished_at t f [] k side in
    let x = tried t side (lines bytes) in
    let same : tried t side (lines_in (bytes_of t f k)) ≡ x = ap (λ (o : Option (List ℕ)). tried t side (lines_in o)) held in
    subst (λ (y : Tried). IsRenamed (cleared st.cleared (after_all (effects_of t f s w y) f)) s w x.output) (sym same)
    (renamed_behind t f s w moves differ (ap (λ (o : Option (List ℕ)). is_some o) held) source named own other x st.cleared is)
