-- What a reject file holds behind a run.
use Rattle.std.proofs.Common.{◌≡◌, ℕ, zero, suc, ◌+◌, ◌<◌, List, [], ◌∷◌, ◌++◌, length, replicate, Bool, true, false, not, ◌&&◌, ◌||◌, if◌then◌else◌, cond, bytes_eq, nat_lt, Option, None, Some, refl, sym, ◌∙◌, ap, arith}
use Rattle.std.proofs.lemmas.Bool.{false≢true, or_parts}
use Rattle.std.proofs.lemmas.List.{append-nil}
use Rattle.std.proofs.lemmas.List.Concat.{flat_map-append}
use Rattle.std.proofs.lemmas.List.Folds.{list_any-append}
use Rattle.std.proofs.lemmas.List.Sums.{sum_by-cons}
use Rattle.std.proofs.lemmas.Slice.Eq.{bytes_eq-Decides}
use Rattle.std.specs.List.{list_any, flat_map}
use Rattle.std.specs.Option.{option_map}
use Rattle.std.specs.FinMap.{get, insert}
use Rattle.outside.specs.Files.{Files, is_temp, temp_of}
use Rattle.outside.specs.Quiet.{Effect, after_all}
use Rattle.outside.specs.Quiet.Effect.{Put}
use Rattle.outside.proofs.Names.{apart, temp_of_is_temp, get-put, get-gone_other}
use Rattle.hunk_core.specs.declared.Side.{Side}
use Rattle.hunk_core.specs.declared.Verdict.{Verdict}
use Rattle.hunk_core.specs.declared.Verdict.TheVariants.{Ignored}
use Rattle.hunk_apply.specs.Session.{is_failed}
use Rattle.patch_options.specs.PlainJob.{PlainOptions}
use Rattle.read_file_patch.specs.declared.derived.Target.{Target}
use Rattle.patch_set.specs.declared.set.Row.{Row}
use Rattle.apply_task.specs.TargetEffects.{put_if}
use Rattle.apply_task.proofs.EffectLists.{after_all-append}
use Rattle.patch_run.specs.OnePatch.{Item, PastFilePatch, PlainContext, Start, skips, refuses, tries, Ending, ended, stopped, Tried, total, bytes_of, lines_in, target_at, written, written_by, tried, failed, written_effects, effects_of, finished_at, is_unrejected, has_rejects, own_reject, mark_of, is_name, text_if, rejected_before, start, ending_of, ending}
use Rattle.patch_run.specs.Run.{Run, begun, files_after, turn_of, with_ending, if_going, with_item, run_on, run_of}
use Rattle.patch_run.specs.Laws.{targets_in, is_kept_for, rejects_to}
use Rattle.apply_start.proofs.Places.{IsTriedWithin, start_within}
use Rattle.patch_run.proofs.Naming.{IsNoneOf, none_at, none_written, none_first, written_is}
use Rattle.patch_run.proofs.Standing.{Others, all_stays, cleared_stays, written_others}
use Rattle.patch_run.proofs.Unwritten.{unlike}

-- a file patch of which each hunk is ignored has no rejects
none_failed : (n : ℕ) → failed (replicate n Ignored) ≡ 0
none_failed zero = refl
none_failed (suc n) =
    let step : failed (replicate (suc n) Ignored) ≡ 0 + failed (replicate n Ignored) = sum_by-cons (λ (v : Verdict). cond (is_failed v) 1 0) Ignored (replicate n Ignored) in
    omega (arith, step, none_failed n)

-- rejects of so many bytes, or none
abbrev text_in : List ℕ → Option (List ℕ × List ℕ) → Option (List ℕ) → List ℕ → Option (List ℕ)
text_in q rejected held before = if is_name q (option_map (λ r. r.0) rejected) then Some (before ++ text_if q rejected) else held

module _ (q : List ℕ) (lasting : is_temp q ≡ false) where
  abbrev kept_for : Target → Bool
  kept_for w = bytes_eq q w.name || bytes_eq q w.backup

  -- ---- one file patch whose hunks were tried

  module _ (t : PlainContext) (f : Files) (s w : Target) (x : Tried) (others : t.options.dry_run ≡ false → Others q (written_effects t f s w x)) where
    -- its rejects, with the name of their file
    abbrev mine : Bool → Bool → Option (List ℕ × List ℕ)
    mine has dry = if has && not dry then Some (w.reject, own_reject t w x.side x.verdicts) else None

    abbrev with_rejects : Bool → List Effect
    with_rejects has = written_effects t f s w x ++ put_if has w.reject (rejected_before t.past w.reject ++ own_reject t w x.side x.verdicts)

    put_rejects : t.options.dry_run ≡ false → (b : Bool) → bytes_eq q w.reject ≡ b
        → get (after_all (with_rejects true) f) q ≡ (if b then Some (rejected_before t.past q ++ (if b then own_reject t w x.side x.verdicts else [])) else get f q)
    put_rejects wet true is =
        let made = written_effects t f s w x in
        let g = after_all made f in
        let text = rejected_before t.past w.reject ++ own_reject t w x.side x.verdicts in
        let eq : q ≡ w.reject = (bytes_eq-Decides q w.reject).0 is in
        ap (λ (h : Files). get h q) (after_all-append made (Put w.reject text ∷ []) f)
        ∙ get-gone_other (insert g w.reject text) (temp_of w.reject) q (apart q (temp_of w.reject) lasting (temp_of_is_temp w.reject))
        ∙ ap (λ (n : List ℕ). get (insert g w.reject text) n) eq
        ∙ get-put g w.reject text
        ∙ ap (λ (n : List ℕ). Some (rejected_before t.past n ++ own_reject t w x.side x.verdicts)) (sym eq)
    put_rejects wet false is =
        let made = written_effects t f s w x in
        let text = rejected_before t.past w.reject ++ own_reject t w x.side x.verdicts in
        ap (λ (h : Files). get h q) (after_all-append made (Put w.reject text ∷ []) f)
        ∙ all_stays q lasting (Put w.reject text ∷ []) (after_all made f) (unlike q w.reject is, tt)
        ∙ all_stays q lasting made f (others wet)

    by_effects : (dry has : Bool) → t.options.dry_run ≡ dry → get (after_all (if dry then [] else with_rejects has) f) q ≡ text_in q (mine has dry) (get f q) (rejected_before t.past q)
    by_effects true true is = refl
    by_effects true false is = refl
    by_effects false false is = ap (λ (l : List Effect). get (after_all l f) q) (append-nil (written_effects t f s w x)) ∙ all_stays q lasting (written_effects t f s w x) f (others is)
    by_effects false true is = put_rejects is (bytes_eq q w.reject) refl

    effects_reject : get (after_all (effects_of t f s w x) f) q ≡ text_in q (mine (has_rejects t x.verdicts) t.options.dry_run) (get f q) (rejected_before t.past q)
    unfolding effects_of
    effects_reject = by_effects t.options.dry_run (has_rejects t x.verdicts) refl

    mark_rejects : (r : Row) → r.side ≡ x.side → written_by t r ≡ Some w → (mark_of t r x.verdicts).rejected ≡ mine (has_rejects t x.verdicts) t.options.dry_run
    unfolding mark_of
    mark_rejects r from is =
        let dry = t.options.dry_run in
        ap (λ (o : Option Target). if has_rejects t x.verdicts && not dry then option_map (λ y. (y.reject, own_reject t y r.side x.verdicts)) o else None) is
        ∙ ap (λ (side : Side). if has_rejects t x.verdicts && not dry then Some (w.reject, own_reject t w side x.verdicts) else None) from

  tried_rejects : (t : PlainContext) (f : Files) (said : List ℕ) (place : ℕ) (side : Side) → place < length t.item.targets → IsNoneOf kept_for t.output t.item
      → get (files_after (finished_at t f said place side) f) q ≡ text_in q (mark_of t (finished_at t f said place side).row (finished_at t f said place side).verdicts).rejected (get f q) (rejected_before t.past q)
  tried_rejects t f said place side less none =
      let st = finished_at t f said place side in
      let s = target_at t.item.targets place in
      let w = written t place in
      let x = tried t side (lines_in (bytes_of t f place)) in
      let of_w = or_parts (bytes_eq q w.name) (bytes_eq q w.backup) (none_written kept_for t place none less) in
      let of_s = or_parts (bytes_eq q s.name) (bytes_eq q s.backup) (none_at kept_for t.item.targets place none.own less) in
      let others : t.options.dry_run ≡ false → Others q (written_effects t f s w x) = λ wet. written_others q t f s w x (unlike q w.backup of_w.1) (λ moves. unlike q s.backup of_s.1) (λ is. unlike q w.name of_w.0) (λ is moves. unlike q s.name of_s.0) wet in
      cleared_stays q lasting st.cleared (after_all st.effects f)
      ∙ effects_reject t f s w x others
      ∙ ap (λ (r : Option (List ℕ × List ℕ)). text_in q r (get f q) (rejected_before t.past q)) (sym (mark_rejects t f s w x others st.row refl (written_is t st.row place refl less)))

  -- ---- any file patch

  -- what stands there behind it is told by its mark
  abbrev Rejects : PlainContext → Files → Ending → Type 0
  Rejects t f (ended st) = get (files_after st f) q ≡ text_in q (mark_of t st.row st.verdicts).rejected (get f q) (rejected_before t.past q)
  Rejects t f (stopped said fault) = Unit {0}

  unrejected : (t : PlainContext) (r : Row) → (mark_of t r (replicate (total t) Ignored)).rejected ≡ None
  unfolding mark_of
  unrejected t r =
      ap (λ n. if (nat_lt 0 n && not (is_unrejected t.options t.item.patch.change)) && not t.options.dry_run then option_map (λ w. (w.reject, own_reject t w r.side (replicate (total t) Ignored))) (written_by t r) else None) (none_failed (total t))

  start_rejects : (t : PlainContext) (f : Files) (s : Start) → IsTriedWithin (length t.item.targets) s → IsNoneOf kept_for t.output t.item → Rejects t f (ending_of t f s)
  start_rejects t f (skips said row taken) less none = ap (λ (r : Option (List ℕ × List ℕ)). text_in q r (get f q) (rejected_before t.past q)) (sym (unrejected t row))
  start_rejects t f (refuses said fault) less none = tt
  start_rejects t f (tries said place side) less none = tried_rejects t f said place side less none

  ending_rejects : (t : PlainContext) (f : Files) → IsNoneOf kept_for t.output t.item → Rejects t f (ending t f)
  unfolding ending
  ending_rejects t f none = start_rejects t f (start t f) (start_within t f) none

  -- ---- a run

  -- where rejects went there, it holds them all
  abbrev HoldsRejects : Run → Type 0
  HoldsRejects r = list_any (rejects_to q) r.past ≡ true → get r.files q ≡ Some (rejected_before r.past q)

  no_text : (r : Option (List ℕ × List ℕ)) → is_name q (option_map (λ x. x.0) r) ≡ false → text_if q r ≡ []
  no_text None is = refl
  no_text (Some r) is = ap (λ b. if b then r.1 else []) is

  before_more : (past : List PastFilePatch) (m : PastFilePatch) → rejected_before (past ++ m ∷ []) q ≡ rejected_before past q ++ text_if q m.rejected
  unfolding rejected_before
  before_more past m =
      flat_map-append (λ (x : PastFilePatch). text_if q x.rejected) past (m ∷ [])
      ∙ ap (λ (l : List ℕ). flat_map (λ (x : PastFilePatch). text_if q x.rejected) past ++ l) (append-nil (text_if q m.rejected))

  or_false : (a b : Bool) → b ≡ false → (a || (b || false)) ≡ a
  or_false true b is = refl
  or_false false b is = ap (λ x. x || false) is

  with_rejects_too : (t : PlainContext) (r : Run) (e : Ending) → t.past ≡ r.past → Rejects t r.files e → HoldsRejects r → HoldsRejects (with_ending t r e)
  with_rejects_too t r (ended st) same here holds = by (rejects_to q (mark_of t st.row st.verdicts)) refl
    where
      by : (b : Bool) → rejects_to q (mark_of t st.row st.verdicts) ≡ b → HoldsRejects (with_ending t r (ended st))
      by true is any =
          here
          ∙ ap (λ c. if c then Some (rejected_before t.past q ++ text_if q (mark_of t st.row st.verdicts).rejected) else get r.files q) is
          ∙ ap (λ (l : List PastFilePatch). Some (rejected_before l q ++ text_if q (mark_of t st.row st.verdicts).rejected)) same
          ∙ ap (λ (l : List ℕ). Some l) (sym (before_more r.past (mark_of t st.row st.verdicts)))
      by false is any =
          let one = mark_of t st.row st.verdicts in
          let was : list_any (rejects_to q) r.past ≡ true = sym (list_any-append (rejects_to q) r.past (one ∷ []) ∙ or_false (list_any (rejects_to q) r.past) (rejects_to q one) is) ∙ any in
          here
          ∙ ap (λ c. if c then Some (rejected_before t.past q ++ text_if q one.rejected) else get r.files q) is
          ∙ holds was
          ∙ ap (λ (l : List ℕ). Some l) (sym (before_more r.past one ∙ ap (λ (l : List ℕ). rejected_before r.past q ++ l) (no_text one.rejected is) ∙ append-nil (rejected_before r.past q)))
  with_rejects_too t r (stopped said fault) same here holds = holds

  item_rejects : (o : PlainOptions) (output : Option Target) (r : Run) (i : Item) → IsNoneOf kept_for output i → HoldsRejects r → HoldsRejects (with_item o output r i)
  item_rejects o output r i none holds =
      let t = turn_of o output r i in
      elim r.stop as (λ x. HoldsRejects (if_going x r (with_ending t r (ending t r.files)))) [
        | None ↦ with_rejects_too t r (ending t r.files) refl (ending_rejects t r.files none) holds
        | Some fault ↦ holds
      ]

  on_rejects : (o : PlainOptions) (output : Option Target) (items : List Item) (r : Run) → list_any kept_for (targets_in output items) ≡ false → HoldsRejects r → HoldsRejects (run_on o output items r)
  unfolding run_on
  on_rejects o output [] r none holds = holds
  on_rejects o output (i ∷ items) r none holds =
      let first = none_first kept_for output i items none in
      on_rejects o output items (with_item o output r i) first.1 (item_rejects o output r i first.0 holds)

  pub run_rejects : (o : PlainOptions) (output : Option Target) (items : List Item) (f : Files) → is_kept_for q (targets_in output items) ≡ false → HoldsRejects (run_of o output items f)
  run_rejects o output items f none = on_rejects o output items (begun f) none (λ any. absurd (false≢true any))
