-- The ends of a run over the file patches of a set.
use Rattle.std.proofs.Common.{◌≡◌, inl, inr, ⊎_elim, ℕ, ◌+◌, ◌<◌, List, [], ◌∷◌, ◌++◌, length, take, get_or, Bool, Option, Result, Ok, Err, IfErr, sym, ◌∙◌, ap, subst, arith, length-append}
use Rattle.std.proofs.lemmas.List.{take_more, take_more_set, take_all, same_from_push}
use Rattle.std.specs.Result.{IsErrAnd}
use Rattle.outside.specs.Files.{Files}
use Rattle.outside.specs.TreeView.{TreeView, passes_both, told_on}
use Rattle.outside.specs.SinkView.{SinkView, sink_passes_both}
use Rattle.hunk_core.specs.declared.Verdict.{Verdict}
use Rattle.apply_task.specs.Outputs.{verdicts_over}
use Rattle.read_file_patch.specs.declared.FilePatch.{FilePatch}
use Rattle.read_file_patch.specs.PlainPatch.{patch_of, row_count}
use Rattle.line_store.specs.Store.{Seen}
use Rattle.patch_options.specs.PlainJob.{PlainOptions}
use Rattle.patch_set.specs.declared.set.Row.{Row}
use Rattle.patch_set.specs.SetView.{SetView, with_row, hunks_in}
use Rattle.read_file_patch.specs.declared.derived.Target.{Target}
use Rattle.apply_task.specs.declared.fault.RunFault.{RunFault}
use Rattle.apply_task.specs.declared.fault.RunFault.TheVariants.{Tree, Write, Scratch, LongLine, FileTooLong, Disagree, Memory}
use Rattle.patch_run.specs.Applied.{Receipt}
use Rattle.patch_run.specs.declared.one_patch.Done.{Done}
use Rattle.apply_start.specs.Devices.{Told}
use Rattle.patch_run.specs.OnePatch.{Item, ending}
use Rattle.patch_run.specs.Run.{Run, items_of, set_run}
use Rattle.apply_outcome.specs.Ready.{rows_in, turn_at}
use Rattle.patch_run.specs.Doing.{QuietAfter, Does, IsCutOff, IsCutAt, Runs, NoneFailed, EndsSo, IsReceipt, StaysSet, IsUntold, ArePlaced, IsPlacedOn, IsPlacedLast}
use Rattle.apply_task.proofs.Tidy.{tidy_both, unless_then}
use Rattle.patch_run.proofs.Folding.{cut_moments}
use Rattle.apply_outcome.proofs.Marks.{rows-last}
use Rattle.patch_run.proofs.Going.{Goes, IsAt, IsNext, run_to, same-items, same-run, all-run, plan_both, cause_then, at_fault, at_cut}

quiet_still : (R S : Type 0) (w : TreeView) (fault : RunFault) → QuietAfter {R = R} (Err fault) w → QuietAfter {R = S} (Err fault) w
quiet_still R S w Tree quiet = tt
quiet_still R S w Write quiet = tt
quiet_still R S w Scratch quiet = tt
quiet_still R S w (LongLine line count) quiet = quiet
quiet_still R S w (FileTooLong count) quiet = quiet
quiet_still R S w (Disagree want got) quiet = tt
quiet_still R S w Memory quiet = tt

module _ (u x w : TreeView) (a b b' : Seen) (c d e : SinkView) {scratch_after : ℕ → List ℕ → Option (List ℕ) → Option (List ℕ)} {is_bad : Bool} {count : ℕ} (o : PlainOptions) (old v : SetView) (k : ℕ) (p : FilePatch) (vs ws : List Verdict) (next : IsNext v k p vs ws) (stays : StaysSet old v) (goes : Goes u x a b c d)
    (at : (f : Files) → Told u a f → IsAt u x a b c d scratch_after o v k vs is_bad count (run_to o v k f)) where
  cut_at : (fault : RunFault) → Does x w b b' d e scratch_after (Err fault) (rows_in ws p) (ending (turn_at o v k vs p)) → (f : Files) → Told u a f → IsCutOff fault u w c e (set_run o old f)
  cut_at fault does f told =
      let was = at f told in
      subst (λ (r : Run). IsCutOff fault u w c e r) (same-run o old v f stays)
      (at_fault o v k p vs ws next f u x w a b b' c d e was fault does.stays.tree (does.broken (run_to o v k f).files (was.far.now, goes.plan.telling ∙ told.1)))

  -- a fault within a file patch
  pub runs_cut : {R : Type 0} (fault : RunFault) (s : Result R RunFault) → IsErrAnd s (λ y. y ≡ fault) → Does x w b b' d e scratch_after (Err fault) (rows_in ws p) (ending (turn_at o v k vs p)) → Runs u w a b' c e scratch_after s (set_run o old)
  runs_cut fault (Ok y) is does = absurd is
  runs_cut {R = R} fault (Err y) is does =
      subst (λ (z : RunFault). Runs {R = R} u w a b' c e scratch_after (Err z) (set_run o old)) (sym is)
      (record {
        stays = record { tree = passes_both goes.tree does.stays.tree; plan = plan_both goes.plan does.stays.plan; sink = sink_passes_both goes.sink does.stays.sink; cause = cause_then u x w a b b' c d e fault goes does.stays.cause };
        quiet = quiet_still Done R w fault does.quiet;
        tidy = unless_then fault (tidy_both u x w goes.tree goes.tidy) does.tidy;
        whole = tt;
        going = tt;
        scratch = tt;
        cut = cut_at fault does;
        moments = λ f told. cut_moments u w c e fault (set_run o old f) (cut_at fault does f told);
      })

  ends_at : (fault : RunFault) → Does x w b b' d e scratch_after (Err fault) (rows_in ws p) (ending (turn_at o v k vs p)) → (f : Files) → Told u a f → IsCutAt fault w c e o old.output (items_of old) f
  ends_at fault does f told =
      let was = at f told in
      let mid : Told x b (run_to o v k f).files = (was.far.now, goes.plan.telling ∙ told.1) in
      subst (λ (y : Option Target). IsCutAt fault w c e o y (items_of old) f) stays.output
      (subst (λ (l : List Item). IsCutAt fault w c e o v.output l f) (same-items old v stays)
      (at_cut o v k p vs ws next f u x w a b b' c d e was fault does.stays.tree (does.broken (run_to o v k f).files mid) (does.order (run_to o v k f).files mid) (does.kept (run_to o v k f).files mid)))

  pub cut_ends : {R : Type 0} (fault : RunFault) (s : Result R RunFault) → IsErrAnd s (λ y. y ≡ fault) → Does x w b b' d e scratch_after (Err fault) (rows_in ws p) (ending (turn_at o v k vs p))
      → IfErr s (λ y. (f : Files) → Told u a f → IsCutAt y w c e o old.output (items_of old) f)
  cut_ends fault (Ok y) is does = tt
  cut_ends fault (Err y) is does = subst (λ (z : RunFault). (f : Files) → Told u a f → IsCutAt z w c e o old.output (items_of old) f) (sym is) (ends_at fault does)

-- after the last file patch
module _ {u w : TreeView} {a b : Seen} {c d : SinkView} {scratch_after : ℕ → List ℕ → Option (List ℕ) → Option (List ℕ)} {is_bad : Bool} {count : ℕ} (o : PlainOptions) (old v : SetView) (k : ℕ) (vs : List Verdict) (all : k ≡ length v.patches) (stays : StaysSet old v)
    (at : (f : Files) → Told u a f → IsAt u w a b c d scratch_after o v k vs is_bad count (run_to o v k f)) where
  at_all : (f : Files) → Told u a f → IsAt u w a b c d scratch_after o v k vs is_bad count (set_run o old f)
  at_all f told = subst (λ (r : Run). IsAt u w a b c d scratch_after o v k vs is_bad count r) (all-run o v k f all ∙ same-run o old v f stays) (at f told)

  pub runs_all : {R : Type 0} (y : R) → Goes u w a b c d → Runs u w a b c d scratch_after (Ok y) (set_run o old)
  runs_all y goes = record {
    stays = record { tree = goes.tree; plan = goes.plan; sink = goes.sink; cause = tt };
    quiet = goes.quiet;
    tidy = goes.tidy;
    whole = λ f told. (at_all f told).far;
    going = λ f told. (at_all f told).going;
    scratch = λ f told. (at_all f told).scratch;
    cut = tt;
    moments = λ f told. (at_all f told).far.made.since;
  }

  pub receipt_all : (done : ℕ) (given : Receipt) → length vs ≡ hunks_in v.patches → length v.rows ≡ length v.patches → given ≡ record { is_bad = is_bad; done = done; effects = count } → done ≡ length old.patches
      → (f : Files) → Told u a f → IsReceipt (set_run o old f) given (length old.patches) vs v.rows
  receipt_all done given long rows is whole f told =
      let come = at_all f told in
      let receipt : Bool → ℕ → ℕ → Receipt = λ bad n m. record { is_bad = bad; done = n; effects = m } in
      let front : hunks_in (take k v.patches) ≡ length vs = ap (λ (l : List FilePatch). hunks_in l) (take_all k v.patches (omega (arith, all))) ∙ sym long in
      record {
        receipt = is ∙ ap (λ b. receipt b done count) come.bad ∙ ap (λ n. receipt (set_run o old f).is_bad n count) whole ∙ ap (λ m. receipt (set_run o old f).is_bad (length old.patches) m) come.effects;
        verdicts = sym (come.verdicts ∙ take_all (hunks_in (take k v.patches)) vs (omega (arith, front)));
        rows = sym (come.rows ∙ take_all k v.rows (omega (arith, all, rows)));
      }

-- where no device has failed, the answer is how the run ends
pub ends_so : {R : Type 0} {u w : TreeView} {a b : Seen} {c d : SinkView} {scratch_after : ℕ → List ℕ → Option (List ℕ) → Option (List ℕ)} {run : Files → Run} (r : Result R RunFault) → Runs u w a b c d scratch_after r run
    → (f : Files) → Told u a f → NoneFailed u w a b c d → EndsSo r a (run f).stop
ends_so (Ok x) runs f told none = runs.going f told
ends_so (Err Tree) runs f told none = none.tree runs.stays.cause
ends_so (Err Write) runs f told none = none.sink runs.stays.cause
ends_so (Err Scratch) runs f told none = none.scratch runs.stays.cause
ends_so (Err (LongLine line count)) runs f told none = (runs.cut f told).0
ends_so (Err (FileTooLong count)) runs f told none = (runs.cut f told).0
ends_so (Err (Disagree want got)) runs f told none = runs.stays.cause.1 f told
ends_so (Err Memory) runs f told none = runs.stays.cause

-- ---- where hunks are placed

-- the hunks of the last of the first file patches are placed only on these lines
abbrev pub IsPlacedTo : Type 0 → PlainOptions → SetView → ℕ → List Verdict → List (List ℕ) → Type 0
IsPlacedTo Untold o v k verdicts lines = (p : FilePatch) (r : Row) (front : List FilePatch) (rows : List Row) → take k v.patches ≡ front ++ p ∷ [] → take k v.rows ≡ rows ++ r ∷ [] → IsPlacedOn Untold o v.text p verdicts r lines

pub placed_none : (Untold : Type 0) (o : PlainOptions) (v : SetView) (vs : List Verdict) (lines : List (List ℕ)) → IsPlacedTo Untold o v 0 vs lines
placed_none Untold o v vs lines p r front rows patches was =
    let more : length front + 1 ≡ 0 = sym (length-append front (p ∷ [])) ∙ sym (ap (λ (l : List FilePatch). length l) patches) in
    absurd (omega (arith, more))

pub placed_next : (Untold : Type 0) (o : PlainOptions) (v : SetView) (k : ℕ) (p : FilePatch) (row : Row) (ws : List Verdict) (lines : List (List ℕ)) → k < length v.patches → p ≡ get_or v.patches k p → length v.rows ≡ length v.patches
    → IsPlacedOn Untold o v.text p ws row lines → IsPlacedTo Untold o (with_row v k row) (k + 1) ws lines
placed_next Untold o v k p row ws lines lt at long placed q r front rows patches was =
    let one : q ≡ p = (same_from_push front (take k v.patches) q p (sym patches ∙ take_more v.patches k p lt ∙ ap (λ (x : FilePatch). take k v.patches ++ x ∷ []) (sym at))).1 in
    let other : r ≡ row = (same_from_push rows (take k v.rows) r row (sym was ∙ take_more_set v.rows k row (omega (arith, lt, long)))).1 in
    subst (λ (x : FilePatch). IsPlacedOn Untold o v.text x ws r lines) (sym one) (subst (λ (x : Row). IsPlacedOn Untold o v.text p ws x lines) (sym other) placed)

pub placed_all : (Untold : Type 0) (o : PlainOptions) (v : SetView) (k : ℕ) (ws : List Verdict) (lines : List (List ℕ)) → k ≡ length v.patches → length v.rows ≡ length v.patches → IsPlacedTo Untold o v k ws lines → IsPlacedLast Untold o v ws lines
placed_all Untold o v k ws lines all long placed p r front rows patches was =
    placed p r front rows (take_all k v.patches (omega (arith, all)) ∙ patches) (take_all k v.rows (omega (arith, all, long)) ∙ was)

pub placed_rows : (Untold : Type 0) (o : PlainOptions) (text : List ℕ) (front rest : List Verdict) (p : FilePatch) (r : Row) (lines : List (List ℕ)) → length front ≡ p.first_verdict
    → ArePlaced Untold (row_count p.change) (take (row_count p.change) rest) (verdicts_over o r.side (patch_of text p) lines)
    → IsPlacedOn Untold o text p (front ++ rest) r lines
placed_rows Untold o text front rest p r lines long placed =
    subst (λ (l : List Verdict). ArePlaced Untold (row_count p.change) l (verdicts_over o r.side (patch_of text p) lines)) (sym (rows-last front rest p long)) placed

-- what isn't told behind a part of a run wasn't in front of it
pub placed_earlier : (Later Untold : Type 0) (count : ℕ) (verdicts placed : List Verdict) → (Later → Untold) → ArePlaced Later count verdicts placed → ArePlaced Untold count verdicts placed
placed_earlier Later Untold count verdicts placed back are =
    ⊎_elim (λ ignored. inl ignored) (λ rest. inr (⊎_elim (λ same. inl same) (λ refused. inr (back refused.0, refused.1)) rest)) are

pub untold_earlier : {u v : TreeView} {a b : Seen} {c d : SinkView} → Goes u v a b c d → IsUntold v → IsUntold u
untold_earlier goes untold f told = let mid = told_on f goes.tree told in untold mid.0 mid.1
