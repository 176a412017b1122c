-- How far a run has come: the loop over the file patches of a set.
use Rattle.std.proofs.Common.{◌≡◌, ℕ, ◌+◌, ◌<◌, List, [], ◌∷◌, ◌++◌, length, map, take, drop, get_or, Bool, false, ◌||◌, Option, None, Some, Ok, refl, sym, ◌∙◌, ap, subst, arith, length-append}
use Rattle.std.proofs.lemmas.List.{append-nil, append_assoc, map_push, map_more, take_all, take_more_set, take-append-drop, take-map, length-map}
use Rattle.std.proofs.lemmas.List.Concat.{flat_map-append}
use Rattle.std.specs.List.{fold, flat_map}
use Rattle.std.specs.Option.{option_to_list}
use Rattle.outside.specs.Files.{Files}
use Rattle.outside.specs.TreeView.{TreeView, Passes, passes_none, passes_both, told_on}
use Rattle.outside.specs.SinkView.{SinkView, SinkPasses, sink_passes_none, sink_passes_both}
use Rattle.outside.specs.Quiet.{IsQuiet}
use Rattle.outside.proofs.Views.{rises_then}
use Rattle.outside.proofs.Effects.{made_none}
use Rattle.outside.proofs.Writing.{received_none}
use Rattle.hunk_core.specs.declared.Verdict.{Verdict}
use Rattle.read_file_patch.specs.declared.FilePatch.{FilePatch}
use Rattle.line_store.specs.Store.{Seen}
use Rattle.line_store.specs.Taking.{KeepsPlan}
use Rattle.patch_options.specs.PlainJob.{PlainOptions}
use Rattle.read_file_patch.specs.declared.derived.Target.{Target}
use Rattle.patch_set.specs.declared.set.Row.{Row}
use Rattle.patch_set.specs.declared.skipped.BinaryChange.{BinaryChange}
use Rattle.patch_set.specs.SetView.{SetView, hunks_in, with_row}
use Rattle.apply_task.specs.declared.fault.RunFault.{RunFault}
use Rattle.apply_task.specs.declared.fault.RunFault.TheVariants.{Tree, Write, Scratch, LongLine, FileTooLong, Disagree, Memory}
use Rattle.patch_run.specs.declared.one_patch.Done.{Done}
use Rattle.apply_start.specs.Devices.{Told, HasRunCause, scratch_with}
use Rattle.patch_run.specs.OnePatch.{Item, PastFilePatch, PlainContext, Story, Ending, ending, mark_of}
use Rattle.patch_run.specs.Run.{Run, run_on, turn_of, with_story, with_ending, run_of, item_of, moved_in, items_of, set_run}
use Rattle.apply_outcome.specs.Ready.{AreNumbered, marks, rows_in, turn_at}
use Rattle.apply_task.specs.Making.{IsTidy, UnlessFailed}
use Rattle.patch_run.specs.Doing.{Stays, IsDone, IsEnded, IsBroken, IsFar, IsCutOff, IsOrdered, IsCutAt, said_of, scratch_behind, StaysSet}
use Rattle.apply_task.proofs.Tidy.{tidy_none, tidy_both}
use Rattle.patch_run.proofs.Folding.{run-next, cut_off, cut_here, far_on}
use Rattle.apply_outcome.proofs.Marks.{verdicts-next, marks-next}

-- what passes over the devices while a run goes on
pub record Goes (u w : TreeView) (a b : Seen) (c d : SinkView) : Type 0 where
  pub tree : Passes u w
  pub plan : KeepsPlan a b
  pub sink : SinkPasses c d
  pub quiet : IsQuiet w
  pub tidy : IsTidy u w

pub goes_none : (u : TreeView) (a : Seen) (c : SinkView) → IsQuiet u → Goes u u a a c c
goes_none u a c quiet = record { tree = passes_none u; plan = record { faults = omega arith; telling = refl; size = refl; needs_memory = refl }; sink = sink_passes_none c; quiet = quiet; tidy = tidy_none u }

pub plan_both : {a b c : Seen} → KeepsPlan a b → KeepsPlan b c → KeepsPlan a c
plan_both x y = record { faults = omega (arith, x.faults, y.faults); telling = y.telling ∙ x.telling; size = y.size ∙ x.size; needs_memory = y.needs_memory ∙ x.needs_memory }

pub goes_on : {R : Type 0} {u v w : TreeView} {a b c : Seen} {d e g : SinkView} (x : R) → Goes u v a b d e → Stays v w b c e g (Ok x) → IsQuiet w → IsTidy v w → Goes u w a c d g
goes_on {u = u} {v = v} {w = w} x goes stays quiet tidy = record { tree = passes_both goes.tree stays.tree; plan = plan_both goes.plan stays.plan; sink = sink_passes_both goes.sink stays.sink; quiet = quiet; tidy = tidy_both u v w goes.tree goes.tidy tidy }

-- what is told is told on
pub told_then : {u v : TreeView} {a b : Seen} {c d : SinkView} (f : Files) → Goes u v a b c d → Told u a f → (g : Files) × Told v b g
told_then f goes told = let mid = told_on f goes.tree told.0 in (mid.0, (mid.1, goes.plan.telling ∙ told.1))

pub cause_then : (u v w : TreeView) (a b c : Seen) (d e g : SinkView) (x : RunFault) → Goes u v a b d e → HasRunCause x v w b c e g → HasRunCause x u w a c d g
cause_then u v w a b c d e g Tree goes cause = rises_then u v w goes.tree cause
cause_then u v w a b c d e g Write goes cause = λ small. omega (arith, cause small, goes.sink.counts)
cause_then u v w a b c d e g Scratch goes cause = λ small. omega (arith, cause small, goes.plan.faults)
cause_then u v w a b c d e g (LongLine line count) goes cause = omega (arith, cause, goes.plan.size)
cause_then u v w a b c d e g (FileTooLong count) goes cause = cause
cause_then u v w a b c d e g (Disagree want got) goes cause = (cause.0, λ f told. let mid = told_then f goes told in cause.1 mid.0 mid.1)
cause_then u v w a b c d e g Memory goes cause = sym goes.plan.needs_memory ∙ cause

-- the scratch holds one file more
fold-push : {A B : Type 0} (step : B → A → B) (r : B) (xs : List A) (x : A) → fold step r (xs ++ x ∷ []) ≡ step (fold step r xs) x
fold-push step r [] x = refl
fold-push step r (y ∷ xs) x = fold-push step (step r y) xs x

scratch-push : (scratch_after : ℕ → List ℕ → Option (List ℕ) → Option (List ℕ)) (size : ℕ) (before : Option (List ℕ)) (taken : List (List ℕ)) (x : Option (List ℕ))
    → scratch_behind scratch_after size before (taken ++ option_to_list x) ≡ scratch_with scratch_after size x (scratch_behind scratch_after size before taken)
scratch-push scratch_after size before taken None = ap (λ (l : List (List ℕ)). scratch_behind scratch_after size before l) (append-nil taken)
scratch-push scratch_after size before taken (Some bytes) = fold-push (λ scratch b. scratch_after size b scratch) before taken bytes

-- the first file patches of a set, so many of them
abbrev pub run_to : PlainOptions → SetView → ℕ → Files → Run
run_to o v k f = run_of o v.output (take k (items_of v)) f

-- where files are told the run has come so far: what the set holds is what its stories say, and the marks of the set are its past
pub record IsAt (u w : TreeView) (a b : Seen) (c d : SinkView) (scratch_after : ℕ → List ℕ → Option (List ℕ) → Option (List ℕ)) (o : PlainOptions) (v : SetView) (k : ℕ) (vs : List Verdict) (is_bad : Bool) (count : ℕ) (r : Run) : Type 0 where
  pub far : IsFar u w c d r
  pub going : r.stop ≡ None
  pub past : r.past ≡ marks o v k vs
  pub verdicts : flat_map (λ s. s.verdicts) r.stories ≡ take (hunks_in (take k v.patches)) vs
  pub rows : map (λ s. s.row) r.stories ≡ take k v.rows
  pub bad : is_bad ≡ r.is_bad
  pub effects : count ≡ length r.effects
  pub scratch : b.scratch ≡ scratch_behind scratch_after a.size a.scratch r.taken

-- before the first
pub at_none : (u : TreeView) (a : Seen) (c : SinkView) (scratch_after : ℕ → List ℕ → Option (List ℕ) → Option (List ℕ)) (o : PlainOptions) (v : SetView) (vs : List Verdict) (f : Files) → IsQuiet u → Told u a f
    → IsAt u u a a c c scratch_after o v 0 vs false 0 (run_to o v 0 f)
unfolding marks run_on
at_none u a c scratch_after o v vs f quiet told = record {
  far = record { made = made_none u quiet; said = received_none c; now = told.0 };
  going = refl;
  past = refl;
  verdicts = refl;
  rows = refl;
  bad = refl;
  effects = refl;
  scratch = refl;
}

item-next : (v : SetView) (k : ℕ) (p : FilePatch) → k < length v.patches → p ≡ get_or v.patches k p → take (k + 1) (items_of v) ≡ take k (items_of v) ++ item_of v.text v.skipped (moved_in v.patches) p ∷ []
item-next v k p lt at =
    take-map (item_of v.text v.skipped (moved_in v.patches)) (k + 1) v.patches
    ∙ map_more (item_of v.text v.skipped (moved_in v.patches)) v.patches k p lt
    ∙ ap (λ (x : FilePatch). map (item_of v.text v.skipped (moved_in v.patches)) (take k v.patches) ++ item_of v.text v.skipped (moved_in v.patches) x ∷ []) (sym at)
    ∙ ap (λ (l : List Item). l ++ item_of v.text v.skipped (moved_in v.patches) p ∷ []) (sym (take-map (item_of v.text v.skipped (moved_in v.patches)) k v.patches))

items-around : (v : SetView) (k : ℕ) (p : FilePatch) → k < length v.patches → p ≡ get_or v.patches k p → take k (items_of v) ++ item_of v.text v.skipped (moved_in v.patches) p ∷ drop (k + 1) (items_of v) ≡ items_of v
items-around v k p lt at =
    sym (append_assoc (take k (items_of v)) (item_of v.text v.skipped (moved_in v.patches) p ∷ []) (drop (k + 1) (items_of v)))
    ∙ ap (λ (l : List Item). l ++ drop (k + 1) (items_of v)) (sym (item-next v k p lt at))
    ∙ take-append-drop (k + 1) (items_of v)

-- the file patch whose turn it is
pub record IsNext (v : SetView) (k : ℕ) (p : FilePatch) (vs ws : List Verdict) : Type 0 where
  pub within : k < length v.patches
  pub at : p ≡ get_or v.patches k p
  pub numbered : AreNumbered 0 v.patches
  pub rows : length v.rows ≡ length v.patches
  pub before : take p.first_verdict ws ≡ take p.first_verdict vs

module _ (o : PlainOptions) (v : SetView) (k : ℕ) (p : FilePatch) (vs ws : List Verdict) (next : IsNext v k p vs ws) where
  same-turn : (r : Run) → r.past ≡ marks o v k vs → turn_of o v.output r (item_of v.text v.skipped (moved_in v.patches) p) ≡ turn_at o v k vs p
  same-turn r past =
      let turn : List PastFilePatch → PlainContext = λ l. record { options = o; output = v.output; item = item_of v.text v.skipped (moved_in v.patches) p; past = l } in
      ap turn past

  at_story : {u x w : TreeView} {a b b' : Seen} {c d e : SinkView} {scratch_after : ℕ → List ℕ → Option (List ℕ) → Option (List ℕ)} {is_bad : Bool} {count : ℕ} (r : Run) (done : Done) (s : Story) → b.size ≡ a.size → IsAt u x a b c d scratch_after o v k vs is_bad count r
      → IsDone x w d e done (rows_in ws p) r.files s → b'.scratch ≡ scratch_with scratch_after b.size s.taken b.scratch
      → IsAt u w a b' c e scratch_after o (with_row v k done.row) (k + 1) ws (is_bad || done.is_bad) (count + done.effects) (with_story (turn_at o v k vs p) r s)
  at_story {a = a} {b = b} {scratch_after = scratch_after} r done s size at does scratch =
      let t = turn_at o v k vs p in
      record {
        far = far_on t r s at.far does;
        going = refl;
        past =
            ap (λ (l : List PastFilePatch). l ++ mark_of t s.row s.verdicts ∷ []) at.past
            ∙ ap (λ (x : Row). marks o v k vs ++ mark_of t x s.verdicts ∷ []) (sym does.told.row)
            ∙ ap (λ (l : List Verdict). marks o v k vs ++ mark_of t done.row l ∷ []) (sym does.told.verdicts)
            ∙ sym (marks-next o v k p done.row vs ws next.numbered next.within next.rows next.at next.before);
        verdicts =
            flat_map-append (λ (x : Story). x.verdicts) r.stories (s ∷ [])
            ∙ ap (λ (l : List Verdict). flat_map (λ (x : Story). x.verdicts) r.stories ++ l) (append-nil s.verdicts)
            ∙ ap (λ (l : List Verdict). l ++ s.verdicts) at.verdicts
            ∙ ap (λ (l : List Verdict). take (hunks_in (take k v.patches)) vs ++ l) (sym does.told.verdicts)
            ∙ sym (verdicts-next vs ws k v.patches p next.numbered next.within next.at next.before);
        rows =
            map_push (λ (x : Story). x.row) r.stories s
            ∙ ap (λ (l : List Row). l ++ s.row ∷ []) at.rows
            ∙ ap (λ (x : Row). take k v.rows ++ x ∷ []) (sym does.told.row)
            ∙ sym (take_more_set v.rows k done.row (omega (arith, next.within, next.rows)));
        bad = ap (λ x. x || done.is_bad) at.bad ∙ ap (λ x. r.is_bad || x) does.told.bad;
        effects = omega (arith, at.effects, does.told.effects, length-append r.effects s.effects);
        scratch =
            scratch
            ∙ ap (λ n. scratch_with scratch_after n s.taken b.scratch) size
            ∙ ap (λ (x : Option (List ℕ)). scratch_with scratch_after a.size s.taken x) at.scratch
            ∙ sym (scratch-push scratch_after a.size a.scratch r.taken s.taken);
      }

  module _ (f : Files) (u x w : TreeView) (a b b' : Seen) (c d e : SinkView) {scratch_after : ℕ → List ℕ → Option (List ℕ) → Option (List ℕ)} {is_bad : Bool} {count : ℕ} (at : IsAt u x a b c d scratch_after o v k vs is_bad count (run_to o v k f)) where
    pub at_next : (done : Done) → b.size ≡ a.size
        → IsEnded x w b' d e (λ taken. scratch_with scratch_after b.size taken b.scratch) done (rows_in ws p) (run_to o v k f).files (ending (turn_at o v k vs p) (run_to o v k f).files)
        → IsAt u w a b' c e scratch_after o (with_row v k done.row) (k + 1) ws (is_bad || done.is_bad) (count + done.effects) (run_to o v (k + 1) f)
    at_next done size came =
        let r = run_to o v k f in
        let t = turn_at o v k vs p in
        let is : run_to o v (k + 1) f ≡ with_story t r came.story =
        ap (λ (l : List Item). run_of o v.output l f) (item-next v k p next.within next.at)
        ∙ run-next o v.output (take k (items_of v)) (item_of v.text v.skipped (moved_in v.patches) p) t f at.going (same-turn r at.past)
        ∙ ap (λ (y : Ending). with_ending t r y) came.is in
        subst (λ (s : Run). IsAt u w a b' c e scratch_after o (with_row v k done.row) (k + 1) ws (is_bad || done.is_bad) (count + done.effects) s) (sym is)
        (at_story r done came.story size at came.does came.scratch)

    pub at_fault : (fault : RunFault) → Passes x w → IsBroken fault x w d e (run_to o v k f).files (ending (turn_at o v k vs p) (run_to o v k f).files) → IsCutOff fault u w c e (set_run o v f)
    at_fault fault passes broken =
        let r = run_to o v k f in
        subst (λ (l : List Item). IsCutOff fault u w c e (run_of o v.output l f)) (items-around v k p next.within next.at)
        (cut_off o v.output (take k (items_of v)) (item_of v.text v.skipped (moved_in v.patches) p) (turn_at o v k vs p) f at.going (same-turn r at.past) u x w c d e (drop (k + 1) (items_of v)) at.far passes fault broken)

    pub at_cut : (fault : RunFault) → Passes x w → IsBroken fault x w d e (run_to o v k f).files (ending (turn_at o v k vs p) (run_to o v k f).files) → IsOrdered fault x w d e (said_of (ending (turn_at o v k vs p) (run_to o v k f).files))
        → UnlessFailed fault (w.told ≡ Some (run_to o v k f).files) → IsCutAt fault w c e o v.output (items_of v) f
    at_cut fault passes broken order kept =
        let r = run_to o v k f in
        subst (λ (l : List Item). IsCutAt fault w c e o v.output l f) (items-around v k p next.within next.at)
        (cut_here o v.output (take k (items_of v)) (item_of v.text v.skipped (moved_in v.patches) p) (turn_at o v k vs p) f at.going (same-turn r at.past) u x w c d e (drop (k + 1) (items_of v)) at.far passes fault broken order kept)

-- the set whose rows were noted has the same file patches
pub same-items : (old new : SetView) → StaysSet old new → items_of new ≡ items_of old
same-items old new stays =
    ap (λ (l : List ℕ). map (item_of l new.skipped (moved_in new.patches)) new.patches) stays.text
    ∙ ap (λ (l : List BinaryChange). map (item_of old.text l (moved_in new.patches)) new.patches) stays.skipped
    ∙ ap (λ (l : List FilePatch). map (item_of old.text old.skipped (moved_in l)) l) stays.patches

pub same-run : (o : PlainOptions) (old new : SetView) (f : Files) → StaysSet old new → set_run o new f ≡ set_run o old f
same-run o old new f stays =
    ap (λ (x : Option Target). run_of o x (items_of new) f) stays.output
    ∙ ap (λ (l : List Item). run_of o old.output l f) (same-items old new stays)

pub all-run : (o : PlainOptions) (v : SetView) (k : ℕ) (f : Files) → k ≡ length v.patches → run_to o v k f ≡ set_run o v f
all-run o v k f all = ap (λ (l : List Item). run_of o v.output l f) (take_all k (items_of v) (omega (arith, all, length-map v.patches (item_of v.text v.skipped (moved_in v.patches)))))
