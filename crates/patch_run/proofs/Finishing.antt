-- A set that is carried out with a plan: from what the run says of the plan's store to what it leaves.
use Rattle.std.proofs.Common.{◌≡◌, inl, inr, ℕ, zero, ◌+◌, ◌-◌, ◌^◌, ◌<◌, ◌≤◌, List, [], ◌∷◌, length, reverse, find, option_map, Bool, true, false, cond, if◌then◌else◌, Option, None, Some, is_some, Result, Ok, Err, IfOk, IfErr, refl, sym, ◌∙◌, ap, subst, arith}
use Rattle.std.proofs.lemmas.List.{reverse-append, append-nil}
use Rattle.std.proofs.lemmas.List.Folds.{find-append}
use Rattle.std.proofs.lemmas.Option.{same_Some}
use Rattle.std.specs.Option.{option_or}
use Rattle.std.specs.FinMap.{get}
use Rattle.line_list.specs.Lines.{lines}
use Rattle.outside.specs.Files.{Files}
use Rattle.outside.specs.TreeView.{TreeView, passes_none}
use Rattle.outside.specs.SinkView.{SinkView, sink_passes_none}
use Rattle.outside.specs.ScratchView.{ScratchView, scratch_passes_none}
use Rattle.outside.specs.Calls.{IsUntouched, untouched_none}
use Rattle.outside.specs.Quiet.{IsQuiet, Effect, LeavesPrefix}
use Rattle.outside.proofs.Effects.{made_none, made_tells_all, since_longer, tells_longer}
use Rattle.hunk_core.specs.declared.Verdict.{Verdict}
use Rattle.line_store.specs.Store.{Seen}
use Rattle.patch_options.specs.PlainJob.{PlainOptions}
use Rattle.patch_options.specs.declared.options.PlanKind.TheVariants.{Whole, Padded, Packed, Auto}
use Rattle.patch_set.specs.declared.set.Row.{Row}
use Rattle.patch_set.specs.SetView.{SetView}
use Rattle.plan_a.specs.Auto.{page_size, goes_to_pages}
use Rattle.plan_b.specs.Pages.{pages}
use Rattle.packed_pages.specs.Packs.{packs}
use Rattle.patch_run.specs.Applied.{Receipt}
use Rattle.apply_start.specs.Devices.{Told, HasRunCause}
use Rattle.patch_run.specs.Doing.{Runs, IsReceipt, IsPartOf, IsCutAt, scratch_behind}
use Rattle.patch_run.specs.Run.{Run, items_of, set_run}
use Rattle.apply_task.specs.declared.fault.RunFault.{RunFault}
use Rattle.apply_task.specs.declared.fault.RunFault.TheVariants.{Tree, Write, Scratch, LongLine, FileTooLong, Disagree, Memory}
use Rattle.patch_run.specs.Scratches.{has_scratch, is_paged, goes_there, pages_of, pages_or, scratch_behind_all}
use Rattle.patch_run.specs.Finishes.{IsToldTo, HasPlanCause, IsNotBegun, LeavesVerdicts, LeavesRows, Finishes}

-- ---- the scratch

-- what one file does to the scratch of a plan that is the options' plan
pub record KeepsThere (o : PlainOptions) (scratch_after : ℕ → List ℕ → Option (List ℕ) → Option (List ℕ)) : Type 0 where
  pub each : (file before : List ℕ) → scratch_after o.buffer file (Some before) ≡ Some (if goes_there o.plan o.buffer file then pages_of o.plan o.buffer (lines file) else before)

pub keeps_padded : (o : PlainOptions) → o.plan ≡ Padded → KeepsThere o (λ size file before. option_map (λ _. pages size (lines file)) before)
keeps_padded o is = record { each = λ file before. ap (λ k. Some (if goes_there k o.buffer file then pages_of k o.buffer (lines file) else before)) (sym is) }

pub keeps_packed : (o : PlainOptions) → o.plan ≡ Packed → KeepsThere o (λ size file before. option_map (λ _. packs size (lines file)) before)
keeps_packed o is = record { each = λ file before. ap (λ k. Some (if goes_there k o.buffer file then pages_of k o.buffer (lines file) else before)) (sym is) }

if_some : (b : Bool) (x y : List ℕ) → (if b then Some x else Some y) ≡ Some (if b then x else y)
if_some true x y = refl
if_some false x y = refl

pub keeps_auto : (o : PlainOptions) → o.plan ≡ Auto → KeepsThere o (λ size file before. if goes_to_pages size file then option_map (λ _. packs (page_size size) (lines file)) before else before)
keeps_auto o is = record {
  each = λ file before.
      if_some (goes_to_pages o.buffer file) (packs (page_size o.buffer) (lines file)) before
      ∙ ap (λ k. Some (if goes_there k o.buffer file then pages_of k o.buffer (lines file) else before)) (sym is);
}

pages_or-else : (o : PlainOptions) (before file : List ℕ) (b : Bool) (last : Option (List ℕ)) → pages_or o (if b then pages_of o.plan o.buffer (lines file) else before) last ≡ pages_or o before (option_or last (cond b (Some file) None))
pages_or-else o before file true None = refl
pages_or-else o before file false None = refl
pages_or-else o before file b (Some last) = refl

pub behind_all : (o : PlainOptions) (scratch_after : ℕ → List ℕ → Option (List ℕ) → Option (List ℕ)) → KeepsThere o scratch_after → (taken : List (List ℕ)) (before : List ℕ) → scratch_behind scratch_after o.buffer (Some before) taken ≡ Some (scratch_behind_all o taken before)
behind_all o scratch_after keeps [] before = refl
behind_all o scratch_after keeps (file ∷ more) before =
    ap (λ s. scratch_behind scratch_after o.buffer s more) (keeps.each file before)
    ∙ behind_all o scratch_after keeps more (if goes_there o.plan o.buffer file then pages_of o.plan o.buffer (lines file) else before)
    ∙ ap (λ (l : List ℕ). Some l) (
    pages_or-else o before file (goes_there o.plan o.buffer file) (find (goes_there o.plan o.buffer) (reverse more))
    ∙ ap (λ x. pages_or o before x) (sym (find-append (goes_there o.plan o.buffer) (reverse more) (file ∷ [])))
    ∙ ap (λ l. pages_or o before (find (goes_there o.plan o.buffer) l)) (sym (reverse-append (file ∷ []) more)))

none_there : (size : ℕ) (taken : List (List ℕ)) → find (goes_there Whole size) taken ≡ None
none_there size [] = refl
none_there size (file ∷ more) = none_there size more

-- a plan without a scratch leaves it as it was
pub behind_none : (o : PlainOptions) → o.plan ≡ Whole → (taken : List (List ℕ)) (before : List ℕ) → scratch_behind_all o taken before ≡ before
behind_none o is taken before = ap (λ k. pages_or o before (find (goes_there k o.buffer) (reverse taken))) is ∙ ap (λ x. pages_or o before x) (none_there o.buffer (reverse taken))

-- ---- a plan with a scratch

-- what the plan's store is seen as before and after is what its scratch is
pub record StandsOver (o : PlainOptions) (before after : Seen) (a b : ScratchView) (scratch_after : ℕ → List ℕ → Option (List ℕ) → Option (List ℕ)) : Type 0 where
  pub told : before.scratch ≡ a.told
  pub told_after : after.scratch ≡ b.told
  pub faults : before.faults ≡ a.faults
  pub faults_after : after.faults ≡ b.faults
  pub size : before.size ≡ o.buffer
  pub has : has_scratch o.plan ≡ true
  pub memory : is_paged o.plan ≡ true → before.needs_memory ≡ false
  pub keeps : KeepsThere o scratch_after

-- the receipts of a run where all is told
abbrev pub GivesReceipt : TreeView → Seen → (Files → Run) → ℕ → List Verdict → List Row → Receipt → Type 0
GivesReceipt u before run count vs rs given = (f : Files) → Told u before f → IsReceipt (run f) given count vs rs

-- where the runs over the set that fail were cut off
abbrev pub CutsOff : {R : Type 0} → TreeView → TreeView → Seen → SinkView → SinkView → PlainOptions → SetView → Result R RunFault → Type 0
CutsOff u w before c d o v result = IfErr result (λ e. (f : Files) → Told u before f → IsCutAt e w c d o v.output (items_of v) f)

module _ (u w : TreeView) {before after : Seen} {a b : ScratchView} (c d : SinkView) (o : PlainOptions) (v : SetView) {scratch_after : ℕ → List ℕ → Option (List ℕ) → Option (List ℕ)} (over : StandsOver o before after a b scratch_after) where
  told_to : (f : Files) → IsToldTo o u a f → Told u before f
  told_to f t = (t.files, ap is_some over.told ∙ t.scratch over.has)

  plan_cause : (e : RunFault) → HasRunCause e u w before after c d → HasPlanCause e o u w a b c d
  plan_cause Tree h = h
  plan_cause Write h = h
  plan_cause Scratch h = λ small. subst (λ n. n < b.faults) over.faults (subst (λ n. before.faults < n) over.faults_after (h (subst (λ n. n + 1 < 2 ^ 64) (sym over.faults_after) small)))
  plan_cause (LongLine line long) h = subst (λ n. n - 4 < long) over.size h
  plan_cause (FileTooLong long) h = h
  plan_cause (Disagree want got) (ne, silent) = (ne, λ f t. silent f (told_to f t))
  plan_cause Memory h = tt

  starved_not : (e : RunFault) → HasRunCause e u w before after c d → e ≡ Memory → is_paged o.plan ≡ true → IsNotBegun u w a b c d
  starved_not e h is all =
      let need : before.needs_memory ≡ true = subst (λ x. HasRunCause x u w before after c d) is h in
      let not : before.needs_memory ≡ false = over.memory all in
      absurd (cc)

  holds_behind : (f : Files) (bytes : List ℕ) → after.scratch ≡ scratch_behind scratch_after before.size before.scratch (set_run o v f).taken → a.told ≡ Some bytes → b.told ≡ Some (scratch_behind_all o (set_run o v f).taken bytes)
  holds_behind f bytes is told =
      sym over.told_after ∙ is
      ∙ ap (λ n. scratch_behind scratch_after n before.scratch (set_run o v f).taken) over.size
      ∙ ap (λ s. scratch_behind scratch_after o.buffer s (set_run o v f).taken) (over.told ∙ told)
      ∙ behind_all o scratch_after over.keeps (set_run o v f).taken bytes

  paged : (vs : List Verdict) (rs : List Row) (result : Result Receipt RunFault) → Runs u w before after c d scratch_after result (set_run o v) → IfOk result (GivesReceipt u before (set_run o v) (length v.patches) vs rs) → CutsOff u w before c d o v result → (o.dry_run ≡ true → IsUntouched u w) → Finishes o v u w a b c d result
  paged vs rs (Ok given) runs receipt cut dry = record {
    tree = runs.stays.tree;
    scratch = record {
      counts = subst (λ n. n ≤ b.faults) over.faults (subst (λ n. before.faults ≤ n) over.faults_after runs.stays.plan.faults);
      telling = ap is_some (sym over.told_after) ∙ runs.stays.plan.telling ∙ ap is_some over.told;
    };
    sink = runs.stays.sink;
    cause = tt;
    quiet = runs.quiet;
    starved = λ is all. absurd (cc);
    whole = λ f t. runs.whole f (told_to f t);
    going = λ f t. runs.going f (told_to f t);
    receipt = λ f t. (receipt f (told_to f t)).receipt;
    holds = λ f bytes t told. holds_behind f bytes (runs.scratch f (told_to f t)) told;
    cut = tt;
    cut_at = tt;
    moments = λ f t. runs.moments f (told_to f t);
    tidy = runs.tidy;
    dry = dry;
  }
  paged vs rs (Err e) runs receipt cut dry = record {
    tree = runs.stays.tree;
    scratch = record {
      counts = subst (λ n. n ≤ b.faults) over.faults (subst (λ n. before.faults ≤ n) over.faults_after runs.stays.plan.faults);
      telling = ap is_some (sym over.told_after) ∙ runs.stays.plan.telling ∙ ap is_some over.told;
    };
    sink = runs.stays.sink;
    cause = plan_cause e runs.stays.cause;
    quiet = runs.quiet;
    starved = λ is all. let same : e ≡ Memory = cc in starved_not e runs.stays.cause same all;
    whole = tt;
    going = tt;
    receipt = tt;
    holds = tt;
    cut = λ f t. runs.cut f (told_to f t);
    cut_at = λ f t. inr (cut f (told_to f t));
    moments = λ f t. runs.moments f (told_to f t);
    tidy = runs.tidy;
    dry = dry;
  }

pub finishes_paged : {u w : TreeView} {before after : Seen} {a b : ScratchView} {c d : SinkView} {scratch_after : ℕ → List ℕ → Option (List ℕ) → Option (List ℕ)} (o : PlainOptions) (v : SetView) (vs : List Verdict) (rs : List Row) (result : Result Receipt RunFault) → Runs u w before after c d scratch_after result (set_run o v) → IfOk result (GivesReceipt u before (set_run o v) (length v.patches) vs rs) → CutsOff u w before c d o v result → (o.dry_run ≡ true → IsUntouched u w) → StandsOver o before after a b scratch_after → Finishes o v u w a b c d result
finishes_paged {u = u} {w = w} {c = c} {d = d} o v vs rs result runs receipt cut dry over = paged u w c d o v over vs rs result runs receipt cut dry

pub verdicts_paged : {u w : TreeView} {before after : Seen} {c d : SinkView} {scratch_after : ℕ → List ℕ → Option (List ℕ) → Option (List ℕ)} (a : ScratchView) (o : PlainOptions) (v : SetView) (vs : List Verdict) (rs : List Row) (result : Result Receipt RunFault) → Runs u w before after c d scratch_after result (set_run o v) → IfOk result (GivesReceipt u before (set_run o v) (length v.patches) vs rs) → before.scratch ≡ a.told → has_scratch o.plan ≡ true → IfOk result (LeavesVerdicts o v u a vs)
verdicts_paged a o v vs rs (Ok given) runs receipt told has = λ f t. (receipt f (t.files, ap is_some told ∙ t.scratch has)).verdicts
verdicts_paged a o v vs rs (Err e) runs receipt told has = tt

pub rows_paged : {u w : TreeView} {before after : Seen} {c d : SinkView} {scratch_after : ℕ → List ℕ → Option (List ℕ) → Option (List ℕ)} (a : ScratchView) (o : PlainOptions) (v : SetView) (vs : List Verdict) (rs : List Row) (result : Result Receipt RunFault) → Runs u w before after c d scratch_after result (set_run o v) → IfOk result (GivesReceipt u before (set_run o v) (length v.patches) vs rs) → before.scratch ≡ a.told → has_scratch o.plan ≡ true → IfOk result (LeavesRows o v u a rs)
rows_paged a o v vs rs (Ok given) runs receipt told has = λ f t. (receipt f (t.files, ap is_some told ∙ t.scratch has)).rows
rows_paged a o v vs rs (Err e) runs receipt told has = tt

-- ---- the plan in memory, which has none

pub record StandsAlone (o : PlainOptions) (before after : Seen) : Type 0 where
  pub told : before.scratch ≡ Some []
  pub faults : before.faults ≡ 0
  pub faults_after : after.faults ≡ 0
  pub size : before.size ≡ o.buffer
  pub plan : o.plan ≡ Whole

module _ (u w : TreeView) {before after : Seen} (c d : SinkView) (a : ScratchView) (o : PlainOptions) (v : SetView) (alone : StandsAlone o before after) where
  told_alone : (f : Files) → IsToldTo o u a f → Told u before f
  told_alone f t = (t.files, ap is_some alone.told)

  alone_cause : (e : RunFault) → HasRunCause e u w before after c d → HasPlanCause e o u w a a c d
  alone_cause Tree h = h
  alone_cause Write h = h
  alone_cause Scratch h =
      let small : after.faults + 1 < 2 ^ 64 = subst (λ n. n + 1 < 2 ^ 64) (sym alone.faults_after) (omega arith) in
      let less : before.faults < after.faults = h small in
      let none : 0 < 0 = subst (λ n. n < 0) alone.faults (subst (λ n. before.faults < n) alone.faults_after less) in
      absurd (omega arith)
  alone_cause (LongLine line long) h = subst (λ n. n - 4 < long) alone.size h
  alone_cause (FileTooLong long) h = h
  alone_cause (Disagree want got) (ne, silent) = (ne, λ f t. silent f (told_alone f t))
  alone_cause Memory h = tt

  in_memory : (scratch_after : ℕ → List ℕ → Option (List ℕ) → Option (List ℕ)) (vs : List Verdict) (rs : List Row) (result : Result Receipt RunFault) → Runs u w before after c d scratch_after result (set_run o v) → IfOk result (GivesReceipt u before (set_run o v) (length v.patches) vs rs) → CutsOff u w before c d o v result → (o.dry_run ≡ true → IsUntouched u w) → Finishes o v u w a a c d result
  in_memory scratch_after vs rs (Ok given) runs receipt cut dry = record {
    tree = runs.stays.tree;
    scratch = scratch_passes_none a;
    sink = runs.stays.sink;
    cause = tt;
    quiet = runs.quiet;
    starved = λ is all. absurd (cc);
    whole = λ f t. runs.whole f (told_alone f t);
    going = λ f t. runs.going f (told_alone f t);
    receipt = λ f t. (receipt f (told_alone f t)).receipt;
    holds = λ f bytes t told. told ∙ ap (λ (l : List ℕ). Some l) (sym (behind_none o alone.plan (set_run o v f).taken bytes));
    cut = tt;
    cut_at = tt;
    moments = λ f t. runs.moments f (told_alone f t);
    tidy = runs.tidy;
    dry = dry;
  }
  in_memory scratch_after vs rs (Err e) runs receipt cut dry = record {
    tree = runs.stays.tree;
    scratch = scratch_passes_none a;
    sink = runs.stays.sink;
    cause = alone_cause e runs.stays.cause;
    quiet = runs.quiet;
    starved = λ is all. let not : false ≡ true = sym (ap is_paged alone.plan) ∙ all in absurd (cc);
    whole = tt;
    going = tt;
    receipt = tt;
    holds = tt;
    cut = λ f t. runs.cut f (told_alone f t);
    cut_at = λ f t. inr (cut f (told_alone f t));
    moments = λ f t. runs.moments f (told_alone f t);
    tidy = runs.tidy;
    dry = dry;
  }

pub finishes_whole : {u w : TreeView} {before after : Seen} {c d : SinkView} {scratch_after : ℕ → List ℕ → Option (List ℕ) → Option (List ℕ)} (o : PlainOptions) (v : SetView) (vs : List Verdict) (rs : List Row) (result : Result Receipt RunFault) → Runs u w before after c d scratch_after result (set_run o v) → IfOk result (GivesReceipt u before (set_run o v) (length v.patches) vs rs) → CutsOff u w before c d o v result → (o.dry_run ≡ true → IsUntouched u w) → StandsAlone o before after → (a : ScratchView) → Finishes o v u w a a c d result
finishes_whole {u = u} {w = w} {c = c} {d = d} {scratch_after = scratch_after} o v vs rs result runs receipt cut dry alone a = in_memory u w c d a o v alone scratch_after vs rs result runs receipt cut dry

pub verdicts_whole : {u w : TreeView} {before after : Seen} {c d : SinkView} {scratch_after : ℕ → List ℕ → Option (List ℕ) → Option (List ℕ)} (a : ScratchView) (o : PlainOptions) (v : SetView) (vs : List Verdict) (rs : List Row) (result : Result Receipt RunFault) → Runs u w before after c d scratch_after result (set_run o v) → IfOk result (GivesReceipt u before (set_run o v) (length v.patches) vs rs) → before.scratch ≡ Some [] → IfOk result (LeavesVerdicts o v u a vs)
verdicts_whole a o v vs rs (Ok given) runs receipt told = λ f t. (receipt f (t.files, ap is_some told)).verdicts
verdicts_whole a o v vs rs (Err e) runs receipt told = tt

pub rows_whole : {u w : TreeView} {before after : Seen} {c d : SinkView} {scratch_after : ℕ → List ℕ → Option (List ℕ) → Option (List ℕ)} (a : ScratchView) (o : PlainOptions) (v : SetView) (vs : List Verdict) (rs : List Row) (result : Result Receipt RunFault) → Runs u w before after c d scratch_after result (set_run o v) → IfOk result (GivesReceipt u before (set_run o v) (length v.patches) vs rs) → before.scratch ≡ Some [] → IfOk result (LeavesRows o v u a rs)
rows_whole a o v vs rs (Ok given) runs receipt told = λ f t. (receipt f (t.files, ap is_some told)).rows
rows_whole a o v vs rs (Err e) runs receipt told = tt

-- ---- no memory for the pages

module _ (o : PlainOptions) (v : SetView) (u : TreeView) (a : ScratchView) (c : SinkView) (quiet : IsQuiet u) where
  leaves_none : (es : List Effect) → LeavesPrefix u u es
  leaves_none es = since_longer u u [] es es refl (made_none u quiet).since

  part_none : (es : List Effect) (text : List ℕ) → IsPartOf u u c c es text
  part_none es text = record {
    tells = tells_longer u u [] es es refl (made_tells_all u u [] (made_none u quiet));
    leaves = leaves_none es;
    said = λ bytes told. inr (zero, told ∙ ap (λ (l : List ℕ). Some l) (sym (append-nil bytes)));
  }

  not_begun : IsNotBegun u u a a c c
  not_begun = record { tree = untouched_none u; scratch = refl; out = refl }

  pub finishes_without_pages : Finishes o v u u a a c c (Err Memory)
  finishes_without_pages = record {
    tree = passes_none u;
    scratch = scratch_passes_none a;
    sink = sink_passes_none c;
    cause = tt;
    quiet = tt;
    starved = λ is all. not_begun;
    whole = tt;
    going = tt;
    receipt = tt;
    holds = tt;
    cut = λ f t. part_none (set_run o v f).effects (set_run o v f).said;
    cut_at = λ f t. inl not_begun;
    moments = λ f t. leaves_none (set_run o v f).effects;
    tidy = λ f g was now q temp. inr (ap (λ (x : Files). get x q) (same_Some _ _ (sym now ∙ was)));
    dry = λ is. untouched_none u;
  }
