-- A file patch that something is in the way of: the tree tells no files, since no start over one that tells them refuses it.
use Rattle.std.proofs.Common.{◌≡◌, ◌≢◌, ◌⊎◌, inl, inr, ⊎_elim, ℕ, ◌≤◌, List, replicate, Bool, true, false, not, ◌||◌, if◌then◌else◌, Option, Result, Ok, Err, IfOk, IfErr, OnOk, refl, sym, ◌∙◌, ap, subst, arith}
use Rattle.std.proofs.lemmas.Bool.{false≢true}
use Rattle.std.proofs.lemmas.Option.{same_Some}
use Rattle.std.specs.FinMap.{get, insert, remove}
use Rattle.outside.specs.Files.{Files, is_temp}
use Rattle.outside.specs.Calls.{Becomes, IsUntouched}
use Rattle.outside.proofs.Names.{equal_or_not, get-gone, get-gone_other, get-put_other, apart}
use Rattle.outside.specs.TreeView.{TreeView, Passes, passes_both}
use Rattle.outside.specs.SinkView.{SinkView, SinkPasses, sink_passes_both}
use Rattle.outside.specs.Quiet.{IsQuiet}
use Rattle.outside.proofs.Views.{untouched_quiet, rises_then}
use Rattle.hunk_core.specs.declared.Side.{Side}
use Rattle.hunk_core.specs.declared.Verdict.{Verdict}
use Rattle.hunk_core.specs.declared.Verdict.TheVariants.{Nowhere}
use Rattle.line_store.specs.Store.{Seen}
use Rattle.apply_task.specs.declared.fault.RunFault.{RunFault}
use Rattle.apply_task.specs.declared.fault.RunFault.TheVariants.{Tree, Write, Scratch, LongLine, FileTooLong, Disagree, Memory}
use Rattle.apply_start.specs.declared.starting.Decision.{Decision}
use Rattle.apply_start.specs.declared.starting.Decision.TheVariants.{Refuse}
use Rattle.apply_start.specs.Devices.{HasRunCause}
use Rattle.apply_start.specs.Starting.{Starts, IsFree}
use Rattle.apply_task.specs.Asking.{is_bare}
use Rattle.apply_task.specs.Making.{IsTidy, TidyAfter}
use Rattle.apply_task.proofs.Tidy.{tidy_both, untouched_tidy}
use Rattle.patch_run.specs.declared.one_patch.Done.{Done}
use Rattle.patch_run.specs.OnePatch.{PlainContext, bytes_of, is_unrejected, start, ending}
use Rattle.patch_run.specs.Refused.{saves_refused}
use Rattle.patch_run.specs.Doing.{QuietAfter, HasEndCause, IsUntold, IsRefused, ArePlaced, Does}
use Rattle.patch_run.proofs.Going.{Goes, cause_then}

-- ---- whether its hunks go to a reject file
module _ (t : PlainContext) where
  pub saves_dry : t.options.dry_run ≡ true → saves_refused t ≡ false
  saves_dry dry = ap (λ (b : Bool). not ((b || is_bare t.item.patch) || is_unrejected t.options t.item.patch.change)) dry

  pub saves_bare : t.options.dry_run ≡ false → is_bare t.item.patch ≡ true → saves_refused t ≡ false
  saves_bare wet bare =
      ap (λ (b : Bool). not ((b || is_bare t.item.patch) || is_unrejected t.options t.item.patch.change)) wet
      ∙ ap (λ (b : Bool). not (b || is_unrejected t.options t.item.patch.change)) bare

  pub saves_rest : t.options.dry_run ≡ false → is_bare t.item.patch ≡ false → saves_refused t ≡ not (is_unrejected t.options t.item.patch.change)
  saves_rest wet some =
      ap (λ (b : Bool). not ((b || is_bare t.item.patch) || is_unrejected t.options t.item.patch.change)) wet
      ∙ ap (λ (b : Bool). not (b || is_unrejected t.options t.item.patch.change)) some

  saves_by : (a u : Bool) → not (a || u) ≡ true → not u ≡ true
  saves_by true u is = absurd (false≢true is)
  saves_by false u is = is

  pub saves_rejected : saves_refused t ≡ true → not (is_unrejected t.options t.item.patch.change) ≡ true
  saves_rejected is = saves_by (t.options.dry_run || is_bare t.item.patch) (is_unrejected t.options t.item.patch.change) is

  pub unsaved_dry : (saved : Bool) → t.options.dry_run ≡ true → (saved ≡ true → saves_refused t ≡ true) → saved ≡ false
  unsaved_dry true dry may = absurd (false≢true (sym (saves_dry dry) ∙ may refl))
  unsaved_dry false dry may = refl

-- ---- what was put
pub put_was : {E : Type 0} (P : Type 0) (saved : Bool) (r : Result Bool E) → IfOk r (λ was. was ≡ saved) → OnOk r (saved ≡ true → P) → IfOk r (λ was. was ≡ true → P)
put_was P saved (Ok was) is put = λ yes. put (sym is ∙ yes)
put_was P saved (Err e) is put = tt

pub one_put : (saved : Bool) (n : ℕ) → n ≡ (if saved then 1 else 0) → n ≡ 1 → saved ≡ true
one_put true n is one = refl
one_put false n is one = absurd (let e : 0 ≡ 1 = sym is ∙ one in omega (arith, e))

pub none_put : (saved : Bool) (n : ℕ) → n ≡ (if saved then 1 else 0) → n ≡ 0 → saved ≡ false
none_put true n is none = absurd (let e : 1 ≡ 0 = sym is ∙ none in omega (arith, e))
none_put false n is none = refl

pub few_put : (saved : Bool) (n : ℕ) → n ≡ (if saved then 1 else 0) → n ≤ 1
few_put true n is = omega (arith, is)
few_put false n is = omega (arith, is)

-- a file that was put leaves no temporary
pub put_tidy : {R E : Type 0} (u w : TreeView) (temp to bytes : List ℕ) → is_temp to ≡ false → (r : Result R E) → OnOk r (Becomes u w (λ f. remove (insert f to bytes) temp)) → OnOk r (IsTidy u w)
put_tidy u w temp to bytes lasting (Err e) ok = tt
put_tidy u w temp to bytes lasting (Ok x) ok = λ f g told now q is.
    let same : g ≡ remove (insert f to bytes) temp = same_Some _ _ (sym now ∙ ok f told) in
    ⊎_elim
    (λ (eq : q ≡ temp). inl (ap (λ (h : Files). get h q) same ∙ ap (λ (n : List ℕ). get (remove (insert f to bytes) temp) n) eq ∙ get-gone (insert f to bytes) temp))
    (λ (ne : q ≢ temp). inr (ap (λ (h : Files). get h q) same ∙ get-gone_other (insert f to bytes) temp q ne ∙ get-put_other f to bytes q (λ eq. apart to q lasting is (sym eq))))
    (equal_or_not q temp)

-- a fault behind a part that leaves the tree as it was
pub end_then : (u v w : TreeView) (c d : SinkView) (e : RunFault) → Passes u v → HasEndCause e v w c d → HasEndCause e u w c d
end_then u v w c d Tree passes cause = rises_then u v w passes cause
end_then u v w c d Write passes cause = cause
end_then u v w c d Scratch passes cause = absurd cause
end_then u v w c d (LongLine line count) passes cause = absurd cause
end_then u v w c d (FileTooLong count) passes cause = absurd cause
end_then u v w c d (Disagree want got) passes cause = absurd cause
end_then u v w c d Memory passes cause = absurd cause

end_cause : (fault : RunFault) (v z : TreeView) (b : Seen) (d e : SinkView) → HasEndCause fault v z d e → HasRunCause fault v z b b d e
end_cause Tree v z b d e is = is
end_cause Write v z b d e is = is
end_cause Scratch v z b d e is = absurd is
end_cause (LongLine line count) v z b d e is = absurd is
end_cause (FileTooLong count) v z b d e is = absurd is
end_cause (Disagree want got) v z b d e is = absurd is
end_cause Memory v z b d e is = absurd is

calm_after : (fault : RunFault) (v z : TreeView) (d e : SinkView) → HasEndCause fault v z d e → QuietAfter {R = Done} (Err fault) z
calm_after Tree v z d e is = tt
calm_after Write v z d e is = tt
calm_after Scratch v z d e is = tt
calm_after (LongLine line count) v z d e is = absurd is
calm_after (FileTooLong count) v z d e is = absurd is
calm_after (Disagree want got) v z d e is = tt
calm_after Memory v z d e is = tt

tidy_after : (fault : RunFault) (u v z : TreeView) (d e : SinkView) → HasEndCause fault v z d e → TidyAfter {R = Done} (Err fault) u z
tidy_after Tree u v z d e is = tt
tidy_after Write u v z d e is = tt
tidy_after Scratch u v z d e is = tt
tidy_after (LongLine line count) u v z d e is = absurd is
tidy_after (FileTooLong count) u v z d e is = absurd is
tidy_after (Disagree want got) u v z d e is = absurd is
tidy_after Memory u v z d e is = absurd is

module _ (t : PlainContext) (u v : TreeView) (a b : Seen) (c d : SinkView) (scratch_after : ℕ → List ℕ → Option (List ℕ) → Option (List ℕ)) (decision : Decision) (begins : Starts u v a b c d scratch_after (Ok decision) (bytes_of t) (start t))
    (place : ℕ) (side : Side) (is : decision ≡ Refuse place side) where
  pub untold_at : IsUntold u
  untold_at = subst (IsFree u) is begins.free

  pub refuse_does : (z : TreeView) (e : SinkView) (vs : List Verdict) (r : Result Done RunFault) → IsQuiet u → Passes v z → SinkPasses d e → IfErr r (λ x. HasEndCause x v z d e) → OnOk r (IsQuiet z) → OnOk r (IsTidy v z)
      → Does u z a b c e scratch_after r vs (ending t)
  refuse_does z e vs (Ok done) quiet passes received cause calm tidy = record {
    stays = record { tree = passes_both begins.untouched.passes passes; plan = begins.plan; sink = sink_passes_both begins.sink received; cause = tt };
    quiet = calm;
    tidy = tidy_both u v z begins.untouched.passes (untouched_tidy begins.untouched) tidy;
    whole = λ f told. absurd (untold_at f told.0);
    broken = tt;
    order = tt;
    kept = tt;
  }
  refuse_does z e vs (Err fault) quiet passes received cause calm tidy =
      let goes : Goes u v a b c d = record { tree = begins.untouched.passes; plan = begins.plan; sink = begins.sink; quiet = untouched_quiet begins.untouched quiet; tidy = untouched_tidy begins.untouched } in
      record {
        stays = record { tree = passes_both begins.untouched.passes passes; plan = begins.plan; sink = sink_passes_both begins.sink received; cause = cause_then u v z a b b c d e fault goes (end_cause fault v z b d e cause) };
        quiet = calm_after fault v z d e cause;
        tidy = tidy_after fault u v z d e cause;
        whole = tt;
        broken = λ f told. absurd (untold_at f told.0);
        order = λ f told. absurd (untold_at f told.0);
        kept = λ f told. absurd (untold_at f told.0);
      }

-- where a file patch is refused once its start left the tree as it is, the tree told no files before it either
pub placed_before : {u v : TreeView} (t : PlainContext) (done : Done) (count : ℕ) (verdicts placed : List Verdict) → IsUntouched u v → ((verdicts ≡ placed) ⊎ ((IsUntold v × IsRefused t done) × (verdicts ≡ replicate count Nowhere)))
    → ArePlaced (IsUntold u × IsRefused t done) count verdicts placed
placed_before t done count verdicts placed same are = inr (⊎_elim (λ is. inl is) (λ refused. inr ((λ f told. refused.0.0 f (same.told ∙ told), refused.0.1), refused.1)) are)
