-- A file patch that something is in the way of once its hunks were tried.
use Rattle.std.proofs.Common.{◌≡◌, ◌⊎◌, inr, ⊎_elim, length, replicate, ℕ, List, Bool, true, false, is_some, Option, None, Some, Result, Ok, Err, IfOk, IfErr, OnOk, refl, sym, ◌∙◌, ap, subst, arith}
use Rattle.std.proofs.lemmas.Bool.{false≢true}
use Rattle.std.specs.Option.{ForSome}
use Rattle.outside.specs.Files.{is_temp}
use Rattle.outside.specs.Calls.{IsUntouched}
use Rattle.outside.specs.TreeView.{TreeView, Passes, passes_both}
use Rattle.outside.specs.SinkView.{SinkView, SinkPasses}
use Rattle.outside.specs.Quiet.{IsQuiet, WorksOn}
use Rattle.outside.proofs.Views.{untouched_quiet, rises_then, told_back}
use Rattle.hunk_core.specs.declared.Verdict.{Verdict}
use Rattle.hunk_core.specs.declared.Verdict.TheVariants.{Nowhere}
use Rattle.line_store.specs.Store.{Seen, Keeps}
use Rattle.replace_file.specs.declared.temp.Temp.{Temp}
use Rattle.apply_task.specs.declared.fault.RunFault.{RunFault}
use Rattle.apply_task.specs.declared.fault.RunFault.TheVariants.{Tree, Write, Scratch, LongLine, FileTooLong, Disagree, Memory}
use Rattle.apply_task.specs.Making.{IsGone, IsTidy, TidyAfter}
use Rattle.apply_task.proofs.Tidy.{tidy_both, untouched_tidy, attempt_tidy}
use Rattle.apply_start.specs.Trying.{IsBegun, HasTryCause}
use Rattle.patch_run.specs.declared.one_patch.Done.{Done}
use Rattle.patch_run.specs.OnePatch.{PlainContext}
use Rattle.patch_run.specs.Doing.{Stays, QuietAfter, IsDeviceFault, HasEndCause, IsUntold, IsRefused}
use Rattle.patch_run.proofs.Applying.{begun_name}
use Rattle.patch_run.proofs.EndCause.{end_failed, end_device, end_run, device_quiet, kept_plan}

-- a fault behind other calls of the plan
pub cause_behind : (e : RunFault) (u w : TreeView) (a b c : Seen) → Keeps a b → HasTryCause e u w b c → HasTryCause e u w a c
cause_behind Tree u w a b c keeps h = h
cause_behind Write u w a b c keeps h = h
cause_behind Scratch u w a b c keeps h = λ small. omega (arith, h small, keeps.faults)
cause_behind (LongLine line length) u w a b c keeps h = h
cause_behind (FileTooLong length) u w a b c keeps h = h
cause_behind (Disagree want got) u w a b c keeps h = (h.0, sym keeps.told ∙ h.1)
cause_behind Memory u w a b c keeps h = h

-- calls on a temporary, and then calls that leave the tree as it is
pub works_untouched : {u v w : TreeView} {temp : List ℕ} → WorksOn u v temp → IsUntouched v w → WorksOn u w temp
works_untouched {u = u} works same = record {
  passes = passes_both works.passes same.passes;
  quiet = untouched_quiet same works.quiet;
  others = λ f g told now q ne. works.others f g told (sym same.told ∙ now) q ne;
  seals = λ q ne was. same.sealed q ∙ works.seals q ne was;
  since = λ f told c left. works.since f told c ((same.since u.moment c works.passes.later).0 left);
}

-- a temporary that is gone stays so
pub gone_still : {v w : TreeView} (temp : List ℕ) → Passes v w → IsTidy v w → is_temp temp ≡ true → IsGone v temp → IsGone w temp
gone_still temp passes tidy is gone g now =
    let was = told_back g passes now in
    ⊎_elim (λ none. none) (λ same. same ∙ gone was.0 was.1) (tidy was.0 g was.1 now temp is)

pub begun_wet : (dry : Bool) (o : Option Temp) (name : List ℕ) → IsBegun dry o name → dry ≡ false → is_some o ≡ true
begun_wet false (Some begun) name is wet = refl
begun_wet false None name is wet = absurd is
begun_wet true o name is wet = absurd (false≢true (sym wet))

pub begun_dry : (dry : Bool) (o : Option Temp) (name : List ℕ) → IsBegun dry o name → dry ≡ true → is_some o ≡ false
begun_dry true None name is dry = refl
begun_dry true (Some begun) name is dry = absurd is
begun_dry false o name is dry = absurd (false≢true dry)

pub begun_some : (dry : Bool) (o : Option Temp) (name : List ℕ) → IsBegun dry o name → is_some o ≡ true → dry ≡ false
begun_some false o name is some = refl
begun_some true (Some begun) name is some = absurd is
begun_some true None name is some = absurd (false≢true some)

pub begun_for : (dry : Bool) (o : Option Temp) (name : List ℕ) → IsBegun dry o name → ForSome o (λ begun. begun.name.now ≡ name)
begun_for dry o name is = λ begun at. begun_name dry name begun (subst (λ (x : Option Temp). IsBegun dry x name) at is)

-- a fault behind calls of the tree and of the sink
pub end_after : (u v w : TreeView) (c d e : SinkView) (fault : RunFault) → Passes u v → SinkPasses c d → HasEndCause fault v w d e → HasEndCause fault u w c e
end_after u v w c d e Tree passes said cause = rises_then u v w passes cause
end_after u v w c d e Write passes said cause = λ small. omega (arith, cause small, said.counts)
end_after u v w c d e Scratch passes said cause = absurd cause
end_after u v w c d e (LongLine line count) passes said cause = absurd cause
end_after u v w c d e (FileTooLong count) passes said cause = absurd cause
end_after u v w c d e (Disagree want got) passes said cause = absurd cause
end_after u v w c d e Memory passes said cause = absurd cause

-- ---- answers
pub any_ok : {R E : Type 0} (P : R → Type 0) (r : Result R E) → ((x : R) → P x) → IfOk r P
any_ok P (Ok x) p = p x
any_ok P (Err e) p = tt

pub on_any : {R E P : Type 0} (r : Result R E) → P → OnOk r P
on_any (Ok x) p = p
on_any (Err e) p = tt

pub barred_stays : {R : Type 0} (u v w : TreeView) (a b : Seen) (c d : SinkView) (r : Result R RunFault) → Passes u v → Passes v w → Keeps a b → SinkPasses c d → IfErr r (λ e. HasEndCause e v w c d) → Stays u w a b c d r
barred_stays u v w a b c d (Ok x) passes more keeps sink cause = record { tree = passes_both passes more; plan = kept_plan a b keeps; sink = sink; cause = tt }
barred_stays u v w a b c d (Err e) passes more keeps sink cause = record { tree = passes_both passes more; plan = kept_plan a b keeps; sink = sink; cause = end_run u v w a b c d e passes cause }

pub barred_quiet : {R : Type 0} (v w : TreeView) (c d : SinkView) (r : Result R RunFault) → OnOk r (IsQuiet w) → IfErr r (λ e. HasEndCause e v w c d) → QuietAfter r w
barred_quiet v w c d (Ok x) quiet cause = quiet
barred_quiet {R = R} v w c d (Err e) quiet cause = device_quiet R w e (end_device v w c d e cause)

pub barred_tidy : {R : Type 0} (u v w : TreeView) (c d : SinkView) (r : Result R RunFault) → OnOk r (IsTidy u w) → IfErr r (λ e. HasEndCause e v w c d) → TidyAfter r u w
barred_tidy u v w c d (Ok x) tidy cause = tidy
barred_tidy u v w c d (Err e) tidy cause = end_failed (IsTidy u w) v w c d e cause

pub barred_device : {R : Type 0} (v w : TreeView) (c d : SinkView) (r : Result R RunFault) → IfErr r (λ e. HasEndCause e v w c d) → IfErr r IsDeviceFault
barred_device v w c d (Ok x) cause = tt
barred_device v w c d (Err e) cause = end_device v w c d e cause

pub tidy_barred : {R : Type 0} (u v w : TreeView) (dry : Bool) (temp : List ℕ) (r : Result R RunFault) → (dry ≡ true → IsUntouched u v) → WorksOn u v temp → OnOk r (IsTidy v w) → OnOk r (dry ≡ false → IsGone w temp) → OnOk r (IsTidy u w)
tidy_barred u v w dry temp (Ok x) same works tidy gone = attempt_tidy u v w dry temp (λ is. tidy_both u v w works.passes (untouched_tidy (same is)) tidy) gone works tidy
tidy_barred u v w dry temp (Err e) same works tidy gone = tt

-- the verdicts of a file patch that was refused
pub refused_placed : {Lines : Type 0} (P : Done → Lines → Type 0) (Told : Lines → Type 0) (u : TreeView) (t : PlainContext) (r : Result Done RunFault) (vs new : List Verdict) (n : ℕ) → length vs ≡ n → IsUntold u → IfOk r (IsRefused t) → OnOk r (new ≡ replicate (length vs) Nowhere)
    → IfOk r (λ done. (lines : Lines) → Told lines → P done lines ⊎ ((IsUntold u × IsRefused t done) × (new ≡ replicate n Nowhere)))
refused_placed P Told u t (Ok done) vs new n long untold refused none = λ lines told. inr ((untold, refused), none ∙ ap (λ k. replicate k Nowhere) long)
refused_placed P Told u t (Err e) vs new n long untold refused none = tt
