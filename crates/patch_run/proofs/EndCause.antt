-- What a fault within a file patch says of the three devices, and what it says nothing of.
use Rattle.std.proofs.Common.{◌≡◌, true, is_some, Result, Ok, Err, sym, ◌∙◌, ap, subst}
use Rattle.std.proofs.lemmas.Bool.{false≢true}
use Rattle.std.specs.Result.{IsErrAnd}
use Rattle.outside.specs.Files.{Files}
use Rattle.outside.specs.TreeView.{TreeView, Passes, passes_both}
use Rattle.outside.specs.SinkView.{SinkView, SinkPasses, sink_passes_none}
use Rattle.outside.proofs.Views.{rises_then}
use Rattle.line_store.specs.Store.{Seen, Keeps}
use Rattle.line_store.specs.Taking.{KeepsPlan}
use Rattle.apply_task.specs.declared.fault.RunFault.{RunFault}
use Rattle.apply_task.specs.declared.fault.RunFault.TheVariants.{Tree, Write, Scratch, LongLine, FileTooLong, Disagree, Memory}
use Rattle.apply_task.specs.Making.{UnlessFailed}
use Rattle.apply_start.specs.Devices.{Told, HasRunCause}
use Rattle.apply_start.specs.Trying.{HasTryCause}
use Rattle.patch_run.specs.Doing.{Stays, QuietAfter, IsDeviceFault, HasEndCause}

-- the tree or the sink has failed
pub end_failed : (P : Type 0) (u w : TreeView) (c d : SinkView) (e : RunFault) → HasEndCause e u w c d → UnlessFailed e P
end_failed P u w c d Tree cause = tt
end_failed P u w c d Write cause = tt
end_failed P u w c d Scratch cause = tt
end_failed P u w c d (LongLine line count) cause = absurd cause
end_failed P u w c d (FileTooLong count) cause = absurd cause
end_failed P u w c d (Disagree want got) cause = absurd cause
end_failed P u w c d Memory cause = absurd cause

pub end_device : (u w : TreeView) (c d : SinkView) (e : RunFault) → HasEndCause e u w c d → IsDeviceFault e
end_device u w c d Tree cause = tt
end_device u w c d Write cause = tt
end_device u w c d Scratch cause = tt
end_device u w c d (LongLine line count) cause = absurd cause
end_device u w c d (FileTooLong count) cause = absurd cause
end_device u w c d (Disagree want got) cause = tt
end_device u w c d Memory cause = absurd cause

-- a fault of the hunks that were tried
pub try_device : (u w : TreeView) (a b : Seen) (e : RunFault) → HasTryCause e u w a b → IsDeviceFault e
try_device u w a b Tree cause = tt
try_device u w a b Write cause = tt
try_device u w a b Scratch cause = tt
try_device u w a b (LongLine line count) cause = absurd cause
try_device u w a b (FileTooLong count) cause = absurd cause
try_device u w a b (Disagree want got) cause = tt
try_device u w a b Memory cause = absurd cause

pub device_quiet : (R : Type 0) (w : TreeView) (e : RunFault) → IsDeviceFault e → QuietAfter {R = R} (Err e) w
device_quiet R w Tree device = tt
device_quiet R w Write device = tt
device_quiet R w Scratch device = tt
device_quiet R w (LongLine line count) device = absurd device
device_quiet R w (FileTooLong count) device = absurd device
device_quiet R w (Disagree want got) device = tt
device_quiet R w Memory device = absurd device

pub quiet_passed : {R : Type 0} (w : TreeView) (e : RunFault) (r : Result R RunFault) → IsErrAnd r (λ y. y ≡ e) → IsDeviceFault e → QuietAfter r w
quiet_passed w e (Ok x) is device = absurd is
quiet_passed {R = R} w e (Err y) is device = subst (λ (x : RunFault). QuietAfter {R = R} (Err x) w) (sym is) (device_quiet R w e device)

pub end_run : (u v w : TreeView) (a b : Seen) (c d : SinkView) (e : RunFault) → Passes u v → HasEndCause e v w c d → HasRunCause e u w a b c d
end_run u v w a b c d Tree passes cause = rises_then u v w passes cause
end_run u v w a b c d Write passes cause = cause
end_run u v w a b c d Scratch passes cause = absurd cause
end_run u v w a b c d (LongLine line count) passes cause = absurd cause
end_run u v w a b c d (FileTooLong count) passes cause = absurd cause
end_run u v w a b c d (Disagree want got) passes cause = absurd cause
end_run u v w a b c d Memory passes cause = absurd cause

try_run : (u w : TreeView) (a b : Seen) (c : SinkView) (e : RunFault) → ((f : Files) → Told u a f → is_some a.told ≡ true) → HasTryCause e u w a b → HasRunCause e u w a b c c
try_run u w a b c Tree told cause = cause
try_run u w a b c Write told cause = absurd cause
try_run u w a b c Scratch told cause = cause
try_run u w a b c (LongLine line count) told cause = absurd cause
try_run u w a b c (FileTooLong count) told cause = absurd cause
try_run u w a b c (Disagree want got) told cause = (cause.0, λ f is. false≢true (sym (ap (λ x. is_some x) cause.1) ∙ told f is))
try_run u w a b c Memory told cause = absurd cause

pub kept_plan : (a b : Seen) → Keeps a b → KeepsPlan a b
kept_plan a b keeps = record { faults = keeps.faults; telling = ap (λ x. is_some x) keeps.scratch; size = keeps.size; needs_memory = keeps.needs_memory }

-- what stays of the devices at the exits
pub try_stays : {R : Type 0} (u w : TreeView) (a b : Seen) (c : SinkView) (e : RunFault) (r : Result R RunFault) → IsErrAnd r (λ y. y ≡ e) → Passes u w → Keeps a b
    → ((f : Files) → Told u a f → is_some a.told ≡ true) → HasTryCause e u w a b → Stays u w a b c c r
try_stays u w a b c e (Ok x) is passes keeps told cause = absurd is
try_stays u w a b c e (Err y) is passes keeps told cause = record {
  tree = passes;
  plan = kept_plan a b keeps;
  sink = sink_passes_none c;
  cause = subst (λ (x : RunFault). HasRunCause x u w a b c c) (sym is) (try_run u w a b c e told cause);
}

pub end_stays : {R : Type 0} (u v w : TreeView) (a b : Seen) (c d : SinkView) (e : RunFault) (r : Result R RunFault) → IsErrAnd r (λ y. y ≡ e) → Passes u v → Passes v w → Keeps a b → SinkPasses c d
    → HasEndCause e v w c d → Stays u w a b c d r
end_stays u v w a b c d e (Ok x) is passes more keeps sink cause = absurd is
end_stays u v w a b c d e (Err y) is passes more keeps sink cause = record {
  tree = passes_both passes more;
  plan = kept_plan a b keeps;
  sink = sink;
  cause = subst (λ (x : RunFault). HasRunCause x u w a b c d) (sym is) (end_run u v w a b c d e passes cause);
}
