-- Calls of a store and a sink, one after another.
use Rattle.std.proofs.Common.{◌≡◌, Result, Ok, Err, OnErr, IfOk, IfErr, sym, ◌∙◌, subst, arith}
use Rattle.std.specs.Result.{IsErrAnd}
use Rattle.line_store.specs.Store.{Seen, Keeps}
use Rattle.line_store.proofs.StoreLemmas.{cause-more}
use Rattle.outside.specs.SinkView.{SinkView, SinkPasses}
use Rattle.hunk_apply.specs.declared.ApplyFault.{ApplyFault}
use Rattle.hunk_apply.specs.declared.ApplyFault.TheVariants.{Line, Write}
use Rattle.hunk_apply.specs.Faults.{HasApplyCause, IsCounted}

-- a fault of a later call has its cause since the first
pub apply-cause-more : (e : ApplyFault) (a b c : Seen) (u v w : SinkView) → Keeps a b → SinkPasses u v → HasApplyCause e b c v w → HasApplyCause e a c u w
apply-cause-more (Line e) a b c u v w h k cause = cause-more e a b c h cause
apply-cause-more Write a b c u v w h k rises = λ small. omega (arith, rises small, k.counts)

-- what holds holds after an error too
pub on-err : {R E : Type 0} (r : Result R E) (P : Type 0) → P → OnErr r P
on-err (Ok x) P p = tt
on-err (Err e) P p = p

pub counted-still : (a b : Seen) → IsCounted a → Keeps a b → IsCounted b
counted-still a b h k lines told = k.count ∙ h lines (sym k.told ∙ told)

pub if-ok-map : {R E : Type 0} (r : Result R E) (P Q : R → Type 0) → ((x : R) → P x → Q x) → IfOk r P → IfOk r Q
if-ok-map (Ok x) P Q f p = f x p
if-ok-map (Err e) P Q f p = tt

pub if-err-still : {R E : Type 0} (C : E → Type 0) (x : E) (r : Result R E) → IsErrAnd r (λ e. e ≡ x) → C x → IfErr r C
if-err-still C x (Ok v) is held = absurd is
if-err-still C x (Err e) is held = subst C (sym is) held

pub on-err-map : {R E : Type 0} (r : Result R E) (P Q : Type 0) → (P → Q) → OnErr r P → OnErr r Q
on-err-map (Ok x) P Q f p = tt
on-err-map (Err e) P Q f p = f p
