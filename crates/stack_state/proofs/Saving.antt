-- From the saves that are looked at to what a command takes of them.
use Rattle.std.proofs.Common.{◌≡◌, ◌⊎◌, ⊎_elim, ℕ, suc, ◌+◌, List, Bool, true, ◌||◌, Option, Some, Result, Ok, Err, IfErr, subst, sym, ◌∙◌, ap, arith}
use Rattle.std.specs.Prelude.{is_some, if◌then◌else◌}
use Rattle.std.specs.FinMap.{get}
use Rattle.std.specs.Result.{IsErrAnd}
use Rattle.outside.specs.Files.{Files}
use Rattle.outside.specs.TreeView.{TreeView}
use Rattle.outside.specs.Calls.{IsUntouched}
use Rattle.outside.proofs.Views.{rises_then}
use Rattle.series_stack.specs.declared.fault.StateFile.TheVariants.{Save}
use Rattle.series_stack.specs.Stack.{Refusal, save_name}
use Rattle.series_stack.specs.Stack.Refusal.{Bad as Broken}
use Rattle.series_stack.specs.Commands.{is_bad}
use Rattle.stack_state.specs.declared.fault.StateFault.{StateFault}
use Rattle.stack_state.specs.declared.fault.StateFault.TheVariants.{NoSeries, Bad, Tree, Disagree, Memory}
use Rattle.stack_state.specs.Reading.{next_save}
use Rattle.stack_state.specs.Causes.{HasCause, HasReadCause}

pub err-still : {E R : Type 0} (C : E → Type 0) (x : E) (r : Result R E) → IsErrAnd r (λ e. e ≡ x) → C x → IfErr r C
err-still C x (Ok v) is held = absurd is
err-still C x (Err e) is held = subst C (sym is) held

pub read-cause : {X : Type 0} (e : StateFault) (u w : TreeView) (state : Files → Result X Refusal) → HasReadCause e u w → HasCause e u w state
read-cause NoSeries u w state is = absurd is
read-cause (Bad file) u w state is = absurd is
read-cause Tree u w state is = is
read-cause (Disagree want got) u w state is = is
read-cause Memory u w state is = tt

-- the same behind calls that left the tree untouched
pub cause-behind : {X : Type 0} (e : StateFault) (u v w : TreeView) (state : Files → Result X Refusal) → IsUntouched u v → HasReadCause e v w → HasCause e u w state
cause-behind NoSeries u v w state same is = absurd is
cause-behind (Bad file) u v w state same is = absurd is
cause-behind Tree u v w state same is = rises_then u v w same.passes is
cause-behind (Disagree want got) u v w state same is = (is.0, sym same.told ∙ is.1)
cause-behind Memory u v w state same is = tt

abbrev pub save_if : Bool → Option (List ℕ) → Result (Option (List ℕ)) Refusal
save_if bad held = if bad then Err (Broken Save) else Ok held

pub next-is : (n : ℕ) (f : Files) (held : Option (List ℕ)) (behind bad : Bool) → get f (save_name (n + 1)) ≡ held → behind ≡ is_some (get f (save_name (n + 2))) → (is_bad held || behind) ≡ bad → next_save n f ≡ save_if bad held
next-is n f held behind bad at there is =
    let next : n + 1 ≡ suc n = omega arith in
    let second : n + 2 ≡ suc (suc n) = omega arith in
    ap (λ o. save_if (is_bad o || is_some (get f (save_name (suc (suc n))))) o) (ap (λ k. get f (save_name k)) (sym next) ∙ at)
    ∙ ap (λ t. save_if (is_bad held || t) held) (ap (λ k. is_some (get f (save_name k))) (sym second) ∙ sym there)
    ∙ ap (λ t. save_if t held) is

pub judged-cause : (e : StateFault) (u w : TreeView) (n : ℕ) (held : Option (List ℕ)) (behind : Bool) → ((f : Files) → u.told ≡ Some f → get f (save_name (n + 1)) ≡ held) → ((f : Files) → u.told ≡ Some f → behind ≡ is_some (get f (save_name (n + 2))))
    → (e ≡ Memory) ⊎ ((e ≡ Bad Save) × ((is_bad held || behind) ≡ true)) → HasCause e u w (next_save n)
judged-cause e u w n held behind at there is = ⊎_elim
    (λ (m : e ≡ Memory). subst (λ x. HasCause x u w (next_save n)) (sym m) tt)
    (λ (b : (e ≡ Bad Save) × ((is_bad held || behind) ≡ true)). subst (λ x. HasCause x u w (next_save n)) (sym b.0) (λ f told. next-is n f held behind true (at f told) (there f told) b.1))
    is
