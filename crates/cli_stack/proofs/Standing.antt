-- The stack that was read, and what a command is to do with it.
use Rattle.std.proofs.Common.{◌≡◌, ℕ, suc, List, Bool, true, false, Option, Some, Result, Ok, Err, refl, sym, ◌∙◌, ap, subst, arith, if◌then◌else◌}
use Rattle.std.specs.Prelude.{IfErr, option_map, vec_items}
use Rattle.std.proofs.lemmas.Bool.{false≢true}
use Rattle.std.specs.FinMap.{get}
use Rattle.outside.specs.Files.{Files}
use Rattle.outside.specs.TreeView.{TreeView}
use Rattle.outside.specs.ScratchView.{ScratchView, scratch_passes_none}
use Rattle.outside.specs.SinkView.{SinkView, sink_passes_none}
use Rattle.outside.specs.Calls.{IsUntouched}
use Rattle.outside.specs.Quiet.{Effect}
use Rattle.cli_tool_words.specs.declared.jobs.StackOp.{StackOp}
use Rattle.series_stack.specs.declared.fault.StateFile.TheVariants.{Save}
use Rattle.series_stack.specs.Stack.{Stack, Refusal, save_name, stack_of, undoing, recover}
use Rattle.series_stack.specs.Stack.Refusal.{NoSeries, Bad}
use Rattle.series_stack.specs.Commands.{Work, has_bad_save, work_of, work_by}
use Rattle.series_stack.specs.Outcomes as law
use Rattle.series_stack.proofs.Answering.{command-is, command-work}
use Rattle.series_stack.proofs.Recovering.{recovering-is}
use Rattle.stack_patch.specs.Reading.{read_patch}
use Rattle.stack_state.specs.Reading.{next_save}
use Rattle.stack_state.specs.declared.fault.StateFault.{StateFault}
use Rattle.stack_state.specs.declared.fault.StateFault.TheVariants as state
use Rattle.stack_state.specs.Causes as causes
use Rattle.cli_run_answers.specs.declared.why.Why.{Why}
use Rattle.cli_run_answers.specs.declared.why.Why.TheVariants.{Memory}
use Rattle.cli_run_answers.specs.Worlds.{World, world}
use Rattle.cli_run_answers.specs.Outcomes.{Outcome}
use Rattle.cli_stack.specs.Jobs.{operation}
use Rattle.cli_stack.specs.Command.{outcome_with, next_file, applied_in, on_op}
use Rattle.cli_stack.specs.Comes.{StopsEarly}
use Rattle.cli_stack.specs.Faults.{of_state}
use Rattle.cli_stack.proofs.Coming.{cause_then}
use Rattle.cli_stack.specs.States.{IsStack, IsState, plain_stack}
use Rattle.stack_state.specs.declared.state.Standing.{Standing}
use Rattle.cli_stack.specs.declared.reading.State.{State}

-- ---- a tree that is told the same
pub stack_on : {u v : TreeView} {s : Standing} → IsUntouched u v → IsStack u s → IsStack v s
stack_on same is = record { few = is.few; applied = is.applied; stack = λ f told. is.stack f (sym same.told ∙ told) }

pub state_on : {u v : TreeView} {s : State} → IsUntouched u v → IsState u s → IsState v s
state_on same is = record { is = stack_on same is.is; good = is.good; next = λ f told. is.next f (sym same.told ∙ told) }

-- ---- refusals of the stack's state
-- the outcome is that of the command, where the stack is as it is read
abbrev of-law : Files → Result Stack Refusal → law.Outcome → Outcome
of-law f r o = outcome_with (next_file r f) (applied_in r) f o

refused_stack : (op : StackOp) (f : Files) (e : Refusal) → stack_of f ≡ Err e → on_op op f ≡ of-law f (Err e) (law.refused e)
refused_stack op f e is =
    ap (λ (r : Result Stack Refusal). of-law f r (law.command read_patch (operation op) f)) is
    ∙ ap (λ (o : law.Outcome). of-law f (Err e) o) (command-is read_patch (operation op) f (Err e) is)

refused_work : (op : StackOp) (f : Files) (s : Stack) (e : Refusal) → stack_of f ≡ Ok s → work_of read_patch (operation op) f s ≡ Err e → on_op op f ≡ of-law f (Ok s) (law.refused e)
refused_work op f s e stack is =
    ap (λ (r : Result Stack Refusal). of-law f r (law.command read_patch (operation op) f)) stack
    ∙ ap (λ (o : law.Outcome). of-law f (Ok s) o) (command-work read_patch (operation op) f s (Err e) stack is)

-- the stack isn't read
pub stack_stops : (e : StateFault) (op : StackOp) (u w : TreeView) (a : ScratchView) (c : SinkView) → causes.HasCause e u w stack_of → StopsEarly (of_state e) op (world u a c) (world w a c)
stack_stops state.NoSeries op u w a c cause = record { cause = tt; early = λ own. refl; stops = λ own f told. refused_stack op f NoSeries (cause f told) }
stack_stops (state.Bad file) op u w a c cause = record { cause = tt; early = λ own. refl; stops = λ own f told. refused_stack op f (Bad file) (cause f told) }
stack_stops state.Tree op u w a c cause = record { cause = cause; early = λ own. absurd (false≢true own); stops = λ own. absurd (false≢true own) }
stack_stops (state.Disagree want got) op u w a c cause = record {
  cause = (λ equal. let no : ⊥ = omega (arith, equal, cause.0) in no, λ f told. let never = sym told.files ∙ cause.1 in absurd (cc));
  early = λ own. absurd (false≢true own);
  stops = λ own. absurd (false≢true own);
}
stack_stops state.Memory op u w a c cause = record { cause = tt; early = λ own. absurd (false≢true own); stops = λ own. absurd (false≢true own) }

-- ---- the saves at which each command looks
save_refused : (b : Bool) (held : Option (List ℕ)) (e : Refusal) → (if b then Err (Bad Save) else Ok held) ≡ Err e → (b ≡ true) × (e ≡ Bad Save)
save_refused true held e is = (refl, cc)
save_refused false held e is = absurd (cc)

save_taken : (b : Bool) (held next : Option (List ℕ)) → (if b then Err (Bad Save) else Ok held) ≡ Ok next → (b ≡ false) × (held ≡ next)
save_taken true held next is = absurd (cc)
save_taken false held next is = (refl, cc)

bad_work : (op : StackOp) (f : Files) (s : Stack) → has_bad_save s.applied f ≡ true → work_of read_patch (operation op) f s ≡ Err (Bad Save)
unfolding work_of
bad_work op f s is = ap (λ (b : Bool). if b then Err (Bad Save) else work_by read_patch (operation op) f s) is

pub good_work : (op : StackOp) (f : Files) (s : Stack) → has_bad_save s.applied f ≡ false → work_of read_patch (operation op) f s ≡ work_by read_patch (operation op) f s
unfolding work_of
good_work op f s is = ap (λ (b : Bool). if b then Err (Bad Save) else work_by read_patch (operation op) f s) is

bad_save : (op : StackOp) (u : TreeView) (s : Standing) → IsStack u s → (e : Refusal) → (f : Files) → u.told ≡ Some f → next_save s.applied f ≡ Err e → on_op op f ≡ of-law f (Ok (plain_stack s)) (law.refused (Bad Save))
bad_save op u s is e f told refuses =
    refused_work op f (plain_stack s) (Bad Save) (is.stack f told)
    (bad_work op f (plain_stack s) (save_refused (has_bad_save s.applied f) (get f (save_name (suc s.applied))) e refuses).0)

pub save_stops : (e : StateFault) (op : StackOp) (u w : TreeView) (a : ScratchView) (c : SinkView) (s : Standing) → IsStack u s → causes.HasCause e u w (next_save s.applied) → StopsEarly (of_state e) op (world u a c) (world w a c)
save_stops state.NoSeries op u w a c s is cause = record {
  cause = tt;
  early = λ own. refl;
  stops = λ own f told. let both = save_refused (has_bad_save s.applied f) (get f (save_name (suc s.applied))) NoSeries (cause f told) in let never = both.1 in absurd (cc);
}
save_stops (state.Bad file) op u w a c s is cause = record {
  cause = tt;
  early = λ own. refl;
  stops = λ own f told.
      let both = save_refused (has_bad_save s.applied f) (get f (save_name (suc s.applied))) (Bad file) (cause f told) in
      bad_save op u s is (Bad file) f told (cause f told) ∙ ap (λ (x : Refusal). of-law f (Ok (plain_stack s)) (law.refused x)) (sym both.1);
}
save_stops state.Tree op u w a c s is cause = record { cause = cause; early = λ own. absurd (false≢true own); stops = λ own. absurd (false≢true own) }
save_stops (state.Disagree want got) op u w a c s is cause = record {
  cause = (λ equal. let no : ⊥ = omega (arith, equal, cause.0) in no, λ f told. let never = sym told.files ∙ cause.1 in absurd (cc));
  early = λ own. absurd (false≢true own);
  stops = λ own. absurd (false≢true own);
}
save_stops state.Memory op u w a c s is cause = record { cause = tt; early = λ own. absurd (false≢true own); stops = λ own. absurd (false≢true own) }

-- ---- a state that is read, as the files tell it
pub record Stands (f : Files) (s : State) : Type 0 where
  pub stack : stack_of f ≡ Ok (plain_stack s.stack)
  pub good : has_bad_save s.stack.applied f ≡ false
  pub held : get f (save_name (suc s.stack.applied)) ≡ option_map vec_items s.next

pub stands : {u : TreeView} {s : State} → IsState u s → (f : Files) → u.told ≡ Some f → Stands f s
stands {s = s} is f told =
    let both = save_taken (has_bad_save s.stack.applied f) (get f (save_name (suc s.stack.applied))) (option_map vec_items s.next) (is.next f told) in
    record { stack = is.is.stack f told; good = both.0; held = both.1 }

-- a command that isn't refused
pub working : (op : StackOp) (f : Files) (s : Stack) (w : Work) → stack_of f ≡ Ok s → has_bad_save s.applied f ≡ false → work_by read_patch (operation op) f s ≡ Ok w
    → on_op op f ≡ of-law f (Ok s) (law.behind_recovery s (undoing (suc s.applied) f) (law.work_outcome w s (recover f)))
working op f s w stack good work =
    ap (λ (r : Result Stack Refusal). of-law f r (law.command read_patch (operation op) f)) stack
    ∙ ap (λ (o : law.Outcome). of-law f (Ok s) o) (command-work read_patch (operation op) f s (Ok w) stack (good_work op f s good ∙ work))
    ∙ ap (λ (es : List Effect). of-law f (Ok s) (law.behind_recovery s es (law.work_outcome w s (recover f)))) (recovering-is f (Ok s) stack)

-- one that is
pub refusing : (op : StackOp) (f : Files) (s : Stack) (e : Refusal) → stack_of f ≡ Ok s → has_bad_save s.applied f ≡ false → work_by read_patch (operation op) f s ≡ Err e → on_op op f ≡ of-law f (Ok s) (law.refused e)
refusing op f s e stack good work = refused_work op f s e stack (good_work op f s good ∙ work)

-- ---- seen from before, where the tree is told the same
pub state_back : {u v : TreeView} {s : State} → IsUntouched u v → IsState v s → IsState u s
state_back same is = record {
  is = record { few = is.is.few; applied = is.is.applied; stack = λ f told. is.is.stack f (same.told ∙ told) };
  good = is.good;
  next = λ f told. is.next f (same.told ∙ told);
}

pub stops_behind : {why : Why} {op : StackOp} {u v w : TreeView} {a : ScratchView} {c : SinkView} → IsUntouched u v → StopsEarly why op (world v a c) (world w a c) → StopsEarly why op (world u a c) (world w a c)
stops_behind {why = why} {op = op} {u = u} {v = v} {w = w} {a = a} {c = c} same stops = record {
  cause = cause_then (Ok op) (world u a c) (world v a c) (world w a c) why same.passes (scratch_passes_none a) (sink_passes_none c) stops.cause;
  early = stops.early;
  stops = λ own f told. stops.stops own f (same.told ∙ told);
}

pub stops_as : {op : StackOp} {u w : World} (y why : Why) → y ≡ why → StopsEarly why op u w → StopsEarly y op u w
stops_as {op = op} {u = u} {w = w} y why is stops = subst (λ (x : Why). StopsEarly x op u w) (sym is) stops

-- memory ran out before the first effect
pub starved : (op : StackOp) (u w : World) → StopsEarly Memory op u w
starved op u w = record { cause = tt; early = λ own. absurd (false≢true own); stops = λ own. absurd (false≢true own) }

-- a refusal behind a call that only looks, seen from before
pub stops_before : (u v w : TreeView) → IsUntouched u v → (r : Result State Why) → IfErr r (λ why. (op : StackOp) (a : ScratchView) (c : SinkView) → StopsEarly why op (world v a c) (world w a c))
    → IfErr r (λ why. (op : StackOp) (a : ScratchView) (c : SinkView) → StopsEarly why op (world u a c) (world w a c))
stops_before u v w same (Ok s) stops = tt
stops_before u v w same (Err why) stops = λ op a c. stops_behind same (stops op a c)
