-- What a push leaves, and every command that is stopped.
use Rattle.std.proofs.Common.{◌≡◌, ◌-◌, ℕ, suc, ◌≤◌, List, [], ◌++◌, length, is_some, true, Option, Some, None, Result, Ok, refl, sym, ◌∙◌, ap, subst, arith}
use Rattle.std.specs.List.{AllByRecursion}
use Rattle.std.specs.FinMap.{get}
use Rattle.outside.specs.Files.{Files, SameLasting, lasting-same}
use Rattle.outside.specs.Quiet.{after, after_all}
use Rattle.series_stack.specs.Undoing.{entries_at}
use Rattle.series_stack.specs.Taking.{too_long, AreSaved}
use Rattle.series_stack.specs.Stack.{Stack, Refusal, save_name, stack_of, saved_in, recovering, recover}
use Rattle.series_stack.specs.Commands.{Ending, Application, Patch, Reader, IsReader, IsPatch, names_of, StackOp, Work, work_of}
use Rattle.series_stack.specs.Commands.Ending.{Done, Rejected, CutOff}
use Rattle.series_stack.specs.Commands.StackOp.{Push, Pop, Applied}
use Rattle.series_stack.specs.Commands.Work.{Telling}
use Rattle.series_stack.specs.Outcomes.{raising, lowering, pop_effects, push_outcome, work_outcome, command}
use Rattle.series_stack.specs.Laws.{stack_after, IsFailedPush}
use Rattle.series_stack.proofs.Touching.{IsWithin}
use Rattle.series_stack.proofs.States.{stack-read, with_count}
use Rattle.series_stack.proofs.Recovering.{way-same}
use Rattle.series_stack.proofs.Recovery.{Recovery, recovery}
use Rattle.series_stack.proofs.Works.{IsPush, IsPop, work-is, work-ready, work-push, work-pop, targets-saved, left-below}
use Rattle.series_stack.proofs.Pushing.{done_stack}
use Rattle.series_stack.proofs.Running.{saved_files, run_files, push_list, run_end, ran, failing_way, failing_end, done_between}
use Rattle.series_stack.proofs.Popping.{pop_end, pop_stack, pop_between}
use Rattle.series_stack.proofs.Stopping.{Stops, stops_on_way, stops_between, way_behind, between_behind}
use Rattle.series_stack.proofs.Answering.{command-cases, behind_end}

pub stacks_apart : (f z : Files) (s : Stack) (n : ℕ) → stack_of f ≡ Ok s → stack_of z ≡ Ok (with_count s n) → (s.applied ≡ n → ⊥) → stack_of z ≡ stack_of f → ⊥
stacks_apart f z s n before after apart same =
    let both : ◌≡◌ {A = Result Stack Refusal} (Ok (with_count s n)) (Ok s) = sym after ∙ same ∙ before in
    let equal : with_count s n ≡ s = cc in
    apart (sym (ap (λ (t : Stack). t.applied) equal))

-- ---- pushes
module _ (f : Files) (s : Stack) (stack : stack_of f ≡ Ok s) (back : Recovery f s) (name : List ℕ) (p : Patch) (saved : AreSaved (names_of p.targets)) (within : (x : Files) → AllByRecursion (IsWithin (names_of p.targets)) (p.run x).effects) (le : suc s.applied ≤ length s.patches) where
  push_fails : (o : Option ℕ) → too_long (entries_at (recover f) (names_of p.targets)) ≡ o
      → IsFailedPush (push_outcome name p s (entries_at (recover f) (names_of p.targets)) o (recover f)).answer
      → SameLasting (recover f) (after_all (recovering f ++ (push_outcome name p s (entries_at (recover f) (names_of p.targets)) o (recover f)).effects) f)
  push_fails (Some size) long fails = subst (λ (x : Files). SameLasting (recover f) x) (sym (behind_end f [])) (lasting-same (recover f))
  push_fails None short fails =
      let a : Application = p.run (saved_files (recover f) s.applied (names_of p.targets)) in
      subst (λ (x : Files). SameLasting (recover f) x) (sym (behind_end f (push_list (recover f) s.applied (names_of p.targets) a a.ending)))
      (failing_end (recover f) s back.clean (names_of p.targets) saved short a (within _) a.ending fails)

  push_stops : (o : Option ℕ) → too_long (entries_at (recover f) (names_of p.targets)) ≡ o → Stops f (recovering f ++ (push_outcome name p s (entries_at (recover f) (names_of p.targets)) o (recover f)).effects)
  push_stops (Some size) long = stops_on_way f (recovering f ++ []) (way_behind back [] (way-same (recover f) (recover f) (lasting-same (recover f))))
  push_stops None short = by a.ending
    where
      a : Application
      a = p.run (saved_files (recover f) s.applied (names_of p.targets))

      by : (ending : Ending) → Stops f (recovering f ++ push_list (recover f) s.applied (names_of p.targets) a ending)
      by Done = stops_between f (after (raising s.applied) (run_files (recover f) s.applied (names_of p.targets) a)) (recovering f ++ push_list (recover f) s.applied (names_of p.targets) a Done)
          (behind_end f (push_list (recover f) s.applied (names_of p.targets) a Done) ∙ run_end (recover f) s back.clean (names_of p.targets) saved short a (within _) Done)
          (stacks_apart f (after (raising s.applied) (run_files (recover f) s.applied (names_of p.targets) a)) s (suc s.applied) stack
          (done_stack (recover f) s back.clean (names_of p.targets) saved short (run_files (recover f) s.applied (names_of p.targets) a) (ran (recover f) s back.clean (names_of p.targets) saved short a (within _)) le)
          (λ same. omega (arith, same)))
          (between_behind back (push_list (recover f) s.applied (names_of p.targets) a Done) (after (raising s.applied) (run_files (recover f) s.applied (names_of p.targets) a)) (done_between (recover f) s back.clean (names_of p.targets) saved short a (within _)))
      by Rejected = stops_on_way f (recovering f ++ push_list (recover f) s.applied (names_of p.targets) a Rejected) (way_behind back (push_list (recover f) s.applied (names_of p.targets) a Rejected) (failing_way (recover f) s back.clean (names_of p.targets) saved short a (within _) Rejected tt))
      by CutOff = stops_on_way f (recovering f ++ push_list (recover f) s.applied (names_of p.targets) a CutOff) (way_behind back (push_list (recover f) s.applied (names_of p.targets) a CutOff) (failing_way (recover f) s back.clean (names_of p.targets) saved short a (within _) CutOff tt))

-- ---- what is known of a push
module _ (read : Reader) (lawful : IsReader read) (f : Files) (s : Stack) (w : Work) (stack : stack_of f ≡ Ok s) (work : work_of read Push f s ≡ Ok w) where
  pub pushed : IsPush read f s w
  pushed = work-push read f s w work

  pub back : Recovery f s
  back = recovery f s (work-ready read Push f s w stack work)

  patch_is : IsPatch pushed.patch
  patch_is = lawful.patches _ pushed.patch pushed.is_read

  pub push_saved : AreSaved (names_of pushed.patch.targets)
  push_saved = targets-saved pushed.patch.targets patch_is.names pushed.names

  pub push_within : (x : Files) → AllByRecursion (IsWithin (names_of pushed.patch.targets)) (pushed.patch.run x).effects
  push_within x = patch_is.within x

  pub push_left : suc s.applied ≤ length s.patches
  push_left = left-below s.patches s.applied pushed.name pushed.more pushed.left

  work_fails : IsFailedPush (work_outcome w s (recover f)).answer → SameLasting (recover f) (after_all (recovering f ++ (work_outcome w s (recover f)).effects) f)
  work_fails = subst (λ (x : Work). IsFailedPush (work_outcome x s (recover f)).answer → SameLasting (recover f) (after_all (recovering f ++ (work_outcome x s (recover f)).effects) f)) (sym pushed.work)
      (push_fails f s stack back pushed.name pushed.patch push_saved push_within push_left (too_long (entries_at (recover f) (names_of pushed.patch.targets))) refl)

  push_work_stops : Stops f (recovering f ++ (work_outcome w s (recover f)).effects)
  push_work_stops = subst (λ (x : Work). Stops f (recovering f ++ (work_outcome x s (recover f)).effects)) (sym pushed.work)
      (push_stops f s stack back pushed.name pushed.patch push_saved push_within push_left (too_long (entries_at (recover f) (names_of pushed.patch.targets))) refl)

pub failed_push : (read : Reader) (f : Files) → IsReader read → IsFailedPush (command read Push f).answer → SameLasting (recover f) (after_all (command read Push f).effects f)
failed_push read f lawful = command-cases (λ o. IsFailedPush o.answer → SameLasting (recover f) (after_all o.effects f)) read Push f
    (λ e fails. absurd fails)
    (λ s w stack work. work_fails read lawful f s w stack work)

-- ---- pops
module _ (read : Reader) (f : Files) (s : Stack) (w : Work) (stack : stack_of f ≡ Ok s) (work : work_of read Pop f s ≡ Ok w) where
  pub popped : IsPop f s w
  popped = work-pop read f s w work

  pub before_pop : Recovery f s
  before_pop = recovery f s (work-ready read Pop f s w stack work)

  pub one_more : suc popped.before ≡ suc s.applied → ⊥
  one_more same = omega (arith, same, popped.applied)

  pub fewer : popped.before ≤ length s.patches
  fewer = omega (arith, (stack-read f s stack).most, popped.applied)

  pub pop_saved : is_some (saved_in (get (recover f) (save_name (suc popped.before)))) ≡ true
  pop_saved = ap (λ (o : Option (List ℕ)). is_some (saved_in o)) (before_pop.saves (suc popped.before) one_more) ∙ popped.saved

  pub none_behind : get (recover f) (save_name (suc (suc popped.before))) ≡ None
  none_behind = subst (λ (n : ℕ). get (recover f) (save_name (suc n)) ≡ None) popped.applied before_pop.clean.next

  pop_work_stops : Stops f (recovering f ++ (work_outcome w s (recover f)).effects)
  pop_work_stops = subst (λ (x : Work). Stops f (recovering f ++ (work_outcome x s (recover f)).effects)) (sym popped.work)
      (stops_between f (recover (after (lowering popped.before) (recover f))) (recovering f ++ pop_effects popped.before (recover f))
      (behind_end f (pop_effects popped.before (recover f)) ∙ pop_end (recover f) s popped.before before_pop.clean.stack fewer pop_saved none_behind)
      (stacks_apart f (recover (after (lowering popped.before) (recover f))) s popped.before stack (pop_stack (recover f) s popped.before before_pop.clean.stack fewer pop_saved none_behind) (λ same. omega (arith, same, popped.applied)))
      (between_behind before_pop (pop_effects popped.before (recover f)) (recover (after (lowering popped.before) (recover f))) (pop_between (recover f) s popped.before before_pop.clean.stack fewer pop_saved none_behind)))

  pub pop_counts : stack_of (after_all (recovering f ++ (work_outcome w s (recover f)).effects) f) ≡ Ok (stack_after Pop s)
  pop_counts =
      let less : popped.before ≡ s.applied - 1 = omega (arith, popped.applied) in
      ap (λ (x : Work). stack_of (after_all (recovering f ++ (work_outcome x s (recover f)).effects) f)) popped.work
      ∙ ap stack_of (behind_end f (pop_effects popped.before (recover f)) ∙ pop_end (recover f) s popped.before before_pop.clean.stack fewer pop_saved none_behind)
      ∙ pop_stack (recover f) s popped.before before_pop.clean.stack fewer pop_saved none_behind
      ∙ ap (λ (n : ℕ). Ok (with_count s n)) less

-- ---- every command
pub telling_is : (read : Reader) (f : Files) (s : Stack) (w : Work) → work_of read Applied f s ≡ Ok w → w ≡ Telling
telling_is read f s w work =
    let both : ◌≡◌ {A = Result Work Refusal} (Ok Telling) (Ok w) = (work-is read Applied f s w work).1 in
    let same : Telling ≡ w = cc in
    sym same

telling_stops : (f : Files) (s : Stack) (w : Work) → Recovery f s → w ≡ Telling → Stops f (recovering f ++ (work_outcome w s (recover f)).effects)
telling_stops f s w back is = subst (λ (x : Work). Stops f (recovering f ++ (work_outcome x s (recover f)).effects)) (sym is)
    (stops_on_way f (recovering f ++ []) (way_behind back [] (way-same (recover f) (recover f) (lasting-same (recover f)))))

work_stops : (read : Reader) → IsReader read → (op : StackOp) (f : Files) (s : Stack) (w : Work) → stack_of f ≡ Ok s → work_of read op f s ≡ Ok w → Stops f (recovering f ++ (work_outcome w s (recover f)).effects)
work_stops read lawful Push f s w stack work = push_work_stops read lawful f s w stack work
work_stops read lawful Pop f s w stack work = pop_work_stops read f s w stack work
work_stops read lawful Applied f s w stack work = telling_stops f s w (recovery f s (work-ready read Applied f s w stack work)) (telling_is read f s w work)

pub stopped_command : (read : Reader) → IsReader read → (op : StackOp) (f : Files) → Stops f (command read op f).effects
stopped_command read lawful op f = command-cases (λ o. Stops f o.effects) read op f
    (λ e. stops_on_way f [] (way-same f f (lasting-same f)))
    (λ s w stack work. work_stops read lawful op f s w stack work)
