-- What is applied once a command is done.
use Rattle.std.proofs.Common.{◌≡◌, ℕ, List, [], ◌++◌, Option, Some, None, Result, Ok, refl, sym, ◌∙◌, ap, subst}
use Rattle.std.specs.List.{AllByRecursion}
use Rattle.outside.specs.Files.{Files}
use Rattle.outside.specs.Quiet.{after_all}
use Rattle.series_stack.specs.Undoing.{entries_at}
use Rattle.series_stack.specs.Taking.{too_long}
use Rattle.series_stack.specs.Stack.{Stack, Refusal, stack_of, recovering, recover}
use Rattle.series_stack.specs.Commands.{Ending, Application, Reader, IsReader, names_of, StackOp, Work, work_of}
use Rattle.series_stack.specs.Commands.Ending.{Done}
use Rattle.series_stack.specs.Commands.StackOp.{Push, Pop, Applied}
use Rattle.series_stack.specs.Outcomes.{push_outcome, work_outcome, command}
use Rattle.series_stack.specs.Outcomes.Answer.{Ended}
use Rattle.series_stack.specs.Laws.{stack_after}
use Rattle.series_stack.proofs.Touching.{IsWithin}
use Rattle.series_stack.proofs.Recovery.{recovery}
use Rattle.series_stack.proofs.Works.{IsPush, work-ready}
use Rattle.series_stack.proofs.Pushing.{done_stack}
use Rattle.series_stack.proofs.Running.{saved_files, run_files, push_list, run_end, ran}
use Rattle.series_stack.proofs.Answering.{command-cases, behind_end}
use Rattle.series_stack.proofs.Standing.{pushed, back, push_saved, push_within, push_left, pop_counts, telling_is}

-- ---- a push
module _ (read : Reader) (lawful : IsReader read) (f : Files) (s : Stack) (w : Work) (stack : stack_of f ≡ Ok s) (work : work_of read Push f s ≡ Ok w) where
  abbrev it : IsPush read f s w
  it = pushed read lawful f s w stack work

  ended : (a : Application) → AllByRecursion (IsWithin (names_of it.patch.targets)) a.effects → too_long (entries_at (recover f) (names_of it.patch.targets)) ≡ None → a.ending ≡ Done
      → stack_of (after_all (recovering f ++ push_list (recover f) s.applied (names_of it.patch.targets) a a.ending) f) ≡ Ok (stack_after Push s)
  ended a within short done =
      let names : List (List ℕ) = names_of it.patch.targets in
      let g : Files = recover f in
      let clean = (back read lawful f s w stack work).clean in
      let saved = push_saved read lawful f s w stack work in
      ap stack_of (behind_end f (push_list g s.applied names a a.ending)
      ∙ ap (λ (e : Ending). after_all (push_list g s.applied names a e) g) done
      ∙ run_end g s clean names saved short a within Done)
      ∙ done_stack g s clean names saved short (run_files g s.applied names a) (ran g s clean names saved short a within) (push_left read lawful f s w stack work)

  by_length : (o : Option ℕ) → too_long (entries_at (recover f) (names_of it.patch.targets)) ≡ o
      → (push_outcome it.name it.patch s (entries_at (recover f) (names_of it.patch.targets)) o (recover f)).answer ≡ Ended Done
      → stack_of (after_all (recovering f ++ (push_outcome it.name it.patch s (entries_at (recover f) (names_of it.patch.targets)) o (recover f)).effects) f) ≡ Ok (stack_after Push s)
  by_length (Some size) long answer = absurd cc
  by_length None short answer =
      let a : Application = it.patch.run (saved_files (recover f) s.applied (names_of it.patch.targets)) in
      let done : a.ending ≡ Done = cc in
      ended a (push_within read lawful f s w stack work _) short done

  push_counts : (work_outcome w s (recover f)).answer ≡ Ended Done → stack_of (after_all (recovering f ++ (work_outcome w s (recover f)).effects) f) ≡ Ok (stack_after Push s)
  push_counts = subst (λ (x : Work). (work_outcome x s (recover f)).answer ≡ Ended Done → stack_of (after_all (recovering f ++ (work_outcome x s (recover f)).effects) f) ≡ Ok (stack_after Push s)) (sym it.work)
      (by_length (too_long (entries_at (recover f) (names_of it.patch.targets))) refl)

-- ---- every command
work_counts : (read : Reader) → IsReader read → (op : StackOp) (f : Files) (s : Stack) (w : Work) → stack_of f ≡ Ok s → work_of read op f s ≡ Ok w
    → (work_outcome w s (recover f)).answer ≡ Ended Done → stack_of (after_all (recovering f ++ (work_outcome w s (recover f)).effects) f) ≡ Ok (stack_after op s)
work_counts read lawful Push f s w stack work answer = push_counts read lawful f s w stack work answer
work_counts read lawful Pop f s w stack work answer = pop_counts read f s w stack work
work_counts read lawful Applied f s w stack work answer =
    ap (λ (x : Work). stack_of (after_all (recovering f ++ (work_outcome x s (recover f)).effects) f)) (telling_is read f s w work)
    ∙ ap stack_of (behind_end f [])
    ∙ (recovery f s (work-ready read Applied f s w stack work)).clean.stack

same_stack : (f : Files) (s t : Stack) → stack_of f ≡ Ok s → stack_of f ≡ Ok t → t ≡ s
same_stack f s t one other =
    let both : ◌≡◌ {A = Result Stack Refusal} (Ok t) (Ok s) = sym other ∙ one in
    let same : t ≡ s = cc in
    same

pub counted_after : (read : Reader) (op : StackOp) (f : Files) (s : Stack) → IsReader read → stack_of f ≡ Ok s → (command read op f).answer ≡ Ended Done → stack_of (after_all (command read op f).effects f) ≡ Ok (stack_after op s)
counted_after read op f s lawful stack = command-cases (λ o. o.answer ≡ Ended Done → stack_of (after_all o.effects f) ≡ Ok (stack_after op s)) read op f
    (λ e answer. absurd cc)
    (λ t w other work answer. work_counts read lawful op f t w other work answer ∙ ap (λ (x : Stack). Ok (stack_after op x)) (same_stack f s t stack other))
