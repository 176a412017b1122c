-- What a command answers, and how it ends.
use Rattle.std.proofs.Common.{◌≡◌, ℕ, List, [], ◌++◌, Option, Some, None, Result, Ok, Err, refl, sym, ◌∙◌, ap, subst}
use Rattle.outside.specs.Files.{Files}
use Rattle.outside.specs.Quiet.{Effect, after_all}
use Rattle.series_stack.specs.Saves.{Entry}
use Rattle.series_stack.specs.Undoing.{entries_at}
use Rattle.series_stack.proofs.EffectLists.{after_all-append}
use Rattle.series_stack.specs.Taking.{too_long}
use Rattle.series_stack.specs.Stack.{Stack, Refusal, stack_of, recovering, recover}
use Rattle.series_stack.specs.Commands.{Patch, Reader, names_of, StackOp, Work, work_of}
use Rattle.series_stack.specs.Commands.Work.{Pushing, Popping, Telling}
use Rattle.series_stack.specs.Outcomes.{Outcome, push_outcome, work_outcome, behind_recovery, outcome_of, outcome_in, refused, command}
use Rattle.series_stack.specs.Outcomes.Answer.{Refused}

-- ---- the outcome by what is found
pub command-is : (read : Reader) (op : StackOp) (f : Files) (r : Result Stack Refusal) → stack_of f ≡ r → command read op f ≡ outcome_in read op f r
unfolding command
command-is read op f r is = ap (λ (x : Result Stack Refusal). outcome_in read op f x) is

pub command-work : (read : Reader) (op : StackOp) (f : Files) (s : Stack) (w : Result Work Refusal) → stack_of f ≡ Ok s → work_of read op f s ≡ w → command read op f ≡ outcome_of s f w
command-work read op f s w stack work = command-is read op f (Ok s) stack ∙ ap (λ (x : Result Work Refusal). outcome_of s f x) work

-- by cases: what is refused, and what is done
pub command-cases : (P : Outcome → Type 0) (read : Reader) (op : StackOp) (f : Files) → ((e : Refusal) → P (refused e))
    → ((s : Stack) (w : Work) → stack_of f ≡ Ok s → work_of read op f s ≡ Ok w → P (behind_recovery s (recovering f) (work_outcome w s (recover f)))) → P (command read op f)
command-cases P read op f none some = stacks (stack_of f) refl
  where
    works : (s : Stack) → stack_of f ≡ Ok s → (w : Result Work Refusal) → work_of read op f s ≡ w → P (command read op f)
    works s stack (Err e) work = subst P (sym (command-work read op f s (Err e) stack work)) (none e)
    works s stack (Ok w) work = subst P (sym (command-work read op f s (Ok w) stack work)) (some s w stack work)

    stacks : (r : Result Stack Refusal) → stack_of f ≡ r → P (command read op f)
    stacks (Err e) stack = subst P (sym (command-is read op f (Err e) stack)) (none e)
    stacks (Ok s) stack = works s stack (work_of read op f s) refl

-- ---- refused commands
push_answers : (name : List ℕ) (p : Patch) (s : Stack) (es : List Entry) (o : Option ℕ) (g : Files) (e : Refusal) → (push_outcome name p s es o g).answer ≡ Refused e → ⊥
push_answers name p s es (Some size) g e is = cc
push_answers name p s es None g e is = cc

work_answers : (w : Work) (s : Stack) (g : Files) (e : Refusal) → (work_outcome w s g).answer ≡ Refused e → ⊥
work_answers (Pushing name p) s g e is = push_answers name p s (entries_at g (names_of p.targets)) (too_long (entries_at g (names_of p.targets))) g e is
work_answers (Popping name n) s g e is = cc
work_answers Telling s g e is = cc

pub refused_nothing : (read : Reader) (op : StackOp) (f : Files) (e : Refusal) → (command read op f).answer ≡ Refused e → (command read op f).effects ≡ []
refused_nothing read op f e = command-cases (λ o. o.answer ≡ Refused e → o.effects ≡ []) read op f
    (λ other is. refl)
    (λ s w stack work is. absurd (work_answers w s (recover f) e is))

-- behind a recovery
pub behind_end : (f : Files) (l : List Effect) → after_all (recovering f ++ l) f ≡ after_all l (recover f)
behind_end f l = after_all-append (recovering f) l f
