-- What a stack of patches promises.
use Rattle.std.specs.Prelude.{◌≡◌, suc, ◌⊎◌, ◌-◌, List, ℕ, [], ◌∷◌, false, Option, None, Some}
use Rattle.std.specs.List.{AllByRecursion}
use Rattle.outside.specs.Files.{Files, SameLasting, is_temp}
use Rattle.outside.specs.Quiet.{after_all}
use Rattle.series_stack.specs.Undoing.{SameBeside}
use Rattle.series_stack.specs.Stack.{Stack, count_name, patch_name, stack_of, recover}
use Rattle.series_stack.specs.Commands.{Reader, StackOp}
use Rattle.series_stack.specs.Commands.Ending.{Done, Rejected, CutOff}
use Rattle.series_stack.specs.Commands.StackOp.{Push, Pop, Applied}
use Rattle.series_stack.specs.Outcomes.{Answer, command}
use Rattle.series_stack.specs.Outcomes.Answer.{Refused, TooLong, Ended}

-- a push whose patch isn't applied
abbrev pub IsFailedPush : Answer → Type 0
IsFailedPush (Refused e) = ⊥
IsFailedPush (TooLong size) = Unit {0}
IsFailedPush (Ended Done) = ⊥
IsFailedPush (Ended Rejected) = Unit {0}
IsFailedPush (Ended CutOff) = Unit {0}

-- the files after a command
abbrev pub files_after : Reader → StackOp → Files → Files
files_after read op f = after_all (command read op f).effects f

-- the pop takes the push back: its answer, the stack, and all files that aren't temporary but for the count's
pub record TakesBack (read : Reader) (f : Files) : Type 0 where
  pub answer : (command read Pop (files_after read Push f)).answer ≡ Ended Done
  pub stack : stack_of (files_after read Pop (files_after read Push f)) ≡ stack_of f
  pub files : SameBeside (count_name ∷ []) (recover f) (files_after read Pop (files_after read Push f))

-- what is left recovers to what the files before the command recover to, or to what those after it do, as its count says
pub record Recovers (before after left : Files) : Type 0 where
  pub counts : (stack_of left ≡ stack_of before) ⊎ (stack_of left ≡ stack_of after)
  pub early : stack_of left ≡ stack_of before → SameLasting (recover before) (recover left)
  pub late : stack_of left ≡ stack_of after → SameLasting (recover after) (recover left)

-- why a command does nothing but undo what an interrupted one did: it is refused, or a file is too long to be saved
abbrev pub refusal_in : Answer → Option Answer
refusal_in (Refused e) = Some (Refused e)
refusal_in (TooLong size) = Some (TooLong size)
refusal_in (Ended ending) = None

-- no text of these patches has a name of a temporary
abbrev pub HaveLastingTexts : List (List ℕ) → Type 0
HaveLastingTexts names = AllByRecursion (λ name. is_temp (patch_name name) ≡ false) names

-- a command over what is left is refused where it would be over the files before, or over those after, as the count says; and
-- with the same answer
pub record RefusesAs (read : Reader) (op : StackOp) (before after left : Files) : Type 0 where
  pub early : stack_of left ≡ stack_of before → refusal_in (command read op left).answer ≡ refusal_in (command read op before).answer
  pub late : stack_of left ≡ stack_of after → refusal_in (command read op left).answer ≡ refusal_in (command read op after).answer

-- the stack after a command that is done
abbrev pub stack_after : StackOp → Stack → Stack
stack_after Push s = record { patches = s.patches; applied = suc s.applied }
stack_after Pop s = record { patches = s.patches; applied = s.applied - 1 }
stack_after Applied s = s
