-- What the commands of a stack answer, say and change.
use Rattle.std.specs.Prelude.{ℕ, suc, List, [], ◌∷◌, ◌++◌, codes, length, Option, None, Some, Result, Ok, Err}
use Rattle.num_text.specs.Numbers.{decimal}
use Rattle.outside.specs.Files.{Files}
use Rattle.outside.specs.Quiet.{Effect, after, after_all}
use Rattle.outside.specs.Quiet.Effect.{Put}
use Rattle.series_stack.specs.Count.{count_text}
use Rattle.series_stack.specs.Saves.{Entry, save_text}
use Rattle.series_stack.specs.Undoing.{entries_at}
use Rattle.series_stack.specs.Taking.{too_long}
use Rattle.series_stack.specs.Stack.{Stack, Refusal, count_name, save_name, stack_of, undoing, undoing_by, recovering, recover}
use Rattle.series_stack.specs.Commands.{Ending, Application, Patch, Reader, names_of, StackOp, Work, work_of}
use Rattle.series_stack.specs.Commands.Ending.{Done, Rejected, CutOff}
use Rattle.series_stack.specs.Commands.Work.{Pushing, Popping, Telling}

pub data Answer : Type 0 where
  -- nothing was done
  Refused : Refusal → Answer
  -- a file that is to be saved has so many bytes, too many
  TooLong : ℕ → Answer
  Ended : Ending → Answer

pub record Outcome : Type 0 where
  pub answer : Answer
  pub text : List ℕ
  pub effects : List Effect

-- ---- texts
abbrev pub said : List ℕ → List ℕ → List ℕ
said words name = words ++ (name ++ 10 ∷ [])

abbrev pub tally : ℕ → ℕ → List ℕ
tally n all = codes "applied " ++ (decimal n ++ (codes " of " ++ (decimal all ++ 10 ∷ [])))

abbrev pub recovered_text : ℕ → List Effect → List ℕ
recovered_text n [] = []
recovered_text n (e ∷ es) = said (codes "Restored to ") (decimal n)

-- so many were applied before, and the patch has this name
abbrev pub ending_text : Ending → List ℕ → ℕ → ℕ → List ℕ
ending_text Done name n all = tally (suc n) all
ending_text Rejected name n all = codes "Patch " ++ (name ++ (codes " does not apply" ++ 10 ∷ tally n all))
ending_text CutOff name n all = []

-- ---- effects on files that are recovered, where so many patches are applied

abbrev pub raising : ℕ → Effect
raising n = Put count_name (count_text (suc n))

-- behind the patch's effects: the count rises, or what the patch found is restored
abbrev pub closing : Ending → ℕ → List Entry → Files → List Effect
closing Done n es f = raising n ∷ []
closing Rejected n es f = undoing_by (save_name (suc n)) (Some es) f
closing CutOff n es f = undoing_by (save_name (suc n)) (Some es) f

-- on the files with the save
abbrev pub run_effects : Application → ℕ → List Entry → Files → List Effect
run_effects a n es f = a.effects ++ closing a.ending n es (after_all a.effects f)

abbrev pub saving : ℕ → List Entry → Effect
saving n es = Put (save_name (suc n)) (save_text es)

abbrev pub push_effects : Patch → ℕ → List Entry → Files → List Effect
push_effects p n es f = saving n es ∷ run_effects (p.run (after (saving n es) f)) n es (after (saving n es) f)

abbrev pub lowering : ℕ → Effect
lowering n = Put count_name (count_text n)

abbrev pub pop_effects : ℕ → Files → List Effect
pop_effects n f = lowering n ∷ undoing (suc n) (after (lowering n) f)

-- ---- outcomes on recovered files
abbrev pub run_outcome : Application → List ℕ → Stack → List Effect → Outcome
run_outcome a name s effects = record {
  answer = Ended a.ending;
  text = said (codes "Applying patch ") name ++ (a.text ++ ending_text a.ending name s.applied (length s.patches));
  effects = effects;
}

abbrev pub push_outcome : List ℕ → Patch → Stack → List Entry → Option ℕ → Files → Outcome
push_outcome name p s es (Some size) f = record { answer = TooLong size; text = said (codes "Applying patch ") name; effects = [] }
push_outcome name p s es None f = run_outcome (p.run (after (saving s.applied es) f)) name s (push_effects p s.applied es f)

abbrev pub work_outcome : Work → Stack → Files → Outcome
work_outcome (Pushing name p) s f = push_outcome name p s (entries_at f (names_of p.targets)) (too_long (entries_at f (names_of p.targets))) f
work_outcome (Popping name n) s f = record { answer = Ended Done; text = said (codes "Removing patch ") name ++ tally n (length s.patches); effects = pop_effects n f }
work_outcome Telling s f = record { answer = Ended Done; text = tally s.applied (length s.patches); effects = [] }

-- ---- whole commands
abbrev pub refused : Refusal → Outcome
refused e = record { answer = Refused e; text = []; effects = [] }

abbrev pub behind_recovery : Stack → List Effect → Outcome → Outcome
behind_recovery s effects o = record { answer = o.answer; text = recovered_text s.applied effects ++ o.text; effects = effects ++ o.effects }

abbrev pub outcome_of : Stack → Files → Result Work Refusal → Outcome
outcome_of s f (Err e) = refused e
outcome_of s f (Ok w) = behind_recovery s (recovering f) (work_outcome w s (recover f))

abbrev pub outcome_in : Reader → StackOp → Files → Result Stack Refusal → Outcome
outcome_in read op f (Err e) = refused e
outcome_in read op f (Ok s) = outcome_of s f (work_of read op f s)

-- the refusals in their order; else what an interrupted command did is undone first, and then the work is done. The patch
-- runs with its save in place: none of its names is the stack's, so it doesn't see it
unfoldable pub command : Reader → StackOp → Files → Outcome
command read op f = outcome_in read op f (stack_of f)
