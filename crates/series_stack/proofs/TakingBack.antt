-- A pop behind a push that is done.
use Rattle.std.proofs.Common.{◌≡◌, ℕ, suc, ◌≤◌, List, [], ◌∷◌, ◌++◌, drop, length, true, false, bytes_eq, is_some, Option, Some, None, Result, Ok, Err, refl, sym, ◌∙◌, ap, subst, arith}
use Rattle.std.specs.List.{AllByRecursion}
use Rattle.std.specs.FinMap.{get}
use Rattle.std.proofs.lemmas.Bool.{or_parts}
use Rattle.outside.specs.Files.{Files}
use Rattle.outside.specs.Quiet.{after, after_all}
use Rattle.series_stack.specs.Saves.{save_text}
use Rattle.series_stack.specs.Undoing.{entries_at, is_one_of, SameBeside}
use Rattle.series_stack.specs.Taking.{too_long, AreSaved}
use Rattle.series_stack.specs.Stack.{Stack, Refusal, count_name, save_name, stack_of, saved_in, recovering, recover}
use Rattle.series_stack.specs.Commands.{Ending, Application, Reader, IsReader, names_of, Work, work_of}
use Rattle.series_stack.specs.Commands.Ending.{Done}
use Rattle.series_stack.specs.Commands.StackOp.{Push, Pop}
use Rattle.series_stack.specs.Commands.Work.{Pushing, Popping}
use Rattle.series_stack.specs.Outcomes.{Outcome, raising, lowering, pop_effects, push_outcome, outcome_of, command}
use Rattle.series_stack.specs.Outcomes.Answer.{Refused, Ended}
use Rattle.series_stack.specs.Laws.{files_after, TakesBack}
use Rattle.series_stack.proofs.Touching.{neither, IsWithin, effect-apart}
use Rattle.series_stack.proofs.States.{with_count}
use Rattle.series_stack.proofs.Recovering.{IsClean, clean-recover}
use Rattle.series_stack.proofs.Recovery.{recovered-at}
use Rattle.series_stack.proofs.Works.{IsPush, pops}
use Rattle.series_stack.proofs.Taking.{save-read}
use Rattle.series_stack.proofs.Pushing.{HasSave, saved_behind, back_at, done_stack}
use Rattle.series_stack.proofs.Popping.{count_apart, lowered_stack, pop_end, pop_stack}
use Rattle.series_stack.proofs.Running.{saved_files, run_files, push_list, run_end, ran}
use Rattle.series_stack.proofs.Answering.{command-work, behind_end}
use Rattle.series_stack.proofs.Standing.{back, pushed, push_saved, push_within, push_left}

-- a pop of these files takes a push back that recovered to those
pub record Undoes (read : Reader) (s : Stack) (g z : Files) : Type 0 where
  pub answer : (command read Pop z).answer ≡ Ended Done
  pub stack : stack_of (files_after read Pop z) ≡ Ok s
  pub files : SameBeside (count_name ∷ []) g (files_after read Pop z)

suc_below : (n : ℕ) → suc (suc (suc n)) ≡ suc n → ⊥
suc_below n is = omega (arith, is)

-- ---- files with the save of the last patch, and a count that rose
module _ (read : Reader) (g : Files) (s : Stack) (clean : IsClean g s) (behind : get g (save_name (suc (suc (suc s.applied)))) ≡ None) (names : List (List ℕ)) (saved : AreSaved names) (short : too_long (entries_at g names) ≡ None)
    (y : Files) (has : HasSave g s names y) (name : List ℕ) (more : List (List ℕ)) (left : drop s.applied s.patches ≡ name ∷ more) (le : suc s.applied ≤ length s.patches) where
  save_there : get (after (raising s.applied) y) (save_name (suc s.applied)) ≡ Some (save_text (entries_at g names))
  save_there = count_apart y (suc s.applied) (suc s.applied) ∙ has.there

  save_some : is_some (saved_in (get (after (raising s.applied) y) (save_name (suc s.applied)))) ≡ true
  save_some = ap (λ (o : Option (List ℕ)). is_some (saved_in o)) save_there ∙ ap is_some (save-read g names saved short)

  next_none : get (after (raising s.applied) y) (save_name (suc (suc s.applied))) ≡ None
  next_none = count_apart y (suc s.applied) (suc (suc s.applied)) ∙ saved_behind g s clean names saved short y has (suc (suc s.applied)) (λ same. omega (arith, same)) ∙ clean.behind

  behind_none : get (after (raising s.applied) y) (save_name (suc (suc (suc s.applied)))) ≡ None
  behind_none = count_apart y (suc s.applied) (suc (suc (suc s.applied))) ∙ saved_behind g s clean names saved short y has (suc (suc (suc s.applied))) (suc_below s.applied) ∙ behind

  high_stack : stack_of (after (raising s.applied) y) ≡ Ok (with_count s (suc s.applied))
  high_stack = done_stack g s clean names saved short y has le

  pop_outcome : command read Pop (after (raising s.applied) y) ≡ outcome_of (with_count s (suc s.applied)) (after (raising s.applied) y) (Ok (Popping name s.applied))
  pop_outcome = command-work read Pop (after (raising s.applied) y) (with_count s (suc s.applied)) (Ok (Popping name s.applied)) high_stack
      (pops read (after (raising s.applied) y) (with_count s (suc s.applied)) s.applied name more refl next_none behind_none save_some left)

  few : s.applied ≤ length s.patches
  few = omega (arith, le)

  pop_files : files_after read Pop (after (raising s.applied) y) ≡ recover (after (lowering s.applied) (after (raising s.applied) y))
  pop_files =
      let z : Files = after (raising s.applied) y in
      ap (λ (o : Outcome). after_all o.effects z) pop_outcome
      ∙ behind_end z (pop_effects s.applied (recover z))
      ∙ ap (λ (x : Files). after_all (pop_effects s.applied x) x) (clean-recover z (with_count s (suc s.applied)) high_stack next_none)
      ∙ pop_end z (with_count s (suc s.applied)) s.applied high_stack few save_some next_none

  undoes : Undoes read s g (after (raising s.applied) y)
  undoes =
      let z : Files = after (raising s.applied) y in
      let x : Files = after (lowering s.applied) z in
      record {
        answer = ap (λ (o : Outcome). o.answer) pop_outcome;
        stack = ap stack_of pop_files ∙ pop_stack z (with_count s (suc s.applied)) s.applied high_stack few save_some next_none;
        files = record {
          at = λ q lasting apart.
              let no_count : bytes_eq count_name q ≡ false = (or_parts (bytes_eq count_name q) false apart).0 in
              ap (λ (v : Files). get v q) pop_files
              ∙ recovered-at x (with_count (with_count s (suc s.applied)) s.applied) (save_text (entries_at g names)) (entries_at g names)
              (lowered_stack z (with_count s (suc s.applied)) s.applied high_stack few save_some next_none)
              (count_apart z s.applied (suc s.applied) ∙ save_there)
              (save-read g names saved short) q lasting
              ∙ back_at g s clean names saved short x q (λ other ne.
              effect-apart (lowering s.applied) z q lasting no_count
              ∙ effect-apart (raising s.applied) y q lasting no_count
              ∙ has.beside.at q lasting (neither (bytes_eq (save_name (suc s.applied)) q) (is_one_of names q) ne other));
        };
      }

-- ---- after a push
along : (read : Reader) (f : Files) (s : Stack) (z : Files) → stack_of f ≡ Ok s → files_after read Push f ≡ z → Undoes read s (recover f) z → TakesBack read f
along read f s z stack is done =
    let same : Undoes read s (recover f) (files_after read Push f) = subst (λ (v : Files). Undoes read s (recover f) v) (sym is) done in
    record { answer = same.answer; stack = same.stack ∙ sym stack; files = same.files }

module _ (read : Reader) (lawful : IsReader read) (f : Files) (s : Stack) (w : Work) (stack : stack_of f ≡ Ok s) (work : work_of read Push f s ≡ Ok w) (behind : get f (save_name (suc (suc (suc s.applied)))) ≡ None) where
  abbrev it : IsPush read f s w
  it = pushed read lawful f s w stack work

  clean : IsClean (recover f) s
  clean = (back read lawful f s w stack work).clean

  outcome : command read Push f ≡ outcome_of s f (Ok (Pushing it.name it.patch))
  outcome = command-work read Push f s (Ok w) stack work ∙ ap (λ (x : Work). outcome_of s f (Ok x)) it.work

  ended : (a : Application) (within : AllByRecursion (IsWithin (names_of it.patch.targets)) a.effects) → too_long (entries_at (recover f) (names_of it.patch.targets)) ≡ None
      → a.ending ≡ Done → files_after read Push f ≡ after_all (recovering f ++ push_list (recover f) s.applied (names_of it.patch.targets) a a.ending) f → TakesBack read f
  ended a within short done is =
      let names : List (List ℕ) = names_of it.patch.targets in
      let g : Files = recover f in
      let saved : AreSaved names = push_saved read lawful f s w stack work in
      along read f s (after (raising s.applied) (run_files g s.applied names a)) stack
      (is ∙ behind_end f (push_list g s.applied names a a.ending)
      ∙ ap (λ (e : Ending). after_all (push_list g s.applied names a e) g) done
      ∙ run_end g s clean names saved short a within Done)
      (undoes read g s clean ((back read lawful f s w stack work).saves (suc (suc (suc s.applied))) (suc_below s.applied) ∙ behind) names saved short
      (run_files g s.applied names a) (ran g s clean names saved short a within) it.name it.more it.left (push_left read lawful f s w stack work))

  by_length : (o : Option ℕ) → too_long (entries_at (recover f) (names_of it.patch.targets)) ≡ o
      → (push_outcome it.name it.patch s (entries_at (recover f) (names_of it.patch.targets)) o (recover f)).answer ≡ Ended Done
      → files_after read Push f ≡ after_all (recovering f ++ (push_outcome it.name it.patch s (entries_at (recover f) (names_of it.patch.targets)) o (recover f)).effects) f
      → TakesBack read f
  by_length (Some size) long answer is = absurd cc
  by_length None short answer is =
      let a : Application = it.patch.run (saved_files (recover f) s.applied (names_of it.patch.targets)) in
      let done : a.ending ≡ Done = cc in
      ended a (push_within read lawful f s w stack work _) short done is

  takes : (command read Push f).answer ≡ Ended Done → TakesBack read f
  takes answer = by_length (too_long (entries_at (recover f) (names_of it.patch.targets))) refl
      (sym (ap (λ (o : Outcome). o.answer) outcome) ∙ answer)
      (ap (λ (o : Outcome). after_all o.effects f) outcome)

pub taken_back : (read : Reader) (f : Files) (s : Stack) → IsReader read → stack_of f ≡ Ok s → get f (save_name (suc (suc (suc s.applied)))) ≡ None → (command read Push f).answer ≡ Ended Done → TakesBack read f
taken_back read f s lawful stack behind answer = by (work_of read Push f s) refl
  where
    by : (w : Result Work Refusal) → work_of read Push f s ≡ w → TakesBack read f
    by (Err e) work = absurd (let is : Refused e ≡ Ended Done = sym (ap (λ (o : Outcome). o.answer) (command-work read Push f s (Err e) stack work)) ∙ answer in cc)
    by (Ok w) work = takes read lawful f s w stack work behind answer
