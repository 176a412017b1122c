-- The stack that was read, as the files tell it.
use Rattle.std.specs.Prelude.{◌≡◌, ℕ, ◌≤◌, List, ◌∷◌, drop, false, length, Some, Ok, option_map, vec_items}
use Rattle.outside.specs.Files.{Files}
use Rattle.outside.specs.TreeView.{TreeView}
use Rattle.series_stack.specs.Stack.{Stack, stack_of}
use Rattle.series_stack.specs.Commands.{is_bad}
use Rattle.stack_state.specs.Reading.{next_save}
use Rattle.stack_state.specs.declared.state.Standing.{Standing}
use Rattle.cli_stack.specs.declared.reading.State.{State}
use Rattle.cli_stack.specs.Stages.{Stage}

abbrev pub plain_stack : Standing → Stack
plain_stack s = record { patches = s.patches.items; applied = s.applied }

-- at most 9,999 patches, of which no more are applied than there are
pub record IsStack (u : TreeView) (s : Standing) : Type 0 where
  pub few : length s.patches.items ≤ 9999
  pub applied : s.applied ≤ length s.patches.items
  pub stack : (f : Files) → u.told ≡ Some f → stack_of f ≡ Ok (plain_stack s)

-- and the save of the first one that isn't applied, which is of its form
pub record IsState (u : TreeView) (s : State) : Type 0 where
  pub is : IsStack u s.stack
  pub good : is_bad (option_map vec_items s.next) ≡ false
  pub next : (f : Files) → u.told ≡ Some f → next_save s.stack.applied f ≡ Ok (option_map vec_items s.next)

-- the patch with this name is the next one
pub record IsNamed (s : State) (name : List ℕ) : Type 0 where
  pub more : List (List ℕ)
  pub left : drop s.stack.applied s.stack.patches.items ≡ name ∷ more

abbrev pub stage_of : State → List ℕ → Stage
stage_of s name = record { name = name; applied = s.stack.applied; all = length s.stack.patches.items }
