-- The names that a push saves, gathered from the file patches one after another.
use Rattle.std.specs.Prelude.{◌≡◌, ℕ, suc, List, [], ◌∷◌, ◌++◌, nat_lt, ◌||◌, if◌then◌else◌, Option, None, Some}
use Rattle.std.specs.List.{fold}
use Rattle.std.specs.Option.{option_or}
use Rattle.read_file_patch.specs.declared.derived.Target.{Target}
use Rattle.read_file_patch.specs.declared.FilePatch.{FilePatch}
use Rattle.series_stack.specs.Saves.{is_of_stack}
use Rattle.stack_patch.specs.declared.names.Saved.{Saved}

pub record Gathered : Type 0 where
  -- each target's name and then that of its reject file
  pub names : List (List ℕ)
  -- the opening line of the first target that has a name of the stack
  pub own : Option ℕ
  -- how many targets there are
  pub count : ℕ

-- what the struct of the code stands for
abbrev pub gathered : Saved → Gathered
gathered s = record { names = s.names.items; own = s.own; count = s.count }

abbrev pub nothing : Gathered
nothing = record { names = []; own = None; count = 0 }

-- the line, where the target has a name of the stack
abbrev pub own_here : ℕ → Target → Option ℕ
own_here line t = if is_of_stack t.name || is_of_stack t.reject then Some line else None

abbrev pub with_names : ℕ → Gathered → Target → Gathered
with_names line g t = record { names = g.names ++ t.name ∷ t.reject ∷ []; own = option_or g.own (own_here line t); count = suc g.count }

-- with one target more of a file patch that opens at this line, unless it came before: its number is then below their count
abbrev pub with_target : ℕ → Gathered → Target → Gathered
with_target line g t = if nat_lt t.number g.count then g else with_names line g t

abbrev pub with_patch : Gathered → FilePatch → Gathered
with_patch g p = fold (with_target p.header.opening) g p.targets.items
