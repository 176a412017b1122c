-- The commands of a script that a walk has come by and that are one block, as the walk goes on in front of them in the file.
use Rattle.std.specs.Prelude.{◌≡◌, ℕ, ◌+◌, ◌*◌, ◌^◌, ◌≤◌, not, ◌==◌, ◌||◌, List, [], ◌∷◌, ◌++◌, drop, length, reverse, take}
use Rattle.std.specs.List.{flat_map}
use Rattle.hunk_core.specs.declared.Side.TheVariants.{Forward, Reversed}
use Rattle.ed_form.specs.PlainEdit.{PlainEdit}
use Rattle.format_convert.specs.Backward.{grown}
use Rattle.format_convert.specs.Blocks.{Edit, command_edits, script_edits}
use Rattle.format_convert.specs.Commands.{ed_line, goes_on}
use Rattle.format_convert.specs.Fronts.{front}
use Rattle.format_convert.specs.declared.script.Run.{Run}

-- the edits of the commands in front of one of a script, counted from 0
abbrev pub edits_before : List PlainEdit → ℕ → List Edit
edits_before es end = script_edits (take end es)

-- the first edit stands at this place; without edits it is 0
abbrev pub StartsAt : ℕ → List Edit → Type 0
StartsAt first [] = first ≡ 0
StartsAt first (e ∷ es) = (e.at ≡ first) × (1 ≤ first)

-- the lines that the commands from one on up to another one add, in the order of the file
abbrev pub run_adds : List PlainEdit → ℕ → ℕ → List (List ℕ)
run_adds es from end = flat_map (λ e. e.added) (reverse (drop from (take end es)))

-- the first block of the commands in front of this one
pub record IsRun (es : List PlainEdit) (end : ℕ) (r : Run) : Type 0 where
  pub starts : StartsAt r.first (edits_before es end)
  pub drops : r.first + length (front Forward r.first (edits_before es end)) ≡ r.end
  pub added : front Reversed r.first (edits_before es end) ≡ run_adds es r.from end
  pub adds : r.adds ≡ length (run_adds es r.from end)
  pub from : r.from ≤ end
  pub near : r.end ≤ 2 ^ 32
  pub few : r.adds ≤ end * 2 ^ 32

-- what is written of blocks as the first of some commands comes in front of these edits
abbrev pub grown_by : List PlainEdit → List Edit → List ℕ
grown_by [] left = []
grown_by (e ∷ es) left = grown (command_edits e) left

-- the same as a command of a script, counted from 0, comes in front of those before it
abbrev pub grown_at : List PlainEdit → ℕ → List ℕ
grown_at es at = grown_by (drop at es) (edits_before es at)

-- lines of a text that has so many lines behind them
unfoldable pub text_lines : ℕ → List (List ℕ) → List ℕ
text_lines left [] = []
text_lines left (line ∷ more) = ed_line line (goes_on more || not (left == 0)) ++ text_lines left more
