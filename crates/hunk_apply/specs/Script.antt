-- The lines of a file with an ed script carried out.
use Rattle.std.specs.Prelude.{ℕ, ◌-◌, List, [], ◌∷◌, ◌++◌, take, drop, length, Bool, nat_lt, pos, if◌then◌else◌}
use Rattle.std.specs.List.{list_any}
use Rattle.hunk_core.specs.declared.Verdict.{Verdict}
use Rattle.hunk_core.specs.declared.Verdict.TheVariants.{Nowhere, At}
use Rattle.ed_form.specs.PlainEdit.{PlainEdit, lowest}

-- one command carried out: the lines from first to last are replaced by the added ones
abbrev pub edited : List (List ℕ) → PlainEdit → List (List ℕ)
edited lines e = take (e.first - 1) lines ++ (e.added ++ drop e.last lines)

-- the commands carried out one after another, each on what those before it left (GNU diffutils manual, "Detailed
-- Description of ed Scripts"). A last line that is kept without its line feed stays so, where GNU `ed` adds it. The
-- verdict's place is the lower of the first command's addresses, 0 for `0a`
unfoldable pub scripted : List (List ℕ) → List PlainEdit → List (List ℕ)
scripted lines [] = lines
scripted lines (e ∷ es) = scripted (edited lines e) es

-- an address is greater than the number of lines; a command's greatest one is its last, also where it adds behind a line
abbrev pub reaches_behind : ℕ → List PlainEdit → Bool
reaches_behind count es = list_any (λ e. nat_lt count e.last) es

-- what a script makes of lines: where one of its addresses is too great, nothing of it is applied
abbrev pub script_lines : List (List ℕ) → List PlainEdit → List (List ℕ)
script_lines lines es = if reaches_behind (length lines) es then lines else scripted lines es

-- the first address of the first command
abbrev pub first_address : List PlainEdit → ℕ
first_address [] = 0
first_address (e ∷ es) = lowest e

-- what is said of a script over a file of so many lines: it is one hunk, without fuzz and offset
abbrev pub script_verdict : ℕ → List PlainEdit → Verdict
script_verdict count es = if reaches_behind count es then Nowhere else At (first_address es) 0 (pos 0)
