-- What is written of a header and of a hunk, in either form that names its files.
use Rattle.std.specs.Prelude.{ℕ, List, [], codes, Bool, ◌==◌, ◌∷◌, if◌then◌else◌}
use Rattle.hunk_core.specs.declared.Form.{Form}
use Rattle.hunk_core.specs.declared.Form.TheVariants.{Unified, Context, Normal, Ed}
use Rattle.std.specs.List.{list_any}
use Rattle.hunk_core.specs.PlainHunk.{PlainHunk}
use Rattle.unified_form.specs.Canonical as unified
use Rattle.context_form.specs.Canonical as context

-- what stands in front of the old name, and of the new one
abbrev pub old_mark : Form → List ℕ
old_mark Unified = codes "--- "
old_mark Context = codes "*** "
old_mark Normal = []
old_mark Ed = []

abbrev pub new_mark : Form → List ℕ
new_mark Unified = codes "+++ "
new_mark Context = codes "--- "
new_mark Normal = []
new_mark Ed = []

-- there is a space, where a reader would take the name to end
abbrev pub holds_space : List ℕ → Bool
holds_space name = list_any (λ b. b == 32) name

-- a tab says where a name with a space ends
abbrev pub name_end : List ℕ → List ℕ
name_end name = if holds_space name then 9 ∷ 10 ∷ [] else 10 ∷ []

-- a hunk in its canonical text
abbrev pub hunk_text : Form → PlainHunk → List ℕ
hunk_text Unified h = unified.canonical h
hunk_text Context h = context.canonical h
hunk_text Normal h = []
hunk_text Ed h = []
