-- The two lines that a reject text begins with (GNU diffutils manual, "Detailed Description of Unified Format" and "Detailed Description of Context Format").
use Rattle.std.specs.Prelude.{ℕ, List, ◌++◌}
use Rattle.hunk_core.specs.declared.Form.{Form}
use Rattle.hunk_core.specs.declared.Form.TheVariants.{Unified, Context, Normal, Ed}
use Rattle.patch_header.specs.Written.{old_mark, new_mark, name_end}

-- the two forms of a reject text
abbrev pub IsRejectForm : Form → Type 0
IsRejectForm Unified = Unit {0}
IsRejectForm Context = Unit {0}
IsRejectForm Normal = ⊥
IsRejectForm Ed = ⊥

-- a mark, the name, and its end
abbrev pub name_line : List ℕ → List ℕ → List ℕ
name_line mark name = mark ++ (name ++ name_end name)

-- the one name as the old and as the new one
abbrev pub headers : Form → List ℕ → List ℕ
headers form name = name_line (old_mark form) name ++ name_line (new_mark form) name
