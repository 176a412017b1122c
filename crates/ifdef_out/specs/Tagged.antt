-- The lines of a file and of a change to it, parted by the conditions of the C preprocessor (GNU diffutils manual, "Merging Files with If-then-else").
use Rattle.std.specs.Prelude.{ℕ, List, [], ◌∷◌, ◌++◌, map, filter, codes, Bool, true, false}
use Rattle.line_list.specs.Join.{join}
use Rattle.hunk_core.specs.declared.Mark.{Mark}
use Rattle.hunk_core.specs.declared.Mark.TheVariants.{Keep, Drop, Add}
use Rattle.hunk_core.specs.PlainHunk.{Marked}
use Rattle.hunk_apply.specs.Splice.{Edit}
use Rattle.hunk_apply.specs.Written.{lines_between}
use Rattle.ifdef_out.specs.Whole.{whole}

-- whose a written line is: of the file and of what becomes of it, of one of them alone, or a line of the preprocessor
pub data Tag : Type 0 where
  Both : Tag
  Old : Tag
  New : Tag
  Marking : Tag

pub record Tagged : Type 0 where
  pub tag : Tag
  pub line : List ℕ

abbrev pub as_tag : Tag → List ℕ → Tagged
as_tag t line = record { tag = t; line = line }

-- the four marking lines
abbrev pub ifdef_line : List ℕ → List ℕ
ifdef_line name = codes "#ifdef " ++ (name ++ 10 ∷ [])

abbrev pub ifndef_line : List ℕ → List ℕ
ifndef_line name = codes "#ifndef " ++ (name ++ 10 ∷ [])

abbrev pub else_line : List ℕ
else_line = codes "#else" ++ 10 ∷ []

abbrev pub endif_line : List ℕ
endif_line = codes "#endif" ++ 10 ∷ []

-- what stands in front of the added lines
abbrev pub else_mark : List (List ℕ) → List Tagged
else_mark [] = []
else_mark (line ∷ more) = as_tag Marking else_line ∷ []

abbrev pub opening : List ℕ → List (List ℕ) → List (List ℕ) → List Tagged
opening name [] added = as_tag Marking (ifdef_line name) ∷ []
opening name (line ∷ more) added = as_tag Marking (ifndef_line name) ∷ (map (as_tag Old) (line ∷ more) ++ else_mark added)

abbrev pub closed : List ℕ → List (List ℕ) → List (List ℕ) → List Tagged
closed name dropped added = opening name dropped added ++ (map (as_tag New) added ++ as_tag Marking endif_line ∷ [])

-- a block of dropped and of added lines; without either there is none
abbrev pub block : List ℕ → List (List ℕ) → List (List ℕ) → List Tagged
block name [] [] = []
block name [] (line ∷ more) = closed name [] (line ∷ more)
block name (line ∷ more) added = closed name (line ∷ more) added

-- a line behind those of a block that isn't closed: a kept line closes it, any other belongs to it
abbrev pub tagged_mark : List ℕ → List (List ℕ) → List (List ℕ) → Mark → List ℕ → (List (List ℕ) → List (List ℕ) → List Tagged) → List Tagged
tagged_mark name dropped added Keep line rest = block name dropped added ++ (as_tag Both line ∷ rest [] [])
tagged_mark name dropped added Drop line rest = rest (dropped ++ line ∷ []) added
tagged_mark name dropped added Add line rest = rest dropped (added ++ line ∷ [])

-- the lines of a body, each stretch of dropped and added lines without a kept line between as one block
unfoldable pub tagged_behind : List ℕ → List (List ℕ) → List (List ℕ) → List Marked → List Tagged
tagged_behind name dropped added [] = block name dropped added
tagged_behind name dropped added (m ∷ ms) = tagged_mark name dropped added m.mark m.line (λ d a. tagged_behind name d a ms)

-- the written lines of a file with these edits
abbrev pub tagged : List ℕ → List (List ℕ) → List Edit → List Tagged
tagged name lines es = tagged_behind name [] [] (whole lines es)

abbrev pub texts : List Tagged → List (List ℕ)
texts ts = map (λ t. t.line) ts

-- the lines of a block that drops those from `first` up to, not including, `end`
abbrev pub block_lines : List ℕ → List (List ℕ) → ℕ → ℕ → List (List ℕ) → List (List ℕ)
block_lines name lines first end added = texts (closed name (lines_between lines first end) added)

-- the written text; a line gets the line feed that it lacks where another one follows
abbrev pub ifdef_text : List ℕ → List (List ℕ) → List Edit → List ℕ
ifdef_text name lines es = join (texts (tagged name lines es))

abbrev pub is_old : Tag → Bool
is_old Both = true
is_old Old = true
is_old New = false
is_old Marking = false

abbrev pub is_new : Tag → Bool
is_new Both = true
is_new Old = false
is_new New = true
is_new Marking = false

-- the lines that are the file's
abbrev pub old_of : List Tagged → List (List ℕ)
old_of ts = texts (filter (λ t. is_old t.tag) ts)

-- the lines that are the changed file's
abbrev pub new_of : List Tagged → List (List ℕ)
new_of ts = texts (filter (λ t. is_new t.tag) ts)
