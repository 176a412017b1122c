-- What is written of blocks while edits come in front of them, one after the other from the last one.
use Rattle.std.specs.Prelude.{◌≡◌, ℕ, List, [], ◌∷◌, ◌++◌, drop, if◌then◌else◌}
use Rattle.hunk_core.specs.declared.Mark.{Mark}
use Rattle.hunk_core.specs.Turned.{is_keep}
use Rattle.format_convert.specs.Blocks.{Edit, Block, behind, blocks_of}
use Rattle.format_convert.specs.Commands.{ed_command, ed_text}
use Rattle.format_convert.specs.Fronts.{begins_at}
use Rattle.format_convert.specs.Walk.{edits_left, edits_of, pairs}
use Rattle.format_convert.specs.declared.kept.Kept.{Kept}
use Rattle.format_convert.specs.declared.place.EditCursor.{EditCursor}

-- the command of the first block, if there is one
abbrev pub first_text : List Block → List ℕ
first_text [] = []
first_text (b ∷ bs) = ed_command b

-- the commands of those behind it, which no edit in front can belong to
abbrev pub text_behind : List Block → List ℕ
text_behind [] = []
text_behind (b ∷ bs) = ed_text bs

-- the first block behind a gap, unless it begins there
abbrev pub closing : ℕ → List Edit → List ℕ
closing gap es = if begins_at gap es then [] else first_text (blocks_of es)

-- what is written once the first of these edits come in front of the others
unfoldable pub grown : List Edit → List Edit → List ℕ
grown [] left = []
grown (e ∷ es) left = grown es left ++ closing (behind e) (es ++ left)

-- the same of one line with this mark, `next` being the line of the file behind it
abbrev pub closing_if : Mark → ℕ → List Edit → List ℕ
closing_if mark next es = if is_keep mark then [] else closing next es

-- the place in front of which nothing was walked over yet, behind a hunk
abbrev pub StandsBehind : Kept → ℕ → EditCursor → Type 0
StandsBehind k hunk p = edits_left k p ≡ edits_of k.set.now.text (drop hunk (pairs k))
