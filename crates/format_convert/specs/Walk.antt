-- The edits that are left of kept hunks when a walk over them has come to a place.
use Rattle.std.specs.Prelude.{◌≡◌, ℕ, ◌+◌, ◌-◌, ◌*◌, ◌^◌, ◌<◌, ◌≤◌, Bool, List, [], ◌∷◌, ◌++◌, drop, length, Option, None, Some, IfSome, if◌then◌else◌}
use Rattle.std.specs.List.{flat_map, zip}
use Rattle.hunk_core.specs.declared.Hunk.{Hunk}
use Rattle.hunk_core.specs.declared.Side.TheVariants.{Forward, Reversed}
use Rattle.hunk_core.specs.PlainHunk.{PlainHunk, bytes_at, body_of, hunk_of, hunks_of, old_lines}
use Rattle.hunk_core.specs.Turned.{LiesIn, base}
use Rattle.read_file_patch.specs.declared.Change.{Change}
use Rattle.read_file_patch.specs.declared.Change.TheVariants.{Hunks, Script}
use Rattle.read_file_patch.specs.PlainPatch.{AreLawfulHunks, hunks, change_of, patch_of, row_count}
use Rattle.patch_set.specs.SetView.{patch_at}
use Rattle.cli_tool_words.specs.PlainJobs.{plain_filter_job}
use Rattle.format_convert.specs.Taken.{flags, hunk_if, kept_hunks}
use Rattle.format_convert.specs.Blocks.{Edit, blocks_of, body_edits}
use Rattle.format_convert.specs.Fronts.{front, front_block, front_rest}
use Rattle.format_convert.specs.declared.kept.Kept.{Kept}
use Rattle.format_convert.specs.declared.place.LineEdit.{LineEdit}
use Rattle.format_convert.specs.declared.place.EditCursor.{EditCursor}
use Rattle.format_convert.specs.declared.place.Step.{Step}
use Rattle.format_convert.specs.declared.place.FoundEdit.{FoundEdit}
use Rattle.format_convert.specs.declared.block.Block.{Block as Size}
use Rattle.format_convert.specs.declared.normal.Net.{Net}

-- the hunks are those of a file patch of the set
pub record IsKept (k : Kept) : Type 0 where
  pub at : patch_at k.set.now k.patch ≡ Some k.row.now
  pub lawful : AreLawfulHunks k.set.now.text k.hunks.now
  pub change : change_of k.set.now.text k.row.now.change ≡ hunks (hunks_of k.set.now.text k.hunks.now)
  pub count : row_count k.row.now.change ≡ length k.hunks.now

-- whether each of them is kept
abbrev pub kept_flags : Kept → List Bool
kept_flags k = flags (plain_filter_job k.job.now) k.patch (patch_of k.set.now.text k.row.now)

abbrev pub left_hunks : Kept → List PlainHunk
left_hunks k = kept_hunks (kept_flags k) (hunks_of k.set.now.text k.hunks.now)

-- the hunks behind these flags
abbrev pub pairs : Kept → List (Bool × Hunk)
pairs k = zip (kept_flags k) k.hunks.now

-- the edits of a hunk, where it is kept
abbrev pub edits_if : List ℕ → Bool × Hunk → List Edit
edits_if text row = if row.0 then body_edits (base (hunk_of text row.1)) (body_of text row.1.body.items) else []

abbrev pub edits_of : List ℕ → List (Bool × Hunk) → List Edit
edits_of text rows = flat_map (edits_if text) rows

-- from a line of the first hunk on: what is left of that one, and the hunks behind it
abbrev pub left_from : List ℕ → ℕ → ℕ → List (Bool × Hunk) → List Edit
left_from text line next [] = []
left_from text line next (row ∷ rows) = body_edits next (body_of text (drop line row.1.body.items)) ++ edits_of text rows

abbrev pub left_at : List ℕ → List (Bool × Hunk) → ℕ → ℕ → ℕ → List Edit
left_at text rows hunk line next = left_from text line next (drop hunk rows)

abbrev pub edits_left : Kept → EditCursor → List Edit
edits_left k p = left_at k.set.now.text (pairs k) p.hunk p.line p.next

-- the edits of the first of some hunks, where it is kept
abbrev pub first_if : List ℕ → List (Bool × Hunk) → List Edit
first_if text [] = []
first_if text (row ∷ rows) = edits_if text row

-- the same of a hunk, counted from 0
abbrev pub pair_left : Kept → ℕ → List Edit
pair_left k hunk = first_if k.set.now.text (drop hunk (pairs k))

-- of the first of some hunks where it stands, how many old lines it has, and the hunk if it is kept
abbrev pub first_base : List ℕ → List (Bool × Hunk) → ℕ
first_base text [] = 0
first_base text (row ∷ rows) = base (hunk_of text row.1)

abbrev pub first_count : List ℕ → List (Bool × Hunk) → ℕ
first_count text [] = 0
first_count text (row ∷ rows) = length (old_lines (body_of text row.1.body.items))

abbrev pub first_hunk : List ℕ → List (Bool × Hunk) → List PlainHunk
first_hunk text [] = []
first_hunk text (row ∷ rows) = hunk_if (row.0, hunk_of text row.1)

-- the same of a hunk, counted from 0
abbrev pub own_base : Kept → ℕ → ℕ
own_base k hunk = first_base k.set.now.text (drop hunk (pairs k))

abbrev pub own_count : Kept → ℕ → ℕ
own_count k hunk = first_count k.set.now.text (drop hunk (pairs k))

abbrev pub hunk_at : Kept → ℕ → List PlainHunk
hunk_at k hunk = first_hunk k.set.now.text (drop hunk (pairs k))

-- what an edit stands for over a text
abbrev pub edit_at : List ℕ → LineEdit → Edit
edit_at text e = record { at = e.at; adds = e.adds; line = bytes_at text e.span }

-- the edit of a step, which may have none
abbrev pub step_edit : List ℕ → Option LineEdit → List Edit
step_edit text None = []
step_edit text (Some e) = edit_at text e ∷ []

-- the line of an edit lies in the text, and its place can be counted on from
pub record Lies (text : List ℕ) (e : LineEdit) : Type 0 where
  pub near : e.at ≤ 2 ^ 43
  pub lies : LiesIn text e.span

-- how far a walk over so many hunks can go on at most
abbrev pub way_of : ℕ → EditCursor → ℕ
way_of count p = (count - p.hunk) * 2 ^ 66 + (2 ^ 64 - p.line)

-- a step leads on: its edit and what is left behind it are what was left
pub record IsStep (k : Kept) (p : EditCursor) (s : Step) : Type 0 where
  pub left : edits_left k p ≡ step_edit k.set.now.text s.edit ++ edits_left k s.behind
  pub shorter : way_of (length k.hunks.now) s.behind < way_of (length k.hunks.now) p
  pub lies : IfSome s.edit (Lies k.set.now.text)

-- the next edit, and what is left behind it
pub record IsFound (k : Kept) (p : EditCursor) (f : FoundEdit) : Type 0 where
  pub left : edits_left k p ≡ edit_at k.set.now.text f.edit ∷ edits_left k f.behind
  pub lies : Lies k.set.now.text f.edit

-- the next edit, which stands in this gap or is of the line behind it
pub record IsFoundIn (k : Kept) (p : EditCursor) (gap : ℕ) (f : FoundEdit) : Type 0 where
  pub found : IsFound k p f
  pub here : f.edit.at ≡ gap

-- how large the block is that begins in this gap
pub record IsBlock (k : Kept) (p : EditCursor) (gap : ℕ) (b : Size) : Type 0 where
  pub first : b.first ≡ gap
  pub drops : b.drops ≡ length (front Forward gap (edits_left k p))
  pub adds : b.adds ≡ length (front Reversed gap (edits_left k p))
  pub behind : edits_left k b.behind ≡ front_rest gap (edits_left k p)
  pub counted : b.drops + b.adds + length (edits_left k b.behind) ≡ length (edits_left k p)
  pub near : b.first ≤ 2 ^ 43

-- the next block: it is the first one of those that are left
pub record IsNextBlock (k : Kept) (p : EditCursor) (b : Size) : Type 0 where
  pub size : IsBlock k p b.first b
  pub left : blocks_of (edits_left k p) ≡ front_block b.first (edits_left k p) ∷ blocks_of (edits_left k b.behind)
  pub shorter : length (edits_left k b.behind) < length (edits_left k p)

-- the numbers of a command can be counted on
pub record IsSmall (n : Net) (b : Size) : Type 0 where
  pub first : b.first ≤ 2 ^ 43
  pub block : b.adds + b.drops ≤ 2 ^ 40
  pub net : n.adds + n.drops ≤ 2 ^ 40

-- where the new lines of a block begin, behind blocks with this net
abbrev pub new_start : Net → Size → ℕ
new_start n b = b.first + n.adds - n.drops

-- a change is these hunks
abbrev pub IsHunks : Change → List Hunk → Type 0
IsHunks (Hunks hs) own = hs.items ≡ own
IsHunks (Script s) own = ⊥
