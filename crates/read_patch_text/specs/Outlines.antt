-- File patches without their hunks: what a list of them needs.
use Rattle.std.specs.Prelude.{◌≡◌, ℕ, ◌+◌, ◌<◌, ◌≤◌, false, List, [], ◌∷◌, length, drop, map, Result, Ok}
use Rattle.line_list.specs.Lines.{lines}
use Rattle.hunk_core.specs.declared.Form.{Form}
use Rattle.hunk_core.specs.Reading.{Fault, ◌>>=◌, Ahead, ahead}
use Rattle.patch_header.specs.Content.{has_dot}
use Rattle.read_header_record.specs.declared.Header.{Header}
use Rattle.patch_header.specs.declared.read_options.ReadOptions.{ReadOptions}
use Rattle.read_file_patch.specs.PlainPatch.{PlainChange, PlainPatch, hunks, script, change_of, IsLawfulChange}
use Rattle.read_patch_text.specs.Patches.{change_at, change_behind, patch_at, patches_of}
use Rattle.read_patch_text.specs.declared.outline.Outlined.{Outlined}

-- the change with its only hunk, or with none of several; a script stays
abbrev pub only_hunk : PlainChange → PlainChange
only_hunk (hunks []) = hunks []
only_hunk (hunks (h ∷ [])) = hunks (h ∷ [])
only_hunk (hunks (h ∷ i ∷ hs)) = hunks []
only_hunk (script es) = script es

-- the file patch with that change
abbrev pub outline : PlainPatch → PlainPatch
outline p = record { header = p.header; change = only_hunk p.change }

-- a change so, with what is ahead behind it
abbrev pub outlined_change : PlainChange × Ahead → Result (PlainChange × Ahead) Fault
outlined_change x = Ok (only_hunk x.0, x.1)

-- a file patch so
abbrev pub outlined_patch : PlainPatch × Ahead → Result (PlainPatch × Ahead) Fault
outlined_patch x = Ok (outline x.0, x.1)

-- the file patch so, with what is ahead behind it
abbrev pub outlined_step : PlainPatch × Ahead → PlainPatch × Ahead
outlined_step x = (outline x.0, x.1)

-- those of a text
abbrev pub outlined_all : List PlainPatch → Result (List PlainPatch) Fault
outlined_all ps = Ok (map outline ps)

-- what is read in place of a change, of a file patch and of all
abbrev pub change_outlined : Form → ℕ → List (List ℕ) → Result (PlainChange × Ahead) Fault
change_outlined form number rest = change_at form number rest >>= outlined_change

abbrev pub behind_outlined : List ℕ → Header → Result (PlainChange × Ahead) Fault
behind_outlined text h = change_behind text h >>= outlined_change

abbrev pub patch_outlined : List ℕ → Header → Result (PlainPatch × Ahead) Fault
patch_outlined text h = patch_at text h >>= outlined_patch

abbrev pub outlines_of : ReadOptions → List ℕ → Result (List PlainPatch) Fault
outlines_of ways text = patches_of ways text >>= outlined_all

-- the change, and what stands behind it
abbrev pub outlined_of : List ℕ → Outlined → PlainChange × Ahead
outlined_of text r = (change_of text r.change, ahead r.next (lines (drop r.end text)))

-- what is known of what opens at a place, whose line has this number
pub record IsOutlined (text : List ℕ) (at line : ℕ) (r : Outlined) : Type 0 where
  pub lawful : IsLawfulChange text r.change
  pub some : at < r.end
  pub high : r.end ≤ length text
  pub numbers : r.next + at ≤ line + r.end
  pub dots : has_dot (lines (drop at text)) ≡ false → has_dot (lines (drop r.end text)) ≡ false
