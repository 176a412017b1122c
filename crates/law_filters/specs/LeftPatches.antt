-- The file patches that a filter leaves, with the hunks that it keeps (manual page of `filterdiff`).
use Rattle.std.specs.Prelude.{ℕ, Bool, ◌&&◌, List, [], ◌∷◌, map, filter, if◌then◌else◌}
use Rattle.std.specs.List.{list_any}
use Rattle.read_file_patch.specs.declared.FilePatch.{FilePatch}
use Rattle.read_file_patch.specs.PlainPatch.{PlainChange, PlainPatch, hunks, script, change_of, patch_of}
use Rattle.patch_set.specs.SetView.{SetView}
use Rattle.cli_tool_words.specs.PlainJobs.{PlainFilterJob}
use Rattle.patch_filters.specs.Filtered.{asks_no_hunk, is_taken_of}
use Rattle.filter_choice.specs.Kept.{kept}
use Rattle.filter_choice.specs.Selected.{numbered}
use Rattle.filter_whole_text.specs.Texts.{Spot, spots_in}
use Rattle.cli_filter.specs.Texts.{is_spot_taken}

-- the elements whose flag is set
abbrev pub those : {A : Type 0} → List Bool → List A → List A
those [] xs = []
those (flag ∷ flags) [] = []
those (flag ∷ flags) (x ∷ xs) = if flag then x ∷ those flags xs else those flags xs

-- a change with the hunks that are kept; an ed script is kept whole
abbrev pub kept_change : PlainFilterJob → PlainChange → PlainChange
kept_change j (hunks hs) = hunks (those (kept j (hunks hs)) hs)
kept_change j (script es) = script es

abbrev pub kept_patch : PlainFilterJob → PlainPatch → PlainPatch
kept_patch j p = record { header = p.header; change = kept_change j p.change }

-- some of the hunks of a file patch is kept; a bare git header has none, and is left where no hunks are asked for
abbrev pub is_some_kept : PlainFilterJob → Bool → PlainChange → Bool
is_some_kept j bare change = if bare then asks_no_hunk j else list_any (λ is. is) (kept j change)

-- ---- of a set

-- the file patch with this number is meant and left
abbrev pub is_left : PlainFilterJob → List ℕ → ℕ × FilePatch → Bool
is_left j text n = is_taken_of j text n && is_some_kept j n.1.header.bare (change_of text n.1.change)

-- those of a set that are left, with their numbers
abbrev pub left_of : PlainFilterJob → SetView → List (ℕ × FilePatch)
left_of j v = filter (is_left j v.text) (numbered v.patches)

-- what they stand for, with their kept hunks alone
abbrev pub left_patches : PlainFilterJob → SetView → List PlainPatch
left_patches j v = map (λ n. kept_patch j (patch_of v.text n.1)) (left_of j v)

-- ---- of a text that is read as the job asks for

abbrev pub spot_left : PlainFilterJob → Spot → Bool
spot_left j s = is_some_kept j s.0.header.bare s.1.change

abbrev pub is_left_in : PlainFilterJob → ℕ × Spot → Bool
is_left_in j n = is_spot_taken j n && spot_left j n.1

-- those of a text that are left, with their numbers
abbrev pub left_spots : PlainFilterJob → List ℕ → List (ℕ × Spot)
left_spots j text = filter (is_left_in j) (numbered (spots_in j.select.skip_binary text))

-- what they are, with their kept hunks alone
abbrev pub left_in : PlainFilterJob → List ℕ → List PlainPatch
left_in j text = map (λ n. kept_patch j n.1.1) (left_spots j text)
