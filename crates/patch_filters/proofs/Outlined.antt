-- File patches without their hunks are listed as they are with them.
use Rattle.std.proofs.Common.{◌≡◌, ℕ, ◌+◌, Bool, true, false, cond, List, [], ◌∷◌, ◌++◌, length, map, refl, ap, ◌∙◌}
use Rattle.std.specs.Prelude.{◌&&◌, ◌||◌, codes, filter, if◌then◌else◌}
use Rattle.std.specs.List.{flat_map, range_with_len, zip}
use Rattle.hunk_core.specs.declared.Side.{Side}
use Rattle.hunk_core.specs.declared.Side.TheVariants.{Forward, Reversed}
use Rattle.read_file_patch.specs.PlainPatch.{PlainChange, PlainPatch, hunks, script}
use Rattle.read_file_patch.specs.Actions.{is_moved}
use Rattle.read_file_patch.specs.Absent.{is_absent, is_empty_on, is_epoch, is_null, is_said_absent, name_on, stamp_on}
use Rattle.read_patch_text.specs.Outlines.{only_hunk, outline}
use Rattle.patch_set.specs.PlainName.{plain_name}
use Rattle.cli_tool_words.specs.PlainJobs.{PlainListJob}
use Rattle.filter_choice.specs.Shown.{shown_name}
use Rattle.patch_filters.specs.Listed.{file_number, file_text, is_gone, is_listed, list_line, listed, number_text, sign}

same-empty : (side : Side) (c : PlainChange) → is_empty_on side (only_hunk c) ≡ is_empty_on side c
same-empty side (hunks []) = refl
same-empty side (hunks (h ∷ [])) = refl
same-empty side (hunks (h ∷ i ∷ hs)) = refl
same-empty side (script es) = refl

same-absent : (side : Side) (p : PlainPatch) → is_absent side (outline p) ≡ is_absent side p
same-absent side p = ap (λ b. is_null (name_on side p.header) || (is_said_absent side p.header.action || (b && is_epoch (stamp_on side p.header)))) (same-empty side p.change)

same-gone : (side : Side) (p : PlainPatch) → is_gone false side (outline p) ≡ is_gone false side p
same-gone side p = ap (λ b. b || false) (same-absent side p)

same-sign : (empty : Bool) (p : PlainPatch) → empty ≡ false → sign empty (outline p) ≡ sign empty p
same-sign true p none = cc
same-sign false p none =
    ap (λ b. if is_moved p.header.action then codes "! " else if b then codes "+ " else if is_gone false Reversed (outline p) then codes "- " else codes "! ") (same-gone Forward p)
    ∙ ap (λ b. if is_moved p.header.action then codes "! " else if is_gone false Forward p then codes "+ " else if b then codes "- " else codes "! ") (same-gone Reversed p)

module _ (j : PlainListJob) (none : j.shown.empty_absent ≡ false) where
  same-line : (number : ℕ) (p : PlainPatch) → list_line j (number, outline p) ≡ list_line j (number, p)
  same-line number p =
      let s = j.shown in
      ap (λ (t : List ℕ). s.label ++ (((number_text s.numbers p.header.names_line ++ file_text (file_number j number)) ++ (if s.status then t else [])) ++ (shown_name s.prefix s.strip (plain_name p.header) ++ codes "\n"))) (same-sign s.empty_absent p none)

  -- the selected ones of some file patches, of which the first has this number, and their lines
  abbrev listed_from : ℕ → List PlainPatch → List (ℕ × PlainPatch)
  listed_from number ps = filter (λ n. is_listed j n.1) (zip (range_with_len number (length ps)) ps)

  abbrev lines_from : ℕ → List PlainPatch → List ℕ
  lines_from number ps = flat_map (list_line j) (listed_from number ps)

  same-lines : (number : ℕ) (ps : List PlainPatch) → lines_from number (map outline ps) ≡ lines_from number ps
  same-lines number [] = refl
  same-lines number (p ∷ ps) = by (is_listed j p) (same-lines (number + 1) ps)
    where
      by : (b : Bool) → lines_from (number + 1) (map outline ps) ≡ lines_from (number + 1) ps
          → flat_map (list_line j) (cond b ((number, outline p) ∷ listed_from (number + 1) (map outline ps)) (listed_from (number + 1) (map outline ps)))
          ≡ flat_map (list_line j) (cond b ((number, p) ∷ listed_from (number + 1) ps) (listed_from (number + 1) ps))
      by true later = ap (λ (line : List ℕ). line ++ lines_from (number + 1) (map outline ps)) (same-line number p) ∙ ap (λ (lines : List ℕ). list_line j (number, p) ++ lines) later
      by false later = later

  pub outlines-listed : (ps : List PlainPatch) → listed j (map outline ps) ≡ listed j ps
  unfolding listed
  outlines-listed ps = same-lines 1 ps
