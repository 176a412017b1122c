-- What filters write where they tell of hunks, write their lines with numbers, or write all text (manual pages of `filterdiff` and `grepdiff`:
-- --annotate, --as-numbered-lines, -v).
use Rattle.std.specs.Prelude.{ℕ, suc, ◌+◌, ◌-◌, Bool, false, not, ◌&&◌, ◌||◌, is_none, is_some, List, [], ◌∷◌, ◌++◌, codes, drop, length, map, slice_index_or, Option, None, Some, if◌then◌else◌}
use Rattle.std.specs.List.{flat_map, list_any, range_with_len, zip}
use Rattle.line_list.specs.Lines.{lines}
use Rattle.num_text.specs.Numbers.{decimal}
use Rattle.hunk_core.specs.PlainHunk.{PlainHunk, bytes_at, lines_on, new_lines, old_lines}
use Rattle.hunk_core.specs.declared.Side.{Side}
use Rattle.hunk_core.specs.declared.Side.TheVariants.{Forward, Reversed}
use Rattle.read_file_patch.specs.PlainPatch.{PlainChange, PlainPatch, hunk_count, hunks, patch_of, script}
use Rattle.read_file_patch.specs.declared.FilePatch.{FilePatch}
use Rattle.patch_header.specs.Content.{content}
use Rattle.patch_set.specs.PlainName.{plain_name}
use Rattle.patch_set.specs.SetView.{SetView}
use Rattle.cli_tool_words.specs.PlainJobs.{PlainFilterJob, PlainStyle}
use Rattle.cli_tool_words.specs.declared.jobs.Marks.{Marks}
use Rattle.cli_tool_words.specs.declared.jobs.Numbered.{Numbered}
use Rattle.cli_tool_words.specs.declared.jobs.Numbered.TheVariants.{Before, After}
use Rattle.filter_choice.specs.Kept.{is_taken, kept}
use Rattle.filter_style.specs.Fronts as fronts
use Rattle.filter_style.specs.Styled.{noted_text}
use Rattle.patch_filters.specs.Filtered.{asks_no_hunk, pieces, region}

-- something is told of hunks, or lines are numbered
abbrev pub asks_marks : Marks → Bool
asks_marks m = m.annotate || is_some m.numbered

-- how hunks are told, and whether all text is written
pub record Telling : Type 0 where
  pub style : PlainStyle
  pub marks : Marks
  pub verbose : Bool

-- ---- hunks that are told, counted from 0; flags say which ones are kept

abbrev pub is_set : List Bool → ℕ → Bool
is_set flags k = slice_index_or flags k false

-- the number of a hunk in its file patch, from 1, and the name of that
abbrev pub note : Bool → ℕ → List ℕ → List ℕ
note annotate number name = if annotate then (codes " Hunk #" ++ decimal number) ++ (codes ", " ++ name) else []

-- one of these texts of hunks, if it is kept
abbrev pub noted_if : Telling → List Bool → PlainPatch → List (List ℕ) → ℕ → List ℕ
noted_if w flags p texts k = if is_set flags k
    then noted_text w.style.clean (note w.marks.annotate (suc k) (plain_name p.header)) p.header.form (slice_index_or texts k [])
    else []

-- the lines in front of them, and the hunks
abbrev pub noted_hunks : Telling → List Bool → PlainPatch → List ℕ → List (List ℕ) → List ℕ
noted_hunks w flags p front texts = fronts.front w.style p.header.form (lines front) ++ flat_map (noted_if w flags p texts) (range_with_len 0 (hunk_count p.change))

-- ---- lines with numbers

abbrev pub side_of : Numbered → Side
side_of Before = Forward
side_of After = Reversed

-- a number, a tab, a colon, and a line without its mark
abbrev pub numbered_line : ℕ → List ℕ → List ℕ
numbered_line n line = (decimal n ++ codes "\t:") ++ (content line ++ codes "\n")

-- lines that follow each other, the first with this number
abbrev pub numbered_from : ℕ → List (List ℕ) → List ℕ
numbered_from n [] = []
numbered_from n (line ∷ rest) = numbered_line n line ++ numbered_from (suc n) rest

-- one line of a hunk, on the side or not, and the number behind it
abbrev pub line_if : Bool → ℕ → List ℕ → List ℕ
line_if is_on n line = if is_on then numbered_line n line else []

abbrev pub next_if : Bool → ℕ → ℕ
next_if is_on n = if is_on then suc n else n

-- where a side of a hunk begins: the old one as it is stated; the new one without what the hunks do that are left out in front of it, which take
-- so many lines away and bring so many
abbrev pub start_on : Numbered → ℕ → ℕ → PlainHunk → ℕ
start_on Before gone come h = h.old_start
start_on After gone come h = (h.new_start + gone) - come

-- a line of dots between hunks
abbrev pub dots_if : Bool → List ℕ
dots_if later = if later then codes "...\n" else []

-- a hunk that is kept, behind another one or not
abbrev pub numbered_if : Numbered → Bool → Bool → ℕ → ℕ → PlainHunk → List ℕ
numbered_if side is_kept later gone come h = if is_kept then dots_if later ++ numbered_from (start_on side gone come h) (lines_on (side_of side) h.body) else []

-- lines of hunks that are left out in front of the next one
abbrev pub left_out : Bool → ℕ → ℕ → ℕ
left_out is_kept so_far count = if is_kept then so_far else so_far + count

-- hunks from this number on, of which some are kept
abbrev pub numbered_hunks : Numbered → (ℕ → Bool) → Bool → ℕ → ℕ → ℕ → List PlainHunk → List ℕ
numbered_hunks side keeps later gone come k [] = []
numbered_hunks side keeps later gone come k (h ∷ hs) =
    numbered_if side (keeps k) later gone come h
    ++ numbered_hunks side keeps (later || keeps k) (left_out (keeps k) gone (length (old_lines h.body))) (left_out (keeps k) come (length (new_lines h.body))) (suc k) hs

-- the lines in front of them, and the hunks; an ed script has no lines of a side, and stays as it is
abbrev pub numbered_change : Telling → Numbered → List Bool → PlainPatch → List ℕ → List (List ℕ) → PlainChange → List ℕ
numbered_change w side flags p front texts (hunks hs) = fronts.side_front w.style w.verbose side p.header.form (lines front) ++ numbered_hunks side (is_set flags) false 0 0 0 hs
numbered_change w side flags p front texts (script es) = noted_hunks w flags p front texts

-- ---- a file patch, with the lines in front of its hunks and the texts of these

abbrev pub told_hunks : Telling → Option Numbered → List Bool → PlainPatch → List ℕ → List (List ℕ) → List ℕ
told_hunks w None flags p front texts = noted_hunks w flags p front texts
told_hunks w (Some side) flags p front texts = numbered_change w side flags p front texts p.change

-- of one that is left out, the text in front of it that isn't its own, where all text is asked for
abbrev pub left_text : Telling → PlainPatch → List ℕ → List ℕ
left_text w p front = if w.verbose then fronts.text_front w.style p.header.form (lines front) else []

-- one of which no hunk is kept is left out
abbrev pub told_kept : Telling → List Bool → PlainPatch → List ℕ → List (List ℕ) → List ℕ
told_kept w flags p front texts = if list_any (λ is. is) flags then told_hunks w w.marks.numbered flags p front texts else left_text w p front

-- ---- `filterdiff`

-- hunks are told or numbered, or all text is written
abbrev pub asks_told : PlainFilterJob → Bool
asks_told j = asks_marks j.marks || j.verbose

abbrev pub telling_of : PlainFilterJob → Telling
telling_of j = record { style = j.style; marks = j.marks; verbose = j.verbose }

-- a bare git header has no lines to be numbered, and is text where no text is written, or all of it
abbrev pub asks_bare : PlainFilterJob → Bool
asks_bare j = (asks_no_hunk j && is_none j.marks.numbered) && not j.style.clean

abbrev pub told_bare : PlainFilterJob → ℕ → PlainPatch → List ℕ → List ℕ
told_bare j n p all = if j.verbose || (asks_bare j && is_taken j (suc n) p.header) then all else []

-- a file patch that isn't bare, counted from 0, if it is meant
abbrev pub told_if_taken : PlainFilterJob → ℕ → PlainPatch → List ℕ → List (List ℕ) → List ℕ
told_if_taken j n p front texts = if is_taken j (suc n) p.header then told_kept (telling_of j) (kept j p.change) p front texts else left_text (telling_of j) p front

abbrev pub told_of : PlainFilterJob → ℕ → PlainPatch → List ℕ → List (List ℕ) → List ℕ → List ℕ
told_of j n p front texts all = if p.header.bare then told_bare j n p all else told_if_taken j n p front texts

abbrev pub told_if : PlainFilterJob → List ℕ → ℕ × FilePatch → List ℕ
told_if j text row = told_of j row.0 (patch_of text row.1) (region text row.1) (pieces text row.1) (bytes_at text row.1.span)

-- where the last of some file patches ends
abbrev pub last_end : List ℕ → ℕ
last_end ends = slice_index_or ends (length ends - 1) 0

-- the text behind them, where all text is asked for
abbrev pub text_behind : Bool → List ℕ → List ℕ → List ℕ
text_behind verbose text ends = if verbose then drop (last_end ends) text else []

abbrev pub ends_of : List FilePatch → List ℕ
ends_of ps = map (λ p. p.span.end) ps

-- all of them
unfoldable pub told : PlainFilterJob → SetView → List ℕ
told j v = flat_map (told_if j v.text) (zip (range_with_len 0 (length v.patches)) v.patches) ++ text_behind j.verbose v.text (ends_of v.patches)
