-- What is listed and written, one file patch behind the other.
use Rattle.std.proofs.Common.{◌≡◌, ℕ, List, Option, ◌++◌, append_assoc, codes, sym, ap, ◌∙◌}
use Rattle.std.specs.List.{flat_map}
use Rattle.read_file_patch.specs.Stripped.{shortened}
use Rattle.read_file_patch.specs.declared.FilePatch.{FilePatch}
use Rattle.read_file_patch.specs.PlainPatch.{PlainPatch, header_of, patch_of}
use Rattle.patch_set.specs.PlainName.{plain_name}
use Rattle.patch_set.specs.SetView.{SetView}
use Rattle.cli_tool_words.specs.PlainJobs.{PlainFilterJob, PlainListJob, PlainShown}
use Rattle.filter_choice.specs.Selected.{numbered}
use Rattle.filter_choice.proofs.Rows.{flat-if}
use Rattle.patch_filters.specs.Listed.{front, is_listed, line_if_selected, lines_if_selected, list_line, list_lines, listed, listed_whole, own_line}
use Rattle.patch_filters.specs.Filtered.{filtered, is_taken_of, written, written_if_taken}

pub listed-is : (j : PlainListJob) (ps : List PlainPatch) → listed j ps ≡ flat_map (line_if_selected j) (numbered ps)
unfolding listed
listed-is j ps = flat-if (λ (n : ℕ × PlainPatch). is_listed j n.1) (list_line j) (numbered ps)

pub listed-whole-is : (j : PlainListJob) (v : SetView) → listed_whole j v ≡ flat_map (lines_if_selected j v.text) (numbered v.patches)
unfolding listed_whole
listed-whole-is j v = flat-if (λ (n : ℕ × FilePatch). is_listed j (patch_of v.text n.1)) (list_lines j v.text) (numbered v.patches)

pub filtered-is : (j : PlainFilterJob) (v : SetView) → filtered j v ≡ flat_map (written_if_taken j v.text) (numbered v.patches)
unfolding filtered
filtered-is j v = flat-if (is_taken_of j v.text) (λ n. written j v.text n.1) (numbered v.patches)

-- the line of a file patch, from its parts
pub line-shown : (s : PlainShown) (number : Option ℕ) (text : List ℕ) (p : FilePatch) (at shown name : List ℕ) → at ≡ front s number (patch_of text p) → shown ≡ shortened s.strip name → name ≡ plain_name (header_of text p.header)
    → at ++ (s.prefix ++ (shown ++ codes "\n")) ≡ own_line s number (patch_of text p)
line-shown s number text p at shown name front-is shown-is name-is =
    ap (λ (l : List ℕ). l ++ (s.prefix ++ (shown ++ codes "\n"))) front-is
    ∙ ap (λ (l : List ℕ). front s number (patch_of text p) ++ (s.prefix ++ (l ++ codes "\n"))) (shown-is ∙ ap (shortened s.strip) name-is)
    ∙ ap (λ (l : List ℕ). front s number (patch_of text p) ++ l) (sym (append_assoc s.prefix (shortened s.strip (plain_name (header_of text p.header))) (codes "\n")))
