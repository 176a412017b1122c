-- Lines that are put down one after another.
use Rattle.std.proofs.Common.{◌≡◌, ℕ, ◌≤◌, ◌&&◌, ◌||◌, Bool, true, false, List, [], ◌++◌, length, drop, slice_range, refl, sym, ap, ◌∙◌, arith, append_assoc}
use Rattle.std.specs.List.{flat_map}
use Rattle.std.proofs.lemmas.List.{append-nil}
use Rattle.std.proofs.lemmas.List.Concat.{flat_map-cons}
use Rattle.line_list.specs.Lines.{lines, IsLineAt}
use Rattle.hunk_core.specs.declared.Form.{Form}
use Rattle.cli_tool_words.specs.PlainJobs.{PlainStyle}
use Rattle.filter_style.specs.Fronts.{is_git_line, is_pair, line_at, lines_behind, names_behind, place_of}
use Rattle.filter_style.specs.Styled.{hunk_line}
use Rattle.filter_style.specs.declared.fronts.Parts.{Parts}
use Rattle.filter_style.specs.declared.fronts.FrontLineKind.{FrontLineKind}
use Rattle.filter_style.specs.declared.fronts.FrontLineKind.TheVariants.{Text}

-- ---- lines in front of hunks

pub record HasFront (s : PlainStyle) (form : Form) (parts : Parts) (text old out : List ℕ) (place : FrontLineKind) (at : ℕ) : Type 0 where
  pub within : at ≤ length text
  pub so_far : out ++ lines_behind s form parts place (lines (drop at text)) ≡ old ++ lines_behind s form parts Text (lines text)

pub front-none : (s : PlainStyle) (form : Form) (parts : Parts) (text old : List ℕ) → HasFront s form parts text old old Text 0
front-none s form parts text old = record { within = omega arith; so_far = refl }

pub front-more : (s : PlainStyle) (form : Form) (parts : Parts) (text old out more : List ℕ) (before here : FrontLineKind) (at end : ℕ) → HasFront s form parts text old out before at → IsLineAt text at end
    → here ≡ place_of form before (slice_range text at end) (lines (drop end text)) → more ≡ out ++ line_at s parts here (slice_range text at end) → HasFront s form parts text old more here end
front-more s form parts text old out more before here at end so line is puts =
    let one = slice_range text at end in
    let rest = lines (drop end text) in
    record {
      within = line.high;
      so_far =
          ap (λ l. l ++ lines_behind s form parts here rest) puts
          ∙ append_assoc out (line_at s parts here one) (lines_behind s form parts here rest)
          ∙ ap (λ p. out ++ (line_at s parts p one ++ lines_behind s form parts p rest)) is
          ∙ ap (λ ls. out ++ lines_behind s form parts before ls) (sym line.first)
          ∙ so.so_far;
    }

pub front-all : (s : PlainStyle) (form : Form) (parts : Parts) (text old out : List ℕ) (place : FrontLineKind) (at : ℕ) → HasFront s form parts text old out place at → lines (drop at text) ≡ []
    → out ≡ old ++ lines_behind s form parts Text (lines text)
front-all s form parts text old out place at so none = sym (append-nil out) ∙ ap (λ ls. out ++ lines_behind s form parts place ls) (sym none) ∙ so.so_far

-- ---- lines in front of header lines

pub record HasPassed (form : Form) (any : Bool) (text : List ℕ) (at : ℕ) : Type 0 where
  pub within : at ≤ length text
  pub same : names_behind form any (lines (drop at text)) ≡ names_behind form any (lines text)

pub passed-none : (form : Form) (any : Bool) (text : List ℕ) → HasPassed form any text 0
passed-none form any text = record { within = omega arith; same = refl }

module _ (form : Form) (any : Bool) (text : List ℕ) (at end : ℕ) (so : HasPassed form any text at) (line : IsLineAt text at end) (pair passes : Bool)
    (is : pair ≡ is_pair form (slice_range text at end) (lines (drop end text))) (goes : passes ≡ (any || is_git_line (slice_range text at end))) where
  stepped : (pair || (passes && names_behind form any (lines (drop end text)))) ≡ names_behind form any (lines text)
  stepped = ap (λ p. p || (passes && names_behind form any (lines (drop end text)))) is
      ∙ ap (λ p. is_pair form (slice_range text at end) (lines (drop end text)) || (p && names_behind form any (lines (drop end text)))) goes
      ∙ ap (λ ls. names_behind form any ls) (sym line.first) ∙ so.same

  pub passed-more : pair ≡ false → passes ≡ true → HasPassed form any text end
  passed-more unpaired goes-on = record { within = line.high; same = sym (ap (λ p. p || (passes && names_behind form any (lines (drop end text)))) unpaired ∙ ap (λ p. p && names_behind form any (lines (drop end text))) goes-on) ∙ stepped }

  pub passed-stop : pair ≡ false → passes ≡ false → false ≡ names_behind form any (lines text)
  passed-stop unpaired stops = sym (ap (λ p. p || (passes && names_behind form any (lines (drop end text)))) unpaired ∙ ap (λ p. p && names_behind form any (lines (drop end text))) stops) ∙ stepped

pub passed-pair : (form : Form) (any : Bool) (text : List ℕ) (at end : ℕ) → HasPassed form any text at → IsLineAt text at end
    → is_pair form (slice_range text at end) (lines (drop end text)) ≡ true → true ≡ names_behind form any (lines text)
passed-pair form any text at end so line is =
    sym (ap (λ p. p || ((any || is_git_line (slice_range text at end)) && names_behind form any (lines (drop end text)))) is)
    ∙ ap (λ ls. names_behind form any ls) (sym line.first) ∙ so.same

pub passed-all : (form : Form) (any : Bool) (text : List ℕ) (at : ℕ) → HasPassed form any text at → lines (drop at text) ≡ [] → false ≡ names_behind form any (lines text)
passed-all form any text at so none = ap (λ ls. names_behind form any ls) (sym none) ∙ so.same

-- ---- lines of hunks

pub record HasLines (clean : Bool) (note : List ℕ) (form : Form) (text old out : List ℕ) (at : ℕ) : Type 0 where
  pub within : at ≤ length text
  pub so_far : out ++ flat_map (hunk_line clean note form) (lines (drop at text)) ≡ old ++ flat_map (hunk_line clean note form) (lines text)

pub lines-none : (clean : Bool) (note : List ℕ) (form : Form) (text old : List ℕ) → HasLines clean note form text old old 0
lines-none clean note form text old = record { within = omega arith; so_far = refl }

pub lines-more : (clean : Bool) (note : List ℕ) (form : Form) (text old out more : List ℕ) (at end : ℕ) → HasLines clean note form text old out at → IsLineAt text at end → more ≡ out ++ hunk_line clean note form (slice_range text at end) → HasLines clean note form text old more end
lines-more clean note form text old out more at end so line puts =
    let one = slice_range text at end in
    let rest = lines (drop end text) in
    record {
      within = line.high;
      so_far =
          ap (λ l. l ++ flat_map (hunk_line clean note form) rest) puts
          ∙ append_assoc out (hunk_line clean note form one) (flat_map (hunk_line clean note form) rest)
          ∙ ap (λ l. out ++ l) (sym (flat_map-cons (hunk_line clean note form) one rest))
          ∙ ap (λ ls. out ++ flat_map (hunk_line clean note form) ls) (sym line.first)
          ∙ so.so_far;
    }

pub lines-all : (clean : Bool) (note : List ℕ) (form : Form) (text old out : List ℕ) (at : ℕ) → HasLines clean note form text old out at → lines (drop at text) ≡ [] → out ≡ old ++ flat_map (hunk_line clean note form) (lines text)
lines-all clean note form text old out at so none = sym (append-nil out) ∙ ap (λ ls. out ++ flat_map (hunk_line clean note form) ls) (sym none) ∙ so.so_far
