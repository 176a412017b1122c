-- Where file patches can be put one behind the other.
use Rattle.std.specs.Prelude.{◌≡◌, ℕ, Bool, true, false, List, [], ◌∷◌, map, is_some, codes, Result, Ok}
use Rattle.std.specs.List.{flat_map, list_any}
use Rattle.hunk_core.specs.LineTests.{after}
use Rattle.hunk_core.specs.Reading.{Fault, ◌>>=◌}
use Rattle.unified_form.specs.Hunks as unified
use Rattle.context_form.specs.Openings as context
use Rattle.normal_form.specs.Hunks as normal
use Rattle.ed_form.specs.Commands.{begins_script}
use Rattle.ed_form.specs.Grammar.{begins_append}
use Rattle.patch_header.specs.Content.{has_dot}
use Rattle.patch_header.specs.GitHeaders.{is_git_line}
use Rattle.patch_header.specs.Openings.{asks_dot}
use Rattle.patch_header.specs.Steps.{region_of}
use Rattle.patch_header.specs.declared.read_options.ReadOptions.{ReadOptions}
use Rattle.read_file_patch.specs.PlainPatch.{PlainPatch}
use Rattle.read_patch_text.specs.Patches.{patches_of}
use Rattle.law_reading.specs.Unnumbered.{unnumbered}
use Rattle.law_reading.specs.Following.{IsFilePatch}

-- the first of these lines begins so
abbrev pub begin_with : List ℕ → List (List ℕ) → Bool
begin_with mark [] = false
begin_with mark (line ∷ rest) = is_some (after mark line)

-- no file patch goes on with the first of these lines: it is no opening, no ed command and not the line `a`, and begins with none of two spaces, `+ `, `! `, `s/`, a backslash and a space
pub record BeginCleanly (ls : List (List ℕ)) : Type 0 where
  pub unified : unified.begins_hunk ls ≡ false
  pub context : context.begins_hunk ls ≡ false
  pub normal : normal.begins_hunk ls ≡ false
  pub command : begins_script ls ≡ false
  pub append : begins_append ls ≡ false
  pub kept : begin_with (codes "  ") ls ≡ false
  pub added : begin_with (codes "+ ") ls ≡ false
  pub changed : begin_with (codes "! ") ls ≡ false
  pub substitution : begin_with (codes "s/") ls ≡ false
  pub backslash : begin_with (codes "\\ ") ls ≡ false

-- there is no line, or the first is a git line
abbrev pub begin_with_git : List (List ℕ) → Bool
begin_with_git [] = true
begin_with_git (line ∷ rest) = is_git_line line

-- where a line in front of the opening is a command that would open a script before a line '.', the others have no such line
abbrev pub AddNoDot : ReadOptions → List (List ℕ) → List (List ℕ) → Type 0
AddNoDot ways own others = list_any (asks_dot ways.only) (region_of ways own) ≡ true → has_dot others ≡ false

-- these others can stand behind the lines of a file patch
pub record JoinCleanly (ways : ReadOptions) (own others : List (List ℕ)) (p : PlainPatch) : Type 0 where
  pub begins : BeginCleanly others
  pub git : p.header.bare ≡ true → begin_with_git others ≡ true
  pub dots : AddNoDot ways own others

-- lines that are a file patch where they stand alone, and the file patch, its line numbers set aside
pub record Part : Type 0 where
  pub own : List (List ℕ)
  pub patch : PlainPatch

-- the lines of all parts, one behind the other
abbrev pub all_lines : List Part → List (List ℕ)
all_lines parts = flat_map (λ p. p.own) parts

-- each part alone is its file patch, and those behind it join it cleanly
abbrev pub FitTogether : ReadOptions → List Part → Type 0
FitTogether ways [] = Unit {0}
FitTogether ways (p ∷ ps) = IsFilePatch ways p.own [] p.patch × JoinCleanly ways p.own (all_lines ps) p.patch × FitTogether ways ps

-- what a text is read as, line numbers set aside
abbrev pub read_unnumbered : ReadOptions → List ℕ → Result (List PlainPatch) Fault
read_unnumbered ways text = patches_of ways text >>= λ ps. Ok (map unnumbered ps)
