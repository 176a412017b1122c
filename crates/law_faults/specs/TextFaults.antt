-- What is wrong with a line of a patch text.
use Rattle.std.specs.Prelude.{◌≡◌, ◌⊎◌, ◌^◌, ℕ, true, List, ◌++◌}
use Rattle.hunk_core.specs.declared.BadKind.{BadKind}
use Rattle.hunk_core.specs.declared.BadKind.TheVariants as kinds
use Rattle.hunk_core.specs.declared.Form.{Form}
use Rattle.hunk_core.specs.declared.Form.TheVariants.{Unified, Context, Normal, Ed}
use Rattle.patch_header.specs.Content.{is_binary}
use Rattle.law_faults.specs.UnifiedFaults as unified
use Rattle.law_faults.specs.ContextFaults as context
use Rattle.law_faults.specs.NormalFaults as normal
use Rattle.law_faults.specs.EdFaults as ed

-- the line is at fault in hunks of this form, or in a script, behind these lines of them
abbrev pub IsAtFaultIn : Form → BadKind → List (List ℕ) → List ℕ → List (List ℕ) → Type 0
IsAtFaultIn Unified kind own line behind = unified.IsAtFault 0 kind own line behind
IsAtFaultIn Context kind own line behind = context.IsAtFault 0 kind own line behind
IsAtFaultIn Normal kind own line behind = normal.IsAtFault 0 kind own line behind
IsAtFaultIn Ed kind own line behind = ed.IsAtFault (2 ^ 32) kind own line behind

-- a binary line; or a line that is at fault in a form, behind other lines of the text and lines of its own hunks or script
abbrev pub IsAtFault : BadKind → List (List ℕ) → List ℕ → List (List ℕ) → Type 0
IsAtFault kind front line behind = ((kind ≡ kinds.Binary) × (is_binary line ≡ true)) ⊎ ((form : Form) × (before : List (List ℕ)) × (own : List (List ℕ)) × (front ≡ before ++ own) × IsAtFaultIn form kind own line behind)
