-- Hunks that can be written in their form.
use Rattle.std.specs.Prelude.{◌≡◌, true}
use Rattle.hunk_core.specs.declared.Form.{Form}
use Rattle.hunk_core.specs.declared.Form.TheVariants.{Unified, Context, Normal, Ed}
use Rattle.hunk_core.specs.declared.Hunk.{Hunk}
use Rattle.normal_form.specs.Canonical.{drops_come_first}

-- in the normal form a hunk has no line of context, and its dropped lines stand before its added ones
abbrev pub IsOrdered : Form → Hunk → Type 0
IsOrdered Unified h = Unit {0}
IsOrdered Context h = Unit {0}
IsOrdered Normal h = drops_come_first h.body.items ≡ true
IsOrdered Ed h = Unit {0}
