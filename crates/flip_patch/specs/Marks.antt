-- What stands around a name in a header line (GNU diffutils manual, "Detailed Description of Unified Format" and "Detailed Description of Context Format"; POSIX `patch`, "Filename Determination").
use Rattle.std.specs.Prelude.{Bool, true, false}
use Rattle.hunk_core.specs.declared.Form.{Form}
use Rattle.hunk_core.specs.declared.Form.TheVariants.{Unified, Context, Normal, Ed}

-- the form has a line for each name
abbrev pub shows_names : Form → Bool
shows_names Unified = true
shows_names Context = true
shows_names Normal = false
shows_names Ed = false
