-- Lines that are refused where they stand.
use Rattle.std.specs.Prelude.{ℕ, List, if◌then◌else◌, is_some, Result, Ok, Err}
use Rattle.hunk_core.specs.declared.BadKind.{BadKind}
use Rattle.hunk_core.specs.LineTests.{is_backslash, after_backslash}
use Rattle.hunk_core.specs.PlainHunk.{PlainHunk}
use Rattle.hunk_core.specs.Reading.{Fault, fault, Ahead}
use Rattle.hunk_core.specs.declared.BadKind.TheVariants as kinds

-- why a line is refused that hasn't the form which must stand there
abbrev pub unmarked : List ℕ → BadKind
unmarked line = if is_backslash line then kinds.MisplacedBackslash else kinds.Mark

-- no backslash line stands behind a hunk
abbrev pub settled : PlainHunk → Ahead → Result (PlainHunk × Ahead) Fault
settled h p = if is_some (after_backslash p.rest) then Err (fault p.number kinds.MisplacedBackslash) else Ok (h, p)
