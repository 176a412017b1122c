-- An entry that was found in a text, as places of it.
use Rattle.std.specs.Prelude.{ℕ, List, Option, None, Some}
use Rattle.std.specs.Option.{option_copied}
use Rattle.series_stack.specs.Saves.{Entry}
use Rattle.series_stack.specs.Saves.Entry.{Missing, Held}
use Rattle.series_stack.specs.declared.entry.FoundEntry.{FoundEntry}

abbrev pub entry_with : List ℕ → Option (List ℕ) → Entry
entry_with name None = Missing name
entry_with name (Some bytes) = Held name bytes

-- the entry, and what stands behind it
abbrev pub found : FoundEntry → Entry × List ℕ
found x = (entry_with x.name.now (option_copied x.bytes), x.rest.now)
