-- A file patch with its line numbers set aside.
use Rattle.read_file_patch.specs.PlainPatch.{PlainHeader, PlainPatch}

-- what a header says, wherever it stands
abbrev pub unnumbered_header : PlainHeader → PlainHeader
unnumbered_header h = record h { opening = 0; names_line = 0 }

-- the same of a file patch; hunks and edits hold no numbers of lines of the text
abbrev pub unnumbered : PlainPatch → PlainPatch
unnumbered p = record { header = unnumbered_header p.header; change = p.change }
