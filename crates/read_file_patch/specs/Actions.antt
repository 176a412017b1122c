-- What a git header says of a file, asked one by one (git-diff(1), "Generating patch text with -p").
use Rattle.std.specs.Prelude.{Bool, true, false}
use Rattle.read_header_record.specs.declared.Action.{Action}
use Rattle.read_header_record.specs.declared.Action.TheVariants.{Plain, New, Deleted, Rename, Copy}

-- the file is made
abbrev pub is_new : Action → Bool
is_new Plain = false
is_new New = true
is_new Deleted = false
is_new Rename = false
is_new Copy = false

-- the file is taken away
abbrev pub is_deleted : Action → Bool
is_deleted Plain = false
is_deleted New = false
is_deleted Deleted = true
is_deleted Rename = false
is_deleted Copy = false

-- the file is renamed or copied, so that two names take part
abbrev pub is_moved : Action → Bool
is_moved Plain = false
is_moved New = false
is_moved Deleted = false
is_moved Rename = true
is_moved Copy = true
