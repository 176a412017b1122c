-- What a header says, by its lines alone, wherever they stand (POSIX `patch`, "Filename Determination"; git-diff(1), "Generating patch text with -p").
use Rattle.std.specs.Prelude.{ℕ, ◌+◌, ◌==◌, Bool, true, false, List, [], ◌∷◌, length, reverse, take, drop, Option, None, Some, codes, if◌then◌else◌}
use Rattle.hunk_core.specs.declared.Form.{Form}
use Rattle.hunk_core.specs.declared.Form.TheVariants.{Unified, Context, Normal, Ed}
use Rattle.hunk_core.specs.LineTests.{after}
use Rattle.stamp.specs.Reading.{stamp_of}
use Rattle.stamp.specs.declared.Stamp.{Stamp}
use Rattle.stamp.specs.declared.Stamp.TheVariants.{Unknown}
use Rattle.patch_header.specs.Content.{content}
use Rattle.patch_header.specs.GitHeaders.{action_of}
use Rattle.patch_header.specs.GitRows.{lines_of, led_by, led_directly, both_names}
use Rattle.patch_header.specs.Region.{rows, first_some, later}
use Rattle.patch_header.specs.Values.{unblanked, name_length, index_length, word_length, behind_name}
use Rattle.read_header_record.specs.declared.Action.{Action}
use Rattle.read_header_record.specs.declared.Action.TheVariants.{Plain, New, Deleted, Rename, Copy}
use Rattle.patch_header.specs.declared.git_names.Pair.{Pair}
use Rattle.patch_header.specs.declared.openings.Stop.{Stop}
use Rattle.patch_header.specs.declared.openings.Stop.TheVariants.{Opening, Binary, Bare}
use Rattle.patch_header.specs.declared.read_options.ReadOptions.{ReadOptions}
use Rattle.read_file_patch.specs.PlainPatch.{PlainHeader}

-- what stands in a line behind these bytes, where it begins with them; without the line feed
abbrev pub behind : List ℕ → List ℕ → Option (List ℕ)
behind mark line = after mark (content line)

-- the same of the last of these lines that begins so
abbrev pub last_behind : List ℕ → List (List ℕ) → Option (List ℕ)
last_behind mark ls = first_some (behind mark) (reverse ls)

-- so many bytes in front; none is no name
abbrev pub bytes_before : ℕ → List ℕ → Option (List ℕ)
bytes_before n bytes = if n == 0 then None else Some (take n bytes)

-- the name, that of an `Index:` line, the word and the stamp behind blanks
abbrev pub name_said : Option (List ℕ) → Option (List ℕ)
name_said None = None
name_said (Some bytes) = bytes_before (name_length (unblanked bytes)) (unblanked bytes)

abbrev pub index_named : Option (List ℕ) → Option (List ℕ)
index_named None = None
index_named (Some bytes) = bytes_before (index_length (unblanked bytes)) (unblanked bytes)

abbrev pub word_said : Option (List ℕ) → Option (List ℕ)
word_said None = None
word_said (Some bytes) = bytes_before (word_length (unblanked bytes)) (unblanked bytes)

abbrev pub stamp_said : Option (List ℕ) → Stamp
stamp_said None = Unknown
stamp_said (Some bytes) = stamp_of (behind_name (unblanked bytes))

-- all up to the end of the line
abbrev pub whole_said : Option (List ℕ) → Option (List ℕ)
whole_said None = None
whole_said (Some bytes) = bytes_before (length bytes) bytes

-- the last line of the old name, and of the new one
abbrev pub old_line : Form → List (List ℕ) → Option (List ℕ)
old_line Unified ls = last_behind (codes "--- ") ls
old_line Context ls = last_behind (codes "*** ") ls
old_line Normal ls = None
old_line Ed ls = None

abbrev pub new_line : Form → List (List ℕ) → Option (List ℕ)
new_line Unified ls = last_behind (codes "+++ ") ls
new_line Context ls = last_behind (codes "--- ") ls
new_line Normal ls = None
new_line Ed ls = None

-- the names that extended lines rename or copy a file from and to
abbrev pub from_by : Action → List (List ℕ) → Option (List ℕ)
from_by Plain ls = None
from_by New ls = None
from_by Deleted ls = None
from_by Rename ls = whole_said (last_behind (codes "rename from ") ls)
from_by Copy ls = whole_said (last_behind (codes "copy from ") ls)

abbrev pub to_by : Action → List (List ℕ) → Option (List ℕ)
to_by Plain ls = None
to_by New ls = None
to_by Deleted ls = None
to_by Rename ls = whole_said (last_behind (codes "rename to ") ls)
to_by Copy ls = whole_said (last_behind (codes "copy to ") ls)

-- what a line says of the old file's mode, and of the new file's
abbrev pub old_mode_behind : List ℕ → Option (List ℕ)
old_mode_behind line = later (behind (codes "old mode ") line) (behind (codes "deleted file mode ") line)

abbrev pub new_mode_behind : List ℕ → Option (List ℕ)
new_mode_behind line = later (behind (codes "new mode ") line) (behind (codes "new file mode ") line)

-- what the last of extended lines says that speaks of it
abbrev pub old_mode_said : List (List ℕ) → Option (List ℕ)
old_mode_said ls = whole_said (first_some old_mode_behind (reverse ls))

abbrev pub new_mode_said : List (List ℕ) → Option (List ℕ)
new_mode_said ls = whole_said (first_some new_mode_behind (reverse ls))

-- the extended lines of the git header that leads an opening of a form behind these lines
abbrev pub led_lines : ReadOptions → Form → List (List ℕ) → List (List ℕ)
led_lines ways form ls = lines_of (led_by ways form (rows 0 0 ls))

-- a git header stands directly in front of an opening of a form behind these lines
abbrev pub is_direct : ReadOptions → Form → List (List ℕ) → Bool
is_direct ways form ls = led_directly ways form (rows 0 0 ls)

-- no line names the file then but the git line
abbrev pub naming_lines : Bool → List (List ℕ) → List (List ℕ)
naming_lines direct ls = if direct then [] else ls

-- the names of what stands in a git line
abbrev pub old_of : List ℕ → Option Pair → Option (List ℕ)
old_of bytes None = None
old_of bytes (Some p) = bytes_before p.old bytes

abbrev pub new_of : List ℕ → Option Pair → Option (List ℕ)
new_of bytes None = None
new_of bytes (Some p) = bytes_before p.new (drop p.start bytes)

abbrev pub old_half : Option (List ℕ) → Option (List ℕ)
old_half None = None
old_half (Some bytes) = old_of bytes (both_names bytes)

abbrev pub new_half : Option (List ℕ) → Option (List ℕ)
new_half None = None
new_half (Some bytes) = new_of bytes (both_names bytes)

-- what the last git line names, or else the last `Index:` line
abbrev pub part_of : List ℕ → Option Pair → Option (List ℕ)
part_of bytes None = None
part_of bytes (Some p) = Some (take p.new (drop p.start bytes))

abbrev pub git_named : Option (List ℕ) → Option (List ℕ)
git_named None = None
git_named (Some bytes) = part_of bytes (both_names bytes)

abbrev pub index_behind : Bool → List (List ℕ) → Option (List ℕ)
index_behind direct ls = if direct then git_named (last_behind (codes "diff --git ") ls) else last_behind (codes "Index:") ls

-- the header of an opening behind these lines, with the extended lines that lead it, directly or not; line numbers set aside
abbrev pub header_behind : Form → List (List ℕ) → Bool → List (List ℕ) → PlainHeader
header_behind form ls direct led = record {
  form = form;
  opening = 0;
  names_line = 0;
  old_name = name_said (old_line form (naming_lines direct ls));
  new_name = name_said (new_line form (naming_lines direct ls));
  index = index_named (index_behind direct ls);
  prereq = word_said (last_behind (codes "Prereq:") ls);
  old_stamp = stamp_said (old_line form (naming_lines direct ls));
  new_stamp = stamp_said (new_line form (naming_lines direct ls));
  action = action_of led;
  bare = false;
  from = from_by (action_of led) led;
  to = to_by (action_of led) led;
  old_mode = old_mode_said led;
  new_mode = new_mode_said led;
}

-- that of a bare git header behind these lines, with this git line and these extended ones
abbrev pub bare_header : List (List ℕ) → List ℕ → List (List ℕ) → PlainHeader
bare_header ls git extended = record {
  form = Unified;
  opening = 0;
  names_line = 0;
  old_name = old_half (behind (codes "diff --git ") git);
  new_name = new_half (behind (codes "diff --git ") git);
  index = index_named (last_behind (codes "Index:") ls);
  prereq = word_said (last_behind (codes "Prereq:") ls);
  old_stamp = Unknown;
  new_stamp = Unknown;
  action = action_of extended;
  bare = true;
  from = from_by (action_of extended) extended;
  to = to_by (action_of extended) extended;
  old_mode = old_mode_said extended;
  new_mode = new_mode_said extended;
}

abbrev pub bare_said : List (List ℕ) → List (List ℕ) → Option PlainHeader
bare_said ls [] = None
bare_said ls (git ∷ extended) = Some (bare_header ls git extended)

-- the header of what stands behind these lines; of a bare git header these are its own ones; a binary line has none
abbrev pub header_said : ReadOptions → List (List ℕ) → List (List ℕ) → Stop → Option PlainHeader
header_said ways ls own (Opening form) = Some (header_behind form ls (is_direct ways form ls) (led_lines ways form ls))
header_said ways ls own Bare = bare_said ls own
header_said ways ls own Binary = None
