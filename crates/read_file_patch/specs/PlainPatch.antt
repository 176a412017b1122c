-- A file patch apart from where its lines lie: what its header says, and its hunks or its script.
use Rattle.std.specs.Prelude.{◌≡◌, ℕ, ◌<◌, ◌^◌, Bool, List, length, sum_by, All, Option, option_map, true, false, find}
use Rattle.line_list.specs.declared.Span.{Span}
use Rattle.hunk_core.specs.declared.Form.{Form}
use Rattle.hunk_core.specs.declared.Hunk.{Hunk}
use Rattle.hunk_core.specs.PlainHunk.{PlainHunk, bytes_at, hunks_of}
use Rattle.hunk_core.specs.Turned.{IsLawful}
use Rattle.stamp.specs.declared.Stamp.{Stamp}
use Rattle.ed_form.specs.PlainEdit.{PlainEdit, edits_of, IsLawfulScript}
use Rattle.read_header_record.specs.declared.Action.{Action}
use Rattle.read_header_record.specs.declared.Header.{Header}
use Rattle.read_file_patch.specs.declared.Change.{Change}
use Rattle.read_file_patch.specs.declared.Change.TheVariants.{Hunks, Script}
use Rattle.read_file_patch.specs.declared.FilePatch.{FilePatch}

-- what a header says
pub record PlainHeader : Type 0 where
  pub form : Form
  -- the number of the opening's line, and of the old name's line or else of the opening
  pub opening : ℕ
  pub names_line : ℕ
  pub old_name : Option (List ℕ)
  pub new_name : Option (List ℕ)
  pub index : Option (List ℕ)
  pub prereq : Option (List ℕ)
  pub old_stamp : Stamp
  pub new_stamp : Stamp
  -- what a git header says of the file, and whether it is a bare one, which no hunk follows
  pub action : Action
  pub bare : Bool
  -- the names that a file is renamed or copied from and to
  pub from : Option (List ℕ)
  pub to : Option (List ℕ)
  -- what a git header says of the modes of the old and the new file
  pub old_mode : Option (List ℕ)
  pub new_mode : Option (List ℕ)

-- hunks, or the edits of an ed script; a bare git header has no hunk
pub data PlainChange : Type 0 where
  hunks : List PlainHunk → PlainChange
  script : List PlainEdit → PlainChange

pub record PlainPatch : Type 0 where
  pub header : PlainHeader
  pub change : PlainChange

-- the bytes of a span that may not be there
abbrev pub bytes_in : List ℕ → Option Span → Option (List ℕ)
bytes_in text span = option_map (bytes_at text) span

-- what a header stands for over a text
abbrev pub header_of : List ℕ → Header → PlainHeader
header_of text h = record {
  form = h.form;
  opening = h.opening;
  names_line = h.names_line;
  old_name = bytes_in text h.old_name;
  new_name = bytes_in text h.new_name;
  index = bytes_in text h.index;
  prereq = bytes_in text h.prereq;
  old_stamp = h.old_stamp;
  new_stamp = h.new_stamp;
  action = h.action;
  bare = h.bare;
  from = bytes_in text h.from;
  to = bytes_in text h.to;
  old_mode = bytes_in text h.old_mode;
  new_mode = bytes_in text h.new_mode;
}

-- what a change stands for
abbrev pub change_of : List ℕ → Change → PlainChange
change_of text (Hunks hs) = hunks (hunks_of text hs.items)
change_of text (Script s) = script (edits_of text s.edits.items)

-- what a file patch stands for
abbrev pub patch_of : List ℕ → FilePatch → PlainPatch
patch_of text p = record { header = header_of text p.header; change = change_of text p.change }

-- how many hunks a change has; an ed script counts as one
abbrev pub hunk_count : PlainChange → ℕ
hunk_count (hunks hs) = length hs
hunk_count (script es) = 1

-- the same, told by the change itself
abbrev pub row_count : Change → ℕ
row_count (Hunks hs) = length hs.items
row_count (Script s) = 1

-- hunks that lie in the text, and can be counted with all their lines
pub record AreLawfulHunks (text : List ℕ) (hs : List Hunk) : Type 0 where
  pub count : length hs < 2 ^ 32
  pub few : sum_by (λ x. length x.body.items) hs < 2 ^ 32
  pub lawful : All (IsLawful text) hs

-- lawful hunks, of which a bare git header has none, or a script of one edit or more
abbrev pub IsLawfulChange : List ℕ → Change → Type 0
IsLawfulChange text (Hunks hs) = AreLawfulHunks text hs.items
IsLawfulChange text (Script s) = IsLawfulScript text s

-- an ed script, which doesn't tell the lines that it takes away
abbrev pub is_script : PlainChange → Bool
is_script (hunks hs) = false
is_script (script es) = true

-- the line of the opening of the first one that passes
abbrev pub first_opening : (PlainPatch → Bool) → List PlainPatch → Option ℕ
first_opening test ps = option_map (λ p. p.header.opening) (find test ps)
