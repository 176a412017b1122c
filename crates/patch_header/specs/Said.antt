-- What a search keeps of git headers while it passes their lines.
use Rattle.std.specs.Prelude.{ℕ, Bool, not, ◌&&◌, ◌||◌, List, [], reverse, Option, None, Some, is_some, IfSome, codes, if◌then◌else◌}
use Rattle.std.specs.Option.{option_or}
use Rattle.line_list.specs.declared.Span.{Span}
use Rattle.hunk_core.specs.declared.Form.{Form}
use Rattle.patch_header.specs.GitHeaders.{starts, is_git_line, is_extended, is_plain}
use Rattle.patch_header.specs.GitRows.{old_mode_of, new_mode_of, git_lines_in, whole_in, header_back, old_name_back, new_name_back, is_unified}
use Rattle.patch_header.specs.Region.{Row, tail_of, later, LiesIn}
use Rattle.patch_header.specs.declared.read_options.ReadOptions.{ReadOptions}
use Rattle.read_header_record.specs.declared.Action.{Action}
use Rattle.read_header_record.specs.declared.Action.TheVariants.{Plain, New, Deleted, Rename, Copy}
use Rattle.patch_header.specs.declared.git_lines.GitLines.{GitLines}
use Rattle.patch_header.specs.declared.git_trail.GitTrail.{GitTrail}

-- one more extended line
abbrev pub said_with : GitLines → Row → GitLines
said_with s r = record {
  is_new = s.is_new || starts (codes "new file mode ") r.line;
  is_deleted = s.is_deleted || starts (codes "deleted file mode ") r.line;
  rename_from = later s.rename_from (tail_of (codes "rename from ") r);
  rename_to = later s.rename_to (tail_of (codes "rename to ") r);
  copy_from = later s.copy_from (tail_of (codes "copy from ") r);
  copy_to = later s.copy_to (tail_of (codes "copy to ") r);
  old_mode = later s.old_mode (old_mode_of r);
  new_mode = later s.new_mode (new_mode_of r);
}

abbrev pub has_rename : GitLines → Bool
has_rename s = is_some s.rename_from && is_some s.rename_to

abbrev pub has_copy : GitLines → Bool
has_copy s = is_some s.copy_from && is_some s.copy_to

abbrev pub action_said : GitLines → Action
action_said s = if s.is_new then New else if s.is_deleted then Deleted else if has_rename s then Rename else if has_copy s then Copy else Plain

-- the action isn't `Plain`, or both modes are told
abbrev pub asks_said : GitLines → Bool
asks_said s = not (is_plain (action_said s)) || (is_some s.old_mode && is_some s.new_mode)

abbrev pub from_by_said : Action → GitLines → Option Span
from_by_said Plain s = None
from_by_said New s = None
from_by_said Deleted s = None
from_by_said Rename s = whole_in s.rename_from
from_by_said Copy s = whole_in s.copy_from

abbrev pub to_by_said : Action → GitLines → Option Span
to_by_said Plain s = None
to_by_said New s = None
to_by_said Deleted s = None
to_by_said Rename s = whole_in s.rename_to
to_by_said Copy s = whole_in s.copy_to

abbrev pub from_said : GitLines → Option Span
from_said s = from_by_said (action_said s) s

abbrev pub to_said : GitLines → Option Span
to_said s = to_by_said (action_said s) s

-- ---- the header that was just passed

abbrev pub push_said : Option GitLines → Row → Option GitLines
push_said None r = None
push_said (Some s) r = Some (said_with s r)

-- one more line, where this header goes up to it
abbrev pub header_said : Option GitLines → Row → Option GitLines
header_said h r = if is_git_line r.line then Some (git_lines_in []) else if is_extended r.line then push_said h r else None

abbrev pub kept_if : Bool → Option GitLines → Option GitLines
kept_if holds lines = if holds then lines else None

abbrev pub trail_said : GitTrail → Row → GitTrail
trail_said t r = record {
  header = header_said t.header r;
  old_name = kept_if (starts (codes "--- ") r.line) t.header;
  new_name = kept_if (starts (codes "+++ ") r.line) t.old_name;
}

abbrev pub said_in : Option (List Row) → Option GitLines
said_in None = None
said_in (Some rs) = Some (git_lines_in rs)

abbrev pub trail_back : List Row → GitTrail
trail_back back = record { header = said_in (header_back back); old_name = said_in (old_name_back back); new_name = said_in (new_name_back back) }

-- the header that ends these lines, that in front of a line of the old name, that in front of lines of both names
abbrev pub trail_in : List Row → GitTrail
trail_in rs = trail_back (reverse rs)

abbrev pub or_nothing : Option GitLines → GitLines
or_nothing None = git_lines_in []
or_nothing (Some s) = s

-- the header that leads what follows
abbrev pub led_in : GitTrail → GitLines
led_in t = or_nothing (option_or t.new_name t.header)

-- what counts for an opening of a form
abbrev pub led_said : ReadOptions → Form → GitTrail → GitLines
led_said ways form t = if ways.git && is_unified form then led_in t else git_lines_in []

abbrev pub leads_directly : ReadOptions → Form → GitTrail → Bool
leads_directly ways form t = (ways.git && is_unified form) && is_some t.header

-- ---- what was kept lies in the text

pub record SaysWithin (text : List ℕ) (s : GitLines) : Type 0 where
  pub rename_from : IfSome s.rename_from (LiesIn text)
  pub rename_to : IfSome s.rename_to (LiesIn text)
  pub copy_from : IfSome s.copy_from (LiesIn text)
  pub copy_to : IfSome s.copy_to (LiesIn text)
  pub old_mode : IfSome s.old_mode (LiesIn text)
  pub new_mode : IfSome s.new_mode (LiesIn text)

pub record TrailsWithin (text : List ℕ) (t : GitTrail) : Type 0 where
  pub header : IfSome t.header (SaysWithin text)
  pub old_name : IfSome t.old_name (SaysWithin text)
  pub new_name : IfSome t.new_name (SaysWithin text)
