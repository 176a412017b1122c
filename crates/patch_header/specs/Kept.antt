-- Headers by what a search has kept.
use Rattle.std.specs.Prelude.{ℕ, true, false, List, codes, Option}
use Rattle.hunk_core.specs.declared.Form.{Form}
use Rattle.hunk_core.specs.declared.Form.TheVariants.{Unified}
use Rattle.stamp.specs.declared.Stamp.TheVariants.{Unknown}
use Rattle.patch_header.specs.GitRows.{old_half, new_half, whole_in}
use Rattle.patch_header.specs.Region.{Row, last_tail, old_tail, new_tail}
use Rattle.patch_header.specs.Said.{action_said, from_said, to_said}
use Rattle.patch_header.specs.Steps.{names_line}
use Rattle.patch_header.specs.Values.{name_in, index_in, word_in, stamp_in}
use Rattle.patch_header.specs.declared.region.Tail.{Tail}
use Rattle.patch_header.specs.declared.region.LastHeaderLines.{LastHeaderLines}
use Rattle.patch_header.specs.declared.git_lines.GitLines.{GitLines}
use Rattle.read_header_record.specs.declared.Header.{Header}

-- the header of an opening behind these lines, with what the git header says that leads it
abbrev pub opening_said : List ℕ → Form → ℕ → ℕ → LastHeaderLines → GitLines → Header
opening_said text form at opening seen s = record {
  form = form;
  at = at;
  opening = opening;
  names_line = names_line (old_tail form seen) (name_in text (old_tail form seen)) opening;
  old_name = name_in text (old_tail form seen);
  new_name = name_in text (new_tail form seen);
  index = index_in text seen.index;
  prereq = word_in text seen.prereq;
  old_stamp = stamp_in text (old_tail form seen);
  new_stamp = stamp_in text (new_tail form seen);
  action = action_said s;
  bare = false;
  from = from_said s;
  to = to_said s;
  old_mode = whole_in s.old_mode;
  new_mode = whole_in s.new_mode;
}

-- that of a bare git header, with the rest of its git line and with what its extended lines say
abbrev pub bare_said : List ℕ → ℕ → ℕ → List Row → Option Tail → GitLines → Header
bare_said text at number rs rest s = record {
  form = Unified;
  at = at;
  opening = number;
  names_line = number;
  old_name = old_half text rest;
  new_name = new_half text rest;
  index = index_in text (last_tail (codes "Index:") rs);
  prereq = word_in text (last_tail (codes "Prereq:") rs);
  old_stamp = Unknown;
  new_stamp = Unknown;
  action = action_said s;
  bare = true;
  from = from_said s;
  to = to_said s;
  old_mode = whole_in s.old_mode;
  new_mode = whole_in s.new_mode;
}
