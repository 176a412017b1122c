-- The file patches of a set, each turned round, as they are read again.
use Rattle.std.specs.Prelude.{false, List, map, reverse, None, if◌then◌else◌}
use Rattle.hunk_core.specs.declared.Form.{Form}
use Rattle.hunk_core.specs.declared.Form.TheVariants.{Unified, Context, Normal, Ed}
use Rattle.hunk_core.specs.PlainHunk.{PlainHunk}
use Rattle.hunk_core.specs.Turned.{swapped}
use Rattle.context_form.specs.Canonical as context
use Rattle.normal_form.specs.Canonical as normal
use Rattle.read_header_record.specs.declared.Action.TheVariants.{Plain}
use Rattle.read_file_patch.specs.PlainPatch.{PlainChange, PlainHeader, PlainPatch, hunks, script}
use Rattle.patch_set.specs.SetView.{SetView, plain_patches}
use Rattle.flip_patch.specs.HeaderText.{needs_index}

-- both names and stamps exchanged; the name of the `Index:` line only where no other line says which file is meant, and nothing that other lines said
abbrev pub turned_header : PlainHeader → PlainHeader
turned_header h = record {
  form = h.form;
  opening = 0;
  names_line = 0;
  old_name = h.new_name;
  new_name = h.old_name;
  index = if needs_index h.form h then h.index else None;
  prereq = None;
  old_stamp = h.new_stamp;
  new_stamp = h.old_stamp;
  action = Plain;
  bare = false;
  from = None;
  to = None;
  old_mode = None;
  new_mode = None;
}

-- a hunk as its form shows it: in the context form the dropped lines of each stretch come before the added ones, in the normal form all of them do
abbrev pub as_shown : Form → PlainHunk → PlainHunk
as_shown Unified h = h
as_shown Context h = context.in_order h
as_shown Normal h = normal.in_order h
as_shown Ed h = h

-- each hunk with its starts exchanged, and its dropped lines with the added ones
abbrev pub turned_change : Form → PlainChange → PlainChange
turned_change form (hunks hs) = hunks (map (λ h. as_shown form (swapped h)) hs)
turned_change form (script es) = script es

abbrev pub turned_patch : PlainPatch → PlainPatch
turned_patch p = record { header = turned_header p.header; change = turned_change p.header.form p.change }

-- from the last to the first
abbrev pub turned_patches : SetView → List PlainPatch
turned_patches v = map turned_patch (reverse (plain_patches v))
