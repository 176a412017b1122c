-- The file patches of which something is written in another form, as they are read again.
use Rattle.std.specs.Prelude.{◌≡◌, ℕ, ◌+◌, ◌==◌, Bool, true, false, List, [], ◌∷◌, ◌++◌, codes, length, map, reverse, Option, None, Some, if◌then◌else◌}
use Rattle.std.specs.List.{flat_map, list_any}
use Rattle.hunk_core.specs.declared.Form.{Form}
use Rattle.hunk_core.specs.declared.Form.TheVariants.{Unified, Context, Normal, Ed}
use Rattle.hunk_core.specs.declared.Side.TheVariants.{Forward, Reversed}
use Rattle.hunk_core.specs.PlainHunk.{PlainHunk}
use Rattle.context_form.specs.Canonical as context
use Rattle.normal_form.specs.Grammar.{on_side}
use Rattle.stamp.specs.declared.Stamp.{Stamp}
use Rattle.stamp.specs.declared.Stamp.TheVariants.{Unknown}
use Rattle.read_header_record.specs.Quoted.{begins_quoted, quoted_length}
use Rattle.read_header_record.specs.declared.Action.TheVariants.{Plain}
use Rattle.read_file_patch.specs.PlainPatch.{PlainChange, PlainHeader, PlainPatch, hunks, script}
use Rattle.patch_set.specs.PlainName.{plain_name}
use Rattle.patch_set.specs.SetView.{SetView, plain_patches}
use Rattle.flip_patch.specs.HeaderText.{index_line, needs_index}
use Rattle.flip_patch.specs.Marks.{shows_names}
use Rattle.law_reading.specs.Said.{behind, index_named}
use Rattle.cli_tool_words.specs.PlainJobs.{PlainFilterJob}
use Rattle.format_convert.specs.Blocks.{Block, blocks_in, changes}
use Rattle.format_convert.specs.Commands.{new_first, range_start}
use Rattle.format_convert.specs.Taken.{left_patches}
use Rattle.format_convert.specs.Converted.{is_written}

-- ---- the header

-- what is read of the `Index:` line, where one is written
abbrev pub index_said : Form → PlainHeader → Option (List ℕ)
index_said form h = if needs_index form h then index_named (behind (codes "Index:") (index_line (plain_name h))) else None

-- a name and a stamp, in a form that has lines for them
abbrev pub name_if : Form → Option (List ℕ) → Option (List ℕ)
name_if form name = if shows_names form then name else None

abbrev pub stamp_if : Form → Stamp → Stamp
stamp_if form stamp = if shows_names form then stamp else Unknown

-- the names and the stamps that the form has lines for, or the one name of the `Index:` line; nothing that other lines said
abbrev pub header_again : Form → PlainHeader → PlainHeader
header_again form h = record {
  form = form;
  opening = 0;
  names_line = 0;
  old_name = name_if form h.old_name;
  new_name = name_if form h.new_name;
  index = index_said form h;
  prereq = None;
  old_stamp = stamp_if form h.old_stamp;
  new_stamp = stamp_if form h.new_stamp;
  action = Plain;
  bare = false;
  from = None;
  to = None;
  old_mode = None;
  new_mode = None;
}

-- a name that an `Index:` line gives back: no space comes first, and it holds no tab, or all of it is in quotes
abbrev pub begins_with_space : List ℕ → Bool
begins_with_space [] = false
begins_with_space (b ∷ name) = b == 32

pub record IsGivenBack (name : List ℕ) : Type 0 where
  pub front : begins_with_space name ≡ false
  pub tab : begins_quoted name ≡ false → list_any (λ b. b == 9) name ≡ false
  pub quoted : begins_quoted name ≡ true → quoted_length name ≡ Some (length name)

-- ---- the change

-- the hunk of a block, behind blocks that added and dropped so many lines
abbrev pub block_hunk : ℕ → ℕ → Block → PlainHunk
block_hunk adds drops b = record {
  old_start = range_start b.first (length b.dropped);
  new_start = range_start (new_first adds drops b) (length b.added);
  body = on_side Forward b.dropped ++ on_side Reversed b.added;
}

-- those of blocks
unfoldable pub block_hunks : ℕ → ℕ → List Block → List PlainHunk
block_hunks adds drops [] = []
block_hunks adds drops (b ∷ bs) = block_hunk adds drops b ∷ block_hunks (adds + length b.added) (drops + length b.dropped) bs

-- the same hunks, in the context form the dropped lines before the added ones in each stretch; or a hunk for each block; or a script that goes through the blocks from the last one
abbrev pub change_again : Form → PlainChange → PlainChange
change_again Unified c = c
change_again Context (hunks hs) = hunks (map context.in_order hs)
change_again Context (script es) = script es
change_again Normal c = hunks (block_hunks 0 0 (blocks_in c))
change_again Ed c = script (reverse (changes c))

-- ---- the file patches

abbrev pub patch_again : Form → PlainPatch → PlainPatch
patch_again form p = record { header = header_again form p.header; change = change_again form p.change }

-- a file patch of which something is written, or none
abbrev pub again_if : Form → PlainPatch → List PlainPatch
again_if form p = if is_written form p.change then patch_again form p ∷ [] else []

-- what is left of a set, in the same order
abbrev pub patches_again : Form → PlainFilterJob → SetView → List PlainPatch
patches_again form j v = flat_map (again_if form) (left_patches j (plain_patches v))
