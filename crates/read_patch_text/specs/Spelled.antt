-- The file patches of a text as plain bytes, by the text and by how it is read alone.
use Rattle.std.specs.Prelude.{ℕ, List, [], ◌∷◌, map, slice_range, if◌then◌else◌}
use Rattle.hunk_core.specs.PlainHunk.{bytes_at}
use Rattle.patch_header.specs.declared.read_options.ReadOptions.{ReadOptions}
use Rattle.read_file_patch.specs.declared.FilePatch.{FilePatch}
use Rattle.read_file_patch.specs.PlainPatch.{PlainHeader, header_of}
use Rattle.read_patch_text.specs.Regions.{Region, regions_of}

-- what stands in front of the opening, what the header says, the lines of a bare git header, and the piece of each hunk
pub record Spelled : Type 0 where
  pub front : List ℕ
  pub header : PlainHeader
  pub bare : List ℕ
  pub pieces : List (List ℕ)

-- the bytes from a place up to the first of these places, from there up to the second, and so on
abbrev pub cut_at : List ℕ → ℕ → List ℕ → List (List ℕ)
cut_at text at [] = []
cut_at text at (end ∷ ends) = slice_range text at end ∷ cut_at text end ends

-- the bytes of a region, and of what stands behind it
abbrev pub spelled_at : List ℕ → Region → Spelled
spelled_at text r = record {
  front = slice_range text r.start r.header.at;
  header = header_of text r.header;
  bare = if r.header.bare then slice_range text r.header.at r.end else [];
  pieces = cut_at text r.header.at r.ends;
}

-- those of all file patches of a text that is read in these ways, up to the first fault
abbrev pub spelled_in : ReadOptions → List ℕ → List Spelled
spelled_in ways text = map (spelled_at text) (regions_of ways text)

-- the bytes of a file patch that was read
abbrev pub spelled_of : List ℕ → FilePatch → Spelled
spelled_of text p = record {
  front = slice_range text p.span.start p.header.at;
  header = header_of text p.header;
  bare = if p.header.bare then slice_range text p.header.at p.span.end else [];
  pieces = map (bytes_at text) p.hunk_spans.items;
}
