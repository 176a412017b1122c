-- The pieces of a file patch with flags, one for each hunk.
use Rattle.std.proofs.Common.{◌≡◌, ℕ, ◌<◌, Bool, false, List, [], length, get_or, Some, sym, ap, ◌∙◌, arith}
use Rattle.std.specs.Prelude.{option_map, slice_get}
use Rattle.std.specs.List.{zip}
use Rattle.std.proofs.lemmas.List.{length-map}
use Rattle.std.proofs.lemmas.Option.{get_or_from_slice_get, slice_get-get_or, slice_get-map}
use Rattle.line_list.specs.declared.Span.{Span}
use Rattle.hunk_core.specs.PlainHunk.{bytes_at}
use Rattle.read_file_patch.specs.declared.FilePatch.{FilePatch}
use Rattle.filter_choice.proofs.Rows.{zip-at, zip-count}
use Rattle.patch_filters.specs.Filtered.{pieces}

-- the piece of a hunk whose span is known
pub piece-at : (text : List ℕ) (p : FilePatch) (i : ℕ) (s : Span) → slice_get p.hunk_spans.items i ≡ Some s → get_or (pieces text p) i [] ≡ bytes_at text s
piece-at text p i s is = get_or_from_slice_get (pieces text p) i (bytes_at text s) [] (slice_get-map (bytes_at text) p.hunk_spans.items i ∙ ap (option_map (bytes_at text)) is)

module _ (flags : List Bool) (text : List ℕ) (p : FilePatch) (count : ℕ) (each : length p.hunk_spans.items ≡ count) (long : length flags ≡ count) where
  abbrev pub rows : List (Bool × List ℕ)
  rows = zip flags (pieces text p)

  pieces-long : length (pieces text p) ≡ count
  pieces-long = length-map p.hunk_spans.items (bytes_at text) ∙ each

  pub rows-long : length rows ≡ count
  rows-long = zip-count flags (pieces text p) (long ∙ sym pieces-long) ∙ pieces-long

  pub row-at : (i : ℕ) → i < count → slice_get rows i ≡ Some (get_or flags i false, get_or (pieces text p) i [])
  row-at i lt =
      zip-at flags (pieces text p) i _ _
      (slice_get-get_or flags i false (omega (arith, lt, long)))
      (slice_get-get_or (pieces text p) i [] (omega (arith, lt, pieces-long)))
