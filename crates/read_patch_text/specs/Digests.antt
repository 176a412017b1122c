-- File patches of which of each hunk only the piece and the old lines are kept: what a filter needs.
use Rattle.std.specs.Prelude.{◌≡◌, ℕ, ◌+◌, ◌<◌, ◌≤◌, ◌^◌, false, List, [], ◌∷◌, All, length, drop, map, Result, Ok}
use Rattle.line_list.specs.Lines.{lines}
use Rattle.hunk_core.specs.Reading.{Fault, ◌>>=◌, Ahead, ahead}
use Rattle.unified_form.specs.declared.hunk_scan.OldRange.{OldRange}
use Rattle.unified_form.specs.Skimmed.{old_range}
use Rattle.patch_header.specs.Content.{has_dot}
use Rattle.read_header_record.specs.declared.Header.{Header}
use Rattle.patch_header.specs.declared.read_options.ReadOptions.{ReadOptions}
use Rattle.read_file_patch.specs.declared.Change.{Change}
use Rattle.read_file_patch.specs.declared.Change.TheVariants as changes
use Rattle.read_file_patch.specs.declared.FilePatch.{FilePatch}
use Rattle.read_file_patch.specs.PlainPatch.{PlainChange, PlainPatch, hunks, script, change_of, patch_of, IsLawfulChange}
use Rattle.read_file_patch.specs.Absent.{IsLawfulPatch}
use Rattle.read_patch_text.specs.Changes.{AreCut}
use Rattle.read_patch_text.specs.Patches.{change_behind, patch_at, patches_of}
use Rattle.read_patch_text.specs.Regions.{hunk_ends}
use Rattle.read_patch_text.specs.declared.digest.Digested.{Digested}
use Rattle.read_patch_text.specs.declared.digest.Digests.{Digests}

-- the change without its hunks; a script stays
abbrev pub no_hunks : PlainChange → PlainChange
no_hunks (hunks hs) = hunks []
no_hunks (script es) = script es

-- the old lines of its hunks; a script tells them itself
abbrev pub old_ranges : PlainChange → List OldRange
old_ranges (hunks hs) = map old_range hs
old_ranges (script es) = []

-- the file patch with that change
abbrev pub digest : PlainPatch → PlainPatch
digest p = record { header = p.header; change = no_hunks p.change }

abbrev pub ranges_in : PlainPatch → List OldRange
ranges_in p = old_ranges p.change

-- a change so, with what is ahead behind it
abbrev pub digested_change : PlainChange × Ahead → Result (PlainChange × List OldRange × Ahead) Fault
digested_change x = Ok (no_hunks x.0, old_ranges x.0, x.1)

-- a file patch so
abbrev pub digested_step : PlainPatch × Ahead → PlainPatch × List OldRange × Ahead
digested_step x = (digest x.0, ranges_in x.0, x.1)

abbrev pub digested_patch : PlainPatch × Ahead → Result (PlainPatch × List OldRange × Ahead) Fault
digested_patch x = Ok (digested_step x)

-- those of a text
abbrev pub digested_all : List PlainPatch → Result (List PlainPatch × List (List OldRange)) Fault
digested_all ps = Ok (map digest ps, map ranges_in ps)

-- what is read in place of a change, of a file patch and of all
abbrev pub behind_digested : List ℕ → Header → Result (PlainChange × List OldRange × Ahead) Fault
behind_digested text h = change_behind text h >>= digested_change

abbrev pub patch_digested : List ℕ → Header → Result (PlainPatch × List OldRange × Ahead) Fault
patch_digested text h = patch_at text h >>= digested_patch

abbrev pub digests_of : ReadOptions → List ℕ → Result (List PlainPatch × List (List OldRange)) Fault
digests_of ways text = patches_of ways text >>= digested_all

-- ---- what was read

-- the change, the old lines, and what stands behind them
abbrev pub digested_of : List ℕ → Digested → PlainChange × List OldRange × Ahead
digested_of text r = (change_of text r.change, r.olds.items, ahead r.next (lines (drop r.end text)))

-- all file patches, and the old lines of the hunks of each
abbrev pub plain_digests : List ℕ → Digests → List PlainPatch × List (List OldRange)
plain_digests text d = (map (patch_of text) d.patches.items, map (λ os. os.items) d.olds.items)

-- the lines of each hunk can be counted
abbrev pub AreShort : Change → Type 0
AreShort (changes.Hunks hs) = All (λ h. length h.body.items < 2 ^ 32) hs.items
AreShort (changes.Script s) = Unit {0}

-- how many hunks there were, a script counting as one
abbrev pub rows_in : Change → List OldRange → ℕ
rows_in (changes.Hunks hs) olds = length olds
rows_in (changes.Script s) olds = 1

-- what is known of what a header opens
pub record IsDigested (text : List ℕ) (h : Header) (r : Digested) : Type 0 where
  pub lawful : IsLawfulChange text r.change
  pub cut : AreCut h r.spans.items r.end
  pub each : length r.spans.items ≡ rows_in r.change r.olds.items
  pub ends : map (λ s. s.end) r.spans.items ≡ hunk_ends text h r.end
  pub some : h.at < r.end
  pub high : r.end ≤ length text
  pub numbers : r.next + h.at ≤ h.opening + r.end
  pub dots : has_dot (lines (drop h.at text)) ≡ false → has_dot (lines (drop r.end text)) ≡ false

-- what is known of a file patch: the pieces of its hunks, one for each, make up what stands behind its region
pub record IsDigest (text : List ℕ) (p : FilePatch) (olds : List OldRange) : Type 0 where
  pub lawful : IsLawfulPatch text p
  pub region : p.span.start ≤ p.header.at
  pub cut : AreCut p.header p.hunk_spans.items p.span.end
  pub each : length p.hunk_spans.items ≡ rows_in p.change olds
  pub some : p.header.at < p.span.end
  pub high : p.span.end ≤ length text

-- the same of all, one by one
abbrev pub AreDigests : List ℕ → List FilePatch → List (List OldRange) → Type 0
AreDigests text [] [] = Unit {0}
AreDigests text [] (olds ∷ rest) = ⊥
AreDigests text (p ∷ ps) [] = ⊥
AreDigests text (p ∷ ps) (olds ∷ rest) = IsDigest text p olds × AreDigests text ps rest
