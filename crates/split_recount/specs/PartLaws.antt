-- What the parts of a text are, in words of their own.
use Rattle.std.specs.Prelude.{◌≡◌, ◌≢◌, ℕ, suc, ◌<◌, ◌≤◌, Bool, true, false, length, slice_get, Some}
use Rattle.std.specs.List.{flat_map}
use Rattle.line_list.specs.declared.Span.{Span}
use Rattle.hunk_core.specs.PlainHunk.{bytes_at}
use Rattle.hunk_core.specs.Pieces.{AreInTurn}
use Rattle.read_file_patch.specs.declared.FilePatch.{FilePatch}
use Rattle.read_file_patch.specs.PlainPatch.{header_of}
use Rattle.patch_set.specs.PlainName.{plain_name}
use Rattle.patch_set.specs.SetView.{SetView, IsWhole, patch_at}
use Rattle.split_recount.specs.Parts.{parts}

-- none is empty, and one behind the other they are the text
abbrev pub JoinBack : Type 0
JoinBack = (every : Bool) (v : SetView) → IsWhole v → AreInTurn 0 (parts every v) (length v.text) × (flat_map (bytes_at v.text) (parts every v) ≡ v.text)

-- each but the first begins where a file patch does
abbrev pub BeginAtPatches : Type 0
BeginAtPatches = (every : Bool) (v : SetView) (part : ℕ) (s : Span) → slice_get (parts every v) (suc part) ≡ Some s
    → (patch : ℕ) × (p : FilePatch) × (patch_at v patch ≡ Some p) × (s.start ≡ p.span.start)

-- a file patch begins in a part
abbrev pub BeginsIn : Span → FilePatch → Type 0
BeginsIn s p = (s.start ≤ p.span.start) × (p.span.start < s.end)

-- two file patches that begin in one part have two names, and there are none where each but the first begins a part
abbrev pub HaveOwnNames : Type 0
HaveOwnNames = (every : Bool) (v : SetView) (part : ℕ) (s : Span) (first second : ℕ) (p q : FilePatch) → IsWhole v → slice_get (parts every v) part ≡ Some s
    → first < second → patch_at v first ≡ Some p → patch_at v second ≡ Some q → BeginsIn s p → BeginsIn s q
    → (every ≡ false) × (plain_name (header_of v.text p.header) ≢ plain_name (header_of v.text q.header))

-- where each but the first begins a part there are as many parts as file patches
abbrev pub AreAsMany : Type 0
AreAsMany = (v : SetView) → IsWhole v → 0 < length v.patches → length (parts true v) ≡ length v.patches

-- else each part but the first begins at a file patch whose name is that of one in the part in front of it
abbrev pub BeginAtNamesAgain : Type 0
BeginAtNamesAgain = (v : SetView) (part : ℕ) (s t : Span) → IsWhole v → slice_get (parts false v) part ≡ Some s → slice_get (parts false v) (suc part) ≡ Some t
    → (first : ℕ) × (second : ℕ) × (p : FilePatch) × (q : FilePatch) × (patch_at v first ≡ Some p) × (patch_at v second ≡ Some q) × BeginsIn s p
    × (t.start ≡ q.span.start) × (plain_name (header_of v.text p.header) ≡ plain_name (header_of v.text q.header))
