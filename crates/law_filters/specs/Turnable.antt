-- Hunks that can be taken back by turning each of them round (GNU diffutils manual, "Applying Reversed Patches"). That
-- hunks undo themselves is said of them as they were read, in context and normal patches too, before their lines come into
-- the order in which these forms show them.
use Rattle.std.specs.Prelude.{◌≡◌, ◌⊎◌, ℕ, ◌+◌, ◌<◌, ◌≤◌, ℤ, pos, ◌+ℤ◌, ◌-ℤ◌, List, [], ◌∷◌, length, false}
use Rattle.std.specs.List.{AllByRecursion}
use Rattle.line_list.specs.Lines.{IsLine, IsOpenLine}
use Rattle.hunk_core.specs.declared.Verdict.{Verdict}
use Rattle.hunk_core.specs.declared.Verdict.TheVariants.{Untried, Ignored, Nowhere, At}
use Rattle.hunk_core.specs.PlainHunk.{PlainHunk, old_lines}
use Rattle.hunk_core.specs.Turned.{base, leading, trailing, swapped}
use Rattle.hunk_place.specs.Verdicts.{adds, drops, at_start, spots, verdicts}
use Rattle.hunk_apply.specs.Splice.{Edit, all_edits}

-- a place with neither fuzz nor an offset
abbrev pub IsExact : Verdict → Type 0
IsExact Untried = ⊥
IsExact Ignored = ⊥
IsExact Nowhere = ⊥
IsExact (At line fuzz offset) = (fuzz ≡ 0) × (offset ≡ pos 0)

-- each hunk is placed so in these lines, where no blanks are passed over
abbrev pub ArePlacedExactly : List (List ℕ) → ℕ → List PlainHunk → Type 0
ArePlacedExactly lines fuzz hs = AllByRecursion IsExact (verdicts lines fuzz false at_start hs)

-- the edits of the hunks as they are placed in these lines
abbrev pub edits_in : List (List ℕ) → ℕ → List PlainHunk → List Edit
edits_in lines fuzz hs = all_edits (spots lines fuzz false at_start hs) hs

-- the new lines of each hunk stand, as stated, where the old ones do, moved by what the hunks before it add, less what they drop
abbrev pub FollowNet : ℤ → List PlainHunk → Type 0
FollowNet net [] = Unit {0}
FollowNet net (h ∷ hs) = (pos (base (swapped h)) ≡ pos (base h) +ℤ net) × FollowNet (net +ℤ (pos (adds h) -ℤ pos (drops h))) hs

-- each hunk stands at this line or behind it, and behind the old lines of the one before it
abbrev pub StandApart : ℕ → List PlainHunk → Type 0
StandApart from [] = Unit {0}
StandApart from (h ∷ hs) = (from ≤ base h) × StandApart (base h + length (old_lines h.body)) hs

-- a hunk with less context at its end than in front, which is looked for at the end of a file alone, is the last one
abbrev pub EndOnlyLast : List PlainHunk → Type 0
EndOnlyLast [] = Unit {0}
EndOnlyLast (h ∷ hs) = (trailing h.body < leading h.body → hs ≡ []) × EndOnlyLast hs

pub record AreTurnable (hs : List PlainHunk) : Type 0 where
  pub new_bases : FollowNet (pos 0) hs
  pub apart : StandApart 0 hs
  pub last : EndOnlyLast hs

-- each line of these bodies has a byte, and a line feed at most as its last one
abbrev pub HaveLines : List PlainHunk → Type 0
HaveLines hs = AllByRecursion (λ h. AllByRecursion (λ m. IsLine m.line ⊎ IsOpenLine m.line) h.body) hs
