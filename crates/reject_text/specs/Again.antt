-- Hunks that keep the rules, and are read again from what was written of them.
use Rattle.std.specs.Prelude.{◌≡◌, ℕ, List, [], ◌∷◌, None}
use Rattle.std.specs.List.{AllByRecursion, flat_map}
use Rattle.hunk_core.specs.declared.Form.{Form}
use Rattle.hunk_core.specs.declared.Form.TheVariants.{Unified, Context, Normal, Ed}
use Rattle.hunk_core.specs.PlainHunk.{PlainHunk}
use Rattle.hunk_core.specs.Rules.{HasNoInnerFeed, first_broken}
use Rattle.unified_form.specs.Canonical as unified
use Rattle.context_form.specs.Canonical as context
use Rattle.patch_header.specs.Written.{hunk_text}

-- the hunks break no rule
abbrev pub AreUnbroken : List PlainHunk → Type 0
AreUnbroken hs = AllByRecursion (λ h. first_broken h ≡ None) hs

-- each line has a line feed at most at its end
abbrev pub AreClean : List PlainHunk → Type 0
AreClean hs = AllByRecursion (λ h. AllByRecursion HasNoInnerFeed h.body) hs

-- the text of a hunk, with this rest behind it, spells that hunk first; in the context form with the dropped lines of a stretch before the added ones
abbrev pub IsReadFirst : Form → PlainHunk → List ℕ → Type 0
IsReadFirst Unified h rest = unified.SpellsFirst h (unified.canonical h) rest
IsReadFirst Context h rest = context.SpellsFirst (context.in_order h) (context.canonical h) rest
IsReadFirst Normal h rest = ⊥
IsReadFirst Ed h rest = ⊥

-- so it is with each of the hunks, and the text of those behind it
abbrev pub AreReadAgain : Form → List PlainHunk → Type 0
AreReadAgain form [] = Unit {0}
AreReadAgain form (h ∷ hs) = IsReadFirst form h (flat_map (hunk_text form) hs) × AreReadAgain form hs
