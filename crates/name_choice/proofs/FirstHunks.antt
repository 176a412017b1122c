-- What a file patch that was read says of making its file is what it stands for.
use Rattle.std.proofs.Common.{◌≡◌, ◌∙◌, ℕ, List, [], ◌∷◌, ◌&&◌, ◌||◌, refl, ap}
use Rattle.hunk_core.specs.declared.Hunk.{Hunk}
use Rattle.hunk_core.specs.declared.Side.{Side}
use Rattle.hunk_core.specs.declared.Side.TheVariants.{Forward, Reversed}
use Rattle.hunk_core.specs.PlainHunk.{hunks_of}
use Rattle.read_file_patch.specs.declared.Change.{Change}
use Rattle.read_file_patch.specs.declared.Change.TheVariants.{Hunks, Script}
use Rattle.read_file_patch.specs.declared.FilePatch.{FilePatch}
use Rattle.read_file_patch.specs.PlainPatch.{change_of, hunks, patch_of}
use Rattle.read_file_patch.specs.Absent.{IsLawfulPatch, creates}
use Rattle.name_choice.specs.Making.{first_none, may_make, names_new, starts_at_none, tells_empty_sides, told_making, told_new, told_none}

first_told : (text : List ℕ) (side : Side) (hs : List Hunk) → first_none side hs ≡ starts_at_none side (hunks (hunks_of text hs))
first_told text side [] = refl
first_told text Forward (h ∷ hs) = refl
first_told text Reversed (h ∷ hs) = refl

none_told : (text : List ℕ) (side : Side) (c : Change) → told_none side c ≡ starts_at_none side (change_of text c)
none_told text side (Hunks hs) = first_told text side hs.items
none_told text side (Script es) = refl

pub making_told : (text : List ℕ) (p : FilePatch) (side : Side) → IsLawfulPatch text p → told_making side p ≡ may_make side (patch_of text p)
making_told text p side lawful =
    ap (λ b. b || (tells_empty_sides p.header.form && told_none side p.change)) (lawful.absent side)
    ∙ ap (λ b. creates side (patch_of text p) || (tells_empty_sides p.header.form && b)) (none_told text side p.change)

pub new_told : (text : List ℕ) (p : FilePatch) → IsLawfulPatch text p → told_new p ≡ names_new (patch_of text p)
new_told text p lawful =
    ap (λ b. b || told_making Reversed p) (making_told text p Forward lawful)
    ∙ ap (λ b. may_make Forward (patch_of text p) || b) (making_told text p Reversed lawful)
