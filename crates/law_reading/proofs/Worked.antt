-- Lines that begin cleanly, and lines that don't.
use Rattle.std.proofs.Common.{◌≡◌, true, false, [], ◌∷◌, refl}
use Rattle.std.specs.Prelude.{codes}
use Rattle.hunk_core.specs.LineTests.{after}
use Rattle.num_text.specs.Numbers.{after_digits}
use Rattle.hunk_core.specs.Letters.{action_at}
use Rattle.num_text.specs.NumberRanges.{range_at}
use Rattle.unified_form.specs.Ranges.{is_opening}
use Rattle.normal_form.specs.Commands as normal
use Rattle.ed_form.specs.Commands as ed
use Rattle.law_reading.specs.Joins.{BeginCleanly}

pub names_begin : BeginCleanly (codes "--- b\n" ∷ codes "+++ b\n" ∷ codes "@@ -1 +1 @@\n" ∷ [])
unfolding after is_opening range_at normal.parts_at ed.parts_at
names_begin = record { unified = refl; context = refl; normal = refl; command = refl; append = refl; kept = refl; added = refl; changed = refl; substitution = refl; backslash = refl }

pub git_begins : BeginCleanly (codes "diff --git a/b b/b\n" ∷ [])
unfolding after is_opening range_at normal.parts_at ed.parts_at
git_begins = record { unified = refl; context = refl; normal = refl; command = refl; append = refl; kept = refl; added = refl; changed = refl; substitution = refl; backslash = refl }

pub append_goes_on : BeginCleanly (codes "a\n" ∷ []) → ⊥
unfolding after
append_goes_on c = let e : true ≡ false = c.append in cc

pub command_opens : BeginCleanly (codes "5d\n" ∷ []) → ⊥
unfolding range_at after_digits action_at ed.parts_at
command_opens c = let e : true ≡ false = c.command in cc

pub kept_goes_on : BeginCleanly (codes "  x\n" ∷ []) → ⊥
unfolding after
kept_goes_on c = let e : true ≡ false = c.kept in cc

pub hunk_opens : BeginCleanly (codes "2a3\n" ∷ codes "> x\n" ∷ []) → ⊥
unfolding after range_at after_digits action_at normal.parts_at
hunk_opens c = let e : true ≡ false = c.normal in cc
