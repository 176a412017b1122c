use Rattle.std.specs.Prelude.{All}
use Rattle.read_patch_text.specs.Digests.{AreShort, old_ranges}
use Rattle.std.proofs.Common.{ap, length, subst, sym, ◌<◌, ◌^◌, ◌∙◌}
use Rattle.read_file_patch.specs.PlainPatch.{change_of}
use Rattle.read_patch_text.proofs.digest.old_ranges.Goals as goal

pub ranges_of-requires : goal.ranges_of-requires
ranges_of-requires c = subst (λ hs. All (λ h. length h.body.items < 2 ^ 32) hs) (sym c.deref.ensures.value) (subst AreShort c.in-Hunks.is c.requires)

pub returns-in-Script : goal.returns-in-Script
returns-in-Script c = λ text. c.new.ensures.items ∙ sym (ap (λ x. old_ranges (change_of text x)) c.in-Script.is)
