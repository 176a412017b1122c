use Rattle.read_file_patch.specs.PlainPatch.{IsLawfulChange, change_of, hunks}
use Rattle.std.proofs.Common.{ap, subst, sym, ◌∙◌}
use Rattle.hunk_core.specs.PlainHunk.{hunks_of}
use Rattle.read_patch_text.proofs.DigestLemmas.{no-lawful}
use Rattle.read_patch_text.specs.Digests.{no_hunks}
use Rattle.read_patch_text.proofs.digest.no_hunks.Goals as goal

pub returns : goal.returns
returns c = record {
  is = λ text. sym (ap (λ x. no_hunks (change_of text x)) c.in-Script.is);
  lawful = λ text lawful. subst (IsLawfulChange text) c.in-Script.is lawful;
}

pub returns-in-Hunks : goal.returns-in-Hunks
returns-in-Hunks c = record {
  is = λ text. ap (λ hs. hunks (hunks_of text hs)) c.new.ensures.items ∙ sym (ap (λ x. no_hunks (change_of text x)) c.in-Hunks.is);
  lawful = λ text lawful. no-lawful text _ c.new.ensures.items;
}
