use Rattle.std.proofs.Common.{◌<◌, ◌^◌, sym, subst, ◌∙◌}
use Rattle.patch_set.specs.SetView.{hunks_in}
use Rattle.patch_set.specs.Fresh.{AreFirst}
use Rattle.patch_set.proofs.set.untried.Goals as goal

pub first_notes-requires-clause-hunks : goal.first_notes-requires-clause-hunks
first_notes-requires-clause-hunks c = subst (λ ps. hunks_in ps < 2 ^ 32) (sym c.deref-2.ensures.value) c.requires.hunks

pub first_notes-requires-clause-regions : goal.first_notes-requires-clause-regions
first_notes-requires-clause-regions c = rw (c.deref-2.ensures.value, c.deref.ensures.value) c.requires.regions

pub noted-requires-clause-notes : goal.noted-requires-clause-notes
noted-requires-clause-notes c =
    subst (λ t. AreFirst c.args.ways t c.args.named.patches.items c.args.named.output c.in-Ok.notes) c.deref.ensures.value
    (subst (λ ps. AreFirst c.args.ways c.deref.result.now ps c.args.named.output c.in-Ok.notes) c.deref-2.ensures.value c.in-Ok.ensures.first)

pub noted-requires-clause-whole : goal.noted-requires-clause-whole
noted-requires-clause-whole c = c.requires

pub returns-in-Ok : goal.returns-in-Ok
returns-in-Ok c = record {
  untried = c.noted.ensures.untried;
  marks = c.noted.ensures.marks ∙ c.in-Ok.ensures.asked;
}

pub returns-in-Err : goal.returns-in-Err
returns-in-Err c = record {
  untried = tt;
  marks = tt;
}
