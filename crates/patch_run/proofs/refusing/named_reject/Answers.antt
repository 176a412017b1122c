use Rattle.patch_run.proofs.refusing.named_reject.Goals as goal

pub shown_reject-requires : goal.shown_reject-requires
shown_reject-requires c = c.requires.shown_reject
