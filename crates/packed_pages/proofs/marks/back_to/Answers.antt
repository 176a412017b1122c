use Rattle.packed_pages.proofs.marks.back_to.Goals as goal

pub returns-clause-kept : goal.returns-clause-kept
returns-clause-kept c page are =
    let left = c.within-mark.ensures.kept page are in
    record { far = left.far; near = left.near }
