use Rattle.hunk_core.specs.declared.Form.TheVariants.{Unified}
use Rattle.unified_form.specs.Hunks.{begins_hunk}
use Rattle.read_patch_text.proofs.ChangeLemmas.{not-end}
use Rattle.read_patch_text.proofs.EndsLemmas.{hunks-are}
use Rattle.read_patch_text.proofs.change.unified_at.Goals as goal

pub returns-clause-is : goal.returns-clause-is
returns-clause-is c =
    let text = c.args.text.now in
    let h = c.in_ok-hunks.hunks in
    let given = c.in_ok-hunks.ensures in
    let found = given.found in
    rw c.of_hunks.ensures (hunks-are text Unified c.args.at c.args.line h found.own given.sound given.turn given.whole given.pieces given.within found.parts found.counted found (not-end text begins_hunk c.args.at h.end c.requires.opens found.ends.0))

pub read_hunks-requires-clause-short : goal.read_hunks-requires-clause-short
read_hunks-requires-clause-short c = c.requires.short

pub read_hunks-requires-clause-within : goal.read_hunks-requires-clause-within
read_hunks-requires-clause-within c = c.requires.within

pub read_hunks-requires-clause-small : goal.read_hunks-requires-clause-small
read_hunks-requires-clause-small c = c.requires.small

pub read_hunks-requires-clause-opens : goal.read_hunks-requires-clause-opens
read_hunks-requires-clause-opens c = c.requires.opens
