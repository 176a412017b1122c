use Rattle.patch_header.proofs.ScanLemmas.{scan-push}
use Rattle.patch_header.proofs.bare.block_passed.Goals as goal

pub returns-clause-scanned : goal.returns-clause-scanned
returns-clause-scanned c = λ at number h. scan-push c.args.text.now at number c.args.here c.args.end c.with_line.result h c.requires.line c.requires.extended c.with_line.ensures.is c.with_line.ensures.lies
