use Rattle.std.proofs.Common.{◌∙◌, ap}
use Rattle.patch_header.specs.Said.{kept_if}
use Rattle.patch_header.proofs.git_trail.trail_passed.Goals as goal

pub returns-clause-is : goal.returns-clause-is
returns-clause-is c = λ i. record {
  header = c.header_passed.ensures.is i;
  old_name = (c.kept_if.ensures.is ∙ ap (λ v. kept_if v c.args.trail.header) c.starts.ensures) i;
  new_name = (c.kept_if-2.ensures.is ∙ ap (λ v. kept_if v c.args.trail.old_name) c.starts-2.ensures) i;
}

pub returns-clause-lies : goal.returns-clause-lies
returns-clause-lies c = record {
  header = c.header_passed.ensures.lies;
  old_name = c.kept_if.ensures.lies c.args.text.now c.requires.lies.header;
  new_name = c.kept_if-2.ensures.lies c.args.text.now c.requires.lies.old_name;
}

pub header_passed-requires-clause-lies : goal.header_passed-requires-clause-lies
header_passed-requires-clause-lies c = c.requires.lies.header

pub header_passed-requires-clause-line : goal.header_passed-requires-clause-line
header_passed-requires-clause-line c = c.requires.line
