use Rattle.std.proofs.Common.{◌∙◌, arith}
use Rattle.patch_header.proofs.BareLemmas.{bare-is}
use Rattle.patch_header.proofs.bare.bare_of.Goals as goal

pub returns-clause-says : goal.returns-clause-says
returns-clause-says c = λ rs e.
    c.bare_header.ensures.says rs e
    ∙ bare-is c.args.text.now c.args.at c.args.end c.args.number rs c.tail_of-rest.result c.extended_from-block.result.lines c.requires.line c.tail_of-rest.ensures.is c.extended_from-block.ensures.said

pub returns-clause-pieces : goal.returns-clause-pieces
returns-clause-pieces c = c.bare_header.ensures.pieces

pub returns-clause-form : goal.returns-clause-form
returns-clause-form c = c.bare_header.ensures.form

pub returns-clause-bare : goal.returns-clause-bare
returns-clause-bare c = c.bare_header.ensures.bare

pub returns-clause-opening : goal.returns-clause-opening
returns-clause-opening c = c.bare_header.ensures.opening

pub returns-clause-at : goal.returns-clause-at
returns-clause-at c = c.bare_header.ensures.at

pub bare_header-requires-clause-short : goal.bare_header-requires-clause-short
bare_header-requires-clause-short c = c.requires.short

pub bare_header-requires-clause-rest : goal.bare_header-requires-clause-rest
bare_header-requires-clause-rest c = c.tail_of-rest.ensures.lies

pub bare_header-requires-clause-lines : goal.bare_header-requires-clause-lines
bare_header-requires-clause-lines c = c.extended_from-block.ensures.lies

pub bare_header-requires-clause-seen : goal.bare_header-requires-clause-seen
bare_header-requires-clause-seen c = c.requires.lies

pub extended_from-block-requires-clause-short : goal.extended_from-block-requires-clause-short
extended_from-block-requires-clause-short c = c.requires.short

pub extended_from-block-requires-clause-within : goal.extended_from-block-requires-clause-within
extended_from-block-requires-clause-within c = c.requires.line.high

pub extended_from-block-requires-clause-small : goal.extended_from-block-requires-clause-small
extended_from-block-requires-clause-small c = omega (arith, c.requires.small, c.requires.line.low)

pub tail_of-rest-requires : goal.tail_of-rest-requires
tail_of-rest-requires c = c.requires.line
