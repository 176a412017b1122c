use Rattle.read_patch_text.proofs.Passed.{fails-on, fault-given}
use Rattle.read_patch_text.specs.Outlines.{outlined_change}
use Rattle.read_patch_text.proofs.outline.outline_whole.Goals as goal

pub returns-clause-is : goal.returns-clause-is
returns-clause-is c =
    let is = c.in_ok-read.ensures.is in
    record {
      lawful = c.only_hunk.ensures.lawful c.args.text.now is.lawful;
      some = is.some;
      high = is.high;
      numbers = is.numbers;
      dots = is.dots;
    }

pub returns-in_err-read-clause-exact : goal.returns-in_err-read-clause-exact
returns-in_err-read-clause-exact c = fault-given _ c.in_err-read.field-0.0 c.from_residual.result _ c.from_residual.ensures.1 (fails-on c.in_err-read.field-0.0 _ outlined_change c.in_err-read.ensures.exact)

pub read_behind-requires-clause-within : goal.read_behind-requires-clause-within
read_behind-requires-clause-within c = c.requires.within

pub read_behind-requires-clause-small : goal.read_behind-requires-clause-small
read_behind-requires-clause-small c = c.requires.small

pub read_behind-requires-clause-opens : goal.read_behind-requires-clause-opens
read_behind-requires-clause-opens c = c.requires.opens

pub read_behind-requires-clause-short : goal.read_behind-requires-clause-short
read_behind-requires-clause-short c = c.requires.short
