use Rattle.std.proofs.Common.{◌∙◌, [], sym}
use Rattle.patch_options.specs.Forms.{is_front}
use Rattle.patch_options.proofs.LongNames.{no_first, one_first, more_first}
use Rattle.patch_options.proofs.whole.sole_name.Goals as goal

pub returns-then-is_one_so : goal.returns-then-is_one_so
returns-then-is_one_so c = more_first (is_front c.args.text.now) c.args.names.now c.in-Some.first (record { ref_ptr = (0, 0); now = [] }) c.in-Some.ensures.place (sym c.is_one_so.ensures ∙ c.if-is_one_so.true)

pub returns-else-is_one_so : goal.returns-else-is_one_so
returns-else-is_one_so c = one_first (is_front c.args.text.now) c.args.names.now c.in-Some.first (record { ref_ptr = (0, 0); now = [] }) c.in-Some.ensures.place (sym c.is_one_so.ensures ∙ c.if-is_one_so.false)

pub returns-in-None : goal.returns-in-None
returns-in-None c = no_first (is_front c.args.text.now) c.args.names.now c.in-None.ensures.place
