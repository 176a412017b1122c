use Rattle.std.proofs.Common.{◌∙◌}
use Rattle.std.specs.List.{list_any}
use Rattle.read_file_patch.specs.PlainPatch.{header_of}
use Rattle.read_file_patch.specs.Targets.{is_reserved}
use Rattle.patch_options.specs.PlainJob.{plain_options}
use Rattle.patch_set.specs.Named.{targets_of}
use Rattle.patch_set.proofs.Refusing.{names-have, output-has}
use Rattle.patch_set.proofs.reserving.has_reserved.Goals as goal

pub returns : goal.returns
returns c = names-have (plain_options c.args.options.now) (header_of c.args.text.now c.args.header.now) c.args.by_output c.deref.result.now c.any_reserving.result
    c.if-by_output.false (c.deref.ensures.value ∙ c.in_ok-names.ensures.names) c.any_reserving.ensures

pub returns-then-by_output : goal.returns-then-by_output
returns-then-by_output c = λ known.
    output-has (list_any is_reserved (targets_of (plain_options c.args.options.now) known (header_of c.args.text.now c.args.header.now))) c.args.by_output c.if-by_output.true
