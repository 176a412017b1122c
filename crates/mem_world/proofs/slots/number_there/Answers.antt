use Rattle.std.proofs.Common.{None, Some, not, ap, ◌∙◌}
use Rattle.std.specs.Option.{option_copied}
use Rattle.mem_world.proofs.There.{copied_some}
use Rattle.mem_world.proofs.Numbers.{number_none, number_some, number_other, of_texts}
use Rattle.mem_world.proofs.slots.number_there.Goals as goal

pub returns-in-Some : goal.returns-in-Some
returns-in-Some c =
    let there = copied_some c.find.result ∙ c.is_none.ensures ∙ ap not c.if-is_none.false in
    let number = of_texts (Some c.in-Some.number) c.args.name.now c.args.file.now _ _ (c.as_bytes.ensures.value ∙ c.text.ensures.text) (c.as_bytes-2.ensures.value ∙ c.text-2.ensures.text) c.in-Some.ensures in
    number_some c.args.files.now c.args.name.now c.args.file.now (option_copied c.find.result) c.in-Some.number c.find.ensures there number

pub returns-in-None : goal.returns-in-None
returns-in-None c =
    let number = of_texts None c.args.name.now c.args.file.now _ _ (c.as_bytes.ensures.value ∙ c.text.ensures.text) (c.as_bytes-2.ensures.value ∙ c.text-2.ensures.text) c.in-None.ensures in
    number_other c.args.files.now c.args.name.now c.args.file.now number

pub returns-then-is_none : goal.returns-then-is_none
returns-then-is_none c =
    number_none c.args.files.now c.args.name.now c.args.file.now (option_copied c.find.result) c.find.ensures (copied_some c.find.result ∙ c.is_none.ensures ∙ ap not c.if-is_none.true)
