use Rattle.std.proofs.Common.{ℕ, List, Some, None, bytes_eq, not, ◌&&◌, if◌then◌else◌, refl, ◌∙◌, ap}
use Rattle.filter_whole_text.specs.PartNames.{is_unfit}
use Rattle.filter_whole_text.proofs.NameLoops.{usable-is, broken-is}
use Rattle.filter_whole_text.proofs.naming.usable.Goals as goal

pub returns-in-Ok : goal.returns-in-Ok
returns-in-Ok c =
    let text = c.args.text.now in
    c.same_name.ensures ∙ ap (λ (n : List ℕ). if bytes_eq n text && not (is_unfit n) then Some n else None) c.in-Ok.ensures.text ∙ usable-is text c.in-Ok.ensures.lawful

pub returns-in-Err-Refused : goal.returns-in-Err-Refused
returns-in-Err-Refused c = broken-is c.args.text.now c.in-Err-Refused.field-0-0 ((c.in-Err-Refused.ensures.refused c.in-Err-Refused.field-0-0).0 (rw (← c.in-Err-Refused.field-0-is) refl))
