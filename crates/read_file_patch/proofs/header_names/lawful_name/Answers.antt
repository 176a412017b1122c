use Rattle.std.proofs.Common.{ap, sym, ◌∙◌, Err, Some, None, is_none, if◌then◌else◌}
use Rattle.outside.specs.Names.{normal_form}
use Rattle.read_file_patch.proofs.header_names.lawful_name.Goals as goal

pub returns-in-Err-Refused : goal.returns-in-Err-Refused
returns-in-Err-Refused c =
    let broken = (c.new.ensures.refused c.in-Err-Refused.field-0-0).0 (c.in-Err-Refused.is ∙ ap (λ e. Err e) c.in-Err-Refused.field-0-is) in
    ap (λ r. if is_none r then Some (normal_form c.args.text.now) else None) (sym broken)
