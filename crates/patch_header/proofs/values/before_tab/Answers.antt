use Rattle.std.proofs.Common.{sym, ap, length, ◌∙◌}
use Rattle.std.specs.Prelude.{unwrap_or}
use Rattle.bstr.specs.Find.{is_byte}
use Rattle.patch_header.proofs.Bytes.{is_position}
use Rattle.patch_header.proofs.values.before_tab.Goals as goal

pub returns-in-Some-clause-is : goal.returns-in-Some-clause-is
returns-in-Some-clause-is c =
    let bytes = c.args.bytes.now in
    ap (λ r. unwrap_or r (length bytes)) (sym c.in-Some.is ∙ is_position (is_byte 9) bytes c.find_byte.result c.find_byte.ensures)

pub returns-in-None-clause-is : goal.returns-in-None-clause-is
returns-in-None-clause-is c =
    let bytes = c.args.bytes.now in
    ap (λ r. unwrap_or r (length bytes)) (sym c.in-None.is ∙ is_position (is_byte 9) bytes c.find_byte.result c.find_byte.ensures)
