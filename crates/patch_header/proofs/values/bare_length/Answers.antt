use Rattle.std.proofs.Common.{◌∙◌, None, sym, ap, subst, length}
use Rattle.std.specs.Prelude.{unwrap_or}
use Rattle.bstr.specs.Find.{IsFirstByte, is_byte}
use Rattle.patch_header.proofs.Bytes.{is_bare_length, is_tab_first}
use Rattle.patch_header.proofs.values.bare_length.Goals as goal

pub returns-in-Some-clause-is : goal.returns-in-Some-clause-is
returns-in-Some-clause-is c = is_tab_first c.args.bytes.now c.in-Some.tab (subst (IsFirstByte (is_byte 9) c.args.bytes.now) c.in-Some.is c.find_byte.ensures)

pub returns-in-Some-find_byte-clause-is : goal.returns-in-Some-find_byte-clause-is
returns-in-Some-find_byte-clause-is c =
    ap (λ r. unwrap_or r (length c.args.bytes.now)) (sym c.in-Some-find_byte.is)
    ∙ is_bare_length c.args.bytes.now None c.find_byte-2.result (subst (IsFirstByte (is_byte 9) c.args.bytes.now) c.in_default.is c.find_byte.ensures) c.find_byte-2.ensures

pub returns-in-None-clause-is : goal.returns-in-None-clause-is
returns-in-None-clause-is c =
    ap (λ r. unwrap_or r (length c.args.bytes.now)) (sym c.in-None.is)
    ∙ is_bare_length c.args.bytes.now None c.find_byte-2.result (subst (IsFirstByte (is_byte 9) c.args.bytes.now) c.in_default.is c.find_byte.ensures) c.find_byte-2.ensures
