use Rattle.std.proofs.Common.{sym, ◌∙◌}
use Rattle.bstr.specs.Find.{is_byte}
use Rattle.patch_header.proofs.Bytes.{is_position}
use Rattle.patch_header.proofs.BareLemmas.{alike-none, alike-other}
use Rattle.patch_header.proofs.git_names.equals_without.Goals as goal

pub returns-in-None : goal.returns-in-None
returns-in-None c = c.eq.ensures ∙ sym (alike-none c.args.old.now c.args.new.now c.requires (sym (is_position (is_byte 47) c.args.new.now c.find_byte.result c.find_byte.ensures) ∙ c.in-None.is))

pub returns-in-Some : goal.returns-in-Some
returns-in-Some c = sym (alike-other c.args.old.now c.args.new.now c.in-Some.field-0 c.requires (sym (is_position (is_byte 47) c.args.new.now c.find_byte.result c.find_byte.ensures) ∙ c.in-Some.is))
