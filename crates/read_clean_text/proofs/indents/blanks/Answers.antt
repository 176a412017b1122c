use Rattle.std.proofs.Common.{[], ◌∷◌, ◌∙◌, sym, ap, length, not}
use Rattle.std.specs.Prelude.{unwrap_or}
use Rattle.bstr.specs.Bytes.{not_in}
use Rattle.patch_header.specs.Values.{is_blank}
use Rattle.patch_header.proofs.Bytes.{is_first, unblank_test}
use Rattle.read_clean_text.proofs.indents.blanks.Goals as goal

pub returns-in-Some-clause-is : goal.returns-in-Some-clause-is
returns-in-Some-clause-is c =
    ap (λ r. unwrap_or r (length c.args.line.now)) (sym c.in-Some.is)
    ∙ is_first (not_in (32 ∷ 9 ∷ [])) (λ b. not (is_blank b)) c.args.line.now c.find_not_byteset.result unblank_test c.find_not_byteset.ensures

pub returns-in-None-clause-is : goal.returns-in-None-clause-is
returns-in-None-clause-is c =
    ap (λ r. unwrap_or r (length c.args.line.now)) (sym c.in-None.is)
    ∙ is_first (not_in (32 ∷ 9 ∷ [])) (λ b. not (is_blank b)) c.args.line.now c.find_not_byteset.result unblank_test c.find_not_byteset.ensures
