use Rattle.std.proofs.Common.{[], ◌∷◌, ◌∙◌, sym, ap, length}
use Rattle.std.specs.Prelude.{unwrap_or}
use Rattle.bstr.specs.Bytes.{is_in}
use Rattle.patch_header.specs.Values.{is_white}
use Rattle.patch_header.proofs.Bytes.{is_first, white_test}
use Rattle.patch_header.proofs.values.word_length.Goals as goal

pub returns-in-Some-clause-is : goal.returns-in-Some-clause-is
returns-in-Some-clause-is c =
    ap (λ r. unwrap_or r (length c.args.bytes.now)) (sym c.in-Some.is)
    ∙ is_first (is_in (32 ∷ 9 ∷ 10 ∷ 11 ∷ 12 ∷ 13 ∷ [])) is_white c.args.bytes.now c.find_byteset.result white_test c.find_byteset.ensures

pub returns-in-None-clause-is : goal.returns-in-None-clause-is
returns-in-None-clause-is c =
    ap (λ r. unwrap_or r (length c.args.bytes.now)) (sym c.in-None.is)
    ∙ is_first (is_in (32 ∷ 9 ∷ 10 ∷ 11 ∷ 12 ∷ 13 ∷ [])) is_white c.args.bytes.now c.find_byteset.result white_test c.find_byteset.ensures
