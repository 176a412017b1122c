use Rattle.std.proofs.Common.{◌∙◌, sym}
use Rattle.std.proofs.lemmas.Slice.Eq.{slice_eq-Decides}
use Rattle.std.proofs.lemmas.Bool.Decides.{Decides-eqb}
use Rattle.numbered_name.proofs.is_decimal.Goals as goal

pub returns : goal.returns
returns c =
    let same = slice_eq-Decides Decides-eqb _ _ _ c.eq.ensures in
    let digits = c.put_number-count.ensures.digits in
    (λ is. same.0 is ∙ digits, λ is. same.1 (is ∙ sym digits))
