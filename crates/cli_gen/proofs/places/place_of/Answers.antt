use Rattle.std.proofs.Common.{◌<◌, ◌^◌, ◌++◌, List, ℕ, codes, sym, ap, subst, ◌∙◌, arith}
use Rattle.num_text.proofs.Decimal.{written-decimal}
use Rattle.outside.specs.Names.{IsEnding}
use Rattle.law_reading.proofs.Targets.{number_ending}
use Rattle.outside.proofs.Exits.{if_ok_none}
use Rattle.cli_gen.proofs.places.place_of.Goals as goal

pub followed_by-requires : goal.followed_by-requires
followed_by-requires c =
    let small : c.args.number < 2 ^ 64 = omega (arith, c.ranges.number.fits) in
    subst IsEnding (sym (c.as_str.ensures.value ∙ c.in_ok-digits.ensures.ok ∙ written-decimal c.args.number small)) (number_ending c.args.number)

pub returns : goal.returns
returns c =
    let small : c.args.number < 2 ^ 64 = omega (arith, c.ranges.number.fits) in
    let name = c.in_ok-name.ensures.text ∙ ap (λ (l : List ℕ). l ++ c.as_str.result.now) c.requires
    ∙ ap (λ (l : List ℕ). codes "gen/f" ++ l) (c.as_str.ensures.value ∙ c.in_ok-digits.ensures.ok ∙ written-decimal c.args.number small) in
    record { name = name; temp = c.in_ok-temp.ensures.text ∙ ap (λ (l : List ℕ). l ++ codes ".ptmp") name }

pub returns-in_err-temp : goal.returns-in_err-temp
returns-in_err-temp c = record {
  temp = if_ok_none _ _ c.from_residual-in_err-temp.result c.from_residual-in_err-temp.ensures.1;
  name = if_ok_none _ _ c.from_residual-in_err-temp.result c.from_residual-in_err-temp.ensures.1;
}

pub returns-in_err-name : goal.returns-in_err-name
returns-in_err-name c = record {
  temp = if_ok_none _ _ c.from_residual-in_err-name.result c.from_residual-in_err-name.ensures.1;
  name = if_ok_none _ _ c.from_residual-in_err-name.result c.from_residual-in_err-name.ensures.1;
}

pub returns-in_err-digits : goal.returns-in_err-digits
returns-in_err-digits c = record {
  temp = if_ok_none _ _ c.from_residual.result c.from_residual.ensures.1;
  name = if_ok_none _ _ c.from_residual.result c.from_residual.ensures.1;
}
