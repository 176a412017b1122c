use Rattle.std.proofs.Common.{drop, refl, sym, ◌∙◌}
use Rattle.num_text.specs.Numbers.{number_at}
use Rattle.series_stack.proofs.Fronts.{number-value, number-none, number-large}
use Rattle.series_stack.proofs.text.first_number.Goals as goal

pub returns-in-Value : goal.returns-in-Value
returns-in-Value c =
    let at = c.in-Value.ensures in
    c.in_digits.ensures ∙ sym (number-value c.args.text.now c.in-Value.value (drop c.in-Value.end c.args.text.now) at.number at.fits)

pub returns-in-NoDigit : goal.returns-in-NoDigit
returns-in-NoDigit c = sym (number-none c.args.text.now c.in-NoDigit.ensures)

pub returns-in-TooLarge : goal.returns-in-TooLarge
returns-in-TooLarge c = sym (number-large c.args.text.now (number_at c.args.text.now) refl c.in-TooLarge.ensures)
