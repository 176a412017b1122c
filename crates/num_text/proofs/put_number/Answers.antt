use Rattle.std.proofs.Common.{◌≡◌, ℕ, List, ◌<◌, ◌^◌, ◌++◌, length, take, drop, refl, ap, ◌∙◌, arith}
use Rattle.std.proofs.lemmas.List.{take-append-le, take_all, drop-append-le, drop_all}
use Rattle.num_text.specs.Numbers.{decimal}
use Rattle.num_text.proofs.Decimal.{decimal-numeral, written-decimal, length-decimal}
use Rattle.num_text.proofs.put_number.Goals as goal

pub returns-clause-count : goal.returns-clause-count
returns-clause-count c =
    ap length c.as_bytes-digits.ensures.value ∙ ap length c.format.ensures.text ∙ ap length (written-decimal c.args.value c.ranges.value.fits)

pub returns-clause-few : goal.returns-clause-few
returns-clause-few c =
    let small : c.args.value < 2 ^ 64 = c.ranges.value.fits in
    let count : length c.as_bytes-digits.result.now ≡ length (decimal c.args.value) = ap length c.as_bytes-digits.ensures.value ∙ ap length c.format.ensures.text ∙ ap length (written-decimal c.args.value small) in
    let some : 0 < length (decimal c.args.value) = (decimal-numeral c.args.value).some in
    (omega arith, omega (arith, length-decimal 20 c.args.value (omega arith) (omega arith)))

front : (ds other rest : List ℕ) → ds ≡ other → take (length other) (ds ++ rest) ≡ ds
front ds other rest e = rw (← e, take-append-le (length ds) ds rest (omega arith)) (take_all (length ds) ds (omega arith))

pub returns-clause-digits : goal.returns-clause-digits
returns-clause-digits c =
    front c.copy_from_slice.new.self c.as_bytes-digits.result.now _ c.copy_from_slice.ensures.after
    ∙ c.copy_from_slice.ensures.after ∙ c.as_bytes-digits.ensures.value ∙ c.format.ensures.text ∙ written-decimal c.args.value c.ranges.value.fits

behind : (ds other rest : List ℕ) → ds ≡ other → drop (length other) (ds ++ rest) ≡ rest
behind ds other rest e = rw (← e, drop-append-le (length ds) ds rest (omega arith), drop_all (length ds) ds (omega arith)) refl

pub returns-clause-rest : goal.returns-clause-rest
returns-clause-rest c = behind c.copy_from_slice.new.self c.as_bytes-digits.result.now _ c.copy_from_slice.ensures.after
