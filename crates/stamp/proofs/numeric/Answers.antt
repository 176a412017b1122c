use Rattle.std.proofs.Common.{◌≡◌, ℕ, List, eqb, refl, ◌-◌, length, take, drop, Some, sym, arith, ap, ◌∙◌, w64}
use Rattle.std.specs.Prelude.{ℤ, ◌-ℤ◌, ◌+ℤ◌, ◌*ℤ◌, pos, neg_ℤ}
use Rattle.std.proofs.lemmas.Int.{ints, to_z-of_z}
use Rattle.std.proofs.lemmas.List.{take_rest}
use Rattle.jiff_core.specs.Calendar.{IsBetween}
use Rattle.stamp.proofs.Parts.{clock-long}
use Rattle.stamp.proofs.NumericLemmas.{numeric-of, numeric-no_zone, same-time}
use Rattle.stamp.specs.Reading.{zone_of, after_fraction, nanoseconds_in, time_by}
use Rattle.outside.specs.declared.time.Time.{Time}
use mir.Val.{SFits, to_z, of_z}
use Rattle.stamp.proofs.Signed.{day-bounds}
use Rattle.stamp.proofs.numeric.Goals as goal

pub fraction_end-requires : goal.fraction_end-requires
fraction_end-requires c = clock-long c.args.text.now c.in_ok-clock.clock (sym c.in_ok-clock.ensures.value)

-- the difference fits
fits : (start zone : ℤ) → IsBetween (neg_ℤ (pos 1000000000000)) (pos 1000000000000) start → IsBetween (neg_ℤ (pos 86400)) (pos 86400) zone
    → to_z w64 (of_z w64 (to_z w64 (of_z w64 start) -ℤ to_z w64 (of_z w64 zone))) ≡ start -ℤ zone
fits start zone a b =
    let s : SFits w64 start = omega (arith, ints) in
    let z : SFits w64 zone = omega (arith, ints) in
    let d : SFits w64 (start -ℤ zone) = omega (arith, ints) in
    rw (to_z-of_z w64 start s, to_z-of_z w64 zone z) (to_z-of_z w64 (start -ℤ zone) d)

same-day : (day : ℤ) (clock : ℕ) → IsBetween (neg_ℤ (pos 10000000)) (pos 10000000) day → to_z w64 (of_z w64 day) *ℤ pos 86_400 +ℤ pos clock ≡ day *ℤ pos 86_400 +ℤ pos clock
same-day day clock b = let f : SFits w64 day = omega (arith, ints) in rw (to_z-of_z w64 day f) refl

pub returns : goal.returns
returns c =
    let text : List ℕ = c.args.text.now in
    let rest : take (length text - c.fraction_end.result) (drop c.fraction_end.result text) ≡ after_fraction (drop 19 text) = take_rest text c.fraction_end.result ∙ c.fraction_end.ensures.rest in
    let zone : zone_of (after_fraction (drop 19 text)) ≡ Some c.in_ok-zone.zone = ap zone_of (sym rest) ∙ sym c.in_ok-zone.ensures.value in
    let start = c.seconds_from.ensures.value ∙ same-day c.in_ok-day.day c.in_ok-clock.clock c.in_ok-day.ensures.bound in
    let whole = numeric-of text c.in_ok-day.day c.in_ok-zone.zone c.seconds_from.result c.in_ok-clock.clock (sym c.in_ok-day.ensures.value) (sym c.in_ok-clock.ensures.value) zone start in
    let time : Time = time_by (after_fraction (drop 19 text)) (c.seconds_from.result -ℤ c.in_ok-zone.zone) (nanoseconds_in (drop 19 text)) in
    let seconds = fits c.seconds_from.result c.in_ok-zone.zone c.seconds_from.ensures.bound c.in_ok-zone.ensures.bound in
    let local = c.is_empty.ensures ∙ ap (λ r. eqb (length r) 0) rest in
    ap Some (same-time time _ _ _ seconds c.nanoseconds.ensures.value local) ∙ sym whole

pub seconds_from-requires-clause-clocks : goal.seconds_from-requires-clause-clocks
seconds_from-requires-clause-clocks c = c.in_ok-clock.ensures.bound

pub seconds_from-requires-clause-days : goal.seconds_from-requires-clause-days
seconds_from-requires-clause-days c = day-bounds c.in_ok-day.day c.in_ok-day.ensures.bound

pub returns-in_err-zone : goal.returns-in_err-zone
returns-in_err-zone c =
    let rest : take (length c.args.text.now - c.fraction_end.result) (drop c.fraction_end.result c.args.text.now) ≡ after_fraction (drop 19 c.args.text.now) = take_rest c.args.text.now c.fraction_end.result ∙ c.fraction_end.ensures.rest in
    c.from_residual-in_err-zone.ensures
    ∙ sym (numeric-no_zone c.args.text.now c.in_ok-day.day c.in_ok-clock.clock (sym c.in_ok-day.ensures.value) (sym c.in_ok-clock.ensures.value) (ap zone_of (sym rest) ∙ sym c.in_err-zone.ensures.value))
