use Rattle.std.proofs.Common.{◌≡◌, ℕ, ◌<◌, sym, arith, ap, subst, ◌∙◌, w64, w32, w16, w8, Some, refl}
use Rattle.std.proofs.lemmas.Int.{ints, to_z-of_z, to_z_pos}
use Rattle.std.specs.Prelude.{ℤ, pos, neg_ℤ}
use Rattle.std.specs.Int.{IsInRange}
use Rattle.jiff_core.specs.Calendar.{days_from_civil, days_in_month, IsBetween}
use Rattle.jiff.specs.Words.{epoch_day}
use Rattle.stamp.specs.Forms.{IsDay}
use Rattle.stamp.proofs.Parts.{day-read}
use mir.Val.{SFits, to_z, of_z}
use Rattle.stamp.proofs.Signed.{calendar-day, same-bounds}
use Rattle.stamp.proofs.day_from.Goals as goal

fits : (day from : ℤ) → IsBetween (neg_ℤ (pos 10000000)) (pos 10000000) day → from ≡ to_z w32 (of_z w32 day) → to_z w64 (of_z w64 from) ≡ day
fits day from b e =
    let small : SFits w32 day = omega (arith, ints) in
    let wide : SFits w64 day = omega (arith, ints) in
    let same : from ≡ day = e ∙ to_z-of_z w32 day small in
    rw same (to_z-of_z w64 day wide)

is-day : (year month day m d : ℕ) (y : ℤ) → 0 < year → year < 10000 → y ≡ pos year → m ≡ month → d ≡ day → IsInRange 1 12 m → IsInRange 1 (days_in_month y m) d → IsDay year month day
is-day year month day m d y some less ey em ed months days =
    record {
      years = (omega arith, omega arith);
      months = subst (λ n. IsInRange 1 12 n) em months;
      days = subst (λ n. IsInRange 1 (days_in_month (pos year) month) n) ed (subst (λ n. IsInRange 1 (days_in_month (pos year) n) d) em (subst (λ n. IsInRange 1 (days_in_month n m) d) ey days));
    }

same-day : (year month day m d : ℕ) (y : ℤ) → y ≡ pos year → m ≡ month → d ≡ day → days_from_civil y m d ≡ days_from_civil (pos year) month day
same-day year month day m d y ey em ed = rw (ey, em, ed) refl

year-same : (n : ℕ) → n < 10000 → to_z w16 n ≡ pos n
year-same n small = to_z_pos w16 n (omega (arith, small))

part-same : (n : ℕ) → n < 100 → to_z w8 n ≡ pos n
part-same n small = to_z_pos w8 n (omega (arith, small))

pos-same : (a b : ℕ) → pos a ≡ pos b → a ≡ b
pos-same a b e = cc

pub returns-in-Ok-clause-value : goal.returns-in-Ok-clause-value
returns-in-Ok-clause-value c =
    let v = c.in-Ok.ensures.value in
    let d = c.in-Ok.date in
    let b = c.to_unix_epoch_day.ensures in
    let some : 0 < c.args.year = omega arith in
    let year : d.year ≡ pos c.args.year = v.0 ∙ year-same c.args.year c.requires.years in
    let month : d.month ≡ c.args.month = pos-same d.month c.args.month (v.1 ∙ part-same c.args.month c.requires.months) in
    let day : d.day ≡ c.args.day = pos-same d.day c.args.day (v.2 ∙ part-same c.args.day c.requires.days) in
    let is : IsDay c.args.year c.args.month c.args.day = is-day c.args.year c.args.month c.args.day d.month d.day d.year some c.requires.years year month day d.month_in d.day_in in
    ap Some (fits c.to_unix_epoch_day.result c.from.result (calendar-day c.to_unix_epoch_day.result b.bound) c.from.ensures
    ∙ b.value ∙ ap epoch_day c.to_plain.ensures ∙ same-day c.args.year c.args.month c.args.day d.month d.day d.year year month day)
    ∙ sym (day-read c.args.year c.args.month c.args.day is)

pub returns-in-Ok-clause-bound : goal.returns-in-Ok-clause-bound
returns-in-Ok-clause-bound c =
    let day = c.to_unix_epoch_day.result in
    let known = calendar-day day c.to_unix_epoch_day.ensures.bound in
    same-bounds _ _ day _ (fits day c.from.result known c.from.ensures) known
