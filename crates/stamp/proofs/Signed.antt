-- Days, seconds and offsets that fit 64 bits.
use Rattle.std.proofs.Common.{◌≡◌, ℕ, ◌*◌, ◌+◌, ◌<◌, ◌≤◌, sym, subst, ◌∙◌, arith, w64}
use Rattle.std.specs.Prelude.{ℤ, pos, neg_ℤ, ◌+ℤ◌, ◌-ℤ◌, ◌*ℤ◌}
use Rattle.std.proofs.lemmas.Int.{ints, to_z-of_z}
use Rattle.jiff_core.specs.Calendar.{IsBetween}
use mir.Val.{SFits, to_z, of_z}

pub seconds-fit : (z : ℤ) → IsBetween (neg_ℤ (pos 2000000000000)) (pos 2000000000000) z → SFits w64 z
seconds-fit z b = omega (arith, ints)

pub stays : (z : ℤ) → IsBetween (neg_ℤ (pos 2000000000000)) (pos 2000000000000) z → to_z w64 (of_z w64 z) ≡ z
stays z b = to_z-of_z w64 z (seconds-fit z b)

pub wide-day : (z : ℤ) → IsBetween (neg_ℤ (pos 10000000)) (pos 10000000) z → IsBetween (neg_ℤ (pos 2000000000000)) (pos 2000000000000) z
wide-day z b = (omega (arith, ints), omega (arith, ints))

wide-seconds : (z : ℤ) → IsBetween (neg_ℤ (pos 1000000000000)) (pos 1000000000000) z → IsBetween (neg_ℤ (pos 2000000000000)) (pos 2000000000000) z
wide-seconds z b = (omega (arith, ints), omega (arith, ints))

-- what was passed on is the same
pub same-bounds : (low high z y : ℤ) → y ≡ z → IsBetween low high z → IsBetween low high y
same-bounds low high z y e b = subst (IsBetween low high) (sym e) b

pub day-bounds : (z : ℤ) → IsBetween (neg_ℤ (pos 10000000)) (pos 10000000) z → IsBetween (neg_ℤ (pos 10000000)) (pos 10000000) (to_z w64 (of_z w64 z))
day-bounds z b = same-bounds _ _ z (to_z w64 (of_z w64 z)) (stays z (wide-day z b)) b

-- the days that the calendar counts
pub calendar-day : (z : ℤ) → IsBetween (neg_ℤ (pos 4371587)) (pos 2932896) z → IsBetween (neg_ℤ (pos 10000000)) (pos 10000000) z
calendar-day z b = (omega (arith, ints), omega (arith, ints))

-- seconds by a day and a clock
module _ (day : ℤ) (clock : ℕ) (days : IsBetween (neg_ℤ (pos 10000000)) (pos 10000000) day) (clocks : clock < 86400) where
  whole-bounds : IsBetween (neg_ℤ (pos 2000000000000)) (pos 2000000000000) (day *ℤ pos 86_400)
  whole-bounds = (omega (arith, ints), omega (arith, ints))

  clock-bounds : IsBetween (neg_ℤ (pos 2000000000000)) (pos 2000000000000) (pos clock)
  clock-bounds = (omega (arith, ints), omega (arith, ints))

  pub sum-bounds : IsBetween (neg_ℤ (pos 1000000000000)) (pos 1000000000000) (day *ℤ pos 86_400 +ℤ pos clock)
  sum-bounds = (omega (arith, ints), omega (arith, ints))

  pub days-fit : SFits w64 (to_z w64 (of_z w64 day) *ℤ pos 86_400)
  days-fit = rw (stays day (wide-day day days)) (seconds-fit (day *ℤ pos 86_400) whole-bounds)

  pub sum-fits : (from : ℤ) → from ≡ pos clock → SFits w64 (to_z w64 (of_z w64 (to_z w64 (of_z w64 day) *ℤ pos 86_400)) +ℤ to_z w64 (of_z w64 from))
  sum-fits from e =
      rw (e, stays day (wide-day day days), stays (day *ℤ pos 86_400) whole-bounds, stays (pos clock) clock-bounds)
      (seconds-fit (day *ℤ pos 86_400 +ℤ pos clock) (wide-seconds _ sum-bounds))

  pub sum-stays : (from : ℤ) → from ≡ pos clock
      → to_z w64 (of_z w64 (to_z w64 (of_z w64 (to_z w64 (of_z w64 day) *ℤ pos 86_400)) +ℤ to_z w64 (of_z w64 from))) ≡ day *ℤ pos 86_400 +ℤ pos clock
  sum-stays from e =
      rw (e, stays day (wide-day day days), stays (day *ℤ pos 86_400) whole-bounds, stays (pos clock) clock-bounds)
      (stays (day *ℤ pos 86_400 +ℤ pos clock) (wide-seconds _ sum-bounds))

-- an offset to the east and to the west
module _ (hours minutes : ℕ) (h : hours ≤ 23) (m : minutes ≤ 59) (z : ℤ) (e : z ≡ pos (hours * 3600 + minutes * 60)) where
  east : IsBetween (neg_ℤ (pos 86400)) (pos 86400) z
  east = rw e (omega (arith, ints), omega (arith, ints))

  wide-east : IsBetween (neg_ℤ (pos 2000000000000)) (pos 2000000000000) z
  wide-east = rw e (omega (arith, ints), omega (arith, ints))

  west : IsBetween (neg_ℤ (pos 86400)) (pos 86400) (pos 0 -ℤ z)
  west = rw e (omega (arith, ints), omega (arith, ints))

  wide-west : IsBetween (neg_ℤ (pos 2000000000000)) (pos 2000000000000) (pos 0 -ℤ z)
  wide-west = rw e (omega (arith, ints), omega (arith, ints))

  pub east-stays : to_z w64 (of_z w64 z) ≡ pos (hours * 3600 + minutes * 60)
  east-stays = stays z wide-east ∙ e

  pub east-bounds : IsBetween (neg_ℤ (pos 86400)) (pos 86400) (to_z w64 (of_z w64 z))
  east-bounds = same-bounds _ _ z (to_z w64 (of_z w64 z)) (stays z wide-east) east

  pub west-bounds : IsBetween (neg_ℤ (pos 86400)) (pos 86400) (to_z w64 (of_z w64 (pos 0 -ℤ to_z w64 (of_z w64 z))))
  west-bounds = rw (stays z wide-east) (same-bounds _ _ (pos 0 -ℤ z) (to_z w64 (of_z w64 (pos 0 -ℤ z))) (stays (pos 0 -ℤ z) wide-west) west)
