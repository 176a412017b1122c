-- The count of a device's faults, a u64 that stays at its greatest value.
use Rattle.std.specs.Prelude.{ℕ, ◌+◌, ◌^◌, ◌<◌}

-- the count rose, or stands at its greatest value
abbrev pub HasRisen : ℕ → ℕ → Type 0
HasRisen old new = new + 1 < 2 ^ 64 → old < new
