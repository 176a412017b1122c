-- A device in memory: which of its calls fail, and how often it failed.
use Rattle.std.specs.Prelude.{◌≡◌, ℕ, ◌+◌, ◌-◌, ◌^◌, ◌==◌, min, Bool, true, false, Result, is_err, IsErr, OnOk}
use Rattle.std.specs.List.{list_any}
use Rattle.outside.specs.Faults.{HasRisen}
use Rattle.mem_world.specs.declared.device.Device.{Device}

-- the number of the next call, counted from 1, a u32 that stays at its greatest value
abbrev pub next_call : ℕ → ℕ
next_call calls = min (calls + 1) (2 ^ 32 - 1)

-- whether the next call is to fail
abbrev pub is_listed : Device → Bool
is_listed d = list_any (λ n. n == next_call d.calls) d.failing.items

-- one call was made
pub record Counts (old new : Device) : Type 0 where
  pub calls : new.calls ≡ next_call old.calls
  pub failing : new.failing.items ≡ old.failing.items

-- a call that needs no memory: it fails exactly where it is listed
pub record FailsWhereListed {R E : Type 0} (old new : Device) (result : Result R E) : Type 0 where
  pub counts : Counts old new
  pub exact : is_err result ≡ is_listed old
  pub starved : new.starved ≡ old.starved
  -- no fault is counted where there was none
  pub faults : OnOk result (new.faults ≡ old.faults)

-- any other call: it fails where it is listed, and else only where memory could not grow, which is counted
pub record FailsWhereListedOrStarved {R E : Type 0} (old new : Device) (result : Result R E) : Type 0 where
  pub counts : Counts old new
  pub listed : is_listed old ≡ true → IsErr result
  pub other : is_listed old ≡ false → IsErr result → HasRisen old.starved new.starved
  pub fed : OnOk result (new.starved ≡ old.starved)
  pub faults : OnOk result (new.faults ≡ old.faults)
