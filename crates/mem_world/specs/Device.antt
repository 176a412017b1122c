-- What a tree in memory counts of its device calls.
use Rattle.std.specs.Prelude.{◌≡◌, ◌⊎◌, ℕ, ◌+◌, ◌-◌, ◌^◌, ◌≤◌, ◌<◌, min, List, Bool, true, false, ◌&&◌, nat_lt, nat_eq, Result, IsErr, OnOk}
use Rattle.std.specs.List.{Contains, count_by}
use Rattle.outside.specs.Faults.{HasRisen}
use Rattle.mem_world.specs.Disk.{Event, Note}
use Rattle.mem_world.specs.Disk.Event.{Bound}

pub record Device : Type 0 where
  -- the numbers of the calls that fail, from 1
  pub failing : List ℕ
  -- how many calls were made, a u32 that stays at its greatest value
  pub calls : ℕ
  -- how often memory couldn't grow, a u64 that stays at its greatest value
  pub starved : ℕ
  -- the moment at which the call of a number came in
  pub began : ℕ → ℕ
  -- the moment at which it ended
  pub ended : ℕ → ℕ

-- a file that was bound is no device call
abbrev pub is_call : Event → Bool
is_call (Bound n bytes) = false
is_call _ = true

-- what was changed before that call
abbrev pub began_at : List Note → ℕ → ℕ
began_at ns n = count_by (λ (x : Note). nat_lt x.call n) ns

-- and by that call
abbrev pub ended_at : List Note → ℕ → ℕ
ended_at ns n = began_at ns n + count_by (λ (x : Note). nat_eq x.call n && is_call x.event) ns

-- one more device call, which failed where it is listed or memory couldn't grow
pub record IsDeviceCall {R E : Type 0} (old new : Device) (from to : ℕ) (result : Result R E) : Type 0 where
  pub failing : new.failing ≡ old.failing
  pub calls : new.calls ≡ min (old.calls + 1) (2 ^ 32 - 1)
  pub starved : old.starved ≤ new.starved
  pub fed : OnOk result (new.starved ≡ old.starved)
  pub listed : Contains old.failing new.calls → IsErr result
  pub cause : IsErr result → Contains old.failing new.calls ⊎ HasRisen old.starved new.starved
  pub began : old.calls < new.calls → new.began new.calls ≡ from
  pub ended : old.calls < new.calls → new.ended new.calls ≡ to
  pub past : (n : ℕ) → n < new.calls → (new.began n ≡ old.began n) × (new.ended n ≡ old.ended n)

-- one that reads, which fails exactly where it is listed
pub record IsReading {R E : Type 0} (old new : Device) (from to : ℕ) (result : Result R E) : Type 0 where
  pub call : IsDeviceCall old new from to result
  pub cause : IsErr result → Contains old.failing new.calls
  pub starved : new.starved ≡ old.starved

-- no call was made yet
pub record IsFresh (new : Device) (listed : List ℕ) : Type 0 where
  pub failing : new.failing ≡ listed
  pub calls : new.calls ≡ 0
  pub starved : new.starved ≡ 0

-- no device call, and those before stand as they did
pub record IsSetting (old new : Device) : Type 0 where
  pub failing : new.failing ≡ old.failing
  pub calls : new.calls ≡ old.calls
  pub starved : new.starved ≡ old.starved
  pub past : (n : ℕ) → n ≤ old.calls → (new.began n ≡ old.began n) × (new.ended n ≡ old.ended n)
