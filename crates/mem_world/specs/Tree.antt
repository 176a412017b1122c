-- What a tree in memory tells, and what its calls do.
use Rattle.std.specs.Prelude.{◌≡◌, ◌≢◌, ◌↔◌, ◌⊎◌, ◌++◌, ℕ, List, [], Some, true, false, min, ◌+◌, ◌-◌, ◌^◌, Result, IsOk, IsErr, OnOk, OnErr}
use Rattle.std.specs.FinMap.{insert, remove}
use Rattle.std.specs.List.{Contains}
use Rattle.outside.specs.Faults.{HasRisen}
use Rattle.outside.specs.Files.{Files, is_temp, bytes_at, moved}
use Rattle.outside.specs.TreeView.{TreeView, MayLeave, IsCall}
use Rattle.outside.specs.Calls.{Becomes, Spoils, SealsStay, LeavesNoMore, IsUntouched}
use Rattle.outside.specs.Quiet.{IsQuietAt, QuietStays, LeavesEitherAt, IsFixed}
use Rattle.mem_world.specs.declared.tree.MemTree.{MemTree}
use Rattle.mem_world.specs.Count.{Raises}
use Rattle.mem_world.specs.Device.{Device, began_at, ended_at}
use Rattle.mem_world.specs.Disk.{Event, Note, Logs, view_of}
use Rattle.mem_world.specs.Log.{notes, Keeps}

-- what it tells of its files
abbrev pub tells : MemTree → TreeView
tells t = view_of (notes t.store.log.items) t.count.faults

abbrev pub device_of : List ℕ → ℕ → ℕ → List Note → Device
device_of failing calls starved ns = record { failing = failing; calls = calls; starved = starved; began = began_at ns; ended = ended_at ns }

-- and of its device calls
abbrev pub device : MemTree → Device
device t = device_of t.count.failing.items t.store.calls t.count.starved (notes t.store.log.items)

-- a device call came in, and failed where it is listed
pub record Begins {R E : Type 0} (old new : MemTree) (result : Result R E) : Type 0 where
  pub log : notes new.store.log.items ≡ notes old.store.log.items
  pub calls : new.store.calls ≡ min (old.store.calls + 1) (2 ^ 32 - 1)
  pub failing : new.count.failing.items ≡ old.count.failing.items
  pub starved : new.count.starved ≡ old.count.starved
  pub listed : IsErr result ↔ Contains old.count.failing.items new.store.calls
  pub ok : OnOk result (new.count.faults ≡ old.count.faults)
  pub err : OnErr result (Raises old.count.faults new.count.faults)

-- it ended, and failed where memory couldn't grow
pub record Ends {R E A : Type 0} (old new : MemTree) (made : Result R A) (result : Result R E) : Type 0 where
  pub log : notes new.store.log.items ≡ notes old.store.log.items
  pub calls : new.store.calls ≡ old.store.calls
  pub failing : new.count.failing.items ≡ old.count.failing.items
  pub ok : IsOk made → IsOk result × new.count.starved ≡ old.count.starved × new.count.faults ≡ old.count.faults
  pub err : IsErr made → IsErr result × Raises old.count.starved new.count.starved × Raises old.count.faults new.count.faults

-- ---- what is kept of a call, by which a stop within it is told
-- this event of a call that was made, and nothing of one that failed; no fault is counted where there was none
pub record IsKept {R E : Type 0} (old new : MemTree) (event : Event) (result : Result R E) : Type 0 where
  pub log : Keeps (notes old.store.log.items) (notes new.store.log.items) new.store.calls event result
  pub faults : OnOk result (new.count.faults ≡ old.count.faults)

-- one that failed may have taken place on the disk, and is kept as such, unless memory couldn't grow
pub record IsKeptOrHalf {R E : Type 0} (old new : MemTree) (event half : Event) (result : Result R E) : Type 0 where
  pub ok : OnOk result (Logs (notes old.store.log.items) (notes new.store.log.items) new.store.calls event)
  pub err : OnErr result (Logs (notes old.store.log.items) (notes new.store.log.items) new.store.calls half
      ⊎ ((notes new.store.log.items ≡ notes old.store.log.items) × HasRisen old.count.starved new.count.starved))
  pub faults : OnOk result (new.count.faults ≡ old.count.faults)

-- nothing of a call that reads
pub record IsUnkept {R E : Type 0} (old new : MemTree) (result : Result R E) : Type 0 where
  pub log : notes new.store.log.items ≡ notes old.store.log.items
  pub faults : OnOk result (new.count.faults ≡ old.count.faults)

-- ---- the clauses of the calls of a tree, each as one fact
pub record Settles {R E : Type 0} (old new : TreeView) (result : Result R E) : Type 0 where
  pub call : IsCall old new result
  pub same : new.told ≡ old.told
  pub seals : (q : List ℕ) → old.is_sealed q ≡ true → new.is_sealed q ≡ true
  pub crash : LeavesNoMore old new
  pub sealed : OnOk result ((q : List ℕ) → new.is_sealed q ≡ true)
  pub settled : OnOk result ((f c : Files) → new.told ≡ Some f → MayLeave new c → c ≡ f)

-- a call that reads
pub record Reads {R E : Type 0} (old new : TreeView) (result : Result R E) : Type 0 where
  pub call : IsCall old new result
  pub untouched : IsUntouched old new

pub record Starts {R E : Type 0} (old new : TreeView) (temp : List ℕ) (result : Result R E) : Type 0 where
  pub call : IsCall old new result
  pub ok : OnOk result (Becomes old new (λ f. insert f temp []))
  pub err : OnErr result (Spoils old new temp)
  pub seals : SealsStay old new temp
  pub quiet : QuietStays old new temp

pub record Appends {R E : Type 0} (old new : TreeView) (temp piece : List ℕ) (result : Result R E) : Type 0 where
  pub call : IsCall old new result
  pub ok : OnOk result (Becomes old new (λ f. insert f temp (bytes_at f temp ++ piece)))
  pub err : OnErr result (Spoils old new temp)
  pub seals : SealsStay old new temp
  pub quiet : QuietStays old new temp

pub record Seals {R E : Type 0} (old new : TreeView) (temp : List ℕ) (result : Result R E) : Type 0 where
  pub call : IsCall old new result
  pub ok : OnOk result (Becomes old new (λ f. f))
  pub sealed : OnOk result (new.is_sealed temp ≡ true)
  pub err : OnErr result (Spoils old new temp)
  pub seals : SealsStay old new temp
  pub quiet : QuietStays old new temp

pub record Swaps {R E : Type 0} (old new : TreeView) (temp to : List ℕ) (result : Result R E) : Type 0 where
  pub call : IsCall old new result
  pub ok : OnOk result (Becomes old new (λ f. moved f temp to))
  pub sealed : OnOk result (old.is_sealed temp ≡ true → new.is_sealed to ≡ true)
  pub gone : OnOk result (new.is_sealed temp ≡ true)
  pub err : OnErr result (Spoils old new temp)
  pub seals : (q : List ℕ) → q ≢ to → q ≢ temp → old.is_sealed q ≡ true → new.is_sealed q ≡ true
  pub seal : OnErr result (old.is_sealed to ≡ true → new.is_sealed to ≡ true)
  pub quiet : (q : List ℕ) → q ≢ to → q ≢ temp → IsQuietAt old q → IsQuietAt new q
  pub crash : old.is_sealed temp ≡ true → LeavesEitherAt old new to (λ f. moved f temp to)

pub record Drops {R E : Type 0} (old new : TreeView) (name : List ℕ) (result : Result R E) : Type 0 where
  pub call : IsCall old new result
  pub ok : OnOk result (Becomes old new (λ f. remove f name))
  pub sealed : OnOk result (new.is_sealed name ≡ true)
  pub err : OnErr result (Spoils old new name)
  pub seals : SealsStay old new name
  pub seal : OnErr result (is_temp name ≡ false → old.is_sealed name ≡ true → new.is_sealed name ≡ true)
  pub quiet : QuietStays old new name
  pub crash : LeavesEitherAt old new name (λ f. remove f name)

pub record Fixes {R E : Type 0} (old new : TreeView) (result : Result R E) : Type 0 where
  pub call : IsCall old new result
  pub same : new.told ≡ old.told
  pub seals : (q : List ℕ) → old.is_sealed q ≡ true → new.is_sealed q ≡ true
  pub crash : LeavesNoMore old new
  pub fixed : OnOk result (IsFixed new)
