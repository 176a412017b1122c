-- What a plan does when it takes a file.
use Rattle.std.specs.Prelude.{Bool, ◌≡◌, ◌≢◌, ℕ, ◌-◌, ◌^◌, ◌<◌, ◌≤◌, List, [], length, true, is_some, nat_lt, nat_le, if◌then◌else◌, Option, Some, None, find}
use Rattle.std.specs.List.{range_with_len}
use Rattle.std.specs.Option.{option_map}
use Rattle.line_list.specs.Lines.{lines}
use Rattle.outside.specs.Files.{Files, bytes_at}
use Rattle.outside.specs.TreeView as tree
use Rattle.line_store.specs.declared.Half.{Half}
use Rattle.line_store.specs.declared.fault.OpenFault.{OpenFault}
use Rattle.line_store.specs.declared.fault.OpenFault.TheVariants.{Tree, Scratch, LongLine, FileTooLong, Disagree, Memory}
use Rattle.line_store.specs.Store.{Seen, Rises, line_at}

-- the size of a page
abbrev pub IsSize : ℕ → Type 0
IsSize size = (512 ≤ size) × (size ≤ 1048576)

-- the size of a buffer, of which no page need be made: it says how long a line may be
abbrev pub IsBuffer : ℕ → Type 0
IsBuffer size = 512 ≤ size

-- a line that is longer than a buffer of this size admits
abbrev pub is_long : ℕ → List (List ℕ) → ℕ → Bool
is_long size ls k = nat_lt (size - 4) (length (line_at ls k))

-- the number of the first line that is longer than a buffer of this size admits
unfoldable pub first_long : ℕ → List (List ℕ) → Option ℕ
first_long size ls = find (λ k. nat_lt (size - 4) (length (line_at ls k))) (range_with_len 1 (length ls))

-- that line with its length
abbrev pub long_line : ℕ → List (List ℕ) → Option OpenFault
long_line size ls = option_map (λ k. LongLine k (length (line_at ls k))) (first_long size ls)

-- why a file is not taken: it is too long, or else has a line that is too long
abbrev pub refusal : ℕ → List ℕ → Option OpenFault
refusal size file = if nat_le (2 ^ 40) (length file) then Some (FileTooLong (length file)) else long_line size (lines file)

-- neither half holds a line
pub record IsReset (s : Seen) : Type 0 where
  pub halves : (h : Half) → s.held h ≡ None

-- the store stands for no lines
pub record IsEmpty (s : Seen) : Type 0 where
  pub told : s.told ≡ Some []
  pub count : s.count ≡ 0

-- what stays over every call of a plan; a scratch that tells its bytes goes on telling them, and no other begins to
pub record KeepsPlan (before after : Seen) : Type 0 where
  pub faults : before.faults ≤ after.faults
  pub telling : is_some after.scratch ≡ is_some before.scratch
  pub size : after.size ≡ before.size
  pub needs_memory : after.needs_memory ≡ before.needs_memory

-- the scratch is as it was, and did nothing
pub record KeepsScratch (before after : Seen) : Type 0 where
  pub faults : after.faults ≡ before.faults
  pub scratch : after.scratch ≡ before.scratch
  pub size : after.size ≡ before.size
  pub needs_memory : after.needs_memory ≡ before.needs_memory

-- the plan took this file
pub record Takes (before after : Seen) (file : List ℕ) : Type 0 where
  pub admitted : refusal before.size file ≡ None
  pub count : after.count ≡ length (lines file)
  pub told : is_some before.scratch ≡ true → after.told ≡ Some (lines file)

-- it took the file of that name, where the tree tells it
abbrev pub TakesFile : Seen → Seen → tree.TreeView → List ℕ → Type 0
TakesFile before after t name = (f : Files) → t.told ≡ Some f → Takes before after (bytes_at f name)

-- the answer is the one that the file's bytes give, where the tree tells them
abbrev pub IsRefused : Seen → tree.TreeView → List ℕ → OpenFault → Type 0
IsRefused before t name e = (f : Files) → t.told ≡ Some f → refusal before.size (bytes_at f name) ≡ Some e

-- lines are measured before the scratch is written: where one is too long, the scratch is as it was
abbrev pub KeepsAtLong : OpenFault → Option (List ℕ) → Option (List ℕ) → Type 0
KeepsAtLong Tree before after = Unit {0}
KeepsAtLong Scratch before after = Unit {0}
KeepsAtLong (LongLine line length) before after = after ≡ before
KeepsAtLong (FileTooLong length) before after = Unit {0}
KeepsAtLong (Disagree want got) before after = Unit {0}
KeepsAtLong Memory before after = Unit {0}

-- what a fault says of the store and the tree before and after the call
abbrev pub HasOpenCause : OpenFault → Seen → Seen → tree.TreeView → tree.TreeView → List ℕ → Type 0
HasOpenCause Tree before after t u name = tree.Rises t u
HasOpenCause Scratch before after t u name = Rises before after
HasOpenCause (LongLine line length) before after t u name = (before.size - 4 < length) × IsRefused before t name (LongLine line length)
HasOpenCause (FileTooLong length) before after t u name = (2 ^ 40 ≤ length) × IsRefused before t name (FileTooLong length)
HasOpenCause (Disagree want got) before after t u name = (want ≢ got) × (is_some before.scratch ≡ true → t.told ≡ None)
HasOpenCause Memory before after t u name = before.needs_memory ≡ true
