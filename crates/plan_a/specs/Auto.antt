-- A plan of two, one of which stands for the file.
use Rattle.std.specs.Prelude.{◌≡◌, ◌&&◌, ◌-◌, ℕ, List, length, min, nat_lt, nat_le, is_none, Bool, true, false, if◌then◌else◌}
use Rattle.std.proofs.Common.{arith, ap}
use Rattle.line_list.specs.Lines.{lines}
use Rattle.line_store.specs.Store.{Seen, IsCounted}
use Rattle.line_store.specs.Taking.{refusal}
use Rattle.line_store.specs.declared.fault.OpenFault.{OpenFault}
use Rattle.line_store.specs.declared.fault.OpenFault.TheVariants.{Tree, Scratch, LongLine, FileTooLong, Disagree, Memory}
use Rattle.plan_a.specs.PlanSeen.{plan_seen}
use Rattle.plan_a.specs.declared.PlanA.{PlanA}

-- the size of the big plan's pages: that of the buffer, and 1,048,576 at most
abbrev pub page_size : ℕ → ℕ
page_size size = min size 1048576

-- the big plan takes a file: it is above 16 MiB, and no line of it is too long for a page
abbrev pub goes_to_pages : ℕ → List ℕ → Bool
goes_to_pages size file = nat_lt 16777216 (length file) && is_none (refusal (page_size size) file)

-- a fault is that of a line that a buffer of this size admits
abbrev pub is_within : ℕ → OpenFault → Bool
is_within size Tree = false
is_within size Scratch = false
is_within size (LongLine line length) = nat_le length (size - 4)
is_within size (FileTooLong length) = false
is_within size (Disagree want got) = false
is_within size Memory = false

-- the lines are those of the plan that has them, the scratch and its faults the big one's; how long a line may be, the small one says
abbrev pub auto_seen : Bool → Seen → Seen → Seen
auto_seen is_big small big = record {
  told = if is_big then big.told else small.told;
  count = if is_big then big.count else small.count;
  held = if is_big then big.held else small.held;
  faults = big.faults;
  scratch = big.scratch;
  size = small.size;
  needs_memory = true;
}

pub auto_counted : {small big : Seen} (is_big : Bool) → IsCounted small → IsCounted big → IsCounted (auto_seen is_big small big)
auto_counted true s b = record { most = b.most; told = b.told }
auto_counted false s b = record { most = s.most; told = s.told }

-- a plan in memory has as many lines as it tells
pub small_counted : (p : PlanA) → IsCounted (plan_seen p)
small_counted p = record {
  most = omega (arith, p.text.cut.count, p.text.cut.few, p.text.short);
  told = λ ls is. let e : lines p.text.bytes.items ≡ ls = cc in ap length e;
}
