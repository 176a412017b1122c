-- What a plan that holds the whole file is seen as.
use Rattle.std.specs.Prelude.{ℕ, List, [], length, Some, true}
use Rattle.line_list.specs.Lines.{lines}
use Rattle.line_store.specs.Store.{Seen}
use Rattle.line_store.specs.Halves.{half_of}
use Rattle.line_store.specs.declared.halves.Halves.{Halves}
use Rattle.plan_a.specs.declared.PlanA.{PlanA}

-- a store in memory that stands for the lines of a text
abbrev pub seen_with : ℕ → List ℕ → Halves → Seen
seen_with size text halves = record { told = Some (lines text); count = length (lines text); held = half_of halves; faults = 0; scratch = Some []; size = size; needs_memory = true }

abbrev pub plan_seen : PlanA → Seen
plan_seen p = seen_with p.buffer p.text.bytes.items p.halves
