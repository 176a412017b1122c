-- What the code knows while it cuts a text.
use Rattle.std.specs.Prelude.{◌≡◌, ℕ, Bool, ◌||◌, List, ◌∷◌, ◌++◌}
use Rattle.std.specs.BTreeSet.{BTreeSet, contains_by}
use Rattle.std.specs.Cmp.Lexicographic.{slice_cmp}
use Rattle.std.specs.Borrow.{Bor}
use Rattle.std.specs.Ordering.{nat_cmp}
use Rattle.line_list.specs.declared.Span.{Span}
use Rattle.read_file_patch.specs.Numbered.{is_among}
use Rattle.split_recount.specs.declared.parts.CurrentPart.{CurrentPart}
use Rattle.split_recount.specs.Parts.{cuts, between}

-- the set has these names, and no other
abbrev pub AreNames : List (List ℕ) → BTreeSet (Bor (List ℕ)) → Type 0
AreNames names set = (q : List ℕ) → contains_by (λ k. slice_cmp nat_cmp q k.now) set ≡ is_among names q

-- a file patch with this name begins the part behind this one
abbrev pub begins : Bool → CurrentPart → List ℕ → Bool
begins every part name = every || contains_by (λ k. slice_cmp nat_cmp name k.now) part.names

-- the parts that are done, and those from the current one on in front of these file patches, are all
pub record Ahead (every : Bool) (end : ℕ) (all : List Span) (rows : List (ℕ × List ℕ)) (part : CurrentPart) (done : List Span) : Type 0 where
  pub names : List (List ℕ)
  pub has : AreNames names part.names
  pub both : done ++ between part.start (cuts every names rows) end ≡ all

-- a file patch more: whatever follows, all stays the same
abbrev pub Goes : Bool → ℕ × List ℕ → CurrentPart → List Span → CurrentPart → List Span → Type 0
Goes every row part done next more = (end : ℕ) (all : List Span) (rows : List (ℕ × List ℕ)) → Ahead every end all (row ∷ rows) part done → Ahead every end all rows next more
