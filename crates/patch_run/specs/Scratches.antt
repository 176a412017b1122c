-- What a plan leaves in the scratch.
use Rattle.std.specs.Prelude.{ℕ, List, [], Bool, true, false, reverse, Option, None, Some, find}
use Rattle.line_list.specs.Lines.{lines}
use Rattle.patch_options.specs.PlainJob.{PlainOptions}
use Rattle.patch_options.specs.declared.options.PlanKind.{PlanKind}
use Rattle.patch_options.specs.declared.options.PlanKind.TheVariants.{Whole, Padded, Packed, Auto}
use Rattle.plan_a.specs.Auto.{page_size, goes_to_pages}
use Rattle.plan_b.specs.Pages.{pages}
use Rattle.packed_pages.specs.Packs.{packs}

-- the plan has a scratch
abbrev pub has_scratch : PlanKind → Bool
has_scratch Whole = false
has_scratch Padded = true
has_scratch Packed = true
has_scratch Auto = true

-- it keeps every file there, and wants no memory for a file
abbrev pub is_paged : PlanKind → Bool
is_paged Whole = false
is_paged Padded = true
is_paged Packed = true
is_paged Auto = false

-- a file of these bytes is kept there, where the buffer has this size
abbrev pub goes_there : PlanKind → ℕ → List ℕ → Bool
goes_there Whole size file = false
goes_there Padded size file = true
goes_there Packed size file = true
goes_there Auto size file = goes_to_pages size file

-- the bytes of its pages
abbrev pub pages_of : PlanKind → ℕ → List (List ℕ) → List ℕ
pages_of Whole size ls = []
pages_of Padded size ls = pages size ls
pages_of Packed size ls = packs size ls
pages_of Auto size ls = packs (page_size size) ls

-- of these files the last one that is kept in the scratch
abbrev pub last_there : PlanKind → ℕ → List (List ℕ) → Option (List ℕ)
last_there plan size taken = find (goes_there plan size) (reverse taken)

abbrev pub pages_or : PlainOptions → List ℕ → Option (List ℕ) → List ℕ
pages_or o before None = before
pages_or o before (Some file) = pages_of o.plan o.buffer (lines file)

-- what the scratch holds once these files were taken: the pages of the last one that is kept there, or what it held
abbrev pub scratch_behind_all : PlainOptions → List (List ℕ) → List ℕ → List ℕ
scratch_behind_all o taken before = pages_or o before (last_there o.plan o.buffer taken)
