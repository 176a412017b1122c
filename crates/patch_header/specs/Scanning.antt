-- How far a scan of extended lines has come.
use Rattle.std.specs.Prelude.{◌≡◌, ℕ, ◌+◌, ◌≤◌, List, ◌++◌, length, drop, sum_by}
use Rattle.line_list.specs.Lines.{lines}
use Rattle.patch_header.specs.GitHeaders.{extended_run, behind_run, asks_alone}
use Rattle.patch_header.specs.GitRows.{git_lines_in}
use Rattle.patch_header.specs.Said.{asks_said, SaysWithin}
use Rattle.patch_header.specs.Region.{Row, rows}
use Rattle.patch_header.specs.declared.bare.Block.{Block}

-- the lines up to here are extended lines; those behind are what is left of the run
pub record HasScanned (text : List ℕ) (at number : ℕ) (here : Block) : Type 0 where
  pub within : here.end ≤ length text
  pub low : at ≤ here.end
  pub count : here.number + at ≤ number + here.end
  pub passed : List Row
  pub said : here.lines ≡ git_lines_in passed
  pub run : rows number at (extended_run (lines (drop at text))) ≡ passed ++ rows here.number here.end (extended_run (lines (drop here.end text)))
  pub behind : behind_run (lines (drop at text)) ≡ behind_run (lines (drop here.end text))
  pub place : at + sum_by length (extended_run (lines (drop at text))) ≡ here.end + sum_by length (extended_run (lines (drop here.end text)))
  pub counted : number + length (extended_run (lines (drop at text))) ≡ here.number + length (extended_run (lines (drop here.end text)))
  pub lies : SaysWithin text here.lines

-- the whole run of extended lines from a place on
pub record IsBlock (text : List ℕ) (at number : ℕ) (b : Block) : Type 0 where
  pub within : b.end ≤ length text
  pub low : at ≤ b.end
  pub count : b.number + at ≤ number + b.end
  pub said : b.lines ≡ git_lines_in (rows number at (extended_run (lines (drop at text))))
  pub asks : asks_said b.lines ≡ asks_alone (extended_run (lines (drop at text)))
  pub behind : behind_run (lines (drop at text)) ≡ lines (drop b.end text)
  pub place : b.end ≡ at + sum_by length (extended_run (lines (drop at text)))
  pub counted : b.number ≡ number + length (extended_run (lines (drop at text)))
  pub lies : SaysWithin text b.lines
