-- What is made ready before the first file is put.
use Rattle.std.specs.Prelude.{◌≡◌, ℕ, List, map, None}
use Rattle.std.specs.List.{range_with_len}
use Rattle.outside.specs.Files.{temp_of}
use Rattle.cli_tool_words.specs.PlainJobs.{PlainGenJob}
use Rattle.patch_gen.specs.Patches.{file_name}
use Rattle.patch_gen.specs.Tree.{made_file}
use Rattle.patch_set.specs.Refusals.{refusal}
use Rattle.patch_set.specs.SetView.{SetView, IsRead}
use Rattle.patch_run.specs.Finishes.{CanApply}
use Rattle.cli_gen.specs.declared.places.MadeFileNames.{MadeFileNames}
use Rattle.cli_gen.specs.Jobs.{options_for}
use Rattle.cli_gen.specs.Command.{patch_text}

-- the places of the files with the first numbers: their names, and those of their temporaries
pub record ArePlaces (places : List MadeFileNames) (count : ℕ) : Type 0 where
  pub names : map (λ p. p.name) places ≡ map file_name (range_with_len 1 count)
  pub temps : map (λ p. p.temp) places ≡ map (λ i. temp_of (file_name i)) (range_with_len 1 count)

-- the made files, and their places
pub record AreMade (j : PlainGenJob) (places : List MadeFileNames) (files : List (List ℕ)) : Type 0 where
  pub named : ArePlaces places j.files
  pub bytes : files ≡ map (made_file j.seed j.lines) (range_with_len 1 j.files)

-- the set of the made patch, which isn't refused, and of which nothing was carried out yet
pub record IsMadeSet (j : PlainGenJob) (v : SetView) : Type 0 where
  pub can : CanApply (options_for j) v
  pub free : refusal (options_for j) (patch_text j) ≡ None
  pub read : IsRead (options_for j) (patch_text j) v
