-- The made tree: files of numbered lines, and a patch that changes every twentieth of them.
use Rattle.std.specs.Prelude.{ℕ, ◌+◌, ◌-◌, ◌*◌, ◌/◌, List, map}
use Rattle.std.specs.List.{flat_map, range_with_len}
use Rattle.patch_gen.specs.Lcg.{state_after}
use Rattle.patch_gen.specs.Texts.{file_line, file_text}
use Rattle.patch_gen.specs.Patches.{file_patch}

pub record MadeTree : Type 0 where
  pub files : List (List ℕ)
  pub patch : List ℕ
  pub hunks : ℕ

-- where the draws of file i begin: each file before it took one draw, and one for each of its lines
abbrev pub file_state : ℕ → ℕ → ℕ → ℕ
file_state seed lines i = state_after seed ((i - 1) * (1 + lines))

abbrev pub made_file : ℕ → ℕ → ℕ → List ℕ
made_file seed lines i = file_text (file_state seed lines i) lines

-- one hunk for each twenty lines
abbrev pub made_patch : ℕ → ℕ → ℕ → List ℕ
made_patch seed lines i = file_patch (file_line (file_state seed lines i)) i (lines / 20)

-- the files 1 to `files`, and the patch over all of them
unfoldable pub made : ℕ → ℕ → ℕ → MadeTree
made seed files lines = record {
  files = map (made_file seed lines) (range_with_len 1 files);
  patch = flat_map (made_patch seed lines) (range_with_len 1 files);
  hunks = files * (lines / 20);
}
