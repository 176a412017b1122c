-- The file patches of the patch over a made tree, line numbers of the text aside.
use Rattle.std.specs.Prelude.{false, ℕ, ◌+◌, ◌-◌, ◌*◌, ◌/◌, List, ◌∷◌, ◌++◌, map, None, Some}
use Rattle.std.specs.List.{range_with_len}
use Rattle.hunk_core.specs.declared.Form.TheVariants.{Unified}
use Rattle.hunk_core.specs.declared.Mark.TheVariants.{Keep, Drop, Add}
use Rattle.hunk_core.specs.LineTests.{marked}
use Rattle.hunk_core.specs.PlainHunk.{Marked, PlainHunk}
use Rattle.stamp.specs.declared.Stamp.TheVariants.{Unknown}
use Rattle.read_header_record.specs.declared.Action.TheVariants.{Plain}
use Rattle.read_file_patch.specs.PlainPatch.{PlainHeader, PlainPatch, hunks}
use Rattle.patch_gen.specs.Patches.{file_name, new_line}
use Rattle.patch_gen.specs.Texts.{file_line}
use Rattle.patch_gen.specs.Tree.{file_state}

-- seven lines from s on, the fourth of them dropped and the new one added after it
abbrev pub body_from : (ℕ → List ℕ) → ℕ → List ℕ → List Marked
body_from line s new = map (λ j. marked Keep (line j)) (range_with_len s 3) ++ (marked Drop (line (s + 3)) ∷ marked Add new ∷ map (λ j. marked Keep (line j)) (range_with_len (s + 4) 3))

-- hunk h, counted from 1
abbrev pub made_hunk : (ℕ → List ℕ) → ℕ → PlainHunk
made_hunk line h = record { old_start = 20 * h - 13; new_start = 20 * h - 13; body = body_from line (20 * h - 13) (new_line (20 * h - 10)) }

-- both header lines name the file, and say nothing else
abbrev pub made_header : ℕ → PlainHeader
made_header i = record {
  form = Unified;
  opening = 0;
  names_line = 0;
  old_name = Some (file_name i);
  new_name = Some (file_name i);
  index = None;
  prereq = None;
  old_stamp = Unknown;
  new_stamp = Unknown;
  action = Plain;
  bare = false;
  from = None;
  to = None;
  old_mode = None;
  new_mode = None;
}

-- the hunks over so many lines of a file
abbrev pub made_hunks : (ℕ → List ℕ) → ℕ → List PlainHunk
made_hunks line count = map (made_hunk line) (range_with_len 1 count)

-- the file patch of file i
abbrev pub made_file_patch : ℕ → ℕ → ℕ → PlainPatch
made_file_patch seed lines i = record { header = made_header i; change = hunks (made_hunks (file_line (file_state seed lines i)) (lines / 20)) }

abbrev pub made_patches : ℕ → ℕ → ℕ → List PlainPatch
made_patches seed files lines = map (made_file_patch seed lines) (range_with_len 1 files)
