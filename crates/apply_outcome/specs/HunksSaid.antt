-- What is said of each hunk that was tried.
use Rattle.std.specs.Prelude.{ℕ, ◌+◌, List, [], ◌∷◌, ◌++◌, length, ℤ, pos, ◌+ℤ◌, Bool, false, Option}
use Rattle.hunk_core.specs.declared.Side.{Side}
use Rattle.hunk_core.specs.declared.Verdict.{Verdict}
use Rattle.hunk_core.specs.declared.Verdict.TheVariants.{Untried, Ignored, Nowhere, At}
use Rattle.hunk_core.specs.PlainHunk.{PlainHunk}
use Rattle.hunk_core.specs.Turned.{base}
use Rattle.read_file_patch.specs.PlainPatch.{PlainChange, hunks, script}
use Rattle.hunk_apply.specs.Script.{first_address}
use Rattle.reject_text.specs.Rejects.{rows_of}
use Rattle.reject_text.specs.Starts.{net}
use Rattle.patch_options.specs.PlainJob.{PlainOptions}
use Rattle.apply_task.specs.LineEnds.{ends_otherwise}
use Rattle.say_text.specs.Messages.{silenced, placed_text, failed_line}

-- how a placed hunk and a failed one are told of, in a file whose first line ends so; its number counts from 1
abbrev pub hunk_said : PlainOptions → Option Bool → ℕ → ℤ → PlainHunk → Verdict → List ℕ
hunk_said o end number moved h Untried = []
hunk_said o end number moved h Ignored = []
hunk_said o end number moved h Nowhere = silenced o (failed_line number (pos (base h) +ℤ moved) (ends_otherwise end h))
hunk_said o end number moved h (At line fuzz offset) = silenced o (placed_text o.verbose number (pos line +ℤ moved) fuzz offset)

-- the net lines that the hunks in front of each one added move what is said of it
unfoldable pub hunks_said : PlainOptions → Option Bool → List (PlainHunk × Verdict) → List (PlainHunk × Verdict) → List ℕ
hunks_said o end before [] = []
hunks_said o end before (row ∷ rows) = hunk_said o end (length before + 1) (net before) row.0 row.1 ++ hunks_said o end (before ++ row ∷ []) rows

abbrev pub script_said : PlainOptions → ℕ → List Verdict → List ℕ
script_said o address [] = []
script_said o address (Untried ∷ vs) = []
script_said o address (Ignored ∷ vs) = []
script_said o address (Nowhere ∷ vs) = silenced o (failed_line 1 (pos address) false)
script_said o address (At line fuzz offset ∷ vs) = silenced o (placed_text o.verbose 1 (pos line) fuzz offset)

abbrev pub change_said : PlainOptions → Option Bool → Side → PlainChange → List Verdict → List ℕ
change_said o end side (hunks hs) vs = hunks_said o end [] (rows_of side hs vs)
change_said o end side (script es) vs = script_said o (first_address es) vs
