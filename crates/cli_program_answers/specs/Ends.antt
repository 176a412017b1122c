-- How the program ends: by the words that it was called with, and the run of these words.
use Rattle.std.specs.Prelude.{◌≡◌, ◌⊎◌, ℕ, List, Bool, true, false}
use Rattle.cli_run_answers.specs.declared.why.Why.{Why}
use Rattle.cli_run_answers.specs.Answers.{exit_status}
use Rattle.cli_program_words.specs.Told.{is_told}

-- the devices of a run at one moment, but for standard error
pub record Devices (T C I O : Type 0) : Type 0 where
  pub tree : T
  pub scratch : C
  pub input : I
  pub out : O

abbrev pub devices : {T C I O : Type 0} → T → C → I → O → Devices T C I O
devices tree scratch input out = record { tree = tree; scratch = scratch; input = input; out = out }

-- the words were carried out, from some devices to others, and the status is that of the answer
pub record IsRun {D : Type 0} (Runs : List (List ℕ) → D → D → Why → Type 0) (words : List (List ℕ)) (status : ℕ) : Type 0 where
  pub before : D
  pub behind : D
  pub why : Why
  pub runs : Runs words before behind why
  pub ends : status ≡ exit_status why

-- what is told ends well, and all else is a run
abbrev pub EndsBy : {D : Type 0} → Bool → (List (List ℕ) → D → D → Why → Type 0) → List (List ℕ) → ℕ → Type 0
EndsBy true Runs words status = status ≡ 0
EndsBy false Runs words status = IsRun Runs words status

-- or the status is 2: that of words that no run can carry out yet, of want of memory outside of the run, and of a last write that failed
abbrev pub Ends : {D : Type 0} → (List (List ℕ) → D → D → Why → Type 0) → List (List ℕ) → ℕ → Type 0
Ends Runs words status = (status ≡ 2) ⊎ EndsBy (is_told words) Runs words status
