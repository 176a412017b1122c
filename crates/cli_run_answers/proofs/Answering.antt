-- What was read from the source or from a file, as the answer of an input.
use Rattle.std.proofs.Common.{◌≡◌, ◌≤◌, ℕ, zero, List, [], ◌++◌, length, Bool, if◌then◌else◌, Option, Some, Result, Ok, Err, IfOk, OnOk, Vec, ap, ◌∙◌, arith}
use Rattle.std.proofs.lemmas.Bool.{le-leb}
use Rattle.std.proofs.lemmas.List.{append-nil}
use Rattle.std.specs.FinMap.{get}
use Rattle.std.specs.declared.alloc.Global.{Global}
use Rattle.outside.specs.Files.{Files}
use Rattle.outside.specs.TreeView.{TreeView}
use Rattle.outside.specs.SourceView.{SourceView}
use Rattle.read_file_patch.specs.Targets.{below}
use Rattle.patch_options.specs.declared.options.Input.TheVariants.{Standard, File}
use Rattle.cli_run_answers.specs.declared.fault.InputFault.{InputFault}
use Rattle.cli_run_answers.specs.declared.fault.InputFault.TheVariants as fault
use Rattle.cli_run_answers.specs.Input.{Takes, TakesAtMost, IsAtEnd, IsAnswer, HasCause, HasSourceCause, answer_of}

abbrev pub Text : Type 0
Text = Vec ℕ Global

short-is : (bytes : List ℕ) → length bytes ≤ 268435456 → answer_of (Some bytes) ≡ Ok bytes
short-is bytes short = ap (λ (b : Bool). if b then Ok bytes else Err fault.TooLong) (le-leb (length bytes) 268435456 short)

-- a source read to its end
module _ (s q : SourceView) where
  pub source-text : (r : Result Text InputFault) (dir : Option (List ℕ)) (t : TreeView) → IfOk r (λ text. length text.items ≤ 268435456) → IfOk r (λ text. Takes s q text.items) → OnOk r (IsAtEnd q) → IfOk r (λ text. IsAnswer (Ok text.items) Standard dir t s)
  source-text (Ok text) dir t short takes end = λ files left told.
      let all = takes.told left told in
      let whole : left ≡ text.items = all.1 ∙ ap (λ (l : List ℕ). text.items ++ l) (end all.0 all.2) ∙ append-nil text.items in
      ap (λ (l : List ℕ). answer_of (Some l)) whole ∙ short-is text.items short
  source-text (Err e) dir t short takes end = tt

  pub source-end : (r : Result Text InputFault) (I : Type 0) → IfOk r (λ text. Takes s q text.items) → OnOk r (IsAtEnd q) → OnOk r (I → (left : List ℕ) → s.told ≡ Some left → q.told ≡ Some [])
  source-end (Ok text) I takes end = λ is left told.
      let all = takes.told left told in
      all.2 ∙ ap (λ (l : List ℕ). Some l) (end all.0 all.2)
  source-end (Err e) I takes end = tt

pub source-cause : (e : InputFault) (dir : Option (List ℕ)) (t u : TreeView) (s q : SourceView) → HasSourceCause e s q → HasCause e Standard dir t u s q
source-cause fault.NoPatchFile dir t u s q h = absurd h
source-cause fault.TooLong dir t u s q h = λ files left told. h left told
source-cause fault.Source dir t u s q h = (tt, h)
source-cause fault.Tree dir t u s q h = absurd h
source-cause (fault.Disagree want got) dir t u s q h = absurd h
source-cause fault.Memory dir t u s q h = tt

-- a file read whole
pub file-text : (text : List ℕ) (name : List ℕ) (dir : Option (List ℕ)) (t : TreeView) (s : SourceView) → length text ≤ 268435456
    → ((f : Files) → t.told ≡ Some f → get f (below dir name) ≡ Some text) → IsAnswer (Ok text) (File name) dir t s
file-text text name dir t s short is = λ files left told. ap answer_of (is files told) ∙ short-is text short

pub takes-none : (most : ℕ) (s : SourceView) → TakesAtMost most s s
takes-none most s = λ left told. (zero, omega arith, told)
