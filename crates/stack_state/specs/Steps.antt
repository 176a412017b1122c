-- Steps of a command of a stack, over a tree and a sink: made whole, or a first part of them.
use Rattle.std.specs.Prelude.{◌≡◌, ◌⊎◌, ℕ, List, true, Some, None, Result, Ok, Err, OnOk, OnErr, IfErr}
use Rattle.std.specs.FinMap.{get}
use Rattle.outside.specs.Files.{Files, is_temp}
use Rattle.outside.specs.TreeView.{TreeView, Passes}
use Rattle.outside.specs.TreeView as tree
use Rattle.outside.specs.SinkView.{SinkView, SinkPasses, Receives, ReceivesPart}
use Rattle.outside.specs.SinkView as sink
use Rattle.outside.specs.Quiet.{IsQuiet, Effect, after_all, HasMade, TellsPrefix, LeavesPrefix}
use Rattle.apply_task.specs.declared.fault.RunFault.{RunFault}
use Rattle.apply_task.specs.declared.fault.RunFault.TheVariants.{Tree, Write, Scratch, LongLine, FileTooLong, Disagree, Memory}

-- each temporary name stands for nothing, or for what it stood for
abbrev pub TempsStay : Files → Files → Type 0
TempsStay f g = (q : List ℕ) → is_temp q ≡ true → (get g q ≡ None) ⊎ (get g q ≡ get f q)

-- the effects are made whole on these files, reads give just what they make of them, and the text is said whole
pub record IsWhole (u w : TreeView) (c d : SinkView) (es : List Effect) (text : List ℕ) (f : Files) : Type 0 where
  pub made : HasMade u w es
  pub said : Receives c d text
  pub told : w.told ≡ Some (after_all es f)
  pub temps : TempsStay f (after_all es f)

-- a first part of the effects and of the text
pub record IsPart (u w : TreeView) (c d : SinkView) (es : List Effect) (text : List ℕ) : Type 0 where
  pub tells : TellsPrefix u w es
  pub leaves : LeavesPrefix u w es
  pub said : ReceivesPart c d text

-- the tree or the sink has failed, or memory ran out
abbrev pub HasStepCause : RunFault → TreeView → TreeView → SinkView → SinkView → Type 0
HasStepCause Tree u w c d = tree.Rises u w
HasStepCause Write u w c d = sink.Rises c d
HasStepCause Scratch u w c d = ⊥
HasStepCause (LongLine line length) u w c d = ⊥
HasStepCause (FileTooLong length) u w c d = ⊥
HasStepCause (Disagree want got) u w c d = ⊥
HasStepCause Memory u w c d = Unit {0}

-- from a quiet tree on: effects and text, which the files decide, whole on `Ok` and a first part of them after a fault
pub record Steps {R : Type 0} (u w : TreeView) (c d : SinkView) (result : Result R RunFault) (es : Files → List Effect) (text : Files → List ℕ) : Type 0 where
  pub tree : Passes u w
  pub sink : SinkPasses c d
  pub quiet : OnOk result (IsQuiet w)
  pub cause : IfErr result (λ e. HasStepCause e u w c d)
  pub ok : OnOk result ((f : Files) → u.told ≡ Some f → IsWhole u w c d (es f) (text f) f)
  pub err : OnErr result ((f : Files) → u.told ≡ Some f → IsPart u w c d (es f) (text f))

-- the result of what is said, as that of a step
abbrev pub said_by : {E : Type 0} → Result (Unit {0}) E → Result (Unit {0}) RunFault
said_by (Ok done) = Ok done
said_by (Err e) = Err Write
