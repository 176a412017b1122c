-- How the parts of a text are put beside its file, one behind the other, and their names are written (manual page of `splitdiff`).
use Rattle.std.specs.Prelude.{◌≡◌, ◌≢◌, ◌⊎◌, ℕ, ◌+◌, ◌≤◌, List, [], ◌∷◌, ◌++◌, codes, length, map, take, None, Some, Result, Ok, Err, IfErr, OnOk}
use Rattle.std.specs.List.{flat_map}
use Rattle.line_list.specs.declared.Span.{Span}
use Rattle.hunk_core.specs.PlainHunk.{bytes_at}
use Rattle.outside.specs.Files.{Files, SameLasting}
use Rattle.outside.specs.TreeView.{TreeView, Passes, Rises}
use Rattle.outside.specs.Calls.{Becomes, IsUntouched}
use Rattle.outside.specs.SinkView.{SinkView, SinkPasses, Receives, ReceivesPart}
use Rattle.outside.specs.SinkView as sink
use Rattle.outside.specs.Quiet.{Effect, IsQuiet, TellsEither, LeavesEitherSince, LeavesPrefix, after, after_all}
use Rattle.outside.specs.Quiet.Effect.{Put}
use Rattle.apply_task.specs.Making.{IsTidy}
use Rattle.filter_whole_text.specs.declared.fault.FilterFault.{FilterFault}
use Rattle.filter_whole_text.specs.declared.fault.FilterFault.TheVariants as faults

-- a part: its name and its bytes
pub record Part : Type 0 where
  pub name : List ℕ
  pub bytes : List ℕ

-- where a part of a text lies, and its name
abbrev pub part_of : List ℕ → List ℕ → Span → Part
part_of text name span = record { name = name; bytes = bytes_at text span }

-- parts of a text, each with its name
unfoldable pub named_parts : List ℕ → List (List ℕ) → List Span → List Part
named_parts text [] spans = []
named_parts text (name ∷ names) [] = []
named_parts text (name ∷ names) (span ∷ spans) = part_of text name span ∷ named_parts text names spans

-- a part is put as it is
abbrev pub part_put : Part → Effect
part_put part = Put part.name part.bytes

-- the line that says so
abbrev pub part_line : Part → List ℕ
part_line part = part.name ++ codes "\n"

-- the lines of these parts
abbrev pub part_lines : List Part → List ℕ
part_lines parts = flat_map part_line parts

-- what puts them
abbrev pub part_puts : List Part → List Effect
part_puts parts = map part_put parts

-- nothing was put or written
pub record IsNotBegun (t u : TreeView) (c d : SinkView) : Type 0 where
  pub tree : IsUntouched t u
  pub out : d ≡ c

-- these parts are put, and their names are written
pub record ArePut (parts : List Part) (f : Files) (t u : TreeView) (c d : SinkView) : Type 0 where
  pub files : u.told ≡ Some (after_all (part_puts parts) f)
  -- each crash since the call began leaves the files after a first part of the puts
  pub leaves : LeavesPrefix t u (part_puts parts)
  pub out : Receives c d (part_lines parts)

-- it holds what it held, these bytes and perhaps more, or tells nothing any more
abbrev pub ReceivesFirst : SinkView → SinkView → List ℕ → Type 0
ReceivesFirst c d bytes = (b : List ℕ) → c.told ≡ Some b → (d.told ≡ None) ⊎ ((more : List ℕ) × (d.told ≡ Some (b ++ (bytes ++ more))))

-- the first k of them are put, and no name is written but theirs; of these the last alone may be left out or cut off
pub record AreCutAt (parts : List Part) (e : FilterFault) (f : Files) (t u : TreeView) (c d : SinkView) (k : ℕ) : Type 0 where
  pub few : k ≤ length parts
  pub files : (g : Files) → u.told ≡ Some g → SameLasting (after_all (part_puts (take k parts)) f) g
  -- a temporary may be left by a failed call of the tree alone
  pub exact : e ≢ faults.Tree → u.told ≡ Some (after_all (part_puts (take k parts)) f)
  pub leaves : LeavesPrefix t u (part_puts parts)
  pub out : ReceivesPart c d (part_lines (take k parts))
  pub said : ℕ
  pub near : k ≤ said + 1
  pub names : ReceivesFirst c d (part_lines (take said parts))

-- unless the tree has failed no temporary is left that the call started
abbrev pub TidyAfter : Result (Unit {0}) FilterFault → TreeView → TreeView → Type 0
TidyAfter (Err faults.Tree) t u = Unit {0}
TidyAfter result t u = IsTidy t u

-- ---- one part

-- an effect is made whole
pub record IsMade (t u : TreeView) (e : Effect) : Type 0 where
  pub quiet : IsQuiet u
  pub becomes : Becomes t u (after e)

-- a part is put, and the line that says so is written
pub record IsSaid (t u : TreeView) (c d : SinkView) (e : Effect) (line : List ℕ) : Type 0 where
  pub made : IsMade t u e
  pub out : Receives c d line

-- the tree failed, and nothing was written
pub record HasFailed (t u : TreeView) (c d : SinkView) (e : Effect) : Type 0 where
  pub tells : TellsEither t u (after e)
  pub out : d ≡ c
  pub cause : Rises t u

-- the part is put, and the sink failed
pub record IsUnsaid (t u : TreeView) (c d : SinkView) (e : Effect) (line : List ℕ) : Type 0 where
  pub made : IsMade t u e
  pub out : ReceivesPart c d line
  pub cause : sink.Rises c d

abbrev pub PartFails : FilterFault → TreeView → TreeView → SinkView → SinkView → Effect → List ℕ → Type 0
PartFails (faults.Input fault) t u c d e line = ⊥
PartFails (faults.Set fault) t u c d e line = ⊥
PartFails (faults.Unfit at) t u c d e line = ⊥
PartFails faults.Pattern t u c d e line = ⊥
PartFails faults.Tree t u c d e line = HasFailed t u c d e
PartFails faults.Write t u c d e line = IsUnsaid t u c d e line
PartFails faults.Memory t u c d e line = IsNotBegun t u c d

-- one part over a quiet tree
pub record PutsPart (part : Part) (t u : TreeView) (c d : SinkView) (result : Result (Unit {0}) FilterFault) : Type 0 where
  pub tree : Passes t u
  pub sink : SinkPasses c d
  pub since : LeavesEitherSince t u (after (part_put part))
  pub ok : OnOk result (IsSaid t u c d (part_put part) (part_line part))
  pub err : IfErr result (λ fault. PartFails fault t u c d (part_put part) (part_line part))

-- ---- all parts

abbrev pub PartsAnswer : Result (Unit {0}) FilterFault → List Part → Files → TreeView → TreeView → SinkView → SinkView → Type 0
PartsAnswer (Ok done) parts f t u c d = ArePut parts f t u c d
PartsAnswer (Err e) parts f t u c d = (k : ℕ) × AreCutAt parts e f t u c d k

-- a fault of putting or writing, or want of memory
abbrev pub HasPutCause : FilterFault → TreeView → TreeView → SinkView → SinkView → Type 0
HasPutCause (faults.Input fault) t u c d = ⊥
HasPutCause (faults.Set fault) t u c d = ⊥
HasPutCause (faults.Unfit line) t u c d = ⊥
HasPutCause faults.Pattern t u c d = ⊥
HasPutCause faults.Tree t u c d = Rises t u
HasPutCause faults.Write t u c d = sink.Rises c d
HasPutCause faults.Memory t u c d = Unit {0}

-- these parts over a quiet tree
pub record PutsParts (parts : List Part) (t u : TreeView) (c d : SinkView) (result : Result (Unit {0}) FilterFault) : Type 0 where
  pub tree : Passes t u
  pub sink : SinkPasses c d
  pub quiet : OnOk result (IsQuiet u)
  pub answers : (f : Files) → t.told ≡ Some f → PartsAnswer result parts f t u c d
  pub tidy : TidyAfter result t u
  pub cause : IfErr result (λ e. HasPutCause e t u c d)
