-- Why trying failed, and what it began.
use Rattle.std.proofs.Common.{◌≡◌, ℕ, List, Bool, false, Option, None, Some, sym, subst}
use Rattle.std.specs.Option.{IsSomeAnd}
use Rattle.outside.specs.TreeView.{TreeView, Passes}
use Rattle.outside.proofs.Views.{rises_then}
use Rattle.line_store.specs.Store.{Seen}
use Rattle.replace_file.specs.declared.temp.Temp.{Temp}
use Rattle.apply_task.specs.declared.fault.RunFault.{RunFault}
use Rattle.apply_task.specs.declared.fault.RunFault.TheVariants.{Tree, Write, Scratch, LongLine, FileTooLong, Disagree, Memory}
use Rattle.apply_start.specs.Trying.{HasLineCause, HasTryCause, IsBegun}

-- a fault of the plan alone
pub line_cause : (e : RunFault) (u w : TreeView) (a b : Seen) → HasLineCause e a b → HasTryCause e u w a b
line_cause Tree u w a b h = absurd h
line_cause Write u w a b h = h
line_cause Scratch u w a b h = h
line_cause (LongLine line length) u w a b h = h
line_cause (FileTooLong length) u w a b h = h
line_cause (Disagree want got) u w a b h = h
line_cause Memory u w a b h = h

-- a fault behind other calls of the tree
pub cause_after : (e : RunFault) (u v w : TreeView) (a b : Seen) → Passes u v → HasTryCause e v w a b → HasTryCause e u w a b
cause_after Tree u v w a b passes h = rises_then u v w passes h
cause_after Write u v w a b passes h = h
cause_after Scratch u v w a b passes h = h
cause_after (LongLine line length) u v w a b passes h = h
cause_after (FileTooLong length) u v w a b passes h = h
cause_after (Disagree want got) u v w a b passes h = h
cause_after Memory u v w a b passes h = h

pub begun_some : (dry : Bool) (o : Option Temp) (name : List ℕ) → dry ≡ false → IsSomeAnd o (λ begun. begun.name.now ≡ name) → IsBegun dry o name
begun_some dry None name wet is = absurd is
begun_some dry (Some begun) name wet is = subst (λ b. IsBegun b (Some begun) name) (sym wet) is
