-- What stands at each moment of a run.
use Rattle.std.specs.Prelude.{◌≡◌, ◌⊎◌, ℕ, ◌≤◌, List, length, take, false, Option, Some, None}
use Rattle.std.specs.List.{Any}
use Rattle.std.specs.FinMap.{get}
use Rattle.outside.specs.Files.{Files, SameLasting, is_temp}
use Rattle.outside.specs.TreeView.{TreeView, Passes, MayLeave, LeftSince}
use Rattle.outside.specs.SinkView.{SinkView, ReceivesPart}
use Rattle.outside.specs.ScratchView.{ScratchView}
use Rattle.outside.specs.Quiet.{Effect, TellsPrefix, after_all}
use Rattle.outside.specs.Quiet.Effect.{Put, Remove}

-- the tree is told the same, and a crash leaves what one could have left before
pub record Opens (u w : TreeView) : Type 0 where
  pub passes : Passes u w
  pub told : w.told ≡ u.told
  pub images : (c : Files) → LeftSince w u.moment c → MayLeave u c

-- the files after a first part of the effects, temporary names aside
abbrev pub IsAfterPrefix : List Effect → Files → Files → Type 0
IsAfterPrefix es f c = (k : ℕ) × (k ≤ length es) × SameLasting (after_all (take k es) f) c

-- what an effect makes of a name: a file of these bytes, or none
abbrev pub Makes : Effect → List ℕ → Option (List ℕ) → Type 0
Makes (Put name bytes) q held = (name ≡ q) × (held ≡ Some bytes)
Makes (Remove name) q held = (name ≡ q) × (held ≡ None)

-- a name holds its old bytes, or what some effect makes of it
abbrev pub HoldsOldOrNew : List Effect → Files → Files → List ℕ → Type 0
HoldsOldOrNew es f c q = (get c q ≡ get f q) ⊎ Any (λ e. Makes e q (get c q)) es

-- each crash since the call began leaves what one could have left at entry, or the files at entry after a first part of the effects
abbrev pub LeavesAllowed : TreeView → TreeView → Files → List Effect → Type 0
LeavesAllowed u w f es = (c : Files) → LeftSince w u.moment c → MayLeave u c ⊎ IsAfterPrefix es f c

-- each crash since the call began leaves what one could have left at entry, or at each name that isn't temporary its old or its new bytes
abbrev pub LeavesOldOrNew : TreeView → TreeView → Files → List Effect → Type 0
LeavesOldOrNew u w f es = (c : Files) → LeftSince w u.moment c → MayLeave u c ⊎ ((q : List ℕ) → is_temp q ≡ false → HoldsOldOrNew es f c q)

-- the tree is told as at entry, nothing was written, and a crash leaves what one could have left at entry
pub record IsAsAtEntry (u w : TreeView) (a b : ScratchView) (c d : SinkView) : Type 0 where
  pub told : w.told ≡ u.told
  pub scratch : b ≡ a
  pub out : d ≡ c
  pub images : (g : Files) → LeftSince w u.moment g → MayLeave u g

-- a first part of these effects and of this text
pub record FirstPart (u w : TreeView) (c d : SinkView) (es : List Effect) (text : List ℕ) : Type 0 where
  pub tells : TellsPrefix u w es
  pub said : ReceivesPart c d text
