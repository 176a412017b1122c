-- What a reader that refuses nothing gives.
use Rattle.std.specs.Prelude.{◌≡◌, Option, Some, None}

-- what a function returned, seen by view, is what reading gives
abbrev pub Reads : {X Y : Type 0} → (X → Y) → Option X → Option Y → Type 0
Reads view (Some x) read = read ≡ Some (view x)
Reads view None read = read ≡ None
