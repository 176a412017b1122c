-- What the exits of the readers of a line and of a hunk owe, over plain values.
use Rattle.std.proofs.Common.{◌≡◌, ℕ, ◌+◌, ◌<◌, Bool, false, true, eqb, List, [], ◌∷◌, Option, None, Some, Result, Ok, Err, refl, sym, arith}
use Rattle.std.specs.Prelude.{is_some}
use Rattle.line_list.specs.Reader.{Reads}
use Rattle.hunk_core.specs.declared.BadKind.{BadKind}
use Rattle.hunk_core.specs.declared.BadKind.TheVariants as kinds
use Rattle.hunk_core.specs.declared.Side.{Side}
use Rattle.hunk_core.specs.declared.Side.TheVariants.{Forward, Reversed}
use Rattle.hunk_core.specs.declared.fault.FormFault.{FormFault}
use Rattle.hunk_core.specs.declared.fault.FormFault.TheVariants as errors
use Rattle.hunk_core.specs.Refusals.{unmarked}
use Rattle.hunk_core.specs.declared.command.Action.{Action}
use Rattle.hunk_core.specs.declared.command.Action.TheVariants.{Change}
use Rattle.hunk_core.specs.LineTests.{unended, after_backslash}
use Rattle.hunk_core.specs.PlainHunk.{Marked}
use Rattle.hunk_core.specs.Reading.{Fault, fault, Fails, Ahead, ahead}
use Rattle.normal_form.specs.declared.command.Command.{Command}
use Rattle.normal_form.specs.Commands.{opening}
use Rattle.normal_form.specs.Stretches.{marked_at, first_line, stretch_at, is_divider, first_divider, divider_at}
use Rattle.normal_form.specs.Hunks.{body_at, change, first_hunk}

-- a fault that is told where it is met
pub met : {Y : Type 0} (e : FormFault) (number : ℕ) (kind : BadKind) (read : Result Y Fault) → e ≡ errors.Malformed number kind → read ≡ Err (fault number kind) → Fails e read
met e number kind read made is = rw made is

-- ---- a line

pub line_none : (side : Side) (left number : ℕ) (rest : List (List ℕ)) → rest ≡ [] → first_line side left number rest ≡ Err (fault number kinds.ShortEnd)
unfolding first_line
line_none side left number rest none = rw none refl

-- the line has no mark
pub line_unmarked : (e : FormFault) (side : Side) (left number : ℕ) (all rest : List (List ℕ)) (line : List ℕ) → all ≡ line ∷ rest → Fails e (marked_at number side line) → Fails e (first_line side left number all)
unfolding first_line
line_unmarked errors.Memory side left number all rest line parts fails = tt
line_unmarked (errors.Malformed at kind) side left number all rest line parts fails = rw (parts, fails) refl

-- no backslash line follows
pub line_whole : (side : Side) (left number : ℕ) (all rest : List (List ℕ)) (line : List ℕ) (m : Marked) → all ≡ line ∷ rest → marked_at number side line ≡ Ok m → after_backslash rest ≡ None → first_line side left number all ≡ Ok (m, ahead (number + 1) rest)
unfolding first_line
line_whole side left number all rest line m parts marks none = rw (parts, marks, none) refl

-- a backslash line follows the last line of a side
pub line_open : (side : Side) (left number : ℕ) (all rest more : List (List ℕ)) (line : List ℕ) (m : Marked) → all ≡ line ∷ rest → marked_at number side line ≡ Ok m → after_backslash rest ≡ Some more → left ≡ 0 → first_line side left number all ≡ Ok (unended m, ahead (number + 1 + 1) more)
unfolding first_line
line_open side left number all rest more line m parts marks some last = rw (parts, marks, some, last) refl

-- a backslash line follows another line
pub line_refused : (side : Side) (left number : ℕ) (all rest more : List (List ℕ)) (line : List ℕ) (m : Marked) → all ≡ line ∷ rest → marked_at number side line ≡ Ok m → after_backslash rest ≡ Some more → 0 < left → first_line side left number all ≡ Err (fault (number + 1) kinds.MisplacedBackslash)
unfolding first_line
line_refused side left number all rest more line m parts marks some others =
    let no : eqb left 0 ≡ false = grind arith in
    rw (parts, marks, some, no) refl

-- ---- the line between the sides of a change

pub divider_none : (a : Action) (p : Ahead) → a ≡ Change → p.rest ≡ [] → divider_at a p ≡ Err (fault p.number kinds.ShortEnd)
unfolding first_divider
divider_none a p is none = rw (is, none) refl

pub divider_refused : (a : Action) (p : Ahead) (rest : List (List ℕ)) (line : List ℕ) (kind : BadKind) → a ≡ Change → p.rest ≡ line ∷ rest → false ≡ is_divider line → kind ≡ unmarked line → divider_at a p ≡ Err (fault p.number kind)
unfolding first_divider
divider_refused a p rest line kind is parts fails why = rw (is, parts, sym fails, why) refl

pub divider_found : (a : Action) (p : Ahead) (rest : List (List ℕ)) (line : List ℕ) → a ≡ Change → p.rest ≡ line ∷ rest → true ≡ is_divider line → divider_at a p ≡ Ok (tt, ahead (p.number + 1) rest)
unfolding first_divider
divider_found a p rest line is parts divides = rw (is, parts, sym divides) refl

-- ---- a hunk

-- whether something was read
pub told : {X Y : Type 0} (view : X → Y) (o : Option X) (read : Option Y) (b : Bool) → Reads view o read → b ≡ is_some o → is_some read ≡ b
told view (Some x) read b is said = rw (is, said) refl
told view None read b is said = rw (is, said) refl

pub hunk_none : (least number : ℕ) (rest : List (List ℕ)) → rest ≡ [] → first_hunk least number rest ≡ Err (fault number kinds.ShortEnd)
unfolding first_hunk
hunk_none least number rest none = rw none refl

-- the line opens no hunk
pub hunk_unopened : (least number : ℕ) (all rest : List (List ℕ)) (line : List ℕ) (kind : BadKind) → all ≡ line ∷ rest → Err kind ≡ opening least line → first_hunk least number all ≡ Err (fault number kind)
unfolding first_hunk
hunk_unopened least number all rest line kind parts opens = rw (parts, sym opens) refl

-- the first line opens a hunk
pub record Opens (least : ℕ) (all rest : List (List ℕ)) (c : Command) : Type 0 where
  pub line : List ℕ
  pub parts : all ≡ line ∷ rest
  pub opens : Ok c ≡ opening least line

-- its body has a fault
pub hunk_fails : (e : FormFault) (least number : ℕ) (all rest : List (List ℕ)) (c : Command) → Opens least all rest c → Fails e (body_at c (ahead (number + 1) rest)) → Fails e (first_hunk least number all)
unfolding first_hunk
hunk_fails errors.Memory least number all rest c h fails = tt
hunk_fails (errors.Malformed at kind) least number all rest c h fails = rw (h.parts, sym h.opens, fails) refl

-- a backslash line stands behind it, or none
pub hunk_refused : (least number : ℕ) (all rest : List (List ℕ)) (c : Command) (body : List Marked) (p : Ahead) → Opens least all rest c → body_at c (ahead (number + 1) rest) ≡ Ok (body, p) → is_some (after_backslash p.rest) ≡ true → first_hunk least number all ≡ Err (fault p.number kinds.MisplacedBackslash)
unfolding first_hunk
hunk_refused least number all rest c body p h read some = rw (h.parts, sym h.opens, read, some) refl

pub hunk_whole : (least number : ℕ) (all rest : List (List ℕ)) (c : Command) (body : List Marked) (p : Ahead) → Opens least all rest c → body_at c (ahead (number + 1) rest) ≡ Ok (body, p) → is_some (after_backslash p.rest) ≡ false → first_hunk least number all ≡ Ok (change c body, p)
unfolding first_hunk
hunk_whole least number all rest c body p h read none = rw (h.parts, sym h.opens, read, none) refl

-- the old lines of a body, and what divides it, are read
pub body_left : (c : Command) (p behind middle : Ahead) (old : List Marked) → stretch_at Forward c.old_count [] p ≡ Ok (old, behind) → divider_at c.action behind ≡ Ok (tt, middle) → body_at c p ≡ stretch_at Reversed c.new_count old middle
unfolding body_at
body_left c p behind middle old read divided = rw (read, divided) refl
