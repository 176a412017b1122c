-- What the exits of the readers of a line and of a hunk owe, over plain values.
use Rattle.std.proofs.Common.{◌≡◌, ℕ, ◌+◌, ◌-◌, ◌<◌, ◌≤◌, Bool, true, false, List, [], ◌∷◌, length, Option, None, Some, Result, Ok, Err, refl, sym, arith}
use Rattle.std.specs.Prelude.{is_some}
use Rattle.hunk_core.specs.declared.BadKind.{BadKind}
use Rattle.hunk_core.specs.declared.BadKind.TheVariants as kinds
use Rattle.hunk_core.specs.declared.fault.Place.{Place}
use Rattle.hunk_core.specs.declared.fault.FormFault.{FormFault}
use Rattle.hunk_core.specs.declared.fault.FormFault.TheVariants as errors
use Rattle.hunk_core.specs.LineTests.{unended, after_backslash}
use Rattle.hunk_core.specs.PlainHunk.{Marked}
use Rattle.line_list.specs.Reader.{Reads}
use Rattle.hunk_core.specs.Reading.{Fault, fault, Fails, Ahead, ahead, IsPlace}
use Rattle.unified_form.specs.declared.body.Left.{Left}
use Rattle.unified_form.specs.declared.range.Ranges.{Ranges}
use Rattle.unified_form.specs.Ranges.{opening}
use Rattle.unified_form.specs.Bodies.{marked_at, room_at, is_last_line, first_line, body_at}
use Rattle.unified_form.specs.Hunks.{left_of, change, first_hunk}
use Rattle.unified_form.specs.Skimmed.{past_first_line, past_body, past_first, stated_range}

-- a fault that is told where it is met
pub met : {Y : Type 0} (e : FormFault) (number : ℕ) (kind : BadKind) (read : Result Y Fault) → e ≡ errors.Malformed number kind → read ≡ Err (fault number kind) → Fails e read
met e number kind read made is = rw made is

-- the place behind a line, and that behind two
pub place_next : (text : List ℕ) (p : Place) (at : ℕ) → IsPlace text p → p.at < at → at ≤ length text → IsPlace text (record { at = at; number = p.number + 1 })
place_next text p at h low high = record { short = h.short; within = high; small = omega (arith, h.small, low) }

pub place_second : (text : List ℕ) (p : Place) (mid at : ℕ) → IsPlace text p → p.at < mid → mid < at → at ≤ length text → IsPlace text (record { at = at; number = p.number + 2 }) × (p.at < at)
place_second text p mid at h low next high = (record { short = h.short; within = high; small = omega (arith, h.small, low, next) }, omega (arith, low, next))

-- less of a text is left behind a later place
pub closer : (n at next : ℕ) → at < next → next ≤ n → n - next < n - at
closer n at next goes high = omega (arith, goes, high)

pub at_most : (n : ℕ) → n ≤ n
at_most n = omega arith

pub with_none : (n : ℕ) → n + 0 ≤ n
with_none n = omega arith

-- no line is left
pub line_none : (left : Left) (number : ℕ) (rest : List (List ℕ)) → rest ≡ [] → first_line left number rest ≡ Err (fault number kinds.ShortEnd)
unfolding first_line
line_none left number rest none = rw none refl

pub past_line_none : (left : Left) (number : ℕ) (rest : List (List ℕ)) → rest ≡ [] → past_first_line left number rest ≡ Err (fault number kinds.ShortEnd)
unfolding past_first_line
past_line_none left number rest none = rw none refl

-- the line has no mark
pub line_unmarked : (e : FormFault) (left : Left) (number : ℕ) (all rest : List (List ℕ)) (line : List ℕ) → all ≡ line ∷ rest → Fails e (marked_at number line) → Fails e (first_line left number all)
unfolding first_line
line_unmarked errors.Memory left number all rest line parts fails = tt
line_unmarked (errors.Malformed at kind) left number all rest line parts fails = rw (parts, fails) refl

pub past_line_unmarked : (e : FormFault) (left : Left) (number : ℕ) (all rest : List (List ℕ)) (line : List ℕ) → all ≡ line ∷ rest → Fails e (marked_at number line) → Fails e (past_first_line left number all)
unfolding past_first_line
past_line_unmarked errors.Memory left number all rest line parts fails = tt
past_line_unmarked (errors.Malformed at kind) left number all rest line parts fails = rw (parts, fails) refl

-- the line is one too many
pub line_full : (e : FormFault) (left : Left) (number : ℕ) (all rest : List (List ℕ)) (line : List ℕ) (m : Marked) → all ≡ line ∷ rest → marked_at number line ≡ Ok m → Fails e (room_at number m.mark left) → Fails e (first_line left number all)
unfolding first_line
line_full errors.Memory left number all rest line m parts marks fails = tt
line_full (errors.Malformed at kind) left number all rest line m parts marks fails = rw (parts, marks, fails) refl

pub past_line_full : (e : FormFault) (left : Left) (number : ℕ) (all rest : List (List ℕ)) (line : List ℕ) (m : Marked) → all ≡ line ∷ rest → marked_at number line ≡ Ok m → Fails e (room_at number m.mark left) → Fails e (past_first_line left number all)
unfolding past_first_line
past_line_full errors.Memory left number all rest line m parts marks fails = tt
past_line_full (errors.Malformed at kind) left number all rest line m parts marks fails = rw (parts, marks, fails) refl

-- a line that is marked and has room
pub record HasRoom (left : Left) (number : ℕ) (all rest : List (List ℕ)) (m : Marked) (behind : Left) : Type 0 where
  pub line : List ℕ
  pub parts : all ≡ line ∷ rest
  pub marks : marked_at number line ≡ Ok m
  pub room : room_at number m.mark left ≡ Ok behind

-- no backslash line follows
pub line_whole : (left : Left) (number : ℕ) (all rest : List (List ℕ)) (m : Marked) (room : Left) → HasRoom left number all rest m room → after_backslash rest ≡ None → first_line left number all ≡ Ok (m, room, ahead (number + 1) rest)
unfolding first_line
line_whole left number all rest m room h none = rw (h.parts, h.marks, h.room, none) refl

pub past_line_whole : (left : Left) (number : ℕ) (all rest : List (List ℕ)) (m : Marked) (room : Left) → HasRoom left number all rest m room → after_backslash rest ≡ None → past_first_line left number all ≡ Ok (room, ahead (number + 1) rest)
unfolding past_first_line
past_line_whole left number all rest m room h none = rw (h.parts, h.marks, h.room, none) refl

-- a backslash line follows the last line of a side
pub line_open : (left : Left) (number : ℕ) (all rest more : List (List ℕ)) (m : Marked) (room : Left) → HasRoom left number all rest m room → after_backslash rest ≡ Some more → is_last_line m.mark room ≡ true → first_line left number all ≡ Ok (unended m, room, ahead (number + 2) more)
unfolding first_line
line_open left number all rest more m room h some last = rw (h.parts, h.marks, h.room, some, last) refl

pub past_line_open : (left : Left) (number : ℕ) (all rest more : List (List ℕ)) (m : Marked) (room : Left) → HasRoom left number all rest m room → after_backslash rest ≡ Some more → is_last_line m.mark room ≡ true → past_first_line left number all ≡ Ok (room, ahead (number + 2) more)
unfolding past_first_line
past_line_open left number all rest more m room h some last = rw (h.parts, h.marks, h.room, some, last) refl

-- a backslash line follows another line
pub line_refused : (left : Left) (number : ℕ) (all rest more : List (List ℕ)) (m : Marked) (room : Left) → HasRoom left number all rest m room → after_backslash rest ≡ Some more → is_last_line m.mark room ≡ false → first_line left number all ≡ Err (fault (number + 1) kinds.MisplacedBackslash)
unfolding first_line
line_refused left number all rest more m room h some last = rw (h.parts, h.marks, h.room, some, last) refl

pub past_line_refused : (left : Left) (number : ℕ) (all rest more : List (List ℕ)) (m : Marked) (room : Left) → HasRoom left number all rest m room → after_backslash rest ≡ Some more → is_last_line m.mark room ≡ false → past_first_line left number all ≡ Err (fault (number + 1) kinds.MisplacedBackslash)
unfolding past_first_line
past_line_refused left number all rest more m room h some last = rw (h.parts, h.marks, h.room, some, last) refl

-- ---- a hunk

-- whether something was read
pub told : {X Y : Type 0} (view : X → Y) (o : Option X) (read : Option Y) (b : Bool) → Reads view o read → b ≡ is_some o → is_some read ≡ b
told view (Some x) read b is said = rw (is, said) refl
told view None read b is said = rw (is, said) refl

pub hunk_none : (least number : ℕ) (rest : List (List ℕ)) → rest ≡ [] → first_hunk least number rest ≡ Err (fault number kinds.ShortEnd)
unfolding first_hunk
hunk_none least number rest none = rw none refl

pub past_hunk_none : (least number : ℕ) (rest : List (List ℕ)) → rest ≡ [] → past_first least number rest ≡ Err (fault number kinds.ShortEnd)
unfolding past_first
past_hunk_none least number rest none = rw none refl

-- the line opens no hunk
pub hunk_unopened : (least number : ℕ) (all rest : List (List ℕ)) (line : List ℕ) (kind : BadKind) → all ≡ line ∷ rest → Err kind ≡ opening least line → first_hunk least number all ≡ Err (fault number kind)
unfolding first_hunk
hunk_unopened least number all rest line kind parts opens = rw (parts, sym opens) refl

pub past_hunk_unopened : (least number : ℕ) (all rest : List (List ℕ)) (line : List ℕ) (kind : BadKind) → all ≡ line ∷ rest → Err kind ≡ opening least line → past_first least number all ≡ Err (fault number kind)
unfolding past_first
past_hunk_unopened least number all rest line kind parts opens = rw (parts, sym opens) refl

-- the first line opens a hunk
pub record Opens (least : ℕ) (all rest : List (List ℕ)) (r : Ranges) : Type 0 where
  pub line : List ℕ
  pub parts : all ≡ line ∷ rest
  pub opens : Ok r ≡ opening least line

-- its body has a fault
pub hunk_fails : (e : FormFault) (least number : ℕ) (all rest : List (List ℕ)) (r : Ranges) → Opens least all rest r → Fails e (body_at (r.old_count + r.new_count) (left_of r) (ahead (number + 1) rest)) → Fails e (first_hunk least number all)
unfolding first_hunk
hunk_fails errors.Memory least number all rest r h fails = tt
hunk_fails (errors.Malformed at kind) least number all rest r h fails = rw (h.parts, sym h.opens, fails) refl

pub past_hunk_fails : (e : FormFault) (least number : ℕ) (all rest : List (List ℕ)) (r : Ranges) → Opens least all rest r → Fails e (past_body (r.old_count + r.new_count) (left_of r) (ahead (number + 1) rest)) → Fails e (past_first least number all)
unfolding past_first
past_hunk_fails errors.Memory least number all rest r h fails = tt
past_hunk_fails (errors.Malformed at kind) least number all rest r h fails = rw (h.parts, sym h.opens, fails) refl

-- a backslash line stands behind it, or none
pub hunk_refused : (least number : ℕ) (all rest : List (List ℕ)) (r : Ranges) (body : List Marked) (p : Ahead) → Opens least all rest r → body_at (r.old_count + r.new_count) (left_of r) (ahead (number + 1) rest) ≡ Ok (body, p) → is_some (after_backslash p.rest) ≡ true → first_hunk least number all ≡ Err (fault p.number kinds.MisplacedBackslash)
unfolding first_hunk
hunk_refused least number all rest r body p h read some = rw (h.parts, sym h.opens, read, some) refl

pub past_hunk_refused : (least number : ℕ) (all rest : List (List ℕ)) (r : Ranges) (p : Ahead) → Opens least all rest r → past_body (r.old_count + r.new_count) (left_of r) (ahead (number + 1) rest) ≡ Ok p → is_some (after_backslash p.rest) ≡ true → past_first least number all ≡ Err (fault p.number kinds.MisplacedBackslash)
unfolding past_first
past_hunk_refused least number all rest r p h read some = rw (h.parts, sym h.opens, read, some) refl

pub hunk_whole : (least number : ℕ) (all rest : List (List ℕ)) (r : Ranges) (body : List Marked) (p : Ahead) → Opens least all rest r → body_at (r.old_count + r.new_count) (left_of r) (ahead (number + 1) rest) ≡ Ok (body, p) → is_some (after_backslash p.rest) ≡ false → first_hunk least number all ≡ Ok (change r body, p)
unfolding first_hunk
hunk_whole least number all rest r body p h read none = rw (h.parts, sym h.opens, read, none) refl

pub past_hunk_whole : (least number : ℕ) (all rest : List (List ℕ)) (r : Ranges) (p : Ahead) → Opens least all rest r → past_body (r.old_count + r.new_count) (left_of r) (ahead (number + 1) rest) ≡ Ok p → is_some (after_backslash p.rest) ≡ false → past_first least number all ≡ Ok (stated_range r, p)
unfolding past_first
past_hunk_whole least number all rest r p h read none = rw (h.parts, sym h.opens, read, none) refl
