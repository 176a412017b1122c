-- Hunks that were read, and the pieces of the text that they stand in.
use Rattle.std.specs.Prelude.{◌≡◌, ℕ, ◌<◌, ◌^◌, List, [], ◌∷◌, ◌++◌, length, drop, sum_by, Result, Ok, None, All}
use Rattle.line_list.specs.Lines.{lines}
use Rattle.line_list.specs.declared.Span.{Span}
use Rattle.hunk_core.specs.declared.hunks.Hunks.{Hunks}
use Rattle.hunk_core.specs.PlainHunk.{PlainHunk, bytes_at, hunk_of, hunks_of}
use Rattle.hunk_core.specs.Turned.{IsLawful}
use Rattle.hunk_core.specs.Reading.{Fault, Ahead, ahead}
use Rattle.hunk_core.specs.Rules.{first_broken}

-- the hunks, and what stands behind them
abbrev pub read_of : List ℕ → Hunks → List PlainHunk × Ahead
read_of text h = (hunks_of text h.items.items, ahead h.next (lines (drop h.end text)))

-- these hunks, and this rest behind them, whose first line has this number
abbrev pub these : List PlainHunk → ℕ → List (List ℕ) → Result (List PlainHunk × Ahead) Fault
these hs next rest = Ok (hs, ahead next rest)

-- the spans follow each other from a place up to an end, and none is empty
abbrev pub AreInTurn : ℕ → List Span → ℕ → Type 0
AreInTurn at [] end = at ≡ end
AreInTurn at (s ∷ ss) end = (s.start ≡ at) × (at < s.end) × AreInTurn s.end ss end

-- each span begins and ends where lines do: its lines are the next of those ahead
abbrev pub AreWhole : List ℕ → List Span → Type 0
AreWhole text [] = Unit {0}
AreWhole text (s ∷ ss) = (lines (drop s.start text) ≡ lines (bytes_at text s) ++ lines (drop s.end text)) × AreWhole text ss

-- the lines of each span spell its hunk, behind one that starts at least
abbrev pub SpellInTurn : (ℕ → List (List ℕ) → PlainHunk → Type 0) → List ℕ → ℕ → List Span → List PlainHunk → Type 0
SpellInTurn Spells text least [] [] = Unit {0}
SpellInTurn Spells text least [] (h ∷ hs) = ⊥
SpellInTurn Spells text least (s ∷ ss) [] = ⊥
SpellInTurn Spells text least (s ∷ ss) (h ∷ hs) = Spells least (lines (bytes_at text s)) h × SpellInTurn Spells text h.old_start ss hs

-- what each reader gives: hunks that are lawful over the text and break no rule, and whose lines can be counted together
pub record AreSound (text : List ℕ) (h : Hunks) : Type 0 where
  pub count : length h.items.items < 2 ^ 32
  pub few : sum_by (λ x. length x.body.items) h.items.items < 2 ^ 32
  pub lawful : All (IsLawful text) h.items.items
  pub unbroken : All (λ x. first_broken (hunk_of text x) ≡ None) h.items.items

-- the start of the last hunk, or what stood before the first
abbrev pub last_start : ℕ → List PlainHunk → ℕ
last_start least [] = least
last_start least (h ∷ hs) = last_start h.old_start hs

-- the spans of the hunks that were read so far, with the start of the last
pub record SpansSoFar (Spells : ℕ → List (List ℕ) → PlainHunk → Type 0) (text : List ℕ) (at : ℕ) (ss : List Span) (hs : List PlainHunk) (end least : ℕ) : Type 0 where
  pub turn : AreInTurn at ss end
  pub whole : AreWhole text ss
  pub pieces : SpellInTurn Spells text 0 ss hs
  pub last : last_start 0 hs ≡ least
