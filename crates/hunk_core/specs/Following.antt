-- Hunks that follow each other in a text, in any form: where one begins, and how it reads.
use Rattle.std.specs.Prelude.{◌≡◌, ℕ, zero, suc, ◌+◌, ◌<◌, ◌≤◌, All, None, sum_by, Bool, false, List, [], ◌∷◌, ◌++◌, drop, length, Result, Ok, if◌then◌else◌}
use Rattle.line_list.specs.Lines.{lines}
use Rattle.line_list.specs.declared.Span.{Span}
use Rattle.hunk_core.specs.declared.Hunk.{Hunk}
use Rattle.hunk_core.specs.declared.fault.Place.{Place}
use Rattle.hunk_core.specs.LineTests.{after_backslash}
use Rattle.hunk_core.specs.PlainHunk.{PlainHunk, hunk_of, hunks_of}
use Rattle.hunk_core.specs.Pieces.{SpansSoFar}
use Rattle.hunk_core.specs.Rules.{first_broken}
use Rattle.hunk_core.specs.Turned.{IsLawful}
use Rattle.hunk_core.specs.Reading.{Fault, ◌>>=◌, Ahead, ahead, ahead_of}

-- at most so many hunks that follow each other
unfoldable pub hunks_by : (List (List ℕ) → Bool) → (ℕ → Ahead → Result (PlainHunk × Ahead) Fault) → ℕ → ℕ → Ahead → Result (List PlainHunk × Ahead) Fault
hunks_by begins hunk zero least p = Ok ([], p)
hunks_by begins hunk (suc most) least p = if begins p.rest then (hunk least p >>= λ first. hunks_by begins hunk most first.0.old_start first.1 >>= λ others. Ok (first.0 ∷ others.0, others.1)) else Ok ([], p)

-- the hunks at the front of these lines, and what stands behind them, or the first fault
abbrev pub reading_by : (List (List ℕ) → Bool) → (ℕ → Ahead → Result (PlainHunk × Ahead) Fault) → ℕ → List (List ℕ) → Result (List PlainHunk × Ahead) Fault
reading_by begins hunk number rest = hunks_by begins hunk (length rest) 0 (ahead number rest)

-- a hunk was read from a place up to the next one, behind one that starts at least, and is kept behind those before it
pub record IsTaken {S : Type 0} (hunk : ℕ → Ahead → Result (PlainHunk × Ahead) Fault) (Has : List ℕ → ℕ → List PlainHunk → ℕ → ℕ → S → Type 0) (text : List ℕ) (least : ℕ) (place : Place) (before after : S) (start : ℕ) (next : Place) : Type 0 where
  pub first : PlainHunk
  pub starts : first.old_start ≡ start
  pub read : hunk least (ahead_of text place) ≡ Ok (first, ahead_of text next)
  pub fewer : length (lines (drop next.at text)) < length (lines (drop place.at text))
  pub has : (from : ℕ) (hs : List PlainHunk) → Has text from hs place.at least before → Has text from (hs ++ first ∷ []) next.at start after

-- what is kept of hunks of a text from a place up to another: the hunks, lawful and unbroken, and their pieces, of which the last starts so
pub record AreKept (Spells : ℕ → List (List ℕ) → PlainHunk → Type 0) (text : List ℕ) (from : ℕ) (hs : List PlainHunk) (end least : ℕ) (items : List Hunk) (spans : List Span) : Type 0 where
  pub are : hs ≡ hunks_of text items
  pub pieces : SpansSoFar Spells text from spans hs end least
  pub count : from + length items ≤ end
  pub few : from + sum_by (λ x. length x.body.items) items ≤ end
  pub lawful : All (IsLawful text) items
  pub unbroken : All (λ x. first_broken (hunk_of text x) ≡ None) items

-- all hunks from a place on were read, up to another place, and are kept
pub record AreTaken {S : Type 0} (begins : List (List ℕ) → Bool) (hunk : ℕ → Ahead → Result (PlainHunk × Ahead) Fault) (Has : List ℕ → ℕ → List PlainHunk → ℕ → ℕ → S → Type 0) (text : List ℕ) (from number : ℕ) (before after : S) (end : Place) : Type 0 where
  pub hunks : List PlainHunk
  pub last : ℕ
  pub read : reading_by begins hunk number (lines (drop from text)) ≡ Ok (hunks, ahead_of text end)
  pub has : Has text from [] from 0 before → Has text from hunks end.at last after

-- ---- the grammar

-- these lines are these hunks, the first behind one that starts at least, before this rest
abbrev pub SpellsEach : (ℕ → List (List ℕ) → List (List ℕ) → PlainHunk → Type 0) → ℕ → List (List ℕ) → List (List ℕ) → List PlainHunk → Type 0
SpellsEach Spells least piece rest [] = piece ≡ []
SpellsEach Spells least piece rest (h ∷ hs) = (own : List (List ℕ)) × (more : List (List ℕ)) × (piece ≡ own ++ more) × Spells least own (more ++ rest) h × SpellsEach Spells h.old_start more rest hs

-- the lines ahead are these hunks, and then this rest, whose first line has this number: neither a hunk nor a backslash line
pub record IsPieceOf (begins : List (List ℕ) → Bool) (Spelled : List (List ℕ) → List (List ℕ) → List PlainHunk → Type 0) (number : ℕ) (lines : List (List ℕ)) (hs : List PlainHunk) (next : ℕ) (rest : List (List ℕ)) : Type 0 where
  pub own : List (List ℕ)
  pub parts : lines ≡ own ++ rest
  pub spelled : Spelled own rest hs
  pub ends : (begins rest ≡ false) × (after_backslash rest ≡ None)
  pub counted : next ≡ number + length own
