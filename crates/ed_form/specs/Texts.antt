-- The text of a command, read line by line.
use Rattle.std.specs.Prelude.{ℕ, ◌+◌, Bool, true, false, ◌&&◌, List, [], ◌∷◌, ◌++◌, drop, Option, None, Some, is_some, Result, Ok, Err, if◌then◌else◌}
use Rattle.hunk_core.specs.declared.BadKind.TheVariants as kinds
use Rattle.hunk_core.specs.LineTests.{after}
use Rattle.hunk_core.specs.Reading.{Fault, fault, Ahead, ahead}
use Rattle.hunk_core.specs.Letters.{is_line_end}
use Rattle.ed_form.specs.declared.added.TextState.{TextState}
use Rattle.ed_form.specs.declared.added.TextState.TheVariants.{Text, Ended, Corrected}

-- nothing is left but the line's end
abbrev pub is_over : Option (List ℕ) → Bool
is_over None = false
is_over (Some rest) = is_line_end rest

-- the line is this word
abbrev pub is_word : List ℕ → List ℕ → Bool
is_word word line = is_over (after word line)

-- '.'
abbrev pub is_dot : List ℕ → Bool
is_dot line = is_word (46 ∷ []) line

-- '..'
abbrev pub is_double : List ℕ → Bool
is_double line = is_word (46 ∷ 46 ∷ []) line

-- 's/.//'
abbrev pub is_correction : List ℕ → Bool
is_correction line = is_word (115 ∷ 47 ∷ 46 ∷ 47 ∷ 47 ∷ []) line

-- 'a'
abbrev pub is_append : List ℕ → Bool
is_append line = is_word (97 ∷ []) line

-- 's/' comes first
abbrev pub is_substitution : List ℕ → Bool
is_substitution line = is_some (after (115 ∷ 47 ∷ []) line)

-- the last of these lines is '..'
abbrev pub ends_double : List (List ℕ) → Bool
ends_double [] = false
ends_double (line ∷ []) = is_double line
ends_double (line ∷ next ∷ more) = ends_double (next ∷ more)

-- the last of these lines without its first byte
abbrev pub undoubled : List (List ℕ) → List (List ℕ)
undoubled [] = []
undoubled (line ∷ []) = drop 1 line ∷ []
undoubled (line ∷ next ∷ more) = line ∷ undoubled (next ∷ more)

-- a line goes on with a text: in it each one, behind its '.' 's/.//' where the last line is '..', and behind that 'a'
abbrev pub is_taken : TextState → List (List ℕ) → List ℕ → Bool
is_taken Text before line = true
is_taken Ended before line = ends_double before && is_correction line
is_taken Corrected before line = is_append line

-- where such a line leads, and the text with it
abbrev pub step : TextState → List (List ℕ) → List ℕ → TextState × List (List ℕ)
step Text before line = if is_dot line then (Ended, before) else (Text, before ++ line ∷ [])
step Ended before line = (Corrected, undoubled before)
step Corrected before line = (Text, before)

-- no '.' has ended a text
abbrev pub is_open : TextState → Bool
is_open Text = true
is_open Ended = false
is_open Corrected = false

-- nothing goes on with a text: it is whole, unless no '.' came, which is a fault of the line of its command
abbrev pub closed : ℕ → TextState → List (List ℕ) → Ahead → Result (List (List ℕ) × Ahead) Fault
closed opened part before p = if is_open part then Err (fault opened kinds.EdNoDot) else Ok (before, p)

-- a text behind what was read of it, with what is ahead
unfoldable pub text_at : ℕ → TextState → List (List ℕ) → ℕ → List (List ℕ) → Result (List (List ℕ) × Ahead) Fault
text_at opened part before number [] = closed opened part before (ahead number [])
text_at opened part before number (line ∷ rest) = if is_taken part before line then text_at opened (step part before line).0 (step part before line).1 (number + 1) rest else closed opened part before (ahead number (line ∷ rest))

-- the first of these lines goes on with a text
abbrev pub goes_on : TextState → List (List ℕ) → List (List ℕ) → Bool
goes_on part before [] = false
goes_on part before (line ∷ rest) = is_taken part before line
