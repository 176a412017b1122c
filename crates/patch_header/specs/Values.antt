-- The name, the word and the stamp behind the beginning of a header line (POSIX `patch`, "Filename Determination"; GNU diffutils manual, "Detailed Description of Unified Format").
use Rattle.std.specs.Prelude.{ℕ, ◌+◌, ◌<◌, ◌≤◌, Bool, not, ◌||◌, ◌==◌, List, length, drop, slice_range, unwrap_or, Option, None, Some, if◌then◌else◌}
use Rattle.std.specs.List.{position}
use Rattle.line_list.specs.declared.Span.{Span}
use Rattle.read_header_record.specs.Quoted.{begins_quoted, quoted_length}
use Rattle.stamp.specs.Reading.{stamp_of}
use Rattle.stamp.specs.declared.Stamp.{Stamp}
use Rattle.stamp.specs.declared.Stamp.TheVariants.{Unknown}
use Rattle.patch_header.specs.declared.region.Tail.{Tail}

-- a space or a tab
abbrev pub is_blank : ℕ → Bool
is_blank b = b == 32 || b == 9

-- a blank, or LF, VT, FF or CR
abbrev pub is_white : ℕ → Bool
is_white b = is_blank b || (b == 10 || b == 11 || b == 12 || b == 13)

-- where the first byte that passes stands, or the end
abbrev pub first : (ℕ → Bool) → List ℕ → ℕ
first test bytes = unwrap_or (position test bytes) (length bytes)

-- how many blanks stand in front
abbrev pub blanks : List ℕ → ℕ
blanks bytes = first (λ b. not (is_blank b)) bytes

-- the bytes behind the blanks in front
abbrev pub unblanked : List ℕ → List ℕ
unblanked bytes = drop (blanks bytes) bytes

-- a name without quotes ends at the first tab, else at the first space, else at the end
abbrev pub bare_length : List ℕ → ℕ
bare_length bytes = unwrap_or (position (λ b. b == 9) bytes) (first (λ b. b == 32) bytes)

-- a name in quotes has its quotes with it, and is none where they are no string of C; another one ends where this says
abbrev pub length_or : ℕ → List ℕ → ℕ
length_or bare bytes = if begins_quoted bytes then unwrap_or (quoted_length bytes) 0 else bare

abbrev pub name_length : List ℕ → ℕ
name_length bytes = length_or (bare_length bytes) bytes

-- in an `Index:` line it goes up to the first tab, else up to the end. GNU patch takes no name that ends in a blank or a
-- tab; here a tab ends it, since the filters write one behind a name with a space
abbrev pub index_length : List ℕ → ℕ
index_length bytes = length_or (first (λ b. b == 9) bytes) bytes

-- a word ends at the first white space
abbrev pub word_length : List ℕ → ℕ
word_length bytes = first is_white bytes

-- so many bytes from a place on; no byte is no span
abbrev pub span_at : ℕ → ℕ → Option Span
span_at start len = if len == 0 then None else Some (record { start = start; end = start + len })

-- the bytes of a tail
abbrev pub bytes_of : List ℕ → Tail → List ℕ
bytes_of text t = slice_range text t.start t.end

-- the name behind the blanks. A last line of its kind with an empty name counts, and gives none. A carriage return is part
-- of a name, but ends the word of `Prereq:`
abbrev pub name_in : List ℕ → Option Tail → Option Span
name_in text None = None
name_in text (Some t) = span_at (t.start + blanks (bytes_of text t)) (name_length (unblanked (bytes_of text t)))

-- the same of an `Index:` line
abbrev pub index_in : List ℕ → Option Tail → Option Span
index_in text None = None
index_in text (Some t) = span_at (t.start + blanks (bytes_of text t)) (index_length (unblanked (bytes_of text t)))

-- the word behind the blanks
abbrev pub word_in : List ℕ → Option Tail → Option Span
word_in text None = None
word_in text (Some t) = span_at (t.start + blanks (bytes_of text t)) (word_length (unblanked (bytes_of text t)))

-- what stands behind a name and the blanks after it
abbrev pub behind_name : List ℕ → List ℕ
behind_name bytes = unblanked (drop (name_length bytes) bytes)

-- what the stamp behind the name says
abbrev pub stamp_in : List ℕ → Option Tail → Stamp
stamp_in text None = Unknown
stamp_in text (Some t) = stamp_of (behind_name (unblanked (bytes_of text t)))

-- one byte of the text, or more
pub record IsPieceOf (text : List ℕ) (s : Span) : Type 0 where
  pub some : s.start < s.end
  pub high : s.end ≤ length text
