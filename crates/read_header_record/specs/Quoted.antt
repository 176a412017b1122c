-- Names in quotes, which are spelled as strings of C are (git-config(1), `core.quotePath`; GNU diffutils manual, "File Name Quoting").
use Rattle.std.specs.Prelude.{ℕ, zero, suc, ◌+◌, ◌-◌, ◌*◌, ◌/◌, ◌%◌, ◌<◌, Bool, false, nat_le, nat_lt, not, ◌&&◌, ◌==◌, List, [], ◌∷◌, ◌++◌, length, map, slice_index, sum_by, Option, None, Some, is_some, option_map, option_and_then, if◌then◌else◌}
use Rattle.std.specs.List.{flat_map}
use Rattle.read_header_record.specs.declared.quoted.SpelledByte.{SpelledByte}

-- the byte that a letter, a quote or a backslash stands for behind a backslash
abbrev pub letter_byte : ℕ → Option ℕ
letter_byte c = if c == 97 then Some 7
    else if c == 98 then Some 8
    else if c == 116 then Some 9
    else if c == 110 then Some 10
    else if c == 118 then Some 11
    else if c == 102 then Some 12
    else if c == 114 then Some 13
    else if c == 34 then Some 34
    else if c == 92 then Some 92
    else None

-- `0` to `7`
abbrev pub is_octal : ℕ → Bool
is_octal b = nat_le 48 b && nat_le b 55

-- what three octal digits come to
abbrev pub octal_value : ℕ → ℕ → ℕ → ℕ
octal_value a b c = (a - 48) * 64 + (b - 48) * 8 + (c - 48)

-- the byte that three octal digits stand for, from 001 to 377
abbrev pub octal_byte : ℕ → ℕ → ℕ → Option ℕ
octal_byte a b c = if is_octal a && is_octal b && is_octal c && nat_lt 0 (octal_value a b c) && nat_lt (octal_value a b c) 256 then Some (octal_value a b c) else None

-- a byte behind a backslash: one letter, or else three digits
abbrev pub escaped : List ℕ → Option SpelledByte
escaped bytes = if is_some (letter_byte (slice_index bytes 1)) then option_map (λ b. record { byte = b; size = 2 }) (letter_byte (slice_index bytes 1))
    else option_map (λ b. record { byte = b; size = 4 }) (octal_byte (slice_index bytes 1) (slice_index bytes 2) (slice_index bytes 3))

-- the byte that is spelled in front; none where a backslash begins no spelling
unfoldable pub spelling : List ℕ → Option SpelledByte
spelling bytes = if slice_index bytes 0 == 92 then escaped bytes else Some (record { byte = slice_index bytes 0; size = 1 })

-- the spellings up to the first quote that is none's, where the first bytes belong to a spelling before them
unfoldable pub spellings : ℕ → List ℕ → Option (List SpelledByte)
spellings k [] = None
spellings zero (b ∷ bs) = if b == 34 then Some [] else option_and_then (λ s. option_map (λ ss. s ∷ ss) (spellings (s.size - 1) bs)) (spelling (b ∷ bs))
spellings (suc k) (b ∷ bs) = spellings k bs

-- how long these are, both quotes with them
abbrev pub size_of : List SpelledByte → ℕ
size_of ss = 2 + sum_by (λ s. s.size) ss

-- the spellings in quotes in front
abbrev pub in_quotes : List ℕ → Option (List SpelledByte)
in_quotes [] = None
in_quotes (b ∷ bs) = if b == 34 then spellings 0 bs else None

-- how long the name in quotes is that stands in front, both quotes with it
abbrev pub quoted_length : List ℕ → Option ℕ
quoted_length bytes = option_map size_of (in_quotes bytes)

-- the bytes that are spelled, where nothing follows
abbrev pub spelled : ℕ → List SpelledByte → Option (List ℕ)
spelled length ss = if size_of ss == length then Some (map (λ s. s.byte) ss) else None

-- the name that is spelled by all of a text in quotes
abbrev pub unquoted : List ℕ → Option (List ℕ)
unquoted text = option_and_then (spelled (length text)) (in_quotes text)

abbrev pub begins_quoted : List ℕ → Bool
begins_quoted [] = false
begins_quoted (b ∷ bs) = b == 34

-- the name that a text in a header stands for: what is spelled in quotes, or the text as it is. What stands behind the last
-- quote is passed over in header and `Index:` lines, and makes the line of a rename or a copy name no file. A header line
-- whose quotes are no string of C gives no stamp either
abbrev pub name_of : List ℕ → Option (List ℕ)
name_of text = if begins_quoted text then unquoted text else Some text

-- ---- names as git writes them in quotes

-- a letter for a byte that has one, digits for other control bytes and for bytes above `~`
abbrev pub letters : ℕ → List ℕ
letters b = if b == 7 then 97 ∷ []
    else if b == 8 then 98 ∷ []
    else if b == 9 then 116 ∷ []
    else if b == 10 then 110 ∷ []
    else if b == 11 then 118 ∷ []
    else if b == 12 then 102 ∷ []
    else if b == 13 then 114 ∷ []
    else if b == 34 then 34 ∷ []
    else if b == 92 then 92 ∷ []
    else (48 + b / 8 / 8) ∷ (48 + b / 8 % 8) ∷ (48 + b % 8) ∷ []

abbrev pub is_plain : ℕ → Bool
is_plain b = nat_le 32 b && nat_le b 126 && (not (b == 34) && not (b == 92))

abbrev pub spelled_byte : ℕ → List ℕ
spelled_byte b = if is_plain b then b ∷ [] else 92 ∷ letters b

unfoldable pub quoted : List ℕ → List ℕ
quoted name = 34 ∷ (flat_map spelled_byte name ++ 34 ∷ [])

-- a byte of a name
abbrev pub IsNameByte : ℕ → Type 0
IsNameByte b = (0 < b) × (b < 256)
