-- What stands at the fixed places of a stamp.
use Rattle.std.specs.Prelude.{ℕ, ◌+◌, ◌-◌, ◌*◌, ◌/◌, Bool, true, nat_le, ◌&&◌, ◌==◌, if◌then◌else◌, List, [], ◌∷◌, length, drop, slice_index, slice_range, Option, None, Some, ℤ, pos, neg_ℤ, ◌+ℤ◌, ◌-ℤ◌, ◌*ℤ◌, option_map}
use Rattle.std.specs.Option.{option_and_then, option_or}
use Rattle.std.specs.List.{position}
use Rattle.std.specs.Str.{bytes_eq}
use Rattle.jiff_core.specs.Calendar.{days_in_month, days_from_civil}
use Rattle.num_text.specs.Numbers.{is_digit, after_digits}
use Rattle.outside.specs.declared.time.Time.{Time}
use Rattle.stamp.specs.Forms.{weekdays, months}
use Rattle.stamp.specs.declared.Stamp.{Stamp}
use Rattle.stamp.specs.declared.Stamp.TheVariants.{Known, Unknown}

-- the byte stands there; past the end stands 0
abbrev pub stands : List ℕ → ℕ → ℕ → Bool
stands text at byte = slice_index text at == byte

unfoldable pub digit_at : List ℕ → ℕ → Option ℕ
digit_at text at = if is_digit (slice_index text at) then Some (slice_index text at - 48) else None

unfoldable pub two_at : List ℕ → ℕ → Option ℕ
two_at text at = option_and_then (λ tens. option_map (λ ones. tens * 10 + ones) (digit_at text (at + 1))) (digit_at text at)

unfoldable pub four_at : List ℕ → ℕ → Option ℕ
four_at text at = option_and_then (λ high. option_map (λ low. high * 100 + low) (two_at text (at + 2))) (two_at text at)

abbrev pub is_day : ℕ → ℕ → ℕ → Bool
is_day year month day = nat_le 1 year && nat_le year 9999 && nat_le 1 month && nat_le month 12 && nat_le 1 day && nat_le day (days_in_month (pos year) month)

-- the number of a day, where the calendar has it
unfoldable pub day_number : ℕ → ℕ → ℕ → Option ℤ
day_number year month day = if is_day year month day then Some (days_from_civil (pos year) month day) else None

-- `HH:MM:SS` in the places 11 to 18 of both forms
unfoldable pub clock_of : List ℕ → Option ℕ
clock_of text = option_and_then (λ hour. option_and_then (λ minute. option_and_then (λ second.
    if stands text 13 58 && stands text 16 58 && nat_le hour 23 && nat_le minute 59 && nat_le second 59 then Some (hour * 3600 + minute * 60 + second) else None)
    (two_at text 17)) (two_at text 14)) (two_at text 11)

-- `YYYY-MM-DD ` in the places 0 to 10
unfoldable pub numeric_day : List ℕ → Option ℤ
numeric_day text = option_and_then (λ year. option_and_then (λ month. option_and_then (λ day.
    if stands text 4 45 && stands text 7 45 && stands text 10 32 then day_number year month day else None)
    (two_at text 8)) (two_at text 5)) (four_at text 0)

-- ` +HHMM` or ` -HHMM`, and nothing more
unfoldable pub offset_of : List ℕ → Option ℤ
offset_of rest = option_and_then (λ hours. option_and_then (λ minutes.
    if (length rest == 6) && stands rest 0 32 && nat_le hours 23 && nat_le minutes 59
    then (if stands rest 1 43 then Some (pos (hours * 3600 + minutes * 60)) else (if stands rest 1 45 then Some (neg_ℤ (pos (hours * 3600 + minutes * 60))) else None))
    else None)
    (two_at rest 4)) (two_at rest 2)

-- an offset, or nothing at all, which counts as none
unfoldable pub zone_of : List ℕ → Option ℤ
zone_of rest = if length rest == 0 then Some (pos 0) else offset_of rest

-- what stands after a fraction at the front
unfoldable pub after_fraction : List ℕ → List ℕ
after_fraction rest = if stands rest 0 46 && is_digit (slice_index rest 1) then after_digits (drop 1 rest) else rest

-- what the digits at the front come to, where the first counts so many
unfoldable pub worth_in : ℕ → List ℕ → ℕ
worth_in unit [] = 0
worth_in unit (b ∷ bs) = if is_digit b then (b - 48) * unit + worth_in (unit / 10) bs else 0

-- the nanoseconds of a fraction at the front, 0 where there is none
unfoldable pub nanoseconds_in : List ℕ → ℕ
nanoseconds_in rest = if stands rest 0 46 then worth_in 100_000_000 (drop 1 rest) else 0

-- a time by the clock of UTC where a zone is told behind it, else by one of no known zone
abbrev pub time_by : List ℕ → ℤ → ℕ → Time
time_by zone seconds nanoseconds = record { seconds = seconds; nanoseconds = nanoseconds; is_local = length zone == 0 }

-- a whole second by a clock of no known zone
abbrev pub local_time : ℤ → Time
local_time seconds = record { seconds = seconds; nanoseconds = 0; is_local = true }

unfoldable pub numeric_of : List ℕ → Option Time
numeric_of text = option_and_then (λ day. option_and_then (λ clock. option_map (λ zone.
    time_by (after_fraction (drop 19 text)) (day *ℤ pos 86_400 +ℤ pos clock -ℤ zone) (nanoseconds_in (drop 19 text)))
    (zone_of (after_fraction (drop 19 text)))) (clock_of text)) (numeric_day text)

-- the place of three letters among names, counted from 0
unfoldable pub place_among : List (List ℕ) → List ℕ → Option ℕ
place_among names name = position (λ each. bytes_eq each name) names

-- a day of the month in the places 8 and 9
unfoldable pub day_of : List ℕ → Option ℕ
day_of text = if stands text 8 32 then digit_at text 9 else two_at text 8

-- `Www Mmm DD ` and ` YYYY` around the clock
unfoldable pub named_day : List ℕ → Option ℤ
named_day text = option_and_then (λ _. option_and_then (λ month. option_and_then (λ day. option_and_then (λ year.
    if stands text 3 32 && stands text 7 32 && stands text 10 32 && stands text 19 32 then day_number year (month + 1) day else None)
    (four_at text 20)) (day_of text)) (place_among months (slice_range text 4 7))) (place_among weekdays (slice_range text 0 3))

unfoldable pub named_of : List ℕ → Option Time
named_of text = if length text == 24 then option_and_then (λ day. option_map (λ clock. local_time (day *ℤ pos 86_400 +ℤ pos clock)) (clock_of text)) (named_day text) else None

-- the time, or nothing that is known
abbrev pub as_stamp : Option Time → Stamp
as_stamp None = Unknown
as_stamp (Some time) = Known time

-- what the text says, read in the one form or else in the other
abbrev pub stamp_of : List ℕ → Stamp
stamp_of text = as_stamp (option_or (numeric_of text) (named_of text))
