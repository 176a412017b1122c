-- The two forms of a stamp in a header line, the first with or without an offset, and the time of each (POSIX `patch`; GNU diffutils manual, "Unified Format" and "Context Format").
use Rattle.std.specs.Prelude.{◌≡◌, ◌⊎◌, ℕ, ◌+◌, ◌-◌, ◌*◌, ◌/◌, ◌%◌, ◌<◌, ◌≤◌, Bool, true, if◌then◌else◌, List, [], ◌∷◌, ◌++◌, length, slice_index_or, Option, None, Some, IfSome, is_none, ℤ, pos, neg_ℤ, ◌+ℤ◌, ◌-ℤ◌, ◌*ℤ◌, codes}
use Rattle.std.specs.Int.{IsInRange}
use Rattle.jiff_core.specs.Calendar.{days_in_month, days_from_civil}
use Rattle.num_text.specs.Numbers.{AllDigits}
use Rattle.outside.specs.declared.time.Time.{Time}

-- a number below a hundred in two digits
abbrev pub two : ℕ → List ℕ
two n = (48 + n / 10) ∷ (48 + n % 10) ∷ []

-- a number below ten thousand in four digits
abbrev pub four : ℕ → List ℕ
four n = two (n / 100) ++ two (n % 100)

-- what a calendar and a clock show
pub record Civil : Type 0 where
  pub year : ℕ
  pub month : ℕ
  pub day : ℕ
  pub hour : ℕ
  pub minute : ℕ
  pub second : ℕ

-- a day that the proleptic Gregorian calendar has
pub record IsDay (year month day : ℕ) : Type 0 where
  pub years : IsInRange 1 9999 year
  pub months : IsInRange 1 12 month
  pub days : IsInRange 1 (days_in_month (pos year) month) day

-- a time of day
pub record IsTime (hour minute second : ℕ) : Type 0 where
  pub hours : hour ≤ 23
  pub minutes : minute ≤ 59
  pub seconds : second ≤ 59

pub record IsCivil (c : Civil) : Type 0 where
  pub day : IsDay c.year c.month c.day
  pub time : IsTime c.hour c.minute c.second

-- seconds from 1970-01-01 00:00:00 on, each day having 86,400
abbrev pub seconds : Civil → ℤ
seconds c = days_from_civil (pos c.year) c.month c.day *ℤ pos 86_400 +ℤ pos (c.hour * 3600 + c.minute * 60 + c.second)

-- `HH:MM:SS`
abbrev pub time_text : ℕ → ℕ → ℕ → List ℕ
time_text hour minute second = two hour ++ (58 ∷ two minute) ++ (58 ∷ two second)

-- how far a zone's clocks stand from UTC, and whether to the east
pub record Offset : Type 0 where
  pub is_east : Bool
  pub hours : ℕ
  pub minutes : ℕ

-- `+HHMM` or `-HHMM`
abbrev pub offset_text : Offset → List ℕ
offset_text o = (if o.is_east then 43 else 45) ∷ two o.hours ++ two o.minutes

abbrev pub offset_seconds : Offset → ℤ
offset_seconds o = if o.is_east then pos (o.hours * 3600 + o.minutes * 60) else neg_ℤ (pos (o.hours * 3600 + o.minutes * 60))

-- an offset of less than a day
abbrev pub IsOffset : Offset → Type 0
IsOffset o = (o.hours ≤ 23) × (o.minutes ≤ 59)

-- a space and the offset, or nothing where no zone is told
abbrev pub zone_text : Option Offset → List ℕ
zone_text None = []
zone_text (Some o) = 32 ∷ offset_text o

-- what a clock of no known zone shows stays as it is
abbrev pub zone_seconds : Option Offset → ℤ
zone_seconds None = pos 0
zone_seconds (Some o) = offset_seconds o

-- a fraction of a second: nothing, or a dot and digits
abbrev pub IsFraction : List ℕ → Type 0
IsFraction bytes = (bytes ≡ []) ⊎ ((digits : List ℕ) × (bytes ≡ 46 ∷ digits) × (0 < length digits) × AllDigits digits)

-- what digits come to, where the first counts so many and each of the others a tenth of the one before it; what counts less than 1 counts nothing
unfoldable pub worth : ℕ → List ℕ → ℕ
worth unit [] = 0
worth unit (d ∷ ds) = (d - 48) * unit + worth (unit / 10) ds

-- the nanoseconds of a fraction: its first nine digits
abbrev pub nanoseconds_of : List ℕ → ℕ
nanoseconds_of [] = 0
nanoseconds_of (point ∷ digits) = worth 100_000_000 digits

-- `YYYY-MM-DD HH:MM:SS`, perhaps a fraction, perhaps a space and an offset: the civil time minus the offset, or without one the civil time in no known zone
pub record IsNumericStamp (text : List ℕ) (time : Time) : Type 0 where
  pub civil : Civil
  pub fraction : List ℕ
  pub offset : Option Offset
  pub is_civil : IsCivil civil
  pub is_fraction : IsFraction fraction
  pub is_offset : IfSome offset IsOffset
  pub spelled : text ≡ four civil.year ++ (45 ∷ two civil.month) ++ (45 ∷ two civil.day) ++ (32 ∷ time_text civil.hour civil.minute civil.second) ++ fraction ++ zone_text offset
  pub seconds : time.seconds ≡ seconds civil -ℤ zone_seconds offset
  pub nanoseconds : time.nanoseconds ≡ nanoseconds_of fraction
  pub in_its_zone : time.is_local ≡ is_none offset

abbrev pub weekdays : List (List ℕ)
weekdays = codes "Mon" ∷ codes "Tue" ∷ codes "Wed" ∷ codes "Thu" ∷ codes "Fri" ∷ codes "Sat" ∷ codes "Sun" ∷ []

abbrev pub months : List (List ℕ)
months = codes "Jan" ∷ codes "Feb" ∷ codes "Mar" ∷ codes "Apr" ∷ codes "May" ∷ codes "Jun" ∷ codes "Jul" ∷ codes "Aug" ∷ codes "Sep" ∷ codes "Oct" ∷ codes "Nov" ∷ codes "Dec" ∷ []

-- a day of the month in two places: two digits, or a space and a digit
abbrev pub IsDayText : ℕ → List ℕ → Type 0
IsDayText day bytes = (bytes ≡ two day) ⊎ ((day < 10) × (bytes ≡ 32 ∷ (48 + day) ∷ []))

-- `Www Mmm DD HH:MM:SS YYYY`, in no known zone; the weekday may be any
pub record IsNamedStamp (text : List ℕ) (time : Time) : Type 0 where
  pub weekday : ℕ
  pub civil : Civil
  pub day_text : List ℕ
  pub is_weekday : weekday < 7
  pub is_civil : IsCivil civil
  pub is_day_text : IsDayText civil.day day_text
  pub spelled : text ≡ slice_index_or weekdays weekday [] ++ (32 ∷ slice_index_or months (civil.month - 1) []) ++ (32 ∷ day_text) ++ (32 ∷ time_text civil.hour civil.minute civil.second) ++ (32 ∷ four civil.year)
  pub seconds : time.seconds ≡ seconds civil
  pub whole : time.nanoseconds ≡ 0
  pub in_no_zone : time.is_local ≡ true

-- the text is a stamp of this time
abbrev pub IsStamp : List ℕ → Time → Type 0
IsStamp text time = IsNumericStamp text time ⊎ IsNamedStamp text time
