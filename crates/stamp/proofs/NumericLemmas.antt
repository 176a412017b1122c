-- A numeric stamp is read as its time, and nothing else is.
use Rattle.std.proofs.Common.{◌≡◌, ℕ, ◌+◌, ◌*◌, List, Bool, eqb, ◌∷◌, ◌++◌, length, drop, None, Some, refl, sym, ap, ◌∙◌}
use Rattle.std.specs.Prelude.{is_none, ℤ, pos, ◌+ℤ◌, ◌-ℤ◌, ◌*ℤ◌}
use Rattle.std.proofs.lemmas.Option.{option_and_then_some}
use Rattle.jiff_core.specs.Calendar.{days_from_civil}
use Rattle.outside.specs.declared.time.Time.{Time}
use Rattle.stamp.specs.Forms.{two, four, Civil, seconds, time_text, zone_text, zone_seconds, nanoseconds_of, IsNumericStamp}
use Rattle.stamp.specs.Reading.{clock_of, zone_of, after_fraction, numeric_day, nanoseconds_in, time_by, numeric_of}
use Rattle.stamp.proofs.OptionLemmas.{map-some}
use Rattle.stamp.proofs.Parts.{Clock, clock-some, clock-read, NumericDay, numeric_day-some, numeric_day-read, Zone, zone-some, zone-read, zone-none, zone-ends, fraction-some, fraction-read}
use Rattle.stamp.proofs.Fractions.{nanoseconds-read}

-- a time is made of its parts
pub same-time : (time : Time) (seconds : ℤ) (nanoseconds : ℕ) (local : Bool) → seconds ≡ time.seconds → nanoseconds ≡ time.nanoseconds → local ≡ time.is_local
    → record { seconds = seconds; nanoseconds = nanoseconds; is_local = local } ≡ time
same-time time seconds nanoseconds local s n l = λ i. record { seconds = s i; nanoseconds = n i; is_local = l i }

numeric-by : (text : List ℕ) (t : Time) (day zone : ℤ) (clock : ℕ) → NumericDay text day → Clock text clock → Zone (after_fraction (drop 19 text)) zone
    → time_by (after_fraction (drop 19 text)) (day *ℤ pos 86_400 +ℤ pos clock -ℤ zone) (nanoseconds_in (drop 19 text)) ≡ t → IsNumericStamp text t
numeric-by text t day zone clock d c o e =
    let f = fraction-some (drop 19 text) in
    let rest : drop 19 text ≡ f.bytes ++ zone_text o.offset = f.spelled ∙ ap (λ r. f.bytes ++ r) o.spelled in
    let civil : Civil = record { year = d.year; month = d.month; day = d.day; hour = c.hour; minute = c.minute; second = c.second } in
    let same : seconds civil ≡ day *ℤ pos 86_400 +ℤ pos clock = rw (d.value, c.value) refl in
    record {
      civil = civil;
      fraction = f.bytes;
      offset = o.offset;
      is_civil = record { day = d.is_day; time = c.time };
      is_fraction = f.is_fraction;
      is_offset = o.is_offset;
      spelled = d.spelled ∙ ap (λ r. four d.year ++ (45 ∷ two d.month) ++ (45 ∷ two d.day) ++ (32 ∷ r)) (c.spelled ∙ ap (λ r. time_text c.hour c.minute c.second ++ r) rest);
      seconds = ap (λ t. t.seconds) (sym e) ∙ (rw (same, o.value) refl);
      nanoseconds = ap (λ t. t.nanoseconds) (sym e) ∙ ap nanoseconds_in rest ∙ nanoseconds-read f.bytes (zone_text o.offset) f.is_fraction (zone-ends o.offset);
      in_its_zone = ap (λ t. t.is_local) (sym e) ∙ o.none;
    }

pub numeric-some : (text : List ℕ) (t : Time) → numeric_of text ≡ Some t → IsNumericStamp text t
unfolding numeric_of
numeric-some text t e =
    option_and_then_some _ (numeric_day text) t e (λ day d more.
    option_and_then_some _ (clock_of text) t more (λ clock c rest.
    map-some (λ zone. time_by (after_fraction (drop 19 text)) (day *ℤ pos 86_400 +ℤ pos clock -ℤ zone) (nanoseconds_in (drop 19 text))) (zone_of (after_fraction (drop 19 text))) t rest (λ zone o value.
    numeric-by text t day zone clock (numeric_day-some text day d) (clock-some text clock c) (zone-some (after_fraction (drop 19 text)) zone o) value)))

pub numeric-read : (text : List ℕ) (time : Time) → IsNumericStamp text time → numeric_of text ≡ Some time
unfolding numeric_of
numeric-read text time s =
    let c = s.civil in
    let t : List ℕ = four c.year ++ (45 ∷ two c.month) ++ (45 ∷ two c.day) ++ (32 ∷ time_text c.hour c.minute c.second) ++ s.fraction ++ zone_text s.offset in
    let day : numeric_day t ≡ Some (days_from_civil (pos c.year) c.month c.day) = numeric_day-read t c.year c.month c.day s.is_civil.day refl refl refl refl refl refl refl refl refl refl refl in
    let clock : clock_of t ≡ Some (c.hour * 3600 + c.minute * 60 + c.second) = clock-read t c.hour c.minute c.second s.is_civil.time refl refl refl refl refl refl refl refl in
    let past : after_fraction (drop 19 t) ≡ zone_text s.offset = fraction-read s.fraction (zone_text s.offset) s.is_fraction (zone-ends s.offset) in
    let zone : zone_of (after_fraction (drop 19 t)) ≡ Some (zone_seconds s.offset) = ap zone_of past ∙ zone-read s.offset s.is_offset in
    let nanoseconds : nanoseconds_in (drop 19 t) ≡ nanoseconds_of s.fraction = nanoseconds-read s.fraction (zone_text s.offset) s.is_fraction (zone-ends s.offset) in
    let local : eqb (length (after_fraction (drop 19 t))) 0 ≡ is_none s.offset = ap (λ r. eqb (length r) 0) past ∙ zone-none s.offset in
    ap numeric_of s.spelled ∙ (rw (day, clock, zone) (ap Some (same-time time _ _ _ (sym s.seconds) (nanoseconds ∙ sym s.nanoseconds) (local ∙ sym s.in_its_zone))))

pub numeric-of : (text : List ℕ) (day zone start : ℤ) (clock : ℕ) → numeric_day text ≡ Some day → clock_of text ≡ Some clock → zone_of (after_fraction (drop 19 text)) ≡ Some zone → start ≡ day *ℤ pos 86_400 +ℤ pos clock
    → numeric_of text ≡ Some (time_by (after_fraction (drop 19 text)) (start -ℤ zone) (nanoseconds_in (drop 19 text)))
unfolding numeric_of
numeric-of text day zone start clock d c o e = rw (d, c, o, e) refl

pub numeric-no_zone : (text : List ℕ) (day : ℤ) (clock : ℕ) → numeric_day text ≡ Some day → clock_of text ≡ Some clock → zone_of (after_fraction (drop 19 text)) ≡ None → numeric_of text ≡ None
unfolding numeric_of
numeric-no_zone text day clock d c o = rw (d, c, o) refl
