-- A named stamp is read as its time, and nothing else is.
use Rattle.std.proofs.Common.{◌≡◌, ℕ, ◌+◌, ◌-◌, ◌*◌, ◌/◌, ◌%◌, ◌<◌, Bool, true, false, cond, eqb, ◌&&◌, List, [], ◌∷◌, ◌++◌, length, get_or, take, drop, None, Some, refl, sym, ap, ◌∙◌, arith, inl, inr, append_assoc, length-drop}
use Rattle.std.specs.Prelude.{ℤ, pos, ◌+ℤ◌, ◌*ℤ◌, slice_range}
use Rattle.std.proofs.lemmas.Bool.{and_parts, and_from, eqb-true}
use Rattle.std.proofs.lemmas.List.{take-append-drop, drop-drop}
use Rattle.std.proofs.lemmas.Option.{option_and_then_some}
use Rattle.std.specs.Option.{option_map, option_and_then}
use Rattle.jiff_core.specs.Calendar.{days_from_civil}
use Rattle.outside.specs.declared.time.Time.{Time}
use Rattle.stamp.specs.Forms.{two, four, Civil, IsCivil, IsDay, IsDayText, seconds, time_text, IsNamedStamp, IsStamp, weekdays, months}
use Rattle.stamp.specs.Reading.{stands, digit_at, two_at, four_at, day_number, clock_of, day_of, place_among, named_day, named_of, local_time, numeric_day, numeric_of}
use Rattle.stamp.proofs.OptionLemmas.{map-some, if-other}
use Rattle.stamp.proofs.Digits.{byte-piece, piece, digit-some, digit-read, digit-none, two-piece, two-read, four-piece, four-read}
use Rattle.stamp.proofs.Parts.{Clock, clock-some, clock-read, day-some, day-read, day-small}
use Rattle.stamp.proofs.NumericLemmas.{same-time, numeric-read}
use Rattle.stamp.proofs.NameLemmas.{place-some, Letters, weekday-letters, month-letters}

pub record DayPlace (text : List ℕ) (day : ℕ) : Type 0 where
  pub bytes : List ℕ
  pub is : IsDayText day bytes
  pub spelled : drop 8 text ≡ bytes ++ drop 10 text

day-by : (text : List ℕ) (day : ℕ) (v : Bool) → stands text 8 32 ≡ v → cond v (digit_at text 9) (two_at text 8) ≡ Some day → DayPlace text day
day-by text day true e found =
    let d = digit-some text 9 day found in
    record { bytes = 32 ∷ (48 + day) ∷ []; is = inr (d.0, refl); spelled = byte-piece text 8 32 e (omega arith) ∙ ap (λ r. 32 ∷ r) (piece text 9 (48 + day) d.1 (omega arith)) }
day-by text day false e found = record { bytes = two day; is = inl refl; spelled = two-piece text 8 day found }

pub day_of-some : (text : List ℕ) (day : ℕ) → day_of text ≡ Some day → DayPlace text day
unfolding day_of
day_of-some text day e = day-by text day (stands text 8 32) refl e

-- what stands around the clock of a named stamp
pub record NamedDay (text : List ℕ) (z : ℤ) : Type 0 where
  pub weekday : ℕ
  pub year : ℕ
  pub month : ℕ
  pub day : ℕ
  pub day_text : List ℕ
  pub is_weekday : weekday < 7
  pub is_day : IsDay year (month + 1) day
  pub is_day_text : IsDayText day day_text
  pub value : z ≡ days_from_civil (pos year) (month + 1) day
  pub front : text ≡ get_or weekdays weekday [] ++ (32 ∷ (get_or months month [] ++ (32 ∷ (day_text ++ (32 ∷ drop 11 text)))))
  pub back : drop 19 text ≡ 32 ∷ (four year ++ drop 24 text)

named_day-by : (text : List ℕ) (z : ℤ) (weekday month day year : ℕ) → place_among weekdays (slice_range text 0 3) ≡ Some weekday → place_among months (slice_range text 4 7) ≡ Some month → day_of text ≡ Some day → four_at text 20 ≡ Some year
    → cond (stands text 3 32 && stands text 7 32 && stands text 10 32 && stands text 19 32) (day_number year (month + 1) day) None ≡ Some z → NamedDay text z
named_day-by text z weekday month day year w m d y e =
    let found = if-other (stands text 3 32 && stands text 7 32 && stands text 10 32 && stands text 19 32) (day_number year (month + 1) day) z e in
    let s = and_parts _ _ found.0 in
    let t = and_parts _ _ s.0 in
    let u = and_parts _ _ t.0 in
    let wn = place-some weekdays (slice_range text 0 3) weekday w in
    let mn = place-some months (slice_range text 4 7) month m in
    let dp = day_of-some text day d in
    let is = day-some year (month + 1) day z found.1 in
    let middle : drop 4 text ≡ get_or months month [] ++ drop 7 text = sym (take-append-drop 3 (drop 4 text)) ∙ ap (λ r. take 3 (drop 4 text) ++ r) (drop-drop 3 4 text) ∙ ap (λ r. r ++ drop 7 text) (sym mn.1) in
    let start : text ≡ get_or weekdays weekday [] ++ drop 3 text = sym (take-append-drop 3 text) ∙ ap (λ r. r ++ drop 3 text) (sym wn.1) in
    record {
      weekday = weekday;
      year = year;
      month = month;
      day = day;
      day_text = dp.bytes;
      is_weekday = wn.0;
      is_day = is.0;
      is_day_text = dp.is;
      value = is.1;
      front = start ∙ ap (λ r. get_or weekdays weekday [] ++ r) (byte-piece text 3 32 u.0 (omega arith)
          ∙ ap (λ r. 32 ∷ r) (middle ∙ ap (λ r. get_or months month [] ++ r) (byte-piece text 7 32 u.1 (omega arith)
          ∙ ap (λ r. 32 ∷ r) (dp.spelled ∙ ap (λ r. dp.bytes ++ r) (byte-piece text 10 32 t.1 (omega arith))))));
      back = byte-piece text 19 32 s.1 (omega arith) ∙ ap (λ r. 32 ∷ r) (four-piece text 20 year y).1;
    }

pub named_day-some : (text : List ℕ) (z : ℤ) → named_day text ≡ Some z → NamedDay text z
unfolding named_day
named_day-some text z e =
    option_and_then_some _ (place_among weekdays (slice_range text 0 3)) z e (λ weekday w more.
    option_and_then_some _ (place_among months (slice_range text 4 7)) z more (λ month m rest.
    option_and_then_some _ (day_of text) z rest (λ day d last.
    option_and_then_some _ (four_at text 20) z last (λ year y end. named_day-by text z weekday month day year w m d y end))))

none-left : (xs : List ℕ) → length xs ≡ 0 → xs ≡ []
none-left [] e = refl
none-left (x ∷ xs) e = absurd (omega arith)

regroup : (a b c d e : List ℕ) → a ++ (b ++ (c ++ (d ++ e))) ≡ (((a ++ b) ++ c) ++ d) ++ e
regroup a b c d e = simp append_assoc

named-by : (text : List ℕ) (t : Time) (day : ℤ) (clock : ℕ) → length text ≡ 24 → NamedDay text day → Clock text clock → local_time (day *ℤ pos 86_400 +ℤ pos clock) ≡ t → IsNamedStamp text t
named-by text t day clock long d c e =
    let civil : Civil = record { year = d.year; month = d.month + 1; day = d.day; hour = c.hour; minute = c.minute; second = c.second } in
    let same : seconds civil ≡ day *ℤ pos 86_400 +ℤ pos clock = rw (d.value, c.value) refl in
    let back : d.month + 1 - 1 ≡ d.month = omega arith in
    let end : drop 24 text ≡ [] = none-left (drop 24 text) (omega (arith, length-drop 24 text)) in
    let year : List ℕ = 32 ∷ four d.year in
    let clocks : List ℕ = 32 ∷ time_text c.hour c.minute c.second in
    let tail : drop 11 text ≡ time_text c.hour c.minute c.second ++ year = c.spelled ∙ ap (λ r. time_text c.hour c.minute c.second ++ r) (d.back ∙ ap (λ r. 32 ∷ (four d.year ++ r)) end) in
    let whole : text ≡ get_or weekdays d.weekday [] ++ ((32 ∷ get_or months d.month []) ++ ((32 ∷ d.day_text) ++ (clocks ++ year))) = d.front ∙ ap (λ r. get_or weekdays d.weekday [] ++ (32 ∷ (get_or months d.month [] ++ (32 ∷ (d.day_text ++ (32 ∷ r)))))) tail in
    record {
      weekday = d.weekday;
      civil = civil;
      day_text = d.day_text;
      is_weekday = d.is_weekday;
      is_civil = record { day = d.is_day; time = c.time };
      is_day_text = d.is_day_text;
      spelled = rw back (whole ∙ regroup (get_or weekdays d.weekday []) (32 ∷ get_or months d.month []) (32 ∷ d.day_text) clocks year);
      seconds = ap (λ t. t.seconds) (sym e) ∙ sym same;
      whole = ap (λ t. t.nanoseconds) (sym e);
      in_no_zone = ap (λ t. t.is_local) (sym e);
    }

pub named-some : (text : List ℕ) (t : Time) → named_of text ≡ Some t → IsNamedStamp text t
unfolding named_of
named-some text t e =
    let found = if-other (eqb (length text) 24) (option_and_then (λ day. option_map (λ clock. local_time (day *ℤ pos 86_400 +ℤ pos clock)) (clock_of text)) (named_day text)) t e in
    option_and_then_some _ (named_day text) t found.1 (λ day d more.
    map-some (λ clock. local_time (day *ℤ pos 86_400 +ℤ pos clock)) (clock_of text) t more (λ clock c value.
    named-by text t day clock (eqb-true _ _ found.0) (named_day-some text day d) (clock-some text clock c) value))

-- ---- back

module _ (w1 w2 w3 m1 m2 m3 d1 d2 : ℕ) (c : Civil) where
  pub plain : List ℕ
  plain = w1 ∷ w2 ∷ w3 ∷ 32 ∷ m1 ∷ m2 ∷ m3 ∷ 32 ∷ d1 ∷ d2 ∷ 32 ∷ (time_text c.hour c.minute c.second ++ (32 ∷ four c.year))

  pub plain-read : (weekday month : ℕ) → IsCivil c → place_among weekdays (w1 ∷ w2 ∷ w3 ∷ []) ≡ Some weekday → place_among months (m1 ∷ m2 ∷ m3 ∷ []) ≡ Some month → month + 1 ≡ c.month
      → day_of plain ≡ Some c.day → named_of plain ≡ Some (local_time (seconds c))
  unfolding plain named_of named_day
  plain-read weekday month is w m e d =
      let y : four_at plain 20 ≡ Some c.year = four-read plain 20 c.year refl refl refl refl (omega (arith, is.day.years.1)) in
      let clock : clock_of plain ≡ Some (c.hour * 3600 + c.minute * 60 + c.second) = clock-read plain c.hour c.minute c.second is.time refl refl refl refl refl refl refl refl in
      rw (w, m, d, y, e, day-read c.year c.month c.day is.day, clock) refl

  -- letters are no numeric stamp
  pub plain-no_number : 57 < w1 → numeric_of plain ≡ None
  unfolding plain numeric_of numeric_day four_at two_at
  plain-no_number letter = let none : digit_at plain 0 ≡ None = digit-none plain 0 letter in rw none refl

  pub plain-padded : d1 ≡ 32 → d2 ≡ 48 + c.day → c.day < 10 → day_of plain ≡ Some c.day
  unfolding plain day_of
  plain-padded e f lt = rw e (digit-read _ 9 c.day f lt)

  pub plain-two : d1 ≡ 48 + c.day / 10 → d2 ≡ 48 + c.day % 10 → c.day < 100 → day_of plain ≡ Some c.day
  unfolding plain day_of
  plain-two e f lt = let no : eqb d1 32 ≡ false = grind arith in rw no (two-read _ 8 c.day e f lt)

spelled-two : (text : List ℕ) (t : Time) (s : IsNamedStamp text t) → (w : Letters weekdays s.weekday) (m : Letters months (s.civil.month - 1)) → s.day_text ≡ two s.civil.day → text ≡ plain w.a w.b w.c m.a m.b m.c (48 + s.civil.day / 10) (48 + s.civil.day % 10) s.civil
unfolding plain
spelled-two text t s w m e = s.spelled ∙ (rw (w.is, m.is, e) refl)

spelled-padded : (text : List ℕ) (t : Time) (s : IsNamedStamp text t) → (w : Letters weekdays s.weekday) (m : Letters months (s.civil.month - 1)) → s.day_text ≡ 32 ∷ (48 + s.civil.day) ∷ [] → text ≡ plain w.a w.b w.c m.a m.b m.c 32 (48 + s.civil.day) s.civil
unfolding plain
spelled-padded text t s w m e = s.spelled ∙ (rw (w.is, m.is, e) refl)

pub named-read : (text : List ℕ) (time : Time) → IsNamedStamp text time → (numeric_of text ≡ None) × (named_of text ≡ Some time)
named-read text time s =
    let c = s.civil in
    let w : Letters weekdays s.weekday = weekday-letters s.weekday s.is_weekday in
    let m : Letters months (c.month - 1) = month-letters (c.month - 1) (omega (arith, s.is_civil.day.months.0, s.is_civil.day.months.1)) in
    let back : c.month - 1 + 1 ≡ c.month = omega (arith, s.is_civil.day.months.0) in
    let value : local_time (seconds c) ≡ time = same-time time _ _ true (sym s.seconds) (sym s.whole) (sym s.in_no_zone) in
    elim s.is_day_text [
      | inl e ↦
          let t = spelled-two text time s w m e in
          let day = plain-two w.a w.b w.c m.a m.b m.c (48 + c.day / 10) (48 + c.day % 10) c refl refl (day-small c.year c.month c.day s.is_civil.day) in (
            ap numeric_of t ∙ plain-no_number w.a w.b w.c m.a m.b m.c (48 + c.day / 10) (48 + c.day % 10) c w.letter,
            ap named_of t ∙ plain-read w.a w.b w.c m.a m.b m.c (48 + c.day / 10) (48 + c.day % 10) c s.weekday (c.month - 1) s.is_civil w.place m.place back day ∙ ap Some value,
          )
      | inr p ↦
          let t = spelled-padded text time s w m p.1 in
          let day = plain-padded w.a w.b w.c m.a m.b m.c 32 (48 + c.day) c refl refl p.0 in (
            ap numeric_of t ∙ plain-no_number w.a w.b w.c m.a m.b m.c 32 (48 + c.day) c w.letter,
            ap named_of t ∙ plain-read w.a w.b w.c m.a m.b m.c 32 (48 + c.day) c s.weekday (c.month - 1) s.is_civil w.place m.place back day ∙ ap Some value,
          )
    ]

-- ---- the exits of the reader

pub numeric-stamp : (text : List ℕ) (t : Time) → numeric_of text ≡ Some t → (y : Time) → IsStamp text y → t ≡ y
numeric-stamp text t e y (inl n) = let o : numeric_of text ≡ Some y = numeric-read text y n in cc
numeric-stamp text t e y (inr n) = let o : numeric_of text ≡ None = (named-read text y n).0 in absurd cc

pub named-stamp : (text : List ℕ) (t : Time) → numeric_of text ≡ None → named_of text ≡ Some t → (y : Time) → IsStamp text y → t ≡ y
named-stamp text t none e y (inl n) = let o : numeric_of text ≡ Some y = numeric-read text y n in absurd cc
named-stamp text t none e y (inr n) = let o : named_of text ≡ Some y = (named-read text y n).1 in cc

pub no-stamp : (text : List ℕ) → numeric_of text ≡ None → named_of text ≡ None → (y : Time) → IsStamp text y → ⊥
no-stamp text none e y (inl n) = let o : numeric_of text ≡ Some y = numeric-read text y n in cc
no-stamp text none e y (inr n) = let o : named_of text ≡ Some y = (named-read text y n).1 in cc

pub named_day-no_month : (text : List ℕ) (w : ℕ) → place_among weekdays (slice_range text 0 3) ≡ Some w → place_among months (slice_range text 4 7) ≡ None → named_day text ≡ None
unfolding named_day
named_day-no_month text w e n = rw (e, n) refl

pub named_day-no_day : (text : List ℕ) (w m : ℕ) → place_among weekdays (slice_range text 0 3) ≡ Some w → place_among months (slice_range text 4 7) ≡ Some m → day_of text ≡ None → named_day text ≡ None
unfolding named_day
named_day-no_day text w m e f n = rw (e, f, n) refl

pub named_day-no_year : (text : List ℕ) (w m d : ℕ) → place_among weekdays (slice_range text 0 3) ≡ Some w → place_among months (slice_range text 4 7) ≡ Some m → day_of text ≡ Some d → four_at text 20 ≡ None
    → named_day text ≡ None
unfolding named_day
named_day-no_year text w m d e f g n = rw (e, f, g, n) refl

pub named_day-other : (text : List ℕ) (w m d y : ℕ) → place_among weekdays (slice_range text 0 3) ≡ Some w → place_among months (slice_range text 4 7) ≡ Some m → day_of text ≡ Some d → four_at text 20 ≡ Some y
    → (stands text 3 32 && stands text 7 32 && stands text 10 32 && stands text 19 32) ≡ false → named_day text ≡ None
unfolding named_day
named_day-other text w m d y ew em ed ey n = rw (ew, em, ed, ey, n) refl

pub named_day-of : (text : List ℕ) (w m d y : ℕ) → place_among weekdays (slice_range text 0 3) ≡ Some w → place_among months (slice_range text 4 7) ≡ Some m → day_of text ≡ Some d → four_at text 20 ≡ Some y
    → stands text 3 32 ≡ true → stands text 7 32 ≡ true → stands text 10 32 ≡ true → stands text 19 32 ≡ true → named_day text ≡ day_number y (m + 1) d
unfolding named_day
named_day-of text w m d y ew em ed ey a b c e =
    let test : (stands text 3 32 && stands text 7 32 && stands text 10 32 && stands text 19 32) ≡ true = and_from _ _ (and_from _ _ (and_from _ _ a b) c) e in
    rw (ew, em, ed, ey, test) refl
