-- The day, the clock, the fraction and the zone of a stamp.
use Rattle.std.proofs.Common.{◌≡◌, ℕ, ◌+◌, ◌-◌, ◌*◌, ◌/◌, ◌%◌, ◌<◌, ◌≤◌, Bool, true, false, cond, eqb, leb, ◌&&◌, ◌||◌, List, [], ◌∷◌, ◌++◌, length, get_or, drop, Option, None, Some, refl, sym, ap, ◌∙◌, arith, inl, inr, length-drop}
use Rattle.std.specs.Prelude.{ℤ, pos, neg_ℤ, IfSome, is_none}
use Rattle.std.proofs.lemmas.List.{get_or-drop, drop-drop}
use Rattle.std.proofs.lemmas.Bool.{and_right, and_parts, and_from, leb-true, le-leb, eqb-true, eq-eqb}
use Rattle.std.proofs.lemmas.Option.{option_and_then_some}
use Rattle.jiff_core.specs.Calendar.{is_leap_year, days_from_civil}
use Rattle.num_text.specs.Numbers.{is_digit, after_digits, AllDigits}
use Rattle.num_text.proofs.NumberLemmas.{rest-step}
use Rattle.stamp.specs.Forms.{two, four, IsDay, IsTime, time_text, Offset, offset_text, offset_seconds, IsOffset, zone_text, zone_seconds, IsFraction}
use Rattle.stamp.specs.Reading.{two_at, four_at, stands, is_day, day_number, clock_of, offset_of, zone_of, after_fraction, numeric_day}
use Rattle.stamp.proofs.OptionLemmas.{if-some, if-other}
use Rattle.stamp.proofs.Digits.{byte-piece, piece, two-piece, two-read, four-piece, four-read}

-- ---- the day

pub day-tests : (year month day : ℕ) → is_day year month day ≡ true → IsDay year month day
day-tests year month day e =
    let a = and_parts _ _ e in
    let b = and_parts _ _ a.0 in
    let c = and_parts _ _ b.0 in
    let d = and_parts _ _ c.0 in
    let f = and_parts _ _ d.0 in
    record {
      years = (leb-true _ _ f.0, leb-true _ _ f.1);
      months = (leb-true _ _ d.1, leb-true _ _ c.1);
      days = (leb-true _ _ b.1, leb-true _ _ a.1);
    }

pub tests-day : (year month day : ℕ) → IsDay year month day → is_day year month day ≡ true
tests-day year month day d =
    and_from _ _ (and_from _ _ (and_from _ _ (and_from _ _ (and_from _ _ (le-leb _ _ d.years.0) (le-leb _ _ d.years.1)) (le-leb _ _ d.months.0)) (le-leb _ _ d.months.1)) (le-leb _ _ d.days.0)) (le-leb _ _ d.days.1)

pub day-some : (year month day : ℕ) (z : ℤ) → day_number year month day ≡ Some z → IsDay year month day × (z ≡ days_from_civil (pos year) month day)
unfolding day_number
day-some year month day z e =
    let found = if-some (is_day year month day) (days_from_civil (pos year) month day) z e in
    (day-tests year month day found.0, sym found.1)

pub day-read : (year month day : ℕ) → IsDay year month day → day_number year month day ≡ Some (days_from_civil (pos year) month day)
unfolding day_number
day-read year month day d = let t : is_day year month day ≡ true = tests-day year month day d in rw t refl

-- ---- the clock

pub record Clock (text : List ℕ) (n : ℕ) : Type 0 where
  pub hour : ℕ
  pub minute : ℕ
  pub second : ℕ
  pub time : IsTime hour minute second
  pub value : hour * 3600 + minute * 60 + second ≡ n
  pub spelled : drop 11 text ≡ time_text hour minute second ++ drop 19 text

clock-by : (text : List ℕ) (n hour minute second : ℕ) → two_at text 11 ≡ Some hour → two_at text 14 ≡ Some minute → two_at text 17 ≡ Some second
    → cond (stands text 13 58 && stands text 16 58 && leb hour 23 && leb minute 59 && leb second 59) (Some (hour * 3600 + minute * 60 + second)) None ≡ Some n → Clock text n
clock-by text n hour minute second h m s e =
    let found = if-some (stands text 13 58 && stands text 16 58 && leb hour 23 && leb minute 59 && leb second 59) (hour * 3600 + minute * 60 + second) n e in
    let a = and_parts _ _ found.0 in
    let b = and_parts _ _ a.0 in
    let c = and_parts _ _ b.0 in
    let d = and_parts _ _ c.0 in
    record {
      hour = hour;
      minute = minute;
      second = second;
      time = record { hours = leb-true _ _ c.1; minutes = leb-true _ _ b.1; seconds = leb-true _ _ a.1 };
      value = found.1;
      spelled = two-piece text 11 hour h ∙ ap (λ r. two hour ++ r) (byte-piece text 13 58 d.0 (omega arith)
          ∙ ap (λ r. 58 ∷ r) (two-piece text 14 minute m ∙ ap (λ r. two minute ++ r) (byte-piece text 16 58 d.1 (omega arith)
          ∙ ap (λ r. 58 ∷ r) (two-piece text 17 second s))));
    }

pub clock-some : (text : List ℕ) (n : ℕ) → clock_of text ≡ Some n → Clock text n
unfolding clock_of
clock-some text n e =
    option_and_then_some _ (two_at text 11) n e (λ hour h more.
    option_and_then_some _ (two_at text 14) n more (λ minute m rest.
    option_and_then_some _ (two_at text 17) n rest (λ second s last. clock-by text n hour minute second h m s last)))

pub clock-long : (text : List ℕ) (n : ℕ) → clock_of text ≡ Some n → 19 ≤ length text
clock-long text n e =
    let c = clock-some text n e in
    omega (arith, ap length c.spelled, length-drop 11 text)

pub clock-read : (text : List ℕ) (hour minute second : ℕ) → IsTime hour minute second
    → get_or text 11 0 ≡ 48 + hour / 10 → get_or text 12 0 ≡ 48 + hour % 10 → get_or text 13 0 ≡ 58
    → get_or text 14 0 ≡ 48 + minute / 10 → get_or text 15 0 ≡ 48 + minute % 10 → get_or text 16 0 ≡ 58
    → get_or text 17 0 ≡ 48 + second / 10 → get_or text 18 0 ≡ 48 + second % 10
    → clock_of text ≡ Some (hour * 3600 + minute * 60 + second)
unfolding clock_of
clock-read text hour minute second t a b c d f g h i =
    let test : (stands text 13 58 && stands text 16 58 && leb hour 23 && leb minute 59 && leb second 59) ≡ true = and_from _ _ (and_from _ _ (and_from _ _ (and_from _ _ (eq-eqb _ _ c) (eq-eqb _ _ g)) (le-leb _ _ t.hours)) (le-leb _ _ t.minutes)) (le-leb _ _ t.seconds) in
    rw (two-read text 11 hour a b (omega (arith, t.hours)), two-read text 14 minute d f (omega (arith, t.minutes)), two-read text 17 second h i (omega (arith, t.seconds)), test) refl

-- ---- `YYYY-MM-DD `

pub record NumericDay (text : List ℕ) (z : ℤ) : Type 0 where
  pub year : ℕ
  pub month : ℕ
  pub day : ℕ
  pub is_day : IsDay year month day
  pub value : z ≡ days_from_civil (pos year) month day
  pub spelled : text ≡ four year ++ (45 ∷ two month) ++ (45 ∷ two day) ++ (32 ∷ drop 11 text)

pub numeric_day-some : (text : List ℕ) (z : ℤ) → numeric_day text ≡ Some z → NumericDay text z
unfolding numeric_day
numeric_day-some text z e =
    option_and_then_some _ (four_at text 0) z e (λ year y more.
    option_and_then_some _ (two_at text 5) z more (λ month m rest.
    option_and_then_some _ (two_at text 8) z rest (λ day d last. by year month day y m d last)))
  where
    by : (year month day : ℕ) → four_at text 0 ≡ Some year → two_at text 5 ≡ Some month → two_at text 8 ≡ Some day
        → cond (stands text 4 45 && stands text 7 45 && stands text 10 32) (day_number year month day) None ≡ Some z → NumericDay text z
    by year month day y m d last =
        let found = if-other (stands text 4 45 && stands text 7 45 && stands text 10 32) (day_number year month day) z last in
        let a = and_parts _ _ found.0 in
        let b = and_parts _ _ a.0 in
        let is = day-some year month day z found.1 in
        record {
          year = year;
          month = month;
          day = day;
          is_day = is.0;
          value = is.1;
          spelled = (four-piece text 0 year y).1 ∙ ap (λ r. four year ++ r) (byte-piece text 4 45 b.0 (omega arith)
              ∙ ap (λ r. 45 ∷ r) (two-piece text 5 month m ∙ ap (λ r. two month ++ r) (byte-piece text 7 45 b.1 (omega arith)
              ∙ ap (λ r. 45 ∷ r) (two-piece text 8 day d ∙ ap (λ r. two day ++ r) (byte-piece text 10 32 a.1 (omega arith))))));
        }

pub numeric_day-of : (text : List ℕ) (year month day : ℕ) → four_at text 0 ≡ Some year → two_at text 5 ≡ Some month → two_at text 8 ≡ Some day
    → stands text 4 45 ≡ true → stands text 7 45 ≡ true → stands text 10 32 ≡ true → numeric_day text ≡ day_number year month day
unfolding numeric_day
numeric_day-of text year month day y m d a b c =
    let test : (stands text 4 45 && stands text 7 45 && stands text 10 32) ≡ true = and_from _ _ (and_from _ _ a b) c in
    rw (y, m, d, test) refl

pub numeric_day-other : (text : List ℕ) (year month day : ℕ) → four_at text 0 ≡ Some year → two_at text 5 ≡ Some month → two_at text 8 ≡ Some day
    → (stands text 4 45 && stands text 7 45 && stands text 10 32) ≡ false → numeric_day text ≡ None
unfolding numeric_day
numeric_day-other text year month day y m d none = rw (y, m, d, none) refl

month-small : (year month day : ℕ) → IsDay year month day → (month < 100) × (year < 10000)
month-small year month day d = (omega (arith, d.months.1), omega (arith, d.years.1))

days-small : (b c : Bool) (m : ℕ) → cond (eqb m 2) (cond b 29 28) (cond c 30 31) ≤ 31
days-small b c m = elim (eqb m 2) as (λ v. cond v (cond b 29 28) (cond c 30 31) ≤ 31) [
  | true ↦ elim b as (λ v. cond v 29 28 ≤ 31) [ true ↦ omega arith | false ↦ omega arith ]
  | false ↦ elim c as (λ v. cond v 30 31 ≤ 31) [ true ↦ omega arith | false ↦ omega arith ]
]

pub day-small : (year month day : ℕ) → IsDay year month day → day < 100
day-small year month day d = omega (arith, d.days.1, days-small (is_leap_year (pos year)) (eqb month 4 || eqb month 6 || eqb month 9 || eqb month 11) month)

pub numeric_day-read : (text : List ℕ) (year month day : ℕ) → IsDay year month day
    → get_or text 0 0 ≡ 48 + year / 100 / 10 → get_or text 1 0 ≡ 48 + year / 100 % 10 → get_or text 2 0 ≡ 48 + year % 100 / 10 → get_or text 3 0 ≡ 48 + year % 100 % 10
    → get_or text 4 0 ≡ 45 → get_or text 5 0 ≡ 48 + month / 10 → get_or text 6 0 ≡ 48 + month % 10
    → get_or text 7 0 ≡ 45 → get_or text 8 0 ≡ 48 + day / 10 → get_or text 9 0 ≡ 48 + day % 10 → get_or text 10 0 ≡ 32
    → numeric_day text ≡ Some (days_from_civil (pos year) month day)
unfolding numeric_day
numeric_day-read text year month day is y1 y2 y3 y4 a m1 m2 b d1 d2 c =
    let small = month-small year month day is in
    let test : (stands text 4 45 && stands text 7 45 && stands text 10 32) ≡ true = and_from _ _ (and_from _ _ (eq-eqb _ _ a) (eq-eqb _ _ b)) (eq-eqb _ _ c) in
    rw (four-read text 0 year y1 y2 y3 y4 small.1, two-read text 5 month m1 m2 small.0, two-read text 8 day d1 d2 (day-small year month day is), test) (day-read year month day is)

-- ---- the zone

pub record Shift (rest : List ℕ) (z : ℤ) : Type 0 where
  pub offset : Offset
  pub is_offset : IsOffset offset
  pub value : offset_seconds offset ≡ z
  pub spelled : rest ≡ 32 ∷ offset_text offset

empty : (xs : List ℕ) → length xs ≡ 0 → xs ≡ []
empty [] e = refl
empty (x ∷ xs) e = absurd (omega arith)

nothing : (rest : List ℕ) → length rest ≡ 6 → drop 6 rest ≡ []
nothing rest e = empty (drop 6 rest) (omega (arith, length-drop 6 rest))

offset-by : (rest : List ℕ) (z : ℤ) (hours minutes : ℕ) → two_at rest 2 ≡ Some hours → two_at rest 4 ≡ Some minutes → length rest ≡ 6 → stands rest 0 32 ≡ true → hours ≤ 23 → minutes ≤ 59
    → (east west : Bool) → stands rest 1 43 ≡ east → stands rest 1 45 ≡ west
    → cond east (Some (pos (hours * 3600 + minutes * 60))) (cond west (Some (neg_ℤ (pos (hours * 3600 + minutes * 60)))) None) ≡ Some z → Shift rest z
offset-by rest z hours minutes h m long space hl ml east west es ws e =
    by east west es ws e
  where
    tail : (sign : ℕ) → stands rest 1 sign ≡ true → 0 < sign → rest ≡ 32 ∷ sign ∷ (two hours ++ two minutes)
    tail sign t some =
        byte-piece rest 0 32 space (omega arith) ∙ ap (λ r. 32 ∷ r) (byte-piece rest 1 sign t some
        ∙ ap (λ r. sign ∷ r) (two-piece rest 2 hours h ∙ ap (λ r. two hours ++ r) (two-piece rest 4 minutes m ∙ ap (λ r. two minutes ++ r) (nothing rest long))))

    by : (east west : Bool) → stands rest 1 43 ≡ east → stands rest 1 45 ≡ west
        → cond east (Some (pos (hours * 3600 + minutes * 60))) (cond west (Some (neg_ℤ (pos (hours * 3600 + minutes * 60)))) None) ≡ Some z → Shift rest z
    by true west es ws e = record { offset = record { is_east = true; hours = hours; minutes = minutes }; is_offset = (hl, ml); value = cc; spelled = tail 43 es (omega arith) }
    by false true es ws e = record { offset = record { is_east = false; hours = hours; minutes = minutes }; is_offset = (hl, ml); value = cc; spelled = tail 45 ws (omega arith) }
    by false false es ws e = absurd cc

offset-some : (rest : List ℕ) (z : ℤ) → offset_of rest ≡ Some z → Shift rest z
unfolding offset_of
offset-some rest z e =
    option_and_then_some _ (two_at rest 2) z e (λ hours h more.
    option_and_then_some _ (two_at rest 4) z more (λ minutes m last.
    let found = if-other (eqb (length rest) 6 && stands rest 0 32 && leb hours 23 && leb minutes 59) _ z last in
    let a = and_parts _ _ found.0 in
    let b = and_parts _ _ a.0 in
    let c = and_parts _ _ b.0 in
    offset-by rest z hours minutes h m (eqb-true _ _ c.0) c.1 (leb-true _ _ b.1) (leb-true _ _ a.1) (stands rest 1 43) (stands rest 1 45) refl refl found.1))

pub offset-east : (rest : List ℕ) (hours minutes : ℕ) → two_at rest 2 ≡ Some hours → two_at rest 4 ≡ Some minutes → length rest ≡ 6 → stands rest 0 32 ≡ true → hours ≤ 23 → minutes ≤ 59
    → get_or rest 1 0 ≡ 43 → offset_of rest ≡ Some (pos (hours * 3600 + minutes * 60))
unfolding offset_of
offset-east rest hours minutes h m long space hl ml is =
    let test : (eqb (length rest) 6 && stands rest 0 32 && leb hours 23 && leb minutes 59) ≡ true = and_from _ _ (and_from _ _ (and_from _ _ (eq-eqb _ _ long) space) (le-leb _ _ hl)) (le-leb _ _ ml) in
    rw (h, m, test, eq-eqb _ _ is) refl

offset-read-by : (east : Bool) (hours minutes : ℕ) → hours ≤ 23 → minutes ≤ 59 → offset_of (32 ∷ offset_text (record { is_east = east; hours = hours; minutes = minutes })) ≡ Some (offset_seconds (record { is_east = east; hours = hours; minutes = minutes }))
unfolding offset_of
offset-read-by true hours minutes h m =
    let rest : List ℕ = 32 ∷ 43 ∷ (two hours ++ two minutes) in
    let test : (eqb (length rest) 6 && stands rest 0 32 && leb hours 23 && leb minutes 59) ≡ true = and_from _ _ (and_from _ _ refl (le-leb _ _ h)) (le-leb _ _ m) in
    rw (two-read rest 2 hours refl refl (omega arith), two-read rest 4 minutes refl refl (omega arith), test) refl
offset-read-by false hours minutes h m =
    let rest : List ℕ = 32 ∷ 45 ∷ (two hours ++ two minutes) in
    let test : (eqb (length rest) 6 && stands rest 0 32 && leb hours 23 && leb minutes 59) ≡ true = and_from _ _ (and_from _ _ refl (le-leb _ _ h)) (le-leb _ _ m) in
    rw (two-read rest 2 hours refl refl (omega arith), two-read rest 4 minutes refl refl (omega arith), test) refl

offset-read : (o : Offset) → IsOffset o → offset_of (32 ∷ offset_text o) ≡ Some (offset_seconds o)
offset-read o h = offset-read-by o.is_east o.hours o.minutes h.0 h.1

-- an offset, or nothing
pub record Zone (rest : List ℕ) (z : ℤ) : Type 0 where
  pub offset : Option Offset
  pub is_offset : IfSome offset IsOffset
  pub value : zone_seconds offset ≡ z
  pub spelled : rest ≡ zone_text offset
  pub none : eqb (length rest) 0 ≡ is_none offset

pub zone-some : (rest : List ℕ) (z : ℤ) → zone_of rest ≡ Some z → Zone rest z
unfolding zone_of
zone-some rest z e = by (eqb (length rest) 0) refl e
  where
    by : (v : Bool) → eqb (length rest) 0 ≡ v → cond v (Some (pos 0)) (offset_of rest) ≡ Some z → Zone rest z
    by true is e = record { offset = None; is_offset = tt; value = cc; spelled = empty rest (eqb-true _ _ is); none = is }
    by false is e =
        let s = offset-some rest z e in
        record { offset = Some s.offset; is_offset = s.is_offset; value = s.value; spelled = s.spelled; none = is }

pub zone-read : (o : Option Offset) → IfSome o IsOffset → zone_of (zone_text o) ≡ Some (zone_seconds o)
unfolding zone_of
zone-read None h = refl
zone-read (Some o) h = offset-read o h

pub zone-none : (o : Option Offset) → eqb (length (zone_text o)) 0 ≡ is_none o
zone-none None = refl
zone-none (Some o) = refl

-- what cannot go on a fraction
pub record Ends (more : List ℕ) : Type 0 where
  pub no_dot : stands more 0 46 ≡ false
  pub no_digit : is_digit (get_or more 0 0) ≡ false

pub zone-ends : (o : Option Offset) → Ends (zone_text o)
zone-ends None = record { no_dot = refl; no_digit = refl }
zone-ends (Some o) = record { no_dot = refl; no_digit = refl }

-- ---- the fraction

digits-front : (bytes : List ℕ) → (digits : List ℕ) × (bytes ≡ digits ++ after_digits bytes) × AllDigits digits
unfolding after_digits
digits-front [] = ([], refl, tt)
digits-front (b ∷ bs) = by (is_digit b) refl (digits-front bs)
  where
    by : (v : Bool) → is_digit b ≡ v → (digits : List ℕ) × (bs ≡ digits ++ after_digits bs) × AllDigits digits → (digits : List ℕ) × (b ∷ bs ≡ digits ++ cond v (after_digits bs) (b ∷ bs)) × AllDigits digits
    by true e more = (b ∷ more.0, ap (λ r. b ∷ r) more.1, (e, more.2))
    by false e more = ([], refl, tt)

pub record Fraction (rest : List ℕ) : Type 0 where
  pub bytes : List ℕ
  pub is_fraction : IsFraction bytes
  pub spelled : rest ≡ bytes ++ after_fraction rest

fraction-by : (rest : List ℕ) → stands rest 0 46 ≡ true → (d : ℕ) → get_or rest 1 0 ≡ d → is_digit d ≡ true → (digits : List ℕ) × (rest ≡ 46 ∷ (digits ++ after_digits (drop 1 rest))) × (0 < length digits) × AllDigits digits
fraction-by rest dot d at is =
    let front = digits-front (drop 2 rest) in
    let low : 48 ≤ d = leb-true _ _ (and_parts _ _ is).0 in
    let one : drop 1 rest ≡ d ∷ drop 2 rest = piece rest 1 d at (omega arith) in
    let after : after_digits (drop 1 rest) ≡ after_digits (drop 2 rest) = ap after_digits one ∙ rest-step d (drop 2 rest) is in
    (d ∷ front.0, byte-piece rest 0 46 dot (omega arith) ∙ ap (λ r. 46 ∷ r) (one ∙ ap (λ r. d ∷ r) (front.1 ∙ ap (λ r. front.0 ++ r) (sym after))), omega arith, (is, front.2))

fraction-cases : (rest : List ℕ) (v : Bool) → (stands rest 0 46 && is_digit (get_or rest 1 0)) ≡ v → (bytes : List ℕ) × IsFraction bytes × (rest ≡ bytes ++ cond v (after_digits (drop 1 rest)) rest)
fraction-cases rest true e =
    let tests = and_parts _ _ e in
    let f = fraction-by rest tests.0 (get_or rest 1 0) refl tests.1 in
    (46 ∷ f.0, inr (f.0, refl, f.2, f.3), f.1)
fraction-cases rest false e = ([], inl refl, refl)

pub fraction-some : (rest : List ℕ) → Fraction rest
unfolding after_fraction
fraction-some rest =
    let f = fraction-cases rest (stands rest 0 46 && is_digit (get_or rest 1 0)) refl in
    record { bytes = f.0; is_fraction = f.1; spelled = f.2 }

after-none : (xs : List ℕ) → is_digit (get_or xs 0 0) ≡ false → after_digits xs ≡ xs
unfolding after_digits
after-none [] e = refl
after-none (x ∷ xs) e = rw e refl

digits-past : (digits more : List ℕ) → AllDigits digits → Ends more → after_digits (digits ++ more) ≡ more
unfolding after_digits
digits-past [] more all ends = after-none more ends.no_digit
digits-past (d ∷ ds) more all ends = let is : is_digit d ≡ true = all.0 in rw is (digits-past ds more all.1 ends)

dot-read : (digits more : List ℕ) → 0 < length digits → AllDigits digits → Ends more → after_fraction (46 ∷ (digits ++ more)) ≡ more
unfolding after_fraction
dot-read [] more some all ends = absurd (omega arith)
dot-read (d ∷ ds) more some all ends = let is : is_digit d ≡ true = all.0 in rw is (digits-past (d ∷ ds) more all ends)

no-fraction : (more : List ℕ) → Ends more → after_fraction more ≡ more
unfolding after_fraction
no-fraction more ends = rw ends.no_dot refl

pub fraction-read : (bytes more : List ℕ) → IsFraction bytes → Ends more → after_fraction (bytes ++ more) ≡ more
fraction-read bytes more (inl e) ends = ap (λ b. after_fraction (b ++ more)) e ∙ no-fraction more ends
fraction-read bytes more (inr (digits, e, some, all)) ends = ap (λ b. after_fraction (b ++ more)) e ∙ dot-read digits more some all ends

after-length : (xs : List ℕ) → length (after_digits xs) ≤ length xs
unfolding after_digits
after-length [] = omega arith
after-length (x ∷ xs) = elim (is_digit x) as (λ v. length (cond v (after_digits xs) (x ∷ xs)) ≤ length (x ∷ xs)) [ true ↦ omega (arith, after-length xs) | false ↦ omega arith ]

after-shorter : (xs : List ℕ) → is_digit (get_or xs 0 0) ≡ true → length (after_digits xs) < length xs
unfolding after_digits
after-shorter [] e = absurd cc
after-shorter (x ∷ xs) e = rw e (omega (arith, after-length xs))

-- the code's place after a fraction
module _ (text : List ℕ) (at end : ℕ) (high : end ≤ length text) (low : at + 1 ≤ end) (rest : drop end text ≡ after_digits (drop (at + 1) text)) where
  second : get_or (drop at text) 1 0 ≡ get_or (drop (at + 1) text) 0 0
  second = get_or-drop at text 1 0 ∙ sym (get_or-drop (at + 1) text 0 0 ∙ ap (λ k. get_or text k 0) (same at))
    where
      same : (k : ℕ) → k + 1 + 0 ≡ k + 1
      same k = omega arith

  longs : length (after_digits (drop (at + 1) text)) ≡ length text - end
  longs = ap length (sym rest) ∙ length-drop end text

  pub fraction-then : stands text at 46 ≡ true → at + 1 < end → drop end text ≡ after_fraction (drop at text)
  unfolding after_fraction
  fraction-then dot more = by (is_digit (get_or (drop at text) 1 0)) refl
    where
      first : stands (drop at text) 0 46 ≡ true
      first = ap (λ b. eqb b 46) (get_or-drop at text 0 0 ∙ ap (λ k. get_or text k 0) (plain at)) ∙ dot
        where
          plain : (k : ℕ) → k + 0 ≡ k
          plain k = omega arith

      by : (v : Bool) → is_digit (get_or (drop at text) 1 0) ≡ v → drop end text ≡ cond (stands (drop at text) 0 46 && is_digit (get_or (drop at text) 1 0)) (after_digits (drop 1 (drop at text))) (drop at text)
      by true e = rw (first, e) (rest ∙ ap after_digits (sym (drop-drop 1 at text)))
      by false e = absurd (omega (arith, longs, ap length (after-none (drop (at + 1) text) (ap is_digit (sym second) ∙ e)), length-drop (at + 1) text))

  pub fraction-else : end ≤ at + 1 → drop at text ≡ after_fraction (drop at text)
  unfolding after_fraction
  fraction-else less = by (is_digit (get_or (drop at text) 1 0)) refl
    where
      by : (v : Bool) → is_digit (get_or (drop at text) 1 0) ≡ v → drop at text ≡ cond (stands (drop at text) 0 46 && is_digit (get_or (drop at text) 1 0)) (after_digits (drop 1 (drop at text))) (drop at text)
      by false e = let none : (stands (drop at text) 0 46 && is_digit (get_or (drop at text) 1 0)) ≡ false = and_right _ _ e in rw none refl
      by true e = absurd (omega (arith, longs, after-shorter (drop (at + 1) text) (ap is_digit (sym second) ∙ e), length-drop (at + 1) text))

-- where no dot stands there is no fraction
pub fraction-plain : (text : List ℕ) (at : ℕ) → stands text at 46 ≡ false → drop at text ≡ after_fraction (drop at text)
unfolding after_fraction
fraction-plain text at none = rw first refl
  where
    plain : (k : ℕ) → k + 0 ≡ k
    plain k = omega arith

    first : stands (drop at text) 0 46 ≡ false
    first = ap (λ b. eqb b 46) (get_or-drop at text 0 0 ∙ ap (λ k. get_or text k 0) (plain at)) ∙ none

-- a byte that stands in a text is within it
pub stands-within : (text : List ℕ) (at byte : ℕ) → stands text at byte ≡ true → 0 < byte → at + 1 ≤ length text
stands-within text at byte is some = omega (arith, ap length (byte-piece text at byte is some), length-drop at text)
