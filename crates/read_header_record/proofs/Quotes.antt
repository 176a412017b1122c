-- Names in quotes, spelling by spelling.
use Rattle.std.proofs.Common.{◌≡◌, ◌≢◌, ℕ, zero, suc, ◌+◌, ◌-◌, ◌*◌, ◌/◌, ◌%◌, ◌<◌, ◌≤◌, Bool, true, false, cond, eqb, List, [], ◌∷◌, ◌++◌, length, map, take, drop, get_or, append_assoc, Option, None, Some, refl, sym, ap, subst, ◌∙◌, arith, length-append}
use Rattle.std.specs.Prelude.{nat_lt, nat_le, sum_by, option_map, option_and_then, slice_index}
use Rattle.std.specs.List.{AllByRecursion, flat_map}
use Rattle.std.proofs.lemmas.Bool.{eqb-true}
use Rattle.std.proofs.Math.Seq.{take-append_seam}
use Rattle.std.proofs.Math.Nat.{div-add-mod, mod-lt}
use Rattle.std.proofs.lemmas.Bool.Decides.{nat_tests}
use Rattle.std.proofs.lemmas.List.{drop_more, drop_all, drop-drop}
use Rattle.std.proofs.lemmas.List.Sums.{sum_by-cons}
use Rattle.read_header_record.specs.declared.quoted.SpelledByte.{SpelledByte}
use Rattle.read_header_record.specs.Quoted.{spelling, spellings, size_of, quoted_length, spelled, letter_byte, octal_byte, is_octal, octal_value, letters, is_plain, spelled_byte, name_of, quoted, IsNameByte}

abbrev sizes : List SpelledByte → ℕ
sizes ss = sum_by (λ s. s.size) ss

-- ---- the bytes that belong to a spelling before them

skip : (k : ℕ) (bs : List ℕ) → spellings k bs ≡ spellings 0 (drop k bs)
unfolding spellings
skip zero bs = refl
skip (suc k) [] = refl
skip (suc k) (b ∷ bs) = skip k bs

none-left : spellings 0 [] ≡ None
unfolding spellings
none-left = refl

quote-here : (bs : List ℕ) → spellings 0 (34 ∷ bs) ≡ Some []
unfolding spellings
quote-here bs = refl

one-more : (b : ℕ) (bs : List ℕ) → eqb b 34 ≡ false → spellings 0 (b ∷ bs) ≡ option_and_then (λ s. option_map (λ ss. s ∷ ss) (spellings (s.size - 1) bs)) (spelling (b ∷ bs))
unfolding spellings
one-more b bs e = rw e refl

-- ---- places

pub ended-at : (bytes : List ℕ) (at : ℕ) → length bytes ≤ at → spellings 0 (drop at bytes) ≡ None
ended-at bytes at le = ap (spellings 0) (drop_all at bytes le) ∙ none-left

pub quote-at : (bytes : List ℕ) (at : ℕ) → at < length bytes → get_or bytes at 0 ≡ 34 → spellings 0 (drop at bytes) ≡ Some []
quote-at bytes at lt is = ap (spellings 0) (drop_more bytes at 0 lt ∙ ap (λ b. b ∷ drop (at + 1) bytes) is) ∙ quote-here (drop (at + 1) bytes)

more-at : (bytes : List ℕ) (at : ℕ) → at < length bytes → get_or bytes at 0 ≢ 34 → spellings 0 (drop at bytes) ≡ option_and_then (λ s. option_map (λ ss. s ∷ ss) (spellings (s.size - 1) (drop (at + 1) bytes))) (spelling (drop at bytes))
more-at bytes at lt other =
    let e : eqb (get_or bytes at 0) 34 ≡ false = grind (arith, nat_tests) in
    let parts : drop at bytes ≡ get_or bytes at 0 ∷ drop (at + 1) bytes = drop_more bytes at 0 lt in
    ap (spellings 0) parts
    ∙ one-more (get_or bytes at 0) (drop (at + 1) bytes) e
    ∙ ap (λ x. option_and_then (λ s. option_map (λ ss. s ∷ ss) (spellings (s.size - 1) (drop (at + 1) bytes))) (spelling x)) (sym parts)

pub none-at : (bytes : List ℕ) (at : ℕ) → at < length bytes → get_or bytes at 0 ≢ 34 → spelling (drop at bytes) ≡ None → spellings 0 (drop at bytes) ≡ None
none-at bytes at lt other e = more-at bytes at lt other ∙ ap (option_and_then (λ s. option_map (λ ss. s ∷ ss) (spellings (s.size - 1) (drop (at + 1) bytes)))) e

pub one-at : (bytes : List ℕ) (at : ℕ) (s : SpelledByte) → at < length bytes → get_or bytes at 0 ≢ 34 → spelling (drop at bytes) ≡ Some s → 0 < s.size → spellings 0 (drop at bytes) ≡ option_map (λ ss. s ∷ ss) (spellings 0 (drop (at + s.size) bytes))
one-at bytes at s lt other e some =
    let on : (at + 1) + (s.size - 1) ≡ at + s.size = omega (arith, some) in
    more-at bytes at lt other
    ∙ ap (option_and_then (λ s. option_map (λ ss. s ∷ ss) (spellings (s.size - 1) (drop (at + 1) bytes)))) e
    ∙ ap (option_map (λ ss. s ∷ ss)) (skip (s.size - 1) (drop (at + 1) bytes) ∙ ap (spellings 0) (drop-drop (s.size - 1) (at + 1) bytes ∙ ap (λ k. drop k bytes) on))

-- ---- the loops

pub size-on : (at : ℕ) (s : SpelledByte) (o : Option (List SpelledByte)) → option_map (λ ss. at + 1 + sizes ss) (option_map (λ ss. s ∷ ss) o) ≡ option_map (λ ss. at + s.size + 1 + sizes ss) o
size-on at s None = refl
size-on at s (Some ss) = let all : sizes (s ∷ ss) ≡ s.size + sizes ss = sum_by-cons (λ (x : SpelledByte). x.size) s ss in let one : at + 1 + sizes (s ∷ ss) ≡ at + s.size + 1 + sizes ss = omega (arith, all) in ap (λ (n : ℕ). Some n) one

abbrev pub name_behind : List ℕ → ℕ → ℕ → List SpelledByte → Option (List ℕ)
name_behind name at len ss = cond (eqb (at + 1 + sizes ss) len) (Some (name ++ map (λ s. s.byte) ss)) None

pub name-on : (name : List ℕ) (at len : ℕ) (s : SpelledByte) (o : Option (List SpelledByte)) → option_and_then (name_behind name at len) (option_map (λ ss. s ∷ ss) o) ≡ option_and_then (name_behind (name ++ s.byte ∷ []) (at + s.size) len) o
name-on name at len s None = refl
name-on name at len s (Some ss) =
    let sum : sizes (s ∷ ss) ≡ s.size + sizes ss = sum_by-cons (λ (x : SpelledByte). x.size) s ss in
    let one : at + 1 + sizes (s ∷ ss) ≡ at + s.size + 1 + sizes ss = omega (arith, sum) in
    let all : name ++ s.byte ∷ map (λ s. s.byte) ss ≡ (name ++ s.byte ∷ []) ++ map (λ s. s.byte) ss = sym (append_assoc name (s.byte ∷ []) (map (λ s. s.byte) ss)) in
    ap (λ n. cond (eqb n len) (Some (name ++ s.byte ∷ map (λ s. s.byte) ss)) None) one
    ∙ ap (λ (l : List ℕ). cond (eqb (at + s.size + 1 + sizes ss) len) (Some l) None) all

-- ---- whatever follows

-- a spelling is told by its own bytes
record Same (n : ℕ) (xs ys : List ℕ) : Type 0 where
  zeroth : slice_index ys 0 ≡ slice_index xs 0
  first : 2 ≤ n → slice_index ys 1 ≡ slice_index xs 1
  second : 4 ≤ n → slice_index ys 2 ≡ slice_index xs 2
  third : 4 ≤ n → slice_index ys 3 ≡ slice_index xs 3

some-size : (b n : ℕ) (s : SpelledByte) → Some (record { byte = b; size = n }) ≡ Some s → s.size ≡ n
some-size b n s e = cc

map-size : (n : ℕ) (o : Option ℕ) (s : SpelledByte) → option_map (λ b. record { byte = b; size = n }) o ≡ Some s → s.size ≡ n
map-size n None s e = absurd cc
map-size n (Some b) s e = some-size b n s e

spelled-again : (xs ys : List ℕ) (s : SpelledByte) → spelling xs ≡ Some s → Same s.size xs ys → spelling ys ≡ Some s
unfolding spelling
spelled-again xs ys s e same = by (eqb (slice_index xs 0) 92) refl
  where
    letter : (o : Option ℕ) → letter_byte (slice_index xs 1) ≡ o → eqb (slice_index xs 0) 92 ≡ true → spelling ys ≡ Some s
    letter (Some l) is back =
        let told : option_map (λ b. record { byte = b; size = 2 }) (letter_byte (slice_index xs 1)) ≡ Some s = sym (rw (back, is) refl) ∙ e in
        let two : s.size ≡ 2 = map-size 2 (letter_byte (slice_index xs 1)) s told in
        let whole : Some (record { byte = l; size = 2 }) ≡ Some s = sym (rw (back, is) refl) ∙ e in
        rw (same.zeroth, back, same.first (omega (arith, two)), is) whole
    letter None is back =
        let told : option_map (λ b. record { byte = b; size = 4 }) (octal_byte (slice_index xs 1) (slice_index xs 2) (slice_index xs 3)) ≡ Some s = sym (rw (back, is) refl) ∙ e in
        let four : s.size ≡ 4 = map-size 4 (octal_byte (slice_index xs 1) (slice_index xs 2) (slice_index xs 3)) s told in
        rw (same.zeroth, same.first (omega (arith, four)), same.second (omega (arith, four)), same.third (omega (arith, four))) e

    by : (v : Bool) → eqb (slice_index xs 0) 92 ≡ v → spelling ys ≡ Some s
    by true back = letter (letter_byte (slice_index xs 1)) refl back
    by false back =
        let whole : Some (record { byte = slice_index xs 0; size = 1 }) ≡ Some s = sym (rw back refl) ∙ e in
        rw (same.zeroth, back) whole

size-some : (xs : List ℕ) (s : SpelledByte) → spelling xs ≡ Some s → 0 < s.size
unfolding spelling
size-some xs s e = by (eqb (slice_index xs 0) 92) refl
  where
    letter : (o : Option ℕ) → letter_byte (slice_index xs 1) ≡ o → eqb (slice_index xs 0) 92 ≡ true → 0 < s.size
    letter (Some l) is back =
        let two : s.size ≡ 2 = map-size 2 (letter_byte (slice_index xs 1)) s (sym (rw (back, is) refl) ∙ e) in omega (arith, two)
    letter None is back =
        let four : s.size ≡ 4 = map-size 4 (octal_byte (slice_index xs 1) (slice_index xs 2) (slice_index xs 3)) s (sym (rw (back, is) refl) ∙ e) in omega (arith, four)

    by : (v : Bool) → eqb (slice_index xs 0) 92 ≡ v → 0 < s.size
    by true back = letter (letter_byte (slice_index xs 1)) refl back
    by false back = let one : s.size ≡ 1 = some-size (slice_index xs 0) 1 s (sym (rw back refl) ∙ e) in omega (arith, one)

same-front : (f x y : List ℕ) (i : ℕ) → i < length f → slice_index (f ++ x) i ≡ slice_index (f ++ y) i
same-front [] x y i lt = absurd (omega arith)
same-front (b ∷ f) x y zero lt = refl
same-front (b ∷ f) x y (suc i) lt = same-front f x y i (omega arith)

-- the spellings are those of the bytes up to the quote that ends them
record Ends (k : ℕ) (bs : List ℕ) (ss : List SpelledByte) : Type 0 where
  front : List ℕ
  behind : List ℕ
  parts : bs ≡ front ++ 34 ∷ behind
  size : length front ≡ k + sizes ss
  again : (rest : List ℕ) → spellings k (front ++ 34 ∷ rest) ≡ Some ss

same-spellings : (xs ys : List SpelledByte) → Some xs ≡ Some ys → xs ≡ ys
same-spellings xs ys e = cc

ends-so : (k : ℕ) (bs : List ℕ) (ss : List SpelledByte) → spellings k bs ≡ Some ss → Ends k bs ss
unfolding spellings
ends-so zero [] ss e = absurd cc
ends-so (suc k) [] ss e = absurd cc
ends-so (suc k) (b ∷ bs) ss e =
    let m = ends-so k bs ss e in
    record { front = b ∷ m.front; behind = m.behind; parts = ap (λ (l : List ℕ). b ∷ l) m.parts; size = ap suc m.size ∙ omega arith; again = m.again }
ends-so zero (b ∷ bs) ss e = by (λ k more rest. ends-so k bs more rest) (eqb b 34) refl
  where
    joined : ((k : ℕ) (more : List SpelledByte) → spellings k bs ≡ Some more → Ends k bs more) → (s : SpelledByte) → eqb b 34 ≡ false → spelling (b ∷ bs) ≡ Some s → (o : Option (List SpelledByte)) → spellings (s.size - 1) bs ≡ o → option_map (λ x. s ∷ x) o ≡ Some ss → Ends zero (b ∷ bs) ss
    joined further s other is None rest told = absurd cc
    joined further s other is (Some more) rest told =
        let m = further (s.size - 1) more rest in
        let some : 0 < s.size = size-some (b ∷ bs) s is in
        let long : length m.front ≡ (s.size - 1) + sizes more = m.size in
        let own : spelling (b ∷ (m.front ++ 34 ∷ m.behind)) ≡ Some s = ap (λ (l : List ℕ). spelling (b ∷ l)) (sym m.parts) ∙ is in
        let all : ss ≡ s ∷ more = sym (same-spellings (s ∷ more) ss told) in
        let sum : sizes (s ∷ more) ≡ s.size + sizes more = sum_by-cons (λ (x : SpelledByte). x.size) s more in
        record {
          front = b ∷ m.front;
          behind = m.behind;
          parts = ap (λ (l : List ℕ). b ∷ l) m.parts;
          size = omega (arith, long, some, ap sizes all, sum);
          again = λ rest.
              let same : Same s.size (b ∷ (m.front ++ 34 ∷ m.behind)) (b ∷ (m.front ++ 34 ∷ rest)) = record {
                zeroth = refl;
                first = λ n. same-front m.front (34 ∷ rest) (34 ∷ m.behind) 0 (omega (arith, n, long));
                second = λ n. same-front m.front (34 ∷ rest) (34 ∷ m.behind) 1 (omega (arith, n, long));
                third = λ n. same-front m.front (34 ∷ rest) (34 ∷ m.behind) 2 (omega (arith, n, long));
              } in
              one-more b (m.front ++ 34 ∷ rest) other
              ∙ ap (option_and_then (λ x. option_map (λ xs. x ∷ xs) (spellings (x.size - 1) (m.front ++ 34 ∷ rest)))) (spelled-again (b ∷ (m.front ++ 34 ∷ m.behind)) (b ∷ (m.front ++ 34 ∷ rest)) s own same)
              ∙ ap (option_map (λ xs. s ∷ xs)) (m.again rest)
              ∙ ap (λ (l : List SpelledByte). Some l) (sym all);
        }

    spelled-so : ((k : ℕ) (more : List SpelledByte) → spellings k bs ≡ Some more → Ends k bs more) → (o : Option SpelledByte) → spelling (b ∷ bs) ≡ o → eqb b 34 ≡ false → option_and_then (λ s. option_map (λ xs. s ∷ xs) (spellings (s.size - 1) bs)) o ≡ Some ss → Ends zero (b ∷ bs) ss
    spelled-so further None is other told = absurd cc
    spelled-so further (Some s) is other told = joined further s other is (spellings (s.size - 1) bs) refl told

    by : ((k : ℕ) (more : List SpelledByte) → spellings k bs ≡ Some more → Ends k bs more) → (v : Bool) → eqb b 34 ≡ v → Ends zero (b ∷ bs) ss
    by further true is =
        let quote : b ≡ 34 = eqb-true b 34 is in
        let none : ss ≡ [] = sym (same-spellings [] ss (sym (rw is refl) ∙ e)) in
        record { front = []; behind = bs; parts = ap (λ (n : ℕ). n ∷ bs) quote; size = omega (arith, ap sizes none); again = λ rest. quote-here rest ∙ ap (λ (l : List SpelledByte). Some l) (sym none) }
    by further false is = spelled-so further (spelling (b ∷ bs)) refl is (ap (option_and_then (λ s. option_map (λ xs. s ∷ xs) (spellings (s.size - 1) bs))) refl ∙ sym (one-more b bs is) ∙ e)

pub ends-again : (bytes rest : List ℕ) (n : ℕ) → quoted_length bytes ≡ Some n → quoted_length (take n bytes ++ rest) ≡ Some n
ends-again [] rest n e = absurd cc
ends-again (b ∷ bs) rest n e = by (eqb b 34) refl
  where
    sized : (ss : List SpelledByte) → spellings 0 bs ≡ Some ss → size_of ss ≡ n → b ≡ 34 → quoted_length (take n (b ∷ bs) ++ rest) ≡ Some n
    sized ss is size quote =
        let m = ends-so 0 bs ss is in
        let long : n ≡ suc (suc (length m.front)) = omega (arith, size, m.size) in
        let last : length (m.front ++ 34 ∷ []) ≡ length m.front + 1 = length-append m.front (34 ∷ []) in
        let both : suc (length m.front) ≡ length (m.front ++ 34 ∷ []) = omega (arith, last) in
        let front : take (suc (length m.front)) bs ≡ m.front ++ 34 ∷ [] =
        ap (take (suc (length m.front))) (m.parts ∙ sym (append_assoc m.front (34 ∷ []) m.behind))
        ∙ ap (λ k. take k ((m.front ++ 34 ∷ []) ++ m.behind)) both
        ∙ take-append_seam (m.front ++ 34 ∷ []) m.behind in
        let whole : take n (b ∷ bs) ++ rest ≡ 34 ∷ (m.front ++ 34 ∷ rest) =
        ap (λ k. take k (b ∷ bs) ++ rest) long ∙ ap (λ (x : ℕ). (x ∷ take (suc (length m.front)) bs) ++ rest) quote ∙ ap (λ (l : List ℕ). 34 ∷ (l ++ rest)) front ∙ ap (λ (l : List ℕ). 34 ∷ l) (append_assoc m.front (34 ∷ []) rest) in
        ap quoted_length whole ∙ ap (option_map size_of) (m.again rest) ∙ ap (λ (k : ℕ). Some k) size

    some-same : (x y : ℕ) → Some x ≡ Some y → x ≡ y
    some-same x y h = cc

    spelled-so : (o : Option (List SpelledByte)) → spellings 0 bs ≡ o → option_map size_of o ≡ Some n → b ≡ 34 → quoted_length (take n (b ∷ bs) ++ rest) ≡ Some n
    spelled-so None is told quote = absurd cc
    spelled-so (Some ss) is told quote = sized ss is (some-same (size_of ss) n told) quote

    by : (v : Bool) → eqb b 34 ≡ v → quoted_length (take n (b ∷ bs) ++ rest) ≡ Some n
    by true is = spelled-so (spellings 0 bs) refl (sym (rw is refl) ∙ e) (eqb-true b 34 is)
    by false is = let bad : None ≡ Some n = sym (rw is refl) ∙ e in absurd cc

-- both quotes are there, and all of it lies within the bytes
pub quoted-fits : (bytes : List ℕ) (n : ℕ) → quoted_length bytes ≡ Some n → (2 ≤ n) × (n ≤ length bytes)
quoted-fits [] n e = absurd cc
quoted-fits (b ∷ bs) n e = by (eqb b 34) refl
  where
    some-same : (x y : ℕ) → Some x ≡ Some y → x ≡ y
    some-same x y h = cc

    spelled-so : (o : Option (List SpelledByte)) → spellings 0 bs ≡ o → option_map size_of o ≡ Some n → (2 ≤ n) × (n ≤ length (b ∷ bs))
    spelled-so None is told = absurd cc
    spelled-so (Some ss) is told =
        let m = ends-so 0 bs ss is in
        let size : size_of ss ≡ n = some-same (size_of ss) n told in
        let long : length bs ≡ length m.front + suc (length m.behind) = ap length m.parts ∙ length-append m.front (34 ∷ m.behind) in
        (omega (arith, size), omega (arith, size, long, m.size))

    by : (v : Bool) → eqb b 34 ≡ v → (2 ≤ n) × (n ≤ length (b ∷ bs))
    by true is = spelled-so (spellings 0 bs) refl (sym (rw is refl) ∙ e)
    by false is = let bad : None ≡ Some n = sym (rw is refl) ∙ e in absurd cc

-- ---- as git writes them

abbrev whole : ℕ → SpelledByte
whole b = record { byte = b; size = length (spelled_byte b) }

abbrev Spells : List ℕ → SpelledByte → List ℕ → Type 0
Spells bytes s rest = spellings 0 (bytes ++ rest) ≡ option_map (λ ss. s ∷ ss) (spellings 0 rest)

plain-spells : (b : ℕ) (rest : List ℕ) → eqb b 34 ≡ false → eqb b 92 ≡ false → Spells (b ∷ []) (record { byte = b; size = 1 }) rest
unfolding spellings spelling
plain-spells b rest e f = rw (e, f) refl

digits-spell : (x y z b : ℕ) (rest : List ℕ) → letter_byte x ≡ None → octal_byte x y z ≡ Some b → Spells (92 ∷ x ∷ y ∷ z ∷ []) (record { byte = b; size = 4 }) rest
unfolding spellings spelling
digits-spell x y z b rest e f = rw (e, f) refl

abbrev Lettered : ℕ → List ℕ → Type 0
Lettered b rest = Spells (92 ∷ letters b) (record { byte = b; size = suc (length (letters b)) }) rest

pick : (b k : ℕ) (rest : List ℕ) → Lettered k rest → (eqb b k ≡ false → Lettered b rest) → Lettered b rest
pick b k rest here other = by (eqb b k) refl
  where
    by : (v : Bool) → eqb b k ≡ v → Lettered b rest
    by true e = subst (λ n. Lettered n rest) (sym (eqb-true b k e)) here
    by false e = other e

no-letter : (x : ℕ) → 48 ≤ x → x ≤ 55 → letter_byte x ≡ None
no-letter x low high =
    let a : eqb x 97 ≡ false = grind (arith, nat_tests) in
    let b : eqb x 98 ≡ false = grind (arith, nat_tests) in
    let t : eqb x 116 ≡ false = grind (arith, nat_tests) in
    let n : eqb x 110 ≡ false = grind (arith, nat_tests) in
    let v : eqb x 118 ≡ false = grind (arith, nat_tests) in
    let f : eqb x 102 ≡ false = grind (arith, nat_tests) in
    let r : eqb x 114 ≡ false = grind (arith, nat_tests) in
    let quote : eqb x 34 ≡ false = grind (arith, nat_tests) in
    let back : eqb x 92 ≡ false = grind (arith, nat_tests) in
    rw (a, b, t, n, v, f, r, quote, back) refl

octal : (d : ℕ) → d < 8 → is_octal (48 + d) ≡ true
octal d lt = let low : nat_le 48 (48 + d) ≡ true = grind (arith, nat_tests) in let high : nat_le (48 + d) 55 ≡ true = grind (arith, nat_tests) in rw (low, high) refl

three : (x y z b : ℕ) → x < 8 → y < 8 → z < 8 → x * 64 + y * 8 + z ≡ b → IsNameByte b → octal_byte (48 + x) (48 + y) (48 + z) ≡ Some b
three x y z b p q r e is =
    let value : octal_value (48 + x) (48 + y) (48 + z) ≡ b = omega (arith, e) in
    let some : nat_lt 0 b ≡ true = grind (arith, nat_tests, is.0) in
    let small : nat_lt b 256 ≡ true = grind (arith, nat_tests, is.1) in
    rw (octal x p, octal y q, octal z r, value, some, small) refl

letters-spell : (b : ℕ) (rest : List ℕ) → IsNameByte b → Lettered b rest
unfolding spellings spelling
letters-spell b rest is =
    pick b 7 rest refl (λ e7. pick b 8 rest refl (λ e8. pick b 9 rest refl (λ e9. pick b 10 rest refl (λ e10. pick b 11 rest refl (λ e11. pick b 12 rest refl (λ e12. pick b 13 rest refl (λ e13.
    pick b 34 rest refl (λ e34. pick b 92 rest refl (λ e92.
    let x : ℕ = b / 8 / 8 in
    let y : ℕ = b / 8 % 8 in
    let z : ℕ = b % 8 in
    let high : 8 * (b / 8 / 8) + b / 8 % 8 ≡ b / 8 = div-add-mod (b / 8) 8 in
    let low : 8 * (b / 8) + b % 8 ≡ b = div-add-mod b 8 in
    let p : b / 8 / 8 < 8 = omega (arith, high, low, is.1) in
    let q : b / 8 % 8 < 8 = mod-lt (b / 8) (omega arith) in
    let r : b % 8 < 8 = mod-lt b (omega arith) in
    let value : (b / 8 / 8) * 64 + (b / 8 % 8) * 8 + b % 8 ≡ b = omega (arith, high, low) in
    rw (e7, e8, e9, e10, e11, e12, e13, e34, e92) (digits-spell (48 + b / 8 / 8) (48 + b / 8 % 8) (48 + b % 8) b rest (no-letter (48 + b / 8 / 8) (omega arith) (omega (arith, p))) (three (b / 8 / 8) (b / 8 % 8) (b % 8) b p q r value is)))))))))))

byte-spells : (b : ℕ) (rest : List ℕ) → IsNameByte b → Spells (spelled_byte b) (whole b) rest
byte-spells b rest is = by (is_plain b) refl
  where
    by : (v : Bool) → is_plain b ≡ v → Spells (spelled_byte b) (whole b) rest
    by true e = let quote : eqb b 34 ≡ false = grind (arith, nat_tests) in let back : eqb b 92 ≡ false = grind (arith, nat_tests) in rw e (plain-spells b rest quote back)
    by false e = rw e (letters-spell b rest is)

pub name-spells : (name rest : List ℕ) → AllByRecursion IsNameByte name → spellings 0 (flat_map spelled_byte name ++ 34 ∷ rest) ≡ Some (map whole name)
name-spells [] rest all = quote-here rest
name-spells (b ∷ name) rest all =
    ap (spellings 0) (append_assoc (spelled_byte b) (flat_map spelled_byte name) (34 ∷ rest))
    ∙ byte-spells b (flat_map spelled_byte name ++ 34 ∷ rest) all.0
    ∙ ap (option_map (λ ss. whole b ∷ ss)) (name-spells name rest all.1)

bytes-back : (name : List ℕ) → map (λ s. s.byte) (map whole name) ≡ name
bytes-back [] = refl
bytes-back (b ∷ name) = ap (λ (l : List ℕ). b ∷ l) (bytes-back name)

sizes-are : (name : List ℕ) → sizes (map whole name) ≡ length (flat_map spelled_byte name)
sizes-are [] = refl
sizes-are (b ∷ name) =
    let again : sizes (map whole name) ≡ length (flat_map spelled_byte name) = sizes-are name in
    let one : sizes (map whole (b ∷ name)) ≡ length (spelled_byte b) + sizes (map whole name) = sum_by-cons (λ (x : SpelledByte). x.size) (whole b) (map whole name) in
    let both : length (flat_map spelled_byte (b ∷ name)) ≡ length (spelled_byte b) + length (flat_map spelled_byte name) = length-append (spelled_byte b) (flat_map spelled_byte name) in
    omega (arith, again, one, both)

pub read-back : (name : List ℕ) → AllByRecursion IsNameByte name → name_of (quoted name) ≡ Some name
unfolding quoted
read-back name all =
    let long : length (flat_map spelled_byte name ++ 34 ∷ []) ≡ length (flat_map spelled_byte name) + 1 = length-append (flat_map spelled_byte name) (34 ∷ []) in
    let size : eqb (size_of (map whole name)) (length (34 ∷ (flat_map spelled_byte name ++ 34 ∷ []))) ≡ true = grind (arith, nat_tests, sizes-are name, long) in
    ap (option_and_then (spelled (length (34 ∷ (flat_map spelled_byte name ++ 34 ∷ []))))) (name-spells name [] all)
    ∙ rw size (ap (λ (l : List ℕ). Some l) (bytes-back name))
