-- The definitions in words.
use Rattle.std.proofs.Common.{◌≡◌, ◌⊎◌, inl, inr, ◌↔◌, ℕ, ◌+◌, ◌-◌, Bool, true, false, cond, not, ◌&&◌, ◌||◌, eqb, ltb, List, [], ◌∷◌, ◌++◌, length, take, drop, Option, None, Some, refl, sym, ap, ◌∙◌, arith, length-append}
use Rattle.std.specs.Prelude.{is_some, unwrap_or, codes, nat_eq, bytes_eq}
use Rattle.std.specs.List.{list_any, position, position_or_len, ends_with}
use Rattle.std.proofs.lemmas.Bool.Decides.{Decides-eqb}
use Rattle.std.proofs.lemmas.Slice.Eq.{bytes_eq-Decides, ends_is}
use Rattle.std.proofs.lemmas.List.{reverse-append, drop-append-le, take-append-le, take_all, drop_all}
use Rattle.read_header_record.specs.Quoted.{begins_quoted, quoted_length}
use Rattle.hunk_core.specs.LineTests.{after, ends_line}
use Rattle.hunk_core.proofs.TextLemmas.{prefix-words, has_some, ends-behind}
use Rattle.patch_header.specs.Content.{content, is_binary, is_dot}
use Rattle.patch_header.specs.Region.{Row, tail_of, first_some, last_tail}
use Rattle.patch_header.specs.Values.{is_blank, is_white, first, blanks, unblanked, bare_length, word_length, name_length, index_length}
use Rattle.patch_header.proofs.Stands.{and_left, and_right, or_cases}

-- ---- lines

pub feed-words : (front : List ℕ) → content (front ++ 10 ∷ []) ≡ front
feed-words front =
    let ends : ends_line (front ++ 10 ∷ []) ≡ true = ends-behind front in
    let most : length (front ++ 10 ∷ []) - 1 ≡ length front = omega (arith, length-append front (10 ∷ [])) in
    rw (ends, most) (take-append-le (length front) front (10 ∷ []) (omega arith) ∙ take_all (length front) front (omega arith))

pub no_feed-words : (line : List ℕ) → ends_line line ≡ false → content line ≡ line
no_feed-words line e = rw e refl

or_left : (v w : Bool) → v ≡ true → (v || w) ≡ true
or_left v w e = rw e refl

or_right : (v w : Bool) → w ≡ true → (v || w) ≡ true
or_right true w e = refl
or_right false w e = e

both : (v w : Bool) → v ≡ true → w ≡ true → (v && w) ≡ true
both v w e f = rw (e, f) refl

abbrev IsBinary : List ℕ → Type 0
IsBinary c = (c ≡ codes "GIT binary patch") ⊎ (((rest : List ℕ) × (c ≡ codes "Binary files " ++ rest)) × ((front : List ℕ) × (c ≡ front ++ codes " differ")))

same-bytes : (xs ys : List ℕ) → bytes_eq xs ys ≡ true ↔ xs ≡ ys
same-bytes xs ys = bytes_eq-Decides xs ys

ends-words : (c needle : List ℕ) → ends_with nat_eq c needle ≡ true ↔ ((front : List ℕ) × (c ≡ front ++ needle))
ends-words c needle =
    let h = ends_is Decides-eqb c needle (ends_with nat_eq c needle) refl in
    (λ e. (take (length c - length needle) c, h.0 e), λ k. h.1 k.0 k.1)

pub begins-words : (prefix c : List ℕ) → is_some (after prefix c) ≡ true ↔ ((rest : List ℕ) × (c ≡ prefix ++ rest))
begins-words prefix c = (
  λ e. let s = has_some (after prefix c) e in (s.0, (prefix-words prefix c s.0).0 s.1),
  λ k. rw ((prefix-words prefix c k.0).1 k.1) refl,
)

pub binary-words : (line : List ℕ) → is_binary line ≡ true ↔ IsBinary (content line)
binary-words line = (
  λ e. elim (or_cases (bytes_eq c git) (begins && ends) e) [
    | inl h ↦ inl ((same-bytes c git).0 h)
    | inr h ↦ inr ((begins-words (codes "Binary files ") c).0 (and_left begins ends h), (ends-words c (codes " differ")).0 (and_right begins ends h))
  ],
  λ k. elim k [
    | inl h ↦ or_left (bytes_eq c git) (begins && ends) ((same-bytes c git).1 h)
    | inr h ↦ or_right (bytes_eq c git) (begins && ends) (both begins ends ((begins-words (codes "Binary files ") c).1 h.0) ((ends-words c (codes " differ")).1 h.1))
  ],
)
  where
    c : List ℕ
    c = content line

    git : List ℕ
    git = codes "GIT binary patch"

    begins : Bool
    begins = is_some (after (codes "Binary files ") (content line))

    ends : Bool
    ends = ends_with nat_eq (content line) (codes " differ")

pub dot-words : (line : List ℕ) → is_dot line ≡ true ↔ content line ≡ codes "."
dot-words line = same-bytes (content line) (codes ".")

-- ---- the last line of a kind

pub last-none : (mark : List ℕ) → last_tail mark [] ≡ None
last-none mark = refl

last-push : (mark : List ℕ) (rs : List Row) (r : Row) → last_tail mark (rs ++ r ∷ []) ≡ cond (is_some (tail_of mark r)) (tail_of mark r) (last_tail mark rs)
last-push mark rs r = ap (first_some (tail_of mark)) (reverse-append rs (r ∷ []))

pub last-words : (mark rest : List ℕ) (rs : List Row) (r : Row) → content r.line ≡ mark ++ rest → last_tail mark (rs ++ r ∷ []) ≡ Some (record { number = r.number; start = r.start + length mark; end = r.start + length (mark ++ rest) })
last-words mark rest rs r e =
    let there : after mark (content r.line) ≡ Some rest = (prefix-words mark (content r.line) rest).1 e in
    last-push mark rs r ∙ rw (there, e) refl

pub other-words : (mark : List ℕ) (rs : List Row) (r : Row) → ((rest : List ℕ) → ¬ (content r.line ≡ mark ++ rest)) → last_tail mark (rs ++ r ∷ []) ≡ last_tail mark rs
other-words mark rs r none = last-push mark rs r ∙ by (after mark (content r.line)) refl
  where
    by : (o : Option (List ℕ)) → after mark (content r.line) ≡ o → cond (is_some (tail_of mark r)) (tail_of mark r) (last_tail mark rs) ≡ last_tail mark rs
    by None e = rw e refl
    by (Some rest) e = absurd (none rest ((prefix-words mark (content r.line) rest).0 e))

-- ---- the first byte that passes

none_left : (v w : Bool) → (v || w) ≡ false → v ≡ false
none_left true w h = absurd cc
none_left false w h = refl

none_right : (v w : Bool) → (v || w) ≡ false → w ≡ false
none_right true w h = absurd cc
none_right false w h = h

len-at : (p : ℕ → Bool) (xs : List ℕ) (y : ℕ) (ys : List ℕ) → list_any p xs ≡ false → p y ≡ true → position_or_len p (xs ++ y ∷ ys) ≡ length xs
len-at p [] y ys h k = rw k refl
len-at p (x ∷ xs) y ys h k =
    let more : position_or_len p (xs ++ y ∷ ys) ≡ length xs = len-at p xs y ys (none_right (p x) _ h) k in
    rw (none_left (p x) _ h, more) (omega arith)

len-none : (p : ℕ → Bool) (xs : List ℕ) → list_any p xs ≡ false → position_or_len p xs ≡ length xs
len-none p [] h = refl
len-none p (x ∷ xs) h =
    let more : position_or_len p xs ≡ length xs = len-none p xs (none_right (p x) _ h) in
    rw (none_left (p x) _ h, more) (omega arith)

position-at : (p : ℕ → Bool) (xs : List ℕ) (y : ℕ) (ys : List ℕ) → list_any p xs ≡ false → p y ≡ true → position p (xs ++ y ∷ ys) ≡ Some (length xs)
position-at p xs y ys h k =
    let there : position_or_len p (xs ++ y ∷ ys) ≡ length xs = len-at p xs y ys h k in
    let longer : length (xs ++ y ∷ ys) ≡ length xs + length (y ∷ ys) = length-append xs (y ∷ ys) in
    let inside : ltb (length xs) (length (xs ++ y ∷ ys)) ≡ true = grind arith in
    rw (there, inside) refl

position-none : (p : ℕ → Bool) (xs : List ℕ) → list_any p xs ≡ false → position p xs ≡ None
position-none p xs h =
    let all : position_or_len p xs ≡ length xs = len-none p xs h in
    let end : ltb (length xs) (length xs) ≡ false = grind arith in
    rw (all, end) refl

first-at : (p : ℕ → Bool) (xs : List ℕ) (y : ℕ) (ys : List ℕ) → list_any p xs ≡ false → p y ≡ true → first p (xs ++ y ∷ ys) ≡ length xs
first-at p xs y ys h k = ap (λ o. unwrap_or o (length (xs ++ y ∷ ys))) (position-at p xs y ys h k)

first-none : (p : ℕ → Bool) (xs : List ℕ) → list_any p xs ≡ false → first p xs ≡ length xs
first-none p xs h = ap (λ o. unwrap_or o (length xs)) (position-none p xs h)

pub blanks-words : (front rest : List ℕ) (b : ℕ) → list_any (λ x. not (is_blank x)) front ≡ false → is_blank b ≡ false → unblanked (front ++ b ∷ rest) ≡ b ∷ rest
blanks-words front rest b h k =
    let n : blanks (front ++ b ∷ rest) ≡ length front = first-at (λ x. not (is_blank x)) front b rest h (ap not k) in
    ap (λ m. drop m (front ++ b ∷ rest)) n ∙ drop-append-le (length front) front (b ∷ rest) (omega arith) ∙ ap (λ r. r ++ b ∷ rest) (drop_all (length front) front (omega arith))

pub all_blanks-words : (front : List ℕ) → list_any (λ x. not (is_blank x)) front ≡ false → unblanked front ≡ []
all_blanks-words front h = ap (λ m. drop m front) (first-none (λ x. not (is_blank x)) front h) ∙ drop_all (length front) front (omega arith)

pub quoted-words : (bytes : List ℕ) (n : ℕ) → quoted_length bytes ≡ Some n → (name_length bytes ≡ n) × (index_length bytes ≡ n)
quoted-words [] n e = absurd cc
quoted-words (b ∷ bs) n e = by (eqb b 34) refl
  where
    by : (v : Bool) → eqb b 34 ≡ v → (name_length (b ∷ bs) ≡ n) × (index_length (b ∷ bs) ≡ n)
    by true is = (
      ap (λ v. cond v (unwrap_or (quoted_length (b ∷ bs)) 0) (bare_length (b ∷ bs))) is ∙ ap (λ o. unwrap_or o 0) e,
      ap (λ v. cond v (unwrap_or (quoted_length (b ∷ bs)) 0) (first (λ c. eqb c 9) (b ∷ bs))) is ∙ ap (λ o. unwrap_or o 0) e,
    )
    by false is = let bad : None ≡ Some n = sym (rw is refl) ∙ e in absurd cc

pub bare-words : (bytes : List ℕ) → begins_quoted bytes ≡ false → name_length bytes ≡ bare_length bytes
bare-words bytes e = rw e refl

pub index_tab-words : (name rest : List ℕ) → begins_quoted (name ++ 9 ∷ rest) ≡ false → list_any (λ b. eqb b 9) name ≡ false → index_length (name ++ 9 ∷ rest) ≡ length name
index_tab-words name rest e h = rw e (first-at (λ b. eqb b 9) name 9 rest h refl)

pub index-words : (name : List ℕ) → begins_quoted name ≡ false → list_any (λ b. eqb b 9) name ≡ false → index_length name ≡ length name
index-words name e h = rw e (first-none (λ b. eqb b 9) name h)

pub tab-words : (name rest : List ℕ) → list_any (λ b. eqb b 9) name ≡ false → bare_length (name ++ 9 ∷ rest) ≡ length name
tab-words name rest h = ap (λ o. unwrap_or o (first (λ b. eqb b 32) (name ++ 9 ∷ rest))) (position-at (λ b. eqb b 9) name 9 rest h refl)

pub space-words : (name rest : List ℕ) → list_any (λ b. eqb b 9) (name ++ 32 ∷ rest) ≡ false → list_any (λ b. eqb b 32) name ≡ false → bare_length (name ++ 32 ∷ rest) ≡ length name
space-words name rest h k =
    ap (λ o. unwrap_or o (first (λ b. eqb b 32) (name ++ 32 ∷ rest))) (position-none (λ b. eqb b 9) (name ++ 32 ∷ rest) h)
    ∙ first-at (λ b. eqb b 32) name 32 rest k refl

pub whole-words : (name : List ℕ) → list_any (λ b. eqb b 9) name ≡ false → list_any (λ b. eqb b 32) name ≡ false → bare_length name ≡ length name
whole-words name h k =
    ap (λ o. unwrap_or o (first (λ b. eqb b 32) name)) (position-none (λ b. eqb b 9) name h)
    ∙ first-none (λ b. eqb b 32) name k

pub white-words : (word rest : List ℕ) (b : ℕ) → list_any is_white word ≡ false → is_white b ≡ true → word_length (word ++ b ∷ rest) ≡ length word
white-words word rest b h k = first-at is_white word b rest h k

pub word-words : (word : List ℕ) → list_any is_white word ≡ false → word_length word ≡ length word
word-words word h = first-none is_white word h
