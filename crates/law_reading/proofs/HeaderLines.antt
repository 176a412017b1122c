-- What a header says is what its lines say.
use Rattle.std.proofs.Common.{◌≡◌, ◌+◌, ◌-◌, ◌<◌, ◌≤◌, ℕ, Bool, true, false, cond, not, eqb, List, [], ◌∷◌, ◌++◌, length, reverse, take, drop, slice_range, Option, None, Some, refl, sym, ap, subst, ◌∙◌, arith}
use Rattle.std.specs.Prelude.{codes, is_some, option_map, unwrap_or}
use Rattle.std.specs.List.{AllByRecursion, position}
use Rattle.std.proofs.Math.Seq.{drop-append_seam, take-length}
use Rattle.std.proofs.lemmas.List.{length-append, length-drop, length-take, take_min, take-take, reverse-append}
use Rattle.std.proofs.lemmas.List.Quantifiers.{position-Some}
use Rattle.hunk_core.specs.declared.Form.{Form}
use Rattle.hunk_core.specs.declared.Form.TheVariants.{Unified, Context, Normal, Ed}
use Rattle.hunk_core.specs.LineTests.{after, ends_line}
use Rattle.hunk_core.proofs.TextLemmas.{after-takes}
use Rattle.patch_header.specs.Content.{content}
use Rattle.patch_header.specs.GitHeaders.{action_of}
use Rattle.patch_header.specs.GitRows as git
use Rattle.patch_header.specs.Region.{Row, tail_of, first_some, last_tail, later, seen_in, old_tail, new_tail}
use Rattle.patch_header.specs.Values.{is_blank, is_white, first, blanks, unblanked, bare_length, length_or, name_length, index_length, word_length, span_at, bytes_of, name_in, index_in, word_in, stamp_in}
use Rattle.read_header_record.specs.Quoted.{quoted_length}
use Rattle.read_header_record.proofs.Quotes.{quoted-fits}
use Rattle.read_header_record.specs.declared.Action.{Action}
use Rattle.read_header_record.specs.declared.Action.TheVariants.{Plain, New, Deleted, Rename, Copy}
use Rattle.patch_header.specs.declared.region.Tail.{Tail}
use Rattle.patch_header.proofs.Rows.{content_short}
use Rattle.read_file_patch.specs.PlainPatch.{bytes_in}
use Rattle.law_reading.specs.Said.{behind, last_behind, bytes_before, index_named, name_said, word_said, stamp_said, whole_said, old_line, new_line, from_by, to_by, old_mode_behind, new_mode_behind, old_mode_said, new_mode_said}
use Rattle.law_reading.proofs.Places.{StandsAt, take-inside}

-- ---- the bytes behind a beginning

content-front : (line : List ℕ) → take (length (content line)) line ≡ content line
content-front line = by (ends_line line)
  where
    by : (v : Bool) → take (length (cond v (take (length line - 1) line) line)) line ≡ cond v (take (length line - 1) line) line
    by true = ap (λ n. take n line) (length-take (length line - 1) line) ∙ take_min (length line - 1) line
    by false = take-length line

-- of a row that stands at its place
pub tail-bytes : (text mark : List ℕ) (r : Row) → StandsAt text r → option_map (bytes_of text) (tail_of mark r) ≡ behind mark r.line
tail-bytes text mark r s = by (after mark (content r.line)) refl
  where
    some : (rest : List ℕ) → after mark (content r.line) ≡ Some rest → slice_range text (r.start + length mark) (r.start + length (content r.line)) ≡ rest
    some rest e =
        let is : content r.line ≡ mark ++ rest = after-takes mark (content r.line) rest e in
        let short : length (content r.line) ≤ length r.line = content_short r.line in
        let size : length (content r.line) ≡ length mark + length rest = ap length is ∙ length-append mark rest in
        let width : (r.start + length (content r.line)) - (r.start + length mark) ≡ length rest = omega (arith, size) in
        let front : take (length (content r.line)) (drop r.start text) ≡ content r.line =
        sym (take-take (length (content r.line)) (length r.line) (drop r.start text) short) ∙ ap (take (length (content r.line))) s.bytes ∙ content-front r.line in
        ap (λ n. take n (drop (r.start + length mark) text)) width
        ∙ take-inside text (content r.line) r.start (length (content r.line)) (length mark) (length rest) front (omega (arith, size))
        ∙ ap (λ bs. take (length rest) (drop (length mark) bs)) is
        ∙ ap (take (length rest)) (drop-append_seam mark rest)
        ∙ take-length rest

    by : (o : Option (List ℕ)) → after mark (content r.line) ≡ o → option_map (bytes_of text) (tail_of mark r) ≡ after mark (content r.line)
    by None e = rw e refl
    by (Some rest) e = rw e (ap Some (some rest e))

-- ---- the last of each kind

-- what is made of a tail is what is made of some bytes
module _ {X : Type 0} (f : Option Tail → X) (g : Option (List ℕ) → X) where
  -- and both are there, or neither is
  pub record AreAlike (t : Option Tail) (o : Option (List ℕ)) : Type 0 where
    pub there : is_some t ≡ is_some o
    pub made : f t ≡ g o

  later-made : (s t : Option Tail) (o p : Option (List ℕ)) → AreAlike t p → f s ≡ g o → f (later s t) ≡ g (later o p)
  later-made s None o None new last = last
  later-made s (Some t) o (Some bytes) new last = new.made
  later-made s None o (Some bytes) new last = absurd (let bad : false ≡ true = new.there in cc)
  later-made s (Some t) o None new last = absurd (let bad : true ≡ false = new.there in cc)

  later-alike : (s t : Option Tail) (o p : Option (List ℕ)) → AreAlike s o → AreAlike t p → AreAlike (later s t) (later o p)
  later-alike s t o p last new = record { there = by s t o p last.there new.there; made = later-made s t o p new last.made }
    where
      by : (s t : Option Tail) (o p : Option (List ℕ)) → is_some s ≡ is_some o → is_some t ≡ is_some p → is_some (later s t) ≡ is_some (later o p)
      by s None o None e k = e
      by s (Some t) o (Some bytes) e k = refl
      by s None o (Some bytes) e k = absurd cc
      by s (Some t) o None e k = absurd cc

-- what is made of the last row of a kind is what is made of its line
module _ {X : Type 0} (text : List ℕ) (tail : Row → Option Tail) (bytes : List ℕ → Option (List ℕ)) (f : Option Tail → X) (g : Option (List ℕ) → X) (none : f None ≡ g None) (each : (r : Row) → StandsAt text r → AreAlike f g (tail r) (bytes r.line)) where
  first-alike : (rs : List Row) → AllByRecursion (StandsAt text) rs → f (first_some tail rs) ≡ g (first_some bytes (git.lines_of rs))
  first-alike [] h = none
  first-alike (r ∷ rs) h = later-made f g (first_some tail rs) (tail r) (first_some bytes (git.lines_of rs)) (bytes r.line) (each r h.0) (first-alike rs h.1)

pub all-push : {A : Type 0} (P : A → Type 0) (xs : List A) (x : A) → AllByRecursion P xs → P x → AllByRecursion P (xs ++ x ∷ [])
all-push P [] x h p = (p, tt)
all-push P (y ∷ xs) x h p = (h.0, all-push P xs x h.1 p)

pub all-reverse : {A : Type 0} (P : A → Type 0) (xs : List A) → AllByRecursion P xs → AllByRecursion P (reverse xs)
all-reverse P [] h = tt
all-reverse P (x ∷ xs) h = subst (AllByRecursion P) (sym (reverse-append (x ∷ []) xs)) (all-push P (reverse xs) x (all-reverse P xs h.1) h.0)

pub lines-push : (rs : List Row) (r : Row) → git.lines_of (rs ++ r ∷ []) ≡ git.lines_of rs ++ r.line ∷ []
lines-push [] r = refl
lines-push (x ∷ rs) r = ap (λ ls. x.line ∷ ls) (lines-push rs r)

pub lines-reverse : (rs : List Row) → git.lines_of (reverse rs) ≡ reverse (git.lines_of rs)
lines-reverse [] = refl
lines-reverse (r ∷ rs) =
    ap git.lines_of (reverse-append (r ∷ []) rs)
    ∙ lines-push (reverse rs) r
    ∙ ap (λ ls. ls ++ r.line ∷ []) (lines-reverse rs)
    ∙ sym (reverse-append (r.line ∷ []) (git.lines_of rs))

last-made : {X : Type 0} (text : List ℕ) (tail : Row → Option Tail) (bytes : List ℕ → Option (List ℕ)) (f : Option Tail → X) (g : Option (List ℕ) → X) → f None ≡ g None → ((r : Row) → StandsAt text r → AreAlike f g (tail r) (bytes r.line))
    → (rs : List Row) → AllByRecursion (StandsAt text) rs → f (first_some tail (reverse rs)) ≡ g (first_some bytes (reverse (git.lines_of rs)))
last-made text tail bytes f g none each rs h =
    first-alike text tail bytes f g none each (reverse rs) (all-reverse (StandsAt text) rs h)
    ∙ ap (λ ls. g (first_some bytes ls)) (lines-reverse rs)

pub tail-there : (mark : List ℕ) (r : Row) → is_some (tail_of mark r) ≡ is_some (behind mark r.line)
tail-there mark r = by (after mark (content r.line)) refl
  where
    by : (o : Option (List ℕ)) → after mark (content r.line) ≡ o → is_some (tail_of mark r) ≡ is_some (behind mark r.line)
    by None e = rw e refl
    by (Some rest) e = rw e refl

pub last-alike : {X : Type 0} (text mark : List ℕ) (f : Option Tail → X) (g : Option (List ℕ) → X) → f None ≡ g None → ((r : Row) → StandsAt text r → f (tail_of mark r) ≡ g (behind mark r.line))
    → (rs : List Row) → AllByRecursion (StandsAt text) rs → f (last_tail mark rs) ≡ g (last_behind mark (git.lines_of rs))
last-alike text mark f g none each = last-made text (tail_of mark) (behind mark) f g none (λ r s. record { there = tail-there mark r; made = each r s })

-- ---- names

pub span-bytes : (text bytes : List ℕ) (at most k n : ℕ) → take most (drop at text) ≡ bytes → k + n ≤ most → bytes_in text (span_at (at + k) n) ≡ bytes_before n (drop k bytes)
span-bytes text bytes at most k n e le = by (eqb n 0)
  where
    width : ((at + k) + n) - (at + k) ≡ n
    width = omega arith

    by : (v : Bool) → bytes_in text (cond v None (Some (record { start = at + k; end = (at + k) + n }))) ≡ cond v None (Some (take n (drop k bytes)))
    by true = refl
    by false = ap Some (ap (λ m. take m (drop (at + k) text)) width ∙ take-inside text bytes at most k n e le)

pub first-short : (test : ℕ → Bool) (bytes : List ℕ) → first test bytes ≤ length bytes
first-short test bytes = by (position test bytes) refl
  where
    by : (o : Option ℕ) → position test bytes ≡ o → unwrap_or o (length bytes) ≤ length bytes
    by None e = omega arith
    by (Some k) e = let low : k < length bytes = (position-Some test bytes k 0 e).0 in omega (arith, low)

bare-short : (bytes : List ℕ) → bare_length bytes ≤ length bytes
bare-short bytes = by (position (λ b. eqb b 9) bytes) refl
  where
    by : (o : Option ℕ) → position (λ b. eqb b 9) bytes ≡ o → unwrap_or o (first (λ b. eqb b 32) bytes) ≤ length bytes
    by None e = first-short (λ b. eqb b 32) bytes
    by (Some k) e = let low : k < length bytes = (position-Some (λ b. eqb b 9) bytes k 0 e).0 in omega (arith, low)

pub quoted-short : (bare : ℕ) (bytes : List ℕ) → bare ≤ length bytes → length_or bare bytes ≤ length bytes
quoted-short bare [] le = le
quoted-short bare (b ∷ bs) le = by (eqb b 34)
  where
    sized : (o : Option ℕ) → quoted_length (b ∷ bs) ≡ o → unwrap_or o 0 ≤ length (b ∷ bs)
    sized None is = omega arith
    sized (Some n) is = (quoted-fits (b ∷ bs) n is).1

    by : (v : Bool) → cond v (unwrap_or (quoted_length (b ∷ bs)) 0) bare ≤ length (b ∷ bs)
    by true = sized (quoted_length (b ∷ bs)) refl
    by false = le

pub name-short : (bytes : List ℕ) → name_length bytes ≤ length bytes
name-short bytes = quoted-short (bare_length bytes) bytes (bare-short bytes)

pub index-short : (bytes : List ℕ) → index_length bytes ≤ length bytes
index-short bytes = quoted-short (first (λ b. eqb b 9) bytes) bytes (first-short (λ b. eqb b 9) bytes)

-- so many bytes behind the blanks of a tail
behind-blanks : (text : List ℕ) (t : Tail) (size : List ℕ → ℕ) → ((bytes : List ℕ) → size bytes ≤ length bytes)
    → bytes_in text (span_at (t.start + blanks (bytes_of text t)) (size (unblanked (bytes_of text t)))) ≡ bytes_before (size (unblanked (bytes_of text t))) (unblanked (bytes_of text t))
behind-blanks text t size short =
    let bytes = bytes_of text t in
    let k = blanks bytes in
    let low : k ≤ length bytes = first-short (λ b. not (is_blank b)) bytes in
    let n : size (unblanked bytes) ≤ length (unblanked bytes) = short (unblanked bytes) in
    span-bytes text bytes t.start (t.end - t.start) k (size (unblanked bytes)) refl
    (omega (arith, low, n, length-drop k bytes, length-take (t.end - t.start) (drop t.start text)))

name-bytes : (text : List ℕ) (o : Option Tail) → bytes_in text (name_in text o) ≡ name_said (option_map (bytes_of text) o)
name-bytes text None = refl
name-bytes text (Some t) = behind-blanks text t name_length name-short

pub index-bytes : (text : List ℕ) (o : Option Tail) → bytes_in text (index_in text o) ≡ index_named (option_map (bytes_of text) o)
index-bytes text None = refl
index-bytes text (Some t) = behind-blanks text t index_length index-short

word-bytes : (text : List ℕ) (o : Option Tail) → bytes_in text (word_in text o) ≡ word_said (option_map (bytes_of text) o)
word-bytes text None = refl
word-bytes text (Some t) = behind-blanks text t word_length (λ bytes. first-short is_white bytes)

stamp-bytes : (text : List ℕ) (o : Option Tail) → stamp_in text o ≡ stamp_said (option_map (bytes_of text) o)
stamp-bytes text None = refl
stamp-bytes text (Some t) = refl

-- ---- the last of each kind, as what it says

module _ (text : List ℕ) (rs : List Row) (all : AllByRecursion (StandsAt text) rs) where
  pub name-said : (mark : List ℕ) → bytes_in text (name_in text (last_tail mark rs)) ≡ name_said (last_behind mark (git.lines_of rs))
  name-said mark = last-alike text mark (λ o. bytes_in text (name_in text o)) name_said refl (λ r s. name-bytes text (tail_of mark r) ∙ ap name_said (tail-bytes text mark r s)) rs all

  pub index-said : bytes_in text (index_in text (last_tail (codes "Index:") rs)) ≡ index_named (last_behind (codes "Index:") (git.lines_of rs))
  index-said = last-alike text (codes "Index:") (λ o. bytes_in text (index_in text o)) index_named refl (λ r s. index-bytes text (tail_of (codes "Index:") r) ∙ ap index_named (tail-bytes text (codes "Index:") r s)) rs all

  pub word-said : (mark : List ℕ) → bytes_in text (word_in text (last_tail mark rs)) ≡ word_said (last_behind mark (git.lines_of rs))
  word-said mark = last-alike text mark (λ o. bytes_in text (word_in text o)) word_said refl (λ r s. word-bytes text (tail_of mark r) ∙ ap word_said (tail-bytes text mark r s)) rs all

  stamp-said : (mark : List ℕ) → stamp_in text (last_tail mark rs) ≡ stamp_said (last_behind mark (git.lines_of rs))
  stamp-said mark = last-alike text mark (stamp_in text) stamp_said refl (λ r s. stamp-bytes text (tail_of mark r) ∙ ap stamp_said (tail-bytes text mark r s)) rs all

  pub old-name : (form : Form) → bytes_in text (name_in text (old_tail form (seen_in rs))) ≡ name_said (old_line form (git.lines_of rs))
  old-name Unified = name-said (codes "--- ")
  old-name Context = name-said (codes "*** ")
  old-name Normal = refl
  old-name Ed = refl

  pub new-name : (form : Form) → bytes_in text (name_in text (new_tail form (seen_in rs))) ≡ name_said (new_line form (git.lines_of rs))
  new-name Unified = name-said (codes "+++ ")
  new-name Context = name-said (codes "--- ")
  new-name Normal = refl
  new-name Ed = refl

  pub old-stamp : (form : Form) → stamp_in text (old_tail form (seen_in rs)) ≡ stamp_said (old_line form (git.lines_of rs))
  old-stamp Unified = stamp-said (codes "--- ")
  old-stamp Context = stamp-said (codes "*** ")
  old-stamp Normal = refl
  old-stamp Ed = refl

  pub new-stamp : (form : Form) → stamp_in text (new_tail form (seen_in rs)) ≡ stamp_said (new_line form (git.lines_of rs))
  new-stamp Unified = stamp-said (codes "+++ ")
  new-stamp Context = stamp-said (codes "--- ")
  new-stamp Normal = refl
  new-stamp Ed = refl

-- ---- names of extended lines

-- a name up to the end of a line is all that stands behind its beginning
whole-bytes : (text mark : List ℕ) (r : Row) → StandsAt text r → bytes_in text (git.whole_in (tail_of mark r)) ≡ whole_said (behind mark r.line)
whole-bytes text mark r s = by (after mark (content r.line)) refl
  where
    some : (rest : List ℕ) → after mark (content r.line) ≡ Some rest
        → bytes_in text (span_at (r.start + length mark) ((r.start + length (content r.line)) - (r.start + length mark))) ≡ bytes_before (length rest) rest
    some rest e =
        let is : content r.line ≡ mark ++ rest = after-takes mark (content r.line) rest e in
        let size : length (content r.line) ≡ length mark + length rest = ap length is ∙ length-append mark rest in
        let width : (r.start + length (content r.line)) - (r.start + length mark) ≡ length rest = omega (arith, size) in
        let none : (r.start + length mark) + 0 ≡ r.start + length mark = omega arith in
        let bytes : Some (slice_range text (r.start + length mark) (r.start + length (content r.line))) ≡ Some rest = (rw e at (tail-bytes text mark r s)) in
        let front : take (length rest) (drop (r.start + length mark) text) ≡ rest = ap (λ n. take n (drop (r.start + length mark) text)) (sym width) ∙ some-same _ _ bytes in
        ap (λ n. bytes_in text (span_at (r.start + length mark) n)) width
        ∙ ap (λ k. bytes_in text (span_at k (length rest))) (sym none)
        ∙ span-bytes text rest (r.start + length mark) (length rest) 0 (length rest) front (omega arith)
      where
        some-same : (x y : List ℕ) → Some x ≡ Some y → x ≡ y
        some-same x y e = cc

    by : (o : Option (List ℕ)) → after mark (content r.line) ≡ o → bytes_in text (git.whole_in (tail_of mark r)) ≡ whole_said (after mark (content r.line))
    by None e = rw e refl
    by (Some rest) e = rw e (some rest e)

whole-said : (text mark : List ℕ) (rs : List Row) → AllByRecursion (StandsAt text) rs → bytes_in text (git.whole_in (last_tail mark rs)) ≡ whole_said (last_behind mark (git.lines_of rs))
whole-said text mark rs all = last-alike text mark (λ o. bytes_in text (git.whole_in o)) whole_said refl (λ r s. whole-bytes text mark r s) rs all

from-by : (text : List ℕ) (a : Action) (rs : List Row) → AllByRecursion (StandsAt text) rs → bytes_in text (git.from_by a rs) ≡ from_by a (git.lines_of rs)
from-by text Plain rs all = refl
from-by text New rs all = refl
from-by text Deleted rs all = refl
from-by text Rename rs all = whole-said text (codes "rename from ") rs all
from-by text Copy rs all = whole-said text (codes "copy from ") rs all

to-by : (text : List ℕ) (a : Action) (rs : List Row) → AllByRecursion (StandsAt text) rs → bytes_in text (git.to_by a rs) ≡ to_by a (git.lines_of rs)
to-by text Plain rs all = refl
to-by text New rs all = refl
to-by text Deleted rs all = refl
to-by text Rename rs all = whole-said text (codes "rename to ") rs all
to-by text Copy rs all = whole-said text (codes "copy to ") rs all

pub from-said : (text : List ℕ) (rs : List Row) → AllByRecursion (StandsAt text) rs → bytes_in text (git.from_in rs) ≡ from_by (action_of (git.lines_of rs)) (git.lines_of rs)
from-said text rs all = from-by text (action_of (git.lines_of rs)) rs all

pub to-said : (text : List ℕ) (rs : List Row) → AllByRecursion (StandsAt text) rs → bytes_in text (git.to_in rs) ≡ to_by (action_of (git.lines_of rs)) (git.lines_of rs)
to-said text rs all = to-by text (action_of (git.lines_of rs)) rs all

-- ---- modes

mode-alike : (text last new : List ℕ) (r : Row) → StandsAt text r → AreAlike (λ o. bytes_in text (git.whole_in o)) whole_said (later (tail_of last r) (tail_of new r)) (later (behind last r.line) (behind new r.line))
mode-alike text last new r s =
    later-alike (λ o. bytes_in text (git.whole_in o)) whole_said (tail_of last r) (tail_of new r) (behind last r.line) (behind new r.line)
    (record { there = tail-there last r; made = whole-bytes text last r s })
    (record { there = tail-there new r; made = whole-bytes text new r s })

pub old-mode-said : (text : List ℕ) (rs : List Row) → AllByRecursion (StandsAt text) rs → bytes_in text (git.whole_in (git.old_mode_in rs)) ≡ old_mode_said (git.lines_of rs)
old-mode-said text = last-made text git.old_mode_of old_mode_behind (λ o. bytes_in text (git.whole_in o)) whole_said refl (mode-alike text (codes "old mode ") (codes "deleted file mode "))

pub new-mode-said : (text : List ℕ) (rs : List Row) → AllByRecursion (StandsAt text) rs → bytes_in text (git.whole_in (git.new_mode_in rs)) ≡ new_mode_said (git.lines_of rs)
new-mode-said text = last-made text git.new_mode_of new_mode_behind (λ o. bytes_in text (git.whole_in o)) whole_said refl (mode-alike text (codes "new mode ") (codes "new file mode "))
